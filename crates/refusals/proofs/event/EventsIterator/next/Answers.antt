use Rattle.std.proofs.Common.{arith}
use Rattle.format.proofs.Digits.{lex_shorter}
use Rattle.format.proofs.Rests.{rest_shorter}
use Rattle.refusals.proofs.Eventful.{step_counts, coming_on, coming_out, coming_end}
use Rattle.refusals.proofs.event.EventsIterator.next.Goals as goal

pub scan-preserved : goal.scan-preserved
scan-preserved c =
    let shorter = lex_shorter _ c.in-Some.token _ c.in-Some.ensures.steps in
    let within = rest_shorter _ _ c.scan.invariant.1.0 in (
      step_counts _ _ c.scan.mode c.in-Continue.next c.in-Some.token (omega (arith, shorter, within)) c.scan.invariant.0 c.in-Continue.ensures,
      coming_on _ _ _ c.scan.mode c.in-Some.token c.in-Some.ensures.steps c.scan.invariant.1 c.in-Continue.next c.in-Continue.ensures,
    )

pub returns-in-Break-clause-steps : goal.returns-in-Break-clause-steps
returns-in-Break-clause-steps c = rw (← c.self.view_is) (coming_out _ _ _ c.scan.mode c.in-Some.token c.in-Some.ensures.steps c.scan.invariant.1 c.in-Break.event c.in-Break.ensures)

pub returns-clause-steps : goal.returns-clause-steps
returns-clause-steps c = rw (← c.self.view_is) (coming_end _ _ c.next.new.self c.scan.mode c.in_default.ensures.steps.0 c.scan.invariant.1)
