use Rattle.std.proofs.Common.{◌≡◌, [], length, get_or, Some, arith}
use Rattle.std.proofs.lemmas.Grind.{common_steps}
use Rattle.format.specs.Scan.{stack, Goes}
use Rattle.format.proofs.Scans.{at_first, takes_runs, stopped, ends, not_all, carried}
use Rattle.format.proofs.scan.scan.Goals as goal

pub loop-i-init : goal.loop-i-init
loop-i-init c = (omega arith, omega arith, at_first c.args.text.now)

pub returns-in_err-ok_or : goal.returns-in_err-ok_or
returns-in_err-ok_or c =
    stopped c.args.text.now c.loop-i.i _ c.loop-i.expected c.take.result c.take.new.self _ c.from_residual.result c.loop-i-test.true c.take.ensures c.in_err-ok_or.ensures.ok_part (omega arith)
    c.in_err-ok_or.ensures.value c.from_residual.ensures.1 c.loop-i.invariant.2

pub loop-i-preserved : goal.loop-i-preserved
loop-i-preserved c =
    let g : Goes c.loop-i.expected (get_or c.args.text.now c.loop-i.i 0) (Some tt) c.take.new.self = grind (arith, common_steps, c.take.ensures) in
    (omega (arith, g.1), omega (arith, g.2), takes_runs c.args.text.now c.loop-i.i _ _ c.loop-i-test.true g.0 c.loop-i.invariant.2)

pub returns-then-eq : goal.returns-then-eq
returns-then-eq c =
    let e : stack c.loop-i.expected ≡ [] = grind (arith, common_steps, c.if-eq.ensures) in
    ends c.args.text.now c.loop-i.i c.loop-i-test.false (carried c.args.text.now c.loop-i.i _ _ e c.loop-i.invariant.2)

pub returns-else-eq : goal.returns-else-eq
returns-else-eq c =
    let e : length c.args.text.now ≡ c.loop-i.i = omega arith in
    rw e (not_all c.args.text.now c.loop-i.i c.loop-i.expected c.loop-i-test.false (λ q. grind (arith, common_steps, c.if-eq.ensures)) c.loop-i.invariant.2)
