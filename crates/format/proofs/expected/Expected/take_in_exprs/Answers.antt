use Rattle.std.proofs.Common.{refl, arith}
use Rattle.std.proofs.lemmas.Grind.{common_steps}
use Rattle.format.specs.Format.{rule, exprs_rules}
use Rattle.format.specs.declared.expected.Lists.TheVariants.{Exprs, Vars}
use Rattle.format.proofs.Scans.{one_takes, one_halts, exprs_leave, exprs_stop}
use Rattle.format.proofs.expected.Expected.take_in_exprs.Goals as goal

pub returns-then-byte-eq-END : goal.returns-then-byte-eq-END
unfolding rule exprs_rules
returns-then-byte-eq-END c = one_takes (λ x. record x { lists = Vars }) c.args.self.now Exprs _ _ c.args.byte c.requires refl refl (grind (arith, common_steps)) (omega arith) (omega arith)

pub returns-in_err-shape : goal.returns-in_err-shape
returns-in_err-shape c = rw c.from_residual.ensures (one_halts c.args.self.now Exprs _ _ c.args.byte c.requires refl refl (exprs_stop c.args.byte _ c.if-byte-eq-END.false c.in_err-shape.ensures))

pub returns : goal.returns
returns c =
    one_takes (λ x. record x { numbers = c.in_ok-shape.shape.numbers; exprs = c.in_ok-shape.shape.exprs }) c.args.self.now Exprs _ _ c.args.byte c.requires refl refl
    (exprs_leave c.args.byte c.in_ok-shape.shape _ c.if-byte-eq-END.false c.in_ok-shape.ensures) (omega (arith, c.in_ok-shape.ensures.1)) (omega arith)
