use Rattle.std.proofs.Common.{arith}
use Rattle.std.proofs.lemmas.Grind.{common_steps}
use Rattle.format.specs.Format.{rule, expr_rules}
use Rattle.format.proofs.Scans.{shaped}
use Rattle.format.proofs.expected.Shape.of.Goals as goal

pub returns-in-1 : goal.returns-in-1
unfolding rule expr_rules
returns-in-1 c = shaped c.args.tag 1 0 (grind (arith, common_steps)) (omega arith)

pub returns-in-3 : goal.returns-in-3
unfolding rule expr_rules
returns-in-3 c = shaped c.args.tag 1 1 (grind (arith, common_steps)) (omega arith)

pub returns-in-4 : goal.returns-in-4
unfolding rule expr_rules
returns-in-4 c = shaped c.args.tag 0 3 (grind (arith, common_steps)) (omega arith)

pub returns-in-16-to-30 : goal.returns-in-16-to-30
unfolding rule expr_rules
returns-in-16-to-30 c = shaped c.args.tag 0 2 (grind (arith, common_steps)) (omega arith)
