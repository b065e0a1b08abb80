use Rattle.std.proofs.Common.{refl, arith}
use Rattle.std.proofs.lemmas.Grind.{common_steps}
use Rattle.format.specs.Format.{rule, vars_rules}
use Rattle.format.specs.declared.expected.Lists.TheVariants.{Vars, Neither}
use Rattle.format.proofs.Scans.{one_takes, one_halts}
use Rattle.format.proofs.expected.Expected.take_in_vars.Goals as goal

pub returns-in-0 : goal.returns-in-0
unfolding rule vars_rules
returns-in-0 c = one_takes (λ x. record x { lists = Neither }) c.args.self.now Vars _ _ c.args.byte c.requires refl refl (grind (arith, common_steps)) (omega arith) (omega arith)

pub returns-in-2 : goal.returns-in-2
unfolding rule vars_rules
returns-in-2 c = one_takes (λ x. record x { numbers = 1 }) c.args.self.now Vars _ _ c.args.byte c.requires refl refl (grind (arith, common_steps)) (omega arith) (omega arith)

pub returns-in_default : goal.returns-in_default
unfolding rule vars_rules
returns-in_default c = one_halts c.args.self.now Vars _ _ c.args.byte c.requires refl refl (grind (arith, common_steps))
