use Rattle.std.proofs.Common.{true, false, arith}
use Rattle.std.proofs.lemmas.Grind.{common_steps}
use Rattle.format.specs.Format.{rule, functions_rules}
use Rattle.format.specs.declared.expected.Lists.TheVariants.{Vars, Neither}
use Rattle.format.proofs.Scans.{one_takes, one_halts}
use Rattle.format.proofs.expected.Expected.take_in_program.Goals as goal

pub returns-in-0 : goal.returns-in-0
unfolding rule functions_rules
returns-in-0 c = one_takes (λ x. record x { functions = false }) c.args.self.now Neither 0 true c.args.byte c.requires.ready c.requires.no_blocks c.if-not-self.false (grind (arith, common_steps)) (omega arith) (omega arith)

pub returns-in-48 : goal.returns-in-48
unfolding rule functions_rules
returns-in-48 c = one_takes (λ x. record x { numbers = 2; lists = Vars; blocks = 1 }) c.args.self.now Neither 0 true c.args.byte c.requires.ready c.requires.no_blocks c.if-not-self.false (grind (arith, common_steps)) (omega arith) (omega arith)

pub returns-in_default : goal.returns-in_default
unfolding rule functions_rules
returns-in_default c = one_halts c.args.self.now Neither 0 true c.args.byte c.requires.ready c.requires.no_blocks c.if-not-self.false (grind (arith, common_steps))
