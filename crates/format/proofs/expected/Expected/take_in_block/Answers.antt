use Rattle.std.proofs.Common.{suc, ◌+◌, ◌-◌, refl, arith}
use Rattle.std.proofs.lemmas.Grind.{common_steps}
use Rattle.format.specs.Format.{rule, cmds_rules}
use Rattle.format.specs.declared.expected.Lists.TheVariants.{Exprs, Neither}
use Rattle.format.proofs.Scans.{block_takes, one_halts}
use Rattle.format.proofs.expected.Expected.take_in_block.Goals as goal

pub returns-in-0 : goal.returns-in-0
unfolding rule cmds_rules
returns-in-0 c = block_takes (λ x. record x { blocks = x.blocks - 1 }) c.args.self.now c.args.byte c.requires.ready c.requires.some (grind (arith, common_steps)) (omega arith) (omega arith)

pub returns-in-32 : goal.returns-in-32
unfolding rule cmds_rules
returns-in-32 c = block_takes (λ x. record x { numbers = 1; exprs = 1 }) c.args.self.now c.args.byte c.requires.ready c.requires.some (grind (arith, common_steps)) (omega arith) (omega arith)

pub returns-in-33 : goal.returns-in-33
unfolding rule cmds_rules
returns-in-33 c = block_takes (λ x. record x { numbers = 1; exprs = 2 }) c.args.self.now c.args.byte c.requires.ready c.requires.some (grind (arith, common_steps)) (omega arith) (omega arith)

pub returns-in-34 : goal.returns-in-34
unfolding rule cmds_rules
returns-in-34 c = block_takes (λ x. record x { exprs = 1; blocks = x.blocks + 2 }) c.args.self.now c.args.byte c.requires.ready c.requires.some (grind (arith, common_steps)) (omega arith) (omega arith)

pub returns-in-35 : goal.returns-in-35
unfolding rule cmds_rules
returns-in-35 c = block_takes (λ x. record x { exprs = 1; blocks = x.blocks + 1 }) c.args.self.now c.args.byte c.requires.ready c.requires.some (grind (arith, common_steps)) (omega arith) (omega arith)

pub returns-in-36 : goal.returns-in-36
unfolding rule cmds_rules
returns-in-36 c = block_takes (λ x. record x { numbers = 1; lists = Exprs }) c.args.self.now c.args.byte c.requires.ready c.requires.some (grind (arith, common_steps)) (omega arith) (omega arith)

pub returns-in-37 : goal.returns-in-37
unfolding rule cmds_rules
returns-in-37 c = block_takes (λ x. record x { numbers = 2 }) c.args.self.now c.args.byte c.requires.ready c.requires.some (grind (arith, common_steps)) (omega arith) (omega arith)

pub returns-in_default : goal.returns-in_default
unfolding rule cmds_rules
returns-in_default c = one_halts c.args.self.now Neither (suc (c.args.self.now.blocks - 1)) _ c.args.byte c.requires.ready (omega arith) refl (grind (arith, common_steps))
