use Rattle.std.proofs.Common.{refl}
use Rattle.codegen.proofs.CommandParts.{on_call}
use Rattle.codegen.proofs.commands.call.Goals as goal

pub returns-clause-emits : goal.returns-clause-emits
returns-clause-emits c k all is =
    on_call c.args.starts.now all _ _ is _ _ c.args.g c.arguments-count.result _ _ _ c.arguments-count.new.code c.slots.new.code c.jump_to.new.code c.variables.new.code refl
    c.arguments-count.ensures.emits c.slots.ensures.came c.jump_to.ensures.came c.variables.ensures.emits
