use Rattle.std.proofs.Common.{refl}
use Rattle.codegen.proofs.CommandParts.{on_store}
use Rattle.codegen.proofs.commands.store.Goals as goal

pub returns-clause-emits : goal.returns-clause-emits
returns-clause-emits c ss k all is =
    on_store ss all _ _ is _ _ c.args.size c.store_op.result _ _ _ c.expression.new.code c.put.new.self c.expression-2.new.code c.put-2.new.self c.put-3.new.self refl c.store_op.ensures
    c.expression.ensures.emits (rw c.store_slot.ensures.is at c.put.ensures.came) c.expression-2.ensures.emits (rw c.load_slot.ensures.is at c.put-2.ensures.came) c.put-3.ensures.came
