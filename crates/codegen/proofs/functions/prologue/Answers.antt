use Rattle.codegen.proofs.FunctionParts.{prologue_done}
use Rattle.codegen.proofs.functions.prologue.Goals as goal

pub returns-clause-came : goal.returns-clause-came
returns-clause-came c =
    prologue_done c.args.frame c.bytes-down.result _ c.put.new.self c.put-2.new.self c.zero.new.code c.slots.new.code c.bytes-down.ensures.value c.put.ensures.came
    (rw (c.store_slot.ensures.is, c.return_slot.ensures) at c.put-2.ensures.came)
    c.zero.ensures.came c.slots.ensures.came
