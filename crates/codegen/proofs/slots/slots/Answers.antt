use Rattle.std.proofs.Common.{◌∙◌}
use Rattle.codegen.proofs.SlotParts.{one_more, all_slots}
use Rattle.codegen.proofs.slots.slots.Goals as goal

pub loop-k-preserved : goal.loop-k-preserved
loop-k-preserved c = (
  one_more c.args.way c.args.register c.args.slot c.args.count c.loop-k.k c.between.result _ c.loop-k.code c.put.new.self c.loop-k-test.true c.between.ensures.is c.put.ensures.came c.loop-k.invariant.0,
  c.put.ensures.same ∙ c.loop-k.invariant.1,
)

pub returns-clause-came : goal.returns-clause-came
returns-clause-came c = all_slots c.args.way c.args.register c.args.slot c.args.count c.loop-k.k _ c.loop-k.code c.loop-k-test.false c.loop-k.invariant.0
