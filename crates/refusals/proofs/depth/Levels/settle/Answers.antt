use Rattle.std.proofs.Common.{arith}
use Rattle.std.proofs.lemmas.Grind.{common_steps}
use Rattle.refusals.proofs.depth.Levels.settle.Goals as goal

pub returns-then-parts-gt1 : goal.returns-then-parts-gt1
returns-then-parts-gt1 c = rw (← c.loop-parts.invariant) (grind (arith, common_steps))
