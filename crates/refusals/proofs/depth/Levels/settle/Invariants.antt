use Rattle.std.proofs.Common.{◌≡◌, length}
use Rattle.std.specs.Prelude.{reverse}
use Rattle.refusals.specs.Depth.{done}
use Rattle.refusals.proofs.depth.Levels.settle.Given as goal

abbrev pub invariant-loop-parts : goal.invariant-loop-parts
invariant-loop-parts l = done (reverse l.self-inside.counts.items) ≡ done l.fn.self

abbrev pub decreases-loop-parts : goal.decreases-loop-parts
decreases-loop-parts l = length l.self-inside.counts.items
