use Rattle.std.proofs.Common.{◌≤◌}
use Rattle.codegen.specs.Coding.{Moves}
use Rattle.codegen.proofs.SlotParts.{SoFar}
use Rattle.codegen.proofs.slots.variables.Given as goal

abbrev pub invariant-loop-register : goal.invariant-loop-register
invariant-loop-register l = (l.register ≤ 32) × SoFar l.way l.first l.initial.tokens l.tokens l.register l.initial.code l.code × Moves l.initial.tokens l.tokens l.initial.code l.code
