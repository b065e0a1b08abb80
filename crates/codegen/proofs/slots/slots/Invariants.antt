use Rattle.codegen.specs.Coding.{Same}
use Rattle.codegen.proofs.SlotParts.{Coming}
use Rattle.codegen.proofs.slots.slots.Given as goal

abbrev pub invariant-loop-k : goal.invariant-loop-k
invariant-loop-k l = Coming l.way l.register l.slot l.count l.k l.initial.code l.code × Same l.initial.code l.code
