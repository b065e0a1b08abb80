use Rattle.codegen.specs.Coding.{Same}
use Rattle.codegen.proofs.FunctionParts.{SoFar}
use Rattle.codegen.proofs.functions.emit.Given as goal

abbrev pub invariant-loop-arguments : goal.invariant-loop-arguments
invariant-loop-arguments l = SoFar l.starts l.text l.tokens l.initial.code l.code × Same l.initial.code l.code
