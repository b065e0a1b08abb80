use Rattle.std.proofs.Common.{◌*◌, ◌≤◌}
use Rattle.codegen.specs.Coding.{Same}
use Rattle.codegen.proofs.FunctionParts.{Laid}
use Rattle.codegen.proofs.functions.lay_out.Given as goal

abbrev pub invariant-loop-start : goal.invariant-loop-start
invariant-loop-start l = (l.stack ≤ 1200 * l.start-index) × Laid l.text l.tokens l.starts l.code.len l.stack l.start-index × Same l.initial.code l.code
