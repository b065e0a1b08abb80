use Rattle.std.proofs.Common.{◌+◌, ◌*◌}
use Rattle.codegen.specs.Coding.{Moves}
use Rattle.codegen.proofs.CommandParts.{SoFar}
use Rattle.codegen.proofs.commands.+commands.Given as goal

abbrev pub decreases-conditional : goal.decreases-conditional
decreases-conditional l = 3 * l.depth

abbrev pub decreases-repeated : goal.decreases-repeated
decreases-repeated l = 3 * l.depth

abbrev pub decreases-command : goal.decreases-command
decreases-command l = 3 * l.depth + 1

abbrev pub decreases-commands : goal.decreases-commands
decreases-commands l = 3 * l.depth + 2

abbrev pub invariant-commands-loop-token : goal.invariant-commands-loop-token
invariant-commands-loop-token l = SoFar l.starts l.temp l.depth l.initial.tokens l.tokens l.initial.code l.code × Moves l.initial.tokens l.tokens l.initial.code l.code
