use Rattle.std.proofs.Common.{◌≤◌, length}
use Rattle.refusals_vectors.proofs.hexadecimal.repeat_from.Given as goal

abbrev pub invariant-loop : goal.invariant-loop
invariant-loop l = l.end ≤ length l.out.items
