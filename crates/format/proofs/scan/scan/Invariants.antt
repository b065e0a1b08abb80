use Rattle.std.proofs.Common.{◌*◌, ◌≤◌}
use Rattle.format.specs.Scan.{stack}
use Rattle.format.proofs.Scans.{Runs}
use Rattle.format.proofs.scan.scan.Given as goal

abbrev pub invariant-loop-i : goal.invariant-loop-i
invariant-loop-i l = (l.expected.exprs ≤ 3 * l.i) × (l.expected.blocks ≤ 3 * l.i) × Runs l.text l.i (stack l.expected)
