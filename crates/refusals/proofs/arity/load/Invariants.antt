use Rattle.std.proofs.Common.{◌+◌, ◌≤◌, length}
use Rattle.refusals.proofs.Arities.{Filling}
use Rattle.refusals.proofs.arity.load.Given as goal

abbrev pub invariant-loop-event : goal.invariant-loop-event
invariant-loop-event l = (l.begun + length l.event-iterator ≤ length l.text) × Filling l.yielded l.start l.begun l.initial.table l.table
