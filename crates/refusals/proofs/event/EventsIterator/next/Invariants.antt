use Rattle.std.proofs.Common.{◌-◌, length}
use Rattle.refusals.proofs.Eventful.{Counts, Coming}
use Rattle.refusals.proofs.event.EventsIterator.next.Given as goal

abbrev pub invariant-scan : goal.invariant-scan
invariant-scan l =
    Counts (length l.initial.self-inside.tokens - length l.self-inside.tokens) l.mode × Coming l.initial.self-inside.tokens l.self-inside.tokens l.mode

abbrev pub decreases-scan : goal.decreases-scan
decreases-scan l = length l.self-inside.tokens
