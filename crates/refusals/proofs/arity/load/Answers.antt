use Rattle.std.proofs.Common.{◌∙◌, List, ℕ, sym, subst}
use Rattle.std.specs.Iterator.{Yields}
use Rattle.refusals.specs.Events.{Evented}
use Rattle.refusals.proofs.Arities.{fill_out, fill_end}
use Rattle.refusals.proofs.arity.load.Goals as goal

pub returns-in_err-new : goal.returns-in_err-new
returns-in_err-new c =
    rw c.from_residual.ensures (fill_out c.loop-event.yielded c.args.start c.loop-event.begun _ _ c.loop-event.invariant.1 c.args.text.now c.loop-event.event-iterator c.next.new.self
    (λ i. (c.type_inv.text i).fits)
    (subst (λ (s : List ℕ). Yields Evented s c.loop-event.yielded c.loop-event.event-iterator) (c.into_iter-event-iterator.ensures.into_iter_gives ∙ c.new-event-items.ensures) c.loop-event.yielded_by)
    c.in-Header.arguments c.in-Header.results c.loop-event.table (rw c.in-Header.is at c.in-Some.ensures.steps) (sym c.new.ensures ∙ c.in_err-new.was))

pub returns : goal.returns
returns c =
    fill_end c.loop-event.yielded c.args.start c.loop-event.begun _ _ c.loop-event.invariant.1 c.args.text.now c.loop-event.event-iterator c.next.new.self
    (λ i. (c.type_inv.text i).fits)
    (subst (λ (s : List ℕ). Yields Evented s c.loop-event.yielded c.loop-event.event-iterator) (c.into_iter-event-iterator.ensures.into_iter_gives ∙ c.new-event-items.ensures) c.loop-event.yielded_by)
    tt c.in-None.ensures.steps
