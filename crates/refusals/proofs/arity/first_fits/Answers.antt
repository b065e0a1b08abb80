use Rattle.std.proofs.Common.{rules}
use Rattle.refusals.proofs.Arities.{first_is, no_first}
use Rattle.refusals.proofs.arity.first_fits.Goals as goal
use Rattle.refusals.proofs.arity.first_fits.Goals.{in_default-via-in-Some+in_default, in_default-via-in_default}

pub returns-in_default : goal.returns-in_default
returns-in_default c =
    elim c.in_default.branch [
      | in_default-via-in-Some+in_default w ↦ first_is c.args.text.now _ _ _ (λ i. (c.type_inv.text i).fits) (rw (c.new.ensures, w.in_default.is) at c.next.ensures.steps) (search rules)
      | in_default-via-in_default w ↦ no_first c.args.text.now _ (λ i. (c.type_inv.text i).fits) (rw (c.new.ensures, w.in_default.is) at c.next.ensures.steps).0
    ]

pub returns : goal.returns
returns c = first_is c.args.text.now _ _ _ (λ i. (c.type_inv.text i).fits) (rw (c.new.ensures, c.in-Some-Function.is) at c.next.ensures.steps) (search rules)
