use Rattle.std.proofs.Common.{◌≡◌, ℕ, ◌∙◌, arith, rules}
use Rattle.format.proofs.Rests.{rest_and, rest_lex, rest_ended}
use Rattle.format.specs.declared.token.Token.TheVariants.{Var}
use Rattle.codegen.proofs.SlotParts.{cut_short, none_left, all_variables, one_variable}
use Rattle.codegen.proofs.slots.variables.Goals as goal

pub returns-in_default-clause-emits : goal.returns-in_default-clause-emits
returns-in_default-clause-emits c =
    let not : (x : ℕ) → c.in_default.field-0 ≡ Var x → ⊥ = search rules in
    all_variables c.args.way c.args.first _ _ c.loop-register.register _ _ c.loop-register.invariant.1 c.in_default.field-0 c.next.new.self (rw c.in_default.is at c.next.ensures.steps) not

pub returns-in_default-2-clause-emits : goal.returns-in_default-2-clause-emits
returns-in_default-2-clause-emits c =
    cut_short c.args.way c.args.first _ _ c.loop-register.register _ _ c.loop-register.invariant.1 c.next.new.self (rw c.in_default.is at c.next.ensures.steps).0

pub loop-register-preserved : goal.loop-register-preserved
loop-register-preserved c = (
  omega arith,
  one_variable c.args.way c.args.first _ _ c.loop-register.register _ _ c.loop-register.invariant.1 c.in-Some-Var.field-0 _ c.in-Some-Var.ensures.steps c.in-Some-Var.x _ c.put.new.self c.in-Some-Var.field-0-is
      (rw c.reduced.ensures at c.between.ensures.is) c.put.ensures.came,
  (rest_and _ _ _ c.loop-register.invariant.2.0 (rest_lex _ c.in-Some-Var.field-0 _ c.in-Some-Var.ensures.steps), c.put.ensures.same ∙ c.loop-register.invariant.2.1),
)

pub returns-clause-emits : goal.returns-clause-emits
returns-clause-emits c =
    none_left c.args.way c.args.first _ c.loop-register.tokens c.loop-register.register _ c.loop-register.code c.loop-register.invariant.1 c.end.result c.end.new.self (omega arith) c.end.ensures

pub returns-clause-moves : goal.returns-clause-moves
returns-clause-moves c = (rest_and _ _ _ c.loop-register.invariant.2.0 (rest_ended _ c.end.result _ c.end.ensures), c.loop-register.invariant.2.1)
