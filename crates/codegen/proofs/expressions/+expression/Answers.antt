use Rattle.std.proofs.Common.{rules}
use Rattle.format.proofs.Rests.{rest_and, rest_lex}
use Rattle.codegen.proofs.ExpressionParts.{emits_none, emits_word, emits_var, emits_load, emits_operation, emits_choice, emits_deep, emits_other}
use Rattle.codegen.proofs.expressions.+expression.Goals as goal

pub returns-in_default-clause-emits : goal.returns-in_default-clause-emits
returns-in_default-clause-emits t c = emits_none c.args.tokens.now _ _ _ _ _ c.in_default.ensures.steps.0

pub returns-in-Word-clause-emits : goal.returns-in-Word-clause-emits
returns-in-Word-clause-emits t c = emits_word _ _ c.in-Some.token c.in-Some.ensures.steps _ _ c.in-Word.v _ c.word.new.code c.in-Word.is c.word.ensures.came

pub returns-in-Var-clause-emits : goal.returns-in-Var-clause-emits
returns-in-Var-clause-emits t c = emits_var _ _ c.in-Some.token c.in-Some.ensures.steps _ _ c.in-Var.x _ c.put.new.self c.in-Var.is
    (rw (c.load_slot.ensures.is, c.reduced.ensures) at c.put.ensures.came)

pub returns-then-depth-eq0-clause-emits : goal.returns-then-depth-eq0-clause-emits
returns-then-depth-eq0-clause-emits t c = emits_deep _ _ c.in-Some.token c.in-Some.ensures.steps _ _ _ _ _ c.if-depth-eq0.true c.in_default-token.not-Word c.in_default-token.not-Var

pub returns-in-Load-clause-emits : goal.returns-in-Load-clause-emits
returns-in-Load-clause-emits t c =
    emits_load _ _ c.in-Some.token c.in-Some.ensures.steps _ _ c.in-Load.size c.load_op.result _ _ c.expression.new.code c.put-in-Load.new.self c.in-Load.is c.load_op.ensures
    c.expression.ensures.emits c.put-in-Load.ensures.came

pub returns-in-Operator-clause-emits : goal.returns-in-Operator-clause-emits
returns-in-Operator-clause-emits t c =
    emits_operation _ _ c.in-Some.token c.in-Some.ensures.steps _ _ c.in-Operator.o _ _ _ c.expression-in-Operator.new.code c.put-in-Operator.new.self c.expression-in-Operator-2.new.code
    c.put-in-Operator-2.new.self c.operator.new.code c.in-Operator.is c.expression-in-Operator.ensures.emits (rw c.store_slot.ensures.is at c.put-in-Operator.ensures.came)
    c.expression-in-Operator-2.ensures.emits (rw c.load_slot-in-Operator.ensures.is at c.put-in-Operator-2.ensures.came) c.operator.ensures.came

pub returns-in-Choice-clause-emits : goal.returns-in-Choice-clause-emits
returns-in-Choice-clause-emits t c =
    emits_choice _ _ c.in-Some.token c.in-Some.ensures.steps _ _ _ _ _ c.jump_if_zero-otherwise.result c.jump-end.result _ c.expression-in-Choice.new.code c.jump_if_zero-otherwise.new.self
    c.expression-in-Choice-2.new.code c.jump-end.new.self c.land.new.self c.expression-in-Choice-3.new.code c.land-in-Choice.new.self c.in-Choice.is c.expression-in-Choice.ensures.emits
    c.jump_if_zero-otherwise.ensures.tests c.expression-in-Choice-2.ensures.emits c.jump-end.ensures.opens c.land.ensures c.expression-in-Choice-3.ensures.emits c.land-in-Choice.ensures

pub returns-in_default-token-2-clause-emits : goal.returns-in_default-token-2-clause-emits
returns-in_default-token-2-clause-emits t c =
    emits_other _ _ c.in-Some.token c.in-Some.ensures.steps _ _ _ _ _ c.in_default-token.not-Word c.in_default-token.not-Var c.in_default-token-2.not-Load c.in_default-token-2.not-Operator
    c.in_default-token-2.not-Choice

pub returns-in-Choice-clause-moves : goal.returns-in-Choice-clause-moves
returns-in-Choice-clause-moves t c = (
  rest_and _ _ _ (rest_lex _ c.in-Some.token _ c.in-Some.ensures.steps)
      (rest_and _ _ _ c.expression-in-Choice.ensures.moves.0 (rest_and _ _ _ c.expression-in-Choice-2.ensures.moves.0 c.expression-in-Choice-3.ensures.moves.0)),
  search rules,
)
