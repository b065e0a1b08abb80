use Rattle.std.proofs.Common.{◌∙◌, refl}
use Rattle.format.proofs.Rests.{rest_and, rest_lex}
use Rattle.codegen.proofs.CommandParts.{on_set, on_if, on_while, on_from, on_to, on_if_deep, on_while_deep, on_other, cut_short, all_done, one_more}
use Rattle.codegen.proofs.commands.+commands.Goals as goal

pub conditional-returns-then-depth-eq0-clause-emits : goal.conditional-returns-then-depth-eq0-clause-emits
conditional-returns-then-depth-eq0-clause-emits t c all is = on_if_deep c.args.starts.now all _ _ is _ _ _ _ _ refl c.if-depth-eq0.true

pub conditional-returns-clause-emits : goal.conditional-returns-clause-emits
conditional-returns-clause-emits t c all is =
    on_if c.args.starts.now all _ _ is _ _ _ _ _ c.jump_if_zero-otherwise.result c.jump-end.result _ c.expression.new.code c.jump_if_zero-otherwise.new.self c.commands.new.code c.jump-end.new.self
    c.land.new.self c.commands-2.new.code c.land-2.new.self refl c.expression.ensures.emits c.jump_if_zero-otherwise.ensures.tests c.commands.ensures.emits c.jump-end.ensures.opens c.land.ensures
    c.commands-2.ensures.emits c.land-2.ensures

pub repeated-returns-then-depth-eq0-clause-emits : goal.repeated-returns-then-depth-eq0-clause-emits
repeated-returns-then-depth-eq0-clause-emits t c all is = on_while_deep c.args.starts.now all _ _ is _ _ _ _ _ refl c.if-depth-eq0.true

pub repeated-returns-clause-emits : goal.repeated-returns-clause-emits
repeated-returns-clause-emits t c all is =
    on_while c.args.starts.now all _ _ is _ _ _ _ c.jump_if_zero-end.result c.len-start.result _ c.expression.new.code c.jump_if_zero-end.new.self c.commands.new.code c.jump_back.new.self
    c.land.new.self refl c.len-start.ensures c.expression.ensures.emits c.jump_if_zero-end.ensures.tests c.commands.ensures.emits c.jump_back.ensures.back c.land.ensures

pub command-returns-in-Set-clause-emits : goal.command-returns-in-Set-clause-emits
command-returns-in-Set-clause-emits t c all is =
    on_set c.args.starts.now all _ c.args.token is _ _ c.in-Set.x _ _ c.expression.new.code c.put.new.self c.in-Set.is c.expression.ensures.emits
    (rw (c.store_slot.ensures.is, c.reduced.ensures) at c.put.ensures.came)

pub command-returns-in-Store-clause-emits : goal.command-returns-in-Store-clause-emits
command-returns-in-Store-clause-emits t c = rw c.in-Store.is (c.store.ensures.emits c.args.starts.now c.args.depth)

pub command-returns-in-If-clause-emits : goal.command-returns-in-If-clause-emits
command-returns-in-If-clause-emits t c = rw c.in-If.is c.conditional.ensures.emits

pub command-returns-in-While-clause-emits : goal.command-returns-in-While-clause-emits
command-returns-in-While-clause-emits t c = rw c.in-While.is c.repeated.ensures.emits

pub command-returns-in-Call-clause-emits : goal.command-returns-in-Call-clause-emits
command-returns-in-Call-clause-emits t c = rw c.in-Call.is (c.call.ensures.emits c.args.depth)

pub command-returns-in-From-clause-emits : goal.command-returns-in-From-clause-emits
command-returns-in-From-clause-emits t c all is = on_from c.args.starts.now all _ c.args.token is _ _ c.in-From.x c.in-From.d _ c.put_all.new.self c.in-From.is
    (rw (c.door.ensures, c.store_slot-in-From.ensures.is, c.reduced-in-From.ensures) at c.put_all.ensures.came)

pub command-returns-in-To-clause-emits : goal.command-returns-in-To-clause-emits
command-returns-in-To-clause-emits t c all is =
    on_to c.args.starts.now all _ c.args.token is _ _ c.in-To.d _ _ c.expression-in-To.new.code c.put_all-in-To.new.self c.in-To.is c.expression-in-To.ensures.emits
    (rw c.door-in-To.ensures at c.put_all-in-To.ensures.came)

pub command-returns-in_default-clause-emits : goal.command-returns-in_default-clause-emits
command-returns-in_default-clause-emits t c all is =
    on_other c.args.starts.now all _ c.args.token is _ _ _ _ _ c.in_default.not-Set c.in_default.not-Store c.in_default.not-If c.in_default.not-While c.in_default.not-Call c.in_default.not-From
    c.in_default.not-To

pub commands-returns-clause-emits : goal.commands-returns-clause-emits
commands-returns-clause-emits t c =
    cut_short c.args.starts.now c.args.temp c.args.depth _ c.loop-token.tokens _ _ c.loop-token.invariant.0 c.next.new.self (rw c.in_default.is at c.next.ensures.steps).0

pub commands-returns-in-End-clause-emits : goal.commands-returns-in-End-clause-emits
commands-returns-in-End-clause-emits t c =
    all_done c.args.starts.now c.args.temp c.args.depth _ c.loop-token.tokens _ _ c.loop-token.invariant.0 c.in-Some.token _ c.in-Some.ensures.steps c.in-End.is

pub commands-loop-token-preserved : goal.commands-loop-token-preserved
commands-loop-token-preserved t c = (
  one_more c.args.starts.now c.args.temp c.args.depth _ c.loop-token.tokens _ _ c.loop-token.invariant.0 c.in-Some.token _ c.in-Some.ensures.steps _ c.command.new.code c.in_default-token.not-End
      c.command.ensures.emits,
  (rest_and _ _ _ c.loop-token.invariant.1.0 (rest_and _ _ _ (rest_lex _ c.in-Some.token _ c.in-Some.ensures.steps) c.command.ensures.moves.0), c.command.ensures.moves.1 ∙ c.loop-token.invariant.1.1),
)

pub commands-returns-in-End-clause-moves : goal.commands-returns-in-End-clause-moves
commands-returns-in-End-clause-moves t c = (rest_and _ _ _ c.loop-token.invariant.1.0 (rest_lex _ c.in-Some.token _ c.in-Some.ensures.steps), c.loop-token.invariant.1.1)
