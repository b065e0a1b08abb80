use Rattle.std.proofs.lemmas.List.{take_rest}
use Rattle.format.proofs.Digits.{reads_none, reads_some}
use Rattle.format.proofs.tokens.number.Goals as goal

pub returns-in_err-last : goal.returns-in_err-last
returns-in_err-last c = rw c.from_residual.ensures (reads_none c.args.rest.now.now c.in_err-last.ensures)

pub returns : goal.returns
returns c = reads_some c.args.rest.now.now _ _ c.in_ok-last.last c.value_of.result c.in_ok-last.ensures c.split_at.ensures.front (simp (take_rest, c.split_at.ensures.back))
    c.value_of.ensures
