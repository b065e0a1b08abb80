use Rattle.std.proofs.Common.{◌∙◌, arith}
use Rattle.format.proofs.Rests.{rest_and}
use Rattle.codegen.proofs.CommandParts.{all_arguments, one_argument}
use Rattle.codegen.proofs.commands.arguments.Goals as goal

pub list-preserved : goal.list-preserved
list-preserved c =
    let e = c.list-test.ensures in (
      omega arith,
      one_argument c.args.temp _ c.list.tokens c.list.count _ c.list.code c.list.invariant.1 _ c.expression.new.code c.put.new.self e.1 (rw e.0 at c.expression.ensures.emits)
          (rw c.store_slot.ensures.is at c.put.ensures.came),
      (rest_and _ _ _ c.list.invariant.2.0 (rw e.0 at c.expression.ensures.moves.0), c.put.ensures.same ∙ c.expression.ensures.moves.1 ∙ c.list.invariant.2.1),
    )

pub returns-clause-emits : goal.returns-clause-emits
returns-clause-emits c = all_arguments c.args.temp _ c.list.tokens c.list.count _ c.list.code c.list.invariant.1 c.end.new.self c.list-test.ensures
