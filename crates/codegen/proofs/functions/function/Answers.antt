use Rattle.codegen.proofs.FunctionParts.{function_done}
use Rattle.codegen.proofs.functions.function.Goals as goal

pub returns-clause-emits : goal.returns-clause-emits
returns-clause-emits c =
    function_done c.args.starts.now _ c.variables.new.tokens _ c.variables-2.new.tokens c.args.frame _ c.variables.new.code _ c.prologue.new.code c.commands.new.code c.variables-2.new.code c.leave.new.code
    c.prologue.ensures.came c.variables.ensures.emits c.commands.ensures.emits (rw (c.new-results.ensures, c.rest-results.ensures) at c.variables-2.ensures.emits) c.leave.ensures.came
