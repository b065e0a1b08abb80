use Rattle.std.proofs.Common.{◌≡◌, ℕ, rules, ◌∙◌}
use Rattle.format.specs.declared.token.Token.TheVariants.{Function}
use Rattle.codegen.proofs.FunctionParts.{one_more, all_emitted, none_cut, none_stands}
use Rattle.codegen.proofs.functions.emit.Goals as goal
use Rattle.codegen.proofs.functions.emit.Goals.{in_default, in_default-2}

pub loop-arguments-preserved : goal.loop-arguments-preserved
loop-arguments-preserved c = (
  one_more c.args.starts.now c.args.text.now c.loop-arguments.tokens _ c.loop-arguments.code c.loop-arguments.invariant.0 c.in-Some-Function.arguments c.in-Some-Function.variables
      c.in-Some-Function.field-0 c.of.result _ _ c.function.new.code c.in-Some-Function.ensures.steps c.in-Some-Function.field-0-is c.of.ensures.value.0 c.of.ensures.value.1 c.function.ensures.emits,
  c.function.ensures.moves.1 ∙ c.loop-arguments.invariant.1,
)

pub returns : goal.returns
returns c =
    all_emitted c.args.starts.now c.args.text.now c.loop-arguments.tokens _ c.loop-arguments.code c.loop-arguments.invariant.0 c.len.result c.args.words.now _ c.new-code.ensures.len
    c.new-code.ensures.words c.len.ensures (search rules)
    (elim c.match-next.branch [
      | in_default w ↦
          let other : (a v : ℕ) → w.in_default.field-0 ≡ Function a v → ⊥ = search rules in
          none_stands c.loop-arguments.tokens _ w.in_default.field-0 (rw w.in_default.is at c.next.ensures.steps) other
      | in_default-2 w ↦ none_cut c.loop-arguments.tokens (rw w.in_default.is at c.next.ensures.steps).0
    ])
