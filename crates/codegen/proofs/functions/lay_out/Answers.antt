use Rattle.std.proofs.Common.{◌≡◌, ℕ, ◌∙◌, get_or, set, refl, rules, arith}
use Rattle.std.proofs.lemmas.List.{set-get_or}
use Rattle.format.specs.declared.token.Token.TheVariants.{Function}
use Rattle.codegen.proofs.FunctionParts.{all_laid, one_more_laid, none_cut, none_stands, none_left}
use Rattle.codegen.proofs.functions.lay_out.Goals as goal
use Rattle.codegen.proofs.functions.lay_out.Goals.{else-loop-start-test, then-loop-start-test+in_default, then-loop-start-test+in_default-2}

pub loop-start-preserved : goal.loop-start-preserved
loop-start-preserved c = (
  omega (arith, c.loop-start.invariant.0, c.bytes-stack.ensures.small),
  rw (c.reduced.ensures, c.len.ensures) (one_more_laid c.args.text.now c.loop-start.tokens c.loop-start.starts c.loop-start.code.len c.loop-start.stack c.loop-start.start-index c.loop-start.invariant.1
      c.in-Some-Function.arguments c.in-Some-Function.variables c.bytes-stack.result c.in-Some-Function.field-0 c.of-frame.result _ c.function.new.tokens c.loop-start.code c.function.new.code
      (omega arith) (omega arith) c.in-Some-Function.ensures.steps c.in-Some-Function.field-0-is c.of-frame.ensures.value.0 c.of-frame.ensures.value.1
      c.bytes-stack.ensures.value refl c.function.ensures.emits),
  c.function.ensures.moves.1 ∙ c.loop-start.invariant.2,
)

pub returns : goal.returns
returns c =
    let whole : set c.loop-start.starts c.loop-start.start-index (get_or c.loop-start.starts c.loop-start.start-index 0) ≡ c.loop-start.starts =
    set-get_or c.loop-start.starts c.loop-start.start-index 0 in
    let same : c.loop-start-test.starts ≡ c.loop-start.starts = elim c.loop-start-test.branch [
      | else-loop-start-test w ↦ w.starts-is
      | then-loop-start-test+in_default w ↦ w.starts-is ∙ whole
      | then-loop-start-test+in_default-2 w ↦ w.starts-is ∙ whole
    ] in
    rw c.len-2.ensures (all_laid c.args.text.now c.loop-start.tokens c.loop-start-test.starts c.loop-start.code.len c.loop-start.stack c.loop-start.start-index
    (rw same c.loop-start.invariant.1)
    (λ p ds a few. elim c.loop-start-test.branch [
      | else-loop-start-test w ↦ none_left ds (omega (arith, a.count, w.loop-start-test.false))
      | then-loop-start-test+in_default w ↦
          let other : (a v : ℕ) → w.in_default.field-0 ≡ Function a v → ⊥ = search rules in
          none_stands c.loop-start.tokens _ w.in_default.field-0 (rw w.in_default.is at w.next.ensures.steps) other ds a.read
      | then-loop-start-test+in_default-2 w ↦ none_cut c.loop-start.tokens (rw w.in_default.is at w.next.ensures.steps).0 ds a.read
    ]))
