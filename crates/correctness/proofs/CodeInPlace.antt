-- Instructions that stand in the code, from a word on, and a step of the machine there.
use Rattle.std.proofs.Common.{◌≡◌, ℕ, suc, ◌+◌, ◌*◌, ◌/◌, ◌%◌, ◌<◌, ◌≤◌, true, false, eqb, ltb, List, [], ◌∷◌, ◌++◌, length, refl, ap, ◌∙◌, subst, arith, lt-ltb, eq-eqb, ne_eqb}
use Rattle.std.proofs.lemmas.Bool.{and_from, or_from}
use Rattle.model.specs.Words.{whole, nth}
use Rattle.model.specs.Machine.{Board, Cpu, does, step, the_end}
use Rattle.model.specs.Promise.{all_below}
use Rattle.riscv.specs.declared.instruction.Instruction.{Instruction}
use Rattle.riscv.specs.Encoding.{encode, Fits}
use Rattle.riscv.specs.Execution.{exec}
use Rattle.codegen.specs.Program.{words_of}
use Rattle.model.proofs.Picks.{pick_true, pick_false}
use Rattle.riscv.proofs.Meaning.{does_encode, encode_below}

-- each fits into its word
unfoldable pub AllFit : List Instruction → Type 0
AllFit [] = Unit {0}
AllFit (i ∷ is) = Fits i × AllFit is

pub fit_append : (is js : List Instruction) → AllFit is → AllFit js → AllFit (is ++ js)
unfolding AllFit
fit_append [] js h k = k
fit_append (i ∷ is) js h k = (h.0, fit_append is js h.1 k)

-- instructions in a list of words, from a place on
unfoldable pub At : List ℕ → ℕ → List Instruction → Type 0
At ws k [] = k ≤ length ws
At ws k (i ∷ is) = (nth 0 ws k ≡ encode i) × (k < length ws) × Fits i × At ws (suc k) is

pub at_within : (ws : List ℕ) (k : ℕ) (is : List Instruction) → At ws k is → k + length is ≤ length ws
unfolding At
at_within ws k [] h = omega arith
at_within ws k (i ∷ is) h = omega (arith, at_within ws (suc k) is h.3)

pub at_tail : (ws : List ℕ) (k : ℕ) (i : Instruction) (is : List Instruction) → At ws k (i ∷ is) → At ws (suc k) is
unfolding At
at_tail ws k i is h = h.3

pub at_split : (ws : List ℕ) (k : ℕ) (is js : List Instruction) → At ws k (is ++ js) → At ws k is × At ws (k + length is) js
unfolding At
at_split ws k [] js h = (omega (arith, at_within ws k js h), subst (λ x. At ws x js) (omega arith) h)
at_split ws k (i ∷ is) js h =
    let r : At ws (suc k) is × At ws (suc k + length is) js = at_split ws (suc k) is js h.3 in
    ((h.0, h.1, h.2, r.0), subst (λ x. At ws x js) (omega arith) r.1)

at_next : (w : ℕ) (ws : List ℕ) (k : ℕ) (is : List Instruction) → At ws k is → At (w ∷ ws) (suc k) is
unfolding At nth
at_next w ws k [] h = omega arith
at_next w ws k (i ∷ is) h = (h.0, omega (arith, h.1), h.2, at_next w ws (suc k) is h.3)

-- instructions stand in their own words
pub at_words : (is : List Instruction) → AllFit is → At (words_of is) 0 is
unfolding At AllFit words_of nth
at_words [] h = omega arith
at_words (i ∷ is) h = (refl, omega arith, h.0, at_next (encode i) (words_of is) 0 is (at_words is h.1))

pub words_below : (is : List Instruction) → AllFit is → all_below whole (words_of is) ≡ true
unfolding words_of all_below AllFit
words_below [] h = refl
words_below (i ∷ is) h = and_from _ _ (lt-ltb (encode i) whole (encode_below i h.0)) (words_below is h.1)

-- where an instruction stands, the machine's step is that instruction
pub step_at : (b : Board) (c : Cpu) (k : ℕ) (i : Instruction) → 4 * length b.code ≤ the_end → nth 0 b.code k ≡ encode i → k < length b.code → Fits i → c.pc ≡ 4 * k → c.broken ≡ false →
    step b c ≡ exec b c i
step_at b c k i small here k< fitting pc unbroken =
    pick_false _ _ _ (or_from c.broken (eqb c.pc the_end) unbroken (ne_eqb c.pc the_end (λ e. omega arith)))
    ∙ pick_true _ _ _ (and_from (eqb (c.pc % 4) 0) (ltb (c.pc / 4) (length b.code)) (eq-eqb (c.pc % 4) 0 (omega arith)) (lt-ltb (c.pc / 4) (length b.code) (omega arith)))
    ∙ ap (does b c) (ap (nth 0 b.code) word_is ∙ here)
    ∙ does_encode b c i fitting
  where
    word_is : c.pc / 4 ≡ k
    word_is = omega arith
