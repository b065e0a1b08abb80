-- The promises, of the compiler: what is refused, what the code does, and what is never seen of the stack.
use Rattle.std.proofs.Common.{◌≡◌, ℕ, suc, ◌+◌, ◌<◌, Bool, true, false, eqb, ◌≢◌, ◌⊎◌, List, length, sym, refl, ap, ◌∙◌, subst, inl, inr, arith, lt-ltb, eqb-true}
use borrow.Author.Tests.{eqb-false}
use Rattle.std.proofs.lemmas.Bool.{and_from, cases_Bool}
use Rattle.model.specs.Words.{whole, many, nth}
use Rattle.model.specs.Source.{Program, state_of}
use Rattle.model.specs.Machine.{Board, steps, begins}
use Rattle.model.specs.Promise.{Limits, refused, compiled, Text, program, garbled, turned, place, RightAnswer, Answers, SameAsSource, StackIsHidden, LaidOut, Since, by_source, all_below, fine_cpu}
use Rattle.correctness.specs.Promised.{Promised, EndsOnlySo}
use Rattle.codegen.specs.Program.{starts, linked, code_of, stack_for, made, compile, compiler}
use Rattle.model.proofs.Picks.{pick_true, pick_false}
use Rattle.model.proofs.Accepted.{Accepted, accepted}
use Rattle.correctness.proofs.Plans.{Plan}
use Rattle.codegen.proofs.Emitted.{words_length}
use Rattle.correctness.proofs.CodeInPlace.{words_below}
use Rattle.correctness.proofs.Frames.{HasFrame}
use Rattle.correctness.proofs.Simulation.{FollowsRun}
use Rattle.correctness.proofs.Endings.{Ended, ends_so, lives, hidden, ends_only, start}
use Rattle.correctness.proofs.Linking.{code_small, code_size, all_fit, stack_after, stack_size, ready}

-- what is compiled was not refused
compiled_is : (l : Limits) (p : Program) (cs : List ℕ) (n : ℕ) → compile l (program p) ≡ compiled cs n → Accepted l p × (code_of p ≡ cs) × (stack_for p ≡ n)
unfolding made
compiled_is l p cs n e = on (cases_Bool (eqb (turned l (program p)) 0))
  where
    on : (eqb (turned l (program p)) 0 ≡ true) ⊎ (eqb (turned l (program p)) 0 ≡ false) → Accepted l p × (code_of p ≡ cs) × (stack_for p ≡ n)
    on (inl t) = let f : compiled (code_of p) (stack_for p) ≡ compiled cs n = sym (pick_true _ _ _ t) ∙ e in (accepted l p (eqb-true _ _ t), cc, cc)
    on (inr t) = let f : refused (turned l (program p)) (place (program p)) ≡ compiled cs n = sym (pick_false _ _ _ t) ∙ e in absurd (let z : ◌≡◌ {A = ℕ} 0 1 = cc in omega arith)

-- the machine as it begins
begins_fine : (b : Board) (m st : List ℕ) → b.stack_base + length st < whole → all_below 256 m ≡ true → all_below 256 st ≡ true → fine_cpu (begins b m st) ≡ true
unfolding fine_cpu all_below many
begins_fine b m st h p q = and_from _ _ (and_from _ _ (and_from _ _ (lt-ltb (b.stack_base + length st) whole h) refl) refl) (and_from _ _ p q)

begins_sp : (b : Board) (m st : List ℕ) → nth 0 (begins b m st).regs 2 ≡ b.stack_base + length st
unfolding nth
begins_sp b m st = refl

begins_framed : (l : Limits) (p : Program) (cs : List ℕ) (n : ℕ) (b : Board) (m st : List ℕ) (top : ℕ) → Accepted l p → code_of p ≡ cs → LaidOut cs n b m st → length st ≡ top → HasFrame b top 0 (begins b m st)
begins_framed l p cs n b m st top h e g t = record {
  unbroken = refl;
  fine = begins_fine b m st (omega (arith, g.3)) g.7 g.8;
  sp = begins_sp b m st ∙ ap (λ x. b.stack_base + x) t;
  code_low = omega (arith, ap length g.0, g.1);
  code_small = omega (arith, ap length g.0, ap length e, words_length (linked (starts p) p), code_small l p (starts p) h);
  apart = g.2;
  top = g.3;
  room = omega arith;
  few = omega arith;
}

-- a plan for each time, for every stack of that length
abbrev Plans : Limits → Program → Board → List ℕ → ℕ → Type 0
Plans l p b m top = (k : ℕ) → (pl : Plan) × ((su : List ℕ) → HasFrame b top 0 (begins b m su) → FollowsRun pl (by_source k p b m) k b (begins b m su) Ended)

plans : (l : Limits) (p : Program) (cs : List ℕ) (n : ℕ) (b : Board) (m st : List ℕ) → Accepted l p → code_of p ≡ cs → stack_for p ≡ n → LaidOut cs n b m st → Plans l p b m (length st)
plans l p cs n b m st h e f g = start l p b (starts p) (stack_after p) (length st) m (ready l p b (length st) h (g.0 ∙ sym e) (omega (arith, f, g.6)))

pub same_as_source : (can : ℕ → Bool) → SameAsSource can compiler
unfolding SameAsSource
same_as_source can l p cs n b m st can_is e g =
    let c : Accepted l p × (code_of p ≡ cs) × (stack_for p ≡ n) = compiled_is l p cs n e in
    let s : Plans l p b m (length st) = plans l p cs n b m st c.0 c.1 c.2 g in
    let h : HasFrame b (length st) 0 (begins b m st) = begins_framed l p cs n b m st (length st) c.0 c.1 g refl in (
      (λ k. ends_so (by_source k p b m) k (s k).0 b m st ((s k).1 st h)),
      (λ alive k. let x : ((steps k b (begins b m st)).broken ≡ false) × Since (steps k b (begins b m st)).acts (state_of (by_source k p b m)).acts = lives (by_source k p b m) k (s k).0 b (begins b m st) (alive k) ((s k).1 st h) in (x.0, (k, x.1))),
    )

pub stack_is_hidden : (can : ℕ → Bool) → StackIsHidden can compiler
unfolding StackIsHidden
stack_is_hidden can l p cs n b m st su can_is e g g' len alive k =
    let c : Accepted l p × (code_of p ≡ cs) × (stack_for p ≡ n) = compiled_is l p cs n e in
    let s : Plans l p b m (length st) = plans l p cs n b m st c.0 c.1 c.2 g in
    hidden (by_source k p b m) k (s k).0 b (begins b m st) (begins b m su) (alive k) refl
    ((s k).1 st (begins_framed l p cs n b m st (length st) c.0 c.1 g refl)) ((s k).1 su (begins_framed l p cs n b m su (length st) c.0 c.1 g' (sym len)))

pub ends_only_so : (can : ℕ → Bool) → EndsOnlySo can compiler
ends_only_so can l p cs n b m st can_is e g alive k h =
    let c : Accepted l p × (code_of p ≡ cs) × (stack_for p ≡ n) = compiled_is l p cs n e in
    let s : (pl : Plan) × ((su : List ℕ) → HasFrame b (length st) 0 (begins b m su) → FollowsRun pl (by_source (suc k) p b m) (suc k) b (begins b m su) Ended) = plans l p cs n b m st c.0 c.1 c.2 g (suc k) in
    (suc k, ends_only (by_source (suc k) p b m) (suc k) k s.0 b (begins b m st) (alive (suc k)) (s.1 st (begins_framed l p cs n b m st (length st) c.0 c.1 g refl)) (omega arith) h)

made_right : (l : Limits) (t : Text) → turned l t ≡ 0 → RightAnswer l t (made t)
unfolding RightAnswer made turned
made_right l (garbled n) e = absurd (omega arith)
made_right l (program p) e =
    let c : Accepted l p = accepted l p (unfold turned in e) in
    (e, (omega (arith, words_length (linked (starts p) p), code_size l p (starts p) c), (stack_size p).0, (stack_size p).1, words_below (linked (starts p) p) (all_fit l p c)))

refused_right : (l : Limits) (t : Text) → turned l t ≢ 0 → RightAnswer l t (refused (turned l t) (place t))
unfolding RightAnswer
refused_right l t h = (refl, refl, positive (turned l t) h)
  where
    positive : (n : ℕ) → n ≢ 0 → 0 < n
    positive n k = omega (arith, k)

pub answers : (can : ℕ → Bool) → Answers can compiler
unfolding Answers
answers can l t can_is = on (cases_Bool (eqb (turned l t) 0))
  where
    on : (eqb (turned l t) 0 ≡ true) ⊎ (eqb (turned l t) 0 ≡ false) → RightAnswer l t (compile l t)
    on (inl e) = subst (λ a. RightAnswer l t a) (sym (pick_true _ _ _ e)) (made_right l t (eqb-true _ _ e))
    on (inr e) = subst (λ a. RightAnswer l t a) (sym (pick_false _ _ _ e)) (refused_right l t (eqb-false _ _ e))

-- all of it, for any set of forms
pub promised : (can : ℕ → Bool) → Promised can compiler
promised can = (answers can, same_as_source can, ends_only_so can, stack_is_hidden can)
