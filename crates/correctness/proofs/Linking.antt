-- Each function stands where calls of it go, and there is stack for all of them.
use Rattle.std.proofs.Common.{◌≡◌, ℕ, zero, suc, ◌+◌, ◌*◌, ◌%◌, ◌<◌, ◌≤◌, true, List, [], ◌∷◌, ◌++◌, length, sym, refl, ap, subst, zero-add, arith, length-append, eqb-true}
use Rattle.model.specs.Source.{Function, Program, function_at}
use Rattle.model.specs.Machine.{Board}
use Rattle.model.specs.Promise.{Limits, size, frames, first_fits}
use Rattle.codegen.specs.Frame.{frame_bytes}
use Rattle.codegen.specs.Functions.{code_f}
use Rattle.codegen.specs.Program.{starts, linked, code_of, stack_for}
use Rattle.model.proofs.Accepted.{CheckedF, Accepted, not_empty, checked_function}
use Rattle.correctness.proofs.CodeInPlace.{AllFit, fit_append, At, at_split, at_words}
use Rattle.correctness.proofs.Calls.{Linked}
use Rattle.correctness.proofs.Endings.{env, Ready}
use Rattle.correctness.proofs.Sizes.{f_same, linked_length}
use Rattle.correctness.proofs.Fitting.{Few, fits_f}

at_start : (p : Program) (at : ℕ → ℕ) (k : ℕ) (ws : List ℕ) → At ws k (linked at p) → (g : ℕ) (f : Function) (fs : List Function) → function_at p g ≡ f ∷ fs → At ws (k + starts p g) (code_f at f)
unfolding linked starts function_at
at_start [] at k ws h g f fs e = absurd (let z : ◌≡◌ {A = ℕ} 0 1 = cc in omega arith)
at_start (f0 ∷ p) at k ws h zero f fs e =
    let x : f0 ≡ f = cc in
    let y : At ws k (code_f at f0) = (at_split ws k (code_f at f0) (linked at p) h).0 in
    subst (λ j. At ws j (code_f at f)) (omega arith) (subst (λ z. At ws k (code_f at z)) x y)
at_start (f0 ∷ p) at k ws h (suc g) f fs e =
    let y : At ws (k + length (code_f at f0)) (linked at p) = (at_split ws k (code_f at f0) (linked at p) h).1 in
    subst (λ j. At ws j (code_f at f)) (omega (arith, f_same at (λ n. 0) f0)) (at_start p at (k + length (code_f at f0)) ws y g f fs e)

few : (l : Limits) (p : Program) → Accepted l p → Few p
few l p h g f fs e = let s : CheckedF l p g f = checked_function l p h g f fs e in (s.few_args, s.few_results)

fits_linked : (l : Limits) (P p : Program) (at : ℕ → ℕ) (i : ℕ) → Few P → ((g : ℕ) (f : Function) (fs : List Function) → function_at p g ≡ f ∷ fs → CheckedF l P (i + g) f) → length (linked at p) < 262144 → AllFit (linked at p)
unfolding linked AllFit function_at
fits_linked l P [] at i w s h = tt
fits_linked l P (f ∷ p) at i w s h =
    let len : length (code_f at f ++ linked at p) ≡ length (code_f at f) + length (linked at p) = length-append (code_f at f) (linked at p) in
    fit_append (code_f at f) (linked at p) (fits_f l P at (i + 0) f w (s 0 f [] refl) (omega arith))
    (fits_linked l P p at (suc i) w (λ g f' fs e. subst (λ j. CheckedF l P j f') (omega arith) (s (suc g) f' fs e)) (omega arith))

pub code_small : (l : Limits) (p : Program) (at : ℕ → ℕ) → Accepted l p → length (linked at p) < 262144
code_small l p at h = omega (arith, linked_length p p at h.fitting, h.small)

pub code_size : (l : Limits) (p : Program) (at : ℕ → ℕ) → Accepted l p → length (linked at p) ≤ 48 * size p + 64
code_size l p at h = omega (arith, linked_length p p at h.fitting)

pub all_fit : (l : Limits) (p : Program) → Accepted l p → AllFit (linked (starts p) p)
all_fit l p h =
    fits_linked l p p (starts p) 0 (few l p h) (λ g f fs e. subst (λ j. CheckedF l p j f) (sym (zero-add g)) (checked_function l p h g f fs e)) (code_small l p (starts p) h)

-- stack for the functions after one
unfoldable pub stack_after : Program → ℕ → ℕ
stack_after [] i = 0
stack_after (f ∷ fs) zero = stack_for fs
stack_after (f ∷ fs) (suc i) = stack_after fs i

frames_at : (p : Program) (g : ℕ) (f : Function) (fs : List Function) → function_at p g ≡ f ∷ fs → frame_bytes f + stack_after p g ≤ stack_for p
unfolding function_at stack_after stack_for
frames_at [] g f fs e = absurd (let z : ◌≡◌ {A = ℕ} 0 1 = cc in omega arith)
frames_at (f0 ∷ p) zero f fs e = let x : f0 ≡ f = cc in omega (arith, ap (λ z. z.variables) x)
frames_at (f0 ∷ p) (suc g) f fs e = omega (arith, frames_at p g f fs e)

stack_at : (p : Program) (i g : ℕ) (f : Function) (fs : List Function) → function_at p g ≡ f ∷ fs → i < g → frame_bytes f + stack_after p g ≤ stack_after p i
unfolding function_at stack_after
stack_at [] i g f fs e h = absurd (let z : ◌≡◌ {A = ℕ} 0 1 = cc in omega arith)
stack_at (f0 ∷ p) i zero f fs e h = absurd (omega arith)
stack_at (f0 ∷ p) zero (suc g) f fs e h = frames_at p g f fs e
stack_at (f0 ∷ p) (suc i) (suc g) f fs e h = stack_at p i g f fs e (omega arith)

frames_enough : (p : Program) → stack_for p ≤ 4 * frames p
unfolding stack_for frames
frames_enough [] = omega arith
frames_enough (f ∷ fs) = omega (arith, frames_enough fs)

pub stack_size : (p : Program) → (stack_for p ≤ 4 * frames p) × (stack_for p % 16 ≡ 0)
unfolding stack_for
stack_size [] = (omega arith, refl)
stack_size (f ∷ fs) = (frames_enough (f ∷ fs), omega (arith, (stack_size fs).1))

pub all_linked : (l : Limits) (p : Program) (b : Board) → Accepted l p → b.code ≡ code_of p → Linked (env l p b (starts p)) (stack_after p)
all_linked l p b h e = record {
  code = λ g f fs x. subst (λ ws. At ws (starts p g) (code_f (starts p) f)) (sym e) (subst (λ j. At (code_of p) j (code_f (starts p) f)) (zero-add (starts p g)) (at_start p (starts p) 0 (code_of p) (at_words _ (all_fit l p h)) g f fs x));
  checked = λ g f fs x. checked_function l p h g f fs x;
  stack = λ i g f fs x y. stack_at p i g f fs x y;
}

no_args : (f : Function) (fs : List Function) → first_fits (f ∷ fs) ≡ true → f.arguments ≡ 0
unfolding first_fits
no_args f fs e = eqb-true _ _ e

first_start : (f : Function) (fs : List Function) → starts (f ∷ fs) 0 ≡ 0
unfolding starts
first_start f fs = refl

first_room : (f : Function) (fs : List Function) (top : ℕ) → stack_for (f ∷ fs) ≤ top → frame_bytes f + stack_after (f ∷ fs) 0 ≤ top
unfolding stack_for stack_after
first_room f fs top h = h

pub ready : (l : Limits) (p : Program) (b : Board) (top : ℕ) → Accepted l p → b.code ≡ code_of p → stack_for p ≤ top → Ready l p b (starts p) (stack_after p) top
ready l [] b top h e r = absurd (not_empty h)
ready l (f ∷ fs) b top h e r =
    record { linked_in = all_linked l (f ∷ fs) b h e; first = f; others = fs; is_first = refl; no_args = no_args f fs h.first; at_zero = first_start f fs; room = first_room f fs top r }
