-- What was emitted is the code of the program; and the compiler's answer is the promised one.
use Rattle.std.proofs.Common.{◌≡◌, ℕ, ◌+◌, ◌<◌, ◌≤◌, eqb, List, [], ◌++◌, length, get_or, take, drop, Ok, sym, refl, ap, ◌∙◌, subst, arith, eq-eqb, ne_eqb}
use Rattle.std.proofs.lemmas.List.{take_at, drop_at}
use Rattle.model.specs.Source.{Program}
use Rattle.model.specs.Promise.{Limits, refused, compiled, Text, program, turned, place}
use Rattle.model.proofs.Picks.{pick_true, pick_false}
use Rattle.model.proofs.Accepted.{Accepted, accepted}
use Rattle.riscv.specs.declared.instruction.Instruction.{Instruction}
use Rattle.codegen.specs.Program.{starts, linked, code_of, stack_for, made, compile}
use Rattle.codegen.specs.Emission.{limit, Wrote, Emitted}
use Rattle.codegen.specs.Coding.{by_table}
use Rattle.codegen.specs.declared.functions.Layout.{Layout}
use Rattle.codegen.specs.Layouts.{words_in, LaysOut, Lays, EmitsP}
use Rattle.format.specs.Format.{bytes_p, bytes_of, read}
use Rattle.format.proofs.Back.{reads_back}
use Rattle.format.proofs.Sound.{one_way_to_write}
use Rattle.refusals.specs.declared.refusal.Refusal.{Refusal}
use Rattle.refusals.specs.declared.refusal.Refusal.TheVariants.{Malformed, Range, Variable, Callee, Arity, Limit}
use Rattle.refusals.specs.Answer.{reason, place_of}
use Rattle.compiler.specs.declared.answer.Answer.{Answer}
use Rattle.compiler.specs.declared.answer.Answer.TheVariants.{Refused, Compiled, NoRoom}
use Rattle.compiler.specs.Contract.{everything, promised_answer, numbers, Answered, Numbered, Generated, StackNeeded}
use Rattle.compiler.proofs.Validity.{valid}
use Rattle.codegen.proofs.Emitted.{words_length}
use Rattle.correctness.proofs.Linking.{code_small}
use Rattle.compiler.proofs.Agreement.{same_linked, length_linked}

pub short : (l : Limits) (p : Program) → Accepted l p → words_in p ≤ limit
short l p a = omega (arith, code_small l p (λ g. 0) a, length_linked (λ g. 0) p)

pub code_length : (p : Program) → length (code_of p) ≡ words_in p
code_length p = words_length (linked (starts p) p) ∙ length_linked (starts p) p

-- words from the start on
from_start : (ws before after : List ℕ) (n : ℕ) → Wrote 0 ws before after → length ws ≡ n → (take n after ≡ ws) × (drop n after ≡ drop n before)
from_start ws before after n w e =
    let is : after ≡ ws ++ drop (0 + length ws) before = w.is in
    let m : 0 + length ws ≡ n = omega arith in
    (ap (take n) is ∙ take_at ws (drop (0 + length ws) before) n e, ap (drop n) is ∙ drop_at ws (drop (0 + length ws) before) n e ∙ ap (λ (k : ℕ). drop k before) m)

pub written : (l : Limits) (p : Program) (table before after : List ℕ) (end : ℕ) → Accepted l p → ((g : ℕ) → g < length p → get_or table g 0 ≡ starts p g) →
    Emitted 0 end (linked (by_table table) p) before after → words_in p ≤ length before → (take (words_in p) after ≡ code_of p) × (drop (words_in p) after ≡ drop (words_in p) before)
written l p table before after end a begins e room =
    let same : linked (by_table table) p ≡ linked (starts p) p = same_linked (by_table table) (starts p) (length p) begins 0 p a.after in
    let n : length (linked (starts p) p) ≡ words_in p = length_linked (starts p) p in
    let e' : Emitted 0 end (linked (starts p) p) before after = subst (λ (is : List Instruction). Emitted 0 end is before after) same e in
    from_start (code_of p) before after (words_in p) (e'.wrote (omega (arith, short l p a)) (omega arith)) (code_length p)

pub makes_code : (l : Limits) (p : Program) → turned l (program p) ≡ 0 → compile l (program p) ≡ compiled (code_of p) (stack_for p)
unfolding made
makes_code l p e = pick_true (eqb (turned l (program p)) 0) _ _ (eq-eqb (turned l (program p)) 0 e)

pub makes_refusal : (l : Limits) (t : Text) (j k : ℕ) → j ≡ turned l t → k ≡ place t → 0 < j → refused j k ≡ compile l t
makes_refusal l t j k e f h =
    ap (λ (x : ℕ). refused x k) e ∙ ap (λ (x : ℕ). refused (turned l t) x) f ∙ sym (pick_false (eqb (turned l t) 0) _ _ (ne_eqb (turned l t) 0 (λ z. omega arith)))

-- a program's bytes are read as it
read_as : (text : List ℕ) (p : Program) → text ≡ bytes_of p → read text ≡ program p
read_as text p e = ap read e ∙ reads_back p

written_as : (text : List ℕ) (p : Program) → text ≡ bytes_of p → text ≡ bytes_p p []
unfolding bytes_of
written_as text p e = e

promised_code : (text : List ℕ) (p : Program) → text ≡ bytes_of p → turned everything (program p) ≡ 0 → promised_answer text ≡ compiled (code_of p) (stack_for p)
promised_code text p e t = ap (compile everything) (read_as text p e) ∙ makes_code everything p t

module _ (text table before : List ℕ) (layout : Layout) (lays : Lays text table layout) where
  laid : (p : Program) → text ≡ bytes_of p → turned everything (program p) ≡ 0 → Accepted everything p × LaysOut p table layout
  laid p e t = let a : Accepted everything p = accepted everything p t in (a, lays p (written_as text p e) (valid everything p a) a.few (short everything p a))

  pub no_room : length before < layout.words → Generated text before before (NoRoom layout.words)
  no_room h p e t =
      let l : Accepted everything p × LaysOut p table layout = laid p e t in
      ((code_of p, stack_for p, promised_code text p e t, code_length p ∙ sym l.1.words), h, omega (arith, l.1.words, short everything p l.0), refl)

  pub generated : (after : List ℕ) (end : ℕ) → layout.words ≤ length before → EmitsP table text end before after → Generated text before after (Compiled layout.stack layout.words)
  generated after end room emits p e t =
      let l : Accepted everything p × LaysOut p table layout = laid p e t in
      let n : words_in p ≡ layout.words = sym l.1.words in
      let w : (take (words_in p) after ≡ code_of p) × (drop (words_in p) after ≡ drop (words_in p) before) =
      written everything p table before after end l.0 l.1.begins (emits p (written_as text p e) (valid everything p l.0)) (omega arith) in (
        ap (λ (k : ℕ). compiled (take k after) layout.stack) (sym n) ∙ ap (λ (cs : List ℕ). compiled cs layout.stack) w.0 ∙ ap (λ (k : ℕ). compiled (code_of p) k) l.1.stack ∙ sym (promised_code text p e t),
        room,
        ap (λ (k : ℕ). drop k after) (sym n) ∙ w.1 ∙ ap (λ (k : ℕ). drop k before) n,
      )

-- what is refused is refused as promised
pub refused_so : (text before : List ℕ) (r : Refusal) → (reason r ≡ turned everything (read text)) → (place_of r ≡ place (read text)) → Answered text before before (Refused r)
refused_so text before r e f = (makes_refusal everything (read text) (reason r) (place_of r) e f (some_reason r), refl)
  where
    some_reason : (r : Refusal) → 0 < reason r
    some_reason (Malformed k) = omega arith
    some_reason Range = omega arith
    some_reason Variable = omega arith
    some_reason Callee = omega arith
    some_reason Arity = omega arith
    some_reason Limit = omega arith

-- what isn't refused is a program, whose bytes the text is
pub compiled_so : (text before after : List ℕ) (a : Answer) (p : Program) → ((i : ℕ) → get_or text i 0 < 256) → turned everything (read text) ≡ 0 → read text ≡ program p → Generated text before after a →
    Answered text before after a
compiled_so text before after a p bytes t e g = g p (one_way_to_write text p bytes e) (ap (turned everything) (sym e) ∙ t)

pub in_numbers : (text before after : List ℕ) (a : Answer) → Answered text before after a → Numbered text after a
in_numbers text before after (Refused r) h = ap numbers h.0
in_numbers text before after (Compiled stack n) h = ap numbers h.0
in_numbers text before after (NoRoom n) h = refl

pub stack_so : (text table : List ℕ) (layout : Layout) (p : Program) → ((i : ℕ) → get_or text i 0 < 256) → turned everything (read text) ≡ 0 → read text ≡ program p → Lays text table layout →
    StackNeeded text (Ok layout.stack)
stack_so text table layout p bytes t e lays =
    let q : text ≡ bytes_of p = one_way_to_write text p bytes e in
    let z : turned everything (program p) ≡ 0 = ap (turned everything) (sym e) ∙ t in
    let l : Accepted everything p × LaysOut p table layout = laid text table text layout lays p q z in
    (code_of p, promised_code text p q z ∙ ap (λ (k : ℕ). compiled (code_of p) k) (sym l.1.stack))
