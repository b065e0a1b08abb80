-- The parts of a function, one after the other, are the function; and functions one after the other.
use Rattle.std.proofs.Common.{◌≡◌, ℕ, suc, ◌+◌, ◌-◌, ◌*◌, ◌/◌, ◌%◌, ◌<◌, ◌≤◌, List, [], ◌∷◌, ◌++◌, length, get_or, set, Some, None, sym, refl, ap, ◌∙◌, subst, inl, inr, arith, get_or-set_other, get_or-set_same}
use Rattle.std.proofs.lemmas.Bool.{cases_eq}
use Rattle.model.specs.Source.{Function, Program}
use Rattle.format.specs.Format.{bytes_cs, bytes_p}
use Rattle.format.specs.Tokens.{lex}
use Rattle.format.specs.declared.token.Token.{Token}
use Rattle.format.specs.declared.token.Token.TheVariants.{End, Word, Var, Load as LoadOf, Choice, Operator as Binary, Set, Store as StoreOf, If, While, Call, From, To, Function as Header}
use Rattle.format.proofs.Heads.{HeadsP, head_p, not_p}
use Rattle.riscv.specs.declared.instruction.Instruction.{Instruction}
use Rattle.riscv.specs.declared.instruction.Instruction.TheVariants.{Jalr, Immediate}
use Rattle.riscv.specs.declared.instruction.ImmediateOp.TheVariants.{Addi}
use Rattle.codegen.specs.declared.code.Code.{Code}
use Rattle.codegen.specs.declared.frame.Frame.{Frame}
use Rattle.codegen.specs.declared.slots.Transfer.TheVariants as way
use Rattle.codegen.specs.Frame.{load_slot, store_slot, return_slot, frame_bytes}
use Rattle.codegen.specs.Commands.{slots_from, load_registers, store_registers, code_cs}
use Rattle.codegen.specs.Functions.{zero_slots, prologue, epilogue, code_f}
use Rattle.codegen.specs.Program.{length_f, starts, linked, stack_for}
use Rattle.codegen.specs.Transfers.{transfers}
use Rattle.codegen.specs.Valid.{ValidF, ValidP}
use Rattle.codegen.specs.Emission.{limit, Emitted}
use Rattle.codegen.specs.Coding.{Came, by_table, EmitsV, EmitsCs}
use Rattle.codegen.specs.Layouts.{Frames, EmitsPrologue, EmitsLeave, EmitsF, words_in, Lays, EmitsP}
use Rattle.codegen.proofs.Coding.{came_none, came_and, came_cons}
use Rattle.codegen.proofs.SlotParts.{loads_are, stores_are}

pub prologue_done : (r : Frame) (bytes : ℕ) (a b c d e : Code) → bytes ≡ 16 * ((r.variables + 44) / 4) →
    Came (Immediate Addi 2 2 (4096 - bytes) ∷ []) a b → Came (store_slot 1 (r.variables + 40) ∷ []) b c → Came (zero_slots r.variables) c d →
    Came (transfers way.Store (slots_from 0 r.arguments) 8) d e → EmitsPrologue r a e
unfolding prologue
prologue_done r bytes a b c d e size p q z s f is =
    let size' : bytes ≡ frame_bytes f = size ∙ ap (λ (n : ℕ). 16 * ((n + 44) / 4)) is.1 in
    let s' : Came (store_registers (slots_from 0 f.arguments) 8) d e =
    subst (λ (l : List Instruction). Came l d e) (stores_are (slots_from 0 f.arguments) 8) (subst (λ (n : ℕ). Came (transfers way.Store (slots_from 0 n) 8) d e) is.0 s) in
    let z' : Came (zero_slots f.variables) c d = subst (λ (n : ℕ). Came (zero_slots n) c d) is.1 z in
    let q' : Came (store_slot 1 (return_slot f) ∷ []) b c = subst (λ (n : ℕ). Came (store_slot 1 (n + 40) ∷ []) b c) is.1 q in
    let p' : Came (Immediate Addi 2 2 (4096 - frame_bytes f) ∷ []) a b = subst (λ (n : ℕ). Came (Immediate Addi 2 2 (4096 - n) ∷ []) a b) size' p in
    let rest : List Instruction = zero_slots f.variables ++ store_registers (slots_from 0 f.arguments) 8 in
    came_cons (Immediate Addi 2 2 (4096 - frame_bytes f)) (store_slot 1 (return_slot f) ∷ rest) a b e p'
    (came_cons (store_slot 1 (return_slot f)) rest b c e q' (came_and (zero_slots f.variables) (store_registers (slots_from 0 f.arguments) 8) c d e z' s'))

abbrev leaving : Function → List Instruction
leaving f = load_slot 1 (return_slot f) ∷ (Immediate Addi 2 2 (frame_bytes f) ∷ (Jalr 0 1 0 ∷ []))

pub leave_done : (r : Frame) (bytes : ℕ) (a b : Code) → bytes ≡ 16 * ((r.variables + 44) / 4) →
    Came (load_slot 1 (r.variables + 40) ∷ (Immediate Addi 2 2 bytes ∷ (Jalr 0 1 0 ∷ []))) a b → EmitsLeave r a b
leave_done r bytes a b size p f is =
    let size' : bytes ≡ frame_bytes f = size ∙ ap (λ (n : ℕ). 16 * ((n + 44) / 4)) is.1 in
    subst (λ (n : ℕ). Came (load_slot 1 (return_slot f) ∷ (Immediate Addi 2 2 n ∷ (Jalr 0 1 0 ∷ []))) a b) size'
    (subst (λ (n : ℕ). Came (load_slot 1 (n + 40) ∷ (Immediate Addi 2 2 bytes ∷ (Jalr 0 1 0 ∷ []))) a b) is.1 p)

pub function_done : (ss from body to at : List ℕ) (r : Frame) (u0 u1 a b c d e : Code) → EmitsPrologue r a b → EmitsV way.Load 8 from body u0 u1 → EmitsCs ss r.variables 32 body to b c →
    EmitsV way.Load 8 from at c d → EmitsLeave r d e → EmitsF ss r from to a e
unfolding code_f epilogue
function_done ss from body to at r u0 u1 a b c d e enter skip inner results leave f rest here is valid =
    let x : (body ≡ bytes_cs f.body rest) × Came (transfers way.Load f.results 8) u0 u1 = skip f.results (bytes_cs f.body rest) here (omega (arith, valid.2)) valid.3 in
    let y : (to ≡ rest) × Came (code_cs (by_table ss) f.variables f.body) b c =
    subst (λ (n : ℕ). (to ≡ rest) × Came (code_cs (by_table ss) n f.body) b c) is.1 (inner f.body rest x.0 valid.4) in
    let z : (at ≡ bytes_cs f.body rest) × Came (transfers way.Load f.results 8) c d = results f.results (bytes_cs f.body rest) here (omega (arith, valid.2)) valid.3 in
    let l : Came (load_registers f.results 8) c d = subst (λ (is : List Instruction). Came is c d) (loads_are f.results 8) z.1 in (
      y.0,
      came_and (prologue f) (code_cs (by_table ss) f.variables f.body ++ (load_registers f.results 8 ++ leaving f)) a b e (enter f is)
          (came_and (code_cs (by_table ss) f.variables f.body) (load_registers f.results 8 ++ leaving f) b c e y.1 (came_and (load_registers f.results 8) (leaving f) c d e l (leave f is))),
    )

-- functions one after the other

no_function : (u : Token) (bs : List ℕ) (p : Program) (r : List ℕ) → ((a v : ℕ) → u ≡ Header a v → ⊥) → HeadsP u bs p r → p ≡ []
no_function End bs p r n h = h.0
no_function (Word v) bs p r n h = absurd h
no_function (Var v) bs p r n h = absurd h
no_function (LoadOf v) bs p r n h = absurd h
no_function Choice bs p r n h = absurd h
no_function (Binary o) bs p r n h = absurd h
no_function (Set v) bs p r n h = absurd h
no_function (StoreOf v) bs p r n h = absurd h
no_function If bs p r n h = absurd h
no_function While bs p r n h = absurd h
no_function (Call v) bs p r n h = absurd h
no_function (From v w) bs p r n h = absurd h
no_function (To v) bs p r n h = absurd h
no_function (Header v w) bs p r n h = absurd (n v w refl)

-- no function stands there
pub none_cut : (now : List ℕ) → lex now ≡ None → (p : Program) → now ≡ bytes_p p [] → p ≡ []
none_cut now n p q = absurd (not_p now n p [] q)

pub none_stands : (now to : List ℕ) (u : Token) → lex now ≡ Some (u, to) → ((a v : ℕ) → u ≡ Header a v → ⊥) → (p : Program) → now ≡ bytes_p p [] → p ≡ []
none_stands now to u is not p q = no_function u to p [] not (head_p p [] to u (ap lex (sym q) ∙ is))

-- the function at the front, and its frame
module _ (now to : List ℕ) (a v : ℕ) (u : Token) (is : lex now ≡ Some (u, to)) (i : u ≡ Header a v) (p : Program) (q : now ≡ bytes_p p []) (valid : ValidP p) where
  function_head : HeadsP (Header a v) to p []
  function_head = subst (λ (x : Token). HeadsP x to p []) i (head_p p [] to u (ap lex (sym q) ∙ is))

  its_frame : (r : Frame) → r.arguments ≡ a % 9 → r.variables ≡ v % 257 → Frames r function_head.0 × ValidF function_head.0 × ValidP function_head.1
  its_frame r e e' =
      let good : ValidP (function_head.0 ∷ function_head.1) = subst ValidP function_head.2 valid in
      ((omega (arith, e, function_head.3, good.0.0), omega (arith, e', function_head.4, good.0.1)), good.0, good.1)

-- functions that are still to come stand where reading has come to
pub record Standing (ss : List ℕ) (p : Program) (now : List ℕ) (a b : Code) (ds : Program) : Type 0 where
  pub stand : now ≡ bytes_p ds []
  pub valid : ValidP ds
  pub come : (d : Code) → Came (linked (by_table ss) ds) b d → Came (linked (by_table ss) p) a d

abbrev pub SoFar : List ℕ → List ℕ → List ℕ → Code → Code → Type 0
SoFar ss text now a b = (p : Program) → text ≡ bytes_p p [] → ValidP p → (ds : Program) × Standing ss p now a b ds

pub none_yet : (ss text : List ℕ) (a : Code) → SoFar ss text text a a
none_yet ss text a p q valid = (p, record { stand = q; valid = valid; come = λ d r. r })

module _ (ss text now : List ℕ) (a b : Code) (so : SoFar ss text now a b) where
  pub all_emitted : (end : ℕ) (before after : List ℕ) → a.len ≡ 0 → a.words.now ≡ before → end ≡ b.len → after ≡ b.words.now → ((p : Program) → now ≡ bytes_p p [] → p ≡ []) → EmitsP ss text end before after
  unfolding linked
  all_emitted end before after z e n l none p q valid =
      let w : (ds : Program) × Standing ss p now a b ds = so p q valid in
      let c : Came (linked (by_table ss) p) a b = w.1.come b (subst (λ (ds : Program). Came (linked (by_table ss) ds) b b) (sym (none w.0 w.1.stand)) (came_none b)) in
      rw (n, l) (subst (λ (ws : List ℕ). Emitted 0 b.len (linked (by_table ss) p) ws b.words.now) e (subst (λ (m : ℕ). Emitted m b.len (linked (by_table ss) p) a.words.now b.words.now) z c.emitted))

  pub one_more : (x v : ℕ) (u : Token) (r : Frame) (to at : List ℕ) (c : Code) → lex now ≡ Some (u, to) → u ≡ Header x v → r.arguments ≡ x % 9 → r.variables ≡ v % 257 → EmitsF ss r to at b c → SoFar ss text at a c
  unfolding linked
  one_more x v u r to at c is i e1 e2 p' p q valid =
      let w : (ds : Program) × Standing ss p now a b ds = so p q valid in
      let h : HeadsP (Header x v) to w.0 [] = function_head now to x v u is i w.0 w.1.stand w.1.valid in
      let fr : Frames r h.0 × ValidF h.0 × ValidP h.1 = its_frame now to x v u is i w.0 w.1.stand w.1.valid r e1 e2 in
      let y : (at ≡ bytes_p h.1 []) × Came (code_f (by_table ss) h.0) b c = p' h.0 (bytes_p h.1 []) h.5 fr.0 fr.1 in (
        h.1,
        record {
          stand = y.0;
          valid = fr.2;
          come = λ d s. w.1.come d (subst (λ (ds : Program). Came (linked (by_table ss) ds) b d) (sym h.2) (came_and (code_f (by_table ss) h.0) (linked (by_table ss) h.1) b c d y.1 s));
        },
      )

-- the layout: how the functions that are still to come stand to the whole
pub record Ahead (p ds : Program) (now table : List ℕ) (words stack i : ℕ) : Type 0 where
  pub read : now ≡ bytes_p ds []
  pub valid : ValidP ds
  pub count : i + length ds ≡ length p
  pub words' : words + words_in ds ≡ words_in p
  pub stack' : stack + stack_for ds ≡ stack_for p
  pub ahead : (g : ℕ) → starts p (i + g) ≡ words + starts ds g
  pub behind : (g : ℕ) → g < i → get_or table g 0 ≡ starts p g

abbrev pub Laid : List ℕ → List ℕ → List ℕ → ℕ → ℕ → ℕ → Type 0
Laid text now table words stack i = (p : Program) → text ≡ bytes_p p [] → ValidP p → length p ≤ 256 → words_in p ≤ limit → (ds : Program) × Ahead p ds now table words stack i

module _ (text now table : List ℕ) (words stack i : ℕ) (so : Laid text now table words stack i) where
  pub all_laid : ((p : Program) (ds : Program) → Ahead p ds now table words stack i → length p ≤ 256 → ds ≡ []) → Lays text table (record { words = words; stack = stack })
  unfolding stack_for
  all_laid none p q valid few short =
      let w : (ds : Program) × Ahead p ds now table words stack i = so p q valid few short in
      let nil : w.0 ≡ [] = none p w.0 w.1 few in
      let n : length w.0 ≡ 0 = ap length nil in
      let m : words_in w.0 ≡ 0 = ap words_in nil in
      let k : stack_for w.0 ≡ 0 = ap stack_for nil in
      record { words = omega (arith, w.1.words'); stack = omega (arith, w.1.stack'); begins = λ g h. w.1.behind g (omega (arith, w.1.count)) }

  pub one_more_laid : (a v bytes : ℕ) (u : Token) (r : Frame) (to at : List ℕ) (b c : Code) → length table ≡ 256 → i < 256 → lex now ≡ Some (u, to) → u ≡ Header a v →
      r.arguments ≡ a % 9 → r.variables ≡ v % 257 → bytes ≡ 16 * ((r.variables + 44) / 4) → words ≡ b.len → EmitsF [] r to at b c →
      Laid text at (set table i (words % 4294967296)) c.len (stack + bytes) (i + 1)
  unfolding stack_for starts
  one_more_laid a v bytes u r to at b c len i< s is e1 e2 size n p' p q valid few short =
      let w : (ds : Program) × Ahead p ds now table words stack i = so p q valid few short in
      let h : HeadsP (Header a v) to w.0 [] = function_head now to a v u s is w.0 w.1.read w.1.valid in
      let y : Ahead p (h.0 ∷ h.1) now table words stack i = subst (λ (ds : Program). Ahead p ds now table words stack i) h.2 w.1 in
      let fr : Frames r h.0 × ValidF h.0 × ValidP h.1 = its_frame now to a v u s is w.0 w.1.read w.1.valid r e1 e2 in
      let x : (at ≡ bytes_p h.1 []) × Came (code_f (by_table []) h.0) b c = p' h.0 (bytes_p h.1 []) h.5 fr.0 fr.1 in
      let wn : words + (length_f h.0 + words_in h.1) ≡ words_in p = y.words' in
      let ends : b.len + length_f h.0 ≤ limit → c.len ≡ b.len + length_f h.0 = x.1.emitted.ends in
      let pos : c.len ≡ words + length_f h.0 = ends (omega (arith, n)) ∙ omega (arith, n) in
      let sn : stack + (frame_bytes h.0 + stack_for h.1) ≡ stack_for p = y.stack' in
      let same : bytes ≡ frame_bytes h.0 = size ∙ ap (λ (m : ℕ). 16 * ((m + 44) / 4)) fr.0.1 in
      let small : words % 4294967296 ≡ words = omega (arith, wn, short) in
      let nil : i ≡ i + 0 = omega arith in
      let first : words + 0 ≡ words = omega arith in
      let here : starts p i ≡ words = ap (starts p) nil ∙ y.ahead 0 ∙ first in (
        h.1,
        record {
          read = x.0;
          valid = fr.2;
          count = omega (arith, y.count);
          words' = omega (arith, wn, pos);
          stack' = omega (arith, sn, same);
          ahead = λ g. let z : starts p (i + suc g) ≡ words + (length_f h.0 + starts h.1 g) = y.ahead (suc g) in
              let j : (i + 1) + g ≡ i + suc g = omega arith in ap (starts p) j ∙ z ∙ omega (arith, pos);
          behind = λ g l. elim (cases_eq g i) [
            | inl eq ↦ ap (λ (m : ℕ). get_or (set table i (words % 4294967296)) m 0) eq ∙ get_or-set_same table i (words % 4294967296) 0 (omega arith) ∙ small ∙ sym here ∙ ap (starts p) (sym eq)
            | inr ne ↦ get_or-set_other table i g (words % 4294967296) 0 ne ∙ y.behind g (omega (arith, ne))
          ];
        },
      )

pub none_left : (ds : Program) → length ds ≡ 0 → ds ≡ []
none_left [] e = refl
none_left (f ∷ fs) e = absurd (omega arith)
