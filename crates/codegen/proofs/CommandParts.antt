-- A command, by the token at its front; and commands one after the other.
use Rattle.std.proofs.Common.{◌≡◌, ℕ, suc, ◌+◌, ◌-◌, ◌*◌, ◌%◌, ◌≤◌, List, [], ◌∷◌, ◌++◌, length, Some, None, sym, refl, ap, ◌∙◌, subst, add-one, arith}
use Rattle.model.specs.Source.{Expr, word, var, load, op, if_not_zero, Cmd, set, store, if_then, while, call, from_door, to_door, Cmds, none, more}
use Rattle.format.specs.Format.{bytes_e, bytes_es, bytes_v, bytes_cs}
use Rattle.format.specs.Tokens.{lex}
use Rattle.format.specs.declared.token.Token.{Token}
use Rattle.format.specs.declared.token.Token.TheVariants.{End, Word, Var, Load as LoadOf, Choice, Operator as Binary, Set, Store as StoreOf, If, While, Call, From, To, Function as Header}
use Rattle.format.proofs.Heads.{HeadsCs, head_cs, not_cs, same_token, lex_end_byte, first_e, rest_e, lex_e}
use Rattle.riscv.specs.declared.instruction.Instruction.{Instruction}
use Rattle.riscv.specs.declared.instruction.Instruction.TheVariants.{Lui, Load, Store}
use Rattle.riscv.specs.declared.instruction.StoreOp.{StoreOp}
use Rattle.riscv.specs.declared.instruction.StoreOp.TheVariants.{Sw}
use Rattle.riscv.specs.declared.instruction.LoadOp.TheVariants.{Lw}
use Rattle.codegen.specs.declared.code.Code.{Code}
use Rattle.codegen.specs.declared.code.OpenJump.{OpenJump}
use Rattle.codegen.specs.declared.slots.Transfer.TheVariants as way
use Rattle.codegen.specs.Frame.{load_slot, store_slot}
use Rattle.codegen.specs.Expressions.{code_e, code_es, either}
use Rattle.codegen.specs.Commands.{store_of, slots_from, load_registers, store_registers, call_at, doors_upper, code_c, code_cs}
use Rattle.codegen.specs.Transfers.{transfers}
use Rattle.codegen.specs.Valid.{ValidEs, ValidC, ValidCs}
use Rattle.codegen.specs.Coding.{Came, Opens, Tests, Lands, JumpsBack, by_table, Emits, EmitsEs, EmitsV, EmitsC, EmitsAfter, EmitsCs}
use Rattle.codegen.proofs.Coding.{came_none, came_and, came_cons, came_either, came_looped}
use Rattle.codegen.proofs.SlotParts.{loads_are, stores_are}
use Rattle.codegen.proofs.ExpressionParts.{size_uncapped}

-- ARGUMENTS: those that are still to come stand where reading has come to
pub record Left (t : ℕ) (rest : List ℕ) (es : List Expr) (count : ℕ) (now : List ℕ) (a b : Code) (fs : List Expr) : Type 0 where
  pub stand : now ≡ bytes_es fs rest
  pub number : count + length fs ≡ length es
  pub valid : ValidEs fs
  pub come : (d : Code) → Came (code_es (t + count) fs) b d → Came (code_es t es) a d

abbrev pub Arguments : ℕ → List ℕ → List ℕ → ℕ → Code → Code → Type 0
Arguments t from now count a b = (es : List Expr) (rest : List ℕ) → from ≡ bytes_es es rest → length es ≤ 8 → ValidEs es → (fs : List Expr) × Left t rest es count now a b fs

not_end : (e : Expr) → first_e e ≡ End → ⊥
not_end (word n) q = cc
not_end (var x) q = cc
not_end (load n e) q = cc
not_end (op o d e) q = cc
not_end (if_not_zero c d e) q = cc

first_byte : (e : Expr) (r s : List ℕ) → bytes_e e r ≡ 0 ∷ s → ⊥
first_byte e r s q = not_end e (same_token (lex (bytes_e e r)) (first_e e) End (rest_e e r) s (lex_e e r) (ap lex q ∙ lex_end_byte s)).0

module _ (t : ℕ) (from now : List ℕ) (count : ℕ) (a b : Code) (so : Arguments t from now count a b) where
  pub all_arguments : (to : List ℕ) → now ≡ 0 ∷ to → EmitsEs t count from to a b
  unfolding code_es
  all_arguments to z es rest q few valid = last (so es rest q few valid).0 (so es rest q few valid).1
    where
      last : (fs : List Expr) → Left t rest es count now a b fs → (to ≡ rest) × (count ≡ length es) × Came (code_es t es) a b
      last [] l = (cc, omega (arith, l.number), l.come b (came_none b))
      last (f ∷ fs) l = absurd (first_byte f (bytes_es fs rest) to (sym l.stand ∙ z))

  pub one_argument : (to : List ℕ) (c d : Code) → ((r : List ℕ) → now ≡ 0 ∷ r → ⊥) → Emits (t + count) 32 now to b c → Came (store_slot 5 (t + count) ∷ []) c d → Arguments t from to (count + 1) a d
  unfolding code_es
  one_argument to c d n p save es rest q few valid = next (so es rest q few valid).0 (so es rest q few valid).1
    where
      next : (fs : List Expr) → Left t rest es count now a b fs → (gs : List Expr) × Left t rest es (count + 1) to a d gs
      next [] l = absurd (n rest l.stand)
      next (f ∷ fs) l =
          let x : (to ≡ bytes_es fs rest) × Came (code_e (t + count) f) b c = p f (bytes_es fs rest) l.stand l.valid.0 in
          let e : t + (count + 1) ≡ suc (t + count) = omega arith in (
            fs,
            record {
              stand = x.0;
              number = omega (arith, l.number);
              valid = l.valid.1;
              come = λ g r. l.come g (came_and (code_e (t + count) f) (store_slot 5 (t + count) ∷ code_es (suc (t + count)) fs) b c g x.1
                  (came_cons (store_slot 5 (t + count)) (code_es (suc (t + count)) fs) c d g save (subst (λ (m : ℕ). Came (code_es m fs) d g) e r)));
            },
          )

-- no other token is the head of a command
no_head : (u : Token) (bs : List ℕ) (m : Cmd) (cs : Cmds) (rest : List ℕ) → ((x : ℕ) → u ≡ Set x → ⊥) → ((z : ℕ) → u ≡ StoreOf z → ⊥) → (u ≡ If → ⊥) → (u ≡ While → ⊥) → ((g : ℕ) → u ≡ Call g → ⊥) →
    ((x d : ℕ) → u ≡ From x d → ⊥) → ((d : ℕ) → u ≡ To d → ⊥) → HeadsCs u bs (more m cs) rest → ⊥
no_head End bs m cs rest a b c d e f g h = let z : ◌≡◌ {A = ℕ} 0 1 = cc in omega arith
no_head (Word n) bs m cs rest a b c d e f g h = h
no_head (Var n) bs m cs rest a b c d e f g h = h
no_head (LoadOf n) bs m cs rest a b c d e f g h = h
no_head Choice bs m cs rest a b c d e f g h = h
no_head (Binary x) bs m cs rest a b c d e f g h = h
no_head (Set n) bs m cs rest a b c d e f g h = a n refl
no_head (StoreOf n) bs m cs rest a b c d e f g h = b n refl
no_head If bs m cs rest a b c d e f g h = c refl
no_head While bs m cs rest a b c d e f g h = d refl
no_head (Call n) bs m cs rest a b c d e f g h = e n refl
no_head (From n x) bs m cs rest a b c d e f g h = f n x refl
no_head (To n) bs m cs rest a b c d e f g h = g n refl
no_head (Header n x) bs m cs rest a b c d e f g h = h

-- A COMMAND
module _ (ss all mid : List ℕ) (u : Token) (is : lex all ≡ Some (u, mid)) (v k : ℕ) where
  heads : (w : Token) → u ≡ w → (m : Cmd) (cs : Cmds) (rest : List ℕ) → all ≡ bytes_cs (more m cs) rest → HeadsCs w mid (more m cs) rest
  heads w i m cs rest q = subst (λ (x : Token). HeadsCs x mid (more m cs) rest) i (head_cs (more m cs) rest mid u (ap lex (sym q) ∙ is))

  -- what was done for the command that stands there
  done_for : (m x : Cmd) (cs ds : Cmds) (rest to : List ℕ) (a b : Code) → m ≡ x → cs ≡ ds → (to ≡ bytes_cs ds rest) × Came (code_c (by_table ss) v x) a b → (to ≡ bytes_cs cs rest) × Came (code_c (by_table ss) v m) a b
  done_for m x cs ds rest to a b i j d = (d.0 ∙ ap (λ (c : Cmds). bytes_cs c rest) (sym j), subst (λ (c : Cmd). Came (code_c (by_table ss) v c) a b) (sym i) d.1)

  pub on_set : (x : ℕ) (to : List ℕ) (a b c : Code) → u ≡ Set x → Emits v 32 mid to a b → Came (store_slot 5 (x % 1024) ∷ []) b c → EmitsC ss v k all to a c
  unfolding code_c
  on_set x to a b c i p q m cs rest here valid =
      let h : HeadsCs (Set x) mid (more m cs) rest = heads (Set x) i m cs rest here in
      let is : m ≡ set h.0 h.1 = cc in
      let good : ValidC k (set h.0 h.1) = subst (λ (c : Cmd). ValidC k c) is valid in
      let same : x % 1024 ≡ h.0 = omega (arith, h.4, good.0) in
      let d : (to ≡ bytes_cs h.2 rest) × Came (code_e v h.1) a b = p h.1 (bytes_cs h.2 rest) h.5 good.1 in
      done_for m (set h.0 h.1) cs h.2 rest to a c is (cc)
      (d.0, came_and (code_e v h.1) (store_slot 5 h.0 ∷ []) a b c d.1 (subst (λ (n : ℕ). Came (store_slot 5 n ∷ []) b c) same q))

  pub on_store : (z : ℕ) (o : StoreOp) (half to : List ℕ) (a b c d e f : Code) → u ≡ StoreOf z → o ≡ store_of z → Emits v 32 mid half a b → Came (store_slot 5 v ∷ []) b c → Emits (v + 1) 32 half to c d →
      Came (load_slot 6 v ∷ []) d e → Came (Store o 5 6 0 ∷ []) e f → EmitsC ss v k all to a f
  unfolding code_c
  on_store z o half to a b c d e f i n first save second reload last m cs rest here valid =
      let h : HeadsCs (StoreOf z) mid (more m cs) rest = heads (StoreOf z) i m cs rest here in
      let is : m ≡ store h.0 h.1 h.2 = cc in
      let good : ValidC k (store h.0 h.1 h.2) = subst (λ (c : Cmd). ValidC k c) is valid in
      let same : z ≡ h.0 = size_uncapped z h.0 h.5 good.0 in
      let x : (half ≡ bytes_e h.2 (bytes_cs h.3 rest)) × Came (code_e v h.1) a b = first h.1 (bytes_e h.2 (bytes_cs h.3 rest)) h.6 good.1 in
      let y : (to ≡ bytes_cs h.3 rest) × Came (code_e (v + 1) h.2) c d = second h.2 (bytes_cs h.3 rest) x.0 good.2 in
      let w : Came (code_e (suc v) h.2) c d = subst (λ (n : ℕ). Came (code_e n h.2) c d) (add-one v) y.1 in
      let r : Came (Store (store_of h.0) 5 6 0 ∷ []) e f = subst (λ (s : StoreOp). Came (Store s 5 6 0 ∷ []) e f) (n ∙ ap store_of same) last in
      done_for m (store h.0 h.1 h.2) cs h.3 rest to a f is (cc) (
        y.0,
        came_and (code_e v h.1) (store_slot 5 v ∷ (code_e (suc v) h.2 ++ (load_slot 6 v ∷ (Store (store_of h.0) 5 6 0 ∷ [])))) a b f x.1
            (came_cons (store_slot 5 v) (code_e (suc v) h.2 ++ (load_slot 6 v ∷ (Store (store_of h.0) 5 6 0 ∷ []))) b c f save
            (came_and (code_e (suc v) h.2) (load_slot 6 v ∷ (Store (store_of h.0) 5 6 0 ∷ [])) c d f w (came_cons (load_slot 6 v) (Store (store_of h.0) 5 6 0 ∷ []) d e f reload r))),
      )

  pub on_if : (mid1 mid2 to : List ℕ) (i j : OpenJump) (z a b c d e f g : Code) → u ≡ If → Emits v 32 mid mid1 z a → Tests i a b → EmitsCs ss v (k - 1) mid1 mid2 b c → Opens j c d →
      Lands i d e → EmitsCs ss v (k - 1) mid2 to e f → Lands j f g → EmitsC ss v k all to z g
  unfolding code_c
  on_if mid1 mid2 to i j z a b c d e f g first test skip then jump land1 else land2 m cs rest here valid =
      let s : HeadsCs If mid (more m cs) rest = heads If first m cs rest here in
      let is : m ≡ if_then s.0 s.1 s.2 = cc in
      let good : ValidC k (if_then s.0 s.1 s.2) = subst (λ (c : Cmd). ValidC k c) is valid in
      let o : (mid1 ≡ bytes_cs s.1 (bytes_cs s.2 (bytes_cs s.3 rest))) × Came (code_e v s.0) z a = test s.0 (bytes_cs s.1 (bytes_cs s.2 (bytes_cs s.3 rest))) s.5 good.1 in
      let p : (mid2 ≡ bytes_cs s.2 (bytes_cs s.3 rest)) × Came (code_cs (by_table ss) v s.1) b c = then s.1 (bytes_cs s.2 (bytes_cs s.3 rest)) o.0 good.2 in
      let q : (to ≡ bytes_cs s.3 rest) × Came (code_cs (by_table ss) v s.2) e f = else s.2 (bytes_cs s.3 rest) p.0 good.3 in
      done_for m (if_then s.0 s.1 s.2) cs s.3 rest to z g is (cc) (
        q.0,
        came_and (code_e v s.0) (either (code_cs (by_table ss) v s.1) (code_cs (by_table ss) v s.2)) z a g o.1
            (came_either (code_cs (by_table ss) v s.1) (code_cs (by_table ss) v s.2) i j a b c d e f g skip p.1 jump land1 q.1 land2),
      )

  pub on_while : (mid1 to : List ℕ) (j : OpenJump) (start : ℕ) (a b c d e f : Code) → u ≡ While → start ≡ a.len → Emits v 32 mid mid1 a b → Tests j b c → EmitsCs ss v (k - 1) mid1 to c d →
      JumpsBack start d e → Lands j e f → EmitsC ss v k all to a f
  unfolding code_c
  on_while mid1 to j start a b c d e f i begin test skip body again land m cs rest here valid =
      let s : HeadsCs While mid (more m cs) rest = heads While i m cs rest here in
      let is : m ≡ while s.0 s.1 = cc in
      let good : ValidC k (while s.0 s.1) = subst (λ (c : Cmd). ValidC k c) is valid in
      let o : (mid1 ≡ bytes_cs s.1 (bytes_cs s.2 rest)) × Came (code_e v s.0) a b = test s.0 (bytes_cs s.1 (bytes_cs s.2 rest)) s.4 good.1 in
      let p : (to ≡ bytes_cs s.2 rest) × Came (code_cs (by_table ss) v s.1) c d = body s.1 (bytes_cs s.2 rest) o.0 good.2 in
      done_for m (while s.0 s.1) cs s.2 rest to a f is (cc)
      (p.0, came_looped (code_e v s.0) (code_cs (by_table ss) v s.1) j start a b c d e f begin o.1 skip p.1 again land)

  pub on_call : (g count : ℕ) (half to : List ℕ) (a b c d e : Code) → u ≡ Call g → EmitsEs v count mid half a b → Came (transfers way.Load (slots_from v count) 8) b c → Came (call_at (by_table ss g)) c d →
      EmitsV way.Store 8 half to d e → EmitsC ss v k all to a e
  unfolding code_c
  on_call g count half to a b c d e i p loads jump stores m cs rest here valid =
      let h : HeadsCs (Call g) mid (more m cs) rest = heads (Call g) i m cs rest here in
      let is : m ≡ call h.0 h.1 h.2 = cc in
      let good : ValidC k (call h.0 h.1 h.2) = subst (λ (c : Cmd). ValidC k c) is valid in
      let same : g ≡ h.0 = omega (arith, h.5, good.0) in
      let x : (half ≡ bytes_v h.2 (bytes_cs h.3 rest)) × (count ≡ length h.1) × Came (code_es v h.1) a b = p h.1 (bytes_v h.2 (bytes_cs h.3 rest)) h.6 good.1 good.3 in
      let y : (to ≡ bytes_cs h.3 rest) × Came (transfers way.Store h.2 8) d e = stores h.2 (bytes_cs h.3 rest) x.0 (omega (arith, good.2)) good.4 in
      let l : Came (load_registers (slots_from v (length h.1)) 8) b c =
      subst (λ (is : List Instruction). Came is b c) (loads_are (slots_from v (length h.1)) 8) (subst (λ (k : ℕ). Came (transfers way.Load (slots_from v k) 8) b c) x.1 loads) in
      let s : Came (store_registers h.2 8) d e = subst (λ (is : List Instruction). Came is d e) (stores_are h.2 8) y.1 in
      let j : Came (call_at (by_table ss h.0)) c d = subst (λ (n : ℕ). Came (call_at (by_table ss n)) c d) same jump in
      done_for m (call h.0 h.1 h.2) cs h.3 rest to a e is (cc) (
        y.0,
        came_and (code_es v h.1) (load_registers (slots_from v (length h.1)) 8 ++ (call_at (by_table ss h.0) ++ store_registers h.2 8)) a b e x.2
            (came_and (load_registers (slots_from v (length h.1)) 8) (call_at (by_table ss h.0) ++ store_registers h.2 8) b c e l
            (came_and (call_at (by_table ss h.0)) (store_registers h.2 8) c d e j s)),
      )

  pub on_from : (x d : ℕ) (a b : Code) → u ≡ From x d → Came (Lui 6 doors_upper ∷ (Load Lw 5 6 (4 * (d % 256)) ∷ (store_slot 5 (x % 1024) ∷ []))) a b → EmitsC ss v k all mid a b
  unfolding code_c
  on_from x d a b i p m cs rest here valid =
      let h : HeadsCs (From x d) mid (more m cs) rest = heads (From x d) i m cs rest here in
      let is : m ≡ from_door h.0 h.1 = cc in
      let good : ValidC k (from_door h.0 h.1) = subst (λ (c : Cmd). ValidC k c) is valid in
      let same : x % 1024 ≡ h.0 = omega (arith, h.4, good.0) in
      let same' : d % 256 ≡ h.1 = omega (arith, h.5, good.1) in
      done_for m (from_door h.0 h.1) cs h.2 rest mid a b is (cc) (
        h.6,
        subst (λ (n : ℕ). Came (Lui 6 doors_upper ∷ (Load Lw 5 6 (4 * h.1) ∷ (store_slot 5 n ∷ []))) a b) same
            (subst (λ (n : ℕ). Came (Lui 6 doors_upper ∷ (Load Lw 5 6 (4 * n) ∷ (store_slot 5 (x % 1024) ∷ []))) a b) same' p),
      )

  pub on_to : (d : ℕ) (to : List ℕ) (a b c : Code) → u ≡ To d → Emits v 32 mid to a b → Came (Lui 6 doors_upper ∷ (Store Sw 5 6 (4 * (d % 256)) ∷ [])) b c → EmitsC ss v k all to a c
  unfolding code_c
  on_to d to a b c i p q m cs rest here valid =
      let h : HeadsCs (To d) mid (more m cs) rest = heads (To d) i m cs rest here in
      let is : m ≡ to_door h.0 h.1 = cc in
      let good : ValidC k (to_door h.0 h.1) = subst (λ (c : Cmd). ValidC k c) is valid in
      let same : d % 256 ≡ h.0 = omega (arith, h.4, good.0) in
      let x : (to ≡ bytes_cs h.2 rest) × Came (code_e v h.1) a b = p h.1 (bytes_cs h.2 rest) h.5 good.1 in
      done_for m (to_door h.0 h.1) cs h.2 rest to a c is (cc)
      (x.0, came_and (code_e v h.1) (Lui 6 doors_upper ∷ (Store Sw 5 6 (4 * h.0) ∷ [])) a b c x.1 (subst (λ (n : ℕ). Came (Lui 6 doors_upper ∷ (Store Sw 5 6 (4 * n) ∷ [])) b c) same q))

  pub on_if_deep : (to : List ℕ) (a b : Code) → u ≡ If → k ≡ 0 → EmitsC ss v k all to a b
  on_if_deep to a b i z m cs rest here valid =
      let s : HeadsCs If mid (more m cs) rest = heads If i m cs rest here in
      let is : m ≡ if_then s.0 s.1 s.2 = cc in
      absurd (omega (arith, z, (subst (λ (c : Cmd). ValidC k c) is valid).0))

  pub on_while_deep : (to : List ℕ) (a b : Code) → u ≡ While → k ≡ 0 → EmitsC ss v k all to a b
  on_while_deep to a b i z m cs rest here valid =
      let s : HeadsCs While mid (more m cs) rest = heads While i m cs rest here in
      let is : m ≡ while s.0 s.1 = cc in
      absurd (omega (arith, z, (subst (λ (c : Cmd). ValidC k c) is valid).0))

  pub on_other : (to : List ℕ) (a b : Code) → ((x : ℕ) → u ≡ Set x → ⊥) → ((z : ℕ) → u ≡ StoreOf z → ⊥) → (u ≡ If → ⊥) → (u ≡ While → ⊥) → ((g : ℕ) → u ≡ Call g → ⊥) →
      ((x d : ℕ) → u ≡ From x d → ⊥) → ((d : ℕ) → u ≡ To d → ⊥) → EmitsC ss v k all to a b
  on_other to a b n1 n2 n3 n4 n5 n6 n7 m cs rest here valid = absurd (no_head u mid m cs rest n1 n2 n3 n4 n5 n6 n7 (heads u refl m cs rest here))

-- COMMANDS: those that are still to come stand where reading has come to
pub record Standing (ss : List ℕ) (v k : ℕ) (rest : List ℕ) (cs : Cmds) (now : List ℕ) (a b : Code) (ds : Cmds) : Type 0 where
  pub stand : now ≡ bytes_cs ds rest
  pub valid : ValidCs k ds
  pub come : (d : Code) → Came (code_cs (by_table ss) v ds) b d → Came (code_cs (by_table ss) v cs) a d

abbrev pub SoFar : List ℕ → ℕ → ℕ → List ℕ → List ℕ → Code → Code → Type 0
SoFar ss v k from now a b = (cs : Cmds) (rest : List ℕ) → from ≡ bytes_cs cs rest → ValidCs k cs → (ds : Cmds) × Standing ss v k rest cs now a b ds

pub none_yet : (ss : List ℕ) (v k : ℕ) (from : List ℕ) (a : Code) → SoFar ss v k from from a a
none_yet ss v k from a cs rest q valid = (cs, record { stand = q; valid = valid; come = λ d p. p })

module _ (ss : List ℕ) (v k : ℕ) (from now : List ℕ) (a b : Code) (so : SoFar ss v k from now a b) where
  pub cut_short : (to : List ℕ) → lex now ≡ None → EmitsCs ss v k from to a b
  cut_short to n cs rest q valid =
      let w : (ds : Cmds) × Standing ss v k rest cs now a b ds = so cs rest q valid in absurd (not_cs now n w.0 rest w.1.stand)

  module _ (u : Token) (to : List ℕ) (is : lex now ≡ Some (u, to)) where
    pub all_done : u ≡ End → EmitsCs ss v k from to a b
    unfolding code_cs
    all_done i cs rest q valid =
        let w : (ds : Cmds) × Standing ss v k rest cs now a b ds = so cs rest q valid in
        let h : HeadsCs End to w.0 rest = subst (λ (x : Token). HeadsCs x to w.0 rest) i (head_cs w.0 rest to u (ap lex (sym w.1.stand) ∙ is)) in
        (h.1, w.1.come b (subst (λ (ds : Cmds). Came (code_cs (by_table ss) v ds) b b) (sym h.0) (came_none b)))

    pub one_more : (at : List ℕ) (c : Code) → (u ≡ End → ⊥) → EmitsAfter u ss v k to at b c → SoFar ss v k from at a c
    unfolding code_cs
    one_more at c n p cs rest q valid = next (so cs rest q valid).0 (so cs rest q valid).1
      where
        next : (ds : Cmds) → Standing ss v k rest cs now a b ds → (es : Cmds) × Standing ss v k rest cs at a c es
        next none w = absurd (n (sym (same_token (lex now) End u rest to (ap lex w.stand ∙ lex_end_byte rest) is).0))
        next (more m ds) w =
            let x : (at ≡ bytes_cs ds rest) × Came (code_c (by_table ss) v m) b c = p now is m ds rest w.stand w.valid.0 in
            (ds, record { stand = x.0; valid = w.valid.1; come = λ d r. w.come d (came_and (code_c (by_table ss) v m) (code_cs (by_table ss) v ds) b c d x.1 r) })
