-- Registers and slots, one after the other.
use Rattle.std.proofs.Common.{◌≡◌, ℕ, zero, suc, ◌+◌, ◌-◌, ◌%◌, ◌<◌, ◌≤◌, Bool, true, false, List, [], ◌∷◌, length, Some, None, sym, refl, ap, ◌∙◌, subst, add-one, arith}
use Rattle.format.specs.Format.{bytes_v}
use Rattle.format.specs.Tokens.{lex, Ends}
use Rattle.format.specs.declared.token.Token.{Token}
use Rattle.format.specs.declared.token.Token.TheVariants.{End, Word, Var, Load as LoadOf, Choice, Operator as Binary, Set, Store as StoreOf, If, While, Call, From, To, Function as Header}
use Rattle.format.proofs.Heads.{HeadsV, head_v, not_v}
use Rattle.riscv.specs.declared.instruction.Instruction.{Instruction}
use Rattle.codegen.specs.declared.code.Code.{Code}
use Rattle.codegen.specs.declared.slots.Transfer.{Transfer}
use Rattle.codegen.specs.declared.slots.Transfer.TheVariants.{Load, Store}
use Rattle.codegen.specs.Commands.{slots_from, load_registers, store_registers}
use Rattle.codegen.specs.Transfers.{transfer_of, transfers}
use Rattle.codegen.specs.Valid.{ValidV}
use Rattle.codegen.specs.Coding.{Came, EmitsV}
use Rattle.codegen.proofs.Coding.{came_none, came_cons}

pub loads_are : (xs : List ℕ) (r : ℕ) → transfers Load xs r ≡ load_registers xs r
unfolding load_registers
loads_are [] r = refl
loads_are (x ∷ xs) r = ap (λ (is : List Instruction). transfer_of Load r x ∷ is) (loads_are xs (suc r))

pub stores_are : (xs : List ℕ) (r : ℕ) → transfers Store xs r ≡ store_registers xs r
unfolding store_registers
stores_are [] r = refl
stores_are (x ∷ xs) r = ap (λ (is : List Instruction). transfer_of Store r x ∷ is) (stores_are xs (suc r))

-- slots that are still to come after k of them
abbrev pub Coming : Transfer → ℕ → ℕ → ℕ → ℕ → Code → Code → Type 0
Coming way r slot count k a b = (d : Code) → Came (transfers way (slots_from (slot + k) (count - k)) (r + k)) b d → Came (transfers way (slots_from slot count) r) a d

pub none_yet : (way : Transfer) (r slot count : ℕ) (a : Code) → Coming way r slot count 0 a a
none_yet way r slot count a d p =
    let e : slot + 0 ≡ slot = omega arith in
    let f : count - 0 ≡ count = omega arith in
    let g : r + 0 ≡ r = omega arith in
    let s : transfers way (slots_from (slot + 0) (count - 0)) (r + 0) ≡ transfers way (slots_from slot count) r = λ i. transfers way (slots_from (e i) (f i)) (g i) in
    subst (λ (is : List Instruction). Came is a d) s p

one_first : (way : Transfer) (slot n r : ℕ) → 0 < n → transfers way (slots_from slot n) r ≡ transfer_of way r slot ∷ transfers way (slots_from (slot + 1) (n - 1)) (r + 1)
unfolding slots_from
one_first way slot zero r h = absurd (omega arith)
one_first way slot (suc n) r h =
    let e : n ≡ suc n - 1 = omega arith in
    let f : suc slot ≡ slot + 1 = omega arith in
    let g : suc r ≡ r + 1 = omega arith in
    λ i. transfer_of way r slot ∷ transfers way (slots_from (f i) (e i)) (g i)

pub one_more : (way : Transfer) (r slot count k : ℕ) (i : Instruction) (a b c : Code) → k < count → i ≡ transfer_of way (r + k) (slot + k) → Came (i ∷ []) b c → Coming way r slot count k a b → Coming way r slot count (k + 1) a c
one_more way r slot count k i a b c h e p q d come =
    let x : (slot + k) + 1 ≡ slot + (k + 1) = omega arith in
    let y : (count - k) - 1 ≡ count - (k + 1) = omega arith in
    let z : (r + k) + 1 ≡ r + (k + 1) = omega arith in
    let s : transfers way (slots_from (slot + k) (count - k)) (r + k) ≡ transfer_of way (r + k) (slot + k) ∷ transfers way (slots_from (slot + (k + 1)) (count - (k + 1))) (r + (k + 1)) =
    one_first way (slot + k) (count - k) (r + k) (omega arith) ∙ (λ j. transfer_of way (r + k) (slot + k) ∷ transfers way (slots_from (x j) (y j)) (z j)) in
    q d (subst (λ (is : List Instruction). Came is b d) (sym s)
    (came_cons (transfer_of way (r + k) (slot + k)) (transfers way (slots_from (slot + (k + 1)) (count - (k + 1))) (r + (k + 1))) b c d (subst (λ (j : Instruction). Came (j ∷ []) b c) e p) come))

pub all_slots : (way : Transfer) (r slot count k : ℕ) (a b : Code) → count ≤ k → Coming way r slot count k a b → Came (transfers way (slots_from slot count) r) a b
unfolding slots_from
all_slots way r slot count k a b h q =
    let e : 0 ≡ count - k = omega arith in
    q b (subst (λ (n : ℕ). Came (transfers way (slots_from (slot + k) n) (r + k)) b b) e (came_none b))

-- variables of a list: those that are still to come stand where reading has come to
pub record Listed (way : Transfer) (first : ℕ) (rest : List ℕ) (xs : List ℕ) (r : ℕ) (now : List ℕ) (a b : Code) (ys : List ℕ) : Type 0 where
  pub stand : now ≡ bytes_v ys rest
  pub few : r + length ys ≤ 32
  pub valid : ValidV ys
  pub come : (d : Code) → Came (transfers way ys r) b d → Came (transfers way xs first) a d

abbrev pub SoFar : Transfer → ℕ → List ℕ → List ℕ → ℕ → Code → Code → Type 0
SoFar way first from now r a b = (xs rest : List ℕ) → from ≡ bytes_v xs rest → first + length xs ≤ 32 → ValidV xs → (ys : List ℕ) × Listed way first rest xs r now a b ys

ends : (u : Token) (bs xs r : List ℕ) → ((x : ℕ) → u ≡ Var x → ⊥) → HeadsV u bs xs r → (xs ≡ []) × (bs ≡ r)
ends End bs xs r n h = h
ends (Word v) bs xs r n h = absurd h
ends (Var v) bs xs r n h = absurd (n v refl)
ends (LoadOf v) bs xs r n h = absurd h
ends Choice bs xs r n h = absurd h
ends (Binary o) bs xs r n h = absurd h
ends (Set v) bs xs r n h = absurd h
ends (StoreOf v) bs xs r n h = absurd h
ends If bs xs r n h = absurd h
ends While bs xs r n h = absurd h
ends (Call v) bs xs r n h = absurd h
ends (From v w) bs xs r n h = absurd h
ends (To v) bs xs r n h = absurd h
ends (Header v w) bs xs r n h = absurd h

module _ (way : Transfer) (first : ℕ) (from now : List ℕ) (r : ℕ) (a b : Code) (so : SoFar way first from now r a b) where
  pub cut_short : (to : List ℕ) → lex now ≡ None → EmitsV way first from to a b
  cut_short to n xs rest q few valid = let w : (ys : List ℕ) × Listed way first rest xs r now a b ys = so xs rest q few valid in absurd (not_v now n w.0 rest w.1.stand)

  -- all registers are used: the list has ended
  pub none_left : (ended : Bool) (to : List ℕ) → r ≡ 32 → Ends now ended to → EmitsV way first from to a b
  none_left ended to full e xs rest q few valid = last ended e (so xs rest q few valid).0 (so xs rest q few valid).1
    where
      last : (ended : Bool) → Ends now ended to → (ys : List ℕ) → Listed way first rest xs r now a b ys → (to ≡ rest) × Came (transfers way xs first) a b
      last true e [] w = (cc, w.come b (came_none b))
      last false e [] w = absurd (e.1 rest w.stand)
      last ended e (y ∷ ys) w = absurd (omega (arith, full, w.few))

  module _ (u : Token) (to : List ℕ) (is : lex now ≡ Some (u, to)) where
    pub all_variables : ((x : ℕ) → u ≡ Var x → ⊥) → EmitsV way first from to a b
    all_variables not xs rest q few valid =
        let w : (ys : List ℕ) × Listed way first rest xs r now a b ys = so xs rest q few valid in
        let h : (w.0 ≡ []) × (to ≡ rest) = ends u to w.0 rest not (head_v w.0 rest to u (ap lex (sym w.1.stand) ∙ is)) in
        (h.1, w.1.come b (subst (λ (ys : List ℕ). Came (transfers way ys r) b b) (sym h.0) (came_none b)))

    head : (x : ℕ) → u ≡ Var x → (ys rest : List ℕ) → now ≡ bytes_v ys rest → HeadsV (Var x) to ys rest
    head x i ys rest q = subst (λ (v : Token). HeadsV v to ys rest) i (head_v ys rest to u (ap lex (sym q) ∙ is))

    pub one_variable : (x : ℕ) (i : Instruction) (c : Code) → u ≡ Var x → i ≡ transfer_of way r (x % 1024) → Came (i ∷ []) b c → SoFar way first from to (r + 1) a c
    one_variable x i c e f p xs rest q few valid =
        let w : (ys : List ℕ) × Listed way first rest xs r now a b ys = so xs rest q few valid in
        let h : HeadsV (Var x) to w.0 rest = head x e w.0 rest w.1.stand in
        let good : ValidV (h.0 ∷ h.1) = subst ValidV h.2 w.1.valid in
        let same : x % 1024 ≡ h.0 = omega (arith, h.3, good.0) in
        let one : Came (transfer_of way r h.0 ∷ []) b c = subst (λ (m : ℕ). Came (transfer_of way r m ∷ []) b c) same (subst (λ (j : Instruction). Came (j ∷ []) b c) f p) in (
          h.1,
          record {
            stand = h.4;
            few = omega (arith, w.1.few, ap length h.2);
            valid = good.1;
            come = λ d s. w.1.come d (subst (λ (ys : List ℕ). Came (transfers way ys r) b d) (sym h.2)
                (came_cons (transfer_of way r h.0) (transfers way h.1 (suc r)) b c d one (subst (λ (m : ℕ). Came (transfers way h.1 m) c d) (add-one r) s)));
          },
        )
