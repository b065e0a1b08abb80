-- An expression, by the token at its front.
use Rattle.std.proofs.Common.{◌≡◌, ℕ, suc, ◌+◌, ◌-◌, ◌%◌, true, eqb, List, [], ◌∷◌, ◌++◌, Some, None, sym, refl, ap, ◌∙◌, subst, inl, inr, add-one, arith, eqb-true}
use Rattle.std.proofs.lemmas.Bool.{or_cases}
use Rattle.model.specs.Source.{Expr, word, var, load, op, if_not_zero}
use Rattle.model.specs.Promise.{good_size}
use Rattle.format.specs.Format.{bytes_e}
use Rattle.format.specs.Tokens.{cap, lex}
use Rattle.format.specs.declared.token.Token.{Token}
use Rattle.format.specs.declared.token.Token.TheVariants.{End, Word, Var, Load as LoadOf, Choice, Operator as Binary, Set, Store, If, While, Call, From, To, Function as Header}
use Rattle.format.proofs.Heads.{HeadsE, head_e, never, first_e, rest_e, lex_e, same_token}
use Rattle.words.specs.declared.operator.Operator.{Operator}
use Rattle.words.specs.Operators.{op_of}
use Rattle.riscv.specs.declared.instruction.LoadOp.{LoadOp}
use Rattle.riscv.specs.declared.instruction.Instruction.TheVariants.{Load}
use Rattle.codegen.specs.declared.code.Code.{Code}
use Rattle.codegen.specs.declared.code.OpenJump.{OpenJump}
use Rattle.codegen.specs.Frame.{load_slot, store_slot}
use Rattle.codegen.specs.Expressions.{code_e, code_op, load_of, either}
use Rattle.codegen.specs.Valid.{ValidE}
use Rattle.codegen.specs.Coding.{Came, Opens, Tests, Lands, Emits}
use Rattle.codegen.proofs.Coding.{came_and, came_cons, came_either}

-- 1, 2 or 4 is not capped
pub size_uncapped : (v n : ℕ) → v ≡ cap n → good_size n ≡ true → v ≡ n
size_uncapped v n e g = elim (or_cases (eqb n 1) _ g) [
  | inl a ↦ omega (arith, eqb-true n 1 a)
  | inr b ↦ elim (or_cases (eqb n 2) (eqb n 4) b) [ inl x ↦ omega (arith, eqb-true n 2 x) | inr y ↦ omega (arith, eqb-true n 4 y) ]
]

-- no other token is the head of an expression
pub no_head : (u : Token) (bs : List ℕ) (e : Expr) (rest : List ℕ) → ((v : ℕ) → u ≡ Word v → ⊥) → ((v : ℕ) → u ≡ Var v → ⊥) → ((v : ℕ) → u ≡ LoadOf v → ⊥) → ((o : Operator) → u ≡ Binary o → ⊥) → (u ≡ Choice → ⊥) →
    HeadsE u bs e rest → ⊥
no_head End bs e rest w v l o c h = h
no_head (Word n) bs e rest w v l o c h = w n refl
no_head (Var n) bs e rest w v l o c h = v n refl
no_head (LoadOf n) bs e rest w v l o c h = l n refl
no_head Choice bs e rest w v l o c h = c refl
no_head (Binary x) bs e rest w v l o c h = o x refl
no_head (Set n) bs e rest w v l o c h = h
no_head (Store n) bs e rest w v l o c h = h
no_head If bs e rest w v l o c h = h
no_head While bs e rest w v l o c h = h
no_head (Call n) bs e rest w v l o c h = h
no_head (From n m) bs e rest w v l o c h = h
no_head (To n) bs e rest w v l o c h = h
no_head (Header n m) bs e rest w v l o c h = h

pub emits_none : (from to : List ℕ) (t k : ℕ) (a b : Code) → lex from ≡ None → Emits t k from to a b
emits_none from to t k a b n e rest q valid = absurd (never (lex from) (first_e e, rest_e e rest) n (ap lex q ∙ lex_e e rest))

-- AN EXPRESSION, BY THE TOKEN AT ITS FRONT
module _ (from mid : List ℕ) (u : Token) (is : lex from ≡ Some (u, mid)) (t k : ℕ) where
  heads : (v : Token) → u ≡ v → (e : Expr) (rest : List ℕ) → from ≡ bytes_e e rest → HeadsE v mid e rest
  heads v i e rest q = subst (λ (x : Token). HeadsE x mid e rest) i (head_e e rest mid u (ap lex (sym q) ∙ is))

  first_is : (e : Expr) (rest : List ℕ) → from ≡ bytes_e e rest → u ≡ first_e e
  first_is e rest q = sym (same_token (lex (bytes_e e rest)) (first_e e) u (rest_e e rest) mid (lex_e e rest) (ap lex (sym q) ∙ is)).0

  pub emits_word : (v : ℕ) (a b : Code) → u ≡ Word v → Came (code_e 0 (word (v % 4294967296))) a b → Emits t k from mid a b
  unfolding code_e
  emits_word v a b i p e rest q valid =
      let h : HeadsE (Word v) mid e rest = heads (Word v) i e rest q in
      let small : ValidE k (word h.0) = subst (λ (x : Expr). ValidE k x) h.1 valid in
      let same : v % 4294967296 ≡ h.0 = omega (arith, h.2) in
      (h.3, subst (λ (x : Expr). Came (code_e t x) a b) (sym h.1) (subst (λ (m : ℕ). Came (code_e t (word m)) a b) same p))

  pub emits_var : (x : ℕ) (a b : Code) → u ≡ Var x → Came (load_slot 5 (x % 1024) ∷ []) a b → Emits t k from mid a b
  unfolding code_e
  emits_var x a b i p e rest q valid =
      let h : HeadsE (Var x) mid e rest = heads (Var x) i e rest q in
      let small : ValidE k (var h.0) = subst (λ (y : Expr). ValidE k y) h.1 valid in
      let same : x % 1024 ≡ h.0 = omega (arith, h.2) in
      (h.3, subst (λ (y : Expr). Came (code_e t y) a b) (sym h.1) (subst (λ (m : ℕ). Came (code_e t (var m)) a b) same p))

  pub emits_load : (v : ℕ) (o : LoadOp) (to : List ℕ) (a b c : Code) → u ≡ LoadOf v → o ≡ load_of v → Emits t (k - 1) mid to a b → Came (Load o 5 5 0 ∷ []) b c → Emits t k from to a c
  unfolding code_e
  emits_load v o to a b c i n p q e rest r valid =
      let h : HeadsE (LoadOf v) mid e rest = heads (LoadOf v) i e rest r in
      let good : ValidE k (load h.0 h.1) = subst (λ (x : Expr). ValidE k x) h.2 valid in
      let same : v ≡ h.0 = size_uncapped v h.0 h.3 good.1 in
      let d : (to ≡ rest) × Came (code_e t h.1) a b = p h.1 rest h.4 good.2 in
      let last : Came (Load (load_of h.0) 5 5 0 ∷ []) b c = subst (λ (x : LoadOp). Came (Load x 5 5 0 ∷ []) b c) (n ∙ ap load_of same) q in
      (d.0, subst (λ (x : Expr). Came (code_e t x) a c) (sym h.2) (came_and (code_e t h.1) (Load (load_of h.0) 5 5 0 ∷ []) a b c d.1 last))

  pub emits_operation : (o : Operator) (half to : List ℕ) (a b c d e f : Code) → u ≡ Binary o → Emits t (k - 1) mid half a b → Came (store_slot 5 t ∷ []) b c → Emits (t + 1) (k - 1) half to c d →
      Came (load_slot 6 t ∷ []) d e → Came (code_op (op_of o)) e f → Emits t k from to a f
  unfolding code_e
  emits_operation o half to a b c d e f i first store second reload last x rest r valid =
      let h : HeadsE (Binary o) mid x rest = heads (Binary o) i x rest r in
      let good : ValidE k (op (op_of o) h.0 h.1) = subst (λ (y : Expr). ValidE k y) h.2 valid in
      let y : (half ≡ bytes_e h.1 rest) × Came (code_e t h.0) a b = first h.0 (bytes_e h.1 rest) h.3 good.1 in
      let z : (to ≡ rest) × Came (code_e (t + 1) h.1) c d = second h.1 rest y.0 good.2 in
      let w : Came (code_e (suc t) h.1) c d = subst (λ (n : ℕ). Came (code_e n h.1) c d) (add-one t) z.1 in (
        z.0,
        subst (λ (v : Expr). Came (code_e t v) a f) (sym h.2)
            (came_and (code_e t h.0) (store_slot 5 t ∷ (code_e (suc t) h.1 ++ (load_slot 6 t ∷ code_op (op_of o)))) a b f y.1
            (came_cons (store_slot 5 t) (code_e (suc t) h.1 ++ (load_slot 6 t ∷ code_op (op_of o))) b c f store
            (came_and (code_e (suc t) h.1) (load_slot 6 t ∷ code_op (op_of o)) c d f w (came_cons (load_slot 6 t) (code_op (op_of o)) d e f reload last)))),
      )

  pub emits_choice : (mid1 mid2 to : List ℕ) (i j : OpenJump) (z a b c d e f g : Code) → u ≡ Choice → Emits t (k - 1) mid mid1 z a → Tests i a b → Emits t (k - 1) mid1 mid2 b c → Opens j c d →
      Lands i d e → Emits t (k - 1) mid2 to e f → Lands j f g → Emits t k from to z g
  unfolding code_e
  emits_choice mid1 mid2 to i j z a b c d e f g first test skip then jump land1 else land2 x rest r valid =
      let s : HeadsE Choice mid x rest = heads Choice first x rest r in
      let good : ValidE k (if_not_zero s.0 s.1 s.2) = subst (λ (y : Expr). ValidE k y) s.3 valid in
      let o : (mid1 ≡ bytes_e s.1 (bytes_e s.2 rest)) × Came (code_e t s.0) z a = test s.0 (bytes_e s.1 (bytes_e s.2 rest)) s.4 good.1 in
      let p : (mid2 ≡ bytes_e s.2 rest) × Came (code_e t s.1) b c = then s.1 (bytes_e s.2 rest) o.0 good.2 in
      let q : (to ≡ rest) × Came (code_e t s.2) e f = else s.2 rest p.0 good.3 in (
        q.0,
        subst (λ (v : Expr). Came (code_e t v) z g) (sym s.3)
            (came_and (code_e t s.0) (either (code_e t s.1) (code_e t s.2)) z a g o.1
            (came_either (code_e t s.1) (code_e t s.2) i j a b c d e f g skip p.1 jump land1 q.1 land2)),
      )

  -- no expression
  pub emits_deep : (to : List ℕ) (a b : Code) → k ≡ 0 → ((v : ℕ) → u ≡ Word v → ⊥) → ((v : ℕ) → u ≡ Var v → ⊥) → Emits t k from to a b
  emits_deep to a b z w v (word n) rest q valid = absurd (w (cap n) (first_is (word n) rest q))
  emits_deep to a b z w v (var x) rest q valid = absurd (v (cap x) (first_is (var x) rest q))
  emits_deep to a b z w v (load n d) rest q valid = absurd (omega (arith, valid.0, z))
  emits_deep to a b z w v (op o d f) rest q valid = absurd (omega (arith, valid.0, z))
  emits_deep to a b z w v (if_not_zero c d f) rest q valid = absurd (omega (arith, valid.0, z))

  pub emits_other : (to : List ℕ) (a b : Code) → ((v : ℕ) → u ≡ Word v → ⊥) → ((v : ℕ) → u ≡ Var v → ⊥) → ((v : ℕ) → u ≡ LoadOf v → ⊥) → ((o : Operator) → u ≡ Binary o → ⊥) → (u ≡ Choice → ⊥) → Emits t k from to a b
  emits_other to a b w v l o c e rest q valid = absurd (no_head u mid e rest w v l o c (heads u refl e rest q))
