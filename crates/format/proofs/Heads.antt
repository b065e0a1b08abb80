-- The token at the front of a tree's bytes, and what the tree must have been.
use Rattle.std.proofs.Common.{◌≡◌, ℕ, ◌<◌, ◌≤◌, List, [], ◌∷◌, Some, None, Option, sym, refl, ap, ◌∙◌, subst, arith}
use Rattle.model.specs.Source.{Op, add, sub, mul, mul_high, div, rem, and, or, xor, shift_right, shift_left, shift_signed, less_s, less, equal, Expr, word, var, load, op, if_not_zero, Cmd, set, store, if_then, while, call, from_door, to_door, Cmds, none, more, Function, Program}
use Rattle.words.specs.Operators.{op_of}
use Rattle.format.specs.Format.{tag_of, bytes_n, bytes_e, bytes_es, bytes_v, bytes_c, bytes_cs, bytes_p}
use Rattle.format.specs.declared.token.Token.{Token}
use Rattle.format.specs.declared.token.Token.TheVariants.{End, Word, Var, Load, Choice, Operator as Binary, Set, Store, If, While, Call, From, To, Function as Header}
use Rattle.format.specs.Tokens.{cap, count, operator_at, token_of, operator_of, one, one_more, two, lex}
use Rattle.format.proofs.Numbers.{reads_n}

pub never : {A : Type 0} (o : Option A) (a : A) → o ≡ None → o ≡ Some a → ⊥
never o a p q = cc

-- one token at most stands at the front
pub same_token : (o : Option (Token × List ℕ)) (t u : Token) (a b : List ℕ) → o ≡ Some (t, a) → o ≡ Some (u, b) → (t ≡ u) × (a ≡ b)
same_token o t u a b p q =
    let e : ◌≡◌ {A = Token × List ℕ} (t, a) (u, b) = cc in (ap (λ (x : Token × List ℕ). x.0) e, ap (λ (x : Token × List ℕ). x.1) e)

pub op_of_operator_of : (o : Op) → op_of (operator_of o) ≡ o
op_of_operator_of add = refl
op_of_operator_of sub = refl
op_of_operator_of mul = refl
op_of_operator_of mul_high = refl
op_of_operator_of div = refl
op_of_operator_of rem = refl
op_of_operator_of and = refl
op_of_operator_of or = refl
op_of_operator_of xor = refl
op_of_operator_of shift_right = refl
op_of_operator_of shift_left = refl
op_of_operator_of shift_signed = refl
op_of_operator_of less_s = refl
op_of_operator_of less = refl
op_of_operator_of equal = refl

lex_op : (o : Op) (r : List ℕ) → lex (tag_of o ∷ r) ≡ Some (Binary (operator_of o), r)
unfolding lex count operator_at token_of
lex_op add r = refl
lex_op sub r = refl
lex_op mul r = refl
lex_op mul_high r = refl
lex_op div r = refl
lex_op rem r = refl
lex_op and r = refl
lex_op or r = refl
lex_op xor r = refl
lex_op shift_right r = refl
lex_op shift_left r = refl
lex_op shift_signed r = refl
lex_op less_s r = refl
lex_op less r = refl
lex_op equal r = refl

-- expressions
abbrev pub first_e : Expr → Token
first_e (word n) = Word (cap n)
first_e (var x) = Var (cap x)
first_e (load n e) = Load (cap n)
first_e (op o d e) = Binary (operator_of o)
first_e (if_not_zero c d e) = Choice

abbrev pub rest_e : Expr → List ℕ → List ℕ
rest_e (word n) r = r
rest_e (var x) r = r
rest_e (load n e) r = bytes_e e r
rest_e (op o d e) r = bytes_e d (bytes_e e r)
rest_e (if_not_zero c d e) r = bytes_e c (bytes_e d (bytes_e e r))

pub lex_e : (e : Expr) (r : List ℕ) → lex (bytes_e e r) ≡ Some (first_e e, rest_e e r)
unfolding lex count token_of
lex_e (word n) r = ap (one 1) (reads_n n r)
lex_e (var n) r = ap (one 2) (reads_n n r)
lex_e (load n e) r = ap (one 3) (reads_n n (bytes_e e r))
lex_e (op o d e) r = lex_op o (bytes_e d (bytes_e e r))
lex_e (if_not_zero c d e) r = refl

-- of the token at the front of an expression's bytes before r, and what follows it: what the expression was
abbrev pub HeadsE : Token → List ℕ → Expr → List ℕ → Type 0
HeadsE (Word v) bs e r = (n : ℕ) × (e ≡ word n) × (v ≡ cap n) × (bs ≡ r)
HeadsE (Var v) bs e r = (x : ℕ) × (e ≡ var x) × (v ≡ cap x) × (bs ≡ r)
HeadsE (Load v) bs e r = (n : ℕ) × (d : Expr) × (e ≡ load n d) × (v ≡ cap n) × (bs ≡ bytes_e d r)
HeadsE Choice bs e r = (c : Expr) × (d : Expr) × (f : Expr) × (e ≡ if_not_zero c d f) × (bs ≡ bytes_e c (bytes_e d (bytes_e f r)))
HeadsE (Binary o) bs e r = (d : Expr) × (f : Expr) × (e ≡ op (op_of o) d f) × (bs ≡ bytes_e d (bytes_e f r))
HeadsE _ bs e r = ⊥

own_e : (e : Expr) (bs r : List ℕ) → bs ≡ rest_e e r → HeadsE (first_e e) bs e r
own_e (word n) bs r q = (n, refl, refl, q)
own_e (var n) bs r q = (n, refl, refl, q)
own_e (load n e) bs r q = (n, e, refl, refl, q)
own_e (op o d e) bs r q = (d, e, ap (λ (x : Op). op x d e) (sym (op_of_operator_of o)), q)
own_e (if_not_zero c d e) bs r q = (c, d, e, refl, q)

pub head_e : (e : Expr) (r bs : List ℕ) (t : Token) → lex (bytes_e e r) ≡ Some (t, bs) → HeadsE t bs e r
head_e e r bs t q =
    let w : (first_e e ≡ t) × (rest_e e r ≡ bs) = same_token (lex (bytes_e e r)) (first_e e) t (rest_e e r) bs (lex_e e r) q in
    subst (λ (u : Token). HeadsE u bs e r) w.0 (own_e e bs r (sym w.1))

-- variables
abbrev pub HeadsV : Token → List ℕ → List ℕ → List ℕ → Type 0
HeadsV End bs xs r = (xs ≡ []) × (bs ≡ r)
HeadsV (Var v) bs xs r = (x : ℕ) × (ys : List ℕ) × (xs ≡ x ∷ ys) × (v ≡ cap x) × (bs ≡ bytes_v ys r)
HeadsV _ bs xs r = ⊥

pub lex_end_byte : (r : List ℕ) → lex (0 ∷ r) ≡ Some (End, r)
unfolding lex count token_of
lex_end_byte r = refl

pub lex_var : (x : ℕ) (r : List ℕ) → lex (2 ∷ bytes_n x r) ≡ Some (Var (cap x), r)
unfolding lex count token_of
lex_var x r = ap (one 2) (reads_n x r)

pub head_v : (xs r bs : List ℕ) (t : Token) → lex (bytes_v xs r) ≡ Some (t, bs) → HeadsV t bs xs r
head_v [] r bs t q =
    let w : (End ≡ t) × (r ≡ bs) = same_token (lex (0 ∷ r)) End t r bs (lex_end_byte r) q in
    subst (λ (u : Token). HeadsV u bs [] r) w.0 (refl, sym w.1)
head_v (x ∷ xs) r bs t q =
    let w : (Var (cap x) ≡ t) × (bytes_v xs r ≡ bs) = same_token (lex (bytes_v (x ∷ xs) r)) (Var (cap x)) t (bytes_v xs r) bs (lex_var x (bytes_v xs r)) q in
    subst (λ (u : Token). HeadsV u bs (x ∷ xs) r) w.0 (x, xs, refl, refl, sym w.1)

-- expressions in a row: the end, or one more
abbrev pub HeadsEs : Token → List ℕ → List Expr → List ℕ → Type 0
HeadsEs End bs es r = (es ≡ []) × (bs ≡ r)
HeadsEs (Word v) bs es r = (e : Expr) × (fs : List Expr) × (es ≡ e ∷ fs)
HeadsEs (Var v) bs es r = (e : Expr) × (fs : List Expr) × (es ≡ e ∷ fs)
HeadsEs (Load v) bs es r = (e : Expr) × (fs : List Expr) × (es ≡ e ∷ fs)
HeadsEs Choice bs es r = (e : Expr) × (fs : List Expr) × (es ≡ e ∷ fs)
HeadsEs (Binary o) bs es r = (e : Expr) × (fs : List Expr) × (es ≡ e ∷ fs)
HeadsEs (Set v) bs es r = ⊥
HeadsEs (Store v) bs es r = ⊥
HeadsEs If bs es r = ⊥
HeadsEs While bs es r = ⊥
HeadsEs (Call v) bs es r = ⊥
HeadsEs (From v w) bs es r = ⊥
HeadsEs (To v) bs es r = ⊥
HeadsEs (Header v w) bs es r = ⊥

own_es : (e : Expr) (fs : List Expr) (bs r : List ℕ) → HeadsEs (first_e e) bs (e ∷ fs) r
own_es (word n) fs bs r = (word n, fs, refl)
own_es (var n) fs bs r = (var n, fs, refl)
own_es (load n e) fs bs r = (load n e, fs, refl)
own_es (op o d e) fs bs r = (op o d e, fs, refl)
own_es (if_not_zero c d e) fs bs r = (if_not_zero c d e, fs, refl)

pub head_es : (es : List Expr) (r bs : List ℕ) (t : Token) → lex (bytes_es es r) ≡ Some (t, bs) → HeadsEs t bs es r
head_es [] r bs t q =
    let w : (End ≡ t) × (r ≡ bs) = same_token (lex (0 ∷ r)) End t r bs (lex_end_byte r) q in
    subst (λ (u : Token). HeadsEs u bs [] r) w.0 (refl, sym w.1)
head_es (e ∷ es) r bs t q =
    let w : (first_e e ≡ t) × (rest_e e (bytes_es es r) ≡ bs) = same_token (lex (bytes_e e (bytes_es es r))) (first_e e) t (rest_e e (bytes_es es r)) bs (lex_e e (bytes_es es r)) q in
    subst (λ (u : Token). HeadsEs u bs (e ∷ es) r) w.0 (own_es e es bs r)

-- commands
abbrev pub first_c : Cmd → Token
first_c (set x e) = Set (cap x)
first_c (store n d e) = Store (cap n)
first_c (if_then e cs ds) = If
first_c (while e cs) = While
first_c (call g es xs) = Call (cap g)
first_c (from_door x d) = From (cap x) (cap d)
first_c (to_door d e) = To (cap d)

abbrev pub rest_c : Cmd → List ℕ → List ℕ
rest_c (set x e) r = bytes_e e r
rest_c (store n d e) r = bytes_e d (bytes_e e r)
rest_c (if_then e cs ds) r = bytes_e e (bytes_cs cs (bytes_cs ds r))
rest_c (while e cs) r = bytes_e e (bytes_cs cs r)
rest_c (call g es xs) r = bytes_es es (bytes_v xs r)
rest_c (from_door x d) r = r
rest_c (to_door d e) r = bytes_e e r

pub lex_c : (c : Cmd) (r : List ℕ) → lex (bytes_c c r) ≡ Some (first_c c, rest_c c r)
unfolding lex count token_of
lex_c (set x e) r = ap (one 32) (reads_n x (bytes_e e r))
lex_c (store n d e) r = ap (one 33) (reads_n n (bytes_e d (bytes_e e r)))
lex_c (if_then e cs ds) r = refl
lex_c (while e cs) r = refl
lex_c (call g es xs) r = ap (one 36) (reads_n g (bytes_es es (bytes_v xs r)))
lex_c (from_door x d) r = ap (two 37) (reads_n x (bytes_n d r)) ∙ ap (one_more 37 (cap x)) (reads_n d r)
lex_c (to_door d e) r = ap (one 38) (reads_n d (bytes_e e r))

abbrev pub HeadsCs : Token → List ℕ → Cmds → List ℕ → Type 0
HeadsCs End bs ds r = (ds ≡ none) × (bs ≡ r)
HeadsCs (Set v) bs ds r = (x : ℕ) × (e : Expr) × (cs : Cmds) × (ds ≡ more (set x e) cs) × (v ≡ cap x) × (bs ≡ bytes_e e (bytes_cs cs r))
HeadsCs (Store v) bs ds r = (n : ℕ) × (d : Expr) × (e : Expr) × (cs : Cmds) × (ds ≡ more (store n d e) cs) × (v ≡ cap n) × (bs ≡ bytes_e d (bytes_e e (bytes_cs cs r)))
HeadsCs If bs ds r = (e : Expr) × (ts : Cmds) × (es : Cmds) × (cs : Cmds) × (ds ≡ more (if_then e ts es) cs) × (bs ≡ bytes_e e (bytes_cs ts (bytes_cs es (bytes_cs cs r))))
HeadsCs While bs ds r = (e : Expr) × (ts : Cmds) × (cs : Cmds) × (ds ≡ more (while e ts) cs) × (bs ≡ bytes_e e (bytes_cs ts (bytes_cs cs r)))
HeadsCs (Call v) bs ds r =
    (g : ℕ) × (es : List Expr) × (xs : List ℕ) × (cs : Cmds) × (ds ≡ more (call g es xs) cs) × (v ≡ cap g) × (bs ≡ bytes_es es (bytes_v xs (bytes_cs cs r)))
HeadsCs (From v w) bs ds r = (x : ℕ) × (d : ℕ) × (cs : Cmds) × (ds ≡ more (from_door x d) cs) × (v ≡ cap x) × (w ≡ cap d) × (bs ≡ bytes_cs cs r)
HeadsCs (To v) bs ds r = (d : ℕ) × (e : Expr) × (cs : Cmds) × (ds ≡ more (to_door d e) cs) × (v ≡ cap d) × (bs ≡ bytes_e e (bytes_cs cs r))
HeadsCs _ bs ds r = ⊥

own_c : (c : Cmd) (cs : Cmds) (bs r : List ℕ) → bs ≡ rest_c c (bytes_cs cs r) → HeadsCs (first_c c) bs (more c cs) r
own_c (set x e) cs bs r q = (x, e, cs, refl, refl, q)
own_c (store n d e) cs bs r q = (n, d, e, cs, refl, refl, q)
own_c (if_then e ts es) cs bs r q = (e, ts, es, cs, refl, q)
own_c (while e ts) cs bs r q = (e, ts, cs, refl, q)
own_c (call g es xs) cs bs r q = (g, es, xs, cs, refl, refl, q)
own_c (from_door x d) cs bs r q = (x, d, cs, refl, refl, refl, q)
own_c (to_door d e) cs bs r q = (d, e, cs, refl, refl, q)

pub head_cs : (ds : Cmds) (r bs : List ℕ) (t : Token) → lex (bytes_cs ds r) ≡ Some (t, bs) → HeadsCs t bs ds r
head_cs none r bs t q =
    let w : (End ≡ t) × (r ≡ bs) = same_token (lex (0 ∷ r)) End t r bs (lex_end_byte r) q in
    subst (λ (u : Token). HeadsCs u bs none r) w.0 (refl, sym w.1)
head_cs (more c cs) r bs t q =
    let w : (first_c c ≡ t) × (rest_c c (bytes_cs cs r) ≡ bs) = same_token (lex (bytes_c c (bytes_cs cs r))) (first_c c) t (rest_c c (bytes_cs cs r)) bs (lex_c c (bytes_cs cs r)) q in
    subst (λ (u : Token). HeadsCs u bs (more c cs) r) w.0 (own_c c cs bs r (sym w.1))

-- functions
pub lex_f : (f : Function) (r : List ℕ) → lex (48 ∷ bytes_n f.arguments (bytes_n f.variables r)) ≡ Some (Header (cap f.arguments) (cap f.variables), r)
unfolding lex count token_of
lex_f f r = ap (two 48) (reads_n f.arguments (bytes_n f.variables r)) ∙ ap (one_more 48 (cap f.arguments)) (reads_n f.variables r)

abbrev pub HeadsP : Token → List ℕ → Program → List ℕ → Type 0
HeadsP End bs p r = (p ≡ []) × (bs ≡ r)
HeadsP (Header v w) bs p r = (f : Function) × (fs : Program) × (p ≡ f ∷ fs) × (v ≡ cap f.arguments) × (w ≡ cap f.variables) × (bs ≡ bytes_v f.results (bytes_cs f.body (bytes_p fs r)))
HeadsP _ bs p r = ⊥

pub head_p : (p : Program) (r bs : List ℕ) (t : Token) → lex (bytes_p p r) ≡ Some (t, bs) → HeadsP t bs p r
head_p [] r bs t q =
    let w : (End ≡ t) × (r ≡ bs) = same_token (lex (0 ∷ r)) End t r bs (lex_end_byte r) q in
    subst (λ (u : Token). HeadsP u bs [] r) w.0 (refl, sym w.1)
head_p (f ∷ fs) r bs t q =
    let xs : List ℕ = bytes_v f.results (bytes_cs f.body (bytes_p fs r)) in
    let w : (Header (cap f.arguments) (cap f.variables) ≡ t) × (xs ≡ bs) =
    same_token (lex (bytes_p (f ∷ fs) r)) (Header (cap f.arguments) (cap f.variables)) t xs bs (lex_f f xs) q in
    subst (λ (u : Token). HeadsP u bs (f ∷ fs) r) w.0 (f, fs, refl, refl, refl, sym w.1)

-- some token stands at the front of a tree's bytes
module _ (now : List ℕ) (s : lex now ≡ None) where
  pub not_e : (e : Expr) (r : List ℕ) → now ≡ bytes_e e r → ⊥
  not_e e r q = never (lex now) (first_e e, rest_e e r) s (ap lex q ∙ lex_e e r)

  pub not_end : (r : List ℕ) → now ≡ 0 ∷ r → ⊥
  not_end r q = never (lex now) (End, r) s (ap lex q ∙ lex_end_byte r)

  pub not_v : (xs r : List ℕ) → now ≡ bytes_v xs r → ⊥
  not_v [] r q = not_end r q
  not_v (x ∷ xs) r q = never (lex now) (Var (cap x), bytes_v xs r) s (ap lex q ∙ lex_var x (bytes_v xs r))

  pub not_cs : (cs : Cmds) (r : List ℕ) → now ≡ bytes_cs cs r → ⊥
  not_cs none r q = not_end r q
  not_cs (more c cs) r q = never (lex now) (first_c c, rest_c c (bytes_cs cs r)) s (ap lex q ∙ lex_c c (bytes_cs cs r))

  pub not_p : (p : Program) (r : List ℕ) → now ≡ bytes_p p r → ⊥
  not_p [] r q = not_end r q
  not_p (f ∷ fs) r q =
      let xs : List ℕ = bytes_v f.results (bytes_cs f.body (bytes_p fs r)) in
      never (lex now) (Header (cap f.arguments) (cap f.variables), xs) s (ap lex q ∙ lex_f f xs)

-- a number that was not capped is itself
pub uncapped : (v n k : ℕ) → v ≡ cap n → v < k → k ≤ 18446744073709551615 → v ≡ n
uncapped v n k e h l = omega arith
