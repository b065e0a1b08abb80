-- A program as tokens, one for each part in the order of its bytes.
use Rattle.std.specs.Prelude.{◌≡◌, ℕ, zero, suc, ◌+◌, ◌*◌, ◌<◌, length, drop, min, Bool, true, false, cond, List, [], ◌∷◌, Some, None, Option, ◌==◌, nat_lt}
use Rattle.model.specs.Source.{Op, add, sub, mul, mul_high, div, rem, and, or, xor, shift_right, shift_left, shift_signed, less_s, less, equal, Expr, word, var, load, op, if_not_zero, Cmd, set, store, if_then, while, call, from_door, to_door, Cmds, none, more, Program}
use Rattle.words.specs.declared.operator.Operator.{Operator}
use Rattle.words.specs.declared.operator.Operator.TheVariants.{Add, Sub, Mul, MulHigh, Div, Rem, And, Or, Xor, ShiftRight, ShiftLeft, ShiftSigned, LessSigned, Less, Equal}
use Rattle.format.specs.declared.token.Token.{Token}
use Rattle.format.specs.declared.token.Token.TheVariants.{End, Word, Var, Load, Choice, Operator as Binary, Set, Store, If, While, Call, From, To, Function as Header}

-- a number, capped at the largest of 64 bits
abbrev pub cap : ℕ → ℕ
cap n = min n 18446744073709551615

abbrev pub further : ℕ → Option (ℕ × List ℕ) → Option (ℕ × List ℕ)
further b None = None
further b (Some p) = Some (b + 128 * p.0, p.1)

abbrev pub read_n : List ℕ → Option (ℕ × List ℕ)
read_n [] = None
read_n (b ∷ bs) = cond (nat_lt b 128) (Some (b, bs)) (further b (read_n bs))

-- how many numbers follow a tag
unfoldable pub count : ℕ → ℕ
count b =
    cond (b == 1) 1 (cond (b == 2) 1 (cond (b == 3) 1 (cond (b == 32) 1 (cond (b == 33) 1 (cond (b == 36) 1 (cond (b == 38) 1 (cond (b == 37) 2 (cond (b == 48) 2 0))))))))

unfoldable pub operator_at : ℕ → Option Operator
operator_at b =
    cond (b == 16) (Some Add) (cond (b == 17) (Some Sub) (cond (b == 18) (Some Mul) (cond (b == 19) (Some MulHigh) (cond (b == 20) (Some Div) (cond (b == 21) (Some Rem)
    (cond (b == 22) (Some And) (cond (b == 23) (Some Or) (cond (b == 24) (Some Xor) (cond (b == 25) (Some ShiftRight) (cond (b == 26) (Some ShiftLeft) (cond (b == 27) (Some ShiftSigned)
    (cond (b == 28) (Some LessSigned) (cond (b == 29) (Some Less) (cond (b == 30) (Some Equal) None))))))))))))))

abbrev pub binary : Option Operator → Option Token
binary None = None
binary (Some o) = Some (Binary o)

-- the token of a tag, with the numbers that follow it
unfoldable pub token_of : ℕ → ℕ → ℕ → Option Token
token_of b x y =
    cond (b == 0) (Some End) (cond (b == 1) (Some (Word x)) (cond (b == 2) (Some (Var x)) (cond (b == 3) (Some (Load x)) (cond (b == 4) (Some Choice) (cond (b == 32) (Some (Set x))
    (cond (b == 33) (Some (Store x)) (cond (b == 34) (Some If) (cond (b == 35) (Some While) (cond (b == 36) (Some (Call x)) (cond (b == 37) (Some (From x y)) (cond (b == 38) (Some (To x))
    (cond (b == 48) (Some (Header x y)) (binary (operator_at b))))))))))))))

abbrev pub with_rest : Option Token → List ℕ → Option (Token × List ℕ)
with_rest None r = None
with_rest (Some t) r = Some (t, r)

abbrev pub one_more : ℕ → ℕ → Option (ℕ × List ℕ) → Option (Token × List ℕ)
one_more b x None = None
one_more b x (Some p) = with_rest (token_of b x (cap p.0)) p.1

abbrev pub one : ℕ → Option (ℕ × List ℕ) → Option (Token × List ℕ)
one b None = None
one b (Some p) = with_rest (token_of b (cap p.0) 0) p.1

abbrev pub two : ℕ → Option (ℕ × List ℕ) → Option (Token × List ℕ)
two b None = None
two b (Some p) = one_more b (cap p.0) (read_n p.1)

abbrev pub lex_with : ℕ → ℕ → List ℕ → Option (Token × List ℕ)
lex_with zero b bs = with_rest (token_of b 0 0) bs
lex_with (suc zero) b bs = one b (read_n bs)
lex_with (suc (suc n)) b bs = two b (read_n bs)

-- the token at the front, and what comes after
unfoldable pub lex : List ℕ → Option (Token × List ℕ)
lex [] = None
lex (b ∷ bs) = lex_with (count b) b bs

-- these tokens, and nothing else
abbrev pub Lexes : List ℕ → List Token → Type 0
Lexes bs [] = bs ≡ []
Lexes bs (t ∷ ts) = (r : List ℕ) × (lex bs ≡ Some (t, r)) × Lexes r ts

-- one digit more before a value of 64 bits, which stops at the largest
abbrev pub more_by : ℕ → ℕ → ℕ
more_by v b = cap (cap (v * 128) + b)

-- a number is taken from the front, capped; nothing is taken where there is none
abbrev pub Reads : List ℕ → Option ℕ → List ℕ → Type 0
Reads bs None rest = (read_n bs ≡ None) × (rest ≡ bs)
Reads bs (Some v) rest = (w : ℕ) × (read_n bs ≡ Some (w, rest)) × (v ≡ cap w)

-- what is left once some bytes were taken from the front
pub record Rest (from to : List ℕ) : Type 0 where
  pub taken : ℕ
  pub is : to ≡ drop taken from

-- a token is taken from the front
abbrev pub TakesToken : List ℕ → Option Token → List ℕ → Type 0
TakesToken bs None rest = lex bs ≡ None
TakesToken bs (Some t) rest = lex bs ≡ Some (t, rest)

-- the same, and nothing is taken where there is none
abbrev pub Lexed : List ℕ → Option Token → List ℕ → Type 0
Lexed bs None rest = (lex bs ≡ None) × (rest ≡ bs)
Lexed bs (Some t) rest = lex bs ≡ Some (t, rest)

-- some bytes are taken from the front, and these are left
abbrev pub Taken : List ℕ → List ℕ → Type 0
Taken bs rest = Rest bs rest × (length rest < length bs)

-- the end of a list is taken from the front, if it stands there
abbrev pub Ends : List ℕ → Bool → List ℕ → Type 0
Ends bs true rest = bs ≡ 0 ∷ rest
Ends bs false rest = (rest ≡ bs) × ((r : List ℕ) → bs ≡ 0 ∷ r → ⊥)

-- the operator of the code that stands for one of the model
abbrev pub operator_of : Op → Operator
operator_of add = Add
operator_of sub = Sub
operator_of mul = Mul
operator_of mul_high = MulHigh
operator_of div = Div
operator_of rem = Rem
operator_of and = And
operator_of or = Or
operator_of xor = Xor
operator_of shift_right = ShiftRight
operator_of shift_left = ShiftLeft
operator_of shift_signed = ShiftSigned
operator_of less_s = LessSigned
operator_of less = Less
operator_of equal = Equal

-- the tokens of a tree, before others
abbrev pub tokens_e : Expr → List Token → List Token
tokens_e (word n) ts = Word (cap n) ∷ ts
tokens_e (var x) ts = Var (cap x) ∷ ts
tokens_e (load n e) ts = Load (cap n) ∷ tokens_e e ts
tokens_e (op o d e) ts = Binary (operator_of o) ∷ tokens_e d (tokens_e e ts)
tokens_e (if_not_zero c d e) ts = Choice ∷ tokens_e c (tokens_e d (tokens_e e ts))

abbrev pub tokens_es : List Expr → List Token → List Token
tokens_es [] ts = End ∷ ts
tokens_es (e ∷ es) ts = tokens_e e (tokens_es es ts)

abbrev pub tokens_v : List ℕ → List Token → List Token
tokens_v [] ts = End ∷ ts
tokens_v (x ∷ xs) ts = Var (cap x) ∷ tokens_v xs ts

abbrev mutual
  pub tokens_c : Cmd → List Token → List Token
  tokens_c (set x e) ts = Set (cap x) ∷ tokens_e e ts
  tokens_c (store k d e) ts = Store (cap k) ∷ tokens_e d (tokens_e e ts)
  tokens_c (if_then e cs ds) ts = If ∷ tokens_e e (tokens_cs cs (tokens_cs ds ts))
  tokens_c (while e cs) ts = While ∷ tokens_e e (tokens_cs cs ts)
  tokens_c (call g es xs) ts = Call (cap g) ∷ tokens_es es (tokens_v xs ts)
  tokens_c (from_door x d) ts = From (cap x) (cap d) ∷ ts
  tokens_c (to_door d e) ts = To (cap d) ∷ tokens_e e ts

  pub tokens_cs : Cmds → List Token → List Token
  tokens_cs none ts = End ∷ ts
  tokens_cs (more c cs) ts = tokens_c c (tokens_cs cs ts)

abbrev pub tokens_p : Program → List Token → List Token
tokens_p [] ts = End ∷ ts
tokens_p (f ∷ fs) ts = Header (cap f.arguments) (cap f.variables) ∷ tokens_v f.results (tokens_cs f.body (tokens_p fs ts))

abbrev pub tokens : Program → List Token
tokens p = tokens_p p []
