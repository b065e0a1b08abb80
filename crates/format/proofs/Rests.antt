-- What is left once bytes were taken from the front.
use Rattle.std.proofs.Common.{◌≡◌, ℕ, zero, suc, ◌+◌, ◌≤◌, Bool, true, false, cond, ltb, List, [], ◌∷◌, length, drop, Some, None, Option, refl, sym, ap, ◌∙◌, subst, arith}
use Rattle.std.proofs.lemmas.List.{drop-drop, length-drop}
use Rattle.format.specs.declared.token.Token.{Token}
use Rattle.format.specs.Tokens.{cap, further, read_n, with_rest, token_of, one, one_more, two, lex_with, count, lex, Ends, Rest}

pub rest_all : (bs : List ℕ) → Rest bs bs
rest_all bs = record { taken = 0; is = refl }

pub rest_and : (a b c : List ℕ) → Rest a b → Rest b c → Rest a c
rest_and a b c p q = record { taken = p.taken + q.taken; is = q.is ∙ ap (drop q.taken) p.is ∙ drop-drop q.taken p.taken a }

pub rest_shorter : (a b : List ℕ) → Rest a b → length b ≤ length a
rest_shorter a b p = omega (arith, ap length p.is, length-drop p.taken a)

pub rest_cons : (b : ℕ) (bs to : List ℕ) → Rest bs to → Rest (b ∷ bs) to
rest_cons b bs to p = record { taken = suc p.taken; is = p.is }

-- a token takes bytes from the front
abbrev pub Leaves : {A : Type 0} → List ℕ → Option (A × List ℕ) → Type 0
Leaves bs None = Unit {0}
Leaves bs (Some p) = Rest bs p.1

further_leaves : (b c : ℕ) (bs : List ℕ) (o : Option (ℕ × List ℕ)) → Leaves bs o → Leaves (c ∷ bs) (further b o)
further_leaves b c bs None h = tt
further_leaves b c bs (Some p) h = rest_cons c bs p.1 h

number_leaves : (bs : List ℕ) → Leaves bs (read_n bs)
number_leaves [] = tt
number_leaves (b ∷ bs) =
    elim (ltb b 128) as (λ c. Leaves (b ∷ bs) (cond c (Some (b, bs)) (further b (read_n bs)))) [
      | true ↦ rest_cons b bs bs (rest_all bs)
      | false ↦ further_leaves b b bs (read_n bs) (number_leaves bs)
    ]

with_rest_leaves : (bs : List ℕ) (o : Option Token) (r : List ℕ) → Rest bs r → Leaves bs (with_rest o r)
with_rest_leaves bs None r h = tt
with_rest_leaves bs (Some t) r h = h

one_leaves : (b : ℕ) (bs : List ℕ) (o : Option (ℕ × List ℕ)) → Leaves bs o → Leaves bs (one b o)
one_leaves b bs None h = tt
one_leaves b bs (Some p) h = with_rest_leaves bs (token_of b (cap p.0) 0) p.1 h

one_more_leaves : (b x : ℕ) (a bs : List ℕ) (o : Option (ℕ × List ℕ)) → Rest a bs → Leaves bs o → Leaves a (one_more b x o)
one_more_leaves b x a bs None r h = tt
one_more_leaves b x a bs (Some p) r h = with_rest_leaves a (token_of b x (cap p.0)) p.1 (rest_and a bs p.1 r h)

two_leaves : (b : ℕ) (bs : List ℕ) (o : Option (ℕ × List ℕ)) → Leaves bs o → Leaves bs (two b o)
two_leaves b bs None h = tt
two_leaves b bs (Some p) h = one_more_leaves b (cap p.0) bs p.1 (read_n p.1) h (number_leaves p.1)

pub lex_leaves : (k b : ℕ) (bs : List ℕ) → Leaves bs (lex_with k b bs)
lex_leaves zero b bs = with_rest_leaves bs (token_of b 0 0) bs (rest_all bs)
lex_leaves (suc zero) b bs = one_leaves b bs (read_n bs) (number_leaves bs)
lex_leaves (suc (suc k)) b bs = two_leaves b bs (read_n bs) (number_leaves bs)

after_first : (b : ℕ) (bs : List ℕ) (o : Option (Token × List ℕ)) → Leaves bs o → Leaves (b ∷ bs) o
after_first b bs None h = tt
after_first b bs (Some p) h = rest_cons b bs p.1 h

all_leaves : (bs : List ℕ) → Leaves bs (lex bs)
unfolding lex
all_leaves [] = tt
all_leaves (b ∷ bs) = after_first b bs (lex_with (count b) b bs) (lex_leaves (count b) b bs)

pub rest_lex : (bs : List ℕ) (t : Token) (to : List ℕ) → lex bs ≡ Some (t, to) → Rest bs to
rest_lex bs t to e = subst (λ (o : Option (Token × List ℕ)). Leaves bs o) e (all_leaves bs)

-- the byte that ends a list
pub rest_end : (bs to : List ℕ) → bs ≡ 0 ∷ to → Rest bs to
rest_end bs to e = record { taken = 1; is = ap (drop 1) (sym e) }

pub rest_ended : (bs : List ℕ) (ended : Bool) (to : List ℕ) → Ends bs ended to → Rest bs to
rest_ended bs true to e = rest_end bs to e
rest_ended bs false to e = record { taken = 0; is = e.0 }
