-- Numbers and tokens at the front of bytes.
use Rattle.std.proofs.Common.{◌≡◌, ℕ, ◌+◌, ◌*◌, ◌<◌, Bool, cond, ltb, List, [], ◌∷◌, reverse, length, take, drop, Some, None, Option, refl, ap, ◌∙◌, subst, inl, inr, arith}
use Rattle.std.specs.Prelude.{position}
use Rattle.std.specs.List.{fold, position_or_len}
use Rattle.std.proofs.lemmas.Grind.{common_steps}
use Rattle.std.proofs.lemmas.Bool.{cases_lt}
use Rattle.std.proofs.lemmas.List.{reverse-append}
use Rattle.std.proofs.lemmas.List.Sums.{fold-append}
use Rattle.format.specs.declared.token.Token.{Token}
use Rattle.format.specs.Tokens.{cap, more_by, read_n, lex_with, count, lex, Reads, Rest}
use Rattle.format.proofs.Rests.{Leaves, rest_shorter, lex_leaves}

abbrev digits : List ℕ → ℕ
digits [] = 0
digits (b ∷ bs) = b + 128 * digits bs

abbrev low : ℕ → Bool
low b = ltb b 128

folded : (ds : List ℕ) → fold more_by 0 (reverse ds) ≡ cap (digits ds)
folded [] = refl
folded (b ∷ ds) =
    ap (fold more_by 0) (reverse-append (b ∷ []) ds) ∙ fold-append more_by 0 (reverse ds) (b ∷ []) ∙ ap (λ (v : ℕ). more_by v b) (folded ds) ∙ omega arith

-- up to the first byte that is low
reads_to : (bs : List ℕ) → read_n bs ≡ cond (ltb (position_or_len low bs) (length bs)) (Some (digits (take (position_or_len low bs + 1) bs), drop (position_or_len low bs + 1) bs)) None
reads_to [] = refl
reads_to (b ∷ bs) =
    elim (cases_lt b 128) [
      | inl l ↦ grind (arith, common_steps)
      | inr g ↦ grind (arith, common_steps, reads_to bs)
    ]

pub reads_none : (bs : List ℕ) → None ≡ position low bs → Reads bs None bs
reads_none bs e = (grind (arith, common_steps, reads_to bs), refl)

pub reads_some : (bs front back : List ℕ) (n v : ℕ) → Some n ≡ position low bs → front ≡ take (n + 1) bs → back ≡ drop (n + 1) bs → v ≡ fold more_by 0 (reverse front) → Reads bs (Some v) back
reads_some bs front back n v e f g q = (digits (take (n + 1) bs), grind (arith, common_steps, reads_to bs), q ∙ ap (λ (ds : List ℕ). fold more_by 0 (reverse ds)) f ∙ folded (take (n + 1) bs))

-- a token takes bytes away
shorter_after : (b : ℕ) (bs : List ℕ) (o : Option (Token × List ℕ)) → Leaves bs o → (t : Token) (rest : List ℕ) → o ≡ Some (t, rest) → length rest < length (b ∷ bs)
shorter_after b bs o h t rest e =
    let l : Rest bs rest = subst (λ (o : Option (Token × List ℕ)). Leaves bs o) e h in
    omega (arith, rest_shorter bs rest l)

pub lex_shorter : (bs : List ℕ) (t : Token) (rest : List ℕ) → lex bs ≡ Some (t, rest) → length rest < length bs
unfolding lex
lex_shorter [] t rest e = absurd (cc)
lex_shorter (b ∷ bs) t rest e = shorter_after b bs (lex_with (count b) b bs) (lex_leaves (count b) b bs) t rest e
