-- What a conversion found in its table, said of the field of the word and of the value that it is read as. Assumes nothing.
use Rattle.std.proofs.Common.{◌≡◌, ℕ, Option, subst}
use Rattle.riscv.specs.Decoding.{Found, FoundBoth}

pub found : {A : Type 0} (f3_of : A → ℕ) {f m : ℕ} {r s : Option A} → f ≡ m → r ≡ s → Found f3_of f r → Found f3_of m s
found f3_of {f} {s} e k h = subst (λ x. Found f3_of x s) e (subst (λ x. Found f3_of f x) k h)

pub found_both : {A : Type 0} (f3_of f7_of : A → ℕ) {f m g n : ℕ} {r s : Option A} → f ≡ m → g ≡ n → r ≡ s → FoundBoth f3_of f7_of f g r → FoundBoth f3_of f7_of m n s
found_both f3_of f7_of {f} {m} {g} {n} {s} e d k h =
    subst (λ x. FoundBoth f3_of f7_of x n s) e (subst (λ x. FoundBoth f3_of f7_of f x s) d (subst (λ x. FoundBoth f3_of f7_of f g x) k h))
