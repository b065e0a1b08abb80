-- The digits of a word are two for each byte.
use Rattle.std.proofs.Common.{arith, ◌≡◌, ◌==◌, ◌&&◌, ℕ, zero, suc, ◌/◌, ◌%◌, ◌<◌, ◌^◌, Bool, true, [], ◌∷◌, ◌++◌, slice_index, refl, ap, ◌∙◌, inl, inr}
use Rattle.std.proofs.lemmas.Bool.{and_parts, cases_lt, eqb-true}
use Rattle.hex.specs.Hex.{encode_lower, encode_with, lower_digits}
use Rattle.yongidra.specs.Listing.{digit_of, line_of}

-- the first n digits of the table, which computes
abbrev as_in_table : ℕ → Bool
as_in_table zero = true
as_in_table (suc n) = (slice_index lower_digits n == digit_of n) && as_in_table n

digit_below : (n k : ℕ) → as_in_table n ≡ true → k < n → slice_index lower_digits k ≡ digit_of k
digit_below zero k h less = absurd (omega arith)
digit_below (suc n) k h less =
    let parts = and_parts (slice_index lower_digits n == digit_of n) (as_in_table n) h in
    elim (cases_lt k n) [
      | inl below ↦ digit_below n k parts.1 below
      | inr top ↦
          let e : k ≡ n = omega arith in
          rw e (eqb-true _ _ parts.0)
    ]

digit : (n m : ℕ) → n ≡ m → m < 16 → slice_index lower_digits n ≡ digit_of m
digit n m e small = ap (slice_index lower_digits) e ∙ digit_below 16 m refl small

pub encode_word : (w : ℕ) → w < 2 ^ 32 → encode_lower (w / 16777216 % 256 ∷ w / 65536 % 256 ∷ w / 256 % 256 ∷ w % 256 ∷ []) ++ 10 ∷ [] ≡ line_of w
unfolding encode_with
encode_word w small =
    let a = digit (w / 16777216 % 256 / 16) (w / 268435456 % 16) (omega arith) (omega arith) in
    let b = digit (w / 16777216 % 256 % 16) (w / 16777216 % 16) (omega arith) (omega arith) in
    let c = digit (w / 65536 % 256 / 16) (w / 1048576 % 16) (omega arith) (omega arith) in
    let d = digit (w / 65536 % 256 % 16) (w / 65536 % 16) (omega arith) (omega arith) in
    let e = digit (w / 256 % 256 / 16) (w / 4096 % 16) (omega arith) (omega arith) in
    let f = digit (w / 256 % 256 % 16) (w / 256 % 16) (omega arith) (omega arith) in
    let g = digit (w % 256 / 16) (w / 16 % 16) (omega arith) (omega arith) in
    let h = digit (w % 256 % 16) (w % 16) (omega arith) (omega arith) in
    cc
