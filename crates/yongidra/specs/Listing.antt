-- Code as text, a word in a line of eight hexadecimal digits in small letters; and as bytes.
use Rattle.std.specs.Prelude.{ℕ, ◌+◌, ◌/◌, ◌%◌, cond, List, [], ◌∷◌, nat_lt}

-- the character of a number below 16
abbrev pub digit_of : ℕ → ℕ
digit_of n = cond (nat_lt n 10) (48 + n) (87 + n)

abbrev pub line_of : ℕ → List ℕ
line_of w =
    digit_of (w / 268435456 % 16) ∷ digit_of (w / 16777216 % 16) ∷ digit_of (w / 1048576 % 16) ∷ digit_of (w / 65536 % 16)
    ∷ digit_of (w / 4096 % 16) ∷ digit_of (w / 256 % 16) ∷ digit_of (w / 16 % 16) ∷ digit_of (w % 16) ∷ 10 ∷ []

-- four bytes, the low one first
abbrev pub bytes_of : ℕ → List ℕ
bytes_of w = w % 256 ∷ w / 256 % 256 ∷ w / 65536 % 256 ∷ w / 16777216 % 256 ∷ []
