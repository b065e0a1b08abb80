-- The depth of expressions and of blocks, over tokens.
use Rattle.std.specs.Prelude.{◌≡◌, ℕ, zero, suc, ◌<◌, ◌≤◌, Bool, true, ◌&&◌, List, [], ◌∷◌, length, Some, None, Option, nat_lt}
use Rattle.model.specs.Source.{Program}
use Rattle.model.specs.Promise.{program, all_deep}
use Rattle.format.specs.Format.{read}
use Rattle.format.specs.declared.token.Token.{Token}
use Rattle.format.specs.declared.token.Token.TheVariants.{End, Word, Var, Load, Choice, Operator as Binary, Set, Store, If, While, Call, From, To, Function as Header}

-- how many parts are still to come, at each level, the innermost first: one more is there
abbrev pub done : List ℕ → List ℕ
done [] = []
done (zero ∷ es) = done es
done (suc zero ∷ es) = done es
done (suc (suc n) ∷ es) = suc n ∷ es

-- blocks of commands: one more is at its end, and what it stands in goes on
abbrev pub ended : List ℕ → List ℕ
ended [] = []
ended (zero ∷ rs) = rs
ended (suc zero ∷ rs) = rs
ended (suc (suc n) ∷ rs) = suc n ∷ rs

-- an end of a list, if some are to come, or else of a block
abbrev pub blocks_after : ℕ → List ℕ → List ℕ
blocks_after zero rs = ended rs
blocks_after (suc l) rs = rs

abbrev pub lists_after : ℕ → ℕ
lists_after zero = zero
lists_after (suc l) = l

unfoldable pub deep_ts : List ℕ → List ℕ → ℕ → List Token → Bool
deep_ts es rs l [] = true
deep_ts es rs l (End ∷ ts) = deep_ts es (blocks_after l rs) (lists_after l) ts
deep_ts es rs l (Word n ∷ ts) = deep_ts (done es) rs l ts
deep_ts es rs l (Var x ∷ ts) = deep_ts (done es) rs l ts
deep_ts es rs l (Load n ∷ ts) = nat_lt (length es) 32 && deep_ts (1 ∷ es) rs l ts
deep_ts es rs l (Choice ∷ ts) = nat_lt (length es) 32 && deep_ts (3 ∷ es) rs l ts
deep_ts es rs l (Binary o ∷ ts) = nat_lt (length es) 32 && deep_ts (2 ∷ es) rs l ts
deep_ts es rs l (Set x ∷ ts) = deep_ts es rs l ts
deep_ts es rs l (Store n ∷ ts) = deep_ts es rs l ts
deep_ts es rs l (If ∷ ts) = nat_lt (length rs) 32 && deep_ts es (2 ∷ rs) l ts
deep_ts es rs l (While ∷ ts) = nat_lt (length rs) 32 && deep_ts es (1 ∷ rs) l ts
deep_ts es rs l (Call g ∷ ts) = deep_ts es rs 2 ts
deep_ts es rs l (From x d ∷ ts) = deep_ts es rs l ts
deep_ts es rs l (To d ∷ ts) = deep_ts es rs l ts
deep_ts es rs l (Header a v ∷ ts) = deep_ts es rs 1 ts

-- one more level, of so many parts, or no room for it
abbrev pub Pushed : List ℕ → ℕ → Option Unit → List ℕ → Type 0
Pushed xs a None ys = 32 ≤ length xs
Pushed xs a (Some u) ys = (length xs < 32) × (ys ≡ a ∷ xs)

abbrev pub WithinDepth : List ℕ → Bool → Type 0
WithinDepth text r = (p : Program) → read text ≡ program p → r ≡ all_deep p
