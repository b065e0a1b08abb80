-- What it is for instructions to come to code that is lent, for every tree whose bytes stand where tokens are read.
use Rattle.std.specs.Prelude.{◌≡◌, ℕ, ◌+◌, ◌-◌, ◌*◌, ◌<◌, ◌≤◌, List, [], ◌∷◌, length, Some, slice_index}
use Rattle.model.specs.Source.{Expr, Cmd, Cmds, more}
use Rattle.format.specs.Format.{bytes_e, bytes_es, bytes_v, bytes_cs}
use Rattle.format.specs.Tokens.{lex, Rest}
use Rattle.format.specs.declared.token.Token.{Token}
use Rattle.riscv.specs.declared.instruction.Instruction.{Instruction}
use Rattle.riscv.specs.Encoding.{Fits}
use Rattle.riscv.specs.declared.instruction.Instruction.TheVariants.{Jal}
use Rattle.codegen.specs.declared.code.Code.{Code}
use Rattle.codegen.specs.declared.code.OpenJump.{OpenJump}
use Rattle.codegen.specs.declared.slots.Transfer.{Transfer}
use Rattle.codegen.specs.Frame.{back}
use Rattle.codegen.specs.Emission.{limit, Emitted, Patched}
use Rattle.codegen.specs.Expressions.{code_e, code_es, skip_unless_zero, jump_on}
use Rattle.codegen.specs.Commands.{code_c, code_cs}
use Rattle.codegen.specs.Transfers.{transfers}
use Rattle.codegen.specs.Valid.{ValidE, ValidEs, ValidV, ValidC, ValidCs}

abbrev pub AllFit : List Instruction → Type 0
AllFit [] = Unit {0}
AllFit (i ∷ is) = Fits i × AllFit is

-- it is the same code that is lent
abbrev pub Same : Code → Code → Type 0
Same before after = after.words.ghost_name ≡ before.words.ghost_name

-- instructions came to it, one after the other
pub record Came (is : List Instruction) (before after : Code) : Type 0 where
  pub emitted : Emitted before.len after.len is before.words.now after.words.now

-- a jump came that is left open
abbrev pub Opens : OpenJump → Code → Code → Type 0
Opens j before after = Came (jump_on 0 ∷ []) before after × (j.at ≡ before.len)

-- a jump came that is left open, and before it the step over it where the value is not 0
pub record Tests (j : OpenJump) (before after : Code) : Type 0 where
  pub over : Code
  pub skips : Came (skip_unless_zero ∷ []) before over
  pub opens : Opens j over after

-- the jump that was left open goes to what comes next
abbrev pub Lands : OpenJump → Code → Code → Type 0
Lands j before after = Patched j.at before.len before.words.now after.words.now × (after.len ≡ before.len) × Same before after

-- a jump back came, to `start` wherever it reaches
pub record JumpsBack (start : ℕ) (before after : Code) : Type 0 where
  pub field : ℕ
  pub came : Came (Jal 0 field ∷ []) before after
  pub reaches : start < before.len → before.len - start ≤ limit → field ≡ back (4 * (before.len - start))

-- what is left is an end of what there was, and the same code is written
abbrev pub Moves : List ℕ → List ℕ → Code → Code → Type 0
Moves from to before after = Rest from to × Same before after

-- an expression is read, and its code came
abbrev pub Emits : ℕ → ℕ → List ℕ → List ℕ → Code → Code → Type 0
Emits t k from to before after = (e : Expr) (rest : List ℕ) → from ≡ bytes_e e rest → ValidE k e → (to ≡ rest) × Came (code_e t e) before after

-- expressions up to their end
abbrev pub EmitsEs : ℕ → ℕ → List ℕ → List ℕ → Code → Code → Type 0
EmitsEs t count from to before after =
    (es : List Expr) (rest : List ℕ) → from ≡ bytes_es es rest → length es ≤ 8 → ValidEs es → (to ≡ rest) × (count ≡ length es) × Came (code_es t es) before after

-- variables up to their end, between slots and registers
abbrev pub EmitsV : Transfer → ℕ → List ℕ → List ℕ → Code → Code → Type 0
EmitsV way r from to before after =
    (xs rest : List ℕ) → from ≡ bytes_v xs rest → r + length xs ≤ 32 → ValidV xs → (to ≡ rest) × Came (transfers way xs r) before after

-- where each function begins, by a table
abbrev pub by_table : List ℕ → ℕ → ℕ
by_table ss g = slice_index ss g

-- the first of some commands
abbrev pub EmitsC : List ℕ → ℕ → ℕ → List ℕ → List ℕ → Code → Code → Type 0
EmitsC ss v k from to before after =
    (m : Cmd) (cs : Cmds) (rest : List ℕ) → from ≡ bytes_cs (more m cs) rest → ValidC k m → (to ≡ bytes_cs cs rest) × Came (code_c (by_table ss) v m) before after

-- the same, after its first token
abbrev pub EmitsAfter : Token → List ℕ → ℕ → ℕ → List ℕ → List ℕ → Code → Code → Type 0
EmitsAfter u ss v k from to before after = (all : List ℕ) → lex all ≡ Some (u, from) → EmitsC ss v k all to before after

-- commands up to their end
abbrev pub EmitsCs : List ℕ → ℕ → ℕ → List ℕ → List ℕ → Code → Code → Type 0
EmitsCs ss v k from to before after =
    (cs : Cmds) (rest : List ℕ) → from ≡ bytes_cs cs rest → ValidCs k cs → (to ≡ rest) × Came (code_cs (by_table ss) v cs) before after
