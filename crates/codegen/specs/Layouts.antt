-- Frames of functions, and the layout of a program.
use Rattle.std.specs.Prelude.{◌≡◌, ℕ, ◌+◌, ◌<◌, ◌≤◌, List, [], ◌∷◌, length, slice_index}
use Rattle.model.specs.Source.{Function, Program}
use Rattle.format.specs.Format.{bytes_v, bytes_cs, bytes_p}
use Rattle.codegen.specs.declared.code.Code.{Code}
use Rattle.codegen.specs.declared.frame.Frame.{Frame}
use Rattle.codegen.specs.declared.functions.Layout.{Layout}
use Rattle.riscv.specs.declared.instruction.Instruction.TheVariants.{Jalr, Immediate}
use Rattle.riscv.specs.declared.instruction.ImmediateOp.TheVariants.{Addi}
use Rattle.codegen.specs.Frame.{load_slot, return_slot, frame_bytes}
use Rattle.codegen.specs.Functions.{prologue, code_f}
use Rattle.codegen.specs.Program.{length_f, starts, linked, stack_for}
use Rattle.codegen.specs.Valid.{ValidF, ValidP}
use Rattle.codegen.specs.Emission.{limit, Emitted}
use Rattle.codegen.specs.Coding.{by_table, Came}

-- the frame is this function's
abbrev pub Frames : Frame → Function → Type 0
Frames r f = (r.arguments ≡ f.arguments) × (r.variables ≡ f.variables)

abbrev pub EmitsPrologue : Frame → Code → Code → Type 0
EmitsPrologue r before after = (f : Function) → Frames r f → Came (prologue f) before after

-- the results being in registers
abbrev pub EmitsLeave : Frame → Code → Code → Type 0
EmitsLeave r before after =
    (f : Function) → Frames r f → Came (load_slot 1 (return_slot f) ∷ (Immediate Addi 2 2 (frame_bytes f) ∷ (Jalr 0 1 0 ∷ []))) before after

-- a function after its head
abbrev pub EmitsF : List ℕ → Frame → List ℕ → List ℕ → Code → Code → Type 0
EmitsF ss r from to before after =
    (f : Function) (rest : List ℕ) → from ≡ bytes_v f.results (bytes_cs f.body rest) → Frames r f → ValidF f → (to ≡ rest) × Came (code_f (by_table ss) f) before after

-- how many words all functions have
abbrev pub words_in : Program → ℕ
words_in [] = 0
words_in (f ∷ fs) = length_f f + words_in fs

-- what is known of a program before its code is written: how long it is, its stack, and where its functions begin
pub record LaysOut (p : Program) (table : List ℕ) (l : Layout) : Type 0 where
  pub words : l.words ≡ words_in p
  pub stack : l.stack ≡ stack_for p
  pub begins : (g : ℕ) → g < length p → slice_index table g ≡ starts p g

abbrev pub Lays : List ℕ → List ℕ → Layout → Type 0
Lays text table l = (p : Program) → text ≡ bytes_p p [] → ValidP p → length p ≤ 256 → words_in p ≤ limit → LaysOut p table l

abbrev pub EmitsP : List ℕ → List ℕ → ℕ → List ℕ → List ℕ → Type 0
EmitsP ss text end before after = (p : Program) → text ≡ bytes_p p [] → ValidP p → Emitted 0 end (linked (by_table ss) p) before after
