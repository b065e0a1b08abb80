-- Commands of every form, with any time: the simulation.
use Rattle.std.proofs.Common.{ℕ, zero, suc, ◌+◌, List, [], ◌++◌, length, subst, arith, length-append}
use Rattle.model.specs.Source.{Cmd, set, store, if_then, while, call, from_door, to_door, none, more, run}
use Rattle.model.specs.Machine.{Board}
use Rattle.riscv.specs.declared.instruction.Instruction.{Instruction}
use Rattle.codegen.specs.Commands.{code_c, code_cs}
use Rattle.model.proofs.Accepted.{CheckedC, CheckedCs, checked_more}
use Rattle.correctness.proofs.Plans.{stay}
use Rattle.correctness.proofs.CodeInPlace.{At, at_split}
use Rattle.correctness.proofs.Simulation.{Arrives, Lasts}
use Rattle.correctness.proofs.Matching.{same_acts, matches_at, Env, runs_in, FromTo, CommandsRun, CommandRuns}
use Rattle.correctness.proofs.Commands.{run_set, run_if, run_while, run_store, run_out, run_in}
use Rattle.correctness.proofs.Calls.{Linked, run_call}

-- one command, whichever it is
run_command : (E : Env) (need : ℕ → ℕ) (n : ℕ) → Linked E need → CommandsRun E need n → (cm : Cmd) → CommandRuns E need n cm
run_command E need n L ih (set x e) = run_set E need n x e
run_command E need n L ih (store m d e) = run_store E need n m d e
run_command E need n L ih (if_then e ds es) = run_if E need n ih e ds es
run_command E need n L ih (while e ds) = run_while E need n ih e ds
run_command E need n L ih (call g es xs) = run_call E need n L ih g es xs
run_command E need n L ih (from_door x d) = run_in E need n x d
run_command E need n L ih (to_door d e) = run_out E need n d e

more_time : (E : Env) (need : ℕ → ℕ) (n : ℕ) → Linked E need → CommandsRun E need n → CommandsRun E need (suc n)
unfolding run Arrives Lasts code_cs
more_time E need n L ih i q vars none s k ch at room = record { plan = []; holds = λ st0 c h. record { reach = stay (matches_at (omega arith) h); lasts = tt } }
more_time E need n L ih i q vars (more cm rest) s k ch at room =
    let b : Board = E.board in
    let C : List Instruction = code_c E.begin vars cm in
    let R : List Instruction = code_cs E.begin vars rest in
    let sp : CheckedC E.limits E.prog i vars cm × CheckedCs E.limits E.prog i vars rest = checked_more cm rest ch in
    let a : At b.code k C × At b.code (k + length C) R = at_split b.code k C R at in
    run_command E need n L ih cm rest i q vars s k sp.0 a.0 room (k + length (C ++ R))
    (λ t. subst (λ j. FromTo E n q vars (k + length C) t j (runs_in E n rest t)) (omega (arith, length-append C R)) (ih i q vars rest t (k + length C) sp.1 a.1 room))
    (λ t. ih i q vars (more cm rest) t k ch at room)

pub run_commands : (E : Env) (need : ℕ → ℕ) → Linked E need → (n : ℕ) → CommandsRun E need n
unfolding run Arrives Lasts
run_commands E need L zero = λ i q vars cs s k ch at room. record { plan = []; holds = λ st0 c h. record { reach = stay (same_acts h); lasts = omega arith } }
run_commands E need L (suc n) = more_time E need n L (run_commands E need L n)
