-- The relation of the simulation: a machine in a function's frame matches a state of the program.
use Rattle.std.proofs.Common.{◌≡◌, ℕ, suc, ◌+◌, ◌*◌, ◌<◌, ◌≤◌, true, ◌⊎◌, List, [], ◌∷◌, ◌++◌, length, sym, refl, ap, ◌∙◌, subst, inl, inr, arith}
use Rattle.std.proofs.lemmas.Bool.{cases_lt, cases_eq}
use Rattle.model.specs.Words.{plus, nth, set_at, Act}
use Rattle.model.specs.Source.{Expr, Cmd, Cmds, more, Program, World, State, Out, stuck, run, value, with_var}
use Rattle.model.specs.Machine.{Board, Cpu}
use Rattle.model.specs.Promise.{Limits, fine_cpu}
use Rattle.riscv.specs.declared.instruction.Instruction.{Instruction}
use Rattle.riscv.specs.Execution.{exec}
use Rattle.codegen.specs.Frame.{store_slot}
use Rattle.codegen.specs.Expressions.{code_e}
use Rattle.codegen.specs.Commands.{code_c, code_cs}
use Rattle.model.proofs.Memory.{nth_set_same, nth_set_other, length_set_at}
use Rattle.model.proofs.Accepted.{CheckedE, CheckedC, CheckedCs}
use Rattle.correctness.proofs.Plans.{Plan, quiet, Reach, and_so}
use Rattle.correctness.proofs.CodeInPlace.{At}
use Rattle.correctness.proofs.StackBytes.{Same, same_then, same_wide, slot, same_slot}
use Rattle.correctness.proofs.Frames.{HasFrame, frame_kept, Advanced, advanced, Represents, represents_then, one, Stored, stores_slot}
use Rattle.correctness.proofs.Expressions.{FitsFrame, run_expression}
use Rattle.correctness.proofs.Simulation.{SameActs, Simulated, simulated_stuck}

-- the state s at the word k, in the frame at q; the stack from the frame's end on is as in st0
pub record Matches (b : Board) (q vars : ℕ) (st0 : List ℕ) (k : ℕ) (s : State) (d : Cpu) : Type 0 where
  pub good : HasFrame b q (vars + 40) d
  pub pc : d.pc ≡ 4 * k
  pub state : Represents q vars s d
  pub acts : d.acts ≡ s.acts
  pub many : length s.vars ≡ vars
  pub stack : Same 0 (q + 4 * (vars + 40)) st0 d.stack

pub same_acts : {b : Board} {q vars k : ℕ} {st0 : List ℕ} {s : State} {d : Cpu} → Matches b q vars st0 k s d → SameActs s d
same_acts h = record { unbroken = h.good.unbroken; acts = h.acts }

-- temporaries, and where it is
pub matches_advanced : {b : Board} {q vars k j : ℕ} {st0 : List ℕ} {s : State} {c d : Cpu} → Matches b q vars st0 k s c → Advanced b q (vars + 40) vars c j d → Matches b q vars st0 j s d
matches_advanced h n =
    record { good = n.good; pc = n.pc; state = represents_then (omega arith) h.state n; acts = n.acts ∙ h.acts; many = h.many; stack = same_then h.stack (same_wide (omega arith) (omega arith) n.stack) }

pub matches_at : {b : Board} {q vars k j : ℕ} {st0 : List ℕ} {s : State} {d : Cpu} → k ≡ j → Matches b q vars st0 k s d → Matches b q vars st0 j s d
matches_at {b} {q} {vars} {st0 = st0} {s} {d} e h = subst (λ x. Matches b q vars st0 x s d) e h

-- a register to a variable
pub matches_set : {b : Board} {q vars k : ℕ} {st0 : List ℕ} {s : State} {c : Cpu} (is : List Instruction) (r x v : ℕ) → Matches b q vars st0 k s c → At b.code k (store_slot r x ∷ is) → x < vars → 0 < r → nth 0 c.regs r ≡ v →
    Reach quiet b c (λ d. Matches b q vars st0 (suc k) (with_var x v s) d × (d.regs ≡ c.regs))
matches_set {b} {q} {vars} {k} {st0} {s} {c} is r x v h at x< r0 e =
    and_so (stores_slot is r x (advanced 0 h.good h.pc) at (omega arith) (omega arith) r0) (λ d g. (
      record {
        good = g.at.good;
        pc = g.at.pc;
        state = record { memory = g.memory ∙ h.state.memory; slots = λ y y<. on d g y y< (cases_eq x y) };
        acts = g.acts ∙ h.acts;
        many = length_set_at s.vars x v ∙ h.many;
        stack = same_then h.stack (same_wide (omega arith) (omega arith) g.stack);
      },
      g.regs,
    ))
  where
    on : (d : Cpu) → Stored b q (vars + 40) 0 c c (suc k) x (nth 0 c.regs r) d → (y : ℕ) → y < vars → (x ≡ y) ⊎ (x ≡ y → ⊥) → slot d.stack q y ≡ nth 0 (set_at s.vars x v) y
    on d g y y< (inl p) = subst (λ z. slot d.stack q z ≡ nth 0 (set_at s.vars x v) z) p (g.holds ∙ e ∙ sym (nth_set_same 0 s.vars x v (omega (arith, h.many))))
    on d g y y< (inr p) = same_slot q y (apart (cases_lt x y)) g.stack ∙ h.state.slots y y< ∙ sym (nth_set_other 0 s.vars x y v p)
      where
        apart : (x < y) ⊎ (y ≤ x) → (q + 4 * y + 4 ≤ q + 4 * x) ⊎ (q + 4 * x + 4 ≤ q + 4 * y)
        apart (inl z) = inr (omega arith)
        apart (inr z) = inl (omega (arith, p))

-- what an instruction may change that leaves the stack and goes on to the next
pub record GoesOn (c x : Cpu) (s t : State) : Type 0 where
  pub broken : x.broken ≡ c.broken
  pub sp : nth 0 x.regs 2 ≡ nth 0 c.regs 2
  pub pc : x.pc ≡ plus c.pc 4
  pub memory : x.memory ≡ t.memory
  pub length_is : length x.memory ≡ length c.memory
  pub stack : x.stack ≡ c.stack
  pub acts : x.acts ≡ t.acts
  pub vars : t.vars ≡ s.vars

pub matches_step : {b : Board} {q vars k : ℕ} {st0 : List ℕ} {s : State} {c : Cpu} (i : Instruction) (is : List Instruction) (ac : List Act) (x : Cpu) (t : State) → Matches b q vars st0 k s c → At b.code k (i ∷ is) → exec b c i ≡ x → x.acts ≡ ac ++ c.acts → GoesOn c x s t →
    Reach (record { acts = ac } ∷ []) b c (λ d. Matches b q vars st0 (suc k) t d × (d.regs ≡ x.regs))
unfolding At
matches_step {b} {q} {vars} {k} {st0} {s} {c} i is ac x t h at e a o =
    one q (vars + 40) k i is ac h.good h.pc at (ap (λ z. z.acts) e ∙ a) (subst (λ z. fine_cpu z ≡ true → Matches b q vars st0 (suc k) t z × (z.regs ≡ x.regs)) (sym e)
    (λ g. (
      record {
        good = frame_kept h.good o.broken g o.sp o.length_is (ap length o.stack);
        pc = omega (arith, o.pc, h.pc, at.1, h.good.code_small);
        state = record { memory = o.memory; slots = λ y y<. ap (λ l. slot l q y) o.stack ∙ h.state.slots y y< ∙ ap (λ l. nth 0 l y) (sym o.vars) };
        acts = o.acts;
        many = ap length o.vars ∙ h.many;
        stack = subst (λ l. Same 0 (q + 4 * (vars + 40)) st0 l) (sym o.stack) h.stack;
      },
      refl,
    )))

pub fits_frame : {vars : ℕ} {e : Expr} → CheckedE vars 32 e → FitsFrame vars (vars + 40) vars 32 e
fits_frame h = record { checked = h; over = omega arith; room = omega arith }

-- an expression in a state
pub matches_expression : (b : Board) (w : World) (q vars k : ℕ) (s : State) (e : Expr) (v : ℕ) (vs : List ℕ) → w.base ≡ b.base → value w s e ≡ v ∷ vs → CheckedE vars 32 e → At b.code k (code_e vars e) →
    (p : Plan) × ((st0 : List ℕ) (c : Cpu) → Matches b q vars st0 k s c → Reach p b c (λ d. Matches b q vars st0 (k + length (code_e vars e)) s d × (nth 0 d.regs 5 ≡ v)))
matches_expression b w q vars k s e v vs wb hv f at =
    let p1 = run_expression b w s q (vars + 40) vars wb e v vs vars 32 k hv (fits_frame f) at in
    (_, λ st0 c h. and_so (p1.1 c h.good h.pc h.state) (λ d g. (matches_advanced h g.at, g.x5)))

-- all that stays the same through a run
pub record Env : Type 0 where
  pub limits : Limits
  pub prog : Program
  pub board : Board
  pub world : World
  pub begin : ℕ → ℕ
  pub base_is : world.base ≡ board.base
  pub input_is : world.input ≡ board.input

abbrev pub runs_in : Env → ℕ → Cmds → State → Out
runs_in E n cs s = run n E.prog E.world cs s

-- from the word k to the word j, in the frame at q
abbrev pub FromTo : Env → ℕ → ℕ → ℕ → ℕ → State → ℕ → Out → Type 0
FromTo E n q vars k s j o = Simulated o n E.board (λ st0. Matches E.board q vars st0 k s) (λ st0. Matches E.board q vars st0 j)

pub from_to_stuck : (E : Env) (n q vars k : ℕ) (s : State) (j : ℕ) → FromTo E n q vars k s j (stuck s)
from_to_stuck E n q vars k s j = simulated_stuck n s (λ st0 c h. same_acts h)

-- commands of function i, with so much time; need is how much stack is wanted below a frame
abbrev pub CommandsRun : Env → (ℕ → ℕ) → ℕ → Type 0
CommandsRun E need n =
    (i q vars : ℕ) (cs : Cmds) (s : State) (k : ℕ) → CheckedCs E.limits E.prog i vars cs → At E.board.code k (code_cs E.begin vars cs) → need i ≤ q →
    FromTo E n q vars k s (k + length (code_cs E.begin vars cs)) (runs_in E n cs s)

-- one command and the rest, with one unit of time more: given what happens afterwards, and what happens again
abbrev pub CommandRuns : Env → (ℕ → ℕ) → ℕ → Cmd → Type 0
CommandRuns E need n cm =
    (rest : Cmds) (i q vars : ℕ) (s : State) (k : ℕ) → CheckedC E.limits E.prog i vars cm → At E.board.code k (code_c E.begin vars cm) → need i ≤ q →
    (final : ℕ) → ((t : State) → FromTo E n q vars (k + length (code_c E.begin vars cm)) t final (runs_in E n rest t)) →
    ((t : State) → FromTo E n q vars k t final (runs_in E n (more cm rest) t)) →
    FromTo E (suc n) q vars k s final (runs_in E (suc n) (more cm rest) s)
