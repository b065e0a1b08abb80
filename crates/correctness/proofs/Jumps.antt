-- Jumps and branches that stay in the frame.
use Rattle.std.proofs.Common.{◌≡◌, ℕ, suc, ◌+◌, ◌-◌, ◌*◌, ◌%◌, ◌<◌, ◌≤◌, not, ◌≢◌, List, ◌∷◌, length, sym, refl, ap, ◌∙◌, arith, le-ltb, lt-ltb, eq-eqb, ne_eqb}
use Rattle.model.specs.Words.{pick, whole, plus, signed, two_to, nth}
use Rattle.model.specs.Machine.{Board, Cpu, reg, put, link, jump, at_pc}
use Rattle.riscv.specs.declared.instruction.Instruction.{Instruction}
use Rattle.riscv.specs.declared.instruction.Instruction.TheVariants.{Jal, Branch}
use Rattle.riscv.specs.declared.instruction.Condition.TheVariants.{Ne}
use Rattle.riscv.specs.Execution.{exec, holds as condition_holds}
use Rattle.codegen.specs.Frame.{back}
use Rattle.codegen.specs.Expressions.{skip_unless_zero, jump_on}
use Rattle.model.proofs.Picks.{pick_true, pick_false}
use Rattle.model.proofs.Memory.{nth_set_other}
use Rattle.correctness.proofs.Plans.{quiet, Reach, and_so}
use Rattle.correctness.proofs.CodeInPlace.{At}
use Rattle.correctness.proofs.Frames.{frame_kept, Advanced, one_quiet}

-- what a jump leaves: the registers but 0, and the stack
pub record Jumped (b : Board) (q slots lo : ℕ) (c d : Cpu) (k : ℕ) (e : Cpu) : Type 0 where
  pub at : Advanced b q slots lo c k e
  pub regs : (y : ℕ) → 0 < y → nth 0 e.regs y ≡ nth 0 d.regs y
  pub stack : e.stack ≡ d.stack

jumps_to : {b : Board} {c d : Cpu} {q slots lo k : ℕ} (is : List Instruction) (m j : ℕ) → Advanced b q slots lo c k d → At b.code k (Jal 0 m ∷ is) → plus d.pc (signed 21 m) ≡ 4 * j → Reach quiet b d (Jumped b q slots lo c d j)
unfolding exec
jumps_to {b} {c} {d} {q} {slots} {lo} {k} is m j n at to =
    one_quiet q slots k (Jal 0 m) is (at_pc (4 * j) (put 0 (plus d.pc 4) d)) n.good n.pc at there refl
    (λ g. record {
      at = record { good = frame_kept n.good refl g (nth_set_other 0 d.regs 0 2 _ (λ x. omega arith)) refl refl; pc = refl; memory = n.memory; acts = n.acts; stack = n.stack };
      regs = λ y p. nth_set_other 0 d.regs 0 y _ (λ x. omega arith);
      stack = refl;
    })
  where
    there : exec b d (Jal 0 m) ≡ at_pc (4 * j) (put 0 (plus d.pc 4) d)
    there = ap (link d 0) to ∙ pick_true _ _ _ (eq-eqb (4 * j % 4) 0 (omega arith))

-- on by m words
pub jumps_on : {b : Board} {c d : Cpu} {q slots lo k : ℕ} (is : List Instruction) (m : ℕ) → Advanced b q slots lo c k d → At b.code k (jump_on m ∷ is) → k + m ≤ length b.code → Reach quiet b d (Jumped b q slots lo c d (k + m))
unfolding two_to
jumps_on {b} {c} {d} {q} {slots} {lo} {k} is m n at h =
    jumps_to is (4 * m) (k + m) n at (ap (plus d.pc) (pick_true _ _ _ (lt-ltb (4 * m) 1048576 (omega (arith, n.good.code_small)))) ∙ omega (arith, n.pc, n.good.code_small))

back_sign : (m : ℕ) → m < 262144 → 0 < m → (back (4 * m) + (whole - 2097152)) % whole ≡ whole - 4 * m
back_sign m h p = omega arith

back_by : (j m : ℕ) → j + m < 262144 → 0 < m → plus (4 * (j + m)) ((back (4 * m) + (whole - 2097152)) % whole) ≡ 4 * j
back_by j m h p = ap (plus (4 * (j + m))) (back_sign m (omega arith) p) ∙ omega arith

-- back by m words
pub jumps_back : {b : Board} {c d : Cpu} {q slots lo k : ℕ} (is : List Instruction) (m j : ℕ) → Advanced b q slots lo c k d → At b.code k (Jal 0 (back (4 * m)) ∷ is) → j + m ≡ k → k < length b.code → 0 < m → Reach quiet b d (Jumped b q slots lo c d j)
unfolding two_to
jumps_back {b} {c} {d} {q} {slots} {lo} {k} is m j n at kj h p =
    jumps_to is (back (4 * m)) j n at (
    ap (plus d.pc) (pick_false _ _ _ (le-ltb (back (4 * m)) 1048576 (omega (arith, n.good.code_small))))
    ∙ ap (λ x. plus x ((back (4 * m) + (whole - 2097152)) % whole)) (n.pc ∙ ap (λ x. 4 * x) (sym kj))
    ∙ back_by j m (omega (arith, n.good.code_small)) p)

-- over the next word, or to it
pub branch_taken : {b : Board} {c d : Cpu} {q slots lo k : ℕ} (is : List Instruction) (r1 r2 : ℕ) → Advanced b q slots lo c k d → At b.code k (Branch Ne r1 r2 8 ∷ is) → reg d r1 ≢ reg d r2 → suc (suc k) ≤ length b.code →
    Reach quiet b d (λ e. Advanced b q slots lo c (suc (suc k)) e × (e.regs ≡ d.regs) × (e.stack ≡ d.stack))
unfolding At exec two_to condition_holds
branch_taken {b} {c} {d} {q} {slots} {lo} {k} is r1 r2 n at x h =
    one_quiet q slots k (Branch Ne r1 r2 8) is (at_pc (4 * (k + 2)) d) n.good n.pc at there refl
    (λ g. (record { good = frame_kept n.good refl g refl refl refl; pc = omega arith; memory = n.memory; acts = n.acts; stack = n.stack }, refl, refl))
  where
    eight : signed 13 8 ≡ 8
    eight = pick_true _ _ _ (lt-ltb 8 4096 (omega arith))

    there : exec b d (Branch Ne r1 r2 8) ≡ at_pc (4 * (k + 2)) d
    there = pick_true _ _ _ (ap not (ne_eqb (reg d r1) (reg d r2) x)) ∙ ap (jump d) (ap (plus d.pc) eight ∙ omega (arith, n.pc, n.good.code_small)) ∙ pick_true _ _ _ (eq-eqb (4 * (k + 2) % 4) 0 (omega arith))

pub branch_passed : {b : Board} {c d : Cpu} {q slots lo k : ℕ} (is : List Instruction) (r1 r2 : ℕ) → Advanced b q slots lo c k d → At b.code k (Branch Ne r1 r2 8 ∷ is) → reg d r1 ≡ reg d r2 →
    Reach quiet b d (λ e. Advanced b q slots lo c (suc k) e × (e.regs ≡ d.regs) × (e.stack ≡ d.stack))
unfolding At exec condition_holds
branch_passed {b} {c} {d} {q} {slots} {lo} {k} is r1 r2 n at x =
    one_quiet q slots k (Branch Ne r1 r2 8) is (at_pc (plus d.pc 4) d) n.good n.pc at there refl
    (λ g. (record { good = frame_kept n.good refl g refl refl refl; pc = omega (arith, n.pc, n.good.code_small, at.1); memory = n.memory; acts = n.acts; stack = n.stack }, refl, refl))
  where
    there : exec b d (Branch Ne r1 r2 8) ≡ at_pc (plus d.pc 4) d
    there = pick_false _ _ _ (ap not (eq-eqb (reg d r1) (reg d r2) x))

-- by the value of an expression
pub skips : {b : Board} {c d : Cpu} {q slots lo k : ℕ} (is : List Instruction) → Advanced b q slots lo c k d → At b.code k (skip_unless_zero ∷ is) → nth 0 d.regs 5 ≢ 0 → suc (suc k) ≤ length b.code → Reach quiet b d (Advanced b q slots lo c (suc (suc k)))
unfolding pick
skips is n at x h = and_so (branch_taken is 5 0 n at x h) (λ e g. g.0)

pub falls : {b : Board} {c d : Cpu} {q slots lo k : ℕ} (is : List Instruction) → Advanced b q slots lo c k d → At b.code k (skip_unless_zero ∷ is) → nth 0 d.regs 5 ≡ 0 → Reach quiet b d (Advanced b q slots lo c (suc k))
unfolding pick
falls is n at x = and_so (branch_passed is 5 0 n at x) (λ e g. g.0)
