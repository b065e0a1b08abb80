-- A machine that has a frame on the stack, and what single instructions do to it.
use Rattle.std.proofs.Common.{◌≡◌, ℕ, suc, ◌+◌, ◌*◌, ◌<◌, ◌≤◌, true, false, ◌≢◌, List, [], ◌∷◌, ◌++◌, length, sym, refl, ap, ◌∙◌, subst, inl, arith, lt-ltb, ne_eqb}
use Rattle.model.specs.Words.{pick, whole, plus, signed, two_to, nth, set_at, bytes_put, Act}
use Rattle.model.specs.Source.{State}
use Rattle.model.specs.Machine.{Board, Cpu, step, steps, the_end, reg, put, loads, stores}
use Rattle.model.specs.Promise.{fine_cpu, MachineStays}
use Rattle.riscv.specs.declared.instruction.Instruction.{Instruction}
use Rattle.riscv.specs.Execution.{exec, load_size, store_size, extended}
use Rattle.codegen.specs.Frame.{load_slot, store_slot}
use Rattle.model.proofs.Picks.{pick_true, pick_false}
use Rattle.model.proofs.Memory.{nth_set_same, nth_set_other, at_put}
use Rattle.model.proofs.Machine.{registers_32, register_word, machine_stays}
use Rattle.correctness.proofs.Plans.{quiet, Follows, Reach, and_so}
use Rattle.correctness.proofs.CodeInPlace.{At, step_at}
use Rattle.correctness.proofs.StackBytes.{Same, same, same_then, same_wide, slot, same_slot, same_put, loads_stack, with_stack, stores_stack}

-- a frame of so many slots at q, and code, memory and stack apart
pub record HasFrame (b : Board) (q slots : ℕ) (c : Cpu) : Type 0 where
  pub unbroken : c.broken ≡ false
  pub fine : fine_cpu c ≡ true
  pub sp : nth 0 c.regs 2 ≡ b.stack_base + q
  pub code_low : 4 * length b.code ≤ b.base
  pub code_small : length b.code < 262144
  pub apart : b.base + length c.memory ≤ b.stack_base
  pub top : b.stack_base + length c.stack ≤ 1073737728
  pub room : q + 4 * slots ≤ length c.stack
  pub few : slots ≤ 512

-- a frame elsewhere, of a machine that differs in what isn't named here
pub frame_at : {b : Board} {q slots : ℕ} {c d : Cpu} (p m : ℕ) → HasFrame b q slots c → d.broken ≡ c.broken → fine_cpu d ≡ true → nth 0 d.regs 2 ≡ b.stack_base + p → length d.memory ≡ length c.memory → length d.stack ≡ length c.stack →
    p + 4 * m ≤ length d.stack → m ≤ 512 → HasFrame b p m d
frame_at p m g e f sp l k r few =
    record { unbroken = e ∙ g.unbroken; fine = f; sp = sp; code_low = g.code_low; code_small = g.code_small; apart = omega (arith, l, g.apart); top = omega (arith, k, g.top); room = r; few = few }

-- the same frame
pub frame_kept : {b : Board} {q slots : ℕ} {c d : Cpu} → HasFrame b q slots c → d.broken ≡ c.broken → fine_cpu d ≡ true → nth 0 d.regs 2 ≡ nth 0 c.regs 2 → length d.memory ≡ length c.memory → length d.stack ≡ length c.stack → HasFrame b q slots d
frame_kept {q = q} {slots} g e f sp l k = frame_at q slots g e f (sp ∙ g.sp) l k (omega (arith, k, g.room)) g.few

-- a smaller frame at the same place
pub frame_less : {b : Board} {q m n : ℕ} {c : Cpu} → n ≤ m → HasFrame b q m c → HasFrame b q n c
frame_less {q = q} {n = n} h g = frame_at q n g refl g.fine g.sp refl refl (omega (arith, g.room)) (omega (arith, g.few))

-- where it has come from c: at the word k, the same but for registers other than 2, and the stack from slot lo to the frame's end
pub record Advanced (b : Board) (q slots lo : ℕ) (c : Cpu) (k : ℕ) (d : Cpu) : Type 0 where
  pub good : HasFrame b q slots d
  pub pc : d.pc ≡ 4 * k
  pub memory : d.memory ≡ c.memory
  pub acts : d.acts ≡ c.acts
  pub stack : Same (q + 4 * lo) (q + 4 * slots) c.stack d.stack

pub advanced : {b : Board} {c : Cpu} {q slots : ℕ} (lo : ℕ) {k : ℕ} → HasFrame b q slots c → c.pc ≡ 4 * k → Advanced b q slots lo c k c
advanced {b} {c} {q} {slots} lo g p = record { good = g; pc = p; memory = refl; acts = refl; stack = same (q + 4 * lo) (q + 4 * slots) c.stack }

pub advanced_then : {b : Board} {c d e : Cpu} {q slots lo l k j : ℕ} → lo ≤ l → Advanced b q slots lo c k d → Advanced b q slots l d j e → Advanced b q slots lo c j e
advanced_then h m n = record { good = n.good; pc = n.pc; memory = n.memory ∙ m.memory; acts = n.acts ∙ m.acts; stack = same_then m.stack (same_wide (omega arith) (omega arith) n.stack) }

pub advanced_at : {b : Board} {c d : Cpu} {q slots lo k j : ℕ} → k ≡ j → Advanced b q slots lo c k d → Advanced b q slots lo c j d
advanced_at {b} {c} {d} {q} {slots} {lo} e n = subst (λ x. Advanced b q slots lo c x d) e n

-- the variables of a state, in the first slots of the frame; and its memory
pub record Represents (q vars : ℕ) (s : State) (c : Cpu) : Type 0 where
  pub memory : c.memory ≡ s.memory
  pub slots : (x : ℕ) → x < vars → slot c.stack q x ≡ nth 0 s.vars x

pub represents_then : {b : Board} {c d : Cpu} {q slots lo k vars : ℕ} {s : State} → vars ≤ lo → Represents q vars s c → Advanced b q slots lo c k d → Represents q vars s d
represents_then {q = q} h p n = record { memory = n.memory ∙ p.memory; slots = λ x y. same_slot q x (inl (omega arith)) n.stack ∙ p.slots x y }

-- the value in register 5, at the word k
pub record HasValue (b : Board) (q slots lo : ℕ) (c : Cpu) (k v : ℕ) (d : Cpu) : Type 0 where
  pub at : Advanced b q slots lo c k d
  pub x5 : nth 0 d.regs 5 ≡ v

-- one instruction
pub one : {b : Board} {c : Cpu} (q slots k : ℕ) (i : Instruction) (is : List Instruction) (a : List Act) {Q : Cpu → Type 0} → HasFrame b q slots c → c.pc ≡ 4 * k → At b.code k (i ∷ is) → (exec b c i).acts ≡ a ++ c.acts → (fine_cpu (exec b c i) ≡ true → Q (exec b c i)) → Reach (record { acts = a } ∷ []) b c Q
unfolding At steps MachineStays Follows
one {b} {c} q slots k i is a {Q} g pc at ac f =
    let e : step b c ≡ exec b c i = step_at b c k i (omega (arith, g.code_low, g.apart, g.top)) at.0 at.1 at.2 pc g.unbroken in
    record { holds = subst Q (sym e) (f (subst (λ d. fine_cpu d ≡ true) e (machine_stays 1 b c g.fine))); says = (record { running = ne_eqb c.pc the_end (λ x. omega (arith, at.1, g.code_low, g.apart, g.top)); added = ap (λ d. d.acts) e ∙ ac }, tt) }

-- with no act, to a machine that is known
pub one_quiet : {b : Board} {c : Cpu} (q slots k : ℕ) (i : Instruction) (is : List Instruction) {Q : Cpu → Type 0} (x : Cpu) → HasFrame b q slots c → c.pc ≡ 4 * k → At b.code k (i ∷ is) → exec b c i ≡ x → x.acts ≡ c.acts → (fine_cpu x ≡ true → Q x) → Reach quiet b c Q
one_quiet q slots k i is {Q} x g pc at e a f = one q slots k i is [] g pc at (ap (λ d. d.acts) e ∙ a) (subst (λ z. fine_cpu z ≡ true → Q z) (sym e) f)

pub reg_is : (c : Cpu) (r : ℕ) → 0 < r → reg c r ≡ nth 0 c.regs r
reg_is c r h = pick_false _ _ _ (ne_eqb r 0 (λ e. omega arith))

-- an immediate of 12 bits without a sign
pub immediate_is : (n : ℕ) → n < 2048 → signed 12 n ≡ n
unfolding two_to
immediate_is n h = pick_true _ _ _ (lt-ltb n 2048 h)

-- an instruction that puts a word into a register other than 2
pub puts_register : {b : Board} {c d : Cpu} {q slots lo k : ℕ} (i : Instruction) (is : List Instruction) (r v : ℕ) → Advanced b q slots lo c k d → At b.code k (i ∷ is) → r ≢ 2 → exec b d i ≡ put r v d →
    Reach quiet b d (λ e. Advanced b q slots lo c (suc k) e × (e.regs ≡ set_at d.regs r v) × (e.stack ≡ d.stack))
unfolding At
puts_register {b} {c} {d} {q} {slots} {lo} {k} i is r v n at r2 e =
    one_quiet q slots k i is (put r v d) n.good n.pc at e refl
    (λ g. (record { good = frame_kept n.good refl g (nth_set_other 0 d.regs r 2 v r2) refl refl; pc = omega (arith, n.pc, n.good.code_small, at.1); memory = n.memory; acts = n.acts; stack = n.stack }, refl, refl))

-- into register 5
pub puts_value : {b : Board} {c d : Cpu} {q slots lo k : ℕ} (i : Instruction) (is : List Instruction) (v j : ℕ) → suc k ≡ j → Advanced b q slots lo c k d → At b.code k (i ∷ is) → exec b d i ≡ put 5 v d → Reach quiet b d (HasValue b q slots lo c j v)
puts_value {d = d} i is v j p n at e =
    and_so (puts_register i is 5 v n at (λ x. omega arith) e) (λ f h.
    record { at = advanced_at p h.0; x5 = ap (λ l. nth 0 l 5) h.1 ∙ nth_set_same 0 d.regs 5 v (omega (arith, registers_32 d n.good.fine)) })

-- addresses in the frame
address : {b : Board} {q slots : ℕ} {c : Cpu} → HasFrame b q slots c → (j : ℕ) → j < slots → plus (reg c 2) (signed 12 (4 * j)) ≡ b.stack_base + (q + 4 * j)
unfolding pick
address {b} {q} {slots} {c} g j h = ap (plus (nth 0 c.regs 2)) (immediate_is (4 * j) (omega (arith, g.few))) ∙ omega (arith, g.sp, g.room, g.top)

pub exec_load_slot : {b : Board} {q slots : ℕ} {c : Cpu} → HasFrame b q slots c → (r j : ℕ) → j < slots → exec b c (load_slot r j) ≡ put r (slot c.stack q j) c
unfolding exec load_size extended
exec_load_slot {b} {q} {slots} {c} g r j h =
    ap (λ a. loads b c r a 4 (λ v. v)) (address g j h) ∙ loads_stack b c r (q + 4 * j) 4 (λ v. v) g.apart (omega arith) (omega (arith, g.room))

exec_store_slot : {b : Board} {q slots : ℕ} {c : Cpu} → HasFrame b q slots c → (r j : ℕ) → j < slots → exec b c (store_slot r j) ≡ with_stack (bytes_put c.stack (q + 4 * j) 4 (reg c r)) c
unfolding exec store_size
exec_store_slot {b} {q} {slots} {c} g r j h =
    ap (λ a. stores b c a 4 (reg c r)) (address g j h) ∙ stores_stack b c (q + 4 * j) 4 (reg c r) g.apart (omega arith) (omega (arith, g.room))

-- what a store to slot j leaves
pub record Stored (b : Board) (q slots lo : ℕ) (c d : Cpu) (k j v : ℕ) (e : Cpu) : Type 0 where
  pub at : Advanced b q slots lo c k e
  pub regs : e.regs ≡ d.regs
  pub holds : slot e.stack q j ≡ v
  pub stack : Same (q + 4 * j) (q + 4 * j + 4) d.stack e.stack
  pub memory : e.memory ≡ d.memory
  pub acts : e.acts ≡ d.acts

-- an instruction that puts a word into a slot
pub puts_slot : {b : Board} {c d : Cpu} {q slots lo k : ℕ} (i : Instruction) (is : List Instruction) (j v : ℕ) → Advanced b q slots lo c k d → At b.code k (i ∷ is) → lo ≤ j → j < slots → v < whole →
    exec b d i ≡ with_stack (bytes_put d.stack (q + 4 * j) 4 v) d → Reach quiet b d (Stored b q slots lo c d (suc k) j v)
unfolding At
puts_slot {b} {c} {d} {q} {slots} {lo} {k} i is j v n at l h w e =
    let y : Same (q + 4 * j) (q + 4 * j + 4) d.stack (bytes_put d.stack (q + 4 * j) 4 v) = same_put d.stack (q + 4 * j) 4 v in
    one_quiet q slots k i is (with_stack (bytes_put d.stack (q + 4 * j) 4 v) d) n.good n.pc at e refl
    (λ g. record {
      at = record { good = frame_kept n.good refl g refl refl y.len; pc = omega (arith, n.pc, n.good.code_small, at.1); memory = n.memory; acts = n.acts; stack = same_then n.stack (same_wide (omega arith) (omega arith) y) };
      regs = refl;
      holds = at_put d.stack (q + 4 * j) 4 v (omega arith) (omega (arith, n.good.room));
      stack = y;
      memory = refl;
      acts = refl;
    })

-- a register to a slot
pub stores_slot : {b : Board} {c d : Cpu} {q slots lo k : ℕ} (is : List Instruction) (r j : ℕ) → Advanced b q slots lo c k d → At b.code k (store_slot r j ∷ is) → lo ≤ j → j < slots → 0 < r → Reach quiet b d (Stored b q slots lo c d (suc k) j (nth 0 d.regs r))
stores_slot {d = d} {q} is r j n at l h p =
    puts_slot (store_slot r j) is j (nth 0 d.regs r) n at l h (register_word d r n.good.fine) (exec_store_slot n.good r j h ∙ ap (λ v. with_stack (bytes_put d.stack (q + 4 * j) 4 v) d) (reg_is d r p))
