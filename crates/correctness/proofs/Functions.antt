-- The code of a function, from its first word to where it was called from: prologue, body, epilogue.
use Rattle.std.proofs.Common.{◌≡◌, ℕ, zero, suc, ◌+◌, ◌-◌, ◌*◌, ◌%◌, ◌<◌, ◌≤◌, true, ltb, ◌≢◌, ◌⊎◌, List, [], ◌∷◌, ◌++◌, length, sym, refl, ap, ◌∙◌, subst, inl, inr, arith, length-append, ltb-true, le-ltb, lt-ltb, eq-eqb}
use Rattle.std.proofs.lemmas.Bool.{and_parts, and_from, cases_eq}
use Rattle.model.specs.Words.{whole, plus, signed, two_to, many, nth, set_at, bytes_put}
use Rattle.model.specs.Source.{Function, State, entered, with_var, give_back, taken, padded}
use Rattle.model.specs.Machine.{Board, Cpu, reg, put, stores, link, at_pc}
use Rattle.model.specs.Promise.{all_vars}
use Rattle.riscv.specs.declared.instruction.Instruction.{Instruction}
use Rattle.riscv.specs.declared.instruction.Instruction.TheVariants.{Jal, Jalr, Branch, Store, Immediate}
use Rattle.riscv.specs.declared.instruction.Condition.TheVariants.{Ne}
use Rattle.riscv.specs.declared.instruction.StoreOp.TheVariants.{Sw}
use Rattle.riscv.specs.declared.instruction.ImmediateOp.TheVariants.{Addi}
use Rattle.riscv.specs.Execution.{exec, store_size, with_immediate}
use Rattle.codegen.specs.Frame.{return_slot, frame_bytes, load_slot, store_slot, back}
use Rattle.codegen.specs.Expressions.{jump_on}
use Rattle.codegen.specs.Commands.{slots_from, load_registers, store_registers, code_cs}
use Rattle.codegen.specs.Functions.{zero_slots, prologue, epilogue, code_f}
use Rattle.model.proofs.Picks.{pick_true, pick_false}
use Rattle.model.proofs.Memory.{nth_set_same, nth_set_other}
use Rattle.model.proofs.Machine.{registers_32, register_word}
use Rattle.model.proofs.Runs.{give_memory, give_acts}
use Rattle.model.proofs.Accepted.{CheckedF}
use Rattle.correctness.proofs.Plans.{Plan, silent, quiet, quiets, Reach, stay, and_so, and_then}
use Rattle.correctness.proofs.CodeInPlace.{At, at_within, at_tail, at_split}
use Rattle.correctness.proofs.StackBytes.{Same, same_then, same_wide, slot, same_slot, with_stack, stores_stack}
use Rattle.correctness.proofs.Frames.{HasFrame, frame_at, frame_kept, frame_less, Advanced, advanced, advanced_at, Represents, one_quiet, reg_is, immediate_is, puts_register, exec_load_slot, Stored, puts_slot, stores_slot}
use Rattle.correctness.proofs.Jumps.{jumps_on, jumps_back, branch_taken, branch_passed}
use Rattle.correctness.proofs.Simulation.{FollowsRun, reach_then, run_then_reach}
use Rattle.correctness.proofs.Matching.{Matches, matches_at, matches_set, Env, runs_in, CommandsRun}

-- registers from r on hold values
unfoldable pub RegistersHold : List ℕ → ℕ → List ℕ → Type 0
RegistersHold rs r [] = Unit {0}
RegistersHold rs r (v ∷ vs) = (nth 0 rs r ≡ v) × RegistersHold rs (suc r) vs

pub registers_kept : (rs ts : List ℕ) (r : ℕ) (vs : List ℕ) → ((y : ℕ) → r ≤ y → nth 0 ts y ≡ nth 0 rs y) → RegistersHold rs r vs → RegistersHold ts r vs
unfolding RegistersHold
registers_kept rs ts r [] f h = tt
registers_kept rs ts r (v ∷ vs) f h = (f r (omega arith) ∙ h.0, registers_kept rs ts (suc r) vs (λ y p. f y (omega arith)) h.1)

pub no_registers : (rs : List ℕ) (r : ℕ) → RegistersHold rs r []
unfolding RegistersHold
no_registers rs r = tt

-- slots hold values
unfoldable pub SlotsHold : List ℕ → ℕ → ℕ → List ℕ → List ℕ → Type 0
SlotsHold st q slots [] [] = Unit {0}
SlotsHold st q slots [] (v ∷ vs) = ⊥
SlotsHold st q slots (x ∷ xs) [] = ⊥
SlotsHold st q slots (x ∷ xs) (v ∷ vs) = (slot st q x ≡ v) × (x < slots) × SlotsHold st q slots xs vs

pub length_load_registers : (xs : List ℕ) (r : ℕ) → length (load_registers xs r) ≡ length xs
unfolding load_registers
length_load_registers [] r = refl
length_load_registers (x ∷ xs) r = ap suc (length_load_registers xs (suc r))

pub length_store_registers : (xs : List ℕ) (r : ℕ) → length (store_registers xs r) ≡ length xs
unfolding store_registers
length_store_registers [] r = refl
length_store_registers (x ∷ xs) r = ap suc (length_store_registers xs (suc r))

pub length_slots : (j n : ℕ) → length (slots_from j n) ≡ n
unfolding slots_from
length_slots j zero = refl
length_slots j (suc n) = ap suc (length_slots (suc j) n)

pub slots_in : (v j n : ℕ) → j + n ≤ v → all_vars v (slots_from j n) ≡ true
unfolding all_vars slots_from
slots_in v j zero h = refl
slots_in v j (suc n) h = and_from _ _ (lt-ltb j v (omega arith)) (slots_in v (suc j) n (omega arith))

-- slots to registers
pub loads_registers : {b : Board} {c : Cpu} {q slots lo : ℕ} (xs vs : List ℕ) (r k : ℕ) (d : Cpu) → 2 < r → r + length xs ≤ 32 → Advanced b q slots lo c k d → At b.code k (load_registers xs r) → SlotsHold d.stack q slots xs vs →
    Reach (quiets (load_registers xs r)) b d (λ e. Advanced b q slots lo c (k + length xs) e × RegistersHold e.regs r vs × ((y : ℕ) → y < r → nth 0 e.regs y ≡ nth 0 d.regs y) × (e.stack ≡ d.stack))
unfolding RegistersHold SlotsHold load_registers quiets
loads_registers [] [] r k d r2 rl n at h = stay (advanced_at (omega arith) n, tt, (λ y p. refl), refl)
loads_registers [] (v ∷ vs) r k d r2 rl n at h = absurd h
loads_registers (x ∷ xs) [] r k d r2 rl n at h = absurd h
loads_registers {b} {c} {q} {slots} {lo} (x ∷ xs) (v ∷ vs) r k d r2 rl n at h =
    and_then (puts_register (load_slot r x) (load_registers xs (suc r)) r (slot d.stack q x) n at (λ z. omega arith) (exec_load_slot n.good r x h.1)) (λ e g.
    and_so (loads_registers xs vs (suc r) (suc k) e (omega arith) (omega arith) g.0 (at_tail _ _ _ _ at) (subst (λ l. SlotsHold l q slots xs vs) (sym g.2) h.2)) (λ f m. (
      advanced_at (omega arith) m.0,
      (m.2 r (omega arith) ∙ ap (λ l. nth 0 l r) g.1 ∙ nth_set_same 0 d.regs r _ (omega (arith, registers_32 d n.good.fine)) ∙ h.0, m.1),
      (λ y p. m.2 y (omega arith) ∙ ap (λ l. nth 0 l y) g.1 ∙ nth_set_other 0 d.regs r y _ (λ z. omega arith)),
      m.3 ∙ g.2,
    )))

-- registers to variables
pub stores_registers : {b : Board} {q vars : ℕ} {st0 : List ℕ} (xs vs : List ℕ) (r k : ℕ) (s : State) (c : Cpu) → 0 < r → length xs ≡ length vs → all_vars vars xs ≡ true → Matches b q vars st0 k s c → At b.code k (store_registers xs r) → RegistersHold c.regs r vs →
    Reach (quiets (store_registers xs r)) b c (Matches b q vars st0 (k + length xs) (give_back xs vs s))
unfolding quiets RegistersHold store_registers give_back all_vars
stores_registers [] [] r k s c r0 l hx h at i = stay (matches_at (omega arith) h)
stores_registers [] (v ∷ vs) r k s c r0 l hx h at i = absurd (omega arith)
stores_registers (x ∷ xs) [] r k s c r0 l hx h at i = absurd (omega arith)
stores_registers {b} {q} {vars} {st0} (x ∷ xs) (v ∷ vs) r k s c r0 l hx h at i =
    let p : (ltb x vars ≡ true) × (all_vars vars xs ≡ true) = and_parts _ _ hx in
    and_then (matches_set (store_registers xs (suc r)) r x v h at (ltb-true x vars p.0) r0 i.0) (λ d g.
    and_so (stores_registers xs vs (suc r) (suc k) (with_var x v s) d (omega arith) (omega arith) p.1 g.0 (at_tail _ _ _ _ at) (subst (λ rs. RegistersHold rs (suc r) vs) (sym g.1) i.1)) (λ e m.
    matches_at (omega arith) m))

-- 0 to a slot, through register 5
exec_zero : {b : Board} {q slots : ℕ} {c : Cpu} → HasFrame b q slots c → (j : ℕ) → j < slots → nth 0 c.regs 5 ≡ b.stack_base + (q + 4 * j) → exec b c (Store Sw 0 5 0) ≡ with_stack (bytes_put c.stack (q + 4 * j) 4 0) c
unfolding exec store_size
exec_zero {b} {q} {slots} {c} g j h e = (λ i. stores b c (there i) 4 (nil i)) ∙ stores_stack b c (q + 4 * j) 4 0 g.apart (omega arith) (omega (arith, g.room))
  where
    nil : reg c 0 ≡ 0
    nil = pick_true _ _ _ (eq-eqb 0 0 refl)

    there : plus (reg c 5) (signed 12 0) ≡ b.stack_base + (q + 4 * j)
    there = (λ i. plus ((reg_is c 5 (omega arith) ∙ e) i) (immediate_is 0 (omega arith) i)) ∙ small (b.stack_base + (q + 4 * j)) (omega (arith, g.room, g.top))
      where
        small : (z : ℕ) → z < whole → plus z 0 ≡ z
        small z p = omega arith

exec_add : (b : Board) (c : Cpu) (r1 r2 n x : ℕ) → 0 < r2 → n < 2048 → nth 0 c.regs r2 ≡ x → x + n < whole → exec b c (Immediate Addi r1 r2 n) ≡ put r1 (x + n) c
unfolding exec with_immediate
exec_add b c r1 r2 n x r0 h e l =
    ap (λ z. put r1 z c) ((λ i. plus ((reg_is c r2 r0 ∙ e) i) (immediate_is n h i)) ∙ omega arith)

-- the loop that zeroes the variables: register 5 goes up to register 6
abbrev ZeroLoop : List Instruction
ZeroLoop = Branch Ne 5 6 8 ∷ (jump_on 4 ∷ (Store Sw 0 5 0 ∷ (Immediate Addi 5 5 4 ∷ (Jal 0 (back 16) ∷ []))))

unfoldable loop_plan : ℕ → Plan
loop_plan zero = silent ∷ quiet
loop_plan (suc r) = silent ∷ (silent ∷ (silent ∷ (silent ∷ loop_plan r)))

zero_loop : {b : Board} {c : Cpu} {q slots k v : ℕ} (r j : ℕ) (d : Cpu) → j + r ≡ v → v ≤ slots → Advanced b q slots 0 c k d → At b.code k ZeroLoop → nth 0 d.regs 5 ≡ b.stack_base + (q + 4 * j) → nth 0 d.regs 6 ≡ b.stack_base + (q + 4 * v) →
    ((x : ℕ) → x < j → slot d.stack q x ≡ 0) →
    Reach (loop_plan r) b d (λ e. Advanced b q slots 0 c (k + 5) e × ((x : ℕ) → x < v → slot e.stack q x ≡ 0) × ((y : ℕ) → 6 < y → nth 0 e.regs y ≡ nth 0 d.regs y))
unfolding loop_plan
zero_loop {b} {c} {q} {slots} {k} {v} zero j d jr vs n at h5 h6 z =
    let a1 : At b.code (suc k) _ = at_tail _ _ _ _ at in
    let last : k + 5 ≤ length b.code = at_within b.code k ZeroLoop at in
    and_then (branch_passed _ 5 6 n at (reg_is d 5 (omega arith) ∙ h5 ∙ ap (λ w. b.stack_base + (q + 4 * w)) (omega arith) ∙ sym (reg_is d 6 (omega arith) ∙ h6))) (λ d1 g1.
    and_then (jumps_on _ 4 g1.0 a1 (omega arith)) (λ d2 g2.
    stay (advanced_at (omega arith) g2.at, (λ x p. ap (λ l. slot l q x) (g2.stack ∙ g1.2) ∙ z x (omega arith)), (λ y p. g2.regs y (omega arith) ∙ ap (λ l. nth 0 l y) g1.1))))
zero_loop {b} {c} {q} {slots} {k} {v} (suc r) j d jr vs n at h5 h6 z =
    let a1 : At b.code (suc k) _ = at_tail _ _ _ _ at in
    let a2 : At b.code (suc (suc k)) _ = at_tail _ _ _ _ a1 in
    let a3 : At b.code (suc (suc (suc k))) _ = at_tail _ _ _ _ a2 in
    let a4 : At b.code (suc (suc (suc (suc k)))) _ = at_tail _ _ _ _ a3 in
    let last : k + 5 ≤ length b.code = at_within b.code k ZeroLoop at in
    and_then (branch_taken _ 5 6 n at (λ e. let p : b.stack_base + (q + 4 * j) ≡ b.stack_base + (q + 4 * v) = sym h5 ∙ sym (reg_is d 5 (omega arith)) ∙ e ∙ reg_is d 6 (omega arith) ∙ h6 in omega arith) (omega arith)) (λ d1 g1.
    let five1 : nth 0 d1.regs 5 ≡ b.stack_base + (q + 4 * j) = ap (λ l. nth 0 l 5) g1.1 ∙ h5 in
    and_then (puts_slot (Store Sw 0 5 0) _ j 0 g1.0 a2 (omega arith) (omega arith) (omega arith) (exec_zero g1.0.good j (omega arith) five1)) (λ d2 g2.
    let regs2 : d2.regs ≡ d.regs = g2.regs ∙ g1.1 in
    and_then (puts_register (Immediate Addi 5 5 4) _ 5 (b.stack_base + (q + 4 * j) + 4) g2.at a3 (λ e. omega arith) (exec_add b d2 5 5 4 (b.stack_base + (q + 4 * j)) (omega arith) (omega arith) (ap (λ l. nth 0 l 5) regs2 ∙ h5) (omega (arith, n.good.top, n.good.room)))) (λ d3 g3.
    and_then (jumps_back _ 4 k g3.0 a4 (omega arith) (omega arith) (omega arith)) (λ d4 g4.
    let st4 : d4.stack ≡ d2.stack = g4.stack ∙ g3.2 in
    let other : (y : ℕ) → 5 < y → nth 0 d4.regs y ≡ nth 0 d.regs y = λ y p. g4.regs y (omega arith) ∙ ap (λ l. nth 0 l y) g3.1 ∙ nth_set_other 0 d2.regs 5 y _ (λ e. omega arith) ∙ ap (λ l. nth 0 l y) regs2 in
    and_so (zero_loop {v = v} r (suc j) d4 (omega arith) vs g4.at at
    (g4.regs 5 (omega arith) ∙ ap (λ l. nth 0 l 5) g3.1 ∙ nth_set_same 0 d2.regs 5 _ (omega (arith, registers_32 d2 g2.at.good.fine)) ∙ omega arith)
    (other 6 (omega arith) ∙ h6)
    (λ x p. ap (λ l. slot l q x) st4 ∙ cleared d1 d2 g1.2 g2 x (cases_eq x j) p)) (λ d5 g5.
    (g5.0, g5.1, (λ y p. g5.2 y p ∙ other y (omega arith))))))))
  where
    cleared : (d1 d2 : Cpu) → d1.stack ≡ d.stack → Stored b q slots 0 c d1 (suc (suc (suc k))) j 0 d2 → (x : ℕ) → (x ≡ j) ⊎ (x ≡ j → ⊥) → x < suc j → slot d2.stack q x ≡ 0
    cleared d1 d2 st1 g2 x (inl e) p = subst (λ y. slot d2.stack q y ≡ 0) (sym e) g2.holds
    cleared d1 d2 st1 g2 x (inr e) p = let l : x < j = omega (arith, e) in same_slot q x (inl (omega arith)) g2.stack ∙ ap (λ l'. slot l' q x) st1 ∙ z x l

-- variables: 0, and then the arguments, is what a function is entered with
state_eq : (s t : State) → s.vars ≡ t.vars → s.memory ≡ t.memory → s.acts ≡ t.acts → s ≡ t
state_eq s t p q r = λ i. record { vars = p i; memory = q i; acts = r i }

sets : List ℕ → ℕ → List ℕ → List ℕ
sets l j [] = l
sets l j (v ∷ vs) = sets (set_at l j v) (suc j) vs

sets_cons : (a : ℕ) (l : List ℕ) (j : ℕ) (vs : List ℕ) → sets (a ∷ l) (suc j) vs ≡ a ∷ sets l j vs
unfolding sets set_at
sets_cons a l j [] = refl
sets_cons a l j (v ∷ vs) = sets_cons a (set_at l j v) (suc j) vs

pub zeros_padded : (n : ℕ) → many n 0 ≡ padded n []
unfolding many padded
zeros_padded zero = refl
zeros_padded (suc n) = ap {B = List ℕ} (λ l. 0 ∷ l) (zeros_padded n)

sets_padded : (n : ℕ) (vs : List ℕ) → length vs ≤ n → sets (many n 0) 0 vs ≡ padded n vs
unfolding sets set_at many padded
sets_padded n [] h = zeros_padded n
sets_padded zero (v ∷ vs) h = absurd (omega arith)
sets_padded (suc n) (v ∷ vs) h = sets_cons v (many n 0) 0 vs ∙ ap {B = List ℕ} (λ l. v ∷ l) (sets_padded n vs (omega arith))

give_vars : (j : ℕ) (vs : List ℕ) (s : State) → (give_back (slots_from j (length vs)) vs s).vars ≡ sets s.vars j vs
unfolding give_back slots_from sets
give_vars j [] s = refl
give_vars j (v ∷ vs) s = give_vars (suc j) vs (with_var j v s)

abbrev fresh : ℕ → State → State
fresh v s = record { vars = many v 0; memory = s.memory; acts = s.acts }

entered_is : (f : Function) (vs : List ℕ) (s : State) → length vs ≤ f.variables → give_back (slots_from 0 (length vs)) vs (fresh f.variables s) ≡ entered f vs s
entered_is f vs s h = state_eq _ _ (give_vars 0 vs (fresh f.variables s) ∙ sets_padded f.variables vs h) (give_memory _ vs (fresh f.variables s)) (give_acts _ vs (fresh f.variables s))

nth_many : (n x : ℕ) → nth {A = ℕ} 0 (many n 0) x ≡ 0
unfolding nth many
nth_many zero x = refl
nth_many (suc n) zero = refl
nth_many (suc n) (suc x) = nth_many n x

length_many : (n : ℕ) → length {A = ℕ} (many n 0) ≡ n
unfolding many
length_many zero = refl
length_many (suc n) = ap suc (length_many n)

-- register 2 moves
moves_frame : {b : Board} {c : Cpu} {q slots : ℕ} (k : ℕ) (i : Instruction) (is : List Instruction) (p m : ℕ) → HasFrame b q slots c → c.pc ≡ 4 * k → At b.code k (i ∷ is) → exec b c i ≡ put 2 (b.stack_base + p) c → p + 4 * m ≤ length c.stack → m ≤ 512 →
    Reach quiet b c (λ d. HasFrame b p m d × (d.pc ≡ 4 * suc k) × ((y : ℕ) → y ≢ 2 → nth 0 d.regs y ≡ nth 0 c.regs y) × (d.memory ≡ c.memory) × (d.acts ≡ c.acts) × (d.stack ≡ c.stack))
unfolding At
moves_frame {b} {c} {q} {slots} k i is p m g pc at e r f =
    one_quiet q slots k i is (put 2 (b.stack_base + p) c) g pc at e refl
    (λ h. (
      frame_at p m g refl h (nth_set_same 0 c.regs 2 _ (omega (arith, registers_32 c g.fine))) refl refl r f,
      omega (arith, pc, at.1, g.code_small),
      (λ y z. nth_set_other 0 c.regs 2 y _ (λ w. z (sym w))),
      refl,
      refl,
      refl,
    ))

down_by : (a n : ℕ) → 0 < n → n ≤ 2048 → n ≤ a → a < whole → plus a ((4096 - n + (whole - 4096)) % whole) ≡ a - n
down_by a n p h l u = let e : (4096 - n + (whole - 4096)) % whole ≡ whole - n = omega arith in ap (plus a) e ∙ omega arith

exec_down : {b : Board} {c : Cpu} {top : ℕ} (q n : ℕ) → HasFrame b top 0 c → 0 < n → n ≤ 2048 → q + n ≡ top → exec b c (Immediate Addi 2 2 (4096 - n)) ≡ put 2 (b.stack_base + q) c
unfolding exec two_to with_immediate
exec_down {b} {c} {top} q n g p h e =
    let imm : signed 12 (4096 - n) ≡ (4096 - n + (whole - 4096)) % whole = pick_false _ _ _ (le-ltb (4096 - n) 2048 (omega arith)) in
    ap (λ z. put 2 z c) ((λ i. plus ((reg_is c 2 (omega arith) ∙ g.sp) i) (imm i)) ∙ down_by (b.stack_base + top) n p h (omega arith) (omega (arith, g.top, g.room)) ∙ omega arith)

-- back to where it was called from
returns : {b : Board} {c : Cpu} {q slots : ℕ} (k : ℕ) (is : List Instruction) (ra : ℕ) → HasFrame b q slots c → c.pc ≡ 4 * k → At b.code k (Jalr 0 1 0 ∷ is) → nth 0 c.regs 1 ≡ ra → ra % 4 ≡ 0 →
    Reach quiet b c (λ d. HasFrame b q slots d × (d.pc ≡ ra) × ((y : ℕ) → 0 < y → nth 0 d.regs y ≡ nth 0 c.regs y) × (d.memory ≡ c.memory) × (d.acts ≡ c.acts) × (d.stack ≡ c.stack))
unfolding At exec
returns {b} {c} {q} {slots} k is ra g pc at e f =
    one_quiet q slots k (Jalr 0 1 0) is (at_pc ra (put 0 (plus c.pc 4) c)) g pc at there refl
    (λ h. (frame_kept g refl h (nth_set_other 0 c.regs 0 2 _ (λ w. omega arith)) refl refl, refl, (λ y z. nth_set_other 0 c.regs 0 y _ (λ w. omega arith)), refl, refl, refl))
  where
    to : (z : ℕ) → z < whole → z % 4 ≡ 0 → plus z 0 - plus z 0 % 2 ≡ z
    to z p r = let w : plus z 0 ≡ z = omega arith in ap (λ y. y - y % 2) w ∙ omega arith

    at_ra : plus (reg c 1) (signed 12 0) ≡ plus ra 0
    at_ra = λ i. plus ((reg_is c 1 (omega arith) ∙ e) i) (immediate_is 0 (omega arith) i)

    there : exec b c (Jalr 0 1 0) ≡ at_pc ra (put 0 (plus c.pc 4) c)
    there = ap (λ a. link c 0 (a - a % 2)) at_ra
        ∙ ap (link c 0) (to ra (subst (λ z. z < whole) e (register_word c 1 g.fine)) f) ∙ pick_true _ _ _ (eq-eqb (ra % 4) 0 f)

-- a function is entered at the word k, and left
pub record Entry (b : Board) (top ra k : ℕ) (s : State) (vs : List ℕ) (c : Cpu) : Type 0 where
  pub good : HasFrame b top 0 c
  pub pc : c.pc ≡ 4 * k
  pub return : nth 0 c.regs 1 ≡ ra
  pub args : RegistersHold c.regs 8 vs
  pub memory : c.memory ≡ s.memory
  pub acts : c.acts ≡ s.acts

pub record Exit (b : Board) (top ra : ℕ) (st0 us : List ℕ) (t : State) (d : Cpu) : Type 0 where
  pub good : HasFrame b top 0 d
  pub pc : d.pc ≡ ra
  pub results : RegistersHold d.regs 8 us
  pub memory : d.memory ≡ t.memory
  pub acts : d.acts ≡ t.acts
  pub stack : Same 0 top st0 d.stack

-- a frame has room for the variables, the temporaries and the return address
pub frame_room : (f : Function) → 4 * (f.variables + 41) ≤ frame_bytes f
frame_room f = omega arith

pub frame_small : (f : Function) → f.variables ≤ 256 → frame_bytes f ≤ 1200
frame_small f h = omega arith

-- the prologue up to the arguments: the frame made, the return address kept, the variables 0
makes_frame : {b : Board} {c : Cpu} {s : State} {vs : List ℕ} (f : Function) (top q ra k : ℕ) (is : List Instruction) → Entry b top ra k s vs c → f.variables ≤ 256 → q + frame_bytes f ≡ top →
    At b.code k (Immediate Addi 2 2 (4096 - frame_bytes f) ∷ (store_slot 1 (return_slot f) ∷ (zero_slots f.variables ++ is))) →
    Reach (silent ∷ (silent ∷ (silent ∷ (silent ∷ loop_plan f.variables)))) b c (λ d. (st0 : List ℕ) × Matches b q f.variables st0 (k + 9) (fresh f.variables s) d × RegistersHold d.regs 8 vs × (slot st0 q (return_slot f) ≡ ra) × Same 0 top c.stack st0)
unfolding zero_slots
makes_frame {b} {c} {s} {vs} f top q ra k is h small room at =
    let v : ℕ = f.variables in
    let n : ℕ = frame_bytes f in
    let n1 : 4 * (v + 41) ≤ n = frame_room f in
    let n2 : n ≤ 1200 = frame_small f small in
    let a1 : At b.code (suc k) _ = at_tail _ _ _ _ at in
    let a2 : At b.code (suc (suc k)) (Immediate Addi 5 2 0 ∷ _) = at_tail _ _ _ _ a1 in
    let a3 : At b.code (suc (suc (suc k))) (Immediate Addi 6 2 (4 * v) ∷ _) = at_tail _ _ _ _ a2 in
    let a4 : At b.code (suc (suc (suc (suc k)))) (ZeroLoop ++ is) = at_tail _ _ _ _ a3 in
    let a5 : At b.code (suc (suc (suc (suc k)))) ZeroLoop × At b.code (suc (suc (suc (suc k))) + 5) is = at_split b.code _ ZeroLoop is a4 in
    and_then (moves_frame k (Immediate Addi 2 2 (4096 - n)) _ q (v + 41) h.good h.pc at (exec_down q n h.good (omega arith) (omega arith) room) (omega (arith, h.good.room)) (omega arith)) (λ c1 g1.
    and_then (stores_slot _ 1 (v + 40) (advanced 0 g1.0 g1.1) a1 (omega arith) (omega arith) (omega arith)) (λ c2 g2.
    let st0 : List ℕ = c2.stack in
    let sp2 : nth 0 c2.regs 2 ≡ b.stack_base + q = g2.at.good.sp in
    let n2 : Advanced b q (v + 40) 0 c2 (suc (suc k)) c2 = advanced 0 (frame_less (omega arith) g2.at.good) g2.at.pc in
    and_then (puts_register (Immediate Addi 5 2 0) _ 5 (b.stack_base + q + 0) n2 a2 (λ z. omega arith) (exec_add b c2 5 2 0 (b.stack_base + q) (omega arith) (omega arith) sp2 (omega (arith, n2.good.room, n2.good.top)))) (λ c3 g3.
    and_then (puts_register (Immediate Addi 6 2 (4 * v)) _ 6 (b.stack_base + q + 4 * v) g3.0 a3 (λ z. omega arith) (exec_add b c3 6 2 (4 * v) (b.stack_base + q) (omega arith) (omega arith) g3.0.good.sp (omega (arith, n2.good.room, n2.good.top)))) (λ c4 g4.
    let five : nth 0 c4.regs 5 ≡ b.stack_base + (q + 4 * 0) = ap (λ l. nth 0 l 5) g4.1 ∙ nth_set_other 0 c3.regs 6 5 _ (λ z. omega arith) ∙ ap (λ l. nth 0 l 5) g3.1 ∙ nth_set_same 0 c2.regs 5 _ (omega (arith, registers_32 c2 n2.good.fine)) ∙ omega arith in
    let six : nth 0 c4.regs 6 ≡ b.stack_base + (q + 4 * v) = ap (λ l. nth 0 l 6) g4.1 ∙ nth_set_same 0 c3.regs 6 _ (omega (arith, registers_32 c3 g3.0.good.fine)) ∙ omega arith in
    and_so (zero_loop {v = v} v 0 c4 (omega arith) (omega arith) g4.0 a5.0 five six (λ x p. absurd (omega arith))) (λ c5 g5.
    let high : (y : ℕ) → 8 ≤ y → nth 0 c5.regs y ≡ nth 0 c.regs y = λ y p.
    g5.2 y (omega arith) ∙ ap (λ l. nth 0 l y) g4.1 ∙ nth_set_other 0 c3.regs 6 y _ (λ z. omega arith) ∙ ap (λ l. nth 0 l y) g3.1 ∙ nth_set_other 0 c2.regs 5 y _ (λ z. omega arith) ∙ ap (λ l. nth 0 l y) g2.regs ∙ g1.2 y (λ z. omega arith) in (
      st0,
      record {
        good = g5.0.good;
        pc = (advanced_at {j = k + 9} (omega arith) g5.0).pc;
        state = record { memory = g5.0.memory ∙ g2.memory ∙ g1.3 ∙ h.memory; slots = λ x p. g5.1 x p ∙ sym (nth_many v x) };
        acts = g5.0.acts ∙ g2.acts ∙ g1.4 ∙ h.acts;
        many = length_many v;
        stack = same_wide (omega arith) (omega arith) g5.0.stack;
      },
      registers_kept c.regs c5.regs 8 vs high h.args,
      g2.holds ∙ g1.2 1 (λ z. omega arith) ∙ h.return,
      subst (λ l. Same 0 top l st0) g1.5 (same_wide (omega arith) (omega arith) g2.stack),
    ))))))

pub length_prologue : (f : Function) → length (prologue f) ≡ 9 + f.arguments
unfolding prologue zero_slots
length_prologue f =
    let K : List Instruction = store_registers (slots_from 0 f.arguments) 8 in
    omega (arith, length-append (zero_slots f.variables) K, length_store_registers (slots_from 0 f.arguments) 8, length_slots 0 f.arguments)

-- the whole prologue: the variables are what the function is entered with
enters : {b : Board} (f : Function) (top q ra k : ℕ) (s : State) (vs : List ℕ) → f.variables ≤ 256 → f.arguments ≤ f.variables → length vs ≡ f.arguments → q + frame_bytes f ≡ top → At b.code k (prologue f) →
    (p : Plan) × ((c : Cpu) → Entry b top ra k s vs c → Reach p b c (λ d. (st0 : List ℕ) × Matches b q f.variables st0 (k + length (prologue f)) (entered f vs s) d × (slot st0 q (return_slot f) ≡ ra) × Same 0 top c.stack st0))
unfolding prologue zero_slots
enters {b} f top q ra k s vs small args_in lv room at =
    let v : ℕ = f.variables in
    let xs : List ℕ = slots_from 0 f.arguments in
    let K : List Instruction = store_registers xs 8 in
    let a1 : At b.code (suc (suc k)) (zero_slots v ++ K) = at_tail _ _ _ _ (at_tail _ _ _ _ at) in
    let a2 : At b.code (suc (suc k) + 7) K = (at_split b.code (suc (suc k)) (zero_slots v) K a1).1 in
    let a3 : At b.code (k + 9) K = subst (λ x. At b.code x K) (omega arith) a2 in
    let lf : length xs ≡ length vs = length_slots 0 f.arguments ∙ sym lv in
    let is_entered : give_back xs vs (fresh v s) ≡ entered f vs s = subst (λ x. give_back (slots_from 0 x) vs (fresh v s) ≡ entered f vs s) lv (entered_is f vs s (omega (arith, lv))) in (
      _,
      λ c h.
          and_then (makes_frame f top q ra k K h small room at) (λ c1 g1.
          and_then (stores_registers xs vs 8 (k + 9) (fresh v s) c1 (omega arith) lf (slots_in v 0 f.arguments (omega arith)) g1.1 a3 g1.2) (λ c2 g2.
          stay (g1.0, matches_at (omega (arith, length_prologue f, length_slots 0 f.arguments)) (subst (λ x. Matches b q v g1.0 (k + 9 + length xs) x c2) is_entered g2), g1.3, g1.4))),
    )

variables_held : {q vars : ℕ} {t : State} {d : Cpu} (slots : ℕ) (xs : List ℕ) → vars ≤ slots → Represents q vars t d → all_vars vars xs ≡ true → SlotsHold d.stack q slots xs (taken t.vars xs)
unfolding SlotsHold taken all_vars
variables_held slots [] l h a = tt
variables_held {vars = vars} slots (x ∷ xs) l h a =
    let p : (ltb x vars ≡ true) × (all_vars vars xs ≡ true) = and_parts _ _ a in
    let x< : x < vars = ltb-true x vars p.0 in
    (h.slots x x<, omega arith, variables_held slots xs l h p.1)

-- the epilogue: the results in registers, the frame given back
leaves : {b : Board} {d : Cpu} {t : State} {st0 st1 : List ℕ} (f : Function) (top q ra k : ℕ) → Matches b q f.variables st0 k t d → q + frame_bytes f ≡ top → f.variables ≤ 256 → slot st0 q (return_slot f) ≡ ra → ra % 4 ≡ 0 → Same 0 top st1 st0 → top ≤ length st1 →
    length f.results ≤ 8 → all_vars f.variables f.results ≡ true → At b.code k (epilogue f) → Reach (quiets (load_registers f.results 8) ++ (silent ∷ (silent ∷ quiet))) b d (Exit b top ra st1 (taken t.vars f.results) t)
unfolding epilogue
leaves {b} {d} {t} {st0} {st1} f top q ra k h room small hra ra4 st01 tl few inn at =
    let v : ℕ = f.variables in
    let n : ℕ = frame_bytes f in
    let n1 : 4 * (v + 41) ≤ n = frame_room f in
    let n2 : n ≤ 1200 = frame_small f small in
    let rs : List ℕ = f.results in
    let us : List ℕ = taken t.vars rs in
    let T : List Instruction = load_slot 1 (v + 40) ∷ (Immediate Addi 2 2 n ∷ (Jalr 0 1 0 ∷ [])) in
    let a1 : At b.code k (load_registers rs 8) × At b.code (k + length (load_registers rs 8)) T = at_split b.code k (load_registers rs 8) T at in
    let lf : length (load_registers rs 8) ≡ length rs = length_load_registers rs 8 in
    let k1 : ℕ = k + length rs in
    let a2 : At b.code k1 T = subst (λ x. At b.code (k + x) T) lf a1.1 in
    let a3 : At b.code (suc k1) _ = at_tail _ _ _ _ a2 in
    let a4 : At b.code (suc (suc k1)) _ = at_tail _ _ _ _ a3 in
    and_then (loads_registers rs us 8 k d (omega arith) (omega arith) (advanced v h.good h.pc) a1.0 (variables_held (v + 40) rs (omega arith) h.state inn)) (λ d1 g1.
    let whole_st : Same 0 (q + 4 * (v + 40)) st0 d1.stack = subst (λ l. Same 0 (q + 4 * (v + 40)) st0 l) (sym g1.3) h.stack in
    let len1 : length d1.stack ≡ length st1 = whole_st.len ∙ st01.len in
    let good1 : HasFrame b q (v + 41) d1 = frame_at q (v + 41) g1.0.good refl g1.0.good.fine g1.0.good.sp refl refl (omega arith) (omega arith) in
    let saved : slot d1.stack q (v + 40) ≡ ra = same_slot q (v + 40) (inr (omega arith)) whole_st ∙ hra in
    and_then (puts_register (load_slot 1 (v + 40)) _ 1 (slot d1.stack q (v + 40)) (advanced {slots = v + 41} 0 good1 g1.0.pc) a2 (λ z. omega arith) (exec_load_slot good1 1 (v + 40) (omega arith))) (λ d2 g2.
    and_then (moves_frame (suc k1) (Immediate Addi 2 2 n) _ top 0 g2.0.good g2.0.pc a3
    (exec_add b d2 2 2 n (b.stack_base + q) (omega arith) (omega arith) g2.0.good.sp (omega (arith, good1.top, len1)) ∙ ap (λ z. put 2 z d2) (omega arith))
    (omega (arith, ap length g2.2, len1)) (omega arith)) (λ d3 g3.
    let one' : nth 0 d3.regs 1 ≡ ra = g3.2 1 (λ z. omega arith) ∙ ap (λ l. nth 0 l 1) g2.1 ∙ nth_set_same 0 d1.regs 1 _ (omega (arith, registers_32 d1 good1.fine)) ∙ saved in
    and_so (returns (suc (suc k1)) [] ra g3.0 g3.1 a4 one' ra4) (λ d4 g4.
    (record {
      good = g4.0;
      pc = g4.1;
      results = registers_kept d1.regs d4.regs 8 us (λ y p. g4.2 y (omega arith) ∙ g3.2 y (λ z. omega arith) ∙ ap (λ l. nth 0 l y) g2.1 ∙ nth_set_other 0 d1.regs 1 y _ (λ z. omega arith)) g1.1;
      memory = g4.3 ∙ g3.3 ∙ g2.0.memory ∙ g1.0.memory ∙ h.state.memory;
      acts = g4.4 ∙ g3.4 ∙ g2.0.acts ∙ g1.0.acts ∙ h.acts;
      stack = same_then st01 (subst (λ l. Same 0 top st0 l) (sym (g4.5 ∙ g3.5 ∙ g2.2)) (same_wide (omega arith) (omega arith) whole_st));
    })))))

-- a function, from its first word to where it was called from
pub run_function : (E : Env) (need : ℕ → ℕ) (n : ℕ) → CommandsRun E need n → (i : ℕ) (f : Function) (top q ra k : ℕ) (s : State) (vs : List ℕ) → CheckedF E.limits E.prog i f → length vs ≡ f.arguments → q + frame_bytes f ≡ top → need i ≤ q → ra % 4 ≡ 0 →
    At E.board.code k (code_f E.begin f) →
    (p : Plan) × ((c : Cpu) → Entry E.board top ra k s vs c → FollowsRun p (runs_in E n f.body (entered f vs s)) n E.board c (λ t. Exit E.board top ra c.stack (taken t.vars f.results) t))
unfolding code_f
run_function E need n ih i f top q ra k s vs ch lv room nd ra4 at =
    let b : Board = E.board in
    let v : ℕ = f.variables in
    let B : List Instruction = code_cs E.begin v f.body in
    let k1 : ℕ = k + length (prologue f) in
    let a1 : At b.code k (prologue f) × At b.code k1 (B ++ epilogue f) = at_split b.code k (prologue f) (B ++ epilogue f) at in
    let a2 : At b.code k1 B × At b.code (k1 + length B) (epilogue f) = at_split b.code k1 B (epilogue f) a1.1 in
    let p1 = enters {b = b} f top q ra k s vs ch.few_vars ch.args_in lv room a1.0 in
    let p2 = ih i q v f.body (entered f vs s) k1 ch.commands a2.0 nd in (
      _,
      λ c h.
          let Fin : State → Cpu → Type 0 = λ t. Exit b top ra c.stack (taken t.vars f.results) t in
          reach_then n Fin _ (p1.1 c h) (λ c1 g1.
          run_then_reach b c1 n (Matches b q v g1.0 (k1 + length B)) Fin (runs_in E n f.body (entered f vs s)) (p2.holds g1.0 c1 g1.1)
          (λ t d x. leaves f top q ra (k1 + length B) x room ch.few_vars g1.2 ra4 g1.3 (omega (arith, h.good.room)) ch.few_results ch.results_in a2.1)),
    )
