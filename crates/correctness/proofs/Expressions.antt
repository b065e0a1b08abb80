-- The code of an expression leaves its value in register 5.
use Rattle.std.proofs.Common.{◌≡◌, ℕ, suc, ◌+◌, ◌-◌, ◌*◌, ◌/◌, ◌%◌, ◌<◌, ◌≤◌, true, false, ◌||◌, eqb, ltb, leb, ◌≢◌, ◌⊎◌, List, [], ◌∷◌, ◌++◌, length, sym, refl, ap, ◌∙◌, subst, inl, inr, arith, length-append, ltb-false, ltb-true, le-ltb, lt-ltb, eqb-true, leb-true}
use borrow.Author.Tests.{eqb-false}
use Rattle.std.proofs.lemmas.Bool.{and_parts, or_cases, cases_Bool, cases_lt}
use Rattle.model.specs.Words.{pick, whole, plus, minus, yes_no, signed, two_to, nth, bytes_at}
use Rattle.model.specs.Source.{Op, add, sub, mul, mul_high, div, rem, and, or, xor, shift_right, shift_left, shift_signed, less_s, less, equal, apply, Expr, word, var, load, op, if_not_zero, World, State, value, of_two, loaded, chosen, inside}
use Rattle.model.specs.Machine.{Board, Cpu, put, loads}
use Rattle.model.specs.Promise.{good_size, range_e, vars_e}
use Rattle.riscv.specs.declared.instruction.Instruction.{Instruction}
use Rattle.riscv.specs.declared.instruction.Instruction.TheVariants.{Lui, Load, Immediate, Register}
use Rattle.riscv.specs.declared.instruction.ImmediateOp.TheVariants.{Addi, Sltiu}
use Rattle.riscv.specs.declared.instruction.RegisterOp.{RegisterOp}
use Rattle.riscv.specs.declared.instruction.RegisterOp.TheVariants.{Add, Sub, Sll, Slt, Sltu, Xor, Srl, Sra, Or, And, Mul, Mulhu, Divu, Remu}
use Rattle.riscv.specs.Execution.{exec, load_size, extended, with_immediate, with_register}
use Rattle.codegen.specs.Frame.{load_slot, store_slot, upper, lower}
use Rattle.codegen.specs.Expressions.{load_of, code_op, skip_unless_zero, jump_on, code_e}
use Rattle.model.proofs.Picks.{pick_true, pick_false}
use Rattle.model.proofs.Memory.{nth_set_same, nth_set_other}
use Rattle.model.proofs.Machine.{registers_32, register_word}
use Rattle.model.proofs.Accepted.{CheckedE, checked_load, checked_op, checked_choice}
use Rattle.correctness.proofs.Plans.{Plan, quiet, quiets, Reach, stay, and_then}
use Rattle.correctness.proofs.CodeInPlace.{At, at_within, at_tail, at_split}
use Rattle.correctness.proofs.StackBytes.{slot, same_slot, loads_memory}
use Rattle.correctness.proofs.Frames.{HasFrame, Advanced, advanced, advanced_then, advanced_at, Represents, represents_then, HasValue, puts_register, puts_value, exec_load_slot, stores_slot}
use Rattle.correctness.proofs.Jumps.{jumps_on, skips, falls}

-- a constant
low : (n : ℕ) → n < whole → lower n < 2048 → plus (4096 * upper n) (lower n) ≡ n
low n h l = let e : (n + 2048) / 4096 ≡ n / 4096 = omega arith in omega arith

high_in : (a r : ℕ) → a < 1048576 → r < 4096 → (4096 * ((a + 1) % 1048576) + (r + 4294963200)) % whole ≡ 4096 * a + r
high_in a r h l = on (cases_lt (a + 1) 1048576)
  where
    on : (a + 1 < 1048576) ⊎ (1048576 ≤ a + 1) → (4096 * ((a + 1) % 1048576) + (r + 4294963200)) % whole ≡ 4096 * a + r
    on (inl p) = let e : (a + 1) % 1048576 ≡ a + 1 = omega arith in omega arith
    on (inr p) = let e : (a + 1) % 1048576 ≡ 0 = omega arith in omega arith

high : (n : ℕ) → n < whole → 2048 ≤ n % 4096 → plus (4096 * upper n) ((n % 4096 + 4294963200) % whole) ≡ n
high n h l =
    let e : (n + 2048) / 4096 ≡ n / 4096 + 1 = omega arith in
    let f : (n % 4096 + 4294963200) % whole ≡ n % 4096 + 4294963200 = omega arith in
    (λ i. plus (4096 * (e i % 1048576)) (f i)) ∙ high_in (n / 4096) (lower n) (omega arith) (omega arith) ∙ omega arith

pub word_in_two : (n : ℕ) → n < whole → plus (4096 * upper n) (signed 12 (lower n)) ≡ n
unfolding two_to
word_in_two n h = on (cases_Bool (ltb (lower n) 2048))
  where
    on : (ltb (lower n) 2048 ≡ true) ⊎ (ltb (lower n) 2048 ≡ false) → plus (4096 * upper n) (signed 12 (lower n)) ≡ n
    on (inl e) = ap (plus (4096 * upper n)) (pick_true _ _ _ e) ∙ low n h (ltb-true (lower n) 2048 e)
    on (inr e) = ap (plus (4096 * upper n)) (pick_false _ _ _ e) ∙ high n h (ltb-false (lower n) 2048 e)

-- what an operator needs
two_inv : (o : Op) (xs ys : List ℕ) (v : ℕ) (vs : List ℕ) → of_two o xs ys ≡ v ∷ vs →
    (x : ℕ) × (us : List ℕ) × (y : ℕ) × (ws : List ℕ) × (xs ≡ x ∷ us) × (ys ≡ y ∷ ws) × (apply o x y ≡ v)
unfolding of_two
two_inv o [] ys v vs e = absurd (let z : ◌≡◌ {A = ℕ} 0 1 = cc in omega arith)
two_inv o (x ∷ us) [] v vs e = absurd (let z : ◌≡◌ {A = ℕ} 0 1 = cc in omega arith)
two_inv o (x ∷ us) (y ∷ ws) v vs e = (x, us, y, ws, refl, refl, cc)

-- an operator on registers 6 and 5
op_one : {b : Board} {c d : Cpu} {q slots lo k : ℕ} (a : RegisterOp) (is : List Instruction) (x y v j : ℕ) → with_register a x y ≡ v → suc k ≡ j → Advanced b q slots lo c k d → At b.code k (Register a 5 6 5 ∷ is) → nth 0 d.regs 6 ≡ x → nth 0 d.regs 5 ≡ y →
    Reach quiet b d (HasValue b q slots lo c j v)
unfolding exec pick
op_one {d = d} a is x y v j e p n at h6 h5 = puts_value (Register a 5 6 5) is v j p n at (ap (λ u. put 5 u d) ((λ i. with_register a (h6 i) (h5 i)) ∙ e))

equal_is : (x y : ℕ) → x < whole → y < whole → yes_no (ltb (minus x y) 1) ≡ yes_no (eqb x y)
equal_is x y hx hy = on (cases_Bool (eqb x y))
  where
    on : (eqb x y ≡ true) ⊎ (eqb x y ≡ false) → yes_no (ltb (minus x y) 1) ≡ yes_no (eqb x y)
    on (inl e) = ap yes_no (lt-ltb (minus x y) 1 (omega (arith, eqb-true x y e)) ∙ sym e)
    on (inr e) = let p : x ≢ y = eqb-false x y e in ap yes_no (le-ltb (minus x y) 1 (omega arith) ∙ sym e)

exec_is_zero : (b : Board) (d : Cpu) (x y : ℕ) → x < whole → y < whole → nth 0 d.regs 5 ≡ minus x y → exec b d (Immediate Sltiu 5 5 1) ≡ put 5 (yes_no (eqb x y)) d
unfolding exec pick two_to with_immediate
exec_is_zero b d x y hx hy h = ap (λ u. put 5 (yes_no (ltb u 1)) d) h ∙ ap (λ u. put 5 u d) (equal_is x y hx hy)

run_operator : {b : Board} {c d : Cpu} {q slots lo k : ℕ} (o : Op) (x y : ℕ) → Advanced b q slots lo c k d → At b.code k (code_op o) → nth 0 d.regs 6 ≡ x → nth 0 d.regs 5 ≡ y →
    Reach (quiets (code_op o)) b d (HasValue b q slots lo c (k + length (code_op o)) (apply o x y))
unfolding quiets code_op apply with_register
run_operator add x y n at h6 h5 = op_one Add [] x y _ _ refl (omega arith) n at h6 h5
run_operator sub x y n at h6 h5 = op_one Sub [] x y _ _ refl (omega arith) n at h6 h5
run_operator mul x y n at h6 h5 = op_one Mul [] x y _ _ refl (omega arith) n at h6 h5
run_operator mul_high x y n at h6 h5 = op_one Mulhu [] x y _ _ refl (omega arith) n at h6 h5
run_operator div x y n at h6 h5 = op_one Divu [] x y _ _ refl (omega arith) n at h6 h5
run_operator rem x y n at h6 h5 = op_one Remu [] x y _ _ refl (omega arith) n at h6 h5
run_operator and x y n at h6 h5 = op_one And [] x y _ _ refl (omega arith) n at h6 h5
run_operator or x y n at h6 h5 = op_one Or [] x y _ _ refl (omega arith) n at h6 h5
run_operator xor x y n at h6 h5 = op_one Xor [] x y _ _ refl (omega arith) n at h6 h5
run_operator shift_right x y n at h6 h5 = op_one Srl [] x y _ _ refl (omega arith) n at h6 h5
run_operator shift_left x y n at h6 h5 = op_one Sll [] x y _ _ refl (omega arith) n at h6 h5
run_operator shift_signed x y n at h6 h5 = op_one Sra [] x y _ _ refl (omega arith) n at h6 h5
run_operator less_s x y n at h6 h5 = op_one Slt [] x y _ _ refl (omega arith) n at h6 h5
run_operator less x y n at h6 h5 = op_one Sltu [] x y _ _ refl (omega arith) n at h6 h5
run_operator {b} {d = d} {k = k} equal x y n at h6 h5 =
    and_then (op_one Sub (Immediate Sltiu 5 5 1 ∷ []) x y (minus x y) (suc k) refl refl n at h6 h5) (λ e h.
    puts_value (Immediate Sltiu 5 5 1) [] (yes_no (eqb x y)) (k + 2) (omega arith) h.at (at_tail _ _ _ _ at)
    (exec_is_zero b e x y (subst (λ u. u < whole) h6 (register_word d 6 n.good.fine)) (subst (λ u. u < whole) h5 (register_word d 5 n.good.fine)) h.x5))

-- what a choice and a reading need
chosen_inv : (xs ys zs : List ℕ) (v : ℕ) (vs : List ℕ) → chosen xs ys zs ≡ v ∷ vs → (x : ℕ) × (us : List ℕ) × (xs ≡ x ∷ us) × (((x ≢ 0) × (ys ≡ v ∷ vs)) ⊎ ((x ≡ 0) × (zs ≡ v ∷ vs)))
unfolding chosen
chosen_inv [] ys zs v vs e = absurd (let z : ◌≡◌ {A = ℕ} 0 1 = cc in omega arith)
chosen_inv (x ∷ us) ys zs v vs e = (x, us, refl, on (cases_Bool (eqb x 0)))
  where
    on : (eqb x 0 ≡ true) ⊎ (eqb x 0 ≡ false) → ((x ≢ 0) × (ys ≡ v ∷ vs)) ⊎ ((x ≡ 0) × (zs ≡ v ∷ vs))
    on (inl t) = inr (eqb-true x 0 t, sym (pick_true _ _ _ t) ∙ e)
    on (inr t) = inl (eqb-false x 0 t, sym (pick_false _ _ _ t) ∙ e)

load_inv : (w : World) (m : List ℕ) (n : ℕ) (xs : List ℕ) (v : ℕ) (vs : List ℕ) → loaded w m n xs ≡ v ∷ vs → (a : ℕ) × (us : List ℕ) × (xs ≡ a ∷ us) × (w.base ≤ a) × (a + n ≤ w.base + length m) × (bytes_at m (a - w.base) n ≡ v)
unfolding loaded
load_inv w m n [] v vs e = absurd (let z : ◌≡◌ {A = ℕ} 0 1 = cc in omega arith)
load_inv w m n (a ∷ us) v vs e = on (cases_Bool (inside w m a n))
  where
    on : (inside w m a n ≡ true) ⊎ (inside w m a n ≡ false) → (x : ℕ) × (us' : List ℕ) × (◌≡◌ {A = List ℕ} (a ∷ us) (x ∷ us')) × (w.base ≤ x) × (x + n ≤ w.base + length m) × (bytes_at m (x - w.base) n ≡ v)
    on (inl t) =
        let p : (leb w.base a ≡ true) × (leb (a + n) (w.base + length m) ≡ true) = and_parts _ _ t in
        let f : bytes_at m (a - w.base) n ∷ [] ≡ v ∷ vs = sym (pick_true _ _ _ t) ∙ e in
        (a, us, refl, leb-true _ _ p.0, leb-true _ _ p.1, cc)
    on (inr t) = let f : [] ≡ v ∷ vs = sym (pick_false _ _ _ t) ∙ e in absurd (let z : ◌≡◌ {A = ℕ} 0 1 = cc in omega arith)

-- what holds of the sizes 1, 2 and 4 holds of every good size
pub by_size : (P : ℕ → Type 0) → P 1 → P 2 → P 4 → (n : ℕ) → good_size n ≡ true → P n
by_size P p q r n h = on (or_cases (eqb n 1) (eqb n 2 || eqb n 4) h)
  where
    or2 : (eqb n 2 ≡ true) ⊎ (eqb n 4 ≡ true) → P n
    or2 (inl e) = subst P (sym (eqb-true n 2 e)) q
    or2 (inr e) = subst P (sym (eqb-true n 4 e)) r

    on : (eqb n 1 ≡ true) ⊎ ((eqb n 2 || eqb n 4) ≡ true) → P n
    on (inl e) = subst P (sym (eqb-true n 1 e)) p
    on (inr e) = or2 (or_cases (eqb n 2) (eqb n 4) e)

load_size_is : (n : ℕ) → good_size n ≡ true → load_size (load_of n) ≡ n
unfolding load_of load_size pick
load_size_is n h = by_size (λ m. load_size (load_of m) ≡ m) refl refl refl n h

-- what is loaded has no sign
load_plain : (n : ℕ) → good_size n ≡ true → (v : ℕ) → extended (load_of n) v ≡ v
unfolding load_of extended pick
load_plain n h = by_size (λ m. (v : ℕ) → extended (load_of m) v ≡ v) (λ v. refl) (λ v. refl) (λ v. refl) n h

exec_load : {b : Board} {q slots : ℕ} {c : Cpu} → HasFrame b q slots c → (n a : ℕ) → good_size n ≡ true → nth 0 c.regs 5 ≡ a → b.base ≤ a → a + n ≤ b.base + length c.memory →
    exec b c (Load (load_of n) 5 5 0) ≡ put 5 (bytes_at c.memory (a - b.base) n) c
unfolding exec pick two_to
exec_load {b} {q} {slots} {c} g n a h x l u =
    (λ i. loads b c 5 (there i) (load_size_is n h i) (λ v. load_plain n h v i)) ∙ loads_memory b c 5 (a - b.base) n (λ v. v) (omega arith)
  where
    there : plus (nth 0 c.regs 5) 0 ≡ b.base + (a - b.base)
    there = omega (arith, register_word c 5 g.fine)

exec_addi : (b : Board) (d : Cpu) (x n v : ℕ) → nth 0 d.regs 5 ≡ x → plus x (signed 12 n) ≡ v → exec b d (Immediate Addi 5 5 n) ≡ put 5 v d
unfolding exec pick with_immediate
exec_addi b d x n v h e = ap (λ y. put 5 (plus y (signed 12 n)) d) h ∙ ap (λ y. put 5 y d) e

pub exec_lui : (b : Board) (d : Cpu) (r n : ℕ) → exec b d (Lui r n) ≡ put r (4096 * n) d
unfolding exec
exec_lui b d r n = refl

-- an expression of depth n, with temporaries from slot t on, fits into the frame
pub record FitsFrame (vars slots t n : ℕ) (e : Expr) : Type 0 where
  pub checked : CheckedE vars n e
  pub over : vars ≤ t
  pub room : t + n ≤ slots

-- an expression, from where its code begins to where it ends
abbrev pub ExpressionRuns : Board → World → State → ℕ → ℕ → ℕ → Expr → Type 0
ExpressionRuns b w s q slots vars e =
    (v : ℕ) (vs : List ℕ) (t n k : ℕ) → value w s e ≡ v ∷ vs → FitsFrame vars slots t n e → At b.code k (code_e t e) →
    (p : Plan) × ((c : Cpu) → HasFrame b q slots c → c.pc ≡ 4 * k → Represents q vars s c → Reach p b c (HasValue b q slots t c (k + length (code_e t e)) v))

run_word : (b : Board) (w : World) (s : State) (q slots vars m : ℕ) → ExpressionRuns b w s q slots vars (word m)
unfolding value range_e code_e
run_word b w s q slots vars m v vs t n k hv fit at =
    let e : m ≡ v = cc in (
      _,
      λ c g pc sh.
          and_then (puts_value (Lui 5 (upper m)) _ (4096 * upper m) (suc k) refl (advanced t g pc) at (exec_lui b c 5 _)) (λ d h.
          puts_value (Immediate Addi 5 5 (lower m)) [] v (k + 2) (omega arith) h.at (at_tail _ _ _ _ at) (exec_addi b d _ (lower m) v h.x5 (word_in_two m (ltb-true m whole fit.checked.range) ∙ e))),
    )

run_var : (b : Board) (w : World) (s : State) (q slots vars x : ℕ) → ExpressionRuns b w s q slots vars (var x)
unfolding value vars_e code_e
run_var b w s q slots vars x v vs t n k hv fit at =
    let e : nth 0 s.vars x ≡ v = cc in
    let x< : x < vars = ltb-true x vars fit.checked.vars in
    (_, λ c g pc sh. puts_value (load_slot 5 x) [] v (k + 1) (omega arith) (advanced t g pc) at (exec_load_slot g 5 x (omega (arith, fit.over, fit.room)) ∙ ap (λ y. put 5 y c) (sh.slots x x< ∙ e)))

run_load : (b : Board) (w : World) (s : State) (q slots vars m : ℕ) (e : Expr) → w.base ≡ b.base → ExpressionRuns b w s q slots vars e → ExpressionRuns b w s q slots vars (load m e)
unfolding value code_e
run_load b w s q slots vars m e wb ih v vs t n k hv fit at =
    let r = load_inv w s.memory m (value w s e) v vs hv in
    let h0 : (good_size m ≡ true) × (0 < n) × CheckedE vars (n - 1) e = checked_load fit.checked in
    let T : List Instruction = Load (load_of m) 5 5 0 ∷ [] in
    let ats = at_split b.code k (code_e t e) T at in
    let p1 = ih r.0 r.1 t (n - 1) k r.2 (record { checked = h0.2; over = fit.over; room = omega (arith, fit.room) }) ats.0 in (
      _,
      λ c g pc sh.
          and_then (p1.1 c g pc sh) (λ d h.
          let me : d.memory ≡ s.memory = h.at.memory ∙ sh.memory in
          puts_value (Load (load_of m) 5 5 0) [] v (k + length (code_e t e ++ T)) (omega (arith, length-append (code_e t e) T)) h.at ats.1
          (exec_load h.at.good m r.0 h0.0 h.x5 (omega (arith, wb, r.3)) (omega (arith, wb, r.4, ap length me)) ∙ ap (λ x. put 5 x d) ((λ i. bytes_at (me i) (r.0 - sym wb i) m) ∙ r.5))),
    )

run_op : (b : Board) (w : World) (s : State) (q slots vars : ℕ) (o : Op) (d e : Expr) → ExpressionRuns b w s q slots vars d → ExpressionRuns b w s q slots vars e → ExpressionRuns b w s q slots vars (op o d e)
unfolding value code_e
run_op b w s q slots vars o d e ihd ihe v vs t n k hv fit at =
    let r = two_inv o (value w s d) (value w s e) v vs hv in
    let x : ℕ = r.0 in
    let y : ℕ = r.2 in
    let h0 : (0 < n) × CheckedE vars (n - 1) d × CheckedE vars (n - 1) e = checked_op fit.checked in
    let k1 : ℕ = k + length (code_e t d) in
    let k2 : ℕ = suc k1 + length (code_e (suc t) e) in
    let tail : List Instruction = load_slot 6 t ∷ code_op o in
    let rest : List Instruction = code_e (suc t) e ++ tail in
    let a1 : At b.code k (code_e t d) × At b.code k1 (store_slot 5 t ∷ rest) = at_split b.code k (code_e t d) (store_slot 5 t ∷ rest) at in
    let a2 : At b.code (suc k1) (code_e (suc t) e) × At b.code k2 tail = at_split b.code (suc k1) (code_e (suc t) e) tail (at_tail _ _ _ _ a1.1) in
    let p1 = ihd x r.1 t (n - 1) k r.4 (record { checked = h0.1; over = fit.over; room = omega (arith, fit.room) }) a1.0 in
    let p2 = ihe y r.3 (suc t) (n - 1) (suc k1) r.5 (record { checked = h0.2; over = omega (arith, fit.over); room = omega (arith, fit.room, h0.0) }) a2.0 in (
      _,
      λ c g pc sh.
          and_then (p1.1 c g pc sh) (λ c1 h1.
          and_then (stores_slot rest 5 t h1.at a1.1 (omega arith) (omega (arith, fit.room, h0.0)) (omega arith)) (λ c2 h2.
          and_then (p2.1 c2 h2.at.good h2.at.pc (represents_then fit.over sh h2.at)) (λ c3 h3.
          let kept : slot c3.stack q t ≡ x = same_slot q t (inl (omega arith)) h3.at.stack ∙ h2.holds ∙ h1.x5 in
          and_then (puts_register (load_slot 6 t) (code_op o) 6 (slot c3.stack q t) (advanced_then (omega arith) h2.at h3.at) a2.1 (λ z. omega arith) (exec_load_slot h3.at.good 6 t (omega (arith, fit.room, h0.0)))) (λ c4 h4.
          let six : nth 0 c4.regs 6 ≡ x = ap (λ l. nth 0 l 6) h4.1 ∙ nth_set_same 0 c3.regs 6 (slot c3.stack q t) (omega (arith, registers_32 c3 h3.at.good.fine)) ∙ kept in
          let five : nth 0 c4.regs 5 ≡ y = ap (λ l. nth 0 l 5) h4.1 ∙ nth_set_other 0 c3.regs 6 5 (slot c3.stack q t) (λ z. omega arith) ∙ h3.x5 in
          and_then (run_operator o x y h4.0 (at_tail _ _ _ _ a2.1) six five) (λ c5 h5.
          stay (record { at = advanced_at (omega (arith, length-append (code_e t d) (store_slot 5 t ∷ rest), length-append (code_e (suc t) e) tail)) h5.at; x5 = h5.x5 ∙ r.6 })))))),
    )

run_choice : (b : Board) (w : World) (s : State) (q slots vars : ℕ) (f d e : Expr) → ExpressionRuns b w s q slots vars f → ExpressionRuns b w s q slots vars d → ExpressionRuns b w s q slots vars e → ExpressionRuns b w s q slots vars (if_not_zero f d e)
unfolding value code_e
run_choice b w s q slots vars f d e ihf ihd ihe v vs t n k hv fit at =
    let r = chosen_inv (value w s f) (value w s d) (value w s e) v vs hv in
    let x : ℕ = r.0 in
    let h0 : (0 < n) × CheckedE vars (n - 1) f × CheckedE vars (n - 1) d × CheckedE vars (n - 1) e = checked_choice fit.checked in
    let below : (g : Expr) → CheckedE vars (n - 1) g → FitsFrame vars slots t (n - 1) g = λ g h. record { checked = h; over = fit.over; room = omega (arith, fit.room) } in
    let F : List Instruction = code_e t f in
    let D : List Instruction = code_e t d in
    let E : List Instruction = code_e t e in
    let jump2 : List Instruction = jump_on (1 + length E) ∷ E in
    let jump1 : List Instruction = jump_on (2 + length D) ∷ (D ++ jump2) in
    let k1 : ℕ = k + length F in
    let k2 : ℕ = suc (suc k1) + length D in
    let a1 : At b.code k F × At b.code k1 (skip_unless_zero ∷ jump1) = at_split b.code k F (skip_unless_zero ∷ jump1) at in
    let a2 : At b.code (suc k1) jump1 = at_tail _ _ _ _ a1.1 in
    let a3 : At b.code (suc (suc k1)) D × At b.code k2 jump2 = at_split b.code (suc (suc k1)) D jump2 (at_tail _ _ _ _ a2) in
    let a4 : At b.code (suc k2) E = at_tail _ _ _ _ a3.1 in
    let last : suc k2 + length E ≤ length b.code = at_within b.code (suc k2) E a4 in
    let all : k + length (F ++ (skip_unless_zero ∷ jump1)) ≡ suc k2 + length E = omega (arith, length-append F (skip_unless_zero ∷ jump1), length-append D jump2) in
    let Goal : Cpu → Cpu → Type 0 = λ c. HasValue b q slots t c (k + length (F ++ (skip_unless_zero ∷ jump1))) v in
    let p1 = ihf x r.1 t (n - 1) k r.2 (below f h0.1) a1.0 in
    let taken' : (x ≢ 0) × (value w s d ≡ v ∷ vs) → (p : Plan) × ((c : Cpu) → HasFrame b q slots c → c.pc ≡ 4 * k → Represents q vars s c → Reach p b c (Goal c)) = λ p.
    let p2 = ihd v vs t (n - 1) (suc (suc k1)) p.1 (below d h0.2) a3.0 in (
      _,
      λ c g pc sh.
          and_then (p1.1 c g pc sh) (λ c1 h1.
          and_then (skips jump1 h1.at a1.1 (λ z. p.0 (sym h1.x5 ∙ z)) (omega arith)) (λ c2 h2.
          and_then (p2.1 c2 h2.good h2.pc (represents_then fit.over sh h2)) (λ c3 h3.
          and_then (jumps_on E (1 + length E) (advanced_then (omega arith) h2 h3.at) a3.1 (omega arith)) (λ c4 h4.
          stay (record { at = advanced_at (omega arith) h4.at; x5 = h4.regs 5 (omega arith) ∙ h3.x5 }))))),
    ) in
    let passed' : (x ≡ 0) × (value w s e ≡ v ∷ vs) → (p : Plan) × ((c : Cpu) → HasFrame b q slots c → c.pc ≡ 4 * k → Represents q vars s c → Reach p b c (Goal c)) = λ p.
    let p2 = ihe v vs t (n - 1) (suc k2) p.1 (below e h0.3) a4 in (
      _,
      λ c g pc sh.
          and_then (p1.1 c g pc sh) (λ c1 h1.
          and_then (falls jump1 h1.at a1.1 (h1.x5 ∙ p.0)) (λ c2 h2.
          and_then (jumps_on (D ++ jump2) (2 + length D) h2 a2 (omega arith)) (λ c3 h3.
          let n3 : Advanced b q slots t c (suc k2) c3 = advanced_at (omega arith) h3.at in
          and_then (p2.1 c3 n3.good n3.pc (represents_then fit.over sh n3)) (λ c4 h4.
          stay (record { at = advanced_at (sym all) (advanced_then (omega arith) n3 h4.at); x5 = h4.x5 }))))),
    ) in
    elim r.3 [ inl p ↦ taken' p | inr p ↦ passed' p ]

pub run_expression : (b : Board) (w : World) (s : State) (q slots vars : ℕ) → w.base ≡ b.base → (e : Expr) → ExpressionRuns b w s q slots vars e
run_expression b w s q slots vars wb (word m) = run_word b w s q slots vars m
run_expression b w s q slots vars wb (var x) = run_var b w s q slots vars x
run_expression b w s q slots vars wb (load m e) = run_load b w s q slots vars m e wb (run_expression b w s q slots vars wb e)
run_expression b w s q slots vars wb (op o d e) = run_op b w s q slots vars o d e (run_expression b w s q slots vars wb d) (run_expression b w s q slots vars wb e)
run_expression b w s q slots vars wb (if_not_zero f d e) =
    run_choice b w s q slots vars f d e (run_expression b w s q slots vars wb f) (run_expression b w s q slots vars wb d) (run_expression b w s q slots vars wb e)
