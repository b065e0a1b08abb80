-- The code of each command but a call does what the command does: a variable set, a store, if, while, doors.
use Rattle.std.proofs.Common.{◌≡◌, ℕ, suc, ◌+◌, ◌-◌, ◌*◌, ◌%◌, ◌<◌, ◌≤◌, true, false, eqb, leb, ◌≢◌, ◌⊎◌, List, [], ◌∷◌, ◌++◌, length, sym, refl, ap, ◌∙◌, subst, inl, inr, arith, length-append, eq-eqb, eqb-true, leb-true}
use borrow.Author.Tests.{eqb-false}
use Rattle.std.proofs.lemmas.Bool.{and_parts, and_from, cases_Bool}
use Rattle.model.specs.Words.{pick, whole, plus, signed, nth, bytes_put, Act, came_in, went_out}
use Rattle.model.specs.Source.{Expr, set, store, if_then, while, from_door, to_door, Cmds, more, World, State, Out, stuck, run, then, value, inside, with_var, with_memory, with_act, came}
use Rattle.model.specs.Machine.{Board, Cpu, reg, put, loads, stores, at_pc, doors, at_door, with_act as with_act_m, came as came_m}
use Rattle.model.specs.Promise.{good_size}
use Rattle.riscv.specs.declared.instruction.Instruction.{Instruction}
use Rattle.riscv.specs.declared.instruction.Instruction.TheVariants.{Lui, Jal, Load, Store}
use Rattle.riscv.specs.declared.instruction.LoadOp.TheVariants.{Lw}
use Rattle.riscv.specs.declared.instruction.StoreOp.TheVariants.{Sw}
use Rattle.riscv.specs.Execution.{exec, load_size, store_size, extended}
use Rattle.codegen.specs.Frame.{load_slot, store_slot, back}
use Rattle.codegen.specs.Expressions.{skip_unless_zero, jump_on, code_e}
use Rattle.codegen.specs.Commands.{store_of, doors_upper, code_c, code_cs}
use Rattle.model.proofs.Picks.{pick_true, pick_false, pick_case}
use Rattle.model.proofs.Memory.{nth_set_same, nth_set_other, length_put}
use Rattle.model.proofs.Machine.{registers_32, register_word}
use Rattle.model.proofs.Outcomes.{one_case}
use Rattle.model.proofs.Accepted.{CheckedE, CheckedCs, checked_set, checked_store, checked_if, checked_while, checked_in, checked_out}
use Rattle.correctness.proofs.Plans.{silent, quiet, Reach, stay, and_so, and_then}
use Rattle.correctness.proofs.CodeInPlace.{At, at_within, at_tail, at_split}
use Rattle.correctness.proofs.StackBytes.{slot, same_slot, in_range, above, with_memory_m, stores_memory}
use Rattle.correctness.proofs.Frames.{HasFrame, Advanced, advanced, advanced_then, reg_is, immediate_is, puts_register, exec_load_slot, stores_slot}
use Rattle.correctness.proofs.Jumps.{jumps_on, jumps_back, skips, falls}
use Rattle.correctness.proofs.Expressions.{by_size, exec_lui, run_expression}
use Rattle.correctness.proofs.Simulation.{reach_then, move_then, then_plan, run_then}
use Rattle.correctness.proofs.Matching.{Matches, matches_advanced, matches_at, matches_set, matches_step, matches_expression, Env, runs_in, FromTo, from_to_stuck, CommandsRun, CommandRuns}

pub run_set : (E : Env) (need : ℕ → ℕ) (n : ℕ) (x : ℕ) (e : Expr) → CommandRuns E need n (set x e)
unfolding run code_c
run_set E need n x e rest i q vars s k ch at room final go again =
    let b : Board = E.board in
    let h0 : (x < vars) × CheckedE vars 32 e = checked_set ch in
    let C : List Instruction = code_e vars e in
    let S : List Instruction = store_slot 5 x ∷ [] in
    let a : At b.code k C × At b.code (k + length C) S = at_split b.code k C S at in
    one_case (FromTo E (suc n) q vars k s final) (value E.world s e) s _ (from_to_stuck E (suc n) q vars k s final) (λ v vs hv.
    let p1 = matches_expression b E.world q vars k s e v vs E.base_is hv h0.1 a.0 in
    record {
      plan = _;
      holds = λ st0 c h. move_then n _ _
          (and_then (p1.1 st0 c h) (λ d g.
          and_then (matches_set [] 5 x v g.0 a.1 h0.0 (omega arith) g.1) (λ f m.
          stay (matches_at {j = k + length (C ++ S)} (omega (arith, length-append C S)) m.0))))
          (λ z. omega (arith, z.pc, h.pc, length-append C S))
          ((go (with_var x v s)).holds st0);
    })

pub run_if : (E : Env) (need : ℕ → ℕ) (n : ℕ) → CommandsRun E need n → (e : Expr) (ds es : Cmds) → CommandRuns E need n (if_then e ds es)
unfolding run code_c
run_if E need n ih e ds es rest i q vars s k ch at room final go again =
    let b : Board = E.board in
    let h0 : CheckedE vars 32 e × CheckedCs E.limits E.prog i vars ds × CheckedCs E.limits E.prog i vars es = checked_if ch in
    let F : List Instruction = code_e vars e in
    let D : List Instruction = code_cs E.begin vars ds in
    let G : List Instruction = code_cs E.begin vars es in
    let jump2 : List Instruction = jump_on (1 + length G) ∷ G in
    let jump1 : List Instruction = jump_on (2 + length D) ∷ (D ++ jump2) in
    let k1 : ℕ = k + length F in
    let k2 : ℕ = suc (suc k1) + length D in
    let k3 : ℕ = k + length (F ++ (skip_unless_zero ∷ jump1)) in
    let a1 : At b.code k F × At b.code k1 (skip_unless_zero ∷ jump1) = at_split b.code k F (skip_unless_zero ∷ jump1) at in
    let a2 : At b.code (suc k1) jump1 = at_tail _ _ _ _ a1.1 in
    let a3 : At b.code (suc (suc k1)) D × At b.code k2 jump2 = at_split b.code (suc (suc k1)) D jump2 (at_tail _ _ _ _ a2) in
    let a4 : At b.code (suc k2) G = at_tail _ _ _ _ a3.1 in
    let last : suc k2 + length G ≤ length b.code = at_within b.code (suc k2) G a4 in
    let all : suc k2 + length G ≡ k3 = omega (arith, length-append F (skip_unless_zero ∷ jump1), length-append D jump2) in
    let Fin : List ℕ → State → Cpu → Type 0 = λ st0. Matches b q vars st0 final in
    one_case (FromTo E (suc n) q vars k s final) (value E.world s e) s _ (from_to_stuck E (suc n) q vars k s final) (λ v vs hv.
    let p1 = matches_expression b E.world q vars k s e v vs E.base_is hv h0.0 a1.0 in
    let O : Cmds → Out = λ cs. then (runs_in E n cs s) (λ t. runs_in E n rest t) in
    let taken' : v ≢ 0 → FromTo E (suc n) q vars k s final (O ds) = λ p.
    let p2 = ih i q vars ds s (suc (suc k1)) h0.1 a3.0 room in
    record {
      plan = (p1.0 ++ quiet) ++ then_plan p2.plan (runs_in E n ds s) (λ t. silent ∷ (go t).plan);
      holds = λ st0 c h. move_then n (Fin st0) (O ds)
          (and_then (p1.1 st0 c h) (λ d g.
          and_then (skips jump1 (advanced vars g.0.good g.0.pc) a1.1 (λ z. p (sym g.1 ∙ z)) (omega arith)) (λ f x. stay (matches_advanced g.0 x))))
          (λ z. omega (arith, z.pc, h.pc))
          (λ d g. run_then b d n (Matches b q vars st0 k2) (Fin st0) _ _ (p2.holds st0 d g) (λ t f x.
          reach_then n (Fin st0) _ (and_then (jumps_on G (1 + length G) (advanced vars x.good x.pc) a3.1 (omega arith)) (λ f2 y. stay (matches_at {j = k3} (omega arith) (matches_advanced x y.at)))) ((go t).holds st0)));
    } in
    let passed' : v ≡ 0 → FromTo E (suc n) q vars k s final (O es) = λ p.
    let p2 = subst (λ j. FromTo E n q vars (suc k2) s j (runs_in E n es s)) all (ih i q vars es s (suc k2) h0.2 a4 room) in
    record {
      plan = (p1.0 ++ (silent ∷ quiet)) ++ then_plan p2.plan (runs_in E n es s) (λ t. (go t).plan);
      holds = λ st0 c h. move_then n (Fin st0) (O es)
          (and_then (p1.1 st0 c h) (λ d g.
          and_then (falls jump1 (advanced vars g.0.good g.0.pc) a1.1 (g.1 ∙ p)) (λ f x.
          and_then (jumps_on (D ++ jump2) (2 + length D) x a2 (omega arith)) (λ f2 y. stay (matches_at {j = suc k2} (omega arith) (matches_advanced g.0 y.at))))))
          (λ z. omega (arith, z.pc, h.pc))
          (λ d g. run_then b d n (Matches b q vars st0 k3) (Fin st0) _ _ (p2.holds st0 d g) (λ t f x. (go t).holds st0 f x));
    } in
    let either' : (eqb v 0 ≡ true) ⊎ (eqb v 0 ≡ false) → FromTo E (suc n) q vars k s final (O (pick (eqb v 0) es ds)) = λ o.
    elim o [
      | inl z ↦ subst (λ x. FromTo E (suc n) q vars k s final (O x)) (sym (pick_true _ _ _ z)) (passed' (eqb-true v 0 z))
      | inr z ↦ subst (λ x. FromTo E (suc n) q vars k s final (O x)) (sym (pick_false _ _ _ z)) (taken' (eqb-false v 0 z))
    ] in
    either' (cases_Bool (eqb v 0)))

pub run_while : (E : Env) (need : ℕ → ℕ) (n : ℕ) → CommandsRun E need n → (e : Expr) (ds : Cmds) → CommandRuns E need n (while e ds)
unfolding run code_c
run_while E need n ih e ds rest i q vars s k ch at room final go again =
    let b : Board = E.board in
    let h0 : (E.limits.forms_can 1 ≡ true) × CheckedE vars 32 e × CheckedCs E.limits E.prog i vars ds = checked_while ch in
    let F : List Instruction = code_e vars e in
    let D : List Instruction = code_cs E.begin vars ds in
    let len : ℕ = length F + (2 + length D) in
    let jump2 : List Instruction = Jal 0 (back (4 * len)) ∷ [] in
    let jump1 : List Instruction = jump_on (2 + length D) ∷ (D ++ jump2) in
    let k1 : ℕ = k + length F in
    let k2 : ℕ = suc (suc k1) + length D in
    let k3 : ℕ = k + length (F ++ (skip_unless_zero ∷ jump1)) in
    let a1 : At b.code k F × At b.code k1 (skip_unless_zero ∷ jump1) = at_split b.code k F (skip_unless_zero ∷ jump1) at in
    let a2 : At b.code (suc k1) jump1 = at_tail _ _ _ _ a1.1 in
    let a3 : At b.code (suc (suc k1)) D × At b.code k2 jump2 = at_split b.code (suc (suc k1)) D jump2 (at_tail _ _ _ _ a2) in
    let last : k2 + 1 ≤ length b.code = at_within b.code k2 jump2 a3.1 in
    let all : suc k2 ≡ k3 = omega (arith, length-append F (skip_unless_zero ∷ jump1), length-append D jump2) in
    let Fin : List ℕ → State → Cpu → Type 0 = λ st0. Matches b q vars st0 final in
    one_case (FromTo E (suc n) q vars k s final) (value E.world s e) s _ (from_to_stuck E (suc n) q vars k s final) (λ v vs hv.
    let p1 = matches_expression b E.world q vars k s e v vs E.base_is hv h0.1 a1.0 in
    let O1 : Out = runs_in E n rest s in
    let O2 : Out = then (runs_in E n ds s) (λ t. runs_in E n (more (while e ds) rest) t) in
    let again' : v ≢ 0 → FromTo E (suc n) q vars k s final O2 = λ p.
    let p2 = ih i q vars ds s (suc (suc k1)) h0.2 a3.0 room in
    record {
      plan = _;
      holds = λ st0 c h. move_then n (Fin st0) O2
          (and_then (p1.1 st0 c h) (λ d g.
          and_then (skips jump1 (advanced vars g.0.good g.0.pc) a1.1 (λ z. p (sym g.1 ∙ z)) (omega arith)) (λ f x. stay (matches_advanced g.0 x))))
          (λ z. omega (arith, z.pc, h.pc))
          (λ d g. run_then b d n (Matches b q vars st0 k2) (Fin st0) _ _ (p2.holds st0 d g) (λ t f x.
          reach_then n (Fin st0) _ (and_then (jumps_back [] len k (advanced vars x.good x.pc) a3.1 (omega arith) (omega arith) (omega arith)) (λ f2 y. stay (matches_advanced x y.at))) ((again t).holds st0)));
    } in
    let done' : v ≡ 0 → FromTo E (suc n) q vars k s final O1 = λ p.
    record {
      plan = _;
      holds = λ st0 c h. move_then n (Fin st0) O1
          (and_then (p1.1 st0 c h) (λ d g.
          and_then (falls jump1 (advanced vars g.0.good g.0.pc) a1.1 (g.1 ∙ p)) (λ f x.
          and_then (jumps_on (D ++ jump2) (2 + length D) x a2 (omega arith)) (λ f2 y. stay (matches_at {j = k3} (omega arith) (matches_advanced g.0 y.at))))))
          (λ z. omega (arith, z.pc, h.pc))
          ((go s).holds st0);
    } in
    let either' : (eqb v 0 ≡ true) ⊎ (eqb v 0 ≡ false) → FromTo E (suc n) q vars k s final (pick (eqb v 0) O1 O2) = λ o.
    elim o [
      | inl z ↦ subst (FromTo E (suc n) q vars k s final) (sym (pick_true _ _ _ z)) (done' (eqb-true v 0 z))
      | inr z ↦ subst (FromTo E (suc n) q vars k s final) (sym (pick_false _ _ _ z)) (again' (eqb-false v 0 z))
    ] in
    either' (cases_Bool (eqb v 0)))

-- a store to memory
store_size_is : (n : ℕ) → good_size n ≡ true → store_size (store_of n) ≡ n
unfolding store_of store_size pick
store_size_is n h = by_size (λ m. store_size (store_of m) ≡ m) refl refl refl n h

exec_store : {b : Board} {q slots : ℕ} {c : Cpu} → HasFrame b q slots c → (n a v : ℕ) → good_size n ≡ true → nth 0 c.regs 6 ≡ a → nth 0 c.regs 5 ≡ v → b.base ≤ a → a + n ≤ b.base + length c.memory →
    exec b c (Store (store_of n) 5 6 0) ≡ with_memory_m (bytes_put c.memory (a - b.base) n v) c
unfolding exec
exec_store {b} {q} {slots} {c} g n a v h x y l u =
    (λ i. stores b c (there i) (store_size_is n h i) ((reg_is c 5 (omega arith) ∙ y) i)) ∙ stores_memory b c (a - b.base) n v (omega arith)
  where
    there : plus (reg c 6) (signed 12 0) ≡ b.base + (a - b.base)
    there = (λ i. plus ((reg_is c 6 (omega arith) ∙ x) i) (immediate_is 0 (omega arith) i)) ∙ small a (subst (λ z. z < whole) x (register_word c 6 g.fine)) l
      where
        small : (z : ℕ) → z < whole → b.base ≤ z → plus z 0 ≡ b.base + (z - b.base)
        small z p r = omega arith

pub run_store : (E : Env) (need : ℕ → ℕ) (n : ℕ) (m : ℕ) (d e : Expr) → CommandRuns E need n (store m d e)
unfolding run code_c
run_store E need n m d e rest i q vars s k ch at room final go again =
    let b : Board = E.board in
    let w : World = E.world in
    let h0 : (good_size m ≡ true) × CheckedE vars 32 d × CheckedE vars 32 e = checked_store ch in
    let D : List Instruction = code_e vars d in
    let F : List Instruction = code_e (suc vars) e in
    let T : List Instruction = load_slot 6 vars ∷ (Store (store_of m) 5 6 0 ∷ []) in
    let S : List Instruction = store_slot 5 vars ∷ (F ++ T) in
    let k1 : ℕ = k + length D in
    let k2 : ℕ = suc k1 + length F in
    let a1 : At b.code k D × At b.code k1 S = at_split b.code k D S at in
    let a2 : At b.code (suc k1) F × At b.code k2 T = at_split b.code (suc k1) F T (at_tail _ _ _ _ a1.1) in
    let all : suc (suc k2) ≡ k + length (D ++ S) = omega (arith, length-append D S, length-append F T) in
    let P : Out → Type 0 = FromTo E (suc n) q vars k s final in
    let none' : P (stuck s) = from_to_stuck E (suc n) q vars k s final in
    one_case P (value w s d) s _ none' (λ a xs ha.
    one_case P (value w s e) s _ none' (λ v ys hv.
    pick_case P (inside w s.memory a m) _ _ none' (λ ins.
    let ip : (leb w.base a ≡ true) × (leb (a + m) (w.base + length s.memory) ≡ true) = and_parts _ _ ins in
    let t : State = with_memory (bytes_put s.memory (a - w.base) m v) s in
    let p1 = matches_expression b w q vars k s d a xs E.base_is ha h0.1 a1.0 in
    let p2 = run_expression b w s q (vars + 40) vars E.base_is e v ys (suc vars) 32 (suc k1) hv (record { checked = h0.2; over = omega arith; room = omega arith }) a2.0 in
    record {
      plan = _;
      holds = λ st0 c h. move_then n _ _
          (and_then (p1.1 st0 c h) (λ c1 g.
          and_then (stores_slot (F ++ T) 5 vars (advanced vars g.0.good g.0.pc) a1.1 (omega arith) (omega arith) (omega arith)) (λ c2 g2.
          let o2 : Matches b q vars st0 (suc k1) s c2 = matches_advanced g.0 g2.at in
          and_then (p2.1 c2 o2.good o2.pc o2.state) (λ c3 g3.
          let n3 : Advanced b q (vars + 40) vars c2 k2 c3 = advanced_then (omega arith) (advanced vars o2.good o2.pc) g3.at in
          let kept : slot c3.stack q vars ≡ a = same_slot q vars (inl (omega arith)) g3.at.stack ∙ g2.holds ∙ g.1 in
          and_then (puts_register (load_slot 6 vars) _ 6 (slot c3.stack q vars) n3 a2.1 (λ z. omega arith) (exec_load_slot n3.good 6 vars (omega arith))) (λ c4 g4.
          let o4 : Matches b q vars st0 (suc k2) s c4 = matches_advanced o2 g4.0 in
          let six : nth 0 c4.regs 6 ≡ a = ap (λ l. nth 0 l 6) g4.1 ∙ nth_set_same 0 c3.regs 6 _ (omega (arith, registers_32 c3 n3.good.fine)) ∙ kept in
          let five : nth 0 c4.regs 5 ≡ v = ap (λ l. nth 0 l 5) g4.1 ∙ nth_set_other 0 c3.regs 6 5 _ (λ z. omega arith) ∙ g3.x5 in
          let me : c4.memory ≡ s.memory = o4.state.memory in
          and_then (matches_step (Store (store_of m) 5 6 0) [] [] (with_memory_m (bytes_put c4.memory (a - b.base) m v) c4) t o4 (at_tail _ _ _ _ a2.1)
          (exec_store o4.good m a v h0.0 six five (omega (arith, E.base_is, leb-true _ _ ip.0)) (omega (arith, E.base_is, leb-true _ _ ip.1, ap length me)))
          refl (record { broken = refl; sp = refl; pc = refl; memory = λ j. bytes_put (me j) (a - sym E.base_is j) m v; length_is = length_put c4.memory (a - b.base) m v; stack = refl; acts = o4.acts; vars = refl })) (λ c5 f.
          stay (matches_at {j = k + length (D ++ S)} all f.0)))))))
          (λ z. omega (arith, z.pc, h.pc, all))
          ((go t).holds st0);
    })))

-- doors
came_same : (xs : List Act) → came_m xs ≡ came xs
unfolding came_m came
came_same [] = refl
came_same (came_in d v ∷ xs) = ap suc (came_same xs)
came_same (went_out d v ∷ xs) = came_same xs

abbrev door_in : Board → Cpu → ℕ → ℕ
door_in b c d = b.input (came_m c.acts) d % whole

door_address : (x d : ℕ) → x ≡ 1073741824 → d < 256 → plus x (signed 12 (4 * d)) ≡ doors + 4 * d
door_address x d e h = ap (plus x) (immediate_is (4 * d) (omega arith)) ∙ omega arith

is_door : (d : ℕ) → d < 256 → at_door (doors + 4 * d) 4 ≡ true
is_door d h = and_from _ _ (eq-eqb ((doors + 4 * d) % 4) 0 (omega arith)) (in_range doors 1024 (doors + 4 * d) 4 (omega arith) (omega arith))

exec_in : {b : Board} {q slots : ℕ} {c : Cpu} → HasFrame b q slots c → (d : ℕ) → d < 256 → nth 0 c.regs 6 ≡ 1073741824 → exec b c (Load Lw 5 6 (4 * d)) ≡ put 5 (door_in b c d) (with_act_m (came_in d (door_in b c d)) c)
unfolding exec load_size extended
exec_in {b} {q} {slots} {c} g d h e =
    ap (λ a. loads b c 5 a 4 (λ v. v)) (ap (λ x. plus x (signed 12 (4 * d))) (reg_is c 6 (omega arith)) ∙ door_address (nth 0 c.regs 6) d e h)
    ∙ pick_false _ _ _ (above b.base (length c.memory) (doors + 4 * d) 4 (omega (arith, g.apart, g.top)))
    ∙ pick_false _ _ _ (above b.stack_base (length c.stack) (doors + 4 * d) 4 (omega (arith, g.top)))
    ∙ pick_true _ _ _ (is_door d h)
    ∙ ap (λ x. put 5 (door_in b c x) (with_act_m (came_in x (door_in b c x)) c)) (omega arith)

exec_out : {b : Board} {q slots : ℕ} {c : Cpu} → HasFrame b q slots c → (d v : ℕ) → d < 256 → nth 0 c.regs 6 ≡ 1073741824 → nth 0 c.regs 5 ≡ v → exec b c (Store Sw 5 6 (4 * d)) ≡ at_pc (plus c.pc 4) (with_act_m (went_out d v) c)
unfolding exec store_size
exec_out {b} {q} {slots} {c} g d v h e f =
    (λ i. stores b c (there i) 4 ((reg_is c 5 (omega arith) ∙ f) i))
    ∙ pick_false _ _ _ (above b.base (length c.memory) (doors + 4 * d) 4 (omega (arith, g.apart, g.top)))
    ∙ pick_false _ _ _ (above b.stack_base (length c.stack) (doors + 4 * d) 4 (omega (arith, g.top)))
    ∙ pick_true _ _ _ (is_door d h)
    ∙ ap (λ x. at_pc (plus c.pc 4) (with_act_m (went_out x v) c)) (omega arith)
  where
    there : plus (reg c 6) (signed 12 (4 * d)) ≡ doors + 4 * d
    there = ap (λ x. plus x (signed 12 (4 * d))) (reg_is c 6 (omega arith)) ∙ door_address (nth 0 c.regs 6) d e h

-- where doors begin, to register 6
matches_doors : {b : Board} {q vars k : ℕ} {st0 : List ℕ} {s : State} {c : Cpu} (is : List Instruction) → Matches b q vars st0 k s c → At b.code k (Lui 6 doors_upper ∷ is) →
    Reach quiet b c (λ d. Matches b q vars st0 (suc k) s d × (nth 0 d.regs 6 ≡ 1073741824) × (nth 0 d.regs 5 ≡ nth 0 c.regs 5))
matches_doors {b} {c = c} is h at =
    and_so (puts_register (Lui 6 doors_upper) is 6 1073741824 (advanced _ h.good h.pc) at (λ z. omega arith) (exec_lui b c 6 doors_upper)) (λ d g.
    (matches_advanced h g.0, ap (λ l. nth 0 l 6) g.1 ∙ nth_set_same 0 c.regs 6 _ (omega (arith, registers_32 c h.good.fine)), ap (λ l. nth 0 l 5) g.1 ∙ nth_set_other 0 c.regs 6 5 _ (λ z. omega arith)))

pub run_out : (E : Env) (need : ℕ → ℕ) (n : ℕ) (d : ℕ) (e : Expr) → CommandRuns E need n (to_door d e)
unfolding run code_c
run_out E need n d e rest i q vars s k ch at room final go again =
    let b : Board = E.board in
    let h0 : (d < 256) × CheckedE vars 32 e = checked_out ch in
    let C : List Instruction = code_e vars e in
    let S : List Instruction = Lui 6 doors_upper ∷ (Store Sw 5 6 (4 * d) ∷ []) in
    let a : At b.code k C × At b.code (k + length C) S = at_split b.code k C S at in
    one_case (FromTo E (suc n) q vars k s final) (value E.world s e) s _ (from_to_stuck E (suc n) q vars k s final) (λ v vs hv.
    let p1 = matches_expression b E.world q vars k s e v vs E.base_is hv h0.1 a.0 in
    record {
      plan = _;
      holds = λ st0 c h. move_then n _ _
          (and_then (p1.1 st0 c h) (λ c1 g.
          and_then (matches_doors _ g.0 a.1) (λ c2 m.
          and_then (matches_step (Store Sw 5 6 (4 * d)) [] (went_out d v ∷ []) (at_pc (plus c2.pc 4) (with_act_m (went_out d v) c2)) (with_act (went_out d v) s) m.0 (at_tail _ _ _ _ a.1)
          (exec_out m.0.good d v h0.0 m.1 (m.2 ∙ g.1)) refl
          (record { broken = refl; sp = refl; pc = refl; memory = m.0.state.memory; length_is = refl; stack = refl; acts = ap (λ l. went_out d v ∷ l) m.0.acts; vars = refl })) (λ c3 f.
          stay (matches_at {j = k + length (C ++ S)} (omega (arith, length-append C S)) f.0)))))
          (λ z. omega (arith, z.pc, h.pc, length-append C S))
          ((go (with_act (went_out d v) s)).holds st0);
    })

pub run_in : (E : Env) (need : ℕ → ℕ) (n : ℕ) (x d : ℕ) → CommandRuns E need n (from_door x d)
unfolding run code_c
run_in E need n x d rest i q vars s k ch at room final go again =
    let b : Board = E.board in
    let h0 : (x < vars) × (d < 256) = checked_in ch in
    let v : ℕ = E.world.input (came s.acts) d % whole in
    let S : List Instruction = store_slot 5 x ∷ [] in
    let a1 : At b.code (suc k) (Load Lw 5 6 (4 * d) ∷ S) = at_tail _ _ _ _ at in
    record {
      plan = _;
      holds = λ st0 c h. move_then n _ _
          (and_then (matches_doors _ h at) (λ c1 g.
          let same_v : door_in b c1 d ≡ v = (λ i. sym E.input_is i (came_same c1.acts i) d % whole) ∙ ap (λ l. E.world.input (came l) d % whole) g.0.acts in
          let y : Cpu = put 5 (door_in b c1 d) (with_act_m (came_in d (door_in b c1 d)) c1) in
          and_then (matches_step (Load Lw 5 6 (4 * d)) S (came_in d v ∷ []) y (with_act (came_in d v) s) g.0 a1 (exec_in g.0.good d h0.1 g.1)
          (λ i. came_in d (same_v i) ∷ c1.acts)
          (record { broken = refl; sp = nth_set_other 0 c1.regs 5 2 _ (λ z. omega arith); pc = refl; memory = g.0.state.memory; length_is = refl; stack = refl; acts = λ i. came_in d (same_v i) ∷ g.0.acts i; vars = refl })) (λ c2 m.
          and_then (matches_set [] 5 x v m.0 (at_tail _ _ _ _ a1) h0.0 (omega arith)
          (ap (λ l. nth 0 l 5) m.1 ∙ nth_set_same 0 c1.regs 5 _ (omega (arith, registers_32 c1 g.0.good.fine)) ∙ same_v)) (λ c3 f.
          stay (matches_at {j = k + 3} (omega arith) f.0)))))
          (λ z. omega (arith, z.pc, h.pc))
          ((go (with_var x v (with_act (came_in d v) s))).holds st0);
    }
