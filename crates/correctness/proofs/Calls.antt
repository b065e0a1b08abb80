-- A call: arguments to temporaries and registers, the function's code, results to variables.
use Rattle.std.proofs.Common.{◌≡◌, ℕ, suc, ◌+◌, ◌-◌, ◌*◌, ◌%◌, ◌<◌, ◌≤◌, true, ◌&&◌, eqb, ◌≢◌, List, [], ◌∷◌, ◌++◌, length, sym, refl, ap, ◌∙◌, subst, inl, inr, arith, length-append, eq-eqb, eqb-true}
use Rattle.std.proofs.lemmas.Bool.{and_parts}
use Rattle.model.specs.Words.{whole, plus, signed, nth}
use Rattle.model.specs.Source.{Expr, call, Function, World, State, Out, stuck, run, then, function_at, value, values, prepend, entered, returned, taken}
use Rattle.model.specs.Machine.{Board, Cpu, reg, put, link, at_pc}
use Rattle.model.specs.Promise.{fits}
use Rattle.riscv.specs.declared.instruction.Instruction.{Instruction}
use Rattle.riscv.specs.declared.instruction.Instruction.TheVariants.{Lui, Jalr}
use Rattle.riscv.specs.Execution.{exec}
use Rattle.codegen.specs.Frame.{frame_bytes, store_slot, upper, lower}
use Rattle.codegen.specs.Expressions.{code_e, code_es}
use Rattle.codegen.specs.Commands.{slots_from, load_registers, store_registers, code_c}
use Rattle.codegen.specs.Functions.{code_f}
use Rattle.model.proofs.Picks.{pick_true}
use Rattle.model.proofs.Memory.{nth_set_same, nth_set_other}
use Rattle.model.proofs.Machine.{registers_32}
use Rattle.model.proofs.Outcomes.{all_case, function_case}
use Rattle.model.proofs.Accepted.{CheckedE, CheckedEs, checked_argument, checked_call, CheckedF}
use Rattle.correctness.proofs.Plans.{Plan, quiet, Reach, stay, and_so, and_then}
use Rattle.correctness.proofs.CodeInPlace.{At, at_within, at_tail, at_split}
use Rattle.correctness.proofs.StackBytes.{Same, same_then, same_wide, same_slot}
use Rattle.correctness.proofs.Frames.{HasFrame, frame_at, frame_kept, frame_less, Advanced, advanced, advanced_then, advanced_at, Represents, represents_then, one_quiet, reg_is, puts_register, stores_slot}
use Rattle.correctness.proofs.Expressions.{word_in_two, exec_lui, run_expression}
use Rattle.correctness.proofs.Simulation.{reach_then, move_then, run_then}
use Rattle.correctness.proofs.Matching.{Matches, matches_advanced, matches_at, Env, runs_in, FromTo, from_to_stuck, CommandsRun, CommandRuns}
use Rattle.correctness.proofs.Functions.{RegistersHold, registers_kept, SlotsHold, length_load_registers, length_store_registers, length_slots, loads_registers, stores_registers, Exit, run_function}

prepend_inv : (xs : List ℕ) (r : List (List ℕ)) (vs : List ℕ) (rest : List (List ℕ)) → prepend xs r ≡ vs ∷ rest →
    (x : ℕ) × (us : List ℕ) × (ys : List ℕ) × (zs : List (List ℕ)) × (xs ≡ x ∷ us) × (r ≡ ys ∷ zs) × (x ∷ ys ≡ vs)
unfolding prepend
prepend_inv [] r vs rest e = absurd (let z : ◌≡◌ {A = ℕ} 0 1 = cc in omega arith)
prepend_inv (x ∷ us) [] vs rest e = absurd (let z : ◌≡◌ {A = ℕ} 0 1 = cc in omega arith)
prepend_inv (x ∷ us) (ys ∷ zs) vs rest e = (x, us, ys, zs, refl, refl, cc)

values_length : (w : World) (s : State) (es : List Expr) (vs : List ℕ) (rest : List (List ℕ)) → values w s es ≡ vs ∷ rest → length vs ≡ length es
unfolding values
values_length w s [] vs rest h = let e : [] ≡ vs = cc in sym (ap length e)
values_length w s (e ∷ es) vs rest h =
    let p = prepend_inv (value w s e) (values w s es) vs rest h in
    sym (ap length p.6) ∙ ap suc (values_length w s es p.2 p.3 p.5)

-- each argument to a temporary
run_arguments : (b : Board) (w : World) (s : State) (q slots vars : ℕ) → w.base ≡ b.base → (es : List Expr) (vs : List ℕ) (rest : List (List ℕ)) (t k : ℕ) → values w s es ≡ vs ∷ rest → CheckedEs vars es → vars ≤ t → t + (length es + 32) ≤ slots →
    At b.code k (code_es t es) → (p : Plan) × ((c : Cpu) → HasFrame b q slots c → c.pc ≡ 4 * k → Represents q vars s c → Reach p b c (λ d. Advanced b q slots t c (k + length (code_es t es)) d × SlotsHold d.stack q slots (slots_from t (length es)) vs))
unfolding values code_es slots_from SlotsHold
run_arguments b w s q slots vars wb [] [] rest t k hv ch vt room at = ([], λ c g pc sh. stay (advanced_at (omega arith) (advanced t g pc), tt))
run_arguments b w s q slots vars wb [] (v ∷ vs) rest t k hv ch vt room at = absurd (let z : ◌≡◌ {A = ℕ} 0 1 = cc in omega arith)
run_arguments b w s q slots vars wb (e ∷ es) [] rest t k hv ch vt room at =
    let p = prepend_inv _ _ _ _ hv in
    let pe = p.6 in
    absurd (let z : ◌≡◌ {A = ℕ} 0 1 = cc in omega arith)
run_arguments b w s q slots vars wb (e ∷ es) (v ∷ vs) rest t k hv ch vt room at =
    let p = prepend_inv (value w s e) (values w s es) (v ∷ vs) rest hv in
    let pe : p.0 ∷ p.2 ≡ v ∷ vs = p.6 in
    let x_is : p.0 ≡ v = cc in
    let ys_is : p.2 ≡ vs = cc in
    let h0 : CheckedE vars 32 e × CheckedEs vars es = checked_argument ch in
    let C : List Instruction = code_e t e in
    let R : List Instruction = code_es (suc t) es in
    let a : At b.code k C × At b.code (k + length C) (store_slot 5 t ∷ R) = at_split b.code k C (store_slot 5 t ∷ R) at in
    let p1 = run_expression b w s q slots vars wb e p.0 p.1 t 32 k p.4 (record { checked = h0.0; over = vt; room = omega arith }) a.0 in
    let p2 = run_arguments b w s q slots vars wb es vs p.3 (suc t) (suc (k + length C)) (p.5 ∙ ap (λ y. y ∷ p.3) ys_is) h0.1 (omega arith) (omega arith) (at_tail _ _ _ _ a.1) in (
      _,
      λ c g pc sh.
          and_then (p1.1 c g pc sh) (λ c1 g1.
          and_then (stores_slot R 5 t g1.at a.1 (omega arith) (omega arith) (omega arith)) (λ c2 g2.
          and_so (p2.1 c2 g2.at.good g2.at.pc (represents_then vt sh g2.at)) (λ c3 g3. (
            advanced_at (omega (arith, length-append C (store_slot 5 t ∷ R))) (advanced_then (omega arith) g2.at g3.0),
            (same_slot q t (inl (omega arith)) g3.0.stack ∙ g2.holds ∙ g1.x5 ∙ x_is, omega arith, g3.1),
          )))),
    )

-- to the word a, with the return address in register 1
jumps_and_links : {b : Board} {c : Cpu} {q slots : ℕ} (k : ℕ) (is : List Instruction) (a : ℕ) → HasFrame b q slots c → c.pc ≡ 4 * k → At b.code k (Jalr 1 6 (lower (4 * a)) ∷ is) → nth 0 c.regs 6 ≡ 4096 * upper (4 * a) → 4 * a < whole →
    Reach quiet b c (λ d. HasFrame b q slots d × (d.pc ≡ 4 * a) × (nth 0 d.regs 1 ≡ 4 * suc k) × ((y : ℕ) → y ≢ 1 → nth 0 d.regs y ≡ nth 0 c.regs y) × (d.memory ≡ c.memory) × (d.acts ≡ c.acts) × (d.stack ≡ c.stack))
unfolding At exec
jumps_and_links {b} {c} {q} {slots} k is a g pc at e u =
    one_quiet q slots k (Jalr 1 6 (lower (4 * a))) is (at_pc (4 * a) (put 1 (plus c.pc 4) c)) g pc at there refl
    (λ h. (
      frame_kept g refl h (nth_set_other 0 c.regs 1 2 _ (λ w. omega arith)) refl refl,
      refl,
      nth_set_same 0 c.regs 1 _ (omega (arith, registers_32 c g.fine)) ∙ omega (arith, pc, at.1, g.code_small),
      (λ y z. nth_set_other 0 c.regs 1 y _ (λ w. z (sym w))),
      refl,
      refl,
      refl,
    ))
  where
    to : plus (reg c 6) (signed 12 (lower (4 * a))) ≡ 4 * a
    to = ap (λ x. plus x (signed 12 (lower (4 * a)))) (reg_is c 6 (omega arith) ∙ e) ∙ word_in_two (4 * a) u

    there : exec b c (Jalr 1 6 (lower (4 * a))) ≡ at_pc (4 * a) (put 1 (plus c.pc 4) c)
    there = ap (λ x. link c 1 (x - x % 2)) to ∙ ap (link c 1) (omega arith) ∙ pick_true _ _ _ (eq-eqb (4 * a % 4) 0 (omega arith))

length_taken : (l xs : List ℕ) → length (taken l xs) ≡ length xs
unfolding taken
length_taken l [] = refl
length_taken l (x ∷ xs) = ap suc (length_taken l xs)

-- every function stands where it should, and there is stack for it
pub record Linked (E : Env) (need : ℕ → ℕ) : Type 0 where
  pub code : (g : ℕ) (f : Function) (fs : List Function) → function_at E.prog g ≡ f ∷ fs → At E.board.code (E.begin g) (code_f E.begin f)
  pub checked : (g : ℕ) (f : Function) (fs : List Function) → function_at E.prog g ≡ f ∷ fs → CheckedF E.limits E.prog g f
  pub stack : (i g : ℕ) (f : Function) (fs : List Function) → function_at E.prog g ≡ f ∷ fs → i < g → frame_bytes f + need g ≤ need i

pub run_call : (E : Env) (need : ℕ → ℕ) (n : ℕ) → Linked E need → CommandsRun E need n → (g : ℕ) (es : List Expr) (xs : List ℕ) → CommandRuns E need n (call g es xs)
unfolding run code_c fits
run_call E need n L ih g es xs rest i q vars s k ch at rm final go again =
    let b : Board = E.board in
    let w : World = E.world in
    let h0 = checked_call ch in
    let A : List Instruction = code_es vars es in
    let F : List Instruction = load_registers (slots_from vars (length es)) 8 in
    let a : ℕ = E.begin g in
    let J : List Instruction = Lui 6 (upper (4 * a)) ∷ (Jalr 1 6 (lower (4 * a)) ∷ store_registers xs 8) in
    let k1 : ℕ = k + length A in
    let k2 : ℕ = k1 + length (slots_from vars (length es)) in
    let a1 : At b.code k A × At b.code k1 (F ++ J) = at_split b.code k A (F ++ J) at in
    let a2 : At b.code k1 F × At b.code (k1 + length F) J = at_split b.code k1 F J a1.1 in
    let lf : length F ≡ length (slots_from vars (length es)) = length_load_registers (slots_from vars (length es)) 8 in
    let a3 : At b.code k2 J = subst (λ x. At b.code (k1 + x) J) lf a2.1 in
    let a4 : At b.code (suc k2) (Jalr 1 6 (lower (4 * a)) ∷ store_registers xs 8) = at_tail _ _ _ _ a3 in
    let a5 : At b.code (suc (suc k2)) (store_registers xs 8) = at_tail _ _ _ _ a4 in
    let end_is : suc (suc k2) + length xs ≡ k + length (A ++ (F ++ J)) = omega (arith, length-append A (F ++ J), length-append F J, lf, length_store_registers xs 8) in
    let P : Out → Type 0 = FromTo E (suc n) q vars k s final in
    let none' : P (stuck s) = from_to_stuck E (suc n) q vars k s final in
    all_case P (values w s es) s _ none' (λ vs vss hv.
    function_case P (function_at E.prog g) s _ none' (λ f fs hf.
    let fit : (eqb (length es) f.arguments && eqb (length xs) (length f.results)) ≡ true = subst (λ y. fits y (length es) (length xs) ≡ true) hf h0.4 in
    let fp : (eqb (length es) f.arguments ≡ true) × (eqb (length xs) (length f.results) ≡ true) = and_parts _ _ fit in
    let es_len : length es ≡ f.arguments = eqb-true _ _ fp.0 in
    let xs_len : length xs ≡ length f.results = eqb-true _ _ fp.1 in
    let cf : CheckedF E.limits E.prog g f = L.checked g f fs hf in
    let code : At b.code a (code_f E.begin f) = L.code g f fs hf in
    let enough : frame_bytes f + need g ≤ need i = L.stack i g f fs hf h0.2 in
    let lv : length (slots_from vars (length es)) ≡ length es = length_slots vars (length es) in
    let vs_len : length vs ≡ f.arguments = values_length w s es vs vss hv ∙ es_len in
    let q' : ℕ = q - frame_bytes f in
    let O : Out = then (runs_in E n f.body (entered f vs s)) (λ t. runs_in E n rest (returned f xs s t)) in
    let p1 = run_arguments b w s q (vars + 40) vars E.base_is es vs vss vars k hv h0.0 (omega arith) (omega (arith, es_len, cf.few_args)) a1.0 in
    let p2 = run_function E need n ih g f q q' (4 * suc (suc k2)) a s vs cf vs_len (omega arith) (omega arith) (omega arith) code in
    record {
      plan = _;
      holds = λ st0 c h.
          let Fin : State → Cpu → Type 0 = Matches b q vars st0 final in
          let a_small : 4 * a < whole = omega (arith, at_within b.code a _ code, h.good.code_small) in
          move_then n Fin O
          (and_then (p1.1 c h.good h.pc h.state) (λ c1 g1.
          and_then (loads_registers (slots_from vars (length es)) vs 8 k1 c1 (omega arith) (omega (arith, lv, es_len, cf.few_args)) g1.0 a2.0 g1.1) (λ c2 g2.
          and_then (puts_register (Lui 6 (upper (4 * a))) _ 6 (4096 * upper (4 * a)) g2.0 a3 (λ z. omega arith) (exec_lui b c2 6 (upper (4 * a)))) (λ c3 g3.
          stay {P = λ d. Matches b q vars st0 (suc k2) s d × RegistersHold d.regs 8 vs × (nth 0 d.regs 6 ≡ 4096 * upper (4 * a))} (
            matches_advanced h g3.0,
            registers_kept c2.regs c3.regs 8 vs (λ y p. ap (λ l. nth 0 l y) g3.1 ∙ nth_set_other 0 c2.regs 6 y _ (λ z. omega arith)) g2.1,
            ap (λ l. nth 0 l 6) g3.1 ∙ nth_set_same 0 c2.regs 6 _ (omega (arith, registers_32 c2 g2.0.good.fine)),
          )))))
          (λ z. omega (arith, z.0.pc, h.pc))
          (λ c3 g3.
          reach_then n Fin O (jumps_and_links (suc k2) (store_registers xs 8) a g3.0.good g3.0.pc a4 g3.2 a_small) (λ c4 g4.
          run_then b c4 n (λ t. Exit b q (4 * suc (suc k2)) c4.stack (taken t.vars f.results) t) Fin _ _
          (p2.1 c4 (record {
            good = frame_less (omega arith) g4.0;
            pc = g4.1;
            return = g4.2;
            args = registers_kept c3.regs c4.regs 8 vs (λ y p. g4.3 y (λ z. omega arith)) g3.1;
            memory = g4.4 ∙ g3.0.state.memory;
            acts = g4.5 ∙ g3.0.acts;
          }))
          (λ t d x.
          let s1 : State = record { vars = s.vars; memory = t.memory; acts = t.acts } in
          let sm : Same 0 q c3.stack d.stack = subst (λ l. Same 0 q l d.stack) g4.6 x.stack in
          let here : Matches b q vars st0 (suc (suc k2)) s1 d = record {
            good = frame_at q (vars + 40) x.good refl x.good.fine x.good.sp refl refl (omega (arith, sm.len, g3.0.good.room)) g3.0.good.few;
            pc = x.pc;
            state = record { memory = x.memory; slots = λ y y<. same_slot q y (inr (omega arith)) sm ∙ g3.0.state.slots y y< };
            acts = x.acts;
            many = g3.0.many;
            stack = same_then g3.0.stack (same_wide (omega arith) (omega arith) sm);
          } in
          reach_then n Fin _ (stores_registers xs (taken t.vars f.results) 8 (suc (suc k2)) s1 d (omega arith) (xs_len ∙ sym (length_taken t.vars f.results)) h0.1 here a5 x.results) (λ d2 y.
          (go (returned f xs s t)).holds st0 d2 (matches_at end_is y)))));
    }))
