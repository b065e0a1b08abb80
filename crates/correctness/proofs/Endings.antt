-- From a plan for every time to what is promised of a run: it ends as the program does, it does no more, and what the stack held is never seen.
use Rattle.std.proofs.Common.{◌≡◌, ℕ, ◌+◌, ◌-◌, ◌<◌, ◌≤◌, true, false, not, ◌⊎◌, List, [], ◌∷◌, length, sym, refl, ap, ◌∙◌, subst, inl, inr, arith, eq-eqb}
use Rattle.std.proofs.lemmas.Bool.{and_parts, and_from, cases_lt, true≢false}
use Rattle.model.specs.Words.{many, nth, Act}
use Rattle.model.specs.Source.{Function, Program, State, Out, goes, stuck, tired, run, state_of, function_at, entered, taken, padded}
use Rattle.model.specs.Machine.{Board, Cpu, steps, the_end, begins, at_the_end}
use Rattle.model.specs.Promise.{Limits, EndsSo, Since, is_stuck, is_tired, by_source, first_body, first_vars}
use Rattle.codegen.specs.Frame.{frame_bytes}
use Rattle.codegen.specs.Functions.{code_f}
use Rattle.model.proofs.Steps.{past_the_end, unbroken_before}
use Rattle.correctness.proofs.Plans.{Plan, Follows, and_so, follows_same, follows_since, follows_running}
use Rattle.correctness.proofs.CodeInPlace.{At}
use Rattle.correctness.proofs.Frames.{HasFrame}
use Rattle.correctness.proofs.Simulation.{SameActs, Arrives, Lasts, FollowsRun}
use Rattle.correctness.proofs.Matching.{Env}
use Rattle.correctness.proofs.Functions.{no_registers, zeros_padded, Exit, run_function}
use Rattle.correctness.proofs.Calls.{Linked}
use Rattle.correctness.proofs.Programs.{run_commands}

-- at the end, with the acts and the memory of t
pub record Ended (t : State) (d : Cpu) : Type 0 where
  pub pc : d.pc ≡ the_end
  pub unbroken : d.broken ≡ false
  pub acts : d.acts ≡ t.acts
  pub memory : d.memory ≡ t.memory

pub ends_so : (o : Out) (n : ℕ) (p : Plan) (b : Board) (m st : List ℕ) → FollowsRun p o n b (begins b m st) Ended → EndsSo o b m st
unfolding EndsSo Arrives
ends_so (goes t) n p b m st a =
    let e : Ended t (steps (length p) b (begins b m st)) = a.reach.holds in
    (length p, (and_from _ _ (eq-eqb (steps (length p) b (begins b m st)).pc the_end e.pc) (ap not e.unbroken), e.acts, e.memory))
ends_so (stuck t) n p b m st a =
    let h : SameActs t (steps (length p) b (begins b m st)) = a.reach.holds in
    (length p, ([], h.acts))
ends_so (tired t) n p b m st a =
    let h : SameActs t (steps (length p) b (begins b m st)) = a.reach.holds in
    (length p, ([], h.acts))

-- after n steps, if with time n the program isn't stuck
abbrev Lives : ℕ → Out → Board → Cpu → Type 0
Lives n o b c = ((steps n b c).broken ≡ false) × Since (steps n b c).acts (state_of o).acts

lives_in : (n : ℕ) (p : Plan) (b : Board) (c : Cpu) (l : List Act) → Follows p b c → n ≤ length p → (steps (length p) b c).broken ≡ false → (steps (length p) b c).acts ≡ l → ((steps n b c).broken ≡ false) × Since (steps n b c).acts l
lives_in n p b c l f h w a =
    (unbroken_before b c n (length p) h w, let r : Since (steps n b c).acts (steps (length p) b c).acts = follows_since p b c f n h in (r.0, sym a ∙ r.1))

pub lives : (o : Out) (n : ℕ) (p : Plan) (b : Board) (c : Cpu) → is_stuck o ≡ false → FollowsRun p o n b c Ended → Lives n o b c
unfolding is_stuck state_of Arrives Lasts
lives (goes t) n p b c s a = on (cases_lt n (length p))
  where
    e : Ended t (steps (length p) b c)
    e = a.reach.holds

    on : (n < length p) ⊎ (length p ≤ n) → Lives n (goes t) b c
    on (inl h) = lives_in n p b c t.acts a.reach.says (omega arith) e.unbroken e.acts
    on (inr h) = let r : steps n b c ≡ steps (length p) b c = past_the_end b c (length p) n h e.pc in (ap (λ d. d.broken) r ∙ e.unbroken, ([], sym (ap (λ d. d.acts) r ∙ e.acts)))
lives (stuck t) n p b c s a = absurd (true≢false s)
lives (tired t) n p b c s a =
    let h : SameActs t (steps (length p) b c) = a.reach.holds in
    lives_in n p b c t.acts a.reach.says a.lasts h.unbroken h.acts

-- two machines by one plan
pub hidden : (o : Out) (n : ℕ) (p : Plan) (b : Board) (c d : Cpu) → is_stuck o ≡ false → c.acts ≡ d.acts → FollowsRun p o n b c Ended → FollowsRun p o n b d Ended → (steps n b c).acts ≡ (steps n b d).acts
unfolding is_stuck Arrives Lasts
hidden (goes t) n p b c d s e x y = on (cases_lt n (length p))
  where
    ex : Ended t (steps (length p) b c)
    ex = x.reach.holds

    ey : Ended t (steps (length p) b d)
    ey = y.reach.holds

    on : (n < length p) ⊎ (length p ≤ n) → (steps n b c).acts ≡ (steps n b d).acts
    on (inl h) = follows_same p b c d e x.reach.says y.reach.says n (omega arith)
    on (inr h) = ap (λ z. z.acts) (past_the_end b c (length p) n h ex.pc) ∙ ex.acts ∙ sym (ap (λ z. z.acts) (past_the_end b d (length p) n h ey.pc) ∙ ey.acts)
hidden (stuck t) n p b c d s e x y = absurd (true≢false s)
hidden (tired t) n p b c d s e x y = follows_same p b c d e x.reach.says y.reach.says n x.lasts

-- the machine is at its end only after the program has come to its own
pub ends_only : (o : Out) (n k : ℕ) (p : Plan) (b : Board) (c : Cpu) → is_stuck o ≡ false → FollowsRun p o n b c Ended → k < n → at_the_end (steps k b c) ≡ true → is_tired o ≡ false
unfolding is_stuck is_tired Arrives Lasts
ends_only (goes t) n k p b c s a h e = refl
ends_only (stuck t) n k p b c s a h e = absurd (true≢false s)
ends_only (tired t) n k p b c s a h e = absurd (true≢false (sym (and_parts _ _ e).0 ∙ follows_running p b c a.reach.says k (omega (arith, a.lasts))))

-- a program, its code in place, and stack enough
abbrev pub env : Limits → Program → Board → (ℕ → ℕ) → Env
env l p b begin = record { limits = l; prog = p; board = b; world = record { base = b.base; input = b.input }; begin = begin; base_is = refl; input_is = refl }

pub record Ready (l : Limits) (p : Program) (b : Board) (begin need : ℕ → ℕ) (top : ℕ) : Type 0 where
  pub linked_in : Linked (env l p b begin) need
  pub first : Function
  pub others : List Function
  pub is_first : p ≡ first ∷ others
  pub no_args : first.arguments ≡ 0
  pub at_zero : begin 0 ≡ 0
  pub room : frame_bytes first + need 0 ≤ top

first_is : (p : Program) (f : Function) (fs : List Function) → p ≡ f ∷ fs → function_at p 0 ≡ f ∷ []
unfolding function_at
first_is p f fs e = ap (λ q. function_at q 0) e

body_is : (p : Program) (f : Function) (fs : List Function) → p ≡ f ∷ fs → first_body p ≡ f.body
unfolding first_body
body_is p f fs e = ap first_body e

vars_is : (p : Program) (f : Function) (fs : List Function) → p ≡ f ∷ fs → first_vars p ≡ f.variables
unfolding first_vars
vars_is p f fs e = ap first_vars e

return_is : (b : Board) (m st : List ℕ) → nth 0 (begins b m st).regs 1 ≡ the_end
unfolding nth
return_is b m st = refl

ended : {pl : Plan} {c : Cpu} (n : ℕ) (b : Board) (top : ℕ) (rs : List ℕ) (o : Out) → FollowsRun pl o n b c (λ t. Exit b top the_end c.stack (taken t.vars rs) t) → FollowsRun pl o n b c Ended
unfolding Arrives Lasts
ended n b top rs (goes t) a = record { reach = and_so a.reach (λ d e. record { pc = e.pc; unbroken = e.good.unbroken; acts = e.acts; memory = e.memory }); lasts = tt }
ended n b top rs (stuck t) a = record { reach = a.reach; lasts = tt }
ended n b top rs (tired t) a = record { reach = a.reach; lasts = a.lasts }

-- one plan, for every stack of that length
pub start : (l : Limits) (p : Program) (b : Board) (begin need : ℕ → ℕ) (top : ℕ) (m : List ℕ) → Ready l p b begin need top → (n : ℕ) →
    (pl : Plan) × ((st : List ℕ) → HasFrame b top 0 (begins b m st) → FollowsRun pl (by_source n p b m) n b (begins b m st) Ended)
start l p b begin need top m r n =
    let E : Env = env l p b begin in
    let f : Function = r.first in
    let s0 : State = record { vars = []; memory = m; acts = [] } in
    let hf : function_at p 0 ≡ f ∷ [] = first_is p f r.others r.is_first in
    let code : At b.code 0 (code_f begin f) = subst (λ k. At b.code k (code_f begin f)) r.at_zero (r.linked_in.code 0 f [] hf) in
    let q : ℕ = top - frame_bytes f in
    let x = run_function E need n (run_commands E need r.linked_in n) 0 f top q the_end 0 s0 [] (r.linked_in.checked 0 f [] hf) (sym r.no_args) (omega (arith, r.room)) (omega (arith, r.room)) (omega arith) code in
    let v_is : padded f.variables [] ≡ many (first_vars p) 0 = sym (zeros_padded f.variables) ∙ ap (λ k. many k 0) (sym (vars_is p f r.others r.is_first)) in
    let o_is : run n p E.world f.body (entered f [] s0) ≡ by_source n p b m = λ i. run n p E.world (sym (body_is p f r.others r.is_first) i) (record { vars = v_is i; memory = m; acts = [] }) in (
      x.0,
      λ st g. subst (λ o. FollowsRun x.0 o n b (begins b m st) Ended) o_is
          (ended n b top f.results _ (x.1 (begins b m st) (record { good = g; pc = refl; return = return_is b m st; args = no_registers _ 8; memory = refl; acts = refl }))),
    )
