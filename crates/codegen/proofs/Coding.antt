-- Instructions that come to lent code, one after the other.
use Rattle.std.proofs.Common.{◌≡◌, ℕ, ◌+◌, ◌-◌, ◌*◌, ◌<◌, ◌≤◌, min, List, [], ◌∷◌, ◌++◌, length, set, get_or, drop, sym, subst, arith}
use Rattle.riscv.specs.declared.instruction.Instruction.{Instruction}
use Rattle.riscv.specs.Encoding.{encode}
use Rattle.codegen.specs.declared.code.Code.{Code}
use Rattle.codegen.specs.declared.code.OpenJump.{OpenJump}
use Rattle.codegen.specs.Expressions.{jump_on, either}
use Rattle.codegen.specs.Commands.{looped}
use Rattle.codegen.specs.Frame.{back}
use Rattle.std.proofs.lemmas.List.{drop_more, drop_all}
use Rattle.codegen.specs.Emission.{limit, Emitted, Patched}
use Rattle.codegen.specs.Coding.{AllFit, Came, Opens, Tests, Lands, JumpsBack}
use Rattle.codegen.proofs.Emitted.{nothing, and_then, one_emitted, one_counted as counted, either_emitted, looped_emitted}

pub one_came : (a b : Code) (w : ℕ) (i : Instruction) → a.len < length a.words.now → w ≡ encode i → b.len ≡ a.len + 1 → b.words.now ≡ set a.words.now a.len w → Came (i ∷ []) a b
one_came a b w i h e n q = record {
  emitted = subst (λ (m : ℕ). Emitted a.len m (i ∷ []) a.words.now b.words.now) (sym n)
      (subst (λ (l : List ℕ). Emitted a.len (a.len + 1) (i ∷ []) a.words.now l) (sym q) (one_emitted a.words.now a.len w i h e));
}

pub one_counted : (a b : Code) (i : Instruction) → length a.words.now ≤ a.len → b.len ≡ min (a.len + 1) 18446744073709551615 → b.words.now ≡ a.words.now → Came (i ∷ []) a b
one_counted a b i h n q = record {
  emitted = subst (λ (l : List ℕ). Emitted a.len b.len (i ∷ []) a.words.now l) (sym q) (counted a.words.now a.len b.len i h (λ s. omega arith));
}

-- a part, and then another
pub came_and : (is js : List Instruction) (a b c : Code) → Came is a b → Came js b c → Came (is ++ js) a c
came_and is js a b c p q = record { emitted = and_then a.len b.len c.len is js a.words.now b.words.now c.words.now p.emitted q.emitted }

pub came_cons : (i : Instruction) (is : List Instruction) (a b c : Code) → Came (i ∷ []) a b → Came is b c → Came (i ∷ is) a c
came_cons i is a b c p q = came_and (i ∷ []) is a b c p q

-- where the value is not 0 the first part, else the second
pub came_either : (is js : List Instruction) (i j : OpenJump) (a b c d e f g : Code) →
    Tests i a b → Came is b c → Opens j c d → Lands i d e → Came js e f → Lands j f g → Came (either is js) a g
came_either is js i j a b c d e f g test p jump land1 q land2 =
    let z1 : Patched test.over.len d.len d.words.now e.words.now = subst (λ (n : ℕ). Patched n d.len d.words.now e.words.now) test.opens.1 land1.0 in
    let z2 : Patched c.len f.len f.words.now g.words.now = subst (λ (n : ℕ). Patched n f.len f.words.now g.words.now) jump.1 land2.0 in
    let q' : Emitted d.len f.len js e.words.now f.words.now = subst (λ (n : ℕ). Emitted n f.len js e.words.now f.words.now) land1.1 q.emitted in
    let all : Emitted a.len f.len (either is js) a.words.now g.words.now =
    either_emitted a.len test.over.len b.len c.len d.len f.len (jump_on 0) (jump_on 0) is js a.words.now test.over.words.now b.words.now c.words.now d.words.now e.words.now f.words.now g.words.now
    test.skips.emitted test.opens.0.emitted p.emitted jump.0.emitted z1 q' z2 in
    record { emitted = subst (λ (n : ℕ). Emitted a.len n (either is js) a.words.now g.words.now) (sym land2.1) all }

pub came_none : (a : Code) → Came [] a a
came_none a = record { emitted = nothing a.len a.words.now }

-- as long as the value of the first part is not 0, the second
pub came_looped : (is js : List Instruction) (j : OpenJump) (start : ℕ) (a b c d e f : Code) → start ≡ a.len →
    Came is a b → Tests j b c → Came js c d → JumpsBack start d e → Lands j e f → Came (looped is js) a f
came_looped is js j start a b c d e f here p test q again land =
    let far : a.len < d.len → d.len - a.len ≤ limit → again.field ≡ back (4 * (d.len - a.len)) =
    subst (λ (n : ℕ). n < d.len → d.len - n ≤ limit → again.field ≡ back (4 * (d.len - n))) here again.reaches in
    let z : Patched test.over.len e.len e.words.now f.words.now = subst (λ (n : ℕ). Patched n e.len e.words.now f.words.now) test.opens.1 land.0 in
    let all : Emitted a.len e.len (looped is js) a.words.now f.words.now =
    looped_emitted a.len b.len test.over.len c.len d.len e.len again.field (jump_on 0) is js a.words.now b.words.now test.over.words.now c.words.now d.words.now e.words.now f.words.now
    p.emitted test.skips.emitted test.opens.0.emitted q.emitted again.came.emitted far z in
    record { emitted = subst (λ (n : ℕ). Emitted a.len n (looped is js) a.words.now f.words.now) (sym land.1) all }

-- what comes after some has come is what was to come
pub one_of_all : (is : List Instruction) (n : ℕ) (x : Instruction) (a b c : Code) → n < length is → Came (get_or is n x ∷ []) b c → AllFit (drop n is) →
    ((d : Code) → Came (drop n is) b d → Came is a d) → AllFit (drop (n + 1) is) × ((d : Code) → Came (drop (n + 1) is) c d → Came is a d)
one_of_all is n x a b c h p f q =
    let e : drop n is ≡ get_or is n x ∷ drop (n + 1) is = drop_more is n x h in
    let g : AllFit (get_or is n x ∷ drop (n + 1) is) = subst AllFit e f in
    (g.1, λ d r. q d (subst (λ (l : List Instruction). Came l b d) (sym e) (came_cons (get_or is n x) (drop (n + 1) is) b c d p r)))

pub all_came : (is : List Instruction) (n : ℕ) (a b : Code) → length is ≤ n → ((d : Code) → Came (drop n is) b d → Came is a d) → Came is a b
all_came is n a b h q = q b (subst (λ (l : List Instruction). Came l b b) (sym (drop_all n is h)) (came_none b))
