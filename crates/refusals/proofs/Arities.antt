-- Arguments and results that fit: tables of functions, and calls held against them.
use Rattle.std.proofs.Common.{◌≡◌, ℕ, zero, suc, ◌+◌, ◌-◌, ◌<◌, ◌≤◌, Bool, true, false, cond, ◌&&◌, eqb, ltb, leb, ◌≢◌, List, [], ◌∷◌, ◌++◌, length, get_or, set as put_at, Some, None, Option, is_some, sym, refl, ap, ◌∙◌, inl, inr, arith, length-set}
use Rattle.std.proofs.lemmas.Bool.{both_ways, ltb-true, leb-true, lt-ltb, le-ltb, le-leb, lt-leb, cases_lt, cases_eq, cases_Bool, and_parts, and_from, and_right, cond-true, cond-false}
use Rattle.model.specs.Source.{Cmd, set, store, if_then, while, call, from_door, to_door, Cmds, none, more, Program, function_at}
use Rattle.model.specs.Promise.{program, after_c, after_cs, after_in, fits, fits_c, fits_cs, fits_in, first_fits}
use Rattle.format.specs.Format.{read, bytes_of}
use Rattle.format.specs.declared.token.Token.{Token}
use Rattle.format.specs.declared.token.Token.TheVariants.{End, Word, Var, Load, Choice, Operator as Binary, Set, Store, If, While, Call, From, To, Function as Header}
use Rattle.format.specs.Tokens.{cap, lex}
use Rattle.format.proofs.Sound.{one_way_to_write}
use Rattle.format.proofs.Heads.{HeadsP, head_p, not_p}
use Rattle.refusals.specs.declared.arity.Arity.{Arity}
use Rattle.refusals.specs.declared.event.Event.{Event}
use Rattle.refusals.specs.declared.event.Event.TheVariants.{Header as Headed, Call as Called}
use Rattle.refusals.specs.Events.{Evented, events_c, events_cs, events_p, later}
use Rattle.refusals.specs.Arity.{first_t, First, arity_of, small_v, small, every, noted, loaded, Loaded, has, in_table, Arities}
use Rattle.refusals.proofs.Capped.{cap_eqb, cap_leb, is_false, both}
use Rattle.refusals.proofs.Callees.{later_p, of_program_some, of_program_all}
use Rattle.refusals.specs.Tests.{told}
use Rattle.std.specs.Iterator.{Yields}
use Rattle.std.proofs.lemmas.Option.{slice_get_past}
use Rattle.std.proofs.lemmas.Bool.Decides.{nat_tests}
use Rattle.std.specs.List.{slice_get}

-- THE FIRST FUNCTION
first_by : (t : Token) (bs : List ℕ) (p : Program) → HeadsP t bs p [] → first_t t ≡ first_fits p
unfolding first_fits
first_by End bs p h = ap first_fits (sym h.0)
first_by (Word n) bs p h = absurd h
first_by (Var x) bs p h = absurd h
first_by (Load n) bs p h = absurd h
first_by Choice bs p h = absurd h
first_by (Binary o) bs p h = absurd h
first_by (Set x) bs p h = absurd h
first_by (Store n) bs p h = absurd h
first_by If bs p h = absurd h
first_by While bs p h = absurd h
first_by (Call g) bs p h = absurd h
first_by (From x d) bs p h = absurd h
first_by (To d) bs p h = absurd h
first_by (Header a v) bs p h = (λ i. eqb (h.3 i) 0) ∙ cap_eqb h.0.arguments 0 (omega arith) ∙ ap first_fits (sym h.2)

pub first_is : (text rest : List ℕ) (t : Token) (b : Bool) → ((j : ℕ) → get_or text j 0 < 256) → lex text ≡ Some (t, rest) → b ≡ first_t t → First text b
unfolding bytes_of
first_is text rest t b z e q p r = q ∙ first_by t rest p (head_p p [] rest t (ap lex (sym (one_way_to_write text p z r)) ∙ e))

pub no_first : (text : List ℕ) (b : Bool) → ((j : ℕ) → get_or text j 0 < 256) → lex text ≡ None → First text b
unfolding bytes_of
no_first text b z e p r = absurd (not_p text e p [] (one_way_to_write text p z r))

-- FUNCTIONS IN A TABLE
-- the functions among events
abbrev of : List Event → List Arity
of [] = []
of (Headed a r ∷ vs) = record { arguments = a; results = r } ∷ of vs
of (Called g a r ∷ vs) = of vs

get_set_other : (xs : List Arity) (i j : ℕ) (v : Arity) → j ≢ i → slice_get (put_at xs i v) j ≡ slice_get xs j
get_set_other [] i j v h = refl
get_set_other (x ∷ xs) zero zero v h = absurd (h refl)
get_set_other (x ∷ xs) zero (suc j) v h = refl
get_set_other (x ∷ xs) (suc i) zero v h = refl
get_set_other (x ∷ xs) (suc i) (suc j) v h = get_set_other xs i j v (λ e. h (ap suc e))

get_set_same : (xs : List Arity) (i : ℕ) (v : Arity) → i < length xs → slice_get (put_at xs i v) i ≡ Some v
get_set_same [] i v h = absurd (omega arith)
get_set_same (x ∷ xs) zero v h = refl
get_set_same (x ∷ xs) (suc i) v h = get_set_same xs i v (omega arith)

is_noted : (s k : ℕ) (v : Arity) (xs : List Arity) → s ≤ k → noted s k v xs ≡ put_at xs (k - s) v
is_noted s k v xs h = cond-true (leb s k) (put_at xs (k - s) v) xs (le-leb s k h)

not_noted : (s k : ℕ) (v : Arity) (xs : List Arity) → k < s → noted s k v xs ≡ xs
not_noted s k v xs h = cond-false (leb s k) (put_at xs (k - s) v) xs (lt-leb s k h)

noted_length : (s k : ℕ) (v : Arity) (xs : List Arity) → length (noted s k v xs) ≡ length xs
noted_length s k v xs = elim (cases_lt k s) [ inl l ↦ ap length (not_noted s k v xs l) | inr g ↦ ap length (is_noted s k v xs g) ∙ length-set xs (k - s) v ]

-- what is noted leaves other functions alone
noted_other : (s k : ℕ) (v : Arity) (xs : List Arity) (j : ℕ) → s ≤ j → j ≢ k → slice_get (noted s k v xs) (j - s) ≡ slice_get xs (j - s)
noted_other s k v xs j h n =
    elim (cases_lt k s) [
      | inl l ↦ ap (λ (ys : List Arity). slice_get ys (j - s)) (not_noted s k v xs l)
      | inr g ↦ let ne : j - s ≢ k - s = λ e. n (omega arith) in ap (λ (ys : List Arity). slice_get ys (j - s)) (is_noted s k v xs g) ∙ get_set_other xs (k - s) (j - s) v ne
    ]

noted_same : (s k : ℕ) (v : Arity) (xs : List Arity) → s ≤ k → k - s < length xs → slice_get (noted s k v xs) (k - s) ≡ Some v
noted_same s k v xs h b = ap (λ (ys : List Arity). slice_get ys (k - s)) (is_noted s k v xs h) ∙ get_set_same xs (k - s) v b

-- a function that has begun stays in the table
kept : (s k : ℕ) (xs : List Arity) (vs : List Event) (j : ℕ) → s ≤ j → j < k → slice_get (loaded s k xs vs) (j - s) ≡ slice_get xs (j - s)
kept s k xs [] j h l = refl
kept s k xs (Called u a r ∷ vs) j h l = kept s k xs vs j h l
kept s k xs (Headed a r ∷ vs) j h l =
    let ne : j ≢ k = λ e. omega arith in
    kept s (k + 1) (noted s k _ xs) vs j h (omega arith) ∙ noted_other s k _ xs j h ne

in_place : (s k : ℕ) (xs : List Arity) (vs : List Event) (j : ℕ) → s ≤ j → j - s < length xs → k ≤ j → j - k < length (of vs) → slice_get (loaded s k xs vs) (j - s) ≡ slice_get (of vs) (j - k)
in_place s k xs [] j h b g c = absurd (omega arith)
in_place s k xs (Called u a r ∷ vs) j h b g c = in_place s k xs vs j h b g c
in_place s k xs (Headed a r ∷ vs) j h b g c =
    let v : Arity = record { arguments = a; results = r } in
    elim (cases_eq j k) [
      | inl e ↦
          let z : j - k ≡ 0 = omega arith in
          kept s (k + 1) (noted s k v xs) vs j h (omega arith) ∙ (λ i. slice_get (noted s k v xs) (e i - s)) ∙ noted_same s k v xs (omega arith) (omega arith)
          ∙ (λ i. slice_get (v ∷ of vs) (sym z i))
      | inr n ↦
          let z : j - k ≡ suc (j - (k + 1)) = omega arith in
          in_place s (k + 1) (noted s k v xs) vs j h (omega (arith, noted_length s k v xs)) (omega arith) (omega arith) ∙ (λ i. slice_get (v ∷ of vs) (sym z i))
    ]

-- commands have no functions in them
mutual
  of_c : (c : Cmd) (r : List Event) → of (events_c c r) ≡ of r
  of_c (set x e) r = refl
  of_c (store n d e) r = refl
  of_c (if_then e cs ds) r = of_cs cs (events_cs ds r) ∙ of_cs ds r
  of_c (while e cs) r = of_cs cs r
  of_c (call g es xs) r = refl
  of_c (from_door x d) r = refl
  of_c (to_door d e) r = refl

  of_cs : (cs : Cmds) (r : List Event) → of (events_cs cs r) ≡ of r
  of_cs none r = refl
  of_cs (more c cs) r = of_c c (events_cs cs r) ∙ of_cs cs r

mutual
  small_c : (c : Cmd) (r : List Event) → small (events_c c r) ≡ small r
  small_c (set x e) r = refl
  small_c (store n d e) r = refl
  small_c (if_then e cs ds) r = small_cs cs (events_cs ds r) ∙ small_cs ds r
  small_c (while e cs) r = small_cs cs r
  small_c (call g es xs) r = refl
  small_c (from_door x d) r = refl
  small_c (to_door d e) r = refl

  small_cs : (cs : Cmds) (r : List Event) → small (events_cs cs r) ≡ small r
  small_cs none r = refl
  small_cs (more c cs) r = small_c c (events_cs cs r) ∙ small_cs cs r

of_length : (p : Program) → length (of (events_p p)) ≡ length p
of_length [] = refl
of_length (f ∷ fs) = ap (λ (xs : List Arity). suc (length xs)) (of_cs f.body (events_p fs)) ∙ ap suc (of_length fs)

-- what a function of the program has, among its events
fits_among : (p : Program) (j a r : ℕ) → j < length p → small (events_p p) ≡ true → has (slice_get (of (events_p p)) j) a r ≡ fits (function_at p j) a r
unfolding fits function_at
fits_among [] j a r h s = absurd (omega arith)
fits_among (f ∷ fs) zero a r h s =
    let l : cap f.arguments ≤ 8 = leb-true (cap f.arguments) 8 (and_parts (leb (cap f.arguments) 8) (leb (length f.results) 8) (and_parts (leb (cap f.arguments) 8 && leb (length f.results) 8) _ s).0).0 in
    let q : cap f.arguments ≡ f.arguments = omega arith in
    λ i. eqb a (q i) && eqb r (length f.results)
fits_among (f ∷ fs) (suc j) a r h s =
    let t : small (events_p fs) ≡ true = sym (small_cs f.body (events_p fs)) ∙ (and_parts (leb (cap f.arguments) 8 && leb (length f.results) 8) (small (events_cs f.body (events_p fs))) s).1 in
    (λ i. has (slice_get (of_cs f.body (events_p fs) i) j) a r) ∙ fits_among fs j a r (omega arith) t

-- CALLS
abbrev fits_of : Program → ℕ → ℕ → ℕ → Bool
fits_of p g a r = fits (function_at p g) a r

shuffle : (a b c d e : Bool) → ((a && (b && c)) && (d && e)) ≡ (((a && b) && d) && (c && e))
shuffle false b c d e = refl
shuffle true false c d e = refl
shuffle true true true d e = refl
shuffle true true false true e = refl
shuffle true true false false e = refl

mutual
  unfolding fits_c fits_cs after_c after_cs

  every_c : (p : Program) (k n : ℕ) (c : Cmd) (r : List Event) → n ≤ 18446744073709551615 → after_c k n c ≡ true → every (fits_of p) (events_c c r) ≡ (fits_c p c && every (fits_of p) r)
  every_c p k n (set x e) r h w = refl
  every_c p k n (store m d e) r h w = refl
  every_c p k n (if_then e cs ds) r h w =
      let q : (after_cs k n cs ≡ true) × (after_cs k n ds ≡ true) = and_parts (after_cs k n cs) (after_cs k n ds) w in
      both (fits_cs p cs) (fits_cs p ds) (every (fits_of p) r) (every_cs p k n cs (events_cs ds r) h q.0) (every_cs p k n ds r h q.1)
  every_c p k n (while e cs) r h w = every_cs p k n cs r h w
  every_c p k n (call g es xs) r h w =
      let small : g < n = ltb-true g n (and_parts (ltb k g) (ltb g n) w).1 in
      let same : cap g ≡ g = omega arith in
      λ i. fits (function_at p (same i)) (length es) (length xs) && every (fits_of p) r
  every_c p k n (from_door x d) r h w = refl
  every_c p k n (to_door d e) r h w = refl

  every_cs : (p : Program) (k n : ℕ) (cs : Cmds) (r : List Event) → n ≤ 18446744073709551615 → after_cs k n cs ≡ true → every (fits_of p) (events_cs cs r) ≡ (fits_cs p cs && every (fits_of p) r)
  every_cs p k n none r h w = refl
  every_cs p k n (more c cs) r h w =
      let q : (after_c k n c ≡ true) × (after_cs k n cs ≡ true) = and_parts (after_c k n c) (after_cs k n cs) w in
      both (fits_c p c) (fits_cs p cs) (every (fits_of p) r) (every_c p k n c (events_cs cs r) h q.0) (every_cs p k n cs r h q.1)

fits_events : (p fs : Program) (k n : ℕ) → n ≤ 18446744073709551615 → after_in k n fs ≡ true → fits_in p fs ≡ (small (events_p fs) && every (fits_of p) (events_p fs))
unfolding fits_in after_in
fits_events p [] k n h w = refl
fits_events p (f ∷ fs) k n h w =
    let q : (after_cs k n f.body ≡ true) × (after_in (suc k) n fs ≡ true) = and_parts (after_cs k n f.body) (after_in (suc k) n fs) w in
    (λ i. (leb f.arguments 8 && (leb (length f.results) 8 && fits_cs p f.body)) && fits_events p fs (suc k) n h q.1 i)
    ∙ shuffle (leb f.arguments 8) (leb (length f.results) 8) (fits_cs p f.body) (small (events_p fs)) (every (fits_of p) (events_p fs))
    ∙ (λ i. ((sym (cap_leb f.arguments 8 (omega arith)) i && leb (length f.results) 8) && sym (small_cs f.body (events_p fs)) i) && sym (every_cs p k n f.body (events_p fs) h q.0) i)

-- tests of all calls
every_imp : (A B C D : ℕ → ℕ → ℕ → Bool) → ((g a r : ℕ) → A g a r ≡ true → B g a r ≡ true → C g a r ≡ true → D g a r ≡ true) →
    (vs : List Event) → every A vs ≡ true → every B vs ≡ true → every C vs ≡ true → every D vs ≡ true
every_imp A B C D f [] a b c = refl
every_imp A B C D f (Headed u v ∷ vs) a b c = every_imp A B C D f vs a b c
every_imp A B C D f (Called g x y ∷ vs) a b c =
    let p : (A g x y ≡ true) × (every A vs ≡ true) = and_parts (A g x y) (every A vs) a in
    let q : (B g x y ≡ true) × (every B vs ≡ true) = and_parts (B g x y) (every B vs) b in
    let r : (C g x y ≡ true) × (every C vs ≡ true) = and_parts (C g x y) (every C vs) c in
    and_from (D g x y) (every D vs) (f g x y p.0 q.0 r.0) (every_imp A B C D f vs p.1 q.1 r.1)

every_true : (vs : List Event) → every (λ g a r. true) vs ≡ true
every_true [] = refl
every_true (Headed a r ∷ vs) = every_true vs
every_true (Called g a r ∷ vs) = every_true vs

abbrev there : ℕ → ℕ → ℕ → ℕ → Bool
there n g a r = ltb g n

later_there : (n k : ℕ) (vs : List Event) → later n k vs ≡ true → every (there n) vs ≡ true
later_there n k [] h = refl
later_there n k (Headed a r ∷ vs) h = later_there n (k + 1) vs h
later_there n k (Called g a r ∷ vs) h =
    let p : ((leb k g && ltb g n) ≡ true) × (later n (k + 0) vs ≡ true) = and_parts (leb k g && ltb g n) (later n (k + 0) vs) h in
    and_from (ltb g n) (every (there n) vs) (and_parts (leb k g) (ltb g n) p.0).1 (later_there n (k + 0) vs p.1)

all_there : (n : ℕ) (p : Program) → n ≤ 18446744073709551615 → n ≡ length p → after_in 0 (length p) p ≡ true → every (there n) (events_p p) ≡ true
all_there n p h q w = later_there n 0 (events_p p) (later_p n 0 p (omega arith) h ∙ (λ i. after_in 0 (q i) p) ∙ w)

-- ONE BLOCK AFTER THE OTHER
-- calls of the functions before one fit
abbrev below : Program → ℕ → ℕ → ℕ → ℕ → Bool
below p s g a r = cond (ltb g s) (fits_of p g a r) true

below_fits : (p : Program) (s g a r : ℕ) → g < s → below p s g a r ≡ true → fits_of p g a r ≡ true
below_fits p s g a r h e = sym (cond-true (ltb g s) (fits_of p g a r) true (lt-ltb g s h)) ∙ e

fits_below : (p : Program) (s g a r : ℕ) → (g < s → fits_of p g a r ≡ true) → below p s g a r ≡ true
fits_below p s g a r f =
    elim (cases_lt g s) [ inl l ↦ cond-true (ltb g s) (fits_of p g a r) true (lt-ltb g s l) ∙ f l | inr l ↦ cond-false (ltb g s) (fits_of p g a r) true (le-ltb g s l) ]

none_below : (p : Program) (vs : List Event) → every (below p 0) vs ≡ true
none_below p vs = every_imp (λ g a r. true) (λ g a r. true) (λ g a r. true) (below p 0) (λ g a r x y z. fits_below p 0 g a r (λ l. absurd (omega arith))) vs (every_true vs) (every_true vs) (every_true vs)

-- a table that was filled from the program says what its functions have
pub record Filled (p : Program) (s : ℕ) (xs : List Arity) : Type 0 where
  pub small_ones : small (events_p p) ≡ true
  pub right : (g a r : ℕ) → g < length p → s ≤ g → g - s < length xs → in_table s xs g a r ≡ fits_of p g a r

in_block : (s g a r : ℕ) (xs : List Arity) → s ≤ g → in_table s xs g a r ≡ has (slice_get xs (g - s)) a r
in_block s g a r xs h = ap (λ (v : Option Arity). has v a r) (cond-true (leb s g) (slice_get xs (g - s)) None (le-leb s g h))

out_of_block : (s g a r : ℕ) (xs : List Arity) → (s ≤ g → g - s < length xs → ⊥) → in_table s xs g a r ≡ true
out_of_block s g a r xs f =
    elim (cases_lt g s) [
      | inl l ↦ ap (λ (v : Option Arity). has v a r) (cond-false (leb s g) (slice_get xs (g - s)) None (lt-leb s g l))
      | inr k ↦ in_block s g a r xs k ∙ elim (cases_lt (g - s) (length xs)) [ inl d ↦ absurd (f k d) | inr d ↦ ap (λ (v : Option Arity). has v a r) (slice_get_past xs (g - s) d) ]
    ]

loaded_length : (s k : ℕ) (xs : List Arity) (vs : List Event) → length (loaded s k xs vs) ≡ length xs
loaded_length s k xs [] = refl
loaded_length s k xs (Called u a r ∷ vs) = loaded_length s k xs vs
loaded_length s k xs (Headed a r ∷ vs) = loaded_length s (k + 1) (noted s k _ xs) vs ∙ noted_length s k _ xs

filled : (text : List ℕ) (p : Program) (s : ℕ) (xs ys : List Arity) (u : Unit) → read text ≡ program p → Loaded text s xs (Some u) ys → Filled p s ys
filled text p s xs ys u r h =
    let t : (small (events_p p) ≡ true) × (ys ≡ loaded s 0 xs (events_p p)) = h p r in
    record {
      small_ones = t.0;
      right = λ g a v c d f.
          let z : g - 0 ≡ g = omega arith in
          let l : g - 0 < length (of (events_p p)) = omega (arith, of_length p) in
          let b : g - s < length xs = omega (arith, ap length t.1, loaded_length s 0 xs (events_p p)) in
          in_block s g a v ys d
          ∙ (λ i. has (slice_get (t.1 i) (g - s)) a v)
          ∙ (λ i. has (in_place s 0 xs (events_p p) g d b (omega arith) l i) a v)
          ∙ (λ i. has (slice_get (of (events_p p)) (z i)) a v)
          ∙ fits_among p g a v c t.0;
    }

one_block : (p : Program) (n s e : ℕ) (xs : List Arity) → n ≤ 18446744073709551615 → n ≡ length p → after_in 0 (length p) p ≡ true → Filled p s xs → e ≤ s + length xs →
    every (below p s) (events_p p) ≡ true → every (in_table s xs) (events_p p) ≡ true → every (below p e) (events_p p) ≡ true
one_block p n s e xs h q w t l b c =
    every_imp (there n) (below p s) (in_table s xs) (below p e)
    (λ g a r x y z. fits_below p e g a r (λ m.
    elim (cases_lt g s) [
      | inl k ↦ below_fits p s g a r k y
      | inr k ↦ sym (t.right g a r (omega (arith, ltb-true g n x)) k (omega arith)) ∙ z
    ]))
    (events_p p) (all_there n p h q w) b c

block_out : (p : Program) (n s : ℕ) (xs : List Arity) → n ≤ 18446744073709551615 → n ≡ length p → after_in 0 (length p) p ≡ true → Filled p s xs → every (in_table s xs) (events_p p) ≡ false → fits_in p p ≡ false
block_out p n s xs h q w t c =
    let e : fits_in p p ≡ (small (events_p p) && every (fits_of p) (events_p p)) = fits_events p p 0 (length p) (omega arith) w in
    elim (cases_Bool (fits_in p p)) [
      | inl y ↦
          let f : every (fits_of p) (events_p p) ≡ true = (and_parts (small (events_p p)) (every (fits_of p) (events_p p)) (sym e ∙ y)).1 in
          absurd (both_ways (every (in_table s xs) (events_p p)) c
          (every_imp (there n) (fits_of p) (λ g a r. true) (in_table s xs)
          (λ g a r x z u.
          elim (cases_lt g s) [
            | inl k ↦ out_of_block s g a r xs (λ i j. omega arith)
            | inr k ↦ elim (cases_lt (g - s) (length xs)) [ inl d ↦ t.right g a r (omega (arith, ltb-true g n x)) k d ∙ z | inr d ↦ out_of_block s g a r xs (λ i j. omega arith) ]
          ])
          (events_p p) (all_there n p h q w) f (every_true (events_p p))))
      | inr y ↦ y
    ]

too_many : (p : Program) (n : ℕ) → n ≤ 18446744073709551615 → n ≡ length p → after_in 0 (length p) p ≡ true → small (events_p p) ≡ false → fits_in p p ≡ false
too_many p n h q w s = fits_events p p 0 (length p) (omega arith) w ∙ is_false (small (events_p p)) (every (fits_of p) (events_p p)) s

all_blocks : (p : Program) (n s : ℕ) → n ≤ 18446744073709551615 → n ≡ length p → after_in 0 (length p) p ≡ true → n ≤ s → small (events_p p) ≡ true → every (below p s) (events_p p) ≡ true → fits_in p p ≡ true
all_blocks p n s h q w l t b =
    fits_events p p 0 (length p) (omega arith) w
    ∙ and_from (small (events_p p)) (every (fits_of p) (events_p p)) t
    (every_imp (there n) (below p s) (λ g a r. true) (fits_of p) (λ g a r x y z. below_fits p s g a r (omega (arith, ltb-true g n x)) y) (events_p p) (all_there n p h q w) b (every_true (events_p p)))

-- ONE PASS THAT FILLS A TABLE
-- after some events: what is made of all is made of those that are to come
abbrev pub Filling : List Event → ℕ → ℕ → List Arity → List Arity → Type 0
Filling vs s k xs ys = (es : List Event) → (small (vs ++ es) ≡ small es) × (loaded s 0 xs (vs ++ es) ≡ loaded s k ys es)

too_large : (a r : ℕ) → arity_of a r ≡ None → small_v (Headed a r) ≡ false
too_large a r e = grind (arith, nat_tests)

module _ (vs : List Event) (s k : ℕ) (xs ys : List Arity) (d : Filling vs s k xs ys) where
  module _ (text rest j : List ℕ) (z : (i : ℕ) → get_or text i 0 < 256) (y : Yields Evented text vs rest) where
    pub fill_out : (a r : ℕ) (us : List Arity) → Evented rest (Some (Headed a r)) j → arity_of a r ≡ None → Loaded text s xs None us
    fill_out a r us e q p w =
        let b : (es : List Event) × (events_p p ≡ vs ++ (Headed a r ∷ es)) = of_program_some text vs rest j (Headed a r) p z y e w in
        ap small b.1 ∙ (d (Headed a r ∷ b.0)).0 ∙ is_false (small_v (Headed a r)) (small b.0) (too_large a r q)

    pub fill_end : (u : Unit) → Evented rest None j → Loaded text s xs (Some u) ys
    fill_end u e p r =
        let a : events_p p ≡ vs ++ [] = of_program_all text vs rest j p z y e r in
        (ap small a ∙ (d []).0, sym (d []).1 ∙ ap (loaded s 0 xs) (sym a))

-- ALL BLOCKS
held : (b : Bool) (r : Option Unit) → r ≡ told b tt → b ≡ is_some r
held b r e = grind (arith, e)

-- the calls of functions before s fit, and once some block has passed no function has too many
abbrev pub SoFar : List ℕ → ℕ → ℕ → Type 0
SoFar text n s =
    (p : Program) → read text ≡ program p → n ≡ length p → after_in 0 (length p) p ≡ true → (0 < s → small (events_p p) ≡ true) × (every (below p s) (events_p p) ≡ true)

pub so_far_first : (text : List ℕ) (n : ℕ) → SoFar text n 0
so_far_first text n p r q w = ((λ h. absurd (omega arith)), none_below p (events_p p))

-- what was said of the calls of a block
abbrev Held : List ℕ → ℕ → List Arity → Option Unit → Type 0
Held text s xs r = (p : Program) → read text ≡ program p → r ≡ told (every (in_table s xs) (events_p p)) tt

module _ (text : List ℕ) (n s : ℕ) (h : n ≤ 18446744073709551615) where
  pub so_far_on : (e : ℕ) (xs ys : List Arity) (u v : Unit) → e ≤ s + length ys → Loaded text s xs (Some u) ys → Held text s ys (Some v) → SoFar text n s → SoFar text n e
  so_far_on e xs ys u v k f g d p r q w =
      let y : Filled p s ys = filled text p s xs ys u r f in
      ((λ z. y.small_ones), one_block p n s e ys h q w y k (d p r q w).1 (held _ (Some v) (g p r)))

  pub so_far_small : (xs ys : List Arity) → Loaded text s xs None ys → Arities text n None
  so_far_small xs ys f p r q w = and_right (first_fits p) (fits_in p p) (too_many p n h q w (f p r))

  pub so_far_out : (xs ys : List Arity) (u : Unit) → Loaded text s xs (Some u) ys → Held text s ys None → Arities text n None
  so_far_out xs ys u f g p r q w = and_right (first_fits p) (fits_in p p) (block_out p n s ys h q w (filled text p s xs ys u r f) (held _ None (g p r)))

  not_none : (p : Program) → first_fits p ≡ true → 0 < length p
  unfolding first_fits
  not_none [] e = absurd (both_ways false refl e)
  not_none (f ∷ fs) e = omega arith

  pub so_far_end : (u : Unit) (b : Bool) → First text b → b ≡ true → n ≤ s → SoFar text n s → Arities text n (Some u)
  so_far_end u b f t l d p r q w =
      let y : first_fits p ≡ true = sym (f p r) ∙ t in
      and_from (first_fits p) (fits_in p p) y (all_blocks p n s h q w l ((d p r q w).0 (omega (arith, not_none p y))) (d p r q w).1)
