-- The events of a program, and calls of later functions.
use Rattle.std.proofs.Common.{◌≡◌, ℕ, suc, ◌+◌, ◌<◌, ◌≤◌, ◌&&◌, List, [], ◌∷◌, ◌++◌, length, get_or, Some, None, Option, sym, refl, ap, ◌∙◌, add-one, arith}
use Rattle.model.specs.Source.{Expr, word, var, load, op, if_not_zero, Cmd, set, store, if_then, while, call, from_door, to_door, Cmds, none, more, Program}
use Rattle.model.specs.Promise.{program, after_c, after_cs, after_in}
use Rattle.format.specs.Format.{read}
use Rattle.format.specs.declared.token.Token.{Token}
use Rattle.format.specs.Tokens.{cap, Lexes, tokens_e, tokens_es, tokens_v, tokens_c, tokens_cs, tokens}
use Rattle.refusals.specs.declared.event.Event.{Event}
use Rattle.refusals.specs.declared.event.Event.TheVariants.{Header as Headed, Call as Called}
use Rattle.refusals.specs.declared.event.Mode.TheVariants.{Body, Results, Arguments, Variables}
use Rattle.refusals.specs.Events.{events, Evented, events_c, events_cs, events_p, later, Follows}
use Rattle.refusals.proofs.Capped.{cap_ltb, leb_cap, both}
use Rattle.refusals.proofs.Eventful.{answered, left}
use Rattle.std.specs.Iterator.{Yields}
use Rattle.refusals.specs.Pass.{Ran}
use Rattle.refusals.specs.Tests.{told}
use Rattle.format.proofs.Lexed.{lexes}

plus_zero : (n : ℕ) → n + 0 ≡ n
plus_zero n = omega arith

in_body : (e : Expr) (ts : List Token) → events Body (tokens_e e ts) ≡ events Body ts
in_body (word n) ts = refl
in_body (var x) ts = refl
in_body (load n e) ts = in_body e ts
in_body (op o d e) ts = in_body d (tokens_e e ts) ∙ in_body e ts
in_body (if_not_zero c d e) ts = in_body c (tokens_e d (tokens_e e ts)) ∙ in_body d (tokens_e e ts) ∙ in_body e ts

-- a part of an argument, with e more to come after it
inside : (x : Expr) (g a e : ℕ) (ts : List Token) → events (Arguments g a (suc e)) (tokens_e x ts) ≡ events (Arguments g a e) ts
inside (word n) g a e ts = λ i. events (Arguments g a (plus_zero e i)) ts
inside (var x) g a e ts = λ i. events (Arguments g a (plus_zero e i)) ts
inside (load n x) g a e ts = (λ i. events (Arguments g a (add-one e i)) (tokens_e x ts)) ∙ inside x g a e ts
inside (op o d x) g a e ts =
    let q : e + 2 ≡ suc (suc e) = omega arith in
    (λ i. events (Arguments g a (q i)) (tokens_e d (tokens_e x ts))) ∙ inside d g a (suc e) (tokens_e x ts) ∙ inside x g a e ts
inside (if_not_zero c d x) g a e ts =
    let q : e + 3 ≡ suc (suc (suc e)) = omega arith in
    (λ i. events (Arguments g a (q i)) (tokens_e c (tokens_e d (tokens_e x ts)))) ∙ inside c g a (suc (suc e)) (tokens_e d (tokens_e x ts)) ∙ inside d g a (suc e) (tokens_e x ts) ∙ inside x g a e ts

one_argument : (x : Expr) (g a : ℕ) (ts : List Token) → events (Arguments g a 0) (tokens_e x ts) ≡ events (Arguments g (a + 1) 0) ts
one_argument (word n) g a ts = refl
one_argument (var x) g a ts = refl
one_argument (load n x) g a ts = inside x g (a + 1) 0 ts
one_argument (op o d x) g a ts = inside d g (a + 1) 1 (tokens_e x ts) ∙ inside x g (a + 1) 0 ts
one_argument (if_not_zero c d x) g a ts = inside c g (a + 1) 2 (tokens_e d (tokens_e x ts)) ∙ inside d g (a + 1) 1 (tokens_e x ts) ∙ inside x g (a + 1) 0 ts

all_arguments : (es : List Expr) (g a : ℕ) (ts : List Token) → events (Arguments g a 0) (tokens_es es ts) ≡ events (Variables g (a + length es) 0) ts
all_arguments [] g a ts = λ i. events (Variables g (sym (plus_zero a) i) 0) ts
all_arguments (e ∷ es) g a ts =
    let q : (a + 1) + length es ≡ a + suc (length es) = omega arith in
    one_argument e g a (tokens_es es ts) ∙ all_arguments es g (a + 1) ts ∙ (λ i. events (Variables g (q i) 0) ts)

all_variables : (xs : List ℕ) (g a r : ℕ) (ts : List Token) → events (Variables g a r) (tokens_v xs ts) ≡ Called g a (r + length xs) ∷ events Body ts
all_variables [] g a r ts = λ i. Called g a (sym (plus_zero r) i) ∷ events Body ts
all_variables (x ∷ xs) g a r ts =
    let q : (r + 1) + length xs ≡ r + suc (length xs) = omega arith in
    all_variables xs g a (r + 1) ts ∙ (λ i. Called g a (q i) ∷ events Body ts)

all_results : (xs : List ℕ) (a r : ℕ) (ts : List Token) → events (Results a r) (tokens_v xs ts) ≡ Headed a (r + length xs) ∷ events Body ts
all_results [] a r ts = λ i. Headed a (sym (plus_zero r) i) ∷ events Body ts
all_results (x ∷ xs) a r ts =
    let q : (r + 1) + length xs ≡ r + suc (length xs) = omega arith in
    all_results xs a (r + 1) ts ∙ (λ i. Headed a (q i) ∷ events Body ts)

mutual
  eventful_c : (c : Cmd) (ts : List Token) → events Body (tokens_c c ts) ≡ events_c c (events Body ts)
  eventful_c (set x e) ts = in_body e ts
  eventful_c (store n d e) ts = in_body d (tokens_e e ts) ∙ in_body e ts
  eventful_c (if_then e cs ds) ts = in_body e (tokens_cs cs (tokens_cs ds ts)) ∙ eventful_cs cs (tokens_cs ds ts) ∙ ap (events_cs cs) (eventful_cs ds ts)
  eventful_c (while e cs) ts = in_body e (tokens_cs cs ts) ∙ eventful_cs cs ts
  eventful_c (call g es xs) ts =
      let la : 0 + length es ≡ length es = omega arith in
      let lr : 0 + length xs ≡ length xs = omega arith in
      all_arguments es (cap g) 0 (tokens_v xs ts) ∙ all_variables xs (cap g) (0 + length es) 0 ts ∙ (λ i. Called (cap g) (la i) (lr i) ∷ events Body ts)
  eventful_c (from_door x d) ts = refl
  eventful_c (to_door d e) ts = in_body e ts

  eventful_cs : (cs : Cmds) (ts : List Token) → events Body (tokens_cs cs ts) ≡ events_cs cs (events Body ts)
  eventful_cs none ts = refl
  eventful_cs (more c cs) ts = eventful_c c (tokens_cs cs ts) ∙ ap (events_c c) (eventful_cs cs ts)

pub eventful_p : (p : Program) → events Body (tokens p) ≡ events_p p
eventful_p [] = refl
eventful_p (f ∷ fs) =
    let lr : 0 + length f.results ≡ length f.results = omega arith in
    all_results f.results (cap f.arguments) 0 (tokens_cs f.body (tokens fs))
    ∙ (λ i. Headed (cap f.arguments) (lr i) ∷ (eventful_cs f.body (tokens fs) ∙ ap (events_cs f.body) (eventful_p fs)) i)

-- CALLS OF LATER FUNCTIONS
module _ (n k : ℕ) (h : k < 18446744073709551615) (l : n ≤ 18446744073709551615) where
  mutual
    unfolding after_c after_cs

    later_c : (c : Cmd) (r : List Event) → later n (suc k) (events_c c r) ≡ (after_c k n c && later n (suc k) r)
    later_c (set x e) r = refl
    later_c (store m d e) r = refl
    later_c (if_then e cs ds) r = both (after_cs k n cs) (after_cs k n ds) (later n (suc k) r) (later_cs cs (events_cs ds r)) (later_cs ds r)
    later_c (while e cs) r = later_cs cs r
    later_c (call g es xs) r = λ i. (leb_cap g (suc k) (omega arith) i && cap_ltb g n l i) && later n (plus_zero (suc k) i) r
    later_c (from_door x d) r = refl
    later_c (to_door d e) r = refl

    later_cs : (cs : Cmds) (r : List Event) → later n (suc k) (events_cs cs r) ≡ (after_cs k n cs && later n (suc k) r)
    later_cs none r = refl
    later_cs (more c cs) r = both (after_c k n c) (after_cs k n cs) (later n (suc k) r) (later_c c (events_cs cs r)) (later_cs cs r)

pub later_p : (n k : ℕ) (fs : Program) → k + length fs ≤ 18446744073709551615 → n ≤ 18446744073709551615 → later n k (events_p fs) ≡ after_in k n fs
unfolding after_in
later_p n k [] h l = refl
later_p n k (f ∷ fs) h l =
    (λ i. later n (add-one k i) (events_cs f.body (events_p fs))) ∙ later_cs n k (omega arith) l f.body (events_p fs) ∙ (λ i. after_cs k n f.body && later_p n (suc k) fs (omega arith) l i)

pub ahead : (text : List ℕ) (n : ℕ) (r : Option Unit) (p : Program) → n ≤ 18446744073709551615 → n ≡ length p → r ≡ told (later n 0 (events_p p)) tt → r ≡ told (after_in 0 (length p) p) tt
ahead text n r p l s e = e ∙ (λ i. told (later_p n 0 p (omega arith) l i) tt) ∙ (λ i. told (after_in 0 (s i) p) tt)

pub says : (text : List ℕ) (n : ℕ) (r : Option Unit) → n ≤ 18446744073709551615 → ((p : Program) → read text ≡ program p → r ≡ told (later n 0 (events_p p)) tt) → Follows text n r
says text n None l h = λ p e s. grind (arith, ahead text n None p l s (h p e))
says text n (Some u) l h = λ p e s. grind (arith, ahead text n (Some u) p l s (h p e))

-- a check of the events of a program
pub of_program : {S F : Type 0} (makes : S → List Event → Option F) (text : List ℕ) (s : S) (r : Option F) (p : Program) → ((i : ℕ) → get_or text i 0 < 256) → Ran Evented makes text s r → read text ≡ program p → r ≡ makes s (events_p p)
of_program makes text s r p z a e = answered makes text s r (tokens p) a (lexes text p z e) ∙ ap (makes s) (eventful_p p)

-- the events of a program, of which some were given
module _ (text : List ℕ) (vs : List Event) (rest j : List ℕ) where
  pub of_program_some : (x : Event) (p : Program) → ((i : ℕ) → get_or text i 0 < 256) → Yields Evented text vs rest → Evented rest (Some x) j → read text ≡ program p → (es : List Event) × (events_p p ≡ vs ++ (x ∷ es))
  of_program_some x p z y e r =
      let b : (us : List Token) × Lexes rest us × (events Body (tokens p) ≡ vs ++ events Body us) = left text vs rest (tokens p) y (lexes text p z r) in
      let d : (us : List Token) × Lexes j us × (events Body b.0 ≡ x ∷ events Body us) = e.1 b.0 b.1 in
      (events Body d.0, sym (eventful_p p) ∙ b.2 ∙ ap (λ (us : List Event). vs ++ us) d.2)

  pub of_program_all : (p : Program) → ((i : ℕ) → get_or text i 0 < 256) → Yields Evented text vs rest → Evented rest None j → read text ≡ program p → events_p p ≡ vs ++ []
  of_program_all p z y e r =
      let b : (us : List Token) × Lexes rest us × (events Body (tokens p) ≡ vs ++ events Body us) = left text vs rest (tokens p) y (lexes text p z r) in
      sym (eventful_p p) ∙ b.2 ∙ ap (λ (us : List Event). vs ++ us) (e b.0 b.1)
