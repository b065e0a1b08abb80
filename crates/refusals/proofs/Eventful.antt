-- Events in the tokens of a text, one after the other.
use Rattle.std.proofs.Common.{◌≡◌, ℕ, zero, suc, ◌+◌, ◌*◌, ◌^◌, ◌<◌, ◌≤◌, List, [], ◌∷◌, ◌++◌, Some, None, Option, sym, refl, ap, ◌∙◌, subst, arith}
use Rattle.format.specs.declared.token.Token.{Token}
use Rattle.format.specs.declared.token.Token.TheVariants.{End, Word, Var, Load, Choice, Operator as Binary, Set, Store, If, While, Call, From, To, Function as Header}
use Rattle.format.specs.Tokens.{lex, Lexes, Rest, Taken}
use Rattle.format.proofs.Digits.{lex_shorter}
use Rattle.format.proofs.Rests.{rest_all, rest_and, rest_shorter, rest_lex}
use Rattle.refusals.specs.declared.event.Event.{Event}
use Rattle.refusals.specs.declared.event.Mode.{Mode}
use Rattle.refusals.specs.declared.event.Mode.TheVariants.{Body, Results, Arguments, Variables}
use Rattle.std.specs.declared.ops.ControlFlow.TheVariants.{Continue, Break}
use Rattle.std.specs.Iterator.{Yields}
use Rattle.std.proofs.lemmas.List.{append-nil}
use Rattle.refusals.specs.Pass.{Ran}
use Rattle.refusals.specs.Events.{up, at_end, after, events, Stepped, Counted, Evented}
use Rattle.refusals.proofs.Answered.{front, none_left}

-- counters stay below the place
abbrev pub Counts : ℕ → Mode → Type 0
Counts i Body = Unit {0}
Counts i (Results a r) = r ≤ i
Counts i (Arguments g a e) = (a ≤ i) × (e ≤ 3 * i)
Counts i (Variables g a r) = r ≤ i

up_counts : (i j n : ℕ) (m : Mode) → i < j → n ≤ 3 → Counts i m → Counts j (up n m)
up_counts i j n Body h l c = tt
up_counts i j n (Results a r) h l c = omega arith
up_counts i j n (Arguments g a zero) h l c = (omega arith, omega arith)
up_counts i j n (Arguments g a (suc e)) h l c = (omega arith, omega arith)
up_counts i j n (Variables g a r) h l c = omega arith

more_counts : (i j : ℕ) (m : Mode) → i < j → Counts i m → Counts j m
more_counts i j Body h c = tt
more_counts i j (Results a r) h c = omega arith
more_counts i j (Arguments g a e) h c = (omega arith, omega arith)
more_counts i j (Variables g a r) h c = omega arith

end_counts : (j : ℕ) (m : Mode) → Counts j (at_end m)
end_counts j Body = tt
end_counts j (Results a r) = tt
end_counts j (Arguments g a e) = omega arith
end_counts j (Variables g a r) = tt

after_counts : (i j : ℕ) (m : Mode) (t : Token) → i < j → Counts i m → Counts j (after m t)
after_counts i j m End h c = end_counts j m
after_counts i j m (Word n) h c = up_counts i j 0 m h (omega arith) c
after_counts i j m (Var x) h c = up_counts i j 0 m h (omega arith) c
after_counts i j m (Load n) h c = up_counts i j 1 m h (omega arith) c
after_counts i j m Choice h c = up_counts i j 3 m h (omega arith) c
after_counts i j m (Binary o) h c = up_counts i j 2 m h (omega arith) c
after_counts i j m (Set x) h c = more_counts i j m h c
after_counts i j m (Store n) h c = more_counts i j m h c
after_counts i j m If h c = more_counts i j m h c
after_counts i j m While h c = more_counts i j m h c
after_counts i j m (Call g) h c = (omega arith, omega arith)
after_counts i j m (From x d) h c = more_counts i j m h c
after_counts i j m (To d) h c = more_counts i j m h c
after_counts i j m (Header a v) h c = omega arith

pub step_counts : (i j : ℕ) (m k : Mode) (t : Token) → i < j → Counts i m → Stepped m t (Continue k) → Counts j k
step_counts i j m k t h c s = subst (λ (x : Mode). Counts j x) s.1 (after_counts i j m t h c)

pub counted : (i : ℕ) (m : Mode) → i + 1 < 2 ^ 64 → Counts i m → Counted m
counted i Body h c = tt
counted i (Results a r) h c = omega arith
counted i (Arguments g a e) h c = (omega arith, omega arith)
counted i (Variables g a r) h c = omega arith

-- an end of the bytes is left, and its events are those that were to come
abbrev pub Coming : List ℕ → List ℕ → Mode → Type 0
Coming from now m = Rest from now × ((ts : List Token) → Lexes from ts → (us : List Token) × Lexes now us × (events Body ts ≡ events m us))

pub coming_first : (from : List ℕ) → Coming from from Body
coming_first from = (rest_all from, λ ts l. (ts, l, refl))

module _ (from now rest : List ℕ) (m : Mode) (t : Token) (is : lex now ≡ Some (t, rest)) (so : Coming from now m) where
  taken : Taken from rest
  taken = (rest_and from now rest so.0 (rest_lex now t rest is), omega (arith, lex_shorter now t rest is, rest_shorter from now so.0))

  pub coming_on : (k : Mode) → Stepped m t (Continue k) → Coming from rest k
  coming_on k s = (
    taken.0,
    λ ts l.
        let a : (us : List Token) × Lexes now us × (events Body ts ≡ events m us) = so.1 ts l in
        let b : (us : List Token) × Lexes rest us × (a.0 ≡ t ∷ us) = front now rest t a.0 is a.1 in
        (b.0, b.1, a.2 ∙ ap (events m) b.2 ∙ (λ j. s.0 j ++ events (s.1 j) b.0)),
  )

  pub coming_out : (e : Event) → Stepped m t (Break e) → Evented from (Some e) rest
  coming_out e s = (
    taken,
    λ ts l.
        let a : (us : List Token) × Lexes now us × (events Body ts ≡ events m us) = so.1 ts l in
        let b : (us : List Token) × Lexes rest us × (a.0 ≡ t ∷ us) = front now rest t a.0 is a.1 in
        (b.0, b.1, a.2 ∙ ap (events m) b.2 ∙ (λ j. s.0 j ++ events (s.1 j) b.0)),
  )

pub coming_end : (from now rest : List ℕ) (m : Mode) → lex now ≡ None → Coming from now m → Evented from None rest
coming_end from now rest m n so ts l =
    let a : (us : List Token) × Lexes now us × (events Body ts ≡ events m us) = so.1 ts l in
    a.2 ∙ ap (events m) (none_left now a.0 n a.1)

-- A CHECK OF EVENTS
pub left : (bs : List ℕ) (vs : List Event) (rest : List ℕ) (ts : List Token) → Yields Evented bs vs rest → Lexes bs ts → (us : List Token) × Lexes rest us × (events Body ts ≡ vs ++ events Body us)
left bs [] rest ts y l = (ts, subst (λ (r : List ℕ). Lexes r ts) y l, refl)
left bs (v ∷ vs) rest ts y l =
    let a : (us : List Token) × Lexes y.0 us × (events Body ts ≡ v ∷ events Body us) = y.1.1 ts l in
    let b : (us : List Token) × Lexes rest us × (events Body a.0 ≡ vs ++ events Body us) = left y.0 vs rest a.0 y.2 a.1 in
    (b.0, b.1, a.2 ∙ ap (λ (us : List Event). v ∷ us) b.2)

pub answered : {S F : Type 0} (makes : S → List Event → Option F) (bs : List ℕ) (s : S) (r : Option F) (ts : List Token) → Ran Evented makes bs s r → Lexes bs ts → r ≡ makes s (events Body ts)
answered makes bs s None ts a l =
    let b : (us : List Token) × Lexes a.1 us × (events Body ts ≡ a.0 ++ events Body us) = left bs a.0 a.1 ts a.2 l in
    let d : (us : List Token) × Lexes a.3.1 us × (events Body b.0 ≡ a.3.0 ∷ events Body us) = a.3.2.1 b.0 b.1 in
    sym (ap (makes s) (b.2 ∙ ap (λ (us : List Event). a.0 ++ us) d.2) ∙ a.3.3 (events Body d.0))
answered makes bs s (Some v) ts a l =
    let b : (us : List Token) × Lexes a.1 us × (events Body ts ≡ a.0 ++ events Body us) = left bs a.0 a.1 ts a.2 l in
    sym (ap (makes s) (b.2 ∙ ap (λ (us : List Event). a.0 ++ us) (a.3.0.1 b.0 b.1) ∙ append-nil a.0) ∙ a.3.1)

-- the events that were all given are the program's
pub drained : (bs : List ℕ) (vs : List Event) (rest j : List ℕ) (ts : List Token) → Yields Evented bs vs rest → Evented rest None j → Lexes bs ts → events Body ts ≡ vs
drained bs vs rest j ts y n l =
    let b : (us : List Token) × Lexes rest us × (events Body ts ≡ vs ++ events Body us) = left bs vs rest ts y l in
    b.2 ∙ ap (λ (us : List Event). vs ++ us) (n b.0 b.1) ∙ append-nil vs
