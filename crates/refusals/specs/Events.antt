-- The functions and the calls of a program, as events in the order of its tokens.
use Rattle.std.specs.Prelude.{◌≡◌, ℕ, zero, suc, ◌+◌, ◌^◌, ◌<◌, Bool, true, false, ◌&&◌, List, [], ◌∷◌, ◌++◌, length, Some, None, Option, nat_le, nat_lt}
use Rattle.model.specs.Source.{Cmd, set, store, if_then, while, call, from_door, to_door, Cmds, none, more, Program}
use Rattle.model.specs.Promise.{program, after_in}
use Rattle.format.specs.Format.{read}
use Rattle.format.specs.Tokens.{cap, Lexes, Taken}
use Rattle.format.specs.declared.token.Token.{Token}
use Rattle.format.specs.declared.token.Token.TheVariants.{End, Word, Var, Load, Choice, Operator as Binary, Set, Store, If, While, Call, From, To, Function as Header}
use Rattle.refusals.specs.declared.event.Event.{Event}
use Rattle.refusals.specs.declared.event.Event.TheVariants.{Header as Headed, Call as Called}
use Rattle.refusals.specs.declared.event.Mode.{Mode}
use Rattle.refusals.specs.declared.event.Mode.TheVariants.{Body, Results, Arguments, Variables}
use Rattle.std.specs.declared.ops.ControlFlow.{ControlFlow}
use Rattle.std.specs.declared.ops.ControlFlow.TheVariants.{Continue, Break}

-- an expression, or a variable of a list, begins, with so many parts
abbrev pub up : ℕ → Mode → Mode
up n Body = Body
up n (Results a r) = Results a (r + 1)
up n (Arguments g a zero) = Arguments g (a + 1) n
up n (Arguments g a (suc e)) = Arguments g a (e + n)
up n (Variables g a r) = Variables g a (r + 1)

abbrev pub at_end : Mode → Mode
at_end Body = Body
at_end (Results a r) = Body
at_end (Arguments g a e) = Variables g a 0
at_end (Variables g a r) = Body

abbrev pub ending : Mode → List Event
ending Body = []
ending (Results a r) = Headed a r ∷ []
ending (Arguments g a e) = []
ending (Variables g a r) = Called g a r ∷ []

-- where a scan stands after a token
abbrev pub after : Mode → Token → Mode
after m End = at_end m
after m (Word n) = up 0 m
after m (Var x) = up 0 m
after m (Load n) = up 1 m
after m Choice = up 3 m
after m (Binary o) = up 2 m
after m (Set x) = m
after m (Store n) = m
after m If = m
after m While = m
after m (Call g) = Arguments g 0 0
after m (From x d) = m
after m (To d) = m
after m (Header a v) = Results a 0

-- and the event that the token ends
abbrev pub gives : Mode → Token → List Event
gives m End = ending m
gives m (Word n) = []
gives m (Var x) = []
gives m (Load n) = []
gives m Choice = []
gives m (Binary o) = []
gives m (Set x) = []
gives m (Store n) = []
gives m If = []
gives m While = []
gives m (Call g) = []
gives m (From x d) = []
gives m (To d) = []
gives m (Header a v) = []

abbrev pub events : Mode → List Token → List Event
events m [] = []
events m (t ∷ ts) = gives m t ++ events (after m t) ts

abbrev pub Stepped : Mode → Token → ControlFlow Event Mode → Type 0
Stepped m t (Continue k) = (gives m t ≡ []) × (after m t ≡ k)
Stepped m t (Break e) = (gives m t ≡ e ∷ []) × (after m t ≡ Body)

-- counters that one more token can't overflow
abbrev pub Counted : Mode → Type 0
Counted Body = Unit {0}
Counted (Results a r) = r + 1 < 2 ^ 64
Counted (Arguments g a e) = (a + 1 < 2 ^ 64) × (e < 2 ^ 100)
Counted (Variables g a r) = r + 1 < 2 ^ 64

-- the event that comes first in the tokens of bytes; what is left is an end of the bytes, some of which it took
abbrev pub Evented : List ℕ → Option Event → List ℕ → Type 0
Evented bs None rest = (ts : List Token) → Lexes bs ts → events Body ts ≡ []
Evented bs (Some e) rest = Taken bs rest × ((ts : List Token) → Lexes bs ts → (us : List Token) × Lexes rest us × (events Body ts ≡ e ∷ events Body us))

-- the events of a tree, before others
abbrev mutual
  pub events_c : Cmd → List Event → List Event
  events_c (set x e) r = r
  events_c (store n d e) r = r
  events_c (if_then e cs ds) r = events_cs cs (events_cs ds r)
  events_c (while e cs) r = events_cs cs r
  events_c (call g es xs) r = Called (cap g) (length es) (length xs) ∷ r
  events_c (from_door x d) r = r
  events_c (to_door d e) r = r

  pub events_cs : Cmds → List Event → List Event
  events_cs none r = r
  events_cs (more c cs) r = events_c c (events_cs cs r)

abbrev pub events_p : Program → List Event
events_p [] = []
events_p (f ∷ fs) = Headed (cap f.arguments) (length f.results) ∷ events_cs f.body (events_p fs)

-- one for a function
abbrev pub opens_v : Event → ℕ
opens_v (Headed a r) = 1
opens_v (Called g a r) = 0

-- after so many functions have begun, of n: a call is of a later one, and of one that is there
abbrev pub later_v : ℕ → ℕ → Event → Bool
later_v n k (Headed a r) = true
later_v n k (Called g a r) = nat_le k g && nat_lt g n

abbrev pub later : ℕ → ℕ → List Event → Bool
later n k [] = true
later n k (v ∷ vs) = later_v n k v && later n (k + opens_v v) vs

abbrev pub Follows : List ℕ → ℕ → Option Unit → Type 0
Follows text n None = (p : Program) → read text ≡ program p → n ≡ length p → after_in 0 (length p) p ≡ false
Follows text n (Some u) = (p : Program) → read text ≡ program p → n ≡ length p → after_in 0 (length p) p ≡ true
