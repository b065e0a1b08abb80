-- Depth, over the tokens of a program, and counters of levels in an array.
use Rattle.std.proofs.Common.{◌≡◌, ℕ, suc, ◌-◌, Bool, ◌&&◌, ltb, List, [], ◌∷◌, length, Option, is_some, sym, refl, ap, ◌∙◌, inl, inr, arith}
use Rattle.std.proofs.lemmas.Bool.{lt-ltb, le-ltb, cases_lt}
use Rattle.model.specs.Source.{Expr, word, var, load, op, if_not_zero, Cmd, set, store, if_then, while, call, from_door, to_door, Cmds, none, more, Program}
use Rattle.model.specs.Promise.{deep_e, deep_es, deep_c, deep_cs, all_deep}
use Rattle.format.specs.declared.token.Token.{Token}
use Rattle.format.specs.Tokens.{tokens_e, tokens_es, tokens_v, tokens_c, tokens_cs, tokens}
use Rattle.refusals.specs.Depth.{done, ended, deep_ts}
use Rattle.refusals.specs.Tests.{told}
use Rattle.refusals.proofs.Capped.{both, three}

-- room for one more level
room : (n : ℕ) → ltb n 32 ≡ ltb 0 (32 - n)
room n = elim (cases_lt n 32) [ inl l ↦ lt-ltb n 32 l ∙ sym (lt-ltb 0 (32 - n) (omega arith)) | inr g ↦ le-ltb n 32 g ∙ sym (le-ltb 0 (32 - n) (omega arith)) ]

less_room : (n : ℕ) → 32 - suc n ≡ 32 - n - 1
less_room n = omega arith

deeps_e : (e : Expr) (es rs : List ℕ) (l : ℕ) (ts : List Token) → deep_ts es rs l (tokens_e e ts) ≡ (deep_e e (32 - length es) && deep_ts (done es) rs l ts)
unfolding deep_ts deep_e
deeps_e (word n) es rs l ts = refl
deeps_e (var x) es rs l ts = refl
deeps_e (load n e) es rs l ts =
    let k : ℕ = 32 - length es - 1 in
    let z : Bool = deep_ts (done es) rs l ts in
    both (ltb 0 (32 - length es)) (deep_e e k) z (λ i. room (length es) i && deep_ts (1 ∷ es) rs l (tokens_e e ts)) (deeps_e e (1 ∷ es) rs l ts ∙ (λ i. deep_e e (less_room (length es) i) && z))
deeps_e (op o d e) es rs l ts =
    let k : ℕ = 32 - length es - 1 in
    let z : Bool = deep_ts (done es) rs l ts in
    three (ltb 0 (32 - length es)) (deep_e d k) (deep_e e k) z (λ i. room (length es) i && deep_ts (2 ∷ es) rs l (tokens_e d (tokens_e e ts)))
    (deeps_e d (2 ∷ es) rs l (tokens_e e ts) ∙ (λ i. deep_e d (less_room (length es) i) && deep_ts (1 ∷ es) rs l (tokens_e e ts))) (deeps_e e (1 ∷ es) rs l ts ∙ (λ i. deep_e e (less_room (length es) i) && z))
deeps_e (if_not_zero c d e) es rs l ts =
    let k : ℕ = 32 - length es - 1 in
    let z : Bool = deep_ts (done es) rs l ts in
    both (ltb 0 (32 - length es)) (deep_e c k && (deep_e d k && deep_e e k)) z (λ i. room (length es) i && deep_ts (3 ∷ es) rs l (tokens_e c (tokens_e d (tokens_e e ts))))
    (three (deep_e c k) (deep_e d k) (deep_e e k) z (deeps_e c (3 ∷ es) rs l (tokens_e d (tokens_e e ts)) ∙ (λ i. deep_e c (less_room (length es) i) && deep_ts (2 ∷ es) rs l (tokens_e d (tokens_e e ts))))
    (deeps_e d (2 ∷ es) rs l (tokens_e e ts) ∙ (λ i. deep_e d (less_room (length es) i) && deep_ts (1 ∷ es) rs l (tokens_e e ts))) (deeps_e e (1 ∷ es) rs l ts ∙ (λ i. deep_e e (less_room (length es) i) && z)))

deeps_es : (fs : List Expr) (rs : List ℕ) (l : ℕ) (ts : List Token) → deep_ts [] rs (suc l) (tokens_es fs ts) ≡ (deep_es fs && deep_ts [] rs l ts)
unfolding deep_ts deep_es
deeps_es [] rs l ts = refl
deeps_es (e ∷ fs) rs l ts = both (deep_e e 32) (deep_es fs) (deep_ts [] rs l ts) (deeps_e e [] rs (suc l) (tokens_es fs ts)) (deeps_es fs rs l ts)

deeps_v : (xs : List ℕ) (rs : List ℕ) (l : ℕ) (ts : List Token) → deep_ts [] rs (suc l) (tokens_v xs ts) ≡ deep_ts [] rs l ts
unfolding deep_ts
deeps_v [] rs l ts = refl
deeps_v (x ∷ xs) rs l ts = deeps_v xs rs l ts

mutual
  unfolding deep_ts deep_c deep_cs

  deeps_c : (c : Cmd) (rs : List ℕ) (ts : List Token) → deep_ts [] rs 0 (tokens_c c ts) ≡ (deep_c c (32 - length rs) && deep_ts [] rs 0 ts)
  deeps_c (set x e) rs ts = deeps_e e [] rs 0 ts
  deeps_c (store n d e) rs ts = both (deep_e d 32) (deep_e e 32) (deep_ts [] rs 0 ts) (deeps_e d [] rs 0 (tokens_e e ts)) (deeps_e e [] rs 0 ts)
  deeps_c (if_then e cs ds) rs ts =
      let k : ℕ = 32 - length rs - 1 in
      let z : Bool = deep_ts [] rs 0 ts in
      both (ltb 0 (32 - length rs)) (deep_e e 32 && (deep_cs cs k && deep_cs ds k)) z (λ i. room (length rs) i && deep_ts [] (2 ∷ rs) 0 (tokens_e e (tokens_cs cs (tokens_cs ds ts))))
      (three (deep_e e 32) (deep_cs cs k) (deep_cs ds k) z (deeps_e e [] (2 ∷ rs) 0 (tokens_cs cs (tokens_cs ds ts)))
      (deeps_cs cs (2 ∷ rs) (tokens_cs ds ts) ∙ (λ i. deep_cs cs (less_room (length rs) i) && deep_ts [] (1 ∷ rs) 0 (tokens_cs ds ts))) (deeps_cs ds (1 ∷ rs) ts ∙ (λ i. deep_cs ds (less_room (length rs) i) && z)))
  deeps_c (while e cs) rs ts =
      let k : ℕ = 32 - length rs - 1 in
      let z : Bool = deep_ts [] rs 0 ts in
      three (ltb 0 (32 - length rs)) (deep_e e 32) (deep_cs cs k) z (λ i. room (length rs) i && deep_ts [] (1 ∷ rs) 0 (tokens_e e (tokens_cs cs ts))) (deeps_e e [] (1 ∷ rs) 0 (tokens_cs cs ts))
      (deeps_cs cs (1 ∷ rs) ts ∙ (λ i. deep_cs cs (less_room (length rs) i) && z))
  deeps_c (call g es xs) rs ts = deeps_es es rs 1 (tokens_v xs ts) ∙ ap (λ (b : Bool). deep_es es && b) (deeps_v xs rs 0 ts)
  deeps_c (from_door x d) rs ts = refl
  deeps_c (to_door d e) rs ts = deeps_e e [] rs 0 ts

  deeps_cs : (cs : Cmds) (rs : List ℕ) (ts : List Token) → deep_ts [] rs 0 (tokens_cs cs ts) ≡ (deep_cs cs (32 - length rs) && deep_ts [] (ended rs) 0 ts)
  deeps_cs none rs ts = refl
  deeps_cs (more c cs) rs ts = both (deep_c c (32 - length rs)) (deep_cs cs (32 - length rs)) (deep_ts [] (ended rs) 0 ts) (deeps_c c rs (tokens_cs cs ts)) (deeps_cs cs rs ts)

pub deeps_p : (p : Program) → deep_ts [] [] 0 (tokens p) ≡ all_deep p
unfolding deep_ts all_deep
deeps_p [] = refl
deeps_p (f ∷ fs) =
    deeps_v f.results [] 0 (tokens_cs f.body (tokens fs)) ∙ deeps_cs f.body [] (tokens fs) ∙ ap (λ (b : Bool). deep_cs f.body 32 && b) (deeps_p fs)

pub within : (p : Program) (r : Option Unit) → r ≡ told (deep_ts [] [] 0 (tokens p)) tt → is_some r ≡ all_deep p
within p r e = grind (arith, deeps_p p)
