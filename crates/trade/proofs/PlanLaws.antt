-- The plan of a price by numbers is that of its mode.
use mathlib.Core.Path.{◌≡◌, refl, ap, ap₂, ◌∙◌}
use mathlib.Core.Bool.{Bool, true, false, cond, not, ◌&&◌, ◌||◌, or-true}
use mathlib.Core.Logic.{◌≢◌}
use Prim.Native.Nat.{ℕ, ◌+◌, ◌-◌, ◌≤◌, ◌<◌}
use native.Mathlib.Omega.{arith}
use borrow.Author.Tests.{leb-true, ltb-true, ltb-false, eqb-true, eqb-false, eq-eqb, ne_eqb, le-leb, lt-leb}
use lib.Dec.{leb, ltb, eqb}
use Rattle.trade.specs.declared.Deal.{Deal}
use Rattle.trade.specs.rules.Plan.{Plan, go_on, clean_up, mode1, mode2, mode3, plan_of}
use Rattle.trade.specs.rules.Trade.{working_stop, top, entry}
use Rattle.trade.specs.inside.Code.{match_of, last_of, want_of, plan_by}

-- E: the price from which on the Contra Order takes part; T: the last price; m: what the Contra Order matches
module _ (E T G p left held A m : ℕ) where
  abbrev plan : Plan
  plan = record { want = want_of (last_of E T p left (A + m)) E p G held m; final = last_of E T p left (A + m) }

  plan-of : (w : ℕ) (b : Bool) → plan.want ≡ w → plan.final ≡ b → plan ≡ record { want = w; final = b }
  plan-of w b e f i = record { want = e i; final = f i }

  below : p < E → plan ≡ go_on 0
  unfolding want_of last_of
  below h = let e : leb E p ≡ false = lt-leb E p h in plan-of 0 false (rw e) (rw e)

  -- a price that is filled and matched
  open-one : E ≤ p → p ≢ T → A + m < left → plan ≡ go_on m
  unfolding want_of last_of
  open-one h n k =
      let e : leb E p ≡ true = le-leb E p h in
      let f : eqb p T ≡ false = ne_eqb p T n in
      let g : leb left (A + m) ≡ false = lt-leb left (A + m) k in
      plan-of m false (rw (e, f, g)) (rw (e, f, g))

  -- the clean-up price
  last_one : E ≤ p → p ≡ T → plan ≡ clean_up (G - held)
  unfolding want_of last_of
  last_one h n =
      let e : leb E p ≡ true = le-leb E p h in
      let f : eqb p T ≡ true = eq-eqb p T n in
      plan-of (G - held) true (rw (e, f)) (rw (e, f))

  used-up : E ≤ p → left ≤ A + m → plan ≡ clean_up (G - held)
  unfolding want_of last_of
  used-up h k =
      let e : leb E p ≡ true = le-leb E p h in
      let g : leb left (A + m) ≡ true = le-leb left (A + m) k in
      plan-of (G - held) true (rw (e, g) (go (eqb p T))) (rw (e, g) (or-true (eqb p T)))
    where
      go : (b : Bool) → cond (b || true) (G - held) m ≡ G - held
      go true = refl
      go false = refl

  -- from its entry price on the Contra Order matches m, or the price is clean-up
  matched : E ≤ p → plan ≡ cond (ltb (A + m) left && not (eqb p T)) (go_on m) (clean_up (G - held))
  matched h = go (ltb (A + m) left) (eqb p T) refl refl
    where
      go : (b c : Bool) → ltb (A + m) left ≡ b → eqb p T ≡ c → plan ≡ cond (b && not c) (go_on m) (clean_up (G - held))
      go true true f g = last_one h (eqb-true p T g)
      go true false f g = open-one h (eqb-false p T g) (ltb-true (A + m) left f)
      go false c f g = used-up h (ltb-false (A + m) left f)

module _ (G p left held A : ℕ) where
  -- at and below the stop
  one : (stop m : ℕ) → p ≤ stop → plan stop stop G p left held A m ≡ mode1 stop G p held
  unfolding mode1
  one stop m h = go (ltb p stop) refl
    where
      go : (b : Bool) → ltb p stop ≡ b → plan stop stop G p left held A m ≡ cond b (go_on 0) (clean_up (G - held))
      go true e = below stop stop G p left held A m (ltb-true p stop e)
      go false e =
          let k : stop ≤ p = ltb-false p stop e in
          last_one stop stop G p left held A m k (omega arith)

  -- from the price on from which the Contra Order matches
  two : (E initiating : ℕ) → E ≤ p → plan E initiating G p left held A A ≡ mode2 initiating G p left held A
  unfolding mode2
  two E initiating h =
      matched E initiating G p left held A A h ∙ ap (λ (n : ℕ). cond (ltb n left && not (eqb p initiating)) (go_on A) (clean_up (G - held))) (omega arith)

  three : (limit initiating : ℕ) → plan limit initiating G p left held A (cond (leb G held) 0 A) ≡ mode3 limit initiating G p left held A
  unfolding mode3
  three limit initiating = go (ltb p limit) (leb G held) refl refl
    where
      go : (b c : Bool) → ltb p limit ≡ b → leb G held ≡ c
          → plan limit initiating G p left held A (cond c 0 A)
          ≡ cond b (go_on 0) (cond c (cond (ltb A left && not (eqb p initiating)) (go_on 0) (clean_up 0)) (mode2 initiating G p left held A))
      go true c e f = below limit initiating G p left held A (cond c 0 A) (ltb-true p limit e)
      go false true e f =
          let z : G - held ≡ 0 = omega (arith, leb-true G held f) in
          matched limit initiating G p left held A 0 (ltb-false p limit e)
          ∙ ap₂ (λ (n k : ℕ). cond (ltb n left && not (eqb p initiating)) (go_on 0) (clean_up k)) (omega arith) z
      go false false e f = two limit initiating (ltb-false p limit e)

-- wherever the walk goes
pub plan-is : (d : Deal) (G p left held A : ℕ) → p ≤ top d → plan_by d.mode (entry d) (top d) G p left held A ≡ plan_of d.mode (working_stop d) d.initiating G p left held A
unfolding entry top match_of
plan-is d G p left held A h = go (eqb d.mode 1) (eqb d.mode 2) refl refl h
  where
    go : (x y : Bool) → eqb d.mode 1 ≡ x → eqb d.mode 2 ≡ y → p ≤ cond x (working_stop d) d.initiating
        → plan (cond y 0 (working_stop d)) (cond x (working_stop d) d.initiating) G p left held A (cond y A (cond (leb G held) 0 A))
        ≡ cond x (mode1 (working_stop d) G p held) (cond y (mode2 d.initiating G p left held A) (mode3 (working_stop d) d.initiating G p left held A))
    go true true e f k = absurd (omega (arith, eqb-true d.mode 1 e, eqb-true d.mode 2 f))
    go true false e f k = one G p left held A (working_stop d) (cond (leb G held) 0 A) k
    go false true e f k = two G p left held A 0 d.initiating (omega arith)
    go false false e f k = three G p left held A (working_stop d) d.initiating
