-- The walk from price to price: what its levels are, and what follows of them all.
use mathlib.Core.Path.{◌≡◌, refl, sym, ap, ap₂, ◌∙◌}
use mathlib.Core.Bool.{Bool, true, false, cond, ◌&&◌, ◌||◌, true≢false}
use mathlib.Core.List.{List, [], ◌∷◌}
use mathlib.Core.Logic.{◌⊎◌, inl, inr, ◌≢◌}
use Prim.Native.Nat.{ℕ, zero, suc, ◌+◌, ◌-◌, ◌≤◌, ◌<◌}
use native.Mathlib.Omega.{arith}
use borrow.Author.Tests.{leb-false, eqb-true, eqb-false, le-leb, lt-leb}
use lib.Dec.{leb, eqb}
use lib.ListN.{length}
use Rattle.board.specs.declared.Response.{Response}
use Rattle.base.specs.Lists.{Every, In}
use Rattle.trade.specs.declared.Deal.{Deal}
use Rattle.trade.specs.rules.Plan.{Plan, plan_of}
use Rattle.trade.specs.rules.Trade.{Level, contra, level_fills, traded, working, working_stop, top, entry, next, guarantee, offers_at, level_at, walk, size_here}
use Rattle.trade.specs.inside.Code.{match_of, last_of, want_of}
use Rattle.demand.specs.promises.Demands.{Absent, Distinct, plan_on}
use Rattle.trade.proofs.PlanLaws.{plan-is}
use Rattle.trade.proofs.Walk.{next-holds, next-above, next-top, next-least, next-some, walk_none, walk-some}
use Rattle.demand.proofs.Levels.{traded-final}

-- what an auction that ended has, over its live responses in any order
pub record Walkable (d : Deal) (rs : List Response) : Type 0 where
  pub bound-below : d.bound ≤ d.initiating
  pub stop-below : d.stop ≤ d.initiating
  pub parties : Every (λ o. 0 < o.sequence) rs
  pub distinct : Distinct rs
  pub market-apart : 0 < d.selling → (0 < d.market) × Absent d.market rs

-- ---- the range

pub top_below : (d : Deal) (rs : List Response) → Walkable d rs → top d ≤ d.initiating
unfolding top
top_below d rs s = go (eqb d.mode 1)
  where
    go : (b : Bool) → cond b (working_stop d) d.initiating ≤ d.initiating
    go true = omega arith
    go false = omega arith

pub top_above : (d : Deal) (rs : List Response) → Walkable d rs → d.bound ≤ top d
unfolding top
top_above d rs s = go (eqb d.mode 1)
  where
    go : (b : Bool) → d.bound ≤ cond b (working_stop d) d.initiating
    go true = omega arith
    go false = omega arith

pub stop-top : (d : Deal) (rs : List Response) → Walkable d rs → working_stop d ≤ top d
unfolding top
stop-top d rs s = go (eqb d.mode 1)
  where
    go : (b : Bool) → working_stop d ≤ cond b (working_stop d) d.initiating
    go true = omega arith
    go false = omega arith

pub entry-below : (d : Deal) (rs : List Response) → Walkable d rs → entry d ≤ top d
unfolding entry
entry-below d rs s = go (eqb d.mode 2)
  where
    go : (b : Bool) → cond b 0 (working_stop d) ≤ top d
    go true = omega arith
    go false = stop-top d rs s

-- ---- the next price

module _ (d : Deal) (from : ℕ) where
  pub next-bound : d.bound ≤ top d → (os : List Response) → d.bound ≤ next d from os
  next-bound h os = next-holds d from (λ n. d.bound ≤ n) (λ a b p q. omega arith) h (λ o p. omega arith) os

  pub next-high : (q : ℕ) → q ≤ top d → (os : List Response) → Every (λ o. q ≤ working d o) os → q ≤ next d from os
  unfolding next
  next-high q t [] a = t
  next-high q t (o ∷ os) a = omega (arith, go (leb from (working d o)), next-high q t os a.1)
    where
      go : (b : Bool) → q ≤ cond b (working d o) (top d)
      go true = a.0
      go false = t

-- ---- a level of the walk

pub record Good (d : Deal) (rs : List Response) (from left held : ℕ) (l : Level) : Type 0 where
  pub above : from ≤ l.price
  pub in-bound : d.bound ≤ l.price
  pub in_top : l.price ≤ top d
  pub least : (o : Response) → In o rs → from ≤ working d o → l.price ≤ working d o
  pub planned : plan_on l ≡ plan_of d.mode (working_stop d) d.initiating (guarantee d rs) l.price l.left l.held (size_here l)
  pub here-are : l.here ≡ offers_at d rs l.price
  pub left_is : l.left ≡ left
  pub left-some : 0 < left
  pub held-is : l.held ≡ held
  pub goes_on : l.final ≡ false → l.price < top d
  pub peopled : l.price < top d → 0 < length l.here
  pub final-want : l.final ≡ true → l.want ≡ guarantee d rs - held
  -- below the entry price the Contra Order takes no part
  pub below-entry : l.price < entry d → (l.want ≡ 0) × (l.final ≡ false)
  -- it takes no part here, or what is left covers the responses and what it matches, and more
  pub open-want : l.final ≡ false → ((l.price < entry d) × (l.want ≡ 0)) ⊎ (size_here l + l.want < left)

-- the levels of a walk from the price `from` on: it ends where nothing is left
abbrev pub Run : Deal → List Response → ℕ → ℕ → ℕ → List Level → Type 0
Run d rs from left held [] = left ≡ 0
Run d rs from left held (l ∷ ls) = Good d rs from left held l × Run d rs (l.price + 1) (left - traded (level_fills l)) (held + contra l) ls

module _ (d : Deal) (rs : List Response) (s : Walkable d rs) where
  -- the plan of its mode, and by numbers
  abbrev plan : ℕ → ℕ → ℕ → ℕ → Plan
  plan p left held A = plan_of d.mode (working_stop d) d.initiating (guarantee d rs) p left held A

  abbrev match : ℕ → ℕ → ℕ
  match held A = match_of d.mode (guarantee d rs) held A

  abbrev last : ℕ → ℕ → ℕ → ℕ → Bool
  last p left held A = last_of (entry d) (top d) p left (A + match held A)

  abbrev want : ℕ → ℕ → ℕ → ℕ → ℕ
  want p left held A = want_of (last p left held A) (entry d) p (guarantee d rs) held (match held A)

  module _ (p left held A : ℕ) (h : p ≤ top d) where
    last-is : last p left held A ≡ (plan p left held A).final
    last-is = ap (λ (q : Plan). q.final) (plan-is d (guarantee d rs) p left held A h)

    want_is : want p left held A ≡ (plan p left held A).want
    want_is = ap (λ (q : Plan). q.want) (plan-is d (guarantee d rs) p left held A h)

    final-top : (plan p left held A).final ≡ false → p < top d
    unfolding last_of
    final-top e = go (eqb p (top d)) refl
      where
        go : (b : Bool) → eqb p (top d) ≡ b → p < top d
        go true q =
            let t : p ≡ top d = eqb-true p (top d) q in
            let c : leb (entry d) p ≡ true = le-leb (entry d) p (omega (arith, entry-below d rs s)) in
            absurd (true≢false (sym (rw (c, q)) ∙ last-is ∙ e))
        go false q =
            let n : p ≢ top d = eqb-false p (top d) q in
            omega arith

    final-wants : (plan p left held A).final ≡ true → (plan p left held A).want ≡ guarantee d rs - held
    unfolding want_of
    final-wants e = sym want_is ∙ ap (λ b. cond b (guarantee d rs - held) (cond (leb (entry d) p) (match held A) 0)) (last-is ∙ e)

    below-wants : p < entry d → ((plan p left held A).want ≡ 0) × ((plan p left held A).final ≡ false)
    unfolding want_of last_of
    below-wants k = let e : leb (entry d) p ≡ false = lt-leb (entry d) p k in (sym want_is ∙ rw e, sym last-is ∙ rw e)

    open-wants : (plan p left held A).final ≡ false → ((p < entry d) × ((plan p left held A).want ≡ 0)) ⊎ (A + (plan p left held A).want < left)
    unfolding want_of last_of
    open-wants e = go (leb (entry d) p) refl
      where
        and-or : (b c : Bool) → (true && (b || c)) ≡ false → c ≡ false
        and-or true c e = absurd (true≢false e)
        and-or false c e = e

        go : (b : Bool) → leb (entry d) p ≡ b → ((p < entry d) × ((plan p left held A).want ≡ 0)) ⊎ (A + (plan p left held A).want < left)
        go true q =
            let f : leb left (A + match held A) ≡ false = and-or (eqb p (top d)) _ (ap (λ b. b && (eqb p (top d) || leb left (A + match held A))) (sym q) ∙ last-is ∙ e) in
            let w : (plan p left held A).want ≡ match held A = sym want_is ∙ ap₂ (λ (x y : Bool). cond x (guarantee d rs - held) (cond y (match held A) 0)) (last-is ∙ e) q in
            inr (omega (arith, leb-false left (A + match held A) f))
        go false q = inl (below-price, (below-wants below-price).0)
          where
            below-price : p < entry d
            below-price = leb-false (entry d) p q

  peopled-at : (from : ℕ) → next d from rs < top d → 0 < length (offers_at d rs (next d from rs))
  unfolding offers_at
  peopled-at from h = next-some d from rs h

  good : (from left held : ℕ) → from ≤ top d → 0 < left → Good d rs from left held (level_at d rs (next d from rs) left held)
  unfolding level_at
  good from left held h z =
      let p = next d from rs in
      record {
        above = next-above d from h rs;
        in-bound = next-bound d from (top_above d rs s) rs;
        in_top = next-top d from rs;
        least = next-least d from rs;
        planned = refl;
        here-are = refl;
        left_is = refl;
        left-some = z;
        held-is = refl;
        goes_on = final-top p left held _ (next-top d from rs);
        peopled = peopled-at from;
        final-want = final-wants p left held _ (next-top d from rs);
        below-entry = below-wants p left held _ (next-top d from rs);
        open-want = open-wants p left held _ (next-top d from rs);
      }

  ended : (n from left held : ℕ) → left ≡ 0 → Run d rs from left held (walk d rs n from left held)
  ended n from left held e = rw (walk_none d rs n from left held e) e

  -- the walk ends with nothing left: fuel for each price up to the last is enough
  pub runs : (n from left held : ℕ) → from ≤ top d → top d < from + n → Run d rs from left held (walk d rs n from left held)
  runs zero from left held h f = absurd (omega arith)
  runs (suc n) from left held h f = go (eqb left 0) refl (λ from left held a b. runs n from left held a b)
    where
      l : Level
      l = level_at d rs (next d from rs) left held

      rest_of : List Level
      rest_of = walk d rs n (l.price + 1) (left - traded (level_fills l)) (held + contra l)

      on : (c : Bool) → l.final ≡ c → Good d rs from left held l
          → ((from left held : ℕ) → from ≤ top d → top d < from + n → Run d rs from left held (walk d rs n from left held))
          → Run d rs (l.price + 1) (left - traded (level_fills l)) (held + contra l) rest_of
      on true c k r = ended n (l.price + 1) (left - traded (level_fills l)) (held + contra l) (omega (arith, traded-final l c, k.left_is))
      on false c k r = r (l.price + 1) (left - traded (level_fills l)) (held + contra l) (omega (arith, k.goes_on c)) (omega (arith, k.above))

      go : (b : Bool) → eqb left 0 ≡ b
          → ((from left held : ℕ) → from ≤ top d → top d < from + n → Run d rs from left held (walk d rs n from left held))
          → Run d rs from left held (walk d rs (suc n) from left held)
      go true e r = ended (suc n) from left held (eqb-true left 0 e)
      go false e r =
          let z : left ≢ 0 = eqb-false left 0 e in
          let k : Good d rs from left held l = good from left held h (omega arith) in
          rw (walk-some d rs n from left held (omega arith) h) (k, on l.final refl k r)
