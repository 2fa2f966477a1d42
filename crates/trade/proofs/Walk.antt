-- The walk from price to price, a step at a time: for any deal.
use mathlib.Core.Path.{◌≡◌, refl, sym, ◌∙◌, subst}
use mathlib.Core.Bool.{Bool, true, false, cond, or-true}
use mathlib.Core.List.{List, [], ◌∷◌}
use mathlib.Core.Logic.{inl, inr}
use Prim.Native.Nat.{ℕ, zero, suc, ◌+◌, ◌-◌, ◌≤◌, ◌<◌, min}
use native.Mathlib.Omega.{arith}
use borrow.Author.Tests.{leb-true, leb-false, eq-eqb, ne_eqb, le-leb, lt-ltb, le-ltb}
use lib.Dec.{leb, eqb}
use lib.ListN.{length}
use Rattle.board.specs.declared.Response.{Response}
use Rattle.base.specs.Lists.{keep, filter, In}
use Rattle.trade.specs.declared.Deal.{Deal}
use Rattle.trade.specs.rules.Trade.{contra, level_fills, traded, working, top, next, level_at, walk}

-- ---- the next price

-- how many responses work at a price
abbrev pub count_at : Deal → ℕ → List Response → ℕ
count_at d p os = length (filter (λ o. eqb (working d o) p) os)

module _ (d : Deal) (from : ℕ) where
  step : Response → ℕ
  step o = cond (leb from (working d o)) (working d o) (top d)

  -- whatever holds of the last price and of each working price from `from` on
  pub next-holds : (P : ℕ → Type 0) → ((a b : ℕ) → P a → P b → P (min a b)) → P (top d) → ((o : Response) → from ≤ working d o → P (working d o)) → (os : List Response) → P (next d from os)
  unfolding next
  next-holds P m t f [] = t
  next-holds P m t f (o ∷ os) = m _ _ (go (leb from (working d o)) refl) (next-holds P m t f os)
    where
      go : (b : Bool) → leb from (working d o) ≡ b → P (cond b (working d o) (top d))
      go true e = f o (leb-true from (working d o) e)
      go false e = t

  pub next-above : from ≤ top d → (os : List Response) → from ≤ next d from os
  next-above h os = next-holds (λ n. from ≤ n) (λ a b p q. omega arith) h (λ o p. p) os

  pub next-top : (os : List Response) → next d from os ≤ top d
  unfolding next
  next-top [] = omega arith
  next-top (o ∷ os) = omega (arith, next-top os)

  pub next-least : (os : List Response) (o : Response) → In o os → from ≤ working d o → next d from os ≤ working d o
  unfolding next
  next-least [] o m h = absurd m
  next-least (x ∷ xs) o (inl e) h =
      let f : from ≤ working d x = subst (λ y. from ≤ working d y) e h in
      let c : next d from (x ∷ xs) ≤ working d x = rw (le-leb from (working d x) f) (omega arith) in
      subst (λ y. next d from (x ∷ xs) ≤ working d y) (sym e) c
  next-least (x ∷ xs) o (inr m) h = omega (arith, next-least xs o m h)

  -- a price below the last is a response's
  pub next-some : (os : List Response) → next d from os < top d → 0 < length (filter (λ o. eqb (working d o) (next d from os)) os)
  unfolding next step filter
  next-some [] h = absurd (omega arith)
  next-some (o ∷ os) h = go (leb (step o) (next d from os)) refl (next-some os)
    where
      more : (p : ℕ) → 0 < count_at d p os → 0 < count_at d p (o ∷ os)
      more p z = put-more (eqb (working d o) p)
        where
          put-more : (b : Bool) → 0 < length (keep b o (filter (λ x. eqb (working d x) p) os))
          put-more true = omega arith
          put-more false = z

      own : (b : Bool) → leb from (working d o) ≡ b → step o < top d → step o ≡ working d o
      own true e z = rw e
      own false e z = absurd (omega (arith, rw e at z))

      first_one : (p : ℕ) → working d o ≡ p → 0 < count_at d p (o ∷ os)
      first_one p e = rw (eq-eqb (working d o) p e) (omega arith)

      go : (b : Bool) → leb (step o) (next d from os) ≡ b → (next d from os < top d → 0 < count_at d (next d from os) os) → 0 < count_at d (next d from (o ∷ os)) (o ∷ os)
      go true e ih =
          let t : step o ≤ next d from os = leb-true (step o) (next d from os) e in
          let p : next d from (o ∷ os) ≡ step o = omega arith in
          let w : step o ≡ working d o = own (leb from (working d o)) refl (omega arith) in
          first_one (next d from (o ∷ os)) (sym (p ∙ w))
      go false e ih =
          let t : next d from os < step o = leb-false (step o) (next d from os) e in
          let p : next d from (o ∷ os) ≡ next d from os = omega arith in
          subst (λ n. 0 < count_at d n (o ∷ os)) (sym p) (more (next d from os) (ih (omega arith)))

-- ---- a step
module _ (d : Deal) (rs : List Response) where
  pub walk-zero : (from left held : ℕ) → walk d rs 0 from left held ≡ []
  unfolding walk
  walk-zero from left held = refl

  pub walk_none : (n from left held : ℕ) → left ≡ 0 → walk d rs n from left held ≡ []
  unfolding walk
  walk_none zero from left held e = refl
  walk_none (suc n) from left held e = rw (eq-eqb left 0 e, walk)

  pub walk-past : (n from left held : ℕ) → top d < from → walk d rs n from left held ≡ []
  unfolding walk
  walk-past zero from left held e = refl
  walk-past (suc n) from left held e = rw (lt-ltb (top d) from e, or-true (eqb left 0), walk)

  pub walk-some : (n from left held : ℕ) → 0 < left → from ≤ top d
      → walk d rs (suc n) from left held
      ≡ level_at d rs (next d from rs) left held
      ∷ walk d rs n ((level_at d rs (next d from rs) left held).price + 1) (left - traded (level_fills (level_at d rs (next d from rs) left held))) (held + contra (level_at d rs (next d from rs) left held))
  unfolding walk
  walk-some n from left held z h = rw (ne_eqb left 0 (omega arith), le-ltb (top d) from h, walk)

-- a level has the price that it is at
pub price-at : (d : Deal) (rs : List Response) (p left held : ℕ) → (level_at d rs p left held).price ≡ p
unfolding level_at
price-at d rs p left held = refl
