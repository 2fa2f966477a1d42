-- The market order's price.
use mathlib.Core.Path.{◌≡◌, refl, ap}
use mathlib.Core.Bool.{Bool, true, false, cond}
use mathlib.Core.List.{List, [], ◌∷◌}
use mathlib.Core.Logic.{◌≢◌}
use Prim.Native.Nat.{ℕ, ◌+◌, ◌/◌, ◌≤◌, ◌<◌, min}
use native.Mathlib.Omega.{arith}
use borrow.Author.Tests.{eqb-true, eqb-false}
use lib.Dec.{eqb}
use lib.ListN.{length}
use Rattle.board.specs.declared.Response.{Response}
use Rattle.base.specs.Lists.{Every, In}
use Rattle.trade.specs.declared.Deal.{Deal}
use Rattle.trade.specs.rules.Trade.{working, working_stop, top, next, market_price}
use Rattle.base.proofs.ListLaws.{every_map}
use Rattle.demand.proofs.Walk.{Walkable, top_above, stop-top, next-bound, next-high}
use Rattle.trade.proofs.Walk.{next-top, next-least}

module _ (d : Deal) (rs : List Response) where
  -- its three cases
  by_mode : (P : ℕ → Type 0) → (d.mode ≡ 2 → length rs ≡ 0 → P ((d.initiating + d.bound + 1) / 2)) → (d.mode ≡ 2 → 0 < length rs → P (next d 0 rs))
      → (d.mode ≢ 2 → P (min (next d 0 rs) (working_stop d))) → P (market_price d rs)
  unfolding market_price
  by_mode P f g h = go (eqb d.mode 2) (eqb (length rs) 0) refl refl
    where
      go : (b c : Bool) → eqb d.mode 2 ≡ b → eqb (length rs) 0 ≡ c → P (cond b (cond c ((d.initiating + d.bound + 1) / 2) (next d 0 rs)) (min (next d 0 rs) (working_stop d)))
      go true true e k = f (eqb-true d.mode 2 e) (eqb-true (length rs) 0 k)
      go true false e k = let z : length rs ≢ 0 = eqb-false (length rs) 0 k in g (eqb-true d.mode 2 e) (omega arith)
      go false c e k = h (eqb-false d.mode 2 e)

  some_in : (o : Response) → In o rs → 0 < length rs
  some_in o m = go rs m
    where
      go : (os : List Response) → In o os → 0 < length os
      go [] n = absurd n
      go (x ∷ xs) n = omega arith

  top-two : d.mode ≡ 2 → top d ≡ d.initiating
  unfolding top
  top-two m = ap (λ (n : ℕ). cond (eqb n 1) (working_stop d) d.initiating) m

  -- the least price of the walk is the lowest working price, but at most the last price
  next-is : (o : Response) → In o rs → Every (λ x. working d o ≤ working d x) rs → next d 0 rs ≡ min (working d o) (top d)
  next-is o m a =
      let b : min (working d o) (top d) ≤ next d 0 rs =
      next-high d 0 (min (working d o) (top d)) (omega arith) rs (every_map (λ x. working d o ≤ working d x) (λ x. min (working d o) (top d) ≤ working d x) rs (λ x h. omega arith) a) in
      omega (arith, next-top d 0 rs, next-least d 0 rs o m (omega arith))

  module _ (s : Walkable d rs) where
    -- it lies in the range, and not above the last price
    pub market-bound : d.bound ≤ market_price d rs
    market-bound =
        by_mode (λ p. d.bound ≤ p) (λ m e. omega (arith, s.bound-below)) (λ m e. next-bound d 0 (top_above d rs s) rs) (λ m. omega (arith, next-bound d 0 (top_above d rs s) rs))

    pub market-top : market_price d rs ≤ top d
    market-top = by_mode (λ p. p ≤ top d) (λ m e. omega (arith, s.bound-below, top-two m)) (λ m e. next-top d 0 rs) (λ m. omega (arith, next-top d 0 rs))

    -- no response works below it
    pub market-least : (o : Response) → In o rs → market_price d rs ≤ working d o
    market-least o n =
        let low : next d 0 rs ≤ working d o = next-least d 0 rs o n (omega arith) in
        by_mode (λ p. p ≤ working d o) (λ m e. absurd (omega (arith, some_in o n))) (λ m e. low) (λ m. omega arith)

    -- ---- as document 01 has it

    pub price-matched : d.mode ≡ 2 → (o : Response) → In o rs → working d o ≤ d.initiating → Every (λ x. working d o ≤ working d x) rs → market_price d rs ≡ working d o
    price-matched m o n h a =
        by_mode (λ p. p ≡ working d o) (λ _ e. absurd (omega (arith, some_in o n))) (λ _ e. omega (arith, next-is o n a, top-two m)) (λ z. absurd (z m))

    pub price-midpoint : d.mode ≡ 2 → length rs ≡ 0 → market_price d rs ≡ (d.initiating + d.bound + 1) / 2
    price-midpoint m e = by_mode (λ p. p ≡ (d.initiating + d.bound + 1) / 2) (λ _ _. refl) (λ _ z. absurd (omega arith)) (λ z. absurd (z m))

    pub price-lower : d.mode ≢ 2 → (o : Response) → In o rs → Every (λ x. working d o ≤ working d x) rs → market_price d rs ≡ min (working d o) (working_stop d)
    price-lower m o n a = by_mode (λ p. p ≡ min (working d o) (working_stop d)) (λ z _. absurd (m z)) (λ z _. absurd (m z)) (λ _. omega (arith, next-is o n a, stop-top d rs s))

    pub price-alone : d.mode ≢ 2 → rs ≡ [] → market_price d rs ≡ working_stop d
    unfolding next
    price-alone m e =
        let t : next d 0 rs ≡ top d = ap (next d 0) e in
        by_mode (λ p. p ≡ working_stop d) (λ z _. absurd (m z)) (λ z _. absurd (m z)) (λ _. omega (arith, stop-top d rs s))
