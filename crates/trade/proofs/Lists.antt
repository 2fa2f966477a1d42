-- What fills add up to.
use mathlib.Core.Path.{◌≡◌, refl}
use mathlib.Core.Bool.{Bool, true, false, not}
use mathlib.Core.List.{List, [], ◌∷◌, ◌++◌}
use Prim.Native.Nat.{ℕ, ◌+◌}
use native.Mathlib.Omega.{arith}
use borrow.Author.Tests.{ltb-false}
use lib.Dec.{ltb}
use lib.ListN.{length}
use Rattle.board.specs.declared.Response.{Response}
use Rattle.base.specs.Lists.{keep, filter, sum}
use Rattle.share.specs.rules.Fills.{Fill, fill_of, fills_by, sizes}
use Rattle.trade.specs.rules.Trade.{from_customer, from_other, traded}

-- Customers and others together are all
pub sizes-split : (os : List Response) → sum (sizes (filter from_customer os)) + sum (sizes (filter from_other os)) ≡ sum (sizes os)
unfolding filter sum
sizes-split [] = refl
sizes-split (o ∷ os) = go o.customer (sizes-split os)
  where
    go : (b : Bool) → sum (sizes (filter from_customer os)) + sum (sizes (filter from_other os)) ≡ sum (sizes os)
        → sum (sizes (keep b o (filter from_customer os))) + sum (sizes (keep (not b) o (filter from_other os))) ≡ o.size + sum (sizes os)
    go true h = omega arith
    go false h = omega arith

pub total-append : (fs gs : List Fill) → traded (fs ++ gs) ≡ traded fs + traded gs
total-append [] gs = omega arith
total-append (f ∷ fs) gs = omega (arith, total-append fs gs)

pub total-fill : (k p q : ℕ) → traded (fill_of k p q) ≡ q
total-fill k p q = go (ltb 0 q) refl
  where
    go : (b : Bool) → ltb 0 q ≡ b → traded (keep b (record { party = k; price = p; quantity = q }) []) ≡ q
    go true e = omega arith
    go false e = omega (arith, ltb-false 0 q e)

pub total-by : (p : ℕ) (os : List Response) (qs : List ℕ) → length qs ≡ length (sizes os) → traded (fills_by p os qs) ≡ sum qs
unfolding sum
total-by p [] [] e = refl
total-by p [] (q ∷ qs) e = let f : ⊥ = omega arith in absurd f
total-by p (o ∷ os) [] e = let f : ⊥ = omega arith in absurd f
total-by p (o ∷ os) (q ∷ qs) e =
    omega (arith, total-append (fill_of o.sequence p q) (fills_by p os qs), total-fill o.sequence p q, total-by p os qs (omega arith))
