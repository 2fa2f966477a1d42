-- How many fills there are: at most 130.
use mathlib.Core.Path.{◌≡◌, refl, ap}
use mathlib.Core.Bool.{Bool, true, false, not}
use mathlib.Core.List.{List, [], ◌∷◌, ◌++◌}
use mathlib.Core.Logic.{◌≢◌}
use Prim.Native.Nat.{ℕ, zero, suc, ◌+◌, ◌-◌, ◌*◌, ◌≤◌, ◌<◌}
use native.Mathlib.Omega.{arith}
use borrow.Author.Tests.{leb-true, leb-false, eqb-true, eqb-false}
use lib.Dec.{leb, ltb, eqb}
use lib.ListN.{length, length-append}
use Rattle.board.specs.declared.Response.{Response}
use Rattle.base.proofs.ListLaws.{filter-length}
use Rattle.base.specs.Lists.{keep, filter}
use Rattle.share.specs.rules.Share.{in_turn}
use Rattle.share.specs.rules.Fills.{Fill, fill_of, fills_by, sizes}
use Rattle.trade.specs.declared.Deal.{Deal}
use Rattle.trade.specs.rules.Trade.{from_customer, from_other, Level, customers, others, given, contra, level_fills, traded, flat, working, top, next, offers_at, level_at, walk, market_price, market_takes, market_fill, levels, fills}
use Rattle.trade.proofs.Walk.{next-some, next-above, walk-zero, walk_none, walk-past, walk-some, price-at}

keep-split : (os : List Response) → length (filter from_customer os) + length (filter from_other os) ≡ length os
unfolding filter
keep-split [] = refl
keep-split (o ∷ os) = go o.customer (keep-split os)
  where
    go : (b : Bool) → length (filter from_customer os) + length (filter from_other os) ≡ length os
        → length (keep b o (filter from_customer os)) + length (keep (not b) o (filter from_other os)) ≡ suc (length os)
    go true h = omega arith
    go false h = omega arith

pub length-fill : (k p q : ℕ) → length (fill_of k p q) ≤ 1
length-fill k p q = go (ltb 0 q)
  where
    go : (b : Bool) → length {A = Fill} (keep b (record { party = k; price = p; quantity = q }) []) ≤ 1
    go true = omega arith
    go false = omega arith

length-by : (p : ℕ) (os : List Response) (qs : List ℕ) → length (fills_by p os qs) ≤ length os
length-by p [] qs = omega arith
length-by p (o ∷ os) [] = omega arith
length-by p (o ∷ os) (q ∷ qs) = omega (arith, length-append (fill_of o.sequence p q) (fills_by p os qs), length-fill o.sequence p q, length-by p os qs)

pub length-level : (l : Level) → length (level_fills l) ≤ length l.here + 1
unfolding level_fills
length-level l =
    let a = fills_by l.price (customers l) (in_turn l.left (sizes (customers l))) in
    let b = fill_of 0 l.price (contra l) in
    let c = fills_by l.price (others l) (given l) in
    omega (
      arith,
      length-append a (b ++ c),
      length-append b c,
      length-by l.price (customers l) (in_turn l.left (sizes (customers l))),
      length-fill 0 l.price (contra l),
      length-by l.price (others l) (given l),
      keep-split l.here,
    )

-- the responses that work from a price on
pub from_on : Deal → List Response → ℕ → ℕ
from_on d rs from = length (filter (λ o. leb from (working d o)) rs)

pub from-short : (d : Deal) (rs : List Response) (from : ℕ) → from_on d rs from ≤ length rs
unfolding from_on
from-short d rs from = filter-length (λ o. leb from (working d o)) rs

-- those at p, and those after it
at-and-after : (d : Deal) (from p : ℕ) → from ≤ p → (os : List Response)
    → length (filter (λ o. eqb (working d o) p) os) + length (filter (λ o. leb (p + 1) (working d o)) os) ≤ length (filter (λ o. leb from (working d o)) os)
unfolding filter
at-and-after d from p h [] = omega arith
at-and-after d from p h (o ∷ os) =
    go (eqb (working d o) p) (leb (p + 1) (working d o)) (leb from (working d o)) refl refl refl (at-and-after d from p h os)
  where
    a : List Response
    a = filter (λ o. eqb (working d o) p) os

    b : List Response
    b = filter (λ o. leb (p + 1) (working d o)) os

    c : List Response
    c = filter (λ o. leb from (working d o)) os

    go : (x y z : Bool) → eqb (working d o) p ≡ x → leb (p + 1) (working d o) ≡ y → leb from (working d o) ≡ z → length a + length b ≤ length c
        → length (keep x o a) + length (keep y o b) ≤ length (keep z o c)
    go true true z e f g i = absurd (omega (arith, eqb-true (working d o) p e, leb-true (p + 1) (working d o) f))
    go true false true e f g i = omega arith
    go true false false e f g i = absurd (omega (arith, eqb-true (working d o) p e, leb-false from (working d o) g))
    go false true true e f g i = omega arith
    go false true false e f g i = absurd (omega (arith, leb-true (p + 1) (working d o) f, leb-false from (working d o) g))
    go false false true e f g i = omega arith
    go false false false e f g i = i

module _ (d : Deal) (rs : List Response) where
  here-and-after : (from p left held : ℕ) → from ≤ p → length (level_at d rs p left held).here + from_on d rs (p + 1) ≤ from_on d rs from
  unfolding from_on level_at offers_at
  here-and-after from p left held h = at-and-after d from p h rs

  peopled : (from left held : ℕ) → next d from rs < top d → 0 < length (level_at d rs (next d from rs) left held).here
  unfolding level_at offers_at
  peopled from left held h = next-some d from rs h

  -- any walk: each level below the last price has a response of its own
  pub walk-short : (n from left held : ℕ) → length (flat (walk d rs n from left held)) ≤ 2 * from_on d rs from + 1
  walk-short zero from left held = rw (walk-zero d rs from left held) (omega arith)
  walk-short (suc n) from left held = go (eqb left 0) (leb from (top d)) refl refl (walk-short n)
    where
      p : ℕ
      p = next d from rs

      l : Level
      l = level_at d rs p left held

      ls : List Level
      ls = walk d rs n (l.price + 1) (left - traded (level_fills l)) (held + contra l)

      both : length (flat (l ∷ ls)) ≤ length l.here + 1 + length (flat ls)
      both = omega (arith, length-append (level_fills l) (flat ls), length-level l)

      last : (b : Bool) → leb (top d) p ≡ b → from ≤ p → length (flat ls) ≤ 2 * from_on d rs (p + 1) + 1 → length (flat (l ∷ ls)) ≤ 2 * from_on d rs from + 1
      last true e h ih =
          let z : length (flat ls) ≡ 0 = ap (λ (x : List Level). length (flat x)) (walk-past d rs n (l.price + 1) _ _ (omega (arith, leb-true (top d) p e, price-at d rs p left held))) in
          omega (arith, both, here-and-after from p left held h)
      last false e h ih = omega (arith, both, here-and-after from p left held h, peopled from left held (leb-false (top d) p e))

      go : (b c : Bool) → eqb left 0 ≡ b → leb from (top d) ≡ c → ((from left held : ℕ) → length (flat (walk d rs n from left held)) ≤ 2 * from_on d rs from + 1)
          → length (flat (walk d rs (suc n) from left held)) ≤ 2 * from_on d rs from + 1
      go true c e f ih = rw (walk_none d rs (suc n) from left held (eqb-true left 0 e)) (omega arith)
      go false false e f ih = rw (walk-past d rs (suc n) from left held (leb-false from (top d) f)) (omega arith)
      go false true e f ih =
          let h : left ≢ 0 = eqb-false left 0 e in
          let k : from ≤ top d = leb-true from (top d) f in
          let z : length (flat ls) ≤ 2 * from_on d rs (p + 1) + 1 =
          omega (arith, ih (l.price + 1) (left - traded (level_fills l)) (held + contra l), ap (λ (x : ℕ). from_on d rs (x + 1)) (price-at d rs p left held)) in
          rw (walk-some d rs n from left held (omega arith) k) (last (leb (top d) p) refl (next-above d from k rs) z)

  pub fills-short : length rs ≤ 64 → length (fills d rs) ≤ 130
  unfolding fills levels
  fills-short h =
      omega (
        arith,
        length-append (market_fill d rs) (flat (levels d rs)),
        length-fill d.market (market_price d rs) (market_takes d rs),
        walk-short (suc (top d)) 0 (d.size - market_takes d rs) 0,
        from-short d rs 0,
      )
