-- The range at the opening, by the order's own fields. Assumes nothing.
use mathlib.Core.Path.{◌≡◌, refl, sym, subst, ap, ◌∙◌}
use mathlib.Core.Bool.{Bool, true, false, cond, ◌&&◌, ◌||◌}
use mathlib.Core.Logic.{◌≢◌}
use Prim.Native.Nat.{ℕ, ◌+◌, ◌-◌, ◌≤◌, ◌<◌, min, max}
use native.Mathlib.Omega.{arith}
use lib.Dec.{leb, ltb, eqb}
use borrow.Author.Tests.{eq-eqb, ne_eqb, leb-true, ltb-true}
use Rattle.base.specs.declared.refusal.Refusal.TheVariants.{NoRange}
use Rattle.base.specs.declared.refusal.Refusal.{Refusal}
use Rattle.base.specs.Refusal.{number_of}
use Rattle.std.specs.Prelude.{Err, Result}
use Rattle.base.specs.Price.{mirrored}
use Rattle.tape.specs.declared.order.Order.{Order}
use Rattle.tape.specs.rules.Form.{within, order_formed}
use Rattle.tape.proofs.FormLaws.{within-ge, within-le, CollarForm, without, with, OrderBounds, order-bounds}
use Rattle.mirror.specs.rules.Mirror.{mirrored_unless, mirrored_order, buy_order}
use Rattle.mirror.proofs.MirrorForm.{none_stays, records-mirror}
use Rattle.auction.specs.declared.Range.{Range}
use Rattle.auction.specs.rules.Accept.{counted_offer, initiating_of, tick_of, bound_of, first_bound, order_refusal, bid_mark, offer_mark, terms_of, quotes_of, opened_by, auction_of, accept_of, Accepts}
use Rattle.auction.specs.rules.Range.{word, bound_now, range_of}
use Rattle.trade.specs.rules.Write.{reported_price}
use Rattle.base.proofs.Bools.{and_left, and_right}
use Rattle.auction.specs.promises.Collared.{reaches_range}
use Rattle.auction.proofs.Accepted.{number_in, range-by, refusal-by, refusal-of, opened, refusal_is, limit-fits}
use Rattle.auction.proofs.CollaredLaws.{collared}
use Rattle.promise.specs.rules.Sides.{is_sell, counted_bid, buy_range, sell_range, opening_range, initiating_price}

abbrev from : ℕ → ℕ → Range
from low high = record { low = low; high = high }

range-is : (p q r s : ℕ) → p ≡ r → q ≡ s → from p q ≡ from r s
range-is p q r s e f = ap (λ (x : ℕ). from x q) e ∙ ap (λ (x : ℕ). from r x) f

-- the lower of two mirrored prices is the mirror of the higher
mirror-lower : (x y : ℕ) → 1000000 - min x y ≡ max (1000000 - x) (1000000 - y)
mirror-lower x y = omega arith

back-lower : (x y : ℕ) → x ≤ 999999 → y ≤ 999999 → 1000000 - min (1000000 - x) (1000000 - y) ≡ max x y
back-lower x y h k = omega arith

-- the mirror of the higher of a mirrored price and another number
mirror-higher : (x y : ℕ) → x ≤ 999999 → y ≤ 1000001 → 1000000 - word (max (1000000 - x) y) ≡ min x (1000000 - y)
mirror-higher x y h k = ap (λ (z : ℕ). 1000000 - z) small ∙ higher
  where
    small : word (max (1000000 - x) y) ≡ max (1000000 - x) y
    small = omega arith

    higher : 1000000 - max (1000000 - x) y ≡ min x (1000000 - y)
    higher = omega arith

module _ (o : Order) (k : OrderBounds o) where
  buy : range_of (opened_by false o).head ≡ buy_range o
  unfolding range_of bound_now opened_by terms_of quotes_of initiating_of bound_of tick_of
  buy = range-is _ _ _ _ (low (ltb o.size 50 || bid_mark o.marks)) refl
    where
      low : (b : Bool) → word (max o.nbb (o.bb + cond b 1 0)) ≡ max o.nbb (o.bb + cond b 1 0)
      low true = omega (arith, k.nbb, k.bb)
      low false = omega (arith, k.nbb, k.bb)

  -- what counts as BO for the buy that a sell mirrors is the mirror of what counts as BB for the sell
  offer-is : counted_offer (mirrored_order o) ≡ 1000000 - counted_bid o
  unfolding counted_offer mirrored_order mirrored
  offer-is = ap (λ (b : Bool). cond b (1000000 - o.bb) (mirrored_unless (eqb o.displayed 0) o.displayed - o.collar)) (none_stays o.displayed k.displayed) ∙ go (eqb o.displayed 0)
    where
      go : (b : Bool) → cond b (1000000 - o.bb) (mirrored_unless b o.displayed - o.collar) ≡ 1000000 - cond b o.bb (o.displayed + o.collar)
      go true = refl
      go false = omega arith

  bid-fits : eqb o.side 2 ≡ true → counted_bid o ≤ 999999
  bid-fits s = go k.collar-form
    where
      go : CollarForm o.side o.displayed o.collar → counted_bid o ≤ 999999
      go (without z c) = simp (eq-eqb _ _ z) k.bb
      go (with hd hc hp) =
          let n : o.displayed ≡ 0 → ⊥ = λ z. omega (arith, z, within-ge o.displayed 1 999999 hd) in
          let p : within (o.displayed + o.collar) 1 999999 ≡ true = rw s at hp in
          simp (ne_eqb o.displayed 0 n) (within-le (o.displayed + o.collar) 1 999999 p)

  -- the end of a sell's range, with the added cent or without
  abbrev high_by : Bool → ℕ
  high_by b = 1000000 - word (max (1000000 - o.nbo) (1000000 - o.bo + cond b 1 0))

  sell : eqb o.side 2 ≡ true → range_of (opened_by true (mirrored_order o)).head ≡ sell_range o
  unfolding range_of bound_now opened_by terms_of quotes_of initiating_of bound_of tick_of mirrored_order mirrored
  sell s = range-is _ _ _ _ (low (ltb o.size 50)) (ap (λ (m : Bool). high_by (ltb o.size 50 || m)) (records-mirror.marks o.marks).two ∙ high (ltb o.size 50 || offer_mark o.marks))
    where
      above : (x : ℕ) → x ≤ 999999 → 1000000 - (1000000 - x - 1) ≡ x + 1
      above x h = omega arith

      again : (x y : ℕ) → max x y ≡ max (max x y) x
      again x y = omega arith

      low : (b : Bool) → 1000000 - cond b (min (min (1000000 - o.limit) (1000000 - o.nbb)) (counted_offer (mirrored_order o) - 1)) (min (1000000 - o.limit) (1000000 - o.nbb)) ≡ max (max o.limit o.nbb) (cond b (counted_bid o + 1) o.limit)
      low true =
          mirror-lower (min (1000000 - o.limit) (1000000 - o.nbb)) (counted_offer (mirrored_order o) - 1)
          ∙ ap (λ (x : ℕ). max x (1000000 - (counted_offer (mirrored_order o) - 1))) (back-lower o.limit o.nbb k.limit k.nbb)
          ∙ ap (λ (x : ℕ). max (max o.limit o.nbb) (1000000 - (x - 1))) offer-is
          ∙ ap (max (max o.limit o.nbb)) (above (counted_bid o) (bid-fits s))
      low false = back-lower o.limit o.nbb k.limit k.nbb ∙ again o.limit o.nbb

      below : (x : ℕ) → x ≤ 1000000 → 1000000 - (1000000 - x + 1) ≡ x - 1
      below x h = omega arith

      itself : (x : ℕ) → x ≤ 1000000 → 1000000 - (1000000 - x + 0) ≡ x - 0
      itself x h = omega arith

      high : (b : Bool) → high_by b ≡ min o.nbo (o.bo - cond b 1 0)
      high true = mirror-higher o.nbo (1000000 - o.bo + 1) k.nbo (omega arith) ∙ ap (min o.nbo) (below o.bo k.bo)
      high false = mirror-higher o.nbo (1000000 - o.bo + 0) k.nbo (omega arith) ∙ ap (min o.nbo) (itself o.bo k.bo)

-- the range that an order in form would open with, accepted or not
range-formed : (o : Order) → order_formed o ≡ true → range_of (opened_by (eqb o.side 2) (buy_order o)).head ≡ opening_range o
unfolding buy_order
range-formed o f = go (eqb o.side 2) refl (order-bounds o f)
  where
    go : (b : Bool) → eqb o.side 2 ≡ b → OrderBounds o → range_of (opened_by b (cond b (mirrored_order o) o)).head ≡ cond b (sell_range o) (buy_range o)
    go true z k = sell o k z
    go false z k = buy o k

pub opens : (o : Order) → Accepts o → range_of (auction_of o).head ≡ opening_range o
opens o h = range-formed o (opened o h).formed

-- which is empty or not as the bound is above the initiating price or not
module _ (b : Order) where
  range-some : (s : Bool) → first_bound b ≤ initiating_of b → (range_of (opened_by s b).head).low ≤ (range_of (opened_by s b).head).high
  unfolding range_of bound_now opened_by terms_of quotes_of mirrored
  range-some true h = omega arith
  range-some false h = omega arith

  range_none : (s : Bool) → initiating_of b < first_bound b → first_bound b ≤ 999999 → (range_of (opened_by s b).head).high < (range_of (opened_by s b).head).low
  unfolding range_of bound_now opened_by terms_of quotes_of mirrored
  range_none true h k = omega arith
  range_none false h k = omega arith

pub some-range : (o : Order) → Accepts o → (opening_range o).low ≤ (opening_range o).high
some-range o h =
    let m = opened o h in
    subst (λ (r : Range). r.low ≤ r.high) (range-formed o m.formed) (range-some (buy_order o) (eqb o.side 2) m.passes.ranged)

pub no-range : (o : Order) → accept_of o ≡ Err NoRange → ((opening_range o).high < (opening_range o).low) × (o.size < 50) × (o.displayed ≢ 0)
no-range o h =
    let b = buy_order o in
    let n : order_refusal o ≡ Err NoRange = refusal_is o NoRange h in
    let f : order_formed o ≡ true = (refusal-of o (Err NoRange) (λ z. omega (arith, ap number_in z)) n).0 in
    let e : (ltb (initiating_of b) (first_bound b) && leb (first_bound b) b.limit) ≡ true = and_right (reaches_range o) _ ((collared.thirteen o).0 n) in
    let low : initiating_of b < first_bound b = ltb-true _ _ (and_left (ltb (initiating_of b) (first_bound b)) (leb (first_bound b) b.limit) e) in
    let high : first_bound b ≤ b.limit = leb-true _ _ (and_right (ltb (initiating_of b) (first_bound b)) (leb (first_bound b) b.limit) e) in
    let k = collared.thirteen-only o n in
    (subst (λ (r : Range). r.high < r.low) (range-formed o f) (range_none b (eqb o.side 2) low (omega (arith, high, limit-fits o f))), k.0, k.1)

-- a number above 10, where the range would be empty
pub only-13 : (o : Order) (r : Refusal) → accept_of o ≡ Err r → 10 < number_of r → (opening_range o).high < (opening_range o).low → number_of r ≡ 13
only-13 o r h l e =
    let m = refusal-of o (Err r) (λ z. omega (arith, l, ap number_in z)) (refusal_is o r h) in
    let b = buy_order o in
    let P : Result (Unit {0}) Refusal → Type 0 = λ x. x ≡ Err r → number_of r ≡ 13 in
    let never : first_bound b ≤ initiating_of b → ⊥ = λ r. let s : (opening_range o).low ≤ (opening_range o).high = subst (λ (r : Range). r.low ≤ r.high) (range-formed o m.0) (range-some b (eqb o.side 2) r) in omega (arith, s, e) in
    refusal-by b P (λ q _ j z. absurd (omega (arith, j, l, ap number_in z)))
    (λ _. range-by b P (λ _ z. absurd (omega (arith, l, ap number_in z))) (λ _ _ z. sym (ap number_in z)) (λ k _. absurd (never k)) (λ k _. absurd (never k)) (λ _ _ z. absurd (omega (arith, l, ap number_in z)))) m.1

-- the initiating price, by the order's own fields
pub initiating-formed : (o : Order) → order_formed o ≡ true → initiating_price o ≡ reported_price (is_sell o) (initiating_of (buy_order o))
unfolding range_of opened_by terms_of
initiating-formed o f = go (is_sell o) (range-formed o f)
  where
    go : (s : Bool) → range_of (opened_by s (buy_order o)).head ≡ cond s (sell_range o) (buy_range o) → cond s (sell_range o).low (buy_range o).high ≡ reported_price s (initiating_of (buy_order o))
    go true z = sym (ap (λ (r : Range). r.low) z)
    go false z = sym (ap (λ (r : Range). r.high) z)

-- the same of an accepted one's terms
pub initiating-is : (o : Order) → Accepts o → initiating_price o ≡ reported_price (is_sell o) (auction_of o).head.terms.initiating
unfolding opened_by terms_of
initiating-is o h = initiating-formed o (opened o h).formed
