-- What a collared order moves, and what it leaves. Assumes nothing.
use mathlib.Core.Path.{◌≡◌, refl, sym, ap, ◌∙◌}
use mathlib.Core.Bool.{Bool, true, false, cond, not, ◌&&◌, ◌||◌, and-true}
use mathlib.Core.Logic.{⊎_elim, ◌↔◌}
use Prim.Native.Nat.{ℕ, ◌+◌, ◌-◌, ◌≤◌, ◌<◌, min, max}
use native.Mathlib.Omega.{arith}
use lib.ListN.{take}
use lib.Dec.{leb, ltb, eqb}
use borrow.Author.Tests.{lt-ltb, le-ltb, le-leb, lt-leb, eq-eqb, ne_eqb, ltb-false, eqb-false}
use Rattle.std.specs.Prelude.{Result, Ok, Err}
use Rattle.base.specs.Refusal.{number_of}
use Rattle.base.specs.declared.refusal.Refusal.{Refusal}
use Rattle.base.specs.declared.refusal.Refusal.TheVariants.{OrderOutOfForm, BetterThanNational, NoSize, BeforeOpen, NearClose, Halted, AnotherOpen, NationalCrossed, ExchangeCentWide, LimitBelowRange, StopAboveRange, NationalCentWide, NoRange}
use Rattle.words.specs.rules.Bits.{bit_at}
use Rattle.base.proofs.Numbers.{le-or-lt}
use Rattle.base.proofs.Bools.{and_both, and-no-left, and-no-right, by, no}
use Rattle.tape.specs.declared.order.Order.{Order}
use Rattle.tape.specs.rules.Form.{all_from, collar_formed, order_tests, order_formed}
use Rattle.mirror.specs.rules.Mirror.{mirrored_unless, mirrored_order, buy_order}
use Rattle.auction.specs.rules.Accept.{counted_offer, initiating_of, tick_of, bound_of, bid_mark, first_bound, guaranteed_of, range_refusal, buy_refusal, order_refusal, terms_of, quotes_of, opened_by, accept_of}
use Rattle.auction.specs.promises.Collared.{recollared, with_initiating, reaches_range, quoted_initiating, quoted_refusal, past_9, Collared}
use Rattle.auction.specs.declared.Auction.{Auction}
use Rattle.auction.proofs.Accepted.{Early, number_in, range-by, refusal-by, formed-refusal, refusal-of, opened}

-- ---- the form

form : (o : Order) (d c : ℕ) → order_formed (recollared d c o) ≡ (order_formed (recollared 0 0 o) && collar_formed o.side d c)
unfolding order_formed order_tests
form o d c = ap (λ (b : Bool). b && collar_formed o.side d c) (sym (and-true (all_from true (take 14 (order_tests o)))))

-- ---- the initiating price

none-price : (b : Order) → b.displayed ≡ 0 → initiating_of b ≡ quoted_initiating b
unfolding initiating_of counted_offer
none-price b z = simp (eq-eqb _ _ z)

large-quoted : (b : Order) → 50 ≤ b.size → initiating_of b ≡ quoted_initiating b
unfolding initiating_of
large-quoted b h = simp (le-ltb _ _ h)

some-price : (b : Order) → (b.displayed ≡ 0 → ⊥) → initiating_of b ≡ cond (ltb b.size 50) (min (min b.limit b.nbo) (b.displayed - b.collar - 1)) (min b.limit b.nbo)
unfolding initiating_of counted_offer
some-price b n = simp (ne_eqb _ _ n)

-- by the quoted offer, the bound that the limit reaches does not pass it
quoted-fits : (b : Order) → Early b → first_bound b ≤ b.limit → first_bound b ≤ quoted_initiating b
unfolding bound_of tick_of
quoted-fits b p l = go (ltb b.size 50) (bid_mark b.marks) refl l p.wide
  where
    go : (s m : Bool) → ltb b.size 50 ≡ s → max b.nbb (b.bb + cond (s || m) 1 0) ≤ b.limit → (s && eqb b.bo (b.bb + 1)) ≡ false
        → max b.nbb (b.bb + cond (s || m) 1 0) ≤ cond s (min (min b.limit b.nbo) (b.bo - 1)) (min b.limit b.nbo)
    go true m z l w = let n : b.bo ≡ b.bb + 1 → ⊥ = eqb-false _ _ w in omega (arith, p.bid, p.offer, p.uncrossed, n)
    go false true z l w = omega (arith, p.bid, p.offer, p.uncrossed)
    go false false z l w = omega (arith, p.bid, p.offer, p.uncrossed)

none-range : (b : Order) → b.displayed ≡ 0 → Early b → range_refusal b ≡ quoted_refusal b
unfolding range_refusal guaranteed_of
none-range b z p = go (ltb b.limit (first_bound b)) refl
  where
    price : initiating_of b ≡ quoted_initiating b
    price = none-price b z

    go : (t : Bool) → ltb b.limit (first_bound b) ≡ t → range_refusal b ≡ quoted_refusal b
    go true e = simp e
    go false e = simp (e, price, le-ltb _ _ (quoted-fits b p (ltb-false _ _ e)))

-- ---- two orders that differ in the two fields alone

-- the buy of the one is, but for those fields, the buy of the other
abbrev displayed_for : Bool → ℕ → ℕ
displayed_for sell d = cond sell (mirrored_unless (eqb d 0) d) d

buy-is : (o : Order) (d c : ℕ) → buy_order (recollared d c o) ≡ recollared (displayed_for (eqb o.side 2) d) c (buy_order o)
unfolding buy_order mirrored_order
buy-is o d c = go (eqb o.side 2)
  where
    go : (t : Bool) → cond t (mirrored_order (recollared d c o)) (recollared d c o) ≡ recollared (displayed_for t d) c (cond t (mirrored_order o) o)
    go true = refl
    go false = refl

one-bound : (o : Order) (d c : ℕ) → first_bound (buy_order (recollared d c o)) ≡ first_bound (buy_order o)
one-bound o d c = ap first_bound (buy-is o d c)

-- a refusal before which two ways are one
step : (t : Bool) (k : Refusal) {x y z : Result (Unit {0}) Refusal} → (x ≡ z → y ≡ z) → cond t (Err k) x ≡ z → cond t (Err k) y ≡ z
step true k f h = h
step false k f h = f h

-- none of the numbers after 10 is one of 2 to 10
after-10 : (s t u : Bool) {r : Refusal} {X : Type 0} → 2 ≤ number_of r → number_of r ≤ 10 → cond {A = Result (Unit {0}) Refusal} s (Err NoRange) (cond t (Err StopAboveRange) (cond u (Err NationalCentWide) (Ok tt))) ≡ Err r → X
after-10 true t u l m z = absurd (omega (arith, ap number_in z))
after-10 false true u l m z = absurd (omega (arith, ap number_in z))
after-10 false false true l m z = absurd (omega (arith, ap number_in z))
after-10 false false false l m z = absurd (omega (arith, ap number_in z))

module _ (b : Order) (d c : ℕ) (r : Refusal) (l : 2 ≤ number_of r) (m : number_of r ≤ 10) where
  buy-10 : buy_refusal b ≡ Err r → buy_refusal (recollared d c b) ≡ Err r
  unfolding buy_refusal range_refusal
  buy-10 =
      step (ltb b.nbb b.bb || ltb b.bo b.nbo) BetterThanNational
      (step (eqb b.size 0) NoSize
      (step (ltb b.time b.opens) BeforeOpen
      (step (leb b.closes (b.time + 1000)) NearClose
      (step (bit_at b.marks 0) Halted
      (step (bit_at b.marks 1) AnotherOpen
      (step (leb b.nbo b.nbb) NationalCrossed
      (step (ltb b.size 50 && eqb b.bo (b.bb + 1)) ExchangeCentWide
      (step (ltb b.limit (first_bound b)) LimitBelowRange
      (after-10 (ltb (initiating_of b) (first_bound b)) (ltb (initiating_of b) b.stop) (ltb b.size 50 && eqb b.nbo (b.nbb + 1) && not (eqb b.nbo (guaranteed_of b + 1))) l m)))))))))

up-to-10 : (o : Order) (d c : ℕ) (r : Refusal) → order_formed o ≡ true → order_formed (recollared d c o) ≡ true → 2 ≤ number_of r → number_of r ≤ 10 → order_refusal o ≡ Err r → order_refusal (recollared d c o) ≡ Err r
up-to-10 o d c r f g l m z =
    formed-refusal (recollared d c o) g ∙ ap buy_refusal (buy-is o d c) ∙ buy-10 (buy_order o) (displayed_for (eqb o.side 2) d) c r l m (sym (formed-refusal o f) ∙ z)

-- ---- through the initiating price alone

opened-is : (sell : Bool) (b : Order) (d c : ℕ) → opened_by sell (recollared d c b) ≡ with_initiating (initiating_of (recollared d c b)) (opened_by sell b)
unfolding opened_by terms_of quotes_of
opened-is sell b d c = refl

one-auction : (o : Order) (d c : ℕ) (a b : Auction) → accept_of o ≡ Ok a → accept_of (recollared d c o) ≡ Ok b → b ≡ with_initiating (initiating_of (buy_order (recollared d c o))) a
one-auction o d c a b h k =
    let s = eqb o.side 2 in
    (opened (recollared d c o) k).auction
    ∙ ap (opened_by s) (buy-is o d c)
    ∙ opened-is s (buy_order o) (displayed_for s d) c
    ∙ ap (λ (b : Order). with_initiating (initiating_of b) (opened_by s (buy_order o))) (sym (buy-is o d c))
    ∙ ap (with_initiating (initiating_of (buy_order (recollared d c o)))) (sym (opened o h).auction)

-- the same price, the same numbers
same-refusal : (b : Order) (d c : ℕ) → initiating_of (recollared d c b) ≡ initiating_of b → buy_refusal (recollared d c b) ≡ buy_refusal b
unfolding buy_refusal range_refusal guaranteed_of
same-refusal b d c e = simp e

same-opened : (sell : Bool) (b : Order) (d c : ℕ) → initiating_of (recollared d c b) ≡ initiating_of b → opened_by sell (recollared d c b) ≡ opened_by sell b
unfolding opened_by terms_of quotes_of
same-opened sell b d c e = simp e

by-price : (o : Order) (d c : ℕ) → order_formed o ≡ true → order_formed (recollared d c o) ≡ true
    → initiating_of (buy_order (recollared d c o)) ≡ initiating_of (buy_order o) → accept_of (recollared d c o) ≡ accept_of o
unfolding accept_of
by-price o d c f g e =
    let s = eqb o.side 2 in
    let x = displayed_for s d in
    let e' : initiating_of (recollared x c (buy_order o)) ≡ initiating_of (buy_order o) = ap initiating_of (sym (buy-is o d c)) ∙ e in
    let r : order_refusal (recollared d c o) ≡ order_refusal o =
    formed-refusal (recollared d c o) g ∙ ap buy_refusal (buy-is o d c) ∙ same-refusal (buy_order o) x c e' ∙ sym (formed-refusal o f) in
    let a : opened_by s (buy_order (recollared d c o)) ≡ opened_by s (buy_order o) = ap (opened_by s) (buy-is o d c) ∙ same-opened s (buy_order o) x c e' in
    simp (r, a)

buy-size : (o : Order) → (buy_order o).size ≡ o.size
unfolding buy_order mirrored_order
buy-size o = by (λ (b : Order). b.size ≡ o.size) (eqb o.side 2) _ _ (λ _. refl) (λ _. refl)

from-50 : (o : Order) (d c : ℕ) → order_formed o ≡ true → order_formed (recollared d c o) ≡ true → 50 ≤ o.size → accept_of (recollared d c o) ≡ accept_of o
from-50 o d c f g h =
    let large : 50 ≤ (buy_order o).size = omega (arith, buy-size o) in
    by-price o d c f g (ap initiating_of (buy-is o d c) ∙ large-quoted (recollared (displayed_for (eqb o.side 2) d) c (buy_order o)) large ∙ sym (large-quoted (buy_order o) large))

-- ---- 13

module _ (b : Order) where
  -- the initiating price is below the bound, and the limit is not
  abbrev below : Bool
  below = ltb (initiating_of b) (first_bound b)

  abbrev reached : Bool
  reached = leb (first_bound b) b.limit

  abbrev is_empty : Bool
  is_empty = below && reached

  abbrev Tells : Result (Unit {0}) Refusal → Type 0
  Tells x = x ≡ Err NoRange ↔ ((past_9 x && is_empty) ≡ true)

  -- a refusal other than 13, before the range or where it is not empty
  other : (x : Result (Unit {0}) Refusal) → (number_in x ≡ 13 → ⊥) → (past_9 x && is_empty) ≡ false → Tells x
  other x n f = (λ z. absurd (n (ap number_in z)), λ z. no (sym z ∙ f))

  early-13 : (r : Refusal) → 2 ≤ number_of r → number_of r ≤ 9 → Tells (Err r)
  early-13 r l m = other (Err r) (λ z. omega (arith, z, m)) (and-no-left is_empty (lt-leb 10 (number_of r) (omega (arith, m))))

  range-13 : Tells (range_refusal b)
  range-13 =
      range-by b Tells
      (λ h. other (Err LimitBelowRange) (λ z. omega (arith, z)) (and-no-right below (lt-leb (first_bound b) b.limit h)))
      (λ l h. (λ _. and_both (lt-ltb (initiating_of b) (first_bound b) h) (le-leb (first_bound b) b.limit l), λ _. refl))
      (λ h. other (Err StopAboveRange) (λ z. omega (arith, z)) (and-no-left reached (le-ltb (initiating_of b) (first_bound b) h)))
      (λ h. other (Err NationalCentWide) (λ z. omega (arith, z)) (and-no-left reached (le-ltb (initiating_of b) (first_bound b) h)))
      (λ h _. other (Ok tt) (λ z. omega (arith, z)) (and-no-left reached (le-ltb (initiating_of b) (first_bound b) h)))

thirteen : (o : Order) → order_refusal o ≡ Err NoRange ↔ ((reaches_range o && is_empty (buy_order o)) ≡ true)
unfolding order_refusal
thirteen o =
    by (Tells (buy_order o)) (not (order_formed o)) _ _ (λ _. other (buy_order o) (Err OrderOutOfForm) (λ z. omega (arith, z)) refl)
    (λ _. refusal-by (buy_order o) (Tells (buy_order o)) (early-13 (buy_order o)) (λ _. range-13 (buy_order o)))

-- ---- both fields zero

-- where none of 2 to 9 refuses a buy
early : (b : Order) → past_9 (buy_refusal b) ≡ true → Early b × (buy_refusal b ≡ range_refusal b)
early b =
    refusal-by b (λ x. past_9 x ≡ true → Early b × (x ≡ range_refusal b))
    (λ r l m z. no (sym z ∙ lt-leb 10 (number_of r) (omega (arith, m))))
    (λ e _. (e, refl))

buy-none : (o : Order) → o.displayed ≡ 0 → (buy_order o).displayed ≡ 0
unfolding buy_order mirrored_order
buy-none o z = by (λ (b : Order). b.displayed ≡ 0) (eqb o.side 2) _ _ (λ _. simp (eq-eqb _ _ z) z) (λ _. z)

none_number : (o : Order) → o.displayed ≡ 0 → reaches_range o ≡ true → order_refusal o ≡ quoted_refusal (buy_order o)
unfolding order_refusal
none_number o z =
    by (λ (x : Result (Unit {0}) Refusal). past_9 x ≡ true → x ≡ quoted_refusal (buy_order o)) (not (order_formed o)) _ _
    (λ _ r. no (sym r))
    (λ _ r. let e = early (buy_order o) r in e.1 ∙ none-range (buy_order o) (buy-none o z) e.0)

none-auction : (o : Order) (a : Auction) → o.displayed ≡ 0 → accept_of o ≡ Ok a → a.head.terms.initiating ≡ quoted_initiating (buy_order o)
unfolding opened_by terms_of
none-auction o a z h = ap (λ (x : Auction). x.head.terms.initiating) (opened o h).auction ∙ none-price (buy_order o) (buy-none o z)

-- a size of 50 and more, or both fields zero, leaves no 13
no-13 : (b : Order) → (initiating_of b ≡ quoted_initiating b) → buy_refusal b ≡ Err NoRange → ⊥
no-13 b e =
    refusal-by b P (λ r l m z. omega (arith, m, ap number_in z))
    (λ p. range-by b P (λ _ z. omega (arith, ap number_in z)) (λ l h _. omega (arith, e, quoted-fits b p l)) (λ _ z. omega (arith, ap number_in z)) (λ _ z. omega (arith, ap number_in z)) (λ _ _ z. omega (arith, ap number_in z)))
  where
    P : Result (Unit {0}) Refusal → Type 0
    P x = x ≡ Err NoRange → ⊥

thirteen-only : (o : Order) → order_refusal o ≡ Err NoRange → (o.size < 50) × (o.displayed ≡ 0 → ⊥)
thirteen-only o z =
    let r : buy_refusal (buy_order o) ≡ Err NoRange = (refusal-of o (Err NoRange) (λ q. omega (arith, ap number_in q)) z).1 in
    let large : 50 ≤ o.size → ⊥ = λ h. no-13 (buy_order o) (large-quoted (buy_order o) (omega (arith, buy-size o))) r in
    (small o.size large, λ q. no-13 (buy_order o) (none-price (buy_order o) (buy-none o q)) r)
  where
    small : (n : ℕ) → (50 ≤ n → ⊥) → n < 50
    small n h = ⊎_elim (λ l. absurd (h l)) (λ l. l) (le-or-lt 50 n)

pub collared : Collared
collared =
    record {
      form = form;
      none-price = none-price;
      none_number = none_number;
      none-auction = none-auction;
      some-price = some-price;
      up-to-10 = up-to-10;
      one-bound = one-bound;
      one-auction = one-auction;
      by-price = by-price;
      from-50 = from-50;
      thirteen = thirteen;
      thirteen-only = thirteen-only;
      some-range = λ o a h. (opened o h).passes.ranged;
    }
