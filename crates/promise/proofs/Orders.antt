-- An order's number by its own fields is the engine's. Assumes nothing.
use mathlib.Core.Path.{◌≡◌, refl, sym, ap, ap₂, ◌∙◌}
use mathlib.Core.Bool.{Bool, true, false, cond, not, ◌&&◌, ◌||◌}
use Prim.Native.Nat.{ℕ, ◌+◌, ◌-◌, ◌≤◌, max}
use native.Mathlib.Omega.{arith}
use borrow.Author.Tests.{le-ltb, eqb-true, eqb-false, eq-eqb}
use lib.Dec.{leb, ltb, eqb}
use Rattle.std.specs.Prelude.{Result, Ok, Err}
use Rattle.std.specs.Result.{result_and}
use Rattle.base.specs.Refusal.{number_of}
use Rattle.base.specs.declared.refusal.Refusal.{Refusal}
use Rattle.base.specs.declared.refusal.Refusal.TheVariants.{OrderOutOfForm, BetterThanNational, NoSize, BeforeOpen, NearClose, Halted, AnotherOpen, NationalCrossed, ExchangeCentWide, LimitBelowRange, StopAboveRange, NationalCentWide, NoRange}
use Rattle.base.specs.Price.{mirrored}
use Rattle.auction.specs.declared.Auction.{Auction}
use Rattle.base.proofs.Bools.{by, same_test}
use Rattle.words.specs.rules.Bits.{bit_at}
use Rattle.tape.specs.declared.order.Order.{Order}
use Rattle.tape.specs.rules.Form.{order_formed}
use Rattle.tape.proofs.FormLaws.{OrderBounds, order-bounds}
use Rattle.mirror.specs.rules.Mirror.{mirrored_order, buy_order}
use Rattle.mirror.proofs.MirrorForm.{records-mirror}
use Rattle.trade.specs.rules.Write.{reported_price}
use Rattle.auction.specs.rules.Accept.{initiating_of, first_bound, guaranteed_of, range_refusal, buy_refusal, order_refusal, terms_of, quotes_of, auction_of, accept_of}
use Rattle.auction.proofs.Accepted.{limit-fits}
use Rattle.exact.specs.rules.EitherSide.{better, worse_of}
use Rattle.promise.specs.rules.Answers.{Paper, no, yes, paper_of}
use Rattle.promise.specs.rules.Sides.{is_sell, initiating_price}
use Rattle.promise.specs.rules.Events.{first_quoted}
use Rattle.promise.specs.rules.Orders.{opening_bound, guaranteed_price, one_cent_better, order_number}
use Rattle.promise.proofs.RealLaws.{better-shown, shown-twice}
use Rattle.promise.proofs.Opening.{initiating-formed}
use Rattle.promise.proofs.Bound.{buy-stop, leb-not, bound-real, bound-low, passes-is, priced-formed, first-formed}
use Rattle.promise.proofs.Turned.{worse-shown}

-- ---- prices of two sides

-- two tests for equality, each of which follows from the other
same-equal : (a b c d : ℕ) → (a ≡ b → c ≡ d) → (c ≡ d → a ≡ b) → eqb a b ≡ eqb c d
same-equal a b c d f g = same_test (eqb a b) (eqb c d) (λ e. eq-eqb c d (f (eqb-true a b e))) (λ e. eq-eqb a b (g (eqb-true c d e)))

-- a cent apart
cent-apart : (x y : ℕ) → eqb x (y + 1) ≡ eqb (x - y) 1
cent-apart x y = same-equal x (y + 1) (x - y) 1 (λ e. omega (arith, e)) (λ e. omega (arith, e))

cent-mirrored : (x y : ℕ) → x ≤ 1000000 → y ≤ 1000000 → eqb (1000000 - x) (1000000 - y + 1) ≡ eqb (y - x) 1
cent-mirrored x y h k = same-equal (1000000 - x) (1000000 - y + 1) (y - x) 1 (λ e. omega (arith, e)) (λ e. omega (arith, e))

-- g is one cent below the buy's NBO
cent-better : (s : Bool) (bid offer g : ℕ) → 1 ≤ offer → bid ≤ 999999 → eqb (reported_price s (cond s bid offer)) (g + 1) ≡ eqb (reported_price s g) (cond s (bid + 1) (offer - 1))
unfolding mirrored
cent-better true bid offer g h k = same-equal (1000000 - bid) (g + 1) (1000000 - g) (bid + 1) (λ e. omega (arith, e)) (λ e. omega (arith, e))
cent-better false bid offer g h k = same-equal offer (g + 1) g (offer - 1) (λ e. omega (arith, e)) (λ e. omega (arith, e))

or_swap : (a b : Bool) → (a || b) ≡ (b || a)
or_swap true true = refl
or_swap true false = refl
or_swap false true = refl
or_swap false false = refl

-- ---- a test before a refusal: what is answered, by the paper's number
then : {s t : Bool} (x : Result (Unit {0}) Refusal) (a : Auction) {p : Paper Auction} → s ≡ t → (r : Refusal) → paper_of (result_and x (Ok a)) ≡ p
    → paper_of (result_and (cond s (Err r) x) (Ok a)) ≡ cond t (no (number_of r)) p
then {s} x a {p} e r h = go s ∙ ap (λ (b : Bool). cond b (no (number_of r)) p) e
  where
    go : (b : Bool) → paper_of (result_and (cond b (Err r) x) (Ok a)) ≡ cond b (no (number_of r)) p
    go true = refl
    go false = h

-- ---- an order in form

module _ (o : Order) (f : order_formed o ≡ true) where
  abbrev b : Order
  b = buy_order o

  k : OrderBounds o
  k = order-bounds o f

  -- fields that the mirror leaves
  record Left : Type 0 where
    size : b.size ≡ o.size
    mode : b.mode ≡ o.mode
    time : b.time ≡ o.time
    opens : b.opens ≡ o.opens
    closes : b.closes ≡ o.closes
    halted : bit_at b.marks 0 ≡ bit_at o.marks 0
    another : bit_at b.marks 1 ≡ bit_at o.marks 1

  left : Left
  unfolding buy_order mirrored_order
  left =
      record {
        size = by (λ (x : Order). x.size ≡ o.size) (is_sell o) _ _ (λ _. refl) (λ _. refl);
        mode = by (λ (x : Order). x.mode ≡ o.mode) (is_sell o) _ _ (λ _. refl) (λ _. refl);
        time = by (λ (x : Order). x.time ≡ o.time) (is_sell o) _ _ (λ _. refl) (λ _. refl);
        opens = by (λ (x : Order). x.opens ≡ o.opens) (is_sell o) _ _ (λ _. refl) (λ _. refl);
        closes = by (λ (x : Order). x.closes ≡ o.closes) (is_sell o) _ _ (λ _. refl) (λ _. refl);
        halted = by (λ (x : Order). bit_at x.marks 0 ≡ bit_at o.marks 0) (is_sell o) _ _ (λ _. (records-mirror.marks o.marks).other 0 (λ z. omega (arith, z)) (λ z. omega (arith, z))) (λ _. refl);
        another = by (λ (x : Order). bit_at x.marks 1 ≡ bit_at o.marks 1) (is_sell o) _ _ (λ _. (records-mirror.marks o.marks).other 1 (λ z. omega (arith, z)) (λ z. omega (arith, z))) (λ _. refl);
      }

  -- the quotes
  outside-is : (ltb b.nbb b.bb || ltb b.bo b.nbo) ≡ (ltb o.nbb o.bb || ltb o.bo o.nbo)
  unfolding buy_order mirrored_order mirrored
  outside-is = go (is_sell o)
    where
      go : (s : Bool) → (ltb (cond {A = Order} s (mirrored_order o) o).nbb (cond {A = Order} s (mirrored_order o) o).bb || ltb (cond {A = Order} s (mirrored_order o) o).bo (cond {A = Order} s (mirrored_order o) o).nbo) ≡ (ltb o.nbb o.bb || ltb o.bo o.nbo)
      go true =
          ap₂ (λ (x y : Bool). x || y) (better-shown true o.bo o.nbo k.bo (omega (arith, k.nbo))) (better-shown true o.nbb o.bb (omega (arith, k.nbb)) (omega (arith, k.bb)))
          ∙ or_swap (ltb o.bo o.nbo) (ltb o.nbb o.bb)
      go false = refl

  crossed-is : leb b.nbo b.nbb ≡ leb o.nbo o.nbb
  unfolding buy_order mirrored_order mirrored
  crossed-is = leb-not b.nbo b.nbb ∙ ap not (go (is_sell o)) ∙ sym (leb-not o.nbo o.nbb)
    where
      go : (s : Bool) → ltb (cond {A = Order} s (mirrored_order o) o).nbb (cond {A = Order} s (mirrored_order o) o).nbo ≡ ltb o.nbb o.nbo
      go true = better-shown true o.nbb o.nbo (omega (arith, k.nbb)) (omega (arith, k.nbo))
      go false = refl

  one-cent : eqb b.bo (b.bb + 1) ≡ eqb (o.bo - o.bb) 1
  unfolding buy_order mirrored_order mirrored
  one-cent = go (is_sell o)
    where
      go : (s : Bool) → eqb (cond {A = Order} s (mirrored_order o) o).bo ((cond {A = Order} s (mirrored_order o) o).bb + 1) ≡ eqb (o.bo - o.bb) 1
      go true = cent-mirrored o.bb o.bo (omega (arith, k.bb)) k.bo
      go false = cent-apart o.bo o.bb

  one-cent-national : eqb b.nbo (b.nbb + 1) ≡ eqb (o.nbo - o.nbb) 1
  unfolding buy_order mirrored_order mirrored
  one-cent-national = go (is_sell o)
    where
      go : (s : Bool) → eqb (cond {A = Order} s (mirrored_order o) o).nbo ((cond {A = Order} s (mirrored_order o) o).nbb + 1) ≡ eqb (o.nbo - o.nbb) 1
      go true = cent-mirrored o.nbb o.nbo (omega (arith, k.nbb)) (omega (arith, k.nbo))
      go false = cent-apart o.nbo o.nbb

  -- the range
  bound-is : reported_price (is_sell o) (first_bound b) ≡ opening_bound o
  unfolding terms_of quotes_of
  bound-is = bound-real o (terms_of (is_sell o) b) (priced-formed o f) (first_quoted o) (quotes_of b) (first-formed o f)

  low : first_bound b ≤ 1000000
  unfolding terms_of quotes_of
  low = bound-low o (terms_of (is_sell o) b) (priced-formed o f) (first_quoted o) (quotes_of b) (first-formed o f)

  empty-is : ltb (initiating_of b) (first_bound b) ≡ better (is_sell o) (initiating_price o) (opening_bound o)
  unfolding terms_of quotes_of
  empty-is = passes-is o (terms_of (is_sell o) b) (priced-formed o f) (first_quoted o) (quotes_of b) (first-formed o f)

  start-low : initiating_of b ≤ 1000000
  unfolding terms_of
  start-low = (priced-formed o f).start-low

  limit_is : reported_price (is_sell o) b.limit ≡ o.limit
  unfolding buy_order mirrored_order
  limit_is = go (is_sell o)
    where
      go : (s : Bool) → reported_price s (cond {A = Order} s (mirrored_order o) o).limit ≡ o.limit
      go true = shown-twice true o.limit (omega (arith, k.limit))
      go false = refl

  worse-limit : ltb b.limit (first_bound b) ≡ better (is_sell o) o.limit (opening_bound o)
  worse-limit =
      sym (better-shown (is_sell o) b.limit (first_bound b) (omega (arith, limit-fits o f)) low)
      ∙ ap₂ (λ (x y : ℕ). better (is_sell o) x y) limit_is bound-is

  -- the stop or auto-match limit, and that mode 2 has none
  no_stop : o.mode ≡ 2 → b.stop ≡ 0
  unfolding buy_order mirrored_order
  no_stop m = go (is_sell o)
    where
      none : o.stop ≡ 0
      none = k.no_stop (eq-eqb o.mode 2 m)

      go : (s : Bool) → (cond {A = Order} s (mirrored_order o) o).stop ≡ 0
      go true = simp (eq-eqb o.mode 2 m) none
      go false = none

  stop-shown : (o.mode ≡ 2 → ⊥) → reported_price (is_sell o) b.stop ≡ o.stop
  stop-shown n = ap (reported_price (is_sell o)) (buy-stop o n) ∙ shown-twice (is_sell o) o.stop (omega (arith, k.stop))

  stop-fits : (o.mode ≡ 2 → ⊥) → b.stop ≤ 1000000
  unfolding mirrored
  stop-fits n = go (is_sell o) (buy-stop o n)
    where
      go : (s : Bool) → b.stop ≡ reported_price s o.stop → b.stop ≤ 1000000
      go true z = omega (arith, z)
      go false z = omega (arith, z, k.stop)

  beyond-is : ltb (initiating_of b) b.stop ≡ (not (eqb o.mode 2) && better (is_sell o) (initiating_price o) o.stop)
  beyond-is = go (eqb o.mode 2) refl
    where
      go : (m : Bool) → eqb o.mode 2 ≡ m → ltb (initiating_of b) b.stop ≡ (not m && better (is_sell o) (initiating_price o) o.stop)
      go true z = le-ltb (initiating_of b) b.stop (omega (arith, no_stop (eqb-true o.mode 2 z)))
      go false z =
          let n : o.mode ≡ 2 → ⊥ = eqb-false o.mode 2 z in
          sym (better-shown (is_sell o) (initiating_of b) b.stop start-low (stop-fits n))
          ∙ ap₂ (λ (x y : ℕ). better (is_sell o) x y) (sym (initiating-formed o f)) (stop-shown n)

  -- the guaranteed price
  guaranteed-is : reported_price (is_sell o) (guaranteed_of b) ≡ guaranteed_price o
  unfolding guaranteed_of
  guaranteed-is = ap (λ (m : ℕ). reported_price (is_sell o) (cond (eqb m 2) (initiating_of b) (max b.stop (first_bound b)))) left.mode ∙ go (eqb o.mode 2) refl
    where
      go : (m : Bool) → eqb o.mode 2 ≡ m → reported_price (is_sell o) (cond m (initiating_of b) (max b.stop (first_bound b))) ≡ cond m (initiating_price o) (worse_of (is_sell o) o.stop (opening_bound o))
      go true z = sym (initiating-formed o f)
      go false z =
          sym (worse-shown (is_sell o) b.stop (first_bound b))
          ∙ ap₂ (λ (x y : ℕ). worse_of (is_sell o) x y) (stop-shown (eqb-false o.mode 2 z)) bound-is

  across-is : b.nbo ≡ reported_price (is_sell o) (cond (is_sell o) o.nbb o.nbo)
  unfolding quotes_of
  across-is = (first-formed o f).national-is

  improved-is : eqb b.nbo (guaranteed_of b + 1) ≡ eqb (guaranteed_price o) (one_cent_better o)
  improved-is =
      ap (λ (x : ℕ). eqb x (guaranteed_of b + 1)) across-is
      ∙ cent-better (is_sell o) o.nbb o.nbo (guaranteed_of b) k.some-nbo k.nbb
      ∙ ap (λ (x : ℕ). eqb x (one_cent_better o)) guaranteed-is

  -- the numbers, one test after the other
  buy-is : paper_of (result_and (buy_refusal b) (Ok (auction_of o))) ≡
      cond (ltb o.nbb o.bb || ltb o.bo o.nbo) (no 2)
      (cond (eqb o.size 0) (no 3)
      (cond (ltb o.time o.opens) (no 4)
      (cond (leb o.closes (o.time + 1000)) (no 5)
      (cond (bit_at o.marks 0) (no 6)
      (cond (bit_at o.marks 1) (no 7)
      (cond (leb o.nbo o.nbb) (no 8)
      (cond (ltb o.size 50 && eqb (o.bo - o.bb) 1) (no 9)
      (cond (better (is_sell o) o.limit (opening_bound o)) (no 10)
      (cond (better (is_sell o) (initiating_price o) (opening_bound o)) (no 13)
      (cond (not (eqb o.mode 2) && better (is_sell o) (initiating_price o) o.stop) (no 11)
      (cond (ltb o.size 50 && eqb (o.nbo - o.nbb) 1 && not (eqb (guaranteed_price o) (one_cent_better o))) (no 12)
      (yes (auction_of o)))))))))))))
  unfolding buy_refusal range_refusal
  buy-is =
      then _ _ outside-is BetterThanNational
      (then _ _ (λ i. eqb (left.size i) 0) NoSize
      (then _ _ (λ i. ltb (left.time i) (left.opens i)) BeforeOpen
      (then _ _ (λ i. leb (left.closes i) (left.time i + 1000)) NearClose
      (then _ _ left.halted Halted
      (then _ _ left.another AnotherOpen
      (then _ _ crossed-is NationalCrossed
      (then _ _ (λ i. ltb (left.size i) 50 && one-cent i) ExchangeCentWide
      (then _ _ worse-limit LimitBelowRange
      (then _ _ empty-is NoRange
      (then _ _ beyond-is StopAboveRange
      (then _ _ (λ i. ltb (left.size i) 50 && one-cent-national i && not (improved-is i)) NationalCentWide
      refl)))))))))))

pub order-number : (o : Order) → paper_of (accept_of o) ≡ order_number o (auction_of o)
unfolding accept_of order_refusal
order-number o = go (order_formed o) refl
  where
    go : (t : Bool) → order_formed o ≡ t → paper_of (result_and (cond (not t) (Err OrderOutOfForm) (buy_refusal (buy_order o))) (Ok (auction_of o))) ≡ order_number o (auction_of o)
    go true f = buy-is o f ∙ sym (simp f)
    go false f = sym (simp f)
