-- What is known of an order that was accepted. Assumes nothing.
use mathlib.Core.Path.{◌≡◌, ap, ◌∙◌}
use mathlib.Core.Bool.{true, false, not, ◌&&◌}
use Prim.Native.Nat.{ℕ, ◌+◌, ◌≤◌, ◌<◌}
use native.Mathlib.Omega.{arith}
use lib.Dec.{leb, ltb, eqb}
use borrow.Author.Tests.{ltb-true, ltb-false, leb-false, eqb-false, not-false}
use Rattle.std.specs.Prelude.{Result, Ok, Err, IfOk, IfErr}
use Rattle.std.specs.Result.{result_and}
use Rattle.base.specs.Refusal.{number_of}
use Rattle.base.specs.declared.refusal.Refusal.{Refusal}
use Rattle.base.specs.declared.refusal.Refusal.TheVariants.{OrderOutOfForm, BetterThanNational, NoSize, BeforeOpen, NearClose, Halted, AnotherOpen, NationalCrossed, ExchangeCentWide, LimitBelowRange, StopAboveRange, NationalCentWide, NoRange}
use Rattle.words.specs.rules.Bits.{bit_at}
use Rattle.tape.specs.declared.order.Order.{Order}
use Rattle.tape.specs.rules.Form.{order_formed}
use Rattle.base.proofs.Bools.{or_left, or_right, by, no}
use Rattle.tape.proofs.FormLaws.{order-bounds}
use Rattle.base.specs.Price.{mirrored}
use Rattle.mirror.specs.rules.Mirror.{mirrored_order, buy_order}
use Rattle.auction.specs.rules.Accept.{initiating_of, first_bound, guaranteed_of, range_refusal, buy_refusal, order_refusal, auction_of, accept_of, Accepts}
use Rattle.auction.specs.declared.Auction.{Auction}

-- what a buy has that none of 2 to 9 refuses
pub record Early (b : Order) : Type 0 where
  pub bid : b.bb ≤ b.nbb
  pub offer : b.nbo ≤ b.bo
  pub size : 1 ≤ b.size
  pub uncrossed : b.nbb < b.nbo
  pub wide : (ltb b.size 50 && eqb b.bo (b.bb + 1)) ≡ false

-- a refusal's number; 0 where there is none
abbrev pub number_in : Result (Unit {0}) Refusal → ℕ
number_in (Ok u) = 0
number_in (Err r) = number_of r

-- which refusals a buy in form can get, and what is known where it gets them
module _ (b : Order) (P : Result (Unit {0}) Refusal → Type 0) where
  pub range-by : (b.limit < first_bound b → P (Err LimitBelowRange)) → (first_bound b ≤ b.limit → initiating_of b < first_bound b → P (Err NoRange)) → (first_bound b ≤ initiating_of b → P (Err StopAboveRange))
      → (first_bound b ≤ initiating_of b → P (Err NationalCentWide)) → (first_bound b ≤ initiating_of b → b.stop ≤ initiating_of b → P (Ok tt)) → P (range_refusal b)
  unfolding range_refusal
  range-by p10 p13 p11 p12 ok =
      by P _ _ _ (λ h. p10 (ltb-true _ _ h)) (λ h10.
      by P _ _ _ (λ h. p13 (ltb-false _ _ h10) (ltb-true _ _ h)) (λ h13.
      by P _ _ _ (λ _. p11 (ltb-false _ _ h13)) (λ h11.
      by P (ltb b.size 50 && eqb b.nbo (b.nbb + 1) && not (eqb b.nbo (guaranteed_of b + 1))) _ _ (λ _. p12 (ltb-false _ _ h13)) (λ _. ok (ltb-false _ _ h13) (ltb-false _ _ h11)))))

  pub refusal-by : ((r : Refusal) → 2 ≤ number_of r → number_of r ≤ 9 → P (Err r)) → (Early b → P (range_refusal b)) → P (buy_refusal b)
  unfolding buy_refusal
  refusal-by p q =
      by P _ _ _ (λ _. p BetterThanNational (omega arith) (omega arith)) (λ h2.
      by P _ _ _ (λ _. p NoSize (omega arith) (omega arith)) (λ h3.
      by P (ltb b.time b.opens) _ _ (λ _. p BeforeOpen (omega arith) (omega arith)) (λ _.
      by P (leb b.closes (b.time + 1000)) _ _ (λ _. p NearClose (omega arith) (omega arith)) (λ _.
      by P (bit_at b.marks 0) _ _ (λ _. p Halted (omega arith) (omega arith)) (λ _.
      by P (bit_at b.marks 1) _ _ (λ _. p AnotherOpen (omega arith) (omega arith)) (λ _.
      by P _ _ _ (λ _. p NationalCrossed (omega arith) (omega arith)) (λ h8.
      by P _ _ _ (λ _. p ExchangeCentWide (omega arith) (omega arith)) (λ h9.
      q (record {
        bid = ltb-false _ _ (or_left _ (ltb b.bo b.nbo) h2);
        offer = ltb-false _ _ (or_right (ltb b.nbb b.bb) _ h2);
        size = let n : b.size ≡ 0 → ⊥ = eqb-false _ _ h3 in omega (arith, n);
        uncrossed = leb-false _ _ h8;
        wide = h9;
      })))))))))

-- 1 to 13
abbrev pub OrderNumber : Refusal → Type 0
OrderNumber r = (1 ≤ number_of r) × (number_of r ≤ 13)

-- an order is not refused, or by 1 to 13
pub order-numbered : (o : Order) → IfErr (order_refusal o) OrderNumber
unfolding order_refusal
order-numbered o =
    by P (not (order_formed o)) _ _ (λ _. (omega arith, omega arith))
    (λ _. refusal-by (buy_order o) P (λ r l m. (omega (arith, l), omega (arith, m)))
    (λ _. range-by (buy_order o) P (λ _. (omega arith, omega arith)) (λ _ _. (omega arith, omega arith)) (λ _. (omega arith, omega arith)) (λ _. (omega arith, omega arith)) (λ _ _. tt)))
  where
    P : Result (Unit {0}) Refusal → Type 0
    P x = IfErr x OrderNumber

-- what no refusal of a buy says of it
pub record Passed (b : Order) : Type 0 where
  pub size : 1 ≤ b.size
  pub ranged : first_bound b ≤ initiating_of b
  pub stop : b.stop ≤ initiating_of b

pub passed : (b : Order) → IfOk (buy_refusal b) (λ _. Passed b)
passed b =
    refusal-by b (λ x. IfOk x (λ _. Passed b)) (λ _ _ _. tt)
    (λ e. range-by b (λ x. IfOk x (λ _. Passed b)) (λ _. tt) (λ _ _. tt) (λ _. tt) (λ _. tt) (λ r s. record { size = e.size; ranged = r; stop = s }))

-- ---- an order that was accepted

pub record Opened (o : Order) (a : Auction) : Type 0 where
  pub formed : order_formed o ≡ true
  pub passes : Passed (buy_order o)
  pub auction : a ≡ auction_of o

-- an order in form is refused as its buy is
pub formed-refusal : (o : Order) → order_formed o ≡ true → order_refusal o ≡ buy_refusal (buy_order o)
unfolding order_refusal
formed-refusal o f = simp f

-- an order that 1 does not refuse is in form, and is refused as its buy is
pub refusal-of : (o : Order) (x : Result (Unit {0}) Refusal) → (Err OrderOutOfForm ≡ x → ⊥) → order_refusal o ≡ x → (order_formed o ≡ true) × (buy_refusal (buy_order o) ≡ x)
unfolding order_refusal
refusal-of o x h =
    by (λ (y : Result (Unit {0}) Refusal). y ≡ x → (order_formed o ≡ true) × (buy_refusal (buy_order o) ≡ x)) (not (order_formed o)) _ _ (λ _ z. absurd (h z)) (λ f z. (not-false _ f, z))

pub opened : (o : Order) {a : Auction} → accept_of o ≡ Ok a → Opened o a
unfolding accept_of order_refusal
opened o {a} =
    by (λ (x : Result (Unit {0}) Refusal). result_and x (Ok (auction_of o)) ≡ Ok a → Opened o a) (not (order_formed o)) _ _ (λ _ z. no cc)
    (λ f. go (not-false _ f) (buy_refusal (buy_order o)) (passed (buy_order o)))
  where
    go : order_formed o ≡ true → (x : Result (Unit {0}) Refusal) → IfOk x (λ _. Passed (buy_order o)) → result_and x (Ok (auction_of o)) ≡ Ok a → Opened o a
    go f (Ok u) p z = record { formed = f; passes = p; auction = cc }
    go f (Err r) p z = no cc

-- what is answered where there is no refusal
pub accepts : (o : Order) {a : Auction} → accept_of o ≡ Ok a → Accepts o
accepts o h = h ∙ ap Ok (opened o h).auction

pub refusal_is : (o : Order) (r : Refusal) → accept_of o ≡ Err r → order_refusal o ≡ Err r
unfolding accept_of
refusal_is o r = go (order_refusal o)
  where
    go : (x : Result (Unit {0}) Refusal) → result_and x (Ok (auction_of o)) ≡ Err r → x ≡ Err r
    go (Ok u) z = no cc
    go (Err q) z = cc

-- a buy's initiating price is not above its limit
pub below-limit : (b : Order) → initiating_of b ≤ b.limit
unfolding initiating_of
below-limit b = by (λ (k : ℕ). k ≤ b.limit) (ltb b.size 50) _ _ (λ _. omega arith) (λ _. omega arith)

-- the limit of an order in form is a price, and so is what is not above it
pub limit-fits : (o : Order) → order_formed o ≡ true → (buy_order o).limit ≤ 999999
unfolding buy_order mirrored_order mirrored
limit-fits o f = by (λ (b : Order). b.limit ≤ 999999) (eqb o.side 2) _ _ (λ _. omega (arith, (order-bounds o f).some-limit)) (λ _. (order-bounds o f).limit)

pub price-fits : (o : Order) → order_formed o ≡ true → initiating_of (buy_order o) ≤ 999999
price-fits o f = omega (arith, below-limit (buy_order o), limit-fits o f)
