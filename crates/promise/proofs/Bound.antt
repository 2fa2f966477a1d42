-- The quotes in real fields, and in the buy that the engine works with: what an event makes of them, and the bound. Assumes nothing.
use mathlib.Core.Logic.{◌≢◌}
use mathlib.Core.Path.{◌≡◌, refl, sym, ap, ap₂, ◌∙◌}
use mathlib.Core.Bool.{Bool, true, false, cond, not, ◌&&◌, ◌||◌}
use Prim.Native.Nat.{ℕ, ◌+◌, ◌-◌, ◌≤◌, min, max}
use native.Mathlib.Omega.{arith}
use borrow.Author.Tests.{ne_eqb, eqb-true, ltb-true, ltb-false, lt-leb, le-leb}
use lib.Dec.{leb, ltb, eqb}
use Rattle.base.specs.Price.{mirrored}
use Rattle.tape.specs.declared.order.Order.{Order}
use Rattle.tape.specs.declared.event.Event.{Event}
use Rattle.tape.specs.rules.Fields.{price_of, nbb_of, nbo_of, bb_of, bo_of}
use Rattle.tape.specs.rules.Form.{order_formed, event_formed}
use Rattle.tape.proofs.FormLaws.{OrderBounds, order-bounds}
use Rattle.mirror.specs.rules.Mirror.{mirrored_side, mirrored_order, mirrored_event, mirrored_priced, mirrored_quotes, buy_order, buy_event}
use Rattle.mirror.proofs.EventLaws.{mirror-three, mirror-five}
use Rattle.mirror.proofs.MirrorForm.{event-bounds, records-mirror}
use Rattle.trade.specs.rules.Write.{reported_price}
use Rattle.auction.specs.rules.Accept.{tick_of, bound_of, bid_mark, offer_mark, terms_of, quotes_of, opened_by, auction_of, Accepts}
use Rattle.auction.specs.rules.Range as bound
use Rattle.auction.specs.declared.Terms.{Terms}
use Rattle.auction.specs.declared.Quotes.{Quotes}
use Rattle.auction.proofs.Accepted.{opened, price-fits}
use Rattle.decision.specs.rules.Decide.{is_customer, is_non_routable, moves, bid_quotes, new_quotes}
use Rattle.run.proofs.MarketFrom.{buy-form}
use Rattle.promise.specs.rules.Sides.{is_sell, initiating_price}
use Rattle.promise.proofs.Sent.{buy-size}
use Rattle.promise.proofs.Opening.{initiating-formed}
use Rattle.promise.proofs.RealLaws.{better-shown, same-shown}
use Rattle.exact.specs.rules.EitherSide.{better, worse_of}
use Rattle.promise.specs.rules.Events.{Quoted, own_side, first_quoted, brought, outbid, bound_at, passes, marketable, raises}

-- ---- the quotes in real fields, and in the buy that the engine works with

pub record Reads (s : Bool) (r : Quoted) (q : Quotes) : Type 0 where
  pub own_is : q.nbb ≡ reported_price s r.own_national
  pub own-low : r.own_national ≤ 1000000
  pub price-is : q.bb ≡ reported_price s r.own
  pub mark-is : q.bidmark ≡ r.mark
  pub national-is : q.nbo ≡ reported_price s r.other_national
  pub exchange-is : q.bo ≡ reported_price s r.other
  pub low : r.own ≤ 1000000
  pub national-low : r.other_national ≤ 1000000
  pub exchange-low : r.other ≤ 1000000
  pub tight : q.bb ≤ 999999

-- the terms of the buy, by the order's fields
pub record Priced (o : Order) (t : Terms) : Type 0 where
  pub size_is : t.size ≡ o.size
  pub floor-is : t.floor ≡ reported_price (is_sell o) (cond (is_sell o) o.nbo o.nbb)
  pub floor-low : cond (is_sell o) o.nbo o.nbb ≤ 1000000
  pub floor-tight : t.floor ≤ 1000000
  pub start_is : initiating_price o ≡ reported_price (is_sell o) t.initiating
  pub start-low : t.initiating ≤ 1000000

-- what quotes bring
quotes-bb : (s : Bool) (e : Event) → e.kind ≡ 5 → bb_of (buy_event s e) ≡ reported_price s (cond s (bo_of e) (bb_of e))
unfolding buy_event mirrored_quotes
quotes-bb true e k = ap (λ (x : Event). bb_of x) (mirror-five e k)
quotes-bb false e k = refl

quotes-nbb : (s : Bool) (e : Event) → e.kind ≡ 5 → nbb_of (buy_event s e) ≡ reported_price s (cond s (nbo_of e) (nbb_of e))
unfolding buy_event mirrored_quotes
quotes-nbb true e k = ap (λ (x : Event). nbb_of x) (mirror-five e k)
quotes-nbb false e k = refl

quotes-mark : (s : Bool) (e : Event) → e.kind ≡ 5 → bid_mark (buy_event s e).marks ≡ cond s (offer_mark e.marks) (bid_mark e.marks)
unfolding buy_event mirrored_quotes
quotes-mark true e k = ap (λ (x : Event). bid_mark x.marks) (mirror-five e k) ∙ (records-mirror.marks e.marks).two
quotes-mark false e k = refl

quotes-nbo : (s : Bool) (e : Event) → e.kind ≡ 5 → nbo_of (buy_event s e) ≡ reported_price s (cond s (nbb_of e) (nbo_of e))
unfolding buy_event mirrored_quotes
quotes-nbo true e k = ap (λ (x : Event). nbo_of x) (mirror-five e k)
quotes-nbo false e k = refl

quotes-bo : (s : Bool) (e : Event) → e.kind ≡ 5 → bo_of (buy_event s e) ≡ reported_price s (cond s (bb_of e) (bo_of e))
unfolding buy_event mirrored_quotes
quotes-bo true e k = ap (λ (x : Event). bo_of x) (mirror-five e k)
quotes-bo false e k = refl

-- the own side of an event that has a side
pub side-shown : (s : Bool) (e : Event) → (mirrored_event e).side ≡ mirrored_side e.side → eqb (buy_event s e).side 1 ≡ eqb e.side (cond s 2 1)
unfolding buy_event mirrored_side
side-shown true e k = ap (λ (x : ℕ). eqb x 1) k ∙ go (eqb e.side 1) (eqb e.side 2) refl refl
  where
    go : (a b : Bool) → eqb e.side 1 ≡ a → eqb e.side 2 ≡ b → eqb (cond a 2 (cond b 1 e.side)) 1 ≡ b
    go true true x y = absurd (omega (arith, eqb-true e.side 1 x, eqb-true e.side 2 y))
    go true false x y = refl
    go false true x y = refl
    go false false x y = x
side-shown false e k = refl

-- a limit order
pub limit-side : (s : Bool) (e : Event) → e.kind ≡ 3 → eqb (buy_event s e).side 1 ≡ eqb e.side (cond s 2 1)
unfolding mirrored_priced
limit-side s e k = side-shown s e (ap (λ (x : Event). x.side) (mirror-three e k))

limit-price : (s : Bool) (e : Event) → e.kind ≡ 3 → price_of (buy_event s e) ≡ reported_price s (price_of e)
unfolding buy_event mirrored_priced
limit-price true e k = ap (λ (x : Event). price_of x) (mirror-three e k)
limit-price false e k = refl

limit-mark : (s : Bool) (e : Event) → e.kind ≡ 3 → is_customer (buy_event s e) ≡ is_customer e
unfolding buy_event mirrored_priced
limit-mark true e k = ap (λ (x : Event). is_customer x) (mirror-three e k)
limit-mark false e k = refl

limit-route : (s : Bool) (e : Event) → e.kind ≡ 3 → is_non_routable (buy_event s e) ≡ is_non_routable e
unfolding buy_event mirrored_priced
limit-route true e k = ap (λ (x : Event). is_non_routable x) (mirror-three e k)
limit-route false e k = refl

pub leb-not : (a b : ℕ) → leb a b ≡ not (ltb b a)
leb-not a b = go (ltb b a) refl
  where
    go : (t : Bool) → ltb b a ≡ t → leb a b ≡ not t
    go true z = lt-leb a b (ltb-true b a z)
    go false z = le-leb a b (ltb-false b a z)

-- lower in the buy is better in the order
turn-better : (s : Bool) (x y : ℕ) → x ≤ 1000000 → y ≤ 1000000 → ltb (reported_price s x) (reported_price s y) ≡ better s x y
turn-better true x y a b = better-shown true y x b a
turn-better false x y a b = refl

-- the mirror of the higher of a mirrored price and another number
mirror-higher : (x y : ℕ) → x ≤ 1000000 → 1000000 - max (1000000 - x) y ≡ min x (1000000 - y)
mirror-higher x y h = omega arith

mirror-less : (x t : ℕ) → x ≤ 1000000 → 1000000 - (1000000 - x + t) ≡ x - t
mirror-less x t h = omega arith

bound-shown : (s : Bool) (f p t : ℕ) → f ≤ 1000000 → p ≤ 1000000 → reported_price s (max (reported_price s f) (reported_price s p + t)) ≡ worse_of s f (cond s (p - t) (p + t))
unfolding mirrored
bound-shown true f p t h k = mirror-higher f (1000000 - p + t) h ∙ ap (min f) (mirror-less p t k)
bound-shown false f p t h k = refl

tick-low : (n : ℕ) (b : Bool) → tick_of n b ≤ 1
unfolding tick_of
tick-low n b = go (ltb n 50 || b)
  where
    go : (t : Bool) → cond t 1 0 ≤ 1
    go true = omega arith
    go false = omega arith

-- the bound, and whether it would pass the initiating price
module _ (o : Order) (t : Terms) (w : Priced o t) (r : Quoted) (q : Quotes) (k : Reads (is_sell o) r q) where
  pub bound-real : reported_price (is_sell o) (bound.bound_by t q) ≡ bound_at o r
  unfolding bound_of
  bound-real =
      (λ i. reported_price (is_sell o) (max (w.floor-is i) (k.price-is i + tick_of (w.size_is i) (k.mark-is i))))
      ∙ bound-shown (is_sell o) (cond (is_sell o) o.nbo o.nbb) r.own (tick_of o.size r.mark) w.floor-low k.low

  pub bound-low : bound.bound_by t q ≤ 1000000
  unfolding bound_of
  bound-low = omega (arith, w.floor-tight, k.tight, tick-low t.size q.bidmark)

  pub passes-is : ltb t.initiating (bound.bound_by t q) ≡ passes o r
  passes-is =
      sym (better-shown (is_sell o) t.initiating (bound.bound_by t q) w.start-low bound-low)
      ∙ ap₂ (λ (x y : ℕ). better (is_sell o) x y) (sym w.start_is) bound-real

higher-shown : (s : Bool) (a b : ℕ) → max (reported_price s a) (reported_price s b) ≡ reported_price s (worse_of s a b)
unfolding mirrored
higher-shown true a b = omega arith
higher-shown false a b = refl

module _ (o : Order) (t : Terms) (w : Priced o t) (e : Event) (f : event_formed e ≡ true) (r : Quoted) (q : Quotes) (k : Reads (is_sell o) r q) where
  abbrev s : Bool
  s = is_sell o

  abbrev m : Event
  m = buy_event (is_sell o) e

  small : price_of e ≤ 1000000
  small = omega (arith, (event-bounds e f).price)

  pub as-brought : e.kind ≡ 5 → Reads (is_sell o) (brought o e) (new_quotes m)
  unfolding new_quotes
  as-brought z =
      record {
        own_is = quotes-nbb s e z;
        own-low = own s;
        price-is = quotes-bb s e z;
        mark-is = quotes-mark s e z;
        national-is = quotes-nbo s e z;
        exchange-is = quotes-bo s e z;
        low = first s;
        national-low = national s;
        exchange-low = exchange s;
        tight = (event-bounds m (buy-form s e f)).bb;
      }
    where
      first : (t : Bool) → cond t (bo_of e) (bb_of e) ≤ 1000000
      first true = (event-bounds e f).bo
      first false = omega (arith, (event-bounds e f).bb)

      own : (t : Bool) → cond t (nbo_of e) (nbb_of e) ≤ 1000000
      own true = omega (arith, (event-bounds e f).price)
      own false = omega (arith, (event-bounds e f).nbb z)

      national : (t : Bool) → cond t (nbb_of e) (nbo_of e) ≤ 1000000
      national true = omega (arith, (event-bounds e f).nbb z)
      national false = omega (arith, (event-bounds e f).price)

      exchange : (t : Bool) → cond t (bb_of e) (bo_of e) ≤ 1000000
      exchange true = omega (arith, (event-bounds e f).bb)
      exchange false = (event-bounds e f).bo

  module _ (z : e.kind ≡ 3) where
    raised : ltb q.bb (price_of m) ≡ better (is_sell o) r.own (price_of e)
    raised = ap₂ (λ (x y : ℕ). ltb x y) k.price-is (limit-price s e z) ∙ turn-better s r.own (price_of e) k.low small

    matched : eqb (price_of m) q.bb ≡ eqb (price_of e) r.own
    matched = ap₂ (λ (x y : ℕ). eqb x y) (limit-price s e z) k.price-is ∙ same-shown s (price_of e) r.own small k.low

    pub as-bid : Reads (is_sell o) (outbid o r e) (bid_quotes q (price_of m) (is_customer m))
    unfolding bid_quotes
    as-bid =
        record {
          own_is = ap₂ (λ (x y : ℕ). max x y) k.own_is (limit-price s e z) ∙ higher-shown s r.own_national (price_of e);
          own-low = most r.own_national k.own-low s;
          price-is = ap₂ (λ (x y : ℕ). max x y) k.price-is (limit-price s e z) ∙ higher-shown s r.own (price_of e);
          mark-is = λ i. cond (raised i) (limit-mark s e z i) (k.mark-is i || (matched i && limit-mark s e z i));
          national-is = k.national-is;
          exchange-is = k.exchange-is;
          low = most r.own k.low s;
          national-low = k.national-low;
          exchange-low = k.exchange-low;
          tight = omega (arith, k.tight, (event-bounds m (buy-form s e f)).price);
        }
      where
        most : (p : ℕ) → p ≤ 1000000 → (t : Bool) → worse_of t p (price_of e) ≤ 1000000
        most p l true = omega arith
        most p l false = omega (arith, small)

    raises-is : moves q (price_of m) (is_customer m) ≡ raises o r e
    raises-is = λ i. raised i || (matched i && limit-mark s e z i && not (k.mark-is i))

    across-is : cond (is_non_routable m) q.bo q.nbo ≡ reported_price s (cond (is_non_routable e) r.other r.other_national)
    across-is = ap (λ (b : Bool). cond b q.bo q.nbo) (limit-route s e z) ∙ go (is_non_routable e)
      where
        go : (b : Bool) → cond b q.bo q.nbo ≡ reported_price (is_sell o) (cond b r.other r.other_national)
        go true = k.exchange-is
        go false = k.national-is

    across-low : cond (is_non_routable e) r.other r.other_national ≤ 1000000
    across-low = go (is_non_routable e)
      where
        go : (b : Bool) → cond b r.other r.other_national ≤ 1000000
        go true = k.exchange-low
        go false = k.national-low

    -- of the own side: against the other side's best
    pub crosses-is : eqb e.side (own_side o) ≡ true → leb (cond (is_non_routable m) q.bo q.nbo) (price_of m) ≡ marketable o r e
    crosses-is d =
        leb-not (cond (is_non_routable m) q.bo q.nbo) (price_of m)
        ∙ ap not (ap₂ (λ (x y : ℕ). ltb x y) (limit-price s e z) across-is ∙ turn-better s (price_of e) (cond (is_non_routable e) r.other r.other_national) small across-low)
        ∙ sym (ap (λ (b : Bool). cond b (not (better (is_sell o) (price_of e) (cond (is_non_routable e) r.other r.other_national))) (not (better (is_sell o) (cond (is_non_routable e) r.own r.own_national) (price_of e)))) d)

    -- of the other side: against the own side's best
    pub meets-is : eqb e.side (own_side o) ≡ false → leb (price_of m) (cond (is_non_routable m) q.bb q.nbb) ≡ marketable o r e
    meets-is d =
        leb-not (price_of m) (cond (is_non_routable m) q.bb q.nbb)
        ∙ ap not (ap₂ (λ (x y : ℕ). ltb x y) (ap (λ (b : Bool). cond b q.bb q.nbb) (limit-route s e z) ∙ ours (is_non_routable e)) (limit-price s e z) ∙ turn-better s (cond (is_non_routable e) r.own r.own_national) (price_of e) (low (is_non_routable e)) small)
        ∙ sym (ap (λ (b : Bool). cond b (not (better (is_sell o) (price_of e) (cond (is_non_routable e) r.other r.other_national))) (not (better (is_sell o) (cond (is_non_routable e) r.own r.own_national) (price_of e)))) d)
      where
        ours : (b : Bool) → cond b q.bb q.nbb ≡ reported_price (is_sell o) (cond b r.own r.own_national)
        ours true = k.price-is
        ours false = k.own_is

        low : (b : Bool) → cond b r.own r.own_national ≤ 1000000
        low true = k.low
        low false = k.own-low

    pub tests-bid : (moves q (price_of m) (is_customer m) && ltb t.initiating (bound.bound_by t (bid_quotes q (price_of m) (is_customer m)))) ≡ (raises o r e && passes o (outbid o r e))
    tests-bid = ap₂ (λ (x y : Bool). x && y) raises-is (passes-is o t w (outbid o r e) (bid_quotes q (price_of m) (is_customer m)) as-bid)

-- ---- an order in form, and an accepted one

module _ (o : Order) (f : order_formed o ≡ true) where
  -- its terms
  pub priced-formed : Priced o (terms_of (is_sell o) (buy_order o))
  unfolding terms_of buy_order mirrored_order mirrored
  priced-formed =
      record {
        size_is = buy-size o;
        floor-is = same (is_sell o);
        floor-low = low (is_sell o);
        floor-tight = tight (is_sell o);
        start_is = initiating-formed o f;
        start-low = omega (arith, price-fits o f);
      }
    where
      same : (s : Bool) → (cond {A = Order} s (mirrored_order o) o).nbb ≡ reported_price s (cond s o.nbo o.nbb)
      same true = refl
      same false = refl

      low : (s : Bool) → cond s o.nbo o.nbb ≤ 1000000
      low true = omega (arith, (order-bounds o f).nbo)
      low false = omega (arith, (order-bounds o f).nbb)

      tight : (s : Bool) → (cond {A = Order} s (mirrored_order o) o).nbb ≤ 1000000
      tight true = omega arith
      tight false = omega (arith, (order-bounds o f).nbb)

  -- its quotes
  pub first-formed : Reads (is_sell o) (first_quoted o) (quotes_of (buy_order o))
  unfolding quotes_of buy_order mirrored_order mirrored
  first-formed = go (is_sell o) (order-bounds o f)
    where
      go : (s : Bool) → OrderBounds o → Reads s (record { own = cond s o.bo o.bb; mark = cond s (offer_mark o.marks) (bid_mark o.marks); own_national = cond s o.nbo o.nbb; other = cond s o.bb o.bo; other_national = cond s o.nbb o.nbo }) (quotes_of (cond s (mirrored_order o) o))
      go true k =
          record { own_is = refl; own-low = omega (arith, k.nbo); price-is = refl; mark-is = (records-mirror.marks o.marks).two; national-is = refl; exchange-is = refl; low = k.bo; national-low = omega (arith, k.nbb); exchange-low = omega (arith, k.bb); tight = omega (arith, k.some-bo) }
      go false k =
          record { own_is = refl; own-low = omega (arith, k.nbb); price-is = refl; mark-is = refl; national-is = refl; exchange-is = refl; low = omega (arith, k.bb); national-low = omega (arith, k.nbo); exchange-low = k.bo; tight = k.bb }

-- its stop, which mode 2 has none of
pub buy-stop : (o : Order) → o.mode ≢ 2 → (buy_order o).stop ≡ reported_price (is_sell o) o.stop
unfolding buy_order mirrored_order
buy-stop o n = go (is_sell o)
  where
    go : (s : Bool) → (cond {A = Order} s (mirrored_order o) o).stop ≡ reported_price s o.stop
    go true = simp (ne_eqb o.mode 2 n)
    go false = refl

module _ (o : Order) (h : Accepts o) where
  pub ours-of : Priced o (auction_of o).head.terms
  unfolding opened_by
  ours-of = priced-formed o (opened o h).formed

  pub at_first : Reads (is_sell o) (first_quoted o) (auction_of o).head.quotes
  unfolding opened_by
  at_first = first-formed o (opened o h).formed
