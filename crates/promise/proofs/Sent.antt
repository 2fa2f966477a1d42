-- A record as it was sent: its side, size and price are those that the engine works with, mirrored back for a sell. Assumes nothing.
use mathlib.Core.Path.{◌≡◌, refl, sym, ap, ◌∙◌}
use mathlib.Core.Bool.{Bool, true, false, cond}
use mathlib.Core.List.{List, [], ◌∷◌, map}
use mathlib.Core.Logic.{◌⊎◌, inl, inr}
use Prim.Native.Nat.{ℕ, min}
use native.Mathlib.Omega.{arith}
use Rattle.base.specs.Lists.{Every}
use Rattle.base.specs.Price.{mirrored}
use Rattle.base.proofs.Bools.{by}
use Rattle.base.proofs.Numbers.{mirror-twice}
use Rattle.board.specs.declared.Response.{Response}
use Rattle.tape.specs.declared.order.Order.{Order}
use Rattle.tape.specs.declared.event.Event.{Event}
use Rattle.tape.specs.rules.Form.{event_formed}
use Rattle.tape.specs.rules.Fields.{size_of, price_of, new_size_of, new_price_of}
use Rattle.mirror.specs.rules.Mirror.{mirrored_side, mirrored_order, mirrored_priced, mirrored_market, mirrored_event, buy_order, buy_event, mirrored_amend}
use Rattle.mirror.proofs.EventLaws.{buy-sequence, buy-participant, mirror-one, mirror-three, mirror-four, mirror-six, amend-size}
use Rattle.mirror.proofs.MirrorForm.{side-twice, event-bounds}
use Rattle.trade.specs.rules.Write.{reported_price}
use Rattle.auction.specs.declared.Terms.{Terms}
use Rattle.auction.specs.rules.Accept.{terms_of, opened_by, auction_of, Accepts}
use Rattle.decision.specs.rules.Decide.{is_customer, response_of, amended_by}
use Rattle.promise.specs.rules.Sides.{is_sell, sent, sent_by, sent_instead}
use lib.Dec.{eqb}
use borrow.Author.Tests.{eq-eqb, ne_eqb}

pub buy-size : (o : Order) → (buy_order o).size ≡ o.size
unfolding buy_order mirrored_order
buy-size o = by (λ (b : Order). b.size ≡ o.size) (eqb o.side 2) _ _ (λ _. refl) (λ _. refl)

-- the side and the size of an accepted order are those of its auction
pub terms-sell : (o : Order) → Accepts o → (auction_of o).head.terms.sell ≡ is_sell o
unfolding opened_by terms_of
terms-sell o h = refl

pub terms-size : (o : Order) → Accepts o → (auction_of o).head.terms.size ≡ o.size
unfolding opened_by terms_of
terms-size o h = buy-size o

-- side 2 for the engine is the other side
side-back : (s : ℕ) → mirrored_side s ≡ 2 → s ≡ 1
unfolding mirrored_side
side-back s h = sym (side-twice s) ∙ ap mirrored_side h

priced : (e : Event) → (e.kind ≡ 1) ⊎ (e.kind ≡ 3) → mirrored_event e ≡ mirrored_priced e
priced e (inl k) = mirror-one e k
priced e (inr k) = mirror-three e k

pub priced-side : (sell : Bool) (e : Event) → (e.kind ≡ 1) ⊎ (e.kind ≡ 3) → (buy_event sell e).side ≡ 2 → e.side ≡ cond sell 1 2
unfolding buy_event mirrored_priced
priced-side true e k h = side-back e.side (ap (λ (x : Event). x.side) (sym (priced e k)) ∙ h)
priced-side false e k h = h

pub market-side : (sell : Bool) (e : Event) → e.kind ≡ 4 → (buy_event sell e).side ≡ 2 → e.side ≡ cond sell 1 2
unfolding buy_event mirrored_market
market-side true e k h = side-back e.side (ap (λ (x : Event). x.side) (sym (mirror-four e k)) ∙ h)
market-side false e k h = h

pub side-market : (sell : Bool) (e : Event) → e.kind ≡ 4 → e.side ≡ cond sell 1 2 → (buy_event sell e).side ≡ 2
unfolding buy_event mirrored_market mirrored_side
side-market true e k h = ap (λ (x : Event). x.side) (mirror-four e k) ∙ ap mirrored_side h
side-market false e k h = h

-- its price comes back, its mark and its size stay
pub sent-price : (sell : Bool) (e : Event) → (e.kind ≡ 1) ⊎ (e.kind ≡ 3) → event_formed e ≡ true → reported_price sell (price_of (buy_event sell e)) ≡ price_of e
unfolding buy_event mirrored_priced
sent-price true e k f = ap (λ (x : Event). mirrored (price_of x)) (priced e k) ∙ mirror-twice (price_of e) (omega (arith, (event-bounds e f).price))
sent-price false e k f = refl

sent-customer : (sell : Bool) (e : Event) → (e.kind ≡ 1) ⊎ (e.kind ≡ 3) → is_customer (buy_event sell e) ≡ is_customer e
unfolding buy_event mirrored_priced
sent-customer true e k = ap (λ (x : Event). is_customer x) (priced e k)
sent-customer false e k = refl

sent-size : (sell : Bool) (e : Event) → (e.kind ≡ 1) ⊎ (e.kind ≡ 3) → size_of (buy_event sell e) ≡ size_of e
unfolding buy_event mirrored_priced
sent-size true e k = ap (λ (x : Event). size_of x) (priced e k)
sent-size false e k = refl

pub new-price : (sell : Bool) (e : Event) → e.kind ≡ 6 → event_formed e ≡ true → reported_price sell (new_price_of (buy_event sell e)) ≡ new_price_of e
unfolding buy_event mirrored_amend
new-price true e k f = ap (λ (x : Event). mirrored (new_price_of x)) (mirror-six e k) ∙ mirror-twice (new_price_of e) (omega (arith, (event-bounds e f).bb))
new-price false e k f = refl

-- a response is what its fields are
response-is : (r x : Response) → r.sequence ≡ x.sequence → r.size ≡ x.size → r.price ≡ x.price → r.participant ≡ x.participant → r.customer ≡ x.customer → r.gtx ≡ x.gtx → r ≡ x
response-is r x p q s f t u = λ i. record { sequence = p i; size = q i; price = s i; participant = f i; customer = t i; gtx = u i }

-- a GTX response or a limit order, for an auction with the order's side and size, is as the record sent it
module _ (o : Order) (t : Terms) (e : Event) (sell : t.sell ≡ is_sell o) (size : t.size ≡ o.size) (f : event_formed e ≡ true) where
  abbrev m : Event
  m = buy_event t.sell e

  -- the price that comes back
  price-back : (e.kind ≡ 1) ⊎ (e.kind ≡ 3) → reported_price (is_sell o) (price_of m) ≡ price_of e
  price-back k = ap (λ (s : Bool). reported_price (is_sell o) (price_of (buy_event s e))) sell ∙ sent-price (is_sell o) e k f

  pub sent-gtx : e.kind ≡ 1 → sent (is_sell o) (response_of true (min (size_of m) t.size) m) ≡ sent_by o e
  sent-gtx k =
      response-is (sent (is_sell o) (response_of true (min (size_of m) t.size) m)) (sent_by o e) (buy-sequence e t.sell)
      (ap (λ (n : ℕ). min n t.size) (sent-size t.sell e (inl k)) ∙ ap (min (size_of e)) size ∙ sym (ap (λ (b : Bool). cond b (min (size_of e) o.size) (size_of e)) (eq-eqb e.kind 1 k)))
      (price-back (inl k)) (buy-participant e t.sell) (sent-customer t.sell e (inl k)) (sym (eq-eqb e.kind 1 k))

  pub sent-limit : e.kind ≡ 3 → sent (is_sell o) (response_of false (size_of m) m) ≡ sent_by o e
  sent-limit k =
      let n : eqb e.kind 1 ≡ false = ne_eqb e.kind 1 (λ z. omega arith) in
      response-is (sent (is_sell o) (response_of false (size_of m) m)) (sent_by o e) (buy-sequence e t.sell)
      (sent-size t.sell e (inr k) ∙ sym (ap (λ (b : Bool). cond b (min (size_of e) o.size) (size_of e)) n))
      (price-back (inr k)) (buy-participant e t.sell) (sent-customer t.sell e (inr k)) (sym n)

  -- an amend's response is as the record sent it instead of the old one
  pub sent-amend : (old : Response) → e.kind ≡ 6 → sent (is_sell o) (amended_by t old m) ≡ sent_instead o e (sent (is_sell o) old)
  sent-amend old k =
      response-is (sent (is_sell o) (amended_by t old m)) (sent_instead o e (sent (is_sell o) old)) (buy-sequence e t.sell)
      (ap (λ (n : ℕ). min n t.size) (amend-size e t.sell k) ∙ ap (min (new_size_of e)) size)
      (ap (λ (s : Bool). reported_price (is_sell o) (new_price_of (buy_event s e))) sell ∙ new-price (is_sell o) e k f)
      (buy-participant e t.sell) refl refl

-- what holds of each as it was sent
pub every-sent : (P : Response → Type 0) (sell : Bool) (rs : List Response) → Every (λ r. P (sent sell r)) rs → Every P (map (sent sell) rs)
every-sent P sell [] a = tt
every-sent P sell (r ∷ rs) a = (a.0, every-sent P sell rs a.1)
