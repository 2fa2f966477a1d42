-- Fills as they are written and responses as they were sent, beside those of the buy that the engine works with. Assumes nothing.
use mathlib.Core.Path.{◌≡◌, refl, sym, ap, subst, ◌∙◌}
use mathlib.Core.Bool.{Bool, true, false, cond, not, ◌&&◌}
use mathlib.Core.List.{List, [], ◌∷◌, map}
use mathlib.Core.Logic.{inl, inr}
use Prim.Native.Nat.{ℕ, ◌+◌, ◌-◌, ◌≤◌, min, max}
use native.Mathlib.Omega.{arith}
use lib.Dec.{leb, ltb, eqb}
use borrow.Author.Tests.{ltb-true, ltb-false, lt-ltb, le-ltb, eqb-true, eqb-false, eq-eqb, ne_eqb}
use Rattle.base.specs.Lists.{In, Every, keep, filter}
use Rattle.base.specs.Price.{mirrored}
use Rattle.base.proofs.Bools.{by}
use Rattle.base.proofs.ListLaws.{every_in, every_map, every_any}
use Rattle.board.specs.declared.Response.{Response}
use Rattle.board.specs.rules.Board.{live_of, inserted, in_sequence}
use Rattle.share.specs.rules.Fills.{Fill, sizes}
use Rattle.tape.specs.declared.order.Order.{Order}
use Rattle.tape.specs.declared.event.Event.{Event}
use Rattle.trade.specs.declared.Deal.{Deal}
use Rattle.trade.specs.rules.Trade.{offers, fills, working}
use Rattle.trade.specs.rules.Write.{reported_price, reported, fills_of}
use Rattle.demand.specs.promises.Demands.{tally, got, is_market, InRange, Demand3}
use Rattle.mirror.specs.rules.Mirror.{mirrored_order, buy_order}
use Rattle.auction.specs.rules.Accept.{terms_of, opened_by, auction_of, Accepts}
use Rattle.auction.specs.rules.Range.{is_open, bound_now, range_of}
use Rattle.auction.specs.declared.Auction.{Auction}
use Rattle.auction.specs.declared.Terms.{Terms}
use Rattle.auction.specs.declared.Range.{Range}
use Rattle.events.specs.rules.Step.{close_of, close_turn, ended_by_time, board_after}
use Rattle.events.specs.declared.Turn.{Turn}
use Rattle.fills.specs.rules.Fills.{deal_of}
use Rattle.run.specs.rules.Run.{run}
use Rattle.run.specs.promises.Demands.{Stands, Sound, Trades}
use Rattle.demand.specs.promises.Demands as demands
use Rattle.run.proofs.MarketFrom.{run-terms}
use Rattle.run.proofs.SoundLaws.{sound-opened, sound-run, sound-close, demanded}
use Rattle.promise.specs.rules.Sides.{is_sell, better, sent, at_end, range_at_end, written_fills, live_at_end, market_order, walked_fills, working_price}

-- ---- prices, up to 1,000,000: mirroring loses nothing

pub better-shown : (s : Bool) (p q : ℕ) → p ≤ 1000000 → q ≤ 1000000 → better s (reported_price s p) (reported_price s q) ≡ ltb p q
unfolding mirrored
better-shown false p q h k = refl
better-shown true p q h k = go (ltb p q) refl
  where
    go : (b : Bool) → ltb p q ≡ b → ltb (1000000 - q) (1000000 - p) ≡ b
    go true e = lt-ltb (1000000 - q) (1000000 - p) (omega (arith, ltb-true p q e))
    go false e = le-ltb (1000000 - q) (1000000 - p) (omega (arith, ltb-false p q e))

pub same-shown : (s : Bool) (p q : ℕ) → p ≤ 1000000 → q ≤ 1000000 → eqb (reported_price s p) (reported_price s q) ≡ eqb p q
unfolding mirrored
same-shown false p q h k = refl
same-shown true p q h k = go (eqb p q) refl
  where
    go : (b : Bool) → eqb p q ≡ b → eqb (1000000 - p) (1000000 - q) ≡ b
    go true e = let z : p ≡ q = eqb-true p q e in eq-eqb (1000000 - p) (1000000 - q) (omega arith)
    go false e = let n : p ≡ q → ⊥ = eqb-false p q e in ne_eqb (1000000 - p) (1000000 - q) (λ z. n (omega arith))

-- the real price of a real price is the price of the buy
pub shown-twice : (s : Bool) (p : ℕ) → p ≤ 1000000 → reported_price s (reported_price s p) ≡ p
unfolding mirrored
shown-twice false p h = refl
shown-twice true p h = omega arith

-- ---- a fill as it is written

abbrev pub shown : Bool → Fill → Fill
shown s f = record { party = f.party; price = reported_price s f.price; quantity = f.quantity }

-- what follows of each written fill from what holds of the fill
pub every-shown : (s : Bool) (P Q : Fill → Type 0) (fs : List Fill) → ((f : Fill) → In f fs → P f → Q (shown s f)) → Every P fs → Every Q (reported s fs)
every-shown s P Q [] g h = tt
every-shown s P Q (f ∷ fs) g h = (g f (inl refl) h.0, every-shown s P Q fs (λ x i. g x (inr i)) h.1)

-- the fill that a written fill shows
pub record Shows (s : Bool) (fs : List Fill) (f : Fill) : Type 0 where
  pub fill : Fill
  pub one_of : In fill fs
  pub is : f ≡ shown s fill

pub in-shown : (s : Bool) (fs : List Fill) (f : Fill) → In f (reported s fs) → Shows s fs f
in-shown s [] f i = absurd i
in-shown s (x ∷ fs) f (inl e) = record { fill = x; one_of = inl refl; is = e }
in-shown s (x ∷ fs) f (inr i) = let k = in-shown s fs f i in record { fill = k.fill; one_of = inr k.one_of; is = k.is }

-- tallies and filters, by a test that says the same of each fill as it is written
pub tally-shown : (s : Bool) (t u : Fill → Bool) (fs : List Fill) → Every (λ f. t (shown s f) ≡ u f) fs → tally t (reported s fs) ≡ tally u fs
tally-shown s t u [] h = refl
tally-shown s t u (f ∷ fs) h = rw h.0 (ap (λ (n : ℕ). cond (u f) f.quantity 0 + n) (tally-shown s t u fs h.1))

pub filter-shown : (s : Bool) (t u : Fill → Bool) (fs : List Fill) → Every (λ f. t (shown s f) ≡ u f) fs → filter t (reported s fs) ≡ reported s (filter u fs)
unfolding filter
filter-shown s t u [] h = refl
filter-shown s t u (f ∷ fs) h = rw h.0 (go (u f) (filter-shown s t u fs h.1))
  where
    go : (b : Bool) → filter t (reported s fs) ≡ reported s (filter u fs) → keep b (shown s f) (filter t (reported s fs)) ≡ reported s (keep b f (filter u fs))
    go true e = ap {B = List Fill} (λ zs. shown s f ∷ zs) e
    go false e = e

pub got-shown : (s : Bool) (k : ℕ) (fs : List Fill) → got k (reported s fs) ≡ got k fs
got-shown s k fs = tally-shown s (λ f. eqb f.party k) (λ f. eqb f.party k) fs (every_any (λ f. eqb f.party k ≡ eqb f.party k) fs (λ f. refl))

-- ---- a response as it was sent

-- the live response that a response as it was sent is
pub record Sent (s : Bool) (rs : List Response) (r : Response) : Type 0 where
  pub response : Response
  pub live : In response rs
  pub is : r ≡ sent s response

pub in-sent : (s : Bool) (rs : List Response) (r : Response) → In r (map (sent s) rs) → Sent s rs r
in-sent s [] r i = absurd i
in-sent s (x ∷ rs) r (inl e) = record { response = x; live = inl refl; is = e }
in-sent s (x ∷ rs) r (inr i) = let k = in-sent s rs r i in record { response = k.response; live = inr k.live; is = k.is }

pub sent-in : (s : Bool) (rs : List Response) (r : Response) → In r rs → In (sent s r) (map (sent s) rs)
sent-in s [] r i = absurd i
sent-in s (x ∷ rs) r (inl e) = inl (ap (sent s) e)
sent-in s (x ∷ rs) r (inr i) = inr (sent-in s rs r i)

pub filter-sent : (s : Bool) (t u : Response → Bool) (rs : List Response) → Every (λ r. t (sent s r) ≡ u r) rs → filter t (map (sent s) rs) ≡ map (sent s) (filter u rs)
unfolding filter
filter-sent s t u [] h = refl
filter-sent s t u (r ∷ rs) h = rw h.0 (go (u r) (filter-sent s t u rs h.1))
  where
    go : (b : Bool) → filter t (map (sent s) rs) ≡ map (sent s) (filter u rs) → keep b (sent s r) (filter t (map (sent s) rs)) ≡ map (sent s) (keep b r (filter u rs))
    go true e = ap {B = List Response} (λ zs. sent s r ∷ zs) e
    go false e = e

-- by sequence
inserted-sent : (sell : Bool) (r : Response) (rs : List Response) → inserted (sent sell r) (map (sent sell) rs) ≡ map (sent sell) (inserted r rs)
unfolding inserted
inserted-sent sell r [] = refl
inserted-sent sell r (x ∷ rs) = go (leb r.sequence x.sequence) (inserted-sent sell r rs)
  where
    go : (b : Bool) → inserted (sent sell r) (map (sent sell) rs) ≡ map (sent sell) (inserted r rs) → cond b (sent sell r ∷ sent sell x ∷ map (sent sell) rs) (sent sell x ∷ inserted (sent sell r) (map (sent sell) rs)) ≡ map (sent sell) (cond b (r ∷ x ∷ rs) (x ∷ inserted r rs))
    go true ih = refl
    go false ih = ap (λ (xs : List Response). sent sell x ∷ xs) ih

pub sequence-sent : (sell : Bool) (rs : List Response) → in_sequence (map (sent sell) rs) ≡ map (sent sell) (in_sequence rs)
unfolding in_sequence
sequence-sent sell [] = refl
sequence-sent sell (r ∷ rs) = ap (inserted (sent sell r)) (sequence-sent sell rs) ∙ inserted-sent sell r (in_sequence rs)

pub sizes-sent : (s : Bool) (rs : List Response) → sizes (map (sent s) rs) ≡ sizes rs
sizes-sent s [] = refl
sizes-sent s (r ∷ rs) = ap {B = List ℕ} (λ zs. r.size ∷ zs) (sizes-sent s rs)

-- ---- closing by hand leaves the terms and the board

pub close-terms : (a : Auction) → (close_of a).auction.head.terms ≡ a.head.terms
unfolding close_turn ended_by_time
close-terms a = by (λ (t : Turn). t.head.terms ≡ a.head.terms) (is_open a.head.ending) _ _ (λ _. refl) (λ _. refl)

pub close-board : (a : Auction) → (close_of a).auction.board ≡ a.board
unfolding close_turn
close-board a = by (λ (t : Turn). board_after a.board t.change ≡ a.board) (is_open a.head.ending) _ _ (λ _. refl) (λ _. refl)

-- ---- an accepted order, and the records after it: the auction once ended

module _ (o : Order) (es : List Event) (h : Accepts o) where
  -- the deal, the live responses and the fills of the buy that the engine works with
  abbrev pub deal : Deal
  deal = deal_of (at_end o es).head

  abbrev pub live : List Response
  live = live_of (at_end o es).board

  abbrev pub dealt : List Fill
  dealt = fills deal (offers (at_end o es).board)

  pub sound : Sound (at_end o es)
  sound = sound-close (run (auction_of o) es) (sound-run es (auction_of o) (sound-opened o h))

  pub ended-well : Trades (at_end o es)
  ended-well = demanded.demand-3 o es h

  pub demand : Demand3 deal (at_end o es).board dealt
  demand = ended-well.clauses

  -- the terms are those of the buy
  pub terms-are : (at_end o es).head.terms ≡ terms_of (is_sell o) (buy_order o)
  unfolding opened_by
  terms-are = close-terms (run (auction_of o) es) ∙ run-terms es (auction_of o)

  pub sell-is : (at_end o es).head.terms.sell ≡ is_sell o
  unfolding terms_of
  sell-is = ap (λ (t : Terms). t.sell) terms-are

  pub mode-is : (at_end o es).head.terms.mode ≡ o.mode
  unfolding terms_of buy_order mirrored_order
  mode-is = ap (λ (t : Terms). t.mode) terms-are ∙ by (λ (b : Order). b.mode ≡ o.mode) (is_sell o) _ _ (λ _. refl) (λ _. refl)

  pub size_is : (at_end o es).head.terms.size ≡ o.size
  unfolding terms_of buy_order mirrored_order
  size_is = ap (λ (t : Terms). t.size) terms-are ∙ by (λ (b : Order). b.size ≡ o.size) (is_sell o) _ _ (λ _. refl) (λ _. refl)

  -- the written fills and the responses that were live
  pub written_is : written_fills o es ≡ reported (is_sell o) dealt
  unfolding fills_of deal_of
  written_is = ap (λ (s : Bool). reported s dealt) sell-is

  pub there-is : live_at_end o es ≡ map (sent (is_sell o)) live
  there-is = ap (λ (s : Bool). map (sent s) live) sell-is

  pub board-is : (at_end o es).board ≡ (run (auction_of o) es).board
  board-is = close-board (run (auction_of o) es)

  -- every price is at most the initiating price, so a price
  pub initiating-fits : deal.initiating ≤ 999999
  unfolding deal_of
  initiating-fits = sound.price

  pub bound-fits : deal.bound ≤ deal.initiating
  unfolding deal_of bound_now
  bound-fits = omega (arith, sound.bound-below)

  pub stop-fits : deal.stop ≤ deal.initiating
  unfolding deal_of
  stop-fits = sound.stop-below

  pub price-fits : (f : Fill) → In f dealt → f.price ≤ 999999
  price-fits f i = omega (arith, (every_in _ dealt f demand.in-range i).high, initiating-fits)

  pub prices-fit : Every (λ f. f.price ≤ 1000000) dealt
  prices-fit = every_map (InRange deal) (λ f. f.price ≤ 1000000) dealt (λ f k. omega (arith, k.high, initiating-fits)) demand.in-range

  pub sent-fits : (r : Response) → In r live → r.price ≤ deal.initiating
  unfolding deal_of
  sent-fits r i = (every_in (Stands (at_end o es).head.sequence (at_end o es).head.terms.initiating) live r sound.live i).4

  pub working-fits : (r : Response) → In r live → working deal r ≤ 999999
  working-fits r i = omega (arith, sent-fits r i, bound-fits, initiating-fits)

  -- the range in real prices
  pub low-is : (range_at_end o es).low ≡ cond (is_sell o) (mirrored deal.initiating) deal.bound
  unfolding range_of deal_of
  low-is = go (at_end o es).head.terms.sell ∙ ap (λ (s : Bool). cond s (mirrored (at_end o es).head.terms.initiating) (bound_now (at_end o es).head)) sell-is
    where
      go : (s : Bool) → (cond {A = Range} s (record { low = mirrored (at_end o es).head.terms.initiating; high = mirrored (bound_now (at_end o es).head) }) (record { low = bound_now (at_end o es).head; high = (at_end o es).head.terms.initiating })).low
          ≡ cond s (mirrored (at_end o es).head.terms.initiating) (bound_now (at_end o es).head)
      go true = refl
      go false = refl

  pub high_is : (range_at_end o es).high ≡ cond (is_sell o) (mirrored deal.bound) deal.initiating
  unfolding range_of deal_of
  high_is = go (at_end o es).head.terms.sell ∙ ap (λ (s : Bool). cond s (mirrored (bound_now (at_end o es).head)) (at_end o es).head.terms.initiating) sell-is
    where
      go : (s : Bool) → (cond {A = Range} s (record { low = mirrored (at_end o es).head.terms.initiating; high = mirrored (bound_now (at_end o es).head) }) (record { low = bound_now (at_end o es).head; high = (at_end o es).head.terms.initiating })).high
          ≡ cond s (mirrored (bound_now (at_end o es).head)) (at_end o es).head.terms.initiating
      go true = refl
      go false = refl

  -- a response's working price is that of the buy, in real prices
  pub works-is : (r : Response) → working_price o es (sent (is_sell o) r) ≡ reported_price (is_sell o) (working deal r)
  unfolding mirrored
  works-is r = go (is_sell o) (range_at_end o es).low (range_at_end o es).high low-is high_is
    where
      go : (s : Bool) (low high : ℕ) → low ≡ cond s (1000000 - deal.initiating) deal.bound → high ≡ cond s (1000000 - deal.bound) deal.initiating
          → cond s (min (reported_price s r.price) high) (max (reported_price s r.price) low) ≡ reported_price s (max r.price deal.bound)
      go true low high a b = omega (arith, b)
      go false low high a b = omega (arith, a)

  -- the fills of all but the market order
  pub walked-is : walked_fills o es ≡ reported (is_sell o) (demands.walked deal dealt)
  unfolding deal_of
  walked-is =
      ap (filter (λ f. not (ltb 0 (market_order o es).size && eqb f.party (market_order o es).sequence))) written_is
      ∙ filter-shown (is_sell o) (λ f. not (ltb 0 (market_order o es).size && eqb f.party (market_order o es).sequence)) (λ f. not (is_market deal f)) dealt (every_any _ dealt (λ f. refl))

  -- what a party trades, as it is written
  pub got-is : (k : ℕ) → got k (written_fills o es) ≡ got k dealt
  got-is k = ap (got k) written_is ∙ got-shown (is_sell o) k dealt

  -- the responses as they were sent, one by one
  pub was-live : (r : Response) → In r (live_at_end o es) → Sent (is_sell o) live r
  was-live r i = in-sent (is_sell o) live r (subst (In r) there-is i)

  -- a law of the written fills from one of the fills
  pub every-written : (P Q : Fill → Type 0) → ((f : Fill) → In f dealt → P f → Q (shown (is_sell o) f)) → Every P dealt → Every Q (written_fills o es)
  every-written P Q g k = subst (Every Q) (sym written_is) (every-shown (is_sell o) P Q dealt g k)
