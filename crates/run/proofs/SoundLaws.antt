-- What every auction that was opened has, every step and closing keep; so demand 3 holds of every one that has ended. Assumes nothing.
use mathlib.Core.Path.{◌≡◌, refl, sym, ap, subst, ◌∙◌}
use mathlib.Core.Bool.{Bool, true, false, cond}
use mathlib.Core.List.{List, [], ◌∷◌}
use mathlib.Core.Logic.{◌⊎◌, inl, inr, ◌≢◌}
use Prim.Native.Nat.{ℕ, ◌+◌, ◌-◌, ◌≤◌, ◌<◌, min}
use native.Mathlib.Omega.{arith}
use lib.Dec.{eqb}
use Rattle.base.specs.Lists.{Every, sum}
use Rattle.base.proofs.Bools.{by, no}
use Rattle.base.proofs.ListLaws.{every_map}
use Rattle.board.specs.rules.Board.{live_of, seated_at, cleared}
use Rattle.board.specs.promises.Board.{Good}
use Rattle.board.specs.declared.Response.{Response}
use Rattle.board.proofs.BoardLaws.{empty-good, empty-live, seated-good, cleared-good}
use Rattle.share.specs.rules.Fills.{Fill, sizes}
use Rattle.tape.specs.declared.event.Event.{Event}
use Rattle.tape.specs.declared.order.Order.{Order}
use Rattle.tape.specs.rules.Form.{event_formed, shape_of, shape_tests, order_formed, within}
use Rattle.tape.proofs.FormLaws.{each, within-ge, within-le, order-bounds}
use Rattle.trade.specs.rules.Trade.{offers, fills, traded}
use Rattle.trade.specs.rules.Write.{reported_price, reported, fills_of}
use Rattle.demand.specs.promises.Demands.{Absent, Distinct, InRange, Tradable as SoundDeal}
use Rattle.demand.proofs.Theorems.{demand3}
use Rattle.base.specs.Price.{mirrored}
use Rattle.mirror.specs.rules.Mirror.{mirrored_order, buy_order, buy_event}
use Rattle.auction.specs.rules.Accept.{initiating_of, terms_of, quotes_of, opened_by, auction_of, Accepts}
use Rattle.auction.specs.rules.Range.{is_open, bound_by, bound_now, range_of}
use Rattle.tape.specs.rules.Fields.{size_of, new_size_of}
use Rattle.events.specs.rules.Step.{sight_of, board_after, quotes_after, market_after, offered_after, head_after, ended_by_time, carried, close_turn, seated_on, step_by, step_of, close_of}
use Rattle.decision.specs.rules.Decide.{response_of, amended_by, free_place, old_place, old_response}
use Rattle.fills.specs.rules.Fills.{deal_of}
use Rattle.run.specs.rules.Run.{run, played}
use Rattle.run.specs.promises.Demands.{InTime, timed, Fits, Stands, Sound, Within, Trades, Demanded}
use Rattle.auction.specs.declared.Auction.{Auction}
use Rattle.auction.specs.declared.Ending.{Ending}
use Rattle.auction.specs.declared.Ending.TheVariants.{Open, Opposite}
use Rattle.decision.specs.declared.Change.{Change}
use Rattle.decision.specs.declared.Change.TheVariants.{Nothing, Seat, Free, Quote, Sell}
use Rattle.events.specs.declared.Stepped.{Stepped}
use Rattle.decision.specs.declared.Sight.{Sight}
use Rattle.events.specs.declared.Turn.{Turn}
use Rattle.run.proofs.StepLaws.{Outcomes, cases}
use Rattle.mirror.proofs.EventLaws.{buy-sequence, buy-kind, mirror-one, mirror-three, priced-size, amend-size}
use Rattle.run.proofs.BoardSteps.{sees, seat-every, amend-every, clear-every, seat-distinct, amend-distinct, clear-distinct, seat-sizes, amend-sizes, clear-sizes, live-sizes}
use Rattle.auction.proofs.Accepted.{Passed, opened, price-fits}
use Rattle.run.proofs.Resend.{keeps}

-- ---- at the opening

opened-sound : (s : Bool) (b : Order) → Passed b → initiating_of b ≤ 999999 → (1 ≤ b.mode) × (b.mode ≤ 3) → Sound (opened_by s b)
unfolding opened_by terms_of quotes_of sum
opened-sound s b p q m =
    record {
      bound-below = p.ranged;
      stop-below = p.stop;
      price = q;
      size = p.size;
      mode = m;
      board = empty-good;
      live = subst (Every _) (sym empty-live) tt;
      distinct = subst Distinct (sym empty-live) tt;
      offered = sym (ap (λ (rs : List Response). sum (sizes rs)) empty-live);
      no-market = λ _. refl;
      market-apart = λ z. absurd (omega arith);
    }

-- the mode of an accepted order is one of the three
mode-fits : (o : Order) → order_formed o ≡ true → (1 ≤ (buy_order o).mode) × ((buy_order o).mode ≤ 3)
unfolding buy_order mirrored_order
mode-fits o f =
    let m : (1 ≤ o.mode) × (o.mode ≤ 3) = ((order-bounds o f).some-mode, (order-bounds o f).mode) in
    by (λ (b : Order). (1 ≤ b.mode) × (b.mode ≤ 3)) (eqb o.side 2) _ _ (λ _. m) (λ _. m)

pub sound-opened : (o : Order) → Accepts o → Sound (auction_of o)
sound-opened o h = let k = opened o h in opened-sound (eqb o.side 2) (buy_order o) k.passes (price-fits o k.formed) (mode-fits o k.formed)

-- ---- a step

-- a size that an event in form may have
abbrev pub Size : ℕ → Type 0
Size n = (1 ≤ n) × (n ≤ 100000)

-- the kinds that have a size
sized : (k : ℕ) → (k ≡ 1) ⊎ ((k ≡ 3) ⊎ (k ≡ 4)) → ((shape_of k).f12.low ≡ 1) × ((shape_of k).f12.high ≡ 100000)
unfolding shape_of
sized k (inl z) = (ap (λ (n : ℕ). (shape_of n).f12.low) z, ap (λ (n : ℕ). (shape_of n).f12.high) z)
sized k (inr (inl z)) = (ap (λ (n : ℕ). (shape_of n).f12.low) z, ap (λ (n : ℕ). (shape_of n).f12.high) z)
sized k (inr (inr z)) = (ap (λ (n : ℕ). (shape_of n).f12.low) z, ap (λ (n : ℕ). (shape_of n).f12.high) z)

within-sizes : (x low high : ℕ) → (low ≡ 1) × (high ≡ 100000) → within x low high ≡ true → Size x
within-sizes x low high z h = (omega (arith, z.0, within-ge x low high h), omega (arith, z.1, within-le x low high h))

-- the size of a GTX response, a limit order or a market order in form
pub size-of : (e : Event) → (e.kind ≡ 1) ⊎ ((e.kind ≡ 3) ⊎ (e.kind ≡ 4)) → event_formed e ≡ true → Size (size_of e)
unfolding event_formed shape_tests
size-of e k h = within-sizes (size_of e) (shape_of e.kind).f12.low (shape_of e.kind).f12.high (sized e.kind k) (each (shape_tests (shape_of e.kind) e) true h 4)

-- the new size of an amend in form
pub new-size-of : (e : Event) → e.kind ≡ 6 → event_formed e ≡ true → Size (new_size_of e)
unfolding event_formed shape_tests shape_of
new-size-of e k h =
    let row : ((shape_of e.kind).f16.low ≡ 1) × ((shape_of e.kind).f16.high ≡ 100000) = (ap (λ (n : ℕ). (shape_of n).f16.low) k, ap (λ (n : ℕ). (shape_of n).f16.high) k) in
    within-sizes (new_size_of e) (shape_of e.kind).f16.low (shape_of e.kind).f16.high row (each (shape_tests (shape_of e.kind) e) true h 5)

-- a size, capped
capped : (n most : ℕ) → Size n → 1 ≤ most → Size (min n most)
capped n most h l = (omega (arith, h.0), omega (arith, h.1))

-- the auction after an event that changed it
abbrev after : Auction → Event → Change → Ending → Auction
after a e c g = record { head = head_after a.head e c g; board = board_after a.board c }

-- a change that leaves the range, the live responses and the market order sound
after-sound : (a : Auction) (e : Event) (c : Change) (g : Ending) → Sound a
    → bound_by a.head.terms (quotes_after a.head.quotes c) ≤ a.head.terms.initiating → Good (board_after a.board c)
    → Every (Stands e.sequence a.head.terms.initiating) (live_of (board_after a.board c)) → Distinct (live_of (board_after a.board c))
    → offered_after a.head.offered c ≡ sum (sizes (live_of (board_after a.board c)))
    → (is_open g ≡ true → (market_after a.head.market c).size ≡ 0)
    → (0 < (market_after a.head.market c).size → (0 < (market_after a.head.market c).sequence) × Absent (market_after a.head.market c).sequence (live_of (board_after a.board c)))
    → Sound (after a e c g)
unfolding head_after
after-sound a e c g s bound good live distinct offered none apart =
    record {
      bound-below = bound;
      stop-below = s.stop-below;
      price = s.price;
      size = s.size;
      mode = s.mode;
      board = good;
      live = live;
      distinct = distinct;
      offered = offered;
      no-market = none;
      market-apart = apart;
    }

-- the sum of the sizes is far from the largest word
pub sum_fits : (a : Auction) → Sound a → sum (sizes (live_of a.board)) ≤ 6400000
sum_fits a s = live-sizes a.board s.board (every_map (Stands a.head.sequence a.head.terms.initiating) (λ r. r.size ≤ 100000) (live_of a.board) (λ r h. h.3) s.live)

-- what was found: its size is among those that add up
pub old-size : (v : Sight) (a : Auction) → Fits a.board v → Sound a → old_place v < 64 → sum (sizes (live_of a.board)) ≡ (old_response v).size + sum (sizes (live_of (cleared a.board (old_place v))))
old-size v a fits s f = clear-sizes a.board s.board (old_place v) (fits.found f) ∙ ap (λ (x : Response). x.size + sum (sizes (live_of (cleared a.board (old_place v))))) (sym fits.old)

module _ (v : Sight) (a : Auction) (e : Event) (fits : Fits a.board v) (s : Sound a) (o : InTime a.head e) where
  no_size : a.head.market.size ≡ 0
  no_size = s.no-market o.ordinary.opened

  no_more : {X : Type 0} → 0 < a.head.market.size → X
  no_more z = absurd (omega (arith, no_size))

  -- those that were live stand under the new highest sequence, and none of them bears it
  stand : Every (Stands e.sequence a.head.terms.initiating) (live_of a.board)
  stand = every_map (Stands a.head.sequence a.head.terms.initiating) (Stands e.sequence a.head.terms.initiating) (live_of a.board) (λ r h. (h.0, omega (arith, h.1, o.ordinary.newer), h.2, h.3, h.4)) s.live

  fresh : (k : ℕ) → k ≡ e.sequence → Absent k (live_of a.board)
  fresh k z = every_map (Stands a.head.sequence a.head.terms.initiating) (λ r. r.sequence ≢ k) (live_of a.board) (λ r h q. omega (arith, h.1, o.ordinary.newer)) s.live

  -- a response of the event stands at a place i: a free one, or one of which the old response is gone
  seated-sound : (i : ℕ) (r : Response) (gone : ℕ) (g : Ending) → r.sequence ≡ e.sequence → Size r.size → r.price ≤ a.head.terms.initiating
      → ((P : Response → Type 0) → P r → Every P (live_of a.board) → Every P (live_of (seated_at a.board i r)))
      → (Absent r.sequence (live_of a.board) → Distinct (live_of a.board) → Distinct (live_of (seated_at a.board i r)))
      → (gone ≤ sum (sizes (live_of a.board))) × (gone + sum (sizes (live_of (seated_at a.board i r))) ≡ r.size + sum (sizes (live_of a.board)))
      → Sound (after a e (Seat i r gone) g)
  seated-sound i r gone g q n p every distinct sums =
      let live = every (Stands e.sequence a.head.terms.initiating) (omega (arith, q, o.ordinary.newer), omega (arith, q), n.0, n.1, p) stand in
      let good = seated-good a.board i r s.board in
      after-sound a e (Seat i r gone) g s s.bound-below good live
      (distinct (fresh r.sequence q) s.distinct)
      (omega (arith, s.offered, sums.0, sums.1, live-sizes (seated_at a.board i r) good (every_map (Stands e.sequence a.head.terms.initiating) (λ r. r.size ≤ 100000) (live_of (seated_at a.board i r)) (λ r h. h.3) live)))
      (λ _. no_size) no_more

  placed-sound : (r : Response) (g : Ending) → free_place v < 64 → r.sequence ≡ e.sequence → Size r.size → r.price ≤ a.head.terms.initiating → Sound (after a e (Seat (free_place v) r 0) g)
  placed-sound r g f q n p =
      seated-sound (free_place v) r 0 g q n p (λ P. seat-every a.board s.board P (free_place v) r f (fits.free f)) (seat-distinct a.board s.board (free_place v) r f (fits.free f))
      (omega arith, omega (arith, seat-sizes a.board s.board (free_place v) r f (fits.free f)))

  does-sound : Outcomes a.head.terms a.head.quotes v (buy_event a.head.terms.sell e) (λ u. Sound (seated_on a.board (carried a.head e u)).auction)
  does-sound =
      let sell = a.head.terms.sell in
      record {
        refuses = λ n _. s;
        nothing = λ g _. after-sound a e Nothing g s s.bound-below s.board stand s.distinct s.offered (λ _. no_size) no_more;
        gtx = λ k _ f p.
            let k1 : e.kind ≡ 1 = sym (buy-kind e sell) ∙ k in
            placed-sound (response_of true (min (size_of (buy_event sell e)) a.head.terms.size) (buy_event sell e)) Open f (buy-sequence e sell)
            (capped _ _ (subst Size (sym (priced-size e sell (mirror-one e k1))) (size-of e (inl k1) o.ordinary.formed)) s.size) p;
        limit = λ g k _ f p.
            let k3 : e.kind ≡ 3 = sym (buy-kind e sell) ∙ k in
            placed-sound (response_of false (size_of (buy_event sell e)) (buy_event sell e)) g f (buy-sequence e sell)
            (subst Size (sym (priced-size e sell (mirror-three e k3))) (size-of e (inr (inl k3)) o.ordinary.formed)) p;
        clear = λ k f.
            after-sound a e (Free (old_place v) (old_response v).size) Open s s.bound-below (cleared-good a.board (old_place v) s.board)
            (clear-every a.board s.board (Stands e.sequence a.head.terms.initiating) (old_place v) stand)
            (clear-distinct a.board s.board (old_place v) s.distinct)
            (omega (arith, s.offered, old-size v a fits s f, sum_fits a s))
            (λ _. no_size) no_more;
        amend = λ k f p.
            let k6 : e.kind ≡ 6 = sym (buy-kind e sell) ∙ k in
            let r : Response = amended_by a.head.terms (old_response v) (buy_event sell e) in
            seated-sound (old_place v) r (old_response v).size Open (buy-sequence e sell) (capped _ _ (subst Size (sym (amend-size e sell k6)) (new-size-of e k6 o.ordinary.formed)) s.size) p
            (λ P. amend-every a.board s.board P (old_place v) r (fits.found f)) (amend-distinct a.board s.board (old_place v) r (fits.found f))
            (omega (arith, old-size v a fits s f), ap (λ (x : Response). x.size + sum (sizes (live_of (seated_at a.board (old_place v) r)))) fits.old ∙ amend-sizes a.board s.board (old_place v) r (fits.found f));
        quote = λ n f _. after-sound a e (Quote n) Open s (f s.bound-below) s.board stand s.distinct s.offered (λ _. no_size) no_more;
        sell = λ _ _.
            after-sound a e (Sell (record { sequence = (buy_event sell e).sequence; size = size_of (buy_event sell e) })) Opposite s s.bound-below s.board stand s.distinct s.offered
            (λ z. no (sym z))
            (λ _. (omega (arith, buy-sequence e sell, o.ordinary.newer), fresh (buy_event sell e).sequence (buy-sequence e sell)));
      }

time-sound : (a : Auction) → Sound a → Sound (timed a)
unfolding ended_by_time
time-sound a s =
    record {
      bound-below = s.bound-below;
      stop-below = s.stop-below;
      price = s.price;
      size = s.size;
      mode = s.mode;
      board = s.board;
      live = s.live;
      distinct = s.distinct;
      offered = s.offered;
      no-market = λ z. no (sym z);
      market-apart = s.market-apart;
    }

pub sound-by : (v : Sight) (a : Auction) (e : Event) → Fits a.board v → Sound a → Sound (step_by v a e).auction
sound-by v a e f s =
    cases a.head e v (λ t. Sound (seated_on a.board t).auction) (record { refused = λ _ _. s; late = λ _. time-sound a s; does = does-sound v a e f s })

pub sound-step : (a : Auction) (e : Event) → Sound a → Sound (step_of a e).auction
sound-step a e s = sound-by (sight_of a.board e) a e (sees a.board e s.board) s

pub sound-close : (a : Auction) → Sound a → Sound (close_of a).auction
unfolding close_turn
sound-close a s = by (λ (t : Turn). Sound (seated_on a.board t).auction) (is_open a.head.ending) _ _ (λ _. time-sound a s) (λ _. s)

pub sound-run : (es : List Event) (a : Auction) → Sound a → Sound (run a es)
sound-run [] a s = s
sound-run (e ∷ es) a s = sound-run es (step_of a e).auction (sound-step a e s)

-- ---- demand 3

-- the bound as a word is the bound
bound-is : (a : Auction) → Sound a → bound_now a.head ≡ bound_by a.head.terms a.head.quotes
unfolding bound_now
bound-is a s = omega (arith, s.bound-below, s.price)

pub sound-deal : (a : Auction) → Sound a → SoundDeal (deal_of a.head) a.board
unfolding deal_of
sound-deal a s =
    record {
      bound-below = omega (arith, bound-is a s, s.bound-below);
      stop-below = s.stop-below;
      prices = every_map (Stands a.head.sequence a.head.terms.initiating) (λ r. r.price ≤ a.head.terms.initiating) (live_of a.board) (λ r h. h.4) s.live;
      mode = s.mode;
      parties = every_map (Stands a.head.sequence a.head.terms.initiating) (λ r. 0 < r.sequence) (live_of a.board) (λ r h. h.0) s.live;
      distinct = s.distinct;
      market-apart = s.market-apart;
    }

pub reported-total : (sell : Bool) (fs : List Fill) → traded (reported sell fs) ≡ traded fs
reported-total sell [] = refl
reported-total sell (f ∷ fs) = ap (λ (n : ℕ). f.quantity + n) (reported-total sell fs)

-- a price of the range, as it is reported_price
shown-in : (a : Auction) (f : Fill) → InRange (deal_of a.head) f → Within (range_of a.head) (record { party = f.party; price = reported_price a.head.terms.sell f.price; quantity = f.quantity })
unfolding range_of deal_of mirrored
shown-in a f h = go a.head.terms.sell
  where
    go : (sell : Bool) → Within (cond sell (record { low = 1000000 - a.head.terms.initiating; high = 1000000 - bound_now a.head }) (record { low = bound_now a.head; high = a.head.terms.initiating })) (record { party = f.party; price = reported_price sell f.price; quantity = f.quantity })
    go true = record { low = omega (arith, h.high); high = omega (arith, h.low) }
    go false = record { low = h.low; high = h.high }

reported-in : (a : Auction) (fs : List Fill) → Every (InRange (deal_of a.head)) fs → Every (Within (range_of a.head)) (reported a.head.terms.sell fs)
reported-in a [] h = tt
reported-in a (f ∷ fs) h = (shown-in a f h.0, reported-in a fs h.1)

pub trades : (a : Auction) → Sound a → is_open a.head.ending ≡ false → Trades a
unfolding fills_of deal_of
trades a s z =
    let d = demand3 (deal_of a.head) a.board (sound-deal a s) in
    record {
      ended = z;
      clauses = d;
      adds-up = reported-total a.head.terms.sell (fills (deal_of a.head) (offers a.board)) ∙ d.adds-up;
      in-range = reported-in a (fills (deal_of a.head) (offers a.board)) d.in-range;
    }

pub closed-ended : (a : Auction) → is_open (close_of a).auction.head.ending ≡ false
unfolding close_turn ended_by_time
closed-ended a = by (λ (t : Turn). is_open t.head.ending ≡ false) (is_open a.head.ending) _ _ (λ _. refl) (λ z. z)

pub demanded : Demanded
demanded =
    record {
      opened = sound-opened;
      sees = sees;
      stepped = sound-by;
      closed = sound-close;
      demand-3 = λ o es h. trades (played o es) (sound-close (run (auction_of o) es) (sound-run es (auction_of o) (sound-opened o h))) (closed-ended (run (auction_of o) es));
      by-event = λ o es z. ap (λ (p : Stepped). p.auction) (keeps.ended-close (run (auction_of o) es) z);
    }
