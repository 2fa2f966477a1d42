-- What is promised of an auction, in the user's words.
use Rattle.std.specs.Prelude.{◌≡◌, Bool, true, false, cond, not, ◌&&◌, ◌||◌, List, [], ◌∷◌, ◌⊎◌, ℕ, ◌+◌, ◌-◌, ◌≤◌, ◌<◌, min, leb, ltb, eqb, Err}
use Rattle.std.specs.Result.{result_map_both}
use Rattle.base.specs.Refusal.{number_of}
use Rattle.base.specs.declared.refusal.Refusal.{Refusal}
use Rattle.base.specs.Lists.{In, Every, sum}
use Rattle.base.specs.declared.refusal.Refusal.TheVariants.{AuctionEnded, EventOutOfForm, SequenceTaken, BeforeClock, OwnSide, AboveInitiating, NoSuchResponse, BoardFull}
use Rattle.board.specs.rules.Board.{response_at, is_live, live_count, live_of, find_gtx, found_at}
use Rattle.board.specs.promises.Board.{Good, GtxAt}
use Rattle.board.specs.declared.Board.{Board}
use Rattle.board.specs.declared.Response.{Response}
use Rattle.share.specs.rules.Fills.{Fill, sizes}
use Rattle.tape.specs.declared.order.Order.{Order}
use Rattle.tape.specs.declared.event.Event.{Event}
use Rattle.tape.specs.rules.Form.{order_formed, event_formed}
use Rattle.trade.specs.rules.Trade.{offers, fills, traded}
use Rattle.trade.specs.rules.Write.{reported}
use Rattle.demand.specs.promises.Demands.{Absent, Distinct, Demand3}
use Rattle.base.specs.Price.{mirrored}
use Rattle.mirror.specs.rules.Mirror.{mirrored_order, mirrored_event, buy_event}
use Rattle.auction.specs.rules.Accept.{auction_of, accept_of, Accepts}
use Rattle.auction.specs.rules.Range.{is_open, bound_by, range_of, word}
use Rattle.auction.specs.rules.Offer.{on_offer}
use Rattle.decision.specs.rules.Decide.{is_cancel, is_amend, free_place, old_place, old_response}
use Rattle.tape.specs.rules.Fields.{size_of, price_of, name_of, new_size_of, new_price_of}
use Rattle.events.specs.rules.Step.{sight_of, ended_by_time, gives, step_by, step_of, close_of}
use Rattle.fills.specs.rules.Fills.{deal_of, auction_fills}
use Rattle.run.specs.rules.Run.{run, heard, closed, played, is_taken, taken_of}
use Rattle.auction.specs.declared.Auction.{Auction}
use Rattle.auction.specs.declared.Head.{Head}
use Rattle.auction.specs.declared.Terms.{Terms}
use Rattle.auction.specs.declared.Range.{Range}
use Rattle.auction.specs.declared.Ending.TheVariants.{Open, Opposite}
use Rattle.events.specs.declared.Answer.TheVariants.{Taken, Ended, Late, Refused}
use Rattle.decision.specs.declared.Sight.{Sight}

-- ---- what an event sees of the board

-- a sight fits a board where the place that it offers is free, the one that it found is live, and it has what stands there
pub record Fits (b : Board) (s : Sight) : Type 0 where
  pub free : free_place s < 64 → is_live b (free_place s) ≡ false
  pub found : old_place s < 64 → is_live b (old_place s) ≡ true
  pub old : old_response s ≡ response_at b.places (old_place s)

-- ---- refusals, whatever is seen

-- an event that none of 31 to 34 refuses
pub record Ordinary (h : Head) (e : Event) : Type 0 where
  pub opened : is_open h.ending ≡ true
  pub formed : event_formed e ≡ true
  pub newer : h.sequence < e.sequence
  pub later : h.clock ≤ e.time

-- and that is not late
pub record InTime (h : Head) (e : Event) : Type 0 where
  pub ordinary : Ordinary h e
  pub early : e.time < h.terms.interval

-- the auction that ends by time: nothing but its ending moves
abbrev pub timed : Auction → Auction
timed a = record { head = ended_by_time a.head; board = a.board }

pub record Keeps : Type 0 where
  -- a refusal changes nothing
  pub refused : (s : Sight) (a : Auction) (e : Event) (r : Refusal) → (step_by s a e).answer ≡ Refused r → (step_by s a e).auction ≡ a
  pub not-closed : (a : Auction) (r : Refusal) → (close_of a).answer ≡ Refused r → (close_of a).auction ≡ a
  -- orders are refused by 1 to 13 alone, events by 31 to 38 alone
  pub order-numbers : (o : Order) (r : Refusal) → accept_of o ≡ Err r → (1 ≤ number_of r) × (number_of r ≤ 13)
  pub event-numbers : (s : Sight) (a : Auction) (e : Event) (r : Refusal) → (step_by s a e).answer ≡ Refused r → (31 ≤ number_of r) × (number_of r ≤ 38)
  -- one that is taken is in time, and moves the highest sequence up to its own; so one is that 35 to 38 refuse
  pub taken : (s : Sight) (a : Auction) (e : Event) → is_taken (step_by s a e).answer ≡ true → InTime a.head e × ((step_by s a e).auction.head.sequence ≡ e.sequence)
  pub by_kind : (s : Sight) (a : Auction) (e : Event) (r : Refusal) → (step_by s a e).answer ≡ Refused r → 35 ≤ number_of r → InTime a.head e
  -- 31 once ended (below); 32 out of form; 33 where the sequence is not above the highest, whatever else it says; 34 before the last event's time
  pub formless : (s : Sight) (a : Auction) (e : Event) → is_open a.head.ending ≡ true → event_formed e ≡ false → step_by s a e ≡ gives (Refused EventOutOfForm) a
  pub old : (s : Sight) (a : Auction) (e : Event) → e.sequence ≤ a.head.sequence → step_by s a e ≡ gives (Refused (cond (is_open a.head.ending) (cond (event_formed e) SequenceTaken EventOutOfForm) AuctionEnded)) a
  pub before : (s : Sight) (a : Auction) (e : Event) → is_open a.head.ending ≡ true → event_formed e ≡ true → a.head.sequence < e.sequence → e.time < a.head.clock → step_by s a e ≡ gives (Refused BeforeClock) a
  -- the highest sequence never falls
  pub rises : (s : Sight) (a : Auction) (e : Event) → a.head.sequence ≤ (step_by s a e).auction.head.sequence
  -- one at L or after it is late, whatever it is: it ends the auction by time, and is not applied
  pub when-late : (s : Sight) (a : Auction) (e : Event) → Ordinary a.head e → a.head.terms.interval ≤ e.time → step_by s a e ≡ gives Late (timed a)
  pub late : (s : Sight) (a : Auction) (e : Event) → (step_by s a e).answer ≡ Late → (step_by s a e).auction ≡ timed a
  -- closing by hand, while the auction is open, acts as an event at L
  pub when-closed : (a : Auction) → is_open a.head.ending ≡ true → close_of a ≡ gives Late (timed a)
  -- an ended auction never changes again, and answers 31 to all
  pub ended : (s : Sight) (a : Auction) (e : Event) → is_open a.head.ending ≡ false → step_by s a e ≡ gives (Refused AuctionEnded) a
  pub ended-close : (a : Auction) → is_open a.head.ending ≡ false → close_of a ≡ gives (Refused AuctionEnded) a

-- ---- a response that stands on the board is never counted twice

-- the market order of the auction b is one of the events that the auction a took, for the other side: it ended the auction, and none was taken after it
pub record MarketFrom (a : Auction) (es : List Event) (b : Auction) : Type 0 where
  pub event : Event
  pub taken : In event (taken_of a es)
  pub kind : event.kind ≡ 4
  pub side : (buy_event a.head.terms.sell event).side ≡ 2
  pub sequence : b.head.market.sequence ≡ event.sequence
  pub size : b.head.market.size ≡ size_of event
  pub ending : b.head.ending ≡ Opposite
  pub latest : b.head.sequence ≡ event.sequence

-- the sequences of a list rise, above m
abbrev pub Rising : ℕ → List Event → Type 0
Rising m [] = Unit {0}
Rising m (e ∷ es) = (m < e.sequence) × Rising e.sequence es

abbrev pub RefusedAgain : Auction → Event → Type 0
RefusedAgain a e = step_of a e ≡ gives (Refused (cond (is_open a.head.ending) SequenceTaken AuctionEnded)) a

pub record Resend : Type 0 where
  -- once an event was taken, every event in form with its sequence or a lower one, met after any events between, is refused: by 33 while the auction is open and by 31 after; it changes nothing
  pub older : (a : Auction) (e f : Event) (es : List Event) → is_taken (step_of a e).answer ≡ true → event_formed f ≡ true → f.sequence ≤ e.sequence → RefusedAgain (run (step_of a e).auction es) f
  -- so the event itself is
  pub again : (a : Auction) (e : Event) (es : List Event) → is_taken (step_of a e).answer ≡ true → RefusedAgain (run (step_of a e).auction es) e
  -- no two live responses bear one sequence
  pub apart : (o : Order) (es : List Event) → Accepts o → Distinct (live_of (run (auction_of o) es).board)
  -- the sequences of the events taken rise: none is taken twice, and none bears another's
  pub rising : (a : Auction) (es : List Event) → Rising a.head.sequence (taken_of a es)
  -- a market order that ended the auction comes from an event taken, and a sequence tells which
  pub market-from : (o : Order) (es : List Event) → Accepts o → 0 < (run (auction_of o) es).head.market.size → MarketFrom (auction_of o) es (run (auction_of o) es)
  pub one : (a : Auction) (es : List Event) (e f : Event) → In e (taken_of a es) → In f (taken_of a es) → e.sequence ≡ f.sequence → e ≡ f

-- ---- demand 3

-- a live response has a sequence up to the highest taken, a size of 1 to 100,000, and a price up to the initiating price
abbrev pub Stands : ℕ → ℕ → Response → Type 0
Stands highest initiating r = (0 < r.sequence) × (r.sequence ≤ highest) × (1 ≤ r.size) × (r.size ≤ 100000) × (r.price ≤ initiating)

-- what every auction that was opened has, and keeps
pub record Sound (a : Auction) : Type 0 where
  -- the bound has not passed the initiating price, and the stop or limit never does
  pub bound-below : bound_by a.head.terms a.head.quotes ≤ a.head.terms.initiating
  pub stop-below : a.head.terms.stop ≤ a.head.terms.initiating
  pub price : a.head.terms.initiating ≤ 999999
  pub size : 1 ≤ a.head.terms.size
  pub mode : (1 ≤ a.head.terms.mode) × (a.head.terms.mode ≤ 3)
  pub board : Good a.board
  -- each live response stands rightly, with a sequence of its own
  pub live : Every (Stands a.head.sequence a.head.terms.initiating) (live_of a.board)
  pub distinct : Distinct (live_of a.board)
  -- the contracts on offer are the sum of the sizes over the live places
  pub offered : on_offer a ≡ sum (sizes (live_of a.board))
  -- no market order while it is open; after it, where there is one, it has a sequence of its own
  pub no-market : is_open a.head.ending ≡ true → a.head.market.size ≡ 0
  pub market-apart : 0 < a.head.market.size → (0 < a.head.market.sequence) × Absent a.head.market.sequence (live_of a.board)

-- a fill's price lies in the range that holds
pub record Within (r : Range) (f : Fill) : Type 0 where
  pub low : r.low ≤ f.price
  pub high : f.price ≤ r.high

-- demand 3 of an auction: the clauses for the buy that the engine works with, and the fills as they are written
pub record Trades (a : Auction) : Type 0 where
  pub ended : is_open a.head.ending ≡ false
  pub clauses : Demand3 (deal_of a.head) a.board (fills (deal_of a.head) (offers a.board))
  pub adds-up : traded (auction_fills a) ≡ a.head.terms.size
  pub in-range : Every (Within (range_of a.head)) (auction_fills a)

pub record Demanded : Type 0 where
  pub opened : (o : Order) → Accepts o → Sound (auction_of o)
  -- what an event sees of a board fits it, and whatever fits keeps the auction sound
  pub sees : (b : Board) (e : Event) → Good b → Fits b (sight_of b e)
  pub stepped : (s : Sight) (a : Auction) (e : Event) → Fits a.board s → Sound a → Sound (step_by s a e).auction
  pub closed : (a : Auction) → Sound a → Sound (close_of a).auction
  -- for every accepted order and every list of events, once the auction has ended
  pub demand-3 : (o : Order) (es : List Event) → Accepts o → Trades (played o es)
  -- also where an event ended it: closing by hand then changes nothing
  pub by-event : (o : Order) (es : List Event) → is_open (run (auction_of o) es).head.ending ≡ false → played o es ≡ run (auction_of o) es

-- ---- a response that is amended

-- a cancel or an amend
abbrev pub Names : Event → Type 0
Names e = (e.kind ≡ 2) ⊎ (e.kind ≡ 6)

-- the place of the GTX response that it names; 64: there is none
abbrev pub named_place : Auction → Event → ℕ
named_place a e = find_gtx a.board (name_of e)

-- the new price of an amend is above the initiating price, for the buy that the order is or mirrors
abbrev pub is_above : Auction → Event → Bool
is_above a e = ltb a.head.terms.initiating (new_price_of (buy_event a.head.terms.sell e))

-- a sight that finds the GTX response that an event names, and has it; what it offers as a free place is of no matter
pub record SeesNamed (s : Sight) (a : Auction) (e : Event) : Type 0 where
  pub named : s.named ≡ found_at a.board (named_place a e)

-- the response r is what the amend e made of old, for the terms t: the event's sequence and participant, the new size, capped at the CUBE size, the new price, the old Customer mark
pub record NewFor (t : Terms) (old : Response) (e : Event) (r : Response) : Type 0 where
  pub sequence : r.sequence ≡ e.sequence
  pub size : r.size ≡ min (new_size_of e) t.size
  pub price : r.price ≡ new_price_of (buy_event t.sell e)
  pub participant : r.participant ≡ e.participant
  pub customer : r.customer ≡ old.customer
  pub gtx : r.gtx ≡ true

-- the amend e made the auction b of a
pub record Amended (a : Auction) (e : Event) (b : Auction) : Type 0 where
  -- the GTX response that it names was live
  pub named : GtxAt a.board (name_of e) (named_place a e)
  -- the new one stands at its place; every other place, the word and the count stay
  pub stands : NewFor a.head.terms (response_at a.board.places (named_place a e)) e (response_at b.board.places (named_place a e))
  pub others : (j : ℕ) → (j ≡ named_place a e → ⊥) → response_at b.board.places j ≡ response_at a.board.places j
  pub word : b.board.live ≡ a.board.live
  pub count : live_count b.board ≡ live_count a.board
  -- of the contracts on offer the old size is gone, and the new one has come
  pub offered : on_offer b + (response_at a.board.places (named_place a e)).size ≡ on_offer a + min (new_size_of e) a.head.terms.size
  -- the old name is found no more, and the new one at that place
  pub gone : find_gtx b.board (name_of e) ≡ 64
  pub found : find_gtx b.board e.sequence ≡ named_place a e
  -- the range, the market order and the ending stay
  pub terms : b.head.terms ≡ a.head.terms
  pub quotes : b.head.quotes ≡ a.head.quotes
  pub market : b.head.market ≡ a.head.market
  pub ending : b.head.ending ≡ Open

pub record Amends : Type 0 where
  -- the auction's own sight is such a one
  pub sees_named : (a : Auction) (e : Event) → Names e → SeesNamed (sight_of a.board e) a e
  -- what an amend that is taken does
  pub does : (s : Sight) (a : Auction) (e : Event) → Sound a → e.kind ≡ 6 → SeesNamed s a e → is_taken (step_by s a e).answer ≡ true → Amended a e (step_by s a e).auction
  -- 36, then 37; never 35 and never 38, and it is never answered `ended`
  pub answers : (s : Sight) (a : Auction) (e : Event) → e.kind ≡ 6 → SeesNamed s a e → InTime a.head e → (step_by s a e).answer ≡ cond (is_above a e) (Refused AboveInitiating) (cond (ltb (named_place a e) 64) Taken (Refused NoSuchResponse))
  pub never : (s : Sight) (a : Auction) (e : Event) → e.kind ≡ 6 → ((step_by s a e).answer ≡ Refused OwnSide → ⊥) × ((step_by s a e).answer ≡ Refused BoardFull → ⊥) × ((step_by s a e).answer ≡ Ended → ⊥)
  -- a cancel: 37, else taken
  pub cancel-answers : (s : Sight) (a : Auction) (e : Event) → e.kind ≡ 2 → SeesNamed s a e → InTime a.head e → (step_by s a e).answer ≡ cond (ltb (named_place a e) 64) Taken (Refused NoSuchResponse)

-- ---- the contracts on offer

-- the size that an event brings onto the board where it is taken: a GTX response's and an amend's, capped at the CUBE size; a limit order's, whole, where it takes a place, also one that ends the auction;
-- no other event brings any, and so no market order
abbrev pub brings : Terms → Event → ℕ
brings t e =
    let m = buy_event t.sell e in
    cond (eqb e.kind 1) (min (size_of e) t.size)
    (cond (eqb e.kind 3 && (not (eqb m.side 1) && leb (price_of m) t.initiating)) (size_of e)
    (cond (is_amend e) (min (new_size_of e) t.size)
    0))

-- the size that it takes away: for a cancel and an amend, that of the response that was found
abbrev pub takes_away : Sight → Event → ℕ
takes_away s e = cond (is_cancel e || is_amend e) (old_response s).size 0

pub record OnOffer : Type 0 where
  -- it is kept, and not looked for on the board
  pub kept : (h : Head) (b c : Board) → on_offer (record { head = h; board = b }) ≡ on_offer (record { head = h; board = c })
  -- of every accepted order, after every list of events, refused ones among them, and at the end: the sum of the sizes over the live places. A word of 32 bits holds it with room to spare
  pub sums : (o : Order) (es : List Event) → Accepts o → on_offer (run (auction_of o) es) ≡ sum (sizes (live_of (run (auction_of o) es).board))
  pub sums-end : (o : Order) (es : List Event) → Accepts o → on_offer (played o es) ≡ sum (sizes (live_of (played o es).board))
  pub fits : (o : Order) (es : List Event) → Accepts o → on_offer (run (auction_of o) es) ≤ 6400000
  -- an event that is taken, or ends the auction, moves it by what it brings and takes away
  pub moves : (s : Sight) (a : Auction) (e : Event) → Fits a.board s → Sound a → is_taken (step_by s a e).answer ≡ true → on_offer (step_by s a e).auction + takes_away s e ≡ on_offer a + brings a.head.terms e
  -- of any auction, opened or not, and under any sight: never below 0, and at most the largest word of 32 bits
  pub moves-any : (s : Sight) (a : Auction) (e : Event) → on_offer a ≤ 4294967295 → is_taken (step_by s a e).answer ≡ true → on_offer (step_by s a e).auction ≡ word (on_offer a - takes_away s e + brings a.head.terms e)
  pub word-stays : (s : Sight) (a : Auction) (e : Event) → on_offer a ≤ 4294967295 → on_offer (step_by s a e).auction ≤ 4294967295
  -- every other event leaves it, whatever is seen: one that is refused, and one that is late; closing by hand does too
  pub leaves : (s : Sight) (a : Auction) (e : Event) → is_taken (step_by s a e).answer ≡ false → on_offer (step_by s a e).auction ≡ on_offer a
  pub closing : (a : Auction) → on_offer (close_of a).auction ≡ on_offer a
  -- a market order leaves it, of either side, and so do quotes, of any auction
  pub market-or-quotes : (s : Sight) (a : Auction) (e : Event) → (e.kind ≡ 4) ⊎ (e.kind ≡ 5) → on_offer (step_by s a e).auction ≡ on_offer a
  -- once the auction has ended it stands at its last value, whatever comes
  pub stands : (a : Auction) (es : List Event) → is_open a.head.ending ≡ false → (on_offer (run a es) ≡ on_offer a) × (on_offer (closed (run a es)) ≡ on_offer a)

-- ---- the mirror

-- the same auction for the other side
abbrev pub flipped_terms : Terms → Terms
flipped_terms t = record { sell = cond t.sell false true; mode = t.mode; size = t.size; initiating = t.initiating; floor = t.floor; stop = t.stop; interval = t.interval }

abbrev pub flipped_head : Head → Head
flipped_head h = record { terms = flipped_terms h.terms; quotes = h.quotes; sequence = h.sequence; clock = h.clock; ending = h.ending; market = h.market; offered = h.offered }

abbrev pub flipped : Auction → Auction
flipped a = record { head = flipped_head a.head; board = a.board }

-- an event in form is mirrored; what is out of form has no sides, and stays as it is
abbrev pub mirrored_record : Event → Event
mirrored_record e = cond (event_formed e) (mirrored_event e) e

abbrev pub mirrored_records : List Event → List Event
mirrored_records [] = []
mirrored_records (e ∷ es) = mirrored_record e ∷ mirrored_records es

-- fills with their prices mirrored, as a sell's are when they are written; a range, low to high
abbrev pub mirrored_fills : List Fill → List Fill
mirrored_fills = reported true

abbrev pub mirrored_range : Range → Range
mirrored_range r = record { low = mirrored r.high; high = mirrored r.low }

-- a sell auction is the mirror of the buy auction on mirrored input, and a buy auction of the sell
pub record Mirrors : Type 0 where
  -- the mirrored order is answered alike, and opens the same auction for the other side
  pub accepts : (o : Order) → order_formed o ≡ true → accept_of (mirrored_order o) ≡ result_map_both flipped (λ r. r) (accept_of o)
  pub opens : (o : Order) → Accepts o → (auction_of (mirrored_order o)) ≡ flipped (auction_of o)
  -- mirrored records see the same of the board; under any sight of it they are answered alike, and do the same
  pub sees : (b : Board) (e : Event) → sight_of b (mirrored_record e) ≡ sight_of b e
  pub steps : (s : Sight) (a : Auction) (e : Event) → ((step_by s (flipped a) (mirrored_record e)).answer ≡ (step_by s a e).answer) × ((step_by s (flipped a) (mirrored_record e)).auction ≡ flipped (step_by s a e).auction)
  pub closes : (a : Auction) → ((close_of (flipped a)).answer ≡ (close_of a).answer) × ((close_of (flipped a)).auction ≡ flipped (close_of a).auction)
  -- so a whole auction is the mirror
  pub plays : (o : Order) (es : List Event) → Accepts o → played (mirrored_order o) (mirrored_records es) ≡ flipped (played o es)
  pub hears : (o : Order) (es : List Event) → Accepts o → heard (auction_of (mirrored_order o)) (mirrored_records es) ≡ heard (auction_of o) es
  -- its fills and its range have mirrored prices: from buy to sell of every auction, and back of every one that is sound
  pub trades : (a : Auction) → (a.head.terms.sell ≡ true → Sound a) → auction_fills (flipped a) ≡ mirrored_fills (auction_fills a)
  pub ranges : (a : Auction) → (a.head.terms.sell ≡ true → Sound a) → range_of (flipped a).head ≡ mirrored_range (range_of a.head)
