-- Cases a to k of document 01, with b as W-203 of document 02 has it, and others of W-203 and W-205, as one table: an order, its events, and what must come of them.
use Rattle.std.specs.Prelude.{Bool, true, false, cond, List, [], ◌∷◌, map, ◌≡◌, ℕ, Option, Some, None, Result, Ok, Err}
use Rattle.base.specs.Refusal.{number_of}
use Rattle.base.specs.declared.refusal.Refusal.{Refusal}
use Rattle.share.specs.rules.Fills.{Fill, fill}
use Rattle.tape.specs.declared.order.Order.{Order}
use Rattle.tape.specs.declared.event.Event.{Event}
use Rattle.auction.specs.rules.Firm.{participant_of}
use Rattle.auction.specs.rules.Accept.{accept_of, Accepts}
use Rattle.auction.specs.rules.Range.{range_of}
use Rattle.auction.specs.promises.Collared.{recollared}
use Rattle.fills.specs.rules.Fills.{auction_fills}
use Rattle.run.specs.rules.Run.{run, closed, played}
use Rattle.auction.specs.declared.Auction.{Auction}
use Rattle.auction.specs.declared.Ending.{Ending}
use Rattle.auction.specs.declared.Ending.TheVariants.{Open, Time, Same, Opposite, Improve}

-- ---- what comes of an order and its events: a refusal, or the ending (after closing by hand, where asked), the range and the fills

pub data Figure : Type 0 where
  refusal : ℕ → Figure
  standing : ℕ → ℕ → Figure
  ended : Ending → ℕ → ℕ → List Fill → Figure

-- one that is open stands with a range; one that has ended has fills
abbrev pub shown_by : Ending → Auction → Figure
shown_by Open a = standing (range_of a.head).low (range_of a.head).high
shown_by Time a = ended Time (range_of a.head).low (range_of a.head).high (auction_fills a)
shown_by Same a = ended Same (range_of a.head).low (range_of a.head).high (auction_fills a)
shown_by Opposite a = ended Opposite (range_of a.head).low (range_of a.head).high (auction_fills a)
shown_by Improve a = ended Improve (range_of a.head).low (range_of a.head).high (auction_fills a)

abbrev pub shown : Auction → Figure
shown a = shown_by a.head.ending a

pub record Case : Type 0 where
  pub order : Order
  pub events : List Event
  -- closed by hand after the last event, or looked at as it stands
  pub closes : Bool
  pub want : Figure

abbrev pub figure_by : Case → Result Auction Refusal → Figure
figure_by c (Err r) = refusal (number_of r)
figure_by c (Ok a) = cond c.closes (shown (closed (run a c.events))) (shown (run a c.events))

abbrev pub figure_of : Case → Figure
figure_of c = figure_by c (accept_of c.order)

-- ---- the words of the table

-- quotes 100/110 on both markets; the session is open from 0 to 86,400,000
abbrev pub order : ℕ → ℕ → ℕ → ℕ → ℕ → Order
order side mode size limit stop =
    record { side = side; mode = mode; marks = 0; size = size; limit = limit; stop = stop; nbb = 100; nbo = 110; bb = 100; bo = 110; time = 1000; opens = 0; closes = 86400000; interval = 100; displayed = 0; collar = 0 }

-- an order on other markets: NBB, NBO, BB, BO
abbrev pub quoted : ℕ → ℕ → ℕ → ℕ → Order → Order
quoted nbb nbo bb bo o =
    record { side = o.side; mode = o.mode; marks = o.marks; size = o.size; limit = o.limit; stop = o.stop; nbb = nbb; nbo = nbo; bb = bb; bo = bo; time = o.time; opens = o.opens; closes = o.closes; interval = o.interval; displayed = o.displayed; collar = o.collar }

-- an order at another time of a session with another close
abbrev pub timed : ℕ → ℕ → Order → Order
timed time closes o =
    record { side = o.side; mode = o.mode; marks = o.marks; size = o.size; limit = o.limit; stop = o.stop; nbb = o.nbb; nbo = o.nbo; bb = o.bb; bo = o.bo; time = time; opens = o.opens; closes = closes; interval = o.interval; displayed = o.displayed; collar = o.collar }

-- an event of a kind: its sequence, side, size and price
abbrev pub event : ℕ → ℕ → ℕ → ℕ → ℕ → Event
event kind sequence side size price = record { sequence = sequence; time = 20; kind = kind; marks = 0; side = side; f12 = size; f16 = price; f20 = 0; f24 = 0; participant = 0 }

abbrev pub gtx : ℕ → ℕ → ℕ → Event
gtx sequence size price = event 1 sequence 2 size price

-- a response to a sell
abbrev pub gtx_buy : ℕ → ℕ → ℕ → Event
gtx_buy sequence size price = event 1 sequence 1 size price

-- an event with marks: a Customer's has bit 0, a non-routable one bit 1
abbrev pub marked : ℕ → Event → Event
marked marks e = record { sequence = e.sequence; time = e.time; kind = e.kind; marks = marks; side = e.side; f12 = e.f12; f16 = e.f16; f20 = e.f20; f24 = e.f24; participant = e.participant }

abbrev pub by_customer : Event → Event
by_customer e = marked 1 e

abbrev pub non_routable : Event → Event
non_routable e = marked 2 e

-- a response, by its name, has another size and price from here on
abbrev pub amend : ℕ → ℕ → ℕ → ℕ → Event
amend sequence name size price = record { sequence = sequence; time = 20; kind = 6; marks = 0; side = 0; f12 = name; f16 = size; f20 = price; f24 = 0; participant = 0 }

abbrev pub bid : ℕ → ℕ → ℕ → Event
bid sequence size price = event 3 sequence 1 size price

abbrev pub offer : ℕ → ℕ → ℕ → Event
offer sequence size price = event 3 sequence 2 size price

abbrev pub market : ℕ → ℕ → ℕ → Event
market sequence side size = event 4 sequence side size 0

abbrev pub contra : ℕ → ℕ → Fill
contra price quantity = fill 0 price quantity

abbrev pub case : Order → List Event → Bool → Figure → Case
case o es closes want = record { order = o; events = es; closes = closes; want = want }

-- case c's order, and its mirror on the same quotes
abbrev pub order_c : Order
order_c = order 1 2 10 110 0

abbrev pub sell_c : Order
sell_c = order 2 2 10 100 0

unfoldable pub cases : List Case
cases =
    -- a. 30 at 105, then at 108 Contra 40, 18, 12
    case (order 1 1 100 110 108) (gtx 1 30 105 ∷ gtx 2 60 108 ∷ gtx 3 40 108 ∷ []) true (ended Time 100 110 (fill 1 105 30 ∷ contra 108 40 ∷ fill 2 108 18 ∷ fill 3 108 12 ∷ []))
    -- b. Contra 40, then 20, 20, 20
    ∷ case (order 1 1 100 110 108) (gtx 1 31 108 ∷ gtx 2 30 108 ∷ gtx 3 30 108 ∷ []) true (ended Time 100 110 (contra 108 40 ∷ fill 1 108 20 ∷ fill 2 108 20 ∷ fill 3 108 20 ∷ []))
    -- c. the listing: the record is sent twice
    ∷ case order_c (gtx 1 3 105 ∷ gtx 1 3 105 ∷ []) true (ended Time 101 109 (contra 105 3 ∷ fill 1 105 3 ∷ contra 109 4 ∷ []))
    -- d. 4 at 105, Contra 6 at 108
    ∷ case (order 1 2 10 108 0) (market 1 2 4 ∷ []) true (ended Opposite 101 108 (fill 1 105 4 ∷ contra 108 6 ∷ []))
    -- e. the sell: 4 at 105, Contra 6 at 102
    ∷ case (order 2 2 10 102 0) (market 1 1 4 ∷ []) true (ended Opposite 102 109 (fill 1 105 4 ∷ contra 102 6 ∷ []))
    -- f. Contra 1
    ∷ case (order 1 1 1 110 105) (gtx 1 1 105 ∷ []) true (ended Time 101 109 (contra 105 1 ∷ []))
    -- g. bid 108: bound 109, still open; bid 109 instead: improve, bound 101
    ∷ case order_c (bid 1 1 108 ∷ []) false (standing 109 109)
    ∷ case order_c (bid 1 1 109 ∷ []) false (ended Improve 101 109 (contra 109 10 ∷ []))
    -- h. 20; Contra 80 and 80 at 104; 20 at 106
    ∷ case (order 1 3 200 110 103) (gtx 1 20 101 ∷ gtx 2 80 104 ∷ gtx 3 30 106 ∷ []) true (ended Time 100 110 (fill 1 101 20 ∷ contra 104 80 ∷ fill 2 104 80 ∷ fill 3 106 20 ∷ []))
    -- i. stop 100 accepted, 101 gives 12
    ∷ case (quoted 100 101 90 110 (order 1 1 10 101 100)) [] false (standing 100 101)
    ∷ case (quoted 100 101 90 110 (order 1 1 10 101 101)) [] false (refusal 12)
    -- j. size 49 gives 9; size 50 passes that test
    ∷ case (quoted 100 101 100 101 (order 1 2 49 101 0)) [] false (refusal 9)
    ∷ case (quoted 100 101 100 101 (order 1 2 50 101 0)) [] false (standing 100 101)
    -- k. close at 5,000: time 3,999 passes, 4,000 gives 5
    ∷ case (timed 3999 5000 order_c) [] false (standing 101 109)
    ∷ case (timed 4000 5000 order_c) [] false (refusal 5)
    -- W-203: 60 are left after the guarantee. b for a sell
    ∷ case (order 2 1 100 100 102) (gtx_buy 1 31 102 ∷ gtx_buy 2 30 102 ∷ gtx_buy 3 30 102 ∷ []) true (ended Time 100 110 (contra 102 40 ∷ fill 1 102 20 ∷ fill 2 102 20 ∷ fill 3 102 20 ∷ []))
    -- over 35, 35, 20, 20 and 20, fractions 20, 20, 30, 30 and 30 of 130, one is left over: to the first of the three with 30
    ∷ case (order 1 1 100 110 108) (gtx 1 35 108 ∷ gtx 2 35 108 ∷ gtx 3 20 108 ∷ gtx 4 20 108 ∷ gtx 5 20 108 ∷ []) true
    (ended Time 100 110 (contra 108 40 ∷ fill 1 108 16 ∷ fill 2 108 16 ∷ fill 3 108 10 ∷ fill 4 108 9 ∷ fill 5 108 9 ∷ []))
    ∷ case (order 2 1 100 100 102) (gtx_buy 1 35 102 ∷ gtx_buy 2 35 102 ∷ gtx_buy 3 20 102 ∷ gtx_buy 4 20 102 ∷ gtx_buy 5 20 102 ∷ []) true
    (ended Time 100 110 (contra 102 40 ∷ fill 1 102 16 ∷ fill 2 102 16 ∷ fill 3 102 10 ∷ fill 4 102 9 ∷ fill 5 102 9 ∷ []))
    -- over 40, 41 and 39, fractions 0, 60 and 60 of 120, one is left over: to the second, for the first has no fraction and the third, which ties, is later
    ∷ case (order 1 1 100 110 108) (gtx 1 40 108 ∷ gtx 2 41 108 ∷ gtx 3 39 108 ∷ []) true (ended Time 100 110 (contra 108 40 ∷ fill 1 108 20 ∷ fill 2 108 21 ∷ fill 3 108 19 ∷ []))
    ∷ case (order 2 1 100 100 102) (gtx_buy 1 40 102 ∷ gtx_buy 2 41 102 ∷ gtx_buy 3 39 102 ∷ []) true (ended Time 100 110 (contra 102 40 ∷ fill 1 102 20 ∷ fill 2 102 21 ∷ fill 3 102 19 ∷ []))
    -- the 41 is amended: it stands at the first place with the last sequence, and comes after the 39 that it ties with
    ∷ case (order 1 1 100 110 108) (gtx 1 30 108 ∷ gtx 2 39 108 ∷ gtx 3 40 108 ∷ amend 4 1 41 108 ∷ []) true (ended Time 100 110 (contra 108 40 ∷ fill 2 108 20 ∷ fill 3 108 20 ∷ fill 4 108 20 ∷ []))
    ∷ case (order 2 1 100 100 102) (gtx_buy 1 30 102 ∷ gtx_buy 2 39 102 ∷ gtx_buy 3 40 102 ∷ amend 4 1 41 102 ∷ []) true (ended Time 100 110 (contra 102 40 ∷ fill 2 102 20 ∷ fill 3 102 20 ∷ fill 4 102 20 ∷ []))
    -- a Customer's 10 are no part of T: 50 over 31, 30 and 30, fractions 3, 44 and 44 of 91, one is left over
    ∷ case (order 1 1 100 110 108) (gtx 1 31 108 ∷ by_customer (gtx 2 10 108) ∷ gtx 3 30 108 ∷ gtx 4 30 108 ∷ []) true
    (ended Time 100 110 (fill 2 108 10 ∷ contra 108 40 ∷ fill 1 108 17 ∷ fill 3 108 17 ∷ fill 4 108 16 ∷ []))
    -- below the stop: 100 over 50, 40 and 60, fractions 50, 100 and 0 of 150, one is left over
    ∷ case (order 1 1 100 110 108) (gtx 1 50 105 ∷ gtx 2 40 105 ∷ gtx 3 60 105 ∷ []) true (ended Time 100 110 (fill 1 105 33 ∷ fill 2 105 27 ∷ fill 3 105 40 ∷ []))
    -- mode 2, after a market order of 10: 50 over 31, 30 and 30
    ∷ case (order 1 2 100 110 0) (gtx 1 31 105 ∷ gtx 2 30 105 ∷ gtx 3 30 105 ∷ market 4 2 10 ∷ []) true
    (ended Opposite 100 110 (fill 4 105 10 ∷ contra 105 40 ∷ fill 1 105 17 ∷ fill 2 105 17 ∷ fill 3 105 16 ∷ []))
    -- mode 3, where the Contra Order holds the guarantee on arriving: 20 over 12, 7 and 5, fractions 0, 20 and 4 of 24, one is left over
    ∷ case (order 1 3 100 110 103) (gtx 1 20 103 ∷ gtx 2 20 104 ∷ gtx 3 12 105 ∷ gtx 4 7 105 ∷ gtx 5 5 105 ∷ []) true
    (ended Time 100 110 (contra 103 20 ∷ fill 1 103 20 ∷ contra 104 20 ∷ fill 2 104 20 ∷ fill 3 105 10 ∷ fill 4 105 6 ∷ fill 5 105 4 ∷ []))
    -- W-205: displayed 109 minus 3 counts as a BO of 106, and a response at 106 is above the range; for a sell 101 plus 3 as a BB of 104
    ∷ case (recollared 109 3 order_c) (gtx 1 3 104 ∷ gtx 2 3 106 ∷ []) true (ended Time 101 105 (contra 104 3 ∷ fill 1 104 3 ∷ contra 105 4 ∷ []))
    ∷ case (recollared 101 3 sell_c) (gtx_buy 1 3 106 ∷ gtx_buy 2 3 104 ∷ []) true (ended Time 105 109 (contra 106 3 ∷ fill 1 106 3 ∷ contra 105 4 ∷ []))
    -- it acts at 49 contracts, and from 50 on not at all
    ∷ case (recollared 109 3 (order 1 2 49 110 0)) [] false (standing 101 105)
    ∷ case (recollared 101 3 (order 2 2 49 100 0)) [] false (standing 105 109)
    ∷ case (recollared 109 3 (order 1 2 50 110 0)) [] false (standing 100 110)
    ∷ case (recollared 101 3 (order 2 2 50 100 0)) [] false (standing 100 110)
    -- it stands for BO also where it is above: 120 minus 5 leaves the limit and NBO, where BO would give 109
    ∷ case (recollared 120 5 order_c) [] false (standing 101 110)
    ∷ case (recollared 90 5 sell_c) [] false (standing 100 109)
    -- and where there is no exchange offer, or bid
    ∷ case (quoted 100 110 100 1000000 (recollared 109 3 order_c)) [] false (standing 101 105)
    ∷ case (quoted 100 110 0 110 (recollared 101 3 sell_c)) [] false (standing 105 109)
    -- a range of one price; one cent more of collar makes it empty, 13 (and a BO of 101, one cent above BB, is not 9)
    ∷ case (recollared 104 2 order_c) [] false (standing 101 101)
    ∷ case (recollared 106 2 sell_c) [] false (standing 109 109)
    ∷ case (recollared 104 3 order_c) [] false (refusal 13)
    ∷ case (recollared 106 3 sell_c) [] false (refusal 13)
    -- a limit below the bound is 10, before 13; a stop above the initiating price is 11, after it
    ∷ case (recollared 104 3 (order 1 2 10 100 0)) [] false (refusal 10)
    ∷ case (recollared 106 3 (order 2 2 10 110 0)) [] false (refusal 10)
    ∷ case (recollared 104 3 (order 1 1 10 110 105)) [] false (refusal 13)
    ∷ case (recollared 106 3 (order 2 1 10 100 105)) [] false (refusal 13)
    ∷ case (recollared 104 2 (order 1 1 10 110 105)) [] false (refusal 11)
    ∷ case (recollared 106 2 (order 2 1 10 100 105)) [] false (refusal 11)
    -- 2 and 9 are by the quoted markets, wherever the collared order stands
    ∷ case (quoted 100 110 100 109 (recollared 120 5 order_c)) [] false (refusal 2)
    ∷ case (quoted 100 110 101 110 (recollared 90 5 sell_c)) [] false (refusal 2)
    ∷ case (quoted 100 101 100 101 (recollared 120 5 (order 1 2 49 101 0))) [] false (refusal 9)
    ∷ case (quoted 100 101 100 101 (recollared 90 5 (order 2 2 49 100 0))) [] false (refusal 9)
    -- 12 is by the initiating price that it makes: 12 without it, none with a BO of 101 or a BB of 100, and 13 before it with one cent more of collar
    ∷ case (quoted 100 101 90 110 (order 1 2 10 101 0)) [] false (refusal 12)
    ∷ case (quoted 100 101 90 110 (recollared 103 2 (order 1 2 10 101 0))) [] false (standing 100 100)
    ∷ case (quoted 100 101 91 111 (order 2 2 10 100 0)) [] false (refusal 12)
    ∷ case (quoted 100 101 91 111 (recollared 98 2 (order 2 2 10 100 0))) [] false (standing 101 101)
    ∷ case (quoted 100 101 90 110 (recollared 102 2 (order 1 2 10 101 0))) [] false (refusal 13)
    ∷ case (quoted 100 101 91 111 (recollared 99 2 (order 2 2 10 100 0))) [] false (refusal 13)
    -- and it can make a 12: a BO of 101 leaves 100, a BO of 115 does not
    ∷ case (quoted 100 101 90 101 (order 1 2 10 101 0)) [] false (standing 100 100)
    ∷ case (quoted 100 101 90 101 (recollared 120 5 (order 1 2 10 101 0))) [] false (refusal 12)
    -- events keep the quoted markets: a non-routable bid at the collared 106, or an offer at the collared 104, is not at BO, or BB, and ends the auction by improve
    ∷ case (recollared 109 3 order_c) (non_routable (bid 1 1 106) ∷ []) false (ended Improve 101 105 (contra 105 10 ∷ []))
    ∷ case (recollared 101 3 sell_c) (non_routable (offer 1 1 104) ∷ []) false (ended Improve 105 109 (contra 105 10 ∷ []))
    -- and one at the quoted BO, or BB, by same, where the collared order stands beyond it
    ∷ case (recollared 120 5 order_c) (non_routable (bid 1 1 110) ∷ []) false (ended Same 101 110 (contra 110 10 ∷ []))
    ∷ case (recollared 90 5 sell_c) (non_routable (offer 1 1 100) ∷ []) false (ended Same 100 109 (contra 100 10 ∷ []))
    -- out of form: one field without the other; a field, or the result, that is no price; from 50 contracts on too
    ∷ case (recollared 109 0 order_c) [] false (refusal 1)
    ∷ case (recollared 0 3 order_c) [] false (refusal 1)
    ∷ case (recollared 1000000 3 order_c) [] false (refusal 1)
    ∷ case (recollared 109 1000000 sell_c) [] false (refusal 1)
    ∷ case (recollared 109 109 order_c) [] false (refusal 1)
    ∷ case (recollared 999998 2 sell_c) [] false (refusal 1)
    ∷ case (recollared 109 0 (order 1 2 50 110 0)) [] false (refusal 1)
    ∷ case (recollared 0 3 (order 1 2 50 110 0)) [] false (refusal 1)
    ∷ case (recollared 109 109 (order 1 2 50 110 0)) [] false (refusal 1)
    ∷ case (recollared 999998 2 (order 2 2 50 100 0)) [] false (refusal 1)
    -- and in form at their ends: a BO of 1, a BB of 999,999
    ∷ case (recollared 999999 999998 order_c) [] false (refusal 13)
    ∷ case (recollared 999998 1 sell_c) [] false (refusal 13)
    ∷ []

-- the table is what the definitions that the contracts cite give
abbrev pub Figures : Type 0
Figures = map figure_of cases ≡ map (λ (c : Case). c.want) cases

-- ---- which firm stands behind a response (W-206)

-- an event by a participant
abbrev pub by : ℕ → Event → Event
by participant e = record { sequence = e.sequence; time = e.time; kind = e.kind; marks = e.marks; side = e.side; f12 = e.f12; f16 = e.f16; f20 = e.f20; f24 = e.f24; participant = participant }

-- a cancel of a response by its name
abbrev pub cancel : ℕ → ℕ → Event
cancel sequence name = event 2 sequence 0 name 0

-- of sequences 1 to 6 of an auction that has ended: 1 was amended by 2, 3 is a limit order, 4 was cancelled by 5, and 6 is the market order that ended it
abbrev pub firms_at_end : Order → List Event → List (Option ℕ)
firms_at_end o es = map (participant_of (played o es)) (1 ∷ 2 ∷ 3 ∷ 4 ∷ 5 ∷ 6 ∷ [])

abbrev pub FirmFigures : Type 0
FirmFigures =
    Accepts (order 1 1 100 110 108)
    × (firms_at_end (order 1 1 100 110 108) (by 7 (gtx 1 30 105) ∷ by 9 (amend 2 1 20 106) ∷ by 5 (offer 3 10 107) ∷ by 6 (gtx 4 10 107) ∷ by 8 (cancel 5 4) ∷ by 3 (market 6 2 4) ∷ [])
    ≡ None ∷ Some 9 ∷ Some 5 ∷ None ∷ None ∷ None ∷ [])
    × Accepts (order 2 1 100 100 102)
    × (firms_at_end (order 2 1 100 100 102) (by 7 (gtx_buy 1 30 105) ∷ by 9 (amend 2 1 20 104) ∷ by 5 (bid 3 10 103) ∷ by 6 (gtx_buy 4 10 103) ∷ by 8 (cancel 5 4) ∷ by 3 (market 6 1 4) ∷ [])
    ≡ None ∷ Some 9 ∷ Some 5 ∷ None ∷ None ∷ None ∷ [])
