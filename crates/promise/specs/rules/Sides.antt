-- An ended auction in real prices, buys and sells alike: the fills as they are written, the responses with their prices as they were sent.
use Rattle.std.specs.Prelude.{Bool, true, cond, not, ◌&&◌, List, [], ◌∷◌, ◌++◌, map, ℕ, ◌+◌, ◌-◌, min, max, ltb, eqb, length}
use Rattle.base.specs.Lists.{filter, sum}
use Rattle.board.specs.declared.Response.{Response}
use Rattle.board.specs.rules.Board.{live_of, is_gtx}
use Rattle.share.specs.rules.Fills.{Fill, sizes}
use Rattle.tape.specs.declared.order.Order.{Order}
use Rattle.tape.specs.declared.event.Event.{Event}
use Rattle.tape.specs.rules.Form.{collar_result}
use Rattle.tape.specs.rules.Fields.{size_of, price_of, name_of, new_size_of, new_price_of}
use Rattle.trade.specs.rules.Plan.{Plan, plan_of}
use Rattle.trade.specs.rules.Trade.{from_customer, from_other, guarantee_of, working_stop}
use Rattle.trade.specs.rules.Write.{reported_price}
use Rattle.demand.specs.promises.Demands.{tally}
use Rattle.auction.specs.rules.Accept.{initiating_of, tick_of, first_bound, offer_mark, auction_of}
use Rattle.auction.specs.rules.Range.{range_of}
use Rattle.auction.specs.declared.Auction.{Auction}
use Rattle.auction.specs.declared.Range.{Range}
use Rattle.auction.specs.declared.Market.{Market}
use Rattle.decision.specs.rules.Decide.{is_customer, is_amend}
use Rattle.fills.specs.rules.Fills.{deal_of, auction_fills}
use Rattle.run.specs.rules.Run.{taken_of, played}

abbrev pub is_sell : Order → Bool
is_sell o = eqb o.side 2

-- the side of those who trade with the order
abbrev pub other_side : Order → ℕ
other_side o = cond (is_sell o) 1 2

-- p is a better price than q for the CUBE order: lower for a buy, higher for a sell. A response trades beyond its limit where the price is better than that
abbrev pub better : Bool → ℕ → ℕ → Bool
better sell p q = cond sell (ltb q p) (ltb p q)

-- a response with its price as it was sent
abbrev pub sent : Bool → Response → Response
sent sell r = record { sequence = r.sequence; size = r.size; price = reported_price sell r.price; participant = r.participant; customer = r.customer; gtx = r.gtx }

-- the live responses of an auction, with their prices as they were sent; a GTX response's size is capped at the CUBE size
abbrev pub responses : Auction → List Response
responses a = map (sent a.head.terms.sell) (live_of a.board)

-- ---- the opening range, by the order's own fields

-- a buy: from its bound to its initiating price
abbrev pub buy_range : Order → Range
buy_range o = record { low = first_bound o; high = initiating_of o }

-- what counts as BB in a sell's initiating price: BB, or where there is a collared order on the other side, its displayed price plus the collar (side 2 is a sell)
abbrev pub counted_bid : Order → ℕ
counted_bid o = cond (eqb o.displayed 0) o.bb (collar_result 2 o.displayed o.collar)

-- a sell: from the higher of limit and NBB, under 50 contracts also of what counts as BB + 1, to the lower of NBO and BO - t, where a Customer at BO counts
abbrev pub sell_range : Order → Range
sell_range o =
    record {
      low = max (max o.limit o.nbb) (cond (ltb o.size 50) (counted_bid o + 1) o.limit);
      high = min o.nbo (o.bo - tick_of o.size (offer_mark o.marks));
    }

abbrev pub opening_range : Order → Range
opening_range o = cond (is_sell o) (sell_range o) (buy_range o)

-- ---- what the records leave standing

module _ (o : Order) where
  -- the response that a record sends
  abbrev pub sent_by : Event → Response
  sent_by e =
      record {
        sequence = e.sequence;
        size = cond (eqb e.kind 1) (min (size_of e) o.size) (size_of e);
        price = price_of e;
        participant = e.participant;
        customer = is_customer e;
        gtx = eqb e.kind 1;
      }

  -- the response that an amend sends instead of an old one: the record's sequence, the new size, capped at the CUBE size, the new price and the record's participant; the Customer mark stays
  abbrev pub sent_instead : Event → Response → Response
  sent_instead e old = record { sequence = e.sequence; size = min (new_size_of e) o.size; price = new_price_of e; participant = e.participant; customer = old.customer; gtx = true }

  -- the initiating price
  abbrev pub initiating_price : ℕ
  initiating_price = cond (is_sell o) (sell_range o).low (buy_range o).high

  -- a limit order of the other side, at the initiating price or better
  abbrev pub takes_place : Event → Bool
  takes_place e = eqb e.side (other_side o) && not (better (is_sell o) initiating_price (price_of e))

  -- what stands, by sequence, after a record: a GTX response stands, a cancel takes away the GTX response that it names, a limit order stands where it takes a place,
  -- an amend takes away the GTX response that it names and another stands instead; no other record changes what stands
  abbrev pub stands_after : List Response → Event → List Response
  stands_after rs e =
      let named = filter (is_gtx (name_of e)) rs in
      let others = filter (λ r. not (is_gtx (name_of e) r)) rs in
      cond (eqb e.kind 1) (rs ++ (sent_by e ∷ []))
      (cond (eqb e.kind 2) others
      (cond (eqb e.kind 3 && takes_place e) (rs ++ (sent_by e ∷ []))
      (cond (is_amend e) (others ++ map (sent_instead e) named)
      rs)))

  abbrev pub standing_from : List Response → List Event → List Response
  standing_from rs [] = rs
  standing_from rs (e ∷ es) = standing_from (stands_after rs e) es

  -- what a list of records taken leaves standing, by sequence
  abbrev pub standing_of : List Event → List Response
  standing_of es = standing_from [] es

-- a GTX response of that sequence is among them
abbrev pub has_named : ℕ → List Response → Bool
has_named k rs = not (eqb (length (filter (is_gtx k) rs)) 0)

-- the size and the price that a record gives its response: those of an amend are new
abbrev pub given_size : Event → ℕ
given_size e = cond (is_amend e) (new_size_of e) (size_of e)

abbrev pub given_price : Event → ℕ
given_price e = cond (is_amend e) (new_price_of e) (price_of e)

-- ---- fills

-- what trades at better prices than p, and what a party trades at those
abbrev pub sold_better : Bool → ℕ → List Fill → ℕ
sold_better sell p fs = tally (λ f. better sell f.price p) fs

abbrev pub got_better : Bool → ℕ → ℕ → List Fill → ℕ
got_better sell k p fs = tally (λ f. eqb f.party k && better sell f.price p) fs

-- ---- an order, and the records after it: the auction once ended

module _ (o : Order) (es : List Event) where
  -- the records taken, and the one that ended it (lines `taken` and `ended`); no late one
  abbrev pub taken_records : List Event
  taken_records = taken_of (auction_of o) es

  -- the auction at its end, the range that the END line shows, and the fills of the FILL lines
  abbrev pub at_end : Auction
  at_end = played o es

  abbrev pub range_at_end : Range
  range_at_end = range_of at_end.head

  abbrev pub written_fills : List Fill
  written_fills = auction_fills at_end

  -- the responses live at the ending
  abbrev pub live_at_end : List Response
  live_at_end = responses at_end

  -- the market order that ended it, of size 0 where none did; and the fills of all others
  abbrev pub market_order : Market
  market_order = at_end.head.market

  abbrev pub walked_fills : List Fill
  walked_fills = filter (λ f. not (ltb 0 market_order.size && eqb f.party market_order.sequence)) written_fills

  -- a response's working price: its own, or the bound where its own is better
  abbrev pub working_price : Response → ℕ
  working_price r = cond (is_sell o) (min r.price range_at_end.high) (max r.price range_at_end.low)

  -- the responses at a price, the Customers among them, and the others
  abbrev pub all_at_price : ℕ → List Response
  all_at_price p = filter (λ r. eqb (working_price r) p) live_at_end

  abbrev pub customers_at_price : ℕ → List Response
  customers_at_price p = filter from_customer (all_at_price p)

  abbrev pub others_at_price : ℕ → List Response
  others_at_price p = filter from_other (all_at_price p)

  -- the greater of one contract and 40% of the size, rounded down; 50% where exactly one response is live
  abbrev pub guarantee_at_end : ℕ
  guarantee_at_end = guarantee_of o.size (length live_at_end)

  -- the size left on arriving at a price: what the market order and better prices leave
  abbrev pub left_at_price : ℕ → ℕ
  left_at_price p = o.size - (min o.size market_order.size + sold_better (is_sell o) p walked_fills)

  -- document 01's plan at a price, for the buy that the order is or mirrors: what the Contra Order takes there before the others, and whether the rest goes to it too: so at the guarantee price, and past it, where nothing trades
  abbrev pub plan_at_price : ℕ → Plan
  plan_at_price p = plan_of o.mode (working_stop (deal_of at_end.head)) at_end.head.terms.initiating guarantee_at_end (reported_price (is_sell o) p) (left_at_price p) (got_better (is_sell o) 0 p written_fills) (sum (sizes (all_at_price p)))

  -- what is left to the others at a price, after Customers and the Contra Order's first part
  abbrev pub left_to_others_at_price : ℕ → ℕ
  left_to_others_at_price p =
      let left = left_at_price p - sum (sizes (customers_at_price p)) in
      left - min left (plan_at_price p).want
