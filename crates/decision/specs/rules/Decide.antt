-- What is decided of an event (document 01, "What an event does", W-201 for amends, W-202 for the size that goes, and W-206 for participants), for a buy, on small values.
use Rattle.std.specs.Prelude.{Bool, true, false, cond, not, ◌&&◌, ◌||◌, ℕ, min, max, leb, ltb, eqb, Result, Ok, Err}
use Rattle.base.specs.declared.refusal.Refusal.{Refusal}
use Rattle.base.specs.declared.refusal.Refusal.TheVariants.{OwnSide, AboveInitiating, NoSuchResponse, BoardFull}
use Rattle.words.specs.rules.Bits.{bit_at}
use Rattle.board.specs.declared.Response.{Response}
use Rattle.board.specs.rules.Board.{place_in, found_place, found_response}
use Rattle.tape.specs.declared.event.Event.{Event}
use Rattle.tape.specs.rules.Fields.{size_of, price_of, new_size_of, new_price_of, nbb_of, nbo_of, bb_of, bo_of}
use Rattle.auction.specs.rules.Accept.{bid_mark, offer_mark}
use Rattle.auction.specs.rules.Range.{bound_by}
use Rattle.auction.specs.declared.Terms.{Terms}
use Rattle.auction.specs.declared.Quotes.{Quotes}
use Rattle.auction.specs.declared.Ending.{Ending}
use Rattle.auction.specs.declared.Ending.TheVariants.{Open, Same, Opposite, Improve}
use Rattle.decision.specs.declared.Sight.{Sight}
use Rattle.decision.specs.declared.Change.{Change}
use Rattle.decision.specs.declared.Change.TheVariants.{Nothing, Seat, Free, Quote, Sell}
use Rattle.decision.specs.declared.Deed.{Deed}

-- what is decided of an event: its change and the ending after it, or its refusal
abbrev pub Outcome : Type 0
Outcome = Result Deed Refusal

abbrev pub does : Change → Ending → Outcome
does change ending = Ok (record { change = change; ending = ending })

-- the place that a sight has for a response, and 64 for none
abbrev pub free_place : Sight → ℕ
free_place s = place_in s.free

-- the place of the GTX response that is named, and 64 for none
abbrev pub old_place : Sight → ℕ
old_place s = found_place s.named

-- what stands there
abbrev pub old_response : Sight → Response
old_response s = found_response s.named

abbrev pub is_cancel : Event → Bool
is_cancel e = eqb e.kind 2

abbrev pub is_amend : Event → Bool
is_amend e = eqb e.kind 6

abbrev pub is_customer : Event → Bool
is_customer e = bit_at e.marks 0

abbrev pub is_non_routable : Event → Bool
is_non_routable e = bit_at e.marks 1

-- a response of a size: a GTX one, or a limit order
abbrev pub response_of : Bool → ℕ → Event → Response
response_of gtx size e = record { sequence = e.sequence; size = size; price = price_of e; participant = e.participant; customer = is_customer e; gtx = gtx }

-- a response stands at a place, from which a size is gone; it is refused where there is no such place
abbrev pub seats : ℕ → Response → ℕ → Ending → Refusal → Outcome
seats place r gone ending none = cond (ltb place 64) (does (Seat place r gone) ending) (Err none)

-- a response has to be placed: at the lowest free place, and the board is full where there is none
abbrev pub places : Sight → Response → Ending → Outcome
places s r ending = seats (free_place s) r 0 ending BoardFull

-- a GTX response: its size is capped at the CUBE size
unfoldable pub gtx_outcome : Terms → Sight → Event → Outcome
gtx_outcome t s e =
    cond (eqb e.side 1) (Err OwnSide)
    (cond (ltb t.initiating (price_of e)) (Err AboveInitiating)
    (places s (response_of true (min (size_of e) t.size) e) Open))

-- a cancel: the place that was found is freed, and its size is gone
unfoldable pub cancel_outcome : Sight → Outcome
cancel_outcome s = cond (ltb (old_place s) 64) (does (Free (old_place s) (old_response s).size) Open) (Err NoSuchResponse)

-- the GTX response that an amend makes of an old one: the event's sequence, the new size, capped at the CUBE size, the new price and the event's participant; the Customer mark stays
abbrev pub amended_by : Terms → Response → Event → Response
amended_by t old e = record { sequence = e.sequence; size = min (new_size_of e) t.size; price = new_price_of e; participant = e.participant; customer = old.customer; gtx = true }

-- an amend: the new response stands at the place of the GTX response that is named
unfoldable pub amend_outcome : Terms → Sight → Event → Outcome
amend_outcome t s e =
    cond (ltb t.initiating (new_price_of e)) (Err AboveInitiating)
    (seats (old_place s) (amended_by t (old_response s) e) (old_response s).size Open NoSuchResponse)

-- a sell limit: marketable at the NBB or below (non-routable: the BB); it takes a place where it is not above the initiating price
unfoldable pub sell_limit_outcome : Terms → Quotes → Sight → Event → Outcome
sell_limit_outcome t q s e =
    let ending = cond (leb (price_of e) (cond (is_non_routable e) q.bb q.nbb)) Opposite Open in
    cond (leb (price_of e) t.initiating) (places s (response_of false (size_of e) e) ending) (does Nothing ending)

-- the quotes with a bid: a higher one becomes BB with its own mark, an equal one can only set the mark
unfoldable pub bid_quotes : Quotes → ℕ → Bool → Quotes
bid_quotes q price customer =
    record {
      nbb = max q.nbb price;
      nbo = q.nbo;
      bb = max q.bb price;
      bo = q.bo;
      bidmark = cond (ltb q.bb price) customer (q.bidmark || (eqb price q.bb && customer));
      offermark = q.offermark;
    }

-- a bid would raise BB, or set its mark at an equal price
abbrev pub moves : Quotes → ℕ → Bool → Bool
moves q price customer = ltb q.bb price || (eqb price q.bb && customer && not q.bidmark)

-- a buy limit: marketable at the NBO or above (non-routable: the BO)
unfoldable pub buy_limit_outcome : Terms → Quotes → Event → Outcome
buy_limit_outcome t q e =
    cond (leb (cond (is_non_routable e) q.bo q.nbo) (price_of e)) (does Nothing Same)
    (cond (moves q (price_of e) (is_customer e) && ltb t.initiating (bound_by t (bid_quotes q (price_of e) (is_customer e)))) (does Nothing Improve)
    (does (Quote (bid_quotes q (price_of e) (is_customer e))) Open))

unfoldable pub limit_outcome : Terms → Quotes → Sight → Event → Outcome
limit_outcome t q s e = cond (eqb e.side 1) (buy_limit_outcome t q e) (sell_limit_outcome t q s e)

unfoldable pub market_outcome : Event → Outcome
market_outcome e = cond (eqb e.side 1) (does Nothing Same) (does (Sell (record { sequence = e.sequence; size = size_of e })) Opposite)

-- the quotes that an event brings
unfoldable pub new_quotes : Event → Quotes
new_quotes e = record { nbb = nbb_of e; nbo = nbo_of e; bb = bb_of e; bo = bo_of e; bidmark = bid_mark e.marks; offermark = offer_mark e.marks }

unfoldable pub quotes_outcome : Terms → Event → Outcome
quotes_outcome t e = cond (ltb t.initiating (bound_by t (new_quotes e))) (does Nothing Improve) (does (Quote (new_quotes e)) Open)

unfoldable pub outcome_of : Terms → Quotes → Sight → Event → Outcome
outcome_of t q s e =
    cond (eqb e.kind 1) (gtx_outcome t s e)
    (cond (is_cancel e) (cancel_outcome s)
    (cond (eqb e.kind 3) (limit_outcome t q s e)
    (cond (eqb e.kind 4) (market_outcome e)
    (cond (is_amend e) (amend_outcome t s e)
    (quotes_outcome t e)))))
