-- Which orders are accepted, and the auction that one opens (document 01, "Numbers for no", "Range and guarantee", and W-205 for collared orders): a sell is tested as the buy that it mirrors.
use Rattle.std.specs.Prelude.{◌≡◌, Bool, cond, not, ◌&&◌, ◌||◌, ℕ, ◌+◌, ◌-◌, min, max, leb, ltb, eqb, Result, Ok, Err}
use Rattle.std.specs.Result.{result_and}
use Rattle.base.specs.declared.refusal.Refusal.{Refusal}
use Rattle.base.specs.declared.refusal.Refusal.TheVariants.{OrderOutOfForm, BetterThanNational, NoSize, BeforeOpen, NearClose, Halted, AnotherOpen, NationalCrossed, ExchangeCentWide, LimitBelowRange, StopAboveRange, NationalCentWide, NoRange}
use Rattle.words.specs.rules.Bits.{bit_at}
use Rattle.board.specs.rules.Board.{empty_board}
use Rattle.tape.specs.declared.order.Order.{Order}
use Rattle.tape.specs.rules.Form.{collar_result, order_formed}
use Rattle.mirror.specs.rules.Mirror.{buy_order}
use Rattle.auction.specs.declared.Auction.{Auction}
use Rattle.auction.specs.declared.Terms.{Terms}
use Rattle.auction.specs.declared.Quotes.{Quotes}
use Rattle.auction.specs.declared.Market.{Market}
use Rattle.auction.specs.declared.Ending.TheVariants.{Open}

-- ---- the range

-- what counts as BO in the initiating price, and nowhere else: BO, or where there is a collared order on the other side, its displayed price minus the collar (side 1 is a buy)
unfoldable pub counted_offer : Order → ℕ
counted_offer o = cond (eqb o.displayed 0) o.bo (collar_result 1 o.displayed o.collar)

-- the lower of limit and NBO; under 50 contracts also of what counts as BO - 1
unfoldable pub initiating_of : Order → ℕ
initiating_of o = cond (ltb o.size 50) (min (min o.limit o.nbo) (counted_offer o - 1)) (min o.limit o.nbo)

-- the added cent: under 50 contracts, or a Customer at BB
unfoldable pub tick_of : ℕ → Bool → ℕ
tick_of size bidmark = cond (ltb size 50 || bidmark) 1 0

-- the higher of the NBB at initiation and BB + t
unfoldable pub bound_of : ℕ → ℕ → ℕ → Bool → ℕ
bound_of size floor bb bidmark = max floor (bb + tick_of size bidmark)

abbrev pub bid_mark : ℕ → Bool
bid_mark marks = bit_at marks 2

abbrev pub offer_mark : ℕ → Bool
offer_mark marks = bit_at marks 3

abbrev pub first_bound : Order → ℕ
first_bound o = bound_of o.size o.nbb o.bb (bid_mark o.marks)

-- the working stop, the working auto-match limit, or in mode 2 the initiating price
unfoldable pub guaranteed_of : Order → ℕ
guaranteed_of o = cond (eqb o.mode 2) (initiating_of o) (max o.stop (first_bound o))

-- ---- the refusals of a buy in form, in their order

unfoldable pub range_refusal : Order → Result (Unit {0}) Refusal
range_refusal o =
    cond (ltb o.limit (first_bound o)) (Err LimitBelowRange)
    (cond (ltb (initiating_of o) (first_bound o)) (Err NoRange)
    (cond (ltb (initiating_of o) o.stop) (Err StopAboveRange)
    (cond (ltb o.size 50 && eqb o.nbo (o.nbb + 1) && not (eqb o.nbo (guaranteed_of o + 1))) (Err NationalCentWide)
    (Ok tt))))

unfoldable pub buy_refusal : Order → Result (Unit {0}) Refusal
buy_refusal o =
    cond (ltb o.nbb o.bb || ltb o.bo o.nbo) (Err BetterThanNational)
    (cond (eqb o.size 0) (Err NoSize)
    (cond (ltb o.time o.opens) (Err BeforeOpen)
    (cond (leb o.closes (o.time + 1000)) (Err NearClose)
    (cond (bit_at o.marks 0) (Err Halted)
    (cond (bit_at o.marks 1) (Err AnotherOpen)
    (cond (leb o.nbo o.nbb) (Err NationalCrossed)
    (cond (ltb o.size 50 && eqb o.bo (o.bb + 1)) (Err ExchangeCentWide)
    (range_refusal o))))))))

unfoldable pub order_refusal : Order → Result (Unit {0}) Refusal
order_refusal o = cond (not (order_formed o)) (Err OrderOutOfForm) (buy_refusal (buy_order o))

-- ---- the auction

unfoldable pub terms_of : Bool → Order → Terms
terms_of sell b =
    record { sell = sell; mode = b.mode; size = b.size; initiating = initiating_of b; floor = b.nbb; stop = b.stop; interval = b.interval }

unfoldable pub quotes_of : Order → Quotes
quotes_of b = record { nbb = b.nbb; nbo = b.nbo; bb = b.bb; bo = b.bo; bidmark = bid_mark b.marks; offermark = offer_mark b.marks }

abbrev pub no_market : Market
no_market = record { sequence = 0; size = 0 }

-- the open auction of a buy: nothing taken, no response
unfoldable pub opened_by : Bool → Order → Auction
opened_by sell b =
    record {
      head = record { terms = terms_of sell b; quotes = quotes_of b; sequence = 0; clock = 0; ending = Open; market = no_market; offered = 0 };
      board = empty_board;
    }

-- the auction that an order opens where it is accepted
abbrev pub auction_of : Order → Auction
auction_of o = opened_by (eqb o.side 2) (buy_order o)

-- an order's refusal, or its auction
unfoldable pub accept_of : Order → Result Auction Refusal
accept_of o = result_and (order_refusal o) (Ok (auction_of o))

-- the order is accepted
abbrev pub Accepts : Order → Type 0
Accepts o = accept_of o ≡ Ok (auction_of o)
