-- What an event does (documents 01 and 02): what it sees of the board, one turn by what is decided of it, and the step.
use Rattle.std.specs.Prelude.{cond, not, ◌||◌, ℕ, leb, ltb, Result, Ok, Err}
use Rattle.base.specs.declared.refusal.Refusal.{Refusal}
use Rattle.base.specs.declared.refusal.Refusal.TheVariants.{AuctionEnded, EventOutOfForm, SequenceTaken, BeforeClock}
use Rattle.board.specs.declared.Board.{Board}
use Rattle.board.specs.rules.Board.{first_free, place_at, seated_at, cleared, find_gtx, found_at}
use Rattle.tape.specs.declared.event.Event.{Event}
use Rattle.tape.specs.rules.Form.{event_formed}
use Rattle.tape.specs.rules.Fields.{name_of}
use Rattle.mirror.specs.rules.Mirror.{buy_event}
use Rattle.decision.specs.rules.Decide.{is_cancel, is_amend, Outcome, outcome_of}
use Rattle.auction.specs.rules.Range.{is_open}
use Rattle.auction.specs.rules.Offer.{moved_offer}
use Rattle.auction.specs.declared.Auction.{Auction}
use Rattle.auction.specs.declared.Head.{Head}
use Rattle.auction.specs.declared.Quotes.{Quotes}
use Rattle.auction.specs.declared.Market.{Market}
use Rattle.auction.specs.declared.Ending.{Ending}
use Rattle.auction.specs.declared.Ending.TheVariants.{Time}
use Rattle.events.specs.declared.Answer.{Answer}
use Rattle.events.specs.declared.Answer.TheVariants.{Taken, Ended, Late, Refused}
use Rattle.events.specs.declared.Stepped.{Stepped}
use Rattle.decision.specs.declared.Sight.{Sight}
use Rattle.events.specs.declared.Turn.{Turn}
use Rattle.decision.specs.declared.Change.{Change}
use Rattle.decision.specs.declared.Change.TheVariants.{Nothing, Seat, Free, Quote, Sell}

-- ---- the refusals that every kind has, in their order

unfoldable pub event_refusal : Head → Event → Result (Unit {0}) Refusal
event_refusal h e =
    cond (not (is_open h.ending)) (Err AuctionEnded)
    (cond (not (event_formed e)) (Err EventOutOfForm)
    (cond (leb e.sequence h.sequence) (Err SequenceTaken)
    (cond (ltb e.time h.clock) (Err BeforeClock)
    (Ok tt))))

-- ---- what the board tells of an event

-- the place of the GTX response that an event names, and 64 where it names none that is live
abbrev pub found_for : Board → Event → ℕ
found_for b e = cond (is_cancel e || is_amend e) (find_gtx b (name_of e)) 64

-- the place that a response would take, the lowest free one; the GTX that is named
unfoldable pub sight_of : Board → Event → Sight
sight_of b e = record { free = place_at (first_free b); named = found_at b (found_for b e) }

-- ---- what a change makes of the board, the quotes, the market order and the contracts on offer

abbrev pub board_after : Board → Change → Board
board_after b Nothing = b
board_after b (Seat i r gone) = seated_at b i r
board_after b (Free i gone) = cleared b i
board_after b (Quote q) = b
board_after b (Sell m) = b

abbrev pub quotes_after : Quotes → Change → Quotes
quotes_after q Nothing = q
quotes_after q (Seat i r gone) = q
quotes_after q (Free i gone) = q
quotes_after q (Quote n) = n
quotes_after q (Sell m) = q

abbrev pub market_after : Market → Change → Market
market_after m Nothing = m
market_after m (Seat i r gone) = m
market_after m (Free i gone) = m
market_after m (Quote n) = m
market_after m (Sell n) = n

-- a response that is placed counts with the size that it has on the board; one that is cancelled, or that an amend replaces, counts no more; a market order never does
abbrev pub offered_after : ℕ → Change → ℕ
offered_after n Nothing = n
offered_after n (Seat i r gone) = moved_offer n gone r.size
offered_after n (Free i gone) = moved_offer n gone 0
offered_after n (Quote q) = n
offered_after n (Sell m) = n

-- ---- the turn: the answer to an event, the head after it, and what becomes of the board

-- nothing becomes of the board
abbrev pub stays : Answer → Head → Turn
stays answer h = record { answer = answer; head = h; change = Nothing }

-- by time: nothing but the ending moves
unfoldable pub ended_by_time : Head → Head
ended_by_time h =
    record { terms = h.terms; quotes = h.quotes; sequence = h.sequence; clock = h.clock; ending = Time; market = h.market; offered = h.offered }

-- an event that is taken, or ends the auction, moves the highest sequence and the clock
unfoldable pub head_after : Head → Event → Change → Ending → Head
head_after h e c ending =
    record {
      terms = h.terms;
      quotes = quotes_after h.quotes c;
      sequence = e.sequence;
      clock = e.time;
      ending = ending;
      market = market_after h.market c;
      offered = offered_after h.offered c;
    }

-- a turn, where nothing refuses it
abbrev pub unless_refused : Head → Result (Unit {0}) Refusal → Turn → Turn
unless_refused h (Err r) t = stays (Refused r) h
unless_refused h (Ok u) t = t

-- what is decided of an event, carried out
abbrev pub carried : Head → Event → Outcome → Turn
carried h e (Err r) = stays (Refused r) h
carried h e (Ok d) = record { answer = cond (is_open d.ending) Taken Ended; head = head_after h e d.change d.ending; change = d.change }

-- 31 to 34, then late, then by its kind
unfoldable pub turn_of : Head → Sight → Event → Turn
turn_of h s e =
    unless_refused h (event_refusal h e)
    (cond (leb h.terms.interval e.time) (stays Late (ended_by_time h))
    (carried h e (outcome_of h.terms h.quotes s (buy_event h.terms.sell e))))

-- the turn that comes of a turn or a refusal
abbrev pub settled : Head → Result Turn Refusal → Turn
settled h (Err r) = stays (Refused r) h
settled h (Ok t) = t

-- closing by hand, as an event at time L
unfoldable pub close_turn : Head → Turn
close_turn h = cond (is_open h.ending) (stays Late (ended_by_time h)) (stays (Refused AuctionEnded) h)

-- ---- the step: the turn, seated on the board

abbrev pub gives : Answer → Auction → Stepped
gives answer a = record { answer = answer; auction = a }

abbrev pub seated_on : Board → Turn → Stepped
seated_on b t = gives t.answer (record { head = t.head; board = board_after b t.change })

-- an event under some sight of the board, and under the auction's own
abbrev pub step_by : Sight → Auction → Event → Stepped
step_by s a e = seated_on a.board (turn_of a.head s e)

abbrev pub step_of : Auction → Event → Stepped
step_of a e = step_by (sight_of a.board e) a e

abbrev pub close_of : Auction → Stepped
close_of a = seated_on a.board (close_turn a.head)
