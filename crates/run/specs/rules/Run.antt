-- A run: events one after the other, and what a tape comes to.
use Rattle.std.specs.Prelude.{Bool, true, false, List, [], ◌∷◌, ℕ, Result, Ok, Err}
use Rattle.base.specs.declared.refusal.Refusal.{Refusal}
use Rattle.base.specs.Lists.{keep}
use Rattle.tape.specs.rules.Tape.{open_tape, order_in, records_of}
use Rattle.tape.specs.declared.order.Order.{Order}
use Rattle.tape.specs.declared.event.Event.{Event}
use Rattle.tape.specs.declared.trailer.Trailer.{Trailer}
use Rattle.auction.specs.rules.Accept.{auction_of, accept_of}
use Rattle.auction.specs.declared.Auction.{Auction}
use Rattle.events.specs.rules.Step.{step_of, close_of}
use Rattle.events.specs.declared.Answer.{Answer}
use Rattle.events.specs.declared.Answer.TheVariants.{Taken, Ended, Late, Refused}

-- ---- events, in form or not

-- the auction after each event of a list
abbrev pub run : Auction → List Event → Auction
run a [] = a
run a (e ∷ es) = run (step_of a e).auction es

-- what is said of an event: its sequence, and its answer
pub record Said : Type 0 where
  pub sequence : ℕ
  pub answer : Answer

abbrev pub said : ℕ → Answer → Said
said sequence answer = record { sequence = sequence; answer = answer }

-- what is said of each event of a list
abbrev pub heard : Auction → List Event → List Said
heard a [] = []
heard a (e ∷ es) = said e.sequence (step_of a e).answer ∷ heard (step_of a e).auction es

-- an auction still open after the last event is closed by hand
abbrev pub closed : Auction → Auction
closed a = (close_of a).auction

-- an order's auction after a list of events
abbrev pub played : Order → List Event → Auction
played o es = closed (run (auction_of o) es)

-- taken, and those that end it; not late ones
abbrev pub is_taken : Answer → Bool
is_taken Taken = true
is_taken Ended = true
is_taken Late = false
is_taken (Refused r) = false

-- those of a list that are taken
abbrev pub taken_of : Auction → List Event → List Event
taken_of a [] = []
taken_of a (e ∷ es) = keep (is_taken (step_of a e).answer) e (taken_of (step_of a e).auction es)

-- ---- a tape

pub data Run : Type 0 where
  -- the tape or its order is refused
  refused : Refusal → Run
  -- the auction as it opened, what is said of the events, and the auction as it ended
  ended : Auction → List Said → Auction → Run

-- an order's refusal or its auction, with its events
abbrev pub run_entry : List Event → Result Auction Refusal → Run
run_entry es (Err r) = refused r
run_entry es (Ok a) = ended a (heard a es) (closed (run a es))

abbrev pub run_order : List Event → Result Order Refusal → Run
run_order es (Err r) = refused r
run_order es (Ok o) = run_entry es (accept_of o)

abbrev pub run_tape : List ℕ → Result Trailer Refusal → Run
run_tape s (Err r) = refused r
run_tape s (Ok t) = run_order (records_of s t) (order_in s t)

unfoldable pub run_of : List ℕ → Run
run_of s = run_tape s (open_tape s)
