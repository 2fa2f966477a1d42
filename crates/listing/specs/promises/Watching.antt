-- What is promised of a watch, beyond the contracts of its functions.
use Rattle.std.specs.Prelude.{◌≡◌, List, [], ◌∷◌, ◌++◌, ℕ, ◌≤◌, ◌<◌, length, take, drop}
use Rattle.board.specs.promises.Board.{Good}
use Rattle.tape.specs.declared.event.Event.{Event}
use Rattle.auction.specs.declared.Auction.{Auction}
use Rattle.auction.specs.declared.Head.{Head}
use Rattle.auction.specs.rules.Accept.{auction_of, Accepts}
use Rattle.events.specs.rules.Step.{step_of}
use Rattle.run.specs.rules.Run.{run}
use Rattle.run.specs.promises.Figures.{event, gtx}
use Rattle.listing.specs.rules.Text.{text}
use Rattle.listing.specs.rules.Listing.{refused_line, auction_line, end_lines}
use Rattle.listing.specs.rules.Watch.{watch_line, watch_lines, lines_room, shown_bytes, watched_of}
use Rattle.listing.specs.promises.Demands.{example_order, example_response, order_e, no_event, market_e}

-- ---- examples

-- document 01's own (case c)
abbrev pub watch_c : List ℕ
watch_c = text "EVENT 1 taken on offer 3\n" ++ text "EVENT 1 refused 33 on offer 3\n"

-- its order, with a response that is capped, amended and cancelled, and a limit order that ends the auction and counts whole
abbrev pub amend : ℕ → ℕ → ℕ → ℕ → Event
amend sequence named size price = record { sequence = sequence; time = 20; kind = 6; marks = 0; side = 0; f12 = named; f16 = size; f20 = price; f24 = 0; participant = 0 }

abbrev pub moved : List Event
moved = gtx 1 30 105 ∷ amend 2 1 4 104 ∷ event 2 3 0 2 0 ∷ event 3 4 2 25 100 ∷ no_event 5 ∷ []

abbrev pub watch_moved : List ℕ
watch_moved =
    text "EVENT 1 taken on offer 10\n"
    ++ (text "EVENT 2 taken on offer 4\n"
    ++ (text "EVENT 3 taken on offer 0\n"
    ++ (text "EVENT 4 ended on offer 25\n"
    ++ text "EVENT 5 refused 31 on offer 25\n")))

-- a sell (case e): the market order that ends it does not count
abbrev pub watch_e : List ℕ
watch_e = text "EVENT 1 refused 32 on offer 0\n" ++ (text "EVENT 2 ended on offer 0\n" ++ text "EVENT 3 refused 31 on offer 0\n")

-- ---- the theorems

-- events shown one after the other, each as `event` promises in bytes that are enough: the auction before, all the bytes shown, the auction after
pub data Shows : Auction → List Event → List ℕ → Auction → Type 0 where
  none : {a : Auction} → Shows a [] [] a
  more : {a c : Auction} {e : Event} {es : List Event} {t : List ℕ} (out : List ℕ) → lines_room ≤ length out → Shows (watched_of a e out).auction es t c
      → Shows a (e ∷ es) (take (watched_of a e out).length (shown_bytes (watch_line a e) out) ++ t) c

pub record Watching : Type 0 where
  -- the orders of the examples are accepted
  pub accepts-c : Accepts example_order
  pub accepts-e : Accepts order_e
  pub case-c : watch_lines (auction_of example_order) (example_response ∷ example_response ∷ []) ≡ watch_c
  pub case-moved : watch_lines (auction_of example_order) moved ≡ watch_moved
  pub case-e : watch_lines (auction_of order_e) (no_event 1 ∷ market_e ∷ no_event 3 ∷ []) ≡ watch_e
  -- each line fits the room, and those of the end together; none is empty, so that a length of 0 is that of too small a room
  pub lines_fit : (a : Auction) (e : Event) → (1 ≤ length (watch_line a e)) × (length (watch_line a e) ≤ lines_room)
  pub ends-fit : (a : Auction) → Good a.board → (1 ≤ length (end_lines a)) × (length (end_lines a) ≤ lines_room)
  pub heads-fit : (h : Head) → (1 ≤ length (auction_line h)) × (length (auction_line h) ≤ lines_room)
  pub refusals-fit : (n : ℕ) → (1 ≤ length (refused_line n)) × (length (refused_line n) ≤ lines_room)
  -- too small a room: the event is not met, and every byte stays; else the auction is the one after it, and its line stands at the start
  pub not-met : (a : Auction) (e : Event) (out : List ℕ) → length out < lines_room → (watched_of a e out ≡ record { auction = a; length = 0 }) × (shown_bytes (watch_line a e) out ≡ out)
  pub met : (a : Auction) (e : Event) (out : List ℕ) → lines_room ≤ length out → (watched_of a e out ≡ record { auction = (step_of a e).auction; length = length (watch_line a e) }) × (shown_bytes (watch_line a e) out ≡ watch_line a e ++ drop (length (watch_line a e)) out)
  -- what is shown of many events are the lines of the watch, and the auction after them is that of the run
  pub shows : (a : Auction) (es : List Event) (t : List ℕ) (b : Auction) → Shows a es t b → (t ≡ watch_lines a es) × (b ≡ run a es)
