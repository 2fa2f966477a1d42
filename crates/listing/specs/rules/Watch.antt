-- A watch (W-202 of document 02): the listing line by line, each EVENT line with the contracts on offer after its event.
use Rattle.std.specs.Prelude.{cond, List, [], ◌∷◌, ◌++◌, ℕ, ltb, length}
use Rattle.tape.specs.declared.event.Event.{Event}
use Rattle.auction.specs.declared.Auction.{Auction}
use Rattle.auction.specs.rules.Offer.{on_offer}
use Rattle.events.specs.rules.Step.{step_of}
use Rattle.run.specs.rules.Run.{said}
use Rattle.listing.specs.rules.Listing.{event_line_with, at_start}
use Rattle.listing.specs.declared.watch.Watched.{Watched}

-- the line of an event: its sequence, its answer, and the contracts on offer after it
abbrev pub watch_line : Auction → Event → List ℕ
watch_line a e = event_line_with (said e.sequence (step_of a e).answer) (on_offer (step_of a e).auction)

-- the lines of many, each event met by the auction that the one before left
abbrev pub watch_lines : Auction → List Event → List ℕ
watch_lines a [] = []
watch_lines a (e ∷ es) = watch_line a e ++ watch_lines (step_of a e).auction es

-- ---- what each function answers, and the lent bytes after it

-- the room that every line fits, and those of the end together
abbrev pub lines_room : ℕ
lines_room = 9216

-- how many bytes were written: none where the room is too small
abbrev pub shown_length : List ℕ → List ℕ → ℕ
shown_length line out = cond (ltb (length out) lines_room) 0 (length line)

abbrev pub shown_bytes : List ℕ → List ℕ → List ℕ
shown_bytes line out = at_start lines_room line out

-- an event: where the room is too small it is not met
unfoldable pub watched_of : Auction → Event → List ℕ → Watched
watched_of a e out = record { auction = cond (ltb (length out) lines_room) a (step_of a e).auction; length = shown_length (watch_line a e) out }
