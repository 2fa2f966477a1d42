-- A tape that is held: what stands at each of its places.
use Rattle.std.specs.Prelude.{cond, List, ℕ, ◌+◌, leb, ltb, Option, Some, None}
use Rattle.std.specs.Borrow.{Bor}
use Rattle.tape.specs.rules.Tape.{record_in}
use Rattle.tape.specs.declared.trailer.Trailer.{Trailer}
use Rattle.tape.specs.declared.event.Event.{Event}
use Rattle.reader.specs.declared.Tape.{Tape}

-- record k, and none from the number of events on
unfoldable pub current_of : List ℕ → Trailer → ℕ → Option Event
current_of s t k = cond (leb t.events k) None (Some (record_in s t k))

-- the place after one; the end is the last
unfoldable pub next_place : Trailer → ℕ → ℕ
next_place t k = cond (ltb k t.events) (k + 1) k

-- a tape that was opened, held at the place of an event
abbrev pub held : Bor (List ℕ) → Trailer → ℕ → Tape
held bytes t k = record { bytes = bytes; trailer = t; place = k }

-- the tape at the next place
abbrev pub next_of : Tape → Tape
next_of t = held t.bytes t.trailer (next_place t.trailer t.place)

-- what stands at a held tape's place
abbrev pub standing : Tape → Option Event
standing t = current_of t.bytes.now t.trailer t.place
