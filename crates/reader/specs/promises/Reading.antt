-- What reading one event after the other gives.
use Rattle.std.specs.Prelude.{◌≡◌, List, [], ◌∷◌, ℕ, zero, suc, ◌≤◌, ◌<◌, min, Option, Some, None}
use Rattle.std.specs.Borrow.{Bor}
use Rattle.tape.specs.rules.Tape.{record_in, records_of}
use Rattle.tape.specs.declared.trailer.Trailer.{Trailer}
use Rattle.tape.specs.declared.event.Event.{Event}
use Rattle.reader.specs.rules.Reader.{held, next_of, standing}
use Rattle.reader.specs.declared.Tape.{Tape}

-- the tape after k steps
abbrev pub advanced : ℕ → Tape → Tape
advanced zero t = t
advanced (suc k) t = next_of (advanced k t)

-- an event in front of those after it, and nothing from the end on
abbrev pub and_then : Option Event → List Event → List Event
and_then (Some r) rs = r ∷ rs
and_then None rs = []

-- what is read up to the end, in at most n steps
abbrev pub gathered : ℕ → Tape → List Event
gathered zero t = []
gathered (suc n) t = and_then (standing t) (gathered n (next_of t))

pub record Reading (bytes : Bor (List ℕ)) (t : Trailer) : Type 0 where
  -- k steps lead to place k, and never past the end
  pub at : (k : ℕ) → advanced k (held bytes t 0) ≡ held bytes t (min k t.events)
  -- there stands the tape's record, for each event
  pub event : (k : ℕ) → k < t.events → standing (advanced k (held bytes t 0)) ≡ Some (record_in bytes.now t k)
  -- and then, and only then, the end
  pub end : (k : ℕ) → t.events ≤ k → standing (advanced k (held bytes t 0)) ≡ None
  pub only : (k : ℕ) → standing (advanced k (held bytes t 0)) ≡ None → t.events ≤ k
  -- so that all of them together are the tape's records
  pub all : (n : ℕ) → t.events ≤ n → gathered n (held bytes t 0) ≡ records_of bytes.now t
