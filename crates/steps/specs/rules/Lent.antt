-- The auction lent and updated in place: a cancel that is given by its numbers.
use Rattle.std.specs.Prelude.{ℕ}
use Rattle.tape.specs.declared.event.Event.{Event}

-- the cancel (kind 2) of the GTX whose sequence is `named`; it bears participant 0, as an old record does
unfoldable pub cancel_event : ℕ → ℕ → ℕ → Event
cancel_event sequence time named = record { sequence = sequence; time = time; kind = 2; marks = 0; side = 0; f12 = named; f16 = 0; f20 = 0; f24 = 0; participant = 0 }
