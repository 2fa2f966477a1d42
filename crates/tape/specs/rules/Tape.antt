-- A tape: the recorder's own bytes, the order record, the event records, the trailer. `wide` says that it is of the new form.
use Rattle.std.specs.Prelude.{Bool, cond, ◌||◌, List, [], ◌∷◌, ◌++◌, ℕ, zero, suc, ◌+◌, ◌*◌, ◌-◌, ltb, eqb, length, take, drop, Result, Ok, Err}
use Rattle.base.specs.declared.refusal.Refusal.{Refusal}
use Rattle.base.specs.declared.refusal.Refusal.TheVariants.{TapeLength, LengthsDisagree}
use Rattle.words.specs.rules.Bytes.{word_bytes}
use Rattle.tape.specs.rules.Records.{width_of, order_words, event_words, trailer_words, order_wrote, event_wrote, trailer_wrote, read_order, record_at, read_trailer}
use Rattle.tape.specs.declared.order.Order.{Order}
use Rattle.tape.specs.declared.event.Event.{Event}
use Rattle.tape.specs.declared.trailer.Trailer.{Trailer}

-- what the lengths add up to
abbrev pub length_of : Trailer → ℕ
length_of t = t.order + 64 + t.events * width_of t.wide + 16

abbrev pub opened_with : ℕ → Result Trailer Refusal → Result Trailer Refusal
opened_with n (Ok t) = cond (eqb (length_of t) n) (Ok t) (Err LengthsDisagree)
opened_with n (Err r) = Err r

-- the last 16 bytes are the trailer
unfoldable pub last_trailer : List ℕ → Result Trailer Refusal
last_trailer s =
    cond (ltb (length s) 16 || ltb 65536 (length s)) (Err TapeLength)
    (read_trailer (drop (length s - 16) s))

-- and the lengths add up to the tape's
unfoldable pub open_tape : List ℕ → Result Trailer Refusal
open_tape s = opened_with (length s) (last_trailer s)

-- where event k stands, after the order at `at`
abbrev pub event_place : Bool → ℕ → ℕ → ℕ
event_place wide at k = at + 64 + k * width_of wide

-- ---- a tape's records one by one, where its trailer says that they stand

unfoldable pub order_in : List ℕ → Trailer → Result Order Refusal
order_in s t = read_order (drop t.order s)

-- the event that stands in record k, counted from 0
unfoldable pub record_in : List ℕ → Trailer → ℕ → Event
record_in s t k = record_at t.wide (drop (event_place t.wide t.order k) s)

-- n records, from record k on
unfoldable pub records_from : List ℕ → Trailer → ℕ → ℕ → List Event
records_from s t k zero = []
records_from s t k (suc n) = record_in s t k ∷ records_from s t (k + 1) n

-- all of them
unfoldable pub records_of : List ℕ → Trailer → List Event
records_of s t = records_from s t 0 t.events

-- ---- a tape that is put together

-- after the recorder's own bytes, for events or for their records
abbrev pub trailer_for : {A : Type 0} → Bool → List ℕ → List A → Trailer
trailer_for wide own es = record { order = length own; events = length es; wide = wide }

abbrev pub events_bytes : Bool → List Event → List ℕ
events_bytes wide [] = []
events_bytes wide (e ∷ es) = word_bytes (event_words wide e) ++ events_bytes wide es

-- the whole tape of an order and its events after the recorder's own bytes
unfoldable pub tape_of : Bool → List ℕ → Order → List Event → List ℕ
tape_of wide own o es = own ++ (word_bytes (order_words o) ++ (events_bytes wide es ++ word_bytes (trailer_words (trailer_for wide own es))))

-- what the writers make of lent bytes, each lent the part after the last record: the events and the trailer, and a whole tape
abbrev pub wrote_events : List Event → Trailer → List ℕ → List ℕ
wrote_events [] t room = trailer_wrote t room
wrote_events (e ∷ es) t room = take (width_of t.wide) (event_wrote t.wide e room) ++ wrote_events es t (drop (width_of t.wide) (event_wrote t.wide e room))

unfoldable pub wrote_tape : Bool → List ℕ → Order → List Event → List ℕ → List ℕ
wrote_tape wide own o es room = own ++ (take 64 (order_wrote o room) ++ wrote_events es (trailer_for wide own es) (drop 64 (order_wrote o room)))
