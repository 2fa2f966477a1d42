-- What is promised of the records of a tape, beyond each function's own contract: of both forms at once, `wide` being that of the event records.
use Rattle.std.specs.Prelude.{◌≡◌, Bool, true, false, List, [], ◌∷◌, ◌++◌, map, ℕ, ◌+◌, ◌≤◌, ◌<◌, ◌^◌, length, take, drop, Ok, Err}
use Rattle.base.specs.declared.refusal.Refusal.{Refusal}
use Rattle.base.specs.Lists.{Every}
use Rattle.words.specs.rules.Bytes.{AllBytes, word_bytes}
use Rattle.tape.specs.rules.Form.{order_formed, event_formed}
use Rattle.tape.specs.rules.Records.{read_order, order_answer, order_wrote, width_of, event_words, read_event, record_at, event_held, event_answer, event_wrote, read_trailer, trailer_words, trailer_answer, trailer_wrote}
use Rattle.tape.specs.rules.Tape.{length_of, open_tape, event_place, order_in, records_of, tape_of, wrote_tape, trailer_for}
use Rattle.tape.specs.rules.Whole.{tape_with, own_bytes, order_bytes, records_bytes}
use Rattle.tape.specs.promises.Holds.{Holds, Recorded}
use Rattle.tape.specs.declared.order.Order.{Order}
use Rattle.tape.specs.declared.event.Event.{Event}
use Rattle.tape.specs.declared.trailer.Trailer.{Trailer}

-- a word of 32 bits
abbrev pub Word : ℕ → Type 0
Word w = w < 2 ^ 32

-- reading what was written gives the same value
pub record ValuesBack : Type 0 where
  pub order : (o : Order) (out : List ℕ) → order_formed o ≡ true → 64 ≤ length out → read_order (order_wrote o out) ≡ Ok o
  pub event : (wide : Bool) (e : Event) (out : List ℕ) → Word e.sequence → Word e.participant → event_held wide e ≡ true → width_of wide ≤ length out → read_event wide (event_wrote wide e out) ≡ Ok e
  pub trailer : (t : Trailer) (out : List ℕ) → Word t.order → Word t.events → 16 ≤ length out → read_trailer (trailer_wrote t out) ≡ Ok t

-- writing what was read gives the same bytes, wherever there is room for them, and changes no byte past them
pub record BytesBack : Type 0 where
  pub order : (s out : List ℕ) (o : Order) → AllBytes s → read_order s ≡ Ok o → 64 ≤ length out → order_wrote o out ≡ take 64 s ++ drop 64 out
  pub event : (wide : Bool) (s out : List ℕ) (e : Event) → AllBytes s → read_event wide s ≡ Ok e → width_of wide ≤ length out → event_wrote wide e out ≡ take (width_of wide) s ++ drop (width_of wide) out
  pub trailer : (s out : List ℕ) (t : Trailer) → AllBytes s → read_trailer s ≡ Ok t → 16 ≤ length out → trailer_wrote t out ≡ take 16 s ++ drop 16 out

-- a refusal changes no byte
pub record RefusalsKeep : Type 0 where
  pub order : (o : Order) (out : List ℕ) (r : Refusal) → order_answer o out ≡ Err r → order_wrote o out ≡ out
  pub event : (wide : Bool) (e : Event) (out : List ℕ) (r : Refusal) → event_answer wide e out ≡ Err r → event_wrote wide e out ≡ out
  pub trailer : (t : Trailer) (out : List ℕ) (r : Refusal) → trailer_answer t out ≡ Err r → trailer_wrote t out ≡ out

-- the bytes themselves, of one record of each form: a response of sequence 1 at 20 ms, on the sell side, a Customer's, 3 at 105, by participant 77
abbrev pub example_event : Event
example_event = record { sequence = 1; time = 20; kind = 1; marks = 1; side = 2; f12 = 3; f16 = 105; f20 = 0; f24 = 0; participant = 77 }

abbrev pub example_bytes : List ℕ
example_bytes =
    1 ∷ 0 ∷ 0 ∷ 0 ∷ 20 ∷ 0 ∷ 0 ∷ 0 ∷ 1 ∷ 1 ∷ 2 ∷ 0 ∷ 3 ∷ 0 ∷ 0 ∷ 0
    ∷ 105 ∷ 0 ∷ 0 ∷ 0 ∷ 0 ∷ 0 ∷ 0 ∷ 0 ∷ 0 ∷ 0 ∷ 0 ∷ 0 ∷ 0 ∷ 0 ∷ 0 ∷ 0 ∷ []

pub record InBytes : Type 0 where
  -- "CUBT" stands first in an old tape's trailer, "CUB2" in a new one's
  pub old-trailer : word_bytes (trailer_words (record { order = 5; events = 6; wide = false })) ≡ 67 ∷ 85 ∷ 66 ∷ 84 ∷ 5 ∷ 0 ∷ 0 ∷ 0 ∷ 6 ∷ 0 ∷ 0 ∷ 0 ∷ 0 ∷ 0 ∷ 0 ∷ 0 ∷ []
  pub new-trailer : word_bytes (trailer_words (record { order = 5; events = 6; wide = true })) ≡ 67 ∷ 85 ∷ 66 ∷ 50 ∷ 5 ∷ 0 ∷ 0 ∷ 0 ∷ 6 ∷ 0 ∷ 0 ∷ 0 ∷ 0 ∷ 0 ∷ 0 ∷ 0 ∷ []
  -- a new record is the old one, its participant and a zero word
  pub old-record : word_bytes (event_words false example_event) ≡ example_bytes
  pub new-record : word_bytes (event_words true example_event) ≡ example_bytes ++ (77 ∷ 0 ∷ 0 ∷ 0 ∷ 0 ∷ 0 ∷ 0 ∷ 0 ∷ [])
  pub new-read : read_event true (example_bytes ++ (77 ∷ 0 ∷ 0 ∷ 0 ∷ 0 ∷ 0 ∷ 0 ∷ 0 ∷ [])) ≡ Ok example_event

-- every event can be held by a record of its tape, and its sequence and its participant are words
pub data AllHeld (wide : Bool) : List Event → Type 0 where
  none : AllHeld wide []
  more : {e : Event} {es : List Event} → Word e.sequence → Word e.participant → event_held wide e ≡ true → AllHeld wide es → AllHeld wide (e ∷ es)

-- an order and events in form, with the recorder's own bytes, that fit a tape
pub record Tapeable (wide : Bool) (own : List ℕ) (o : Order) (es : List Event) : Type 0 where
  pub order : order_formed o ≡ true
  pub events : AllHeld wide es
  pub fits : length_of (trailer_for wide own es) ≤ 65536

-- a tape that the writers put together is that tape, opens, and gives back its order and its events
pub record TapeBack (wide : Bool) (own : List ℕ) (o : Order) (es : List Event) : Type 0 where
  pub written : (room : List ℕ) → length own + length room ≡ length_of (trailer_for wide own es) → wrote_tape wide own o es room ≡ tape_of wide own o es
  pub opens : open_tape (tape_of wide own o es) ≡ Ok (trailer_for wide own es)
  pub order : order_in (tape_of wide own o es) (trailer_for wide own es) ≡ Ok o
  pub records : records_of (tape_of wide own o es) (trailer_for wide own es) ≡ es
  -- and each of them reads back where it stands
  pub event : (before : List Event) (e : Event) (after : List Event) → es ≡ before ++ (e ∷ after) → read_event wide (drop (event_place wide (length own) (length before)) (tape_of wide own o es)) ≡ Ok e

-- an order's bytes and records' bytes, in form or not, that fit a tape after the recorder's own
pub record Fitting (wide : Bool) (own order : List ℕ) (rs : List (List ℕ)) : Type 0 where
  pub order-long : length order ≡ 64
  pub each_long : Every (λ r. length r ≡ width_of wide) rs
  pub fits : length (tape_with wide own order rs) ≤ 65536

-- a tape of any records opens; its order is what the order's bytes alone are read as, and its records what stands in each
pub record AnyRecords (wide : Bool) (own order : List ℕ) (rs : List (List ℕ)) : Type 0 where
  pub opens : open_tape (tape_with wide own order rs) ≡ Ok (trailer_for wide own rs)
  pub ordered : order_in (tape_with wide own order rs) (trailer_for wide own rs) ≡ read_order order
  pub records : records_of (tape_with wide own order rs) (trailer_for wide own rs) ≡ map (record_at wide) rs

-- a tape that opens is made of its own bytes, its order's and its records', and gives what these give
pub record MadeOf (s : List ℕ) (t : Trailer) : Type 0 where
  pub fitting : Fitting t.wide (own_bytes s t) (order_bytes s t) (records_bytes s t)
  pub whole : AllBytes s → tape_with t.wide (own_bytes s t) (order_bytes s t) (records_bytes s t) ≡ s
  pub ordered : order_in s t ≡ read_order (order_bytes s t)
  pub records : records_of s t ≡ map (record_at t.wide) (records_bytes s t)

pub record Demands : Type 0 where
  pub in_bytes : InBytes
  pub values-back : ValuesBack
  pub bytes_back : BytesBack
  pub refusals-keep : RefusalsKeep
  pub tape-back : (wide : Bool) (own : List ℕ) (o : Order) (es : List Event) → Tapeable wide own o es → TapeBack wide own o es
  pub holds : (s : List ℕ) (t : Trailer) → open_tape s ≡ Ok t → Holds s t
  pub recorded : (wide : Bool) (s : List ℕ) → Recorded wide s
  pub any-records : (wide : Bool) (own order : List ℕ) (rs : List (List ℕ)) → Fitting wide own order rs → AnyRecords wide own order rs
  pub made_of : (s : List ℕ) (t : Trailer) → open_tape s ≡ Ok t → MadeOf s t
  -- writing what was read gives the same bytes, the whole tape
  pub whole_back : (s : List ℕ) (t : Trailer) (o : Order) → AllBytes s → open_tape s ≡ Ok t → order_in s t ≡ Ok o → Every (λ e. event_formed e ≡ true) (records_of s t) → tape_of t.wide (own_bytes s t) o (records_of s t) ≡ s
  -- and the writers, one record after the other into lent bytes, write back what was read: the whole tape
  pub whole-written : (s room : List ℕ) (t : Trailer) (o : Order) → AllBytes s → open_tape s ≡ Ok t → order_in s t ≡ Ok o → Every (λ e. event_formed e ≡ true) (records_of s t) → length (own_bytes s t) + length room ≡ length s
      → wrote_tape t.wide (own_bytes s t) o (records_of s t) room ≡ s
