-- The records of a tape: which words they are, how they are read and written (document 01, "The tape", and W-206 for those of the new form).
use Rattle.std.specs.Prelude.{Bool, true, cond, ◌&&◌, ◌||◌, List, [], ◌∷◌, ◌++◌, ℕ, ◌*◌, ltb, eqb, length, get_or, drop, Result, Ok, Err, ⊤}
use Rattle.base.specs.declared.refusal.Refusal.{Refusal}
use Rattle.base.specs.declared.refusal.Refusal.TheVariants.{OrderOutOfForm, TrailerOutOfForm, RoomTooShort, EventOutOfForm}
use Rattle.words.specs.rules.Bytes.{joined, word_bytes, word_at}
use Rattle.tape.specs.rules.Form.{order_formed, event_formed}
use Rattle.tape.specs.declared.order.Order.{Order}
use Rattle.tape.specs.declared.event.Event.{Event}
use Rattle.tape.specs.declared.trailer.Trailer.{Trailer}

-- ---- any record: a row of words at the start of lent bytes

-- the bytes with a record at their start; no byte past it changes
abbrev pub with_record : List ℕ → List ℕ → List ℕ
with_record ws out = word_bytes ws ++ drop (length ws * 4) out

-- a writer: the refusal of a value out of form, then that of bytes too short, then the record
abbrev pub wrote_answer : Bool → Refusal → List ℕ → List ℕ → Result ⊤ Refusal
wrote_answer formed r ws out = cond formed (cond (ltb (length out) (length ws * 4)) (Err RoomTooShort) (Ok tt)) (Err r)

abbrev pub wrote_bytes : Bool → List ℕ → List ℕ → List ℕ
wrote_bytes formed ws out = cond formed (cond (ltb (length out) (length ws * 4)) out (with_record ws out)) out

-- ---- the order record, 64 bytes

unfoldable pub order_words : Order → List ℕ
order_words o =
    joined o.side o.mode o.marks 0
    ∷ o.size ∷ o.limit ∷ o.stop ∷ o.nbb ∷ o.nbo ∷ o.bb ∷ o.bo ∷ o.time ∷ o.opens ∷ o.closes ∷ o.interval
    ∷ o.displayed ∷ o.collar
    ∷ 0 ∷ 0 ∷ []

-- the fields, in their places
unfoldable pub order_of : List ℕ → Order
order_of s =
    record {
      side = get_or s 0 0;
      mode = get_or s 1 0;
      marks = get_or s 2 0;
      size = word_at s 4;
      limit = word_at s 8;
      stop = word_at s 12;
      nbb = word_at s 16;
      nbo = word_at s 20;
      bb = word_at s 24;
      bo = word_at s 28;
      time = word_at s 32;
      opens = word_at s 36;
      closes = word_at s 40;
      interval = word_at s 44;
      displayed = word_at s 48;
      collar = word_at s 52;
    }

-- the bytes that no field has are zero: 3, and 56 to 63
unfoldable pub order_spare : List ℕ → Bool
order_spare s = eqb (get_or s 3 0) 0 && eqb (word_at s 56) 0 && eqb (word_at s 60) 0

unfoldable pub read_order : List ℕ → Result Order Refusal
read_order s =
    cond (ltb (length s) 64) (Err RoomTooShort)
    (cond (order_spare s && order_formed (order_of s)) (Ok (order_of s))
    (Err OrderOutOfForm))

unfoldable pub order_answer : Order → List ℕ → Result ⊤ Refusal
order_answer o out = wrote_answer (order_formed o) OrderOutOfForm (order_words o) out

unfoldable pub order_wrote : Order → List ℕ → List ℕ
order_wrote o out = wrote_bytes (order_formed o) (order_words o) out

-- ---- the event record: 32 bytes on an old tape; 40 on a new one, which is `wide` and has the participant

-- how many bytes it has
unfoldable pub width_of : Bool → ℕ
width_of wide = cond wide 40 32

unfoldable pub event_words : Bool → Event → List ℕ
event_words wide e =
    e.sequence ∷ e.time
    ∷ joined e.kind e.marks e.side 0
    ∷ e.f12 ∷ e.f16 ∷ e.f20 ∷ e.f24
    ∷ 0 ∷ cond wide (e.participant ∷ 0 ∷ []) []

-- a word that only a new record has; 0 in an old one
abbrev pub new_word : Bool → List ℕ → ℕ → ℕ
new_word wide s at = cond wide (word_at s at) 0

unfoldable pub event_of : Bool → List ℕ → Event
event_of wide s =
    record {
      sequence = word_at s 0;
      time = word_at s 4;
      kind = get_or s 8 0;
      marks = get_or s 9 0;
      side = get_or s 10 0;
      f12 = word_at s 12;
      f16 = word_at s 16;
      f20 = word_at s 20;
      f24 = word_at s 24;
      participant = new_word wide s 32;
    }

-- the bytes that no field has are zero: 11, and 28 to 31; in a new record 36 to 39 too
unfoldable pub event_spare : Bool → List ℕ → Bool
event_spare wide s = eqb (get_or s 11 0) 0 && eqb (word_at s 28) 0 && eqb (new_word wide s 36) 0

unfoldable pub read_event : Bool → List ℕ → Result Event Refusal
read_event wide s =
    cond (ltb (length s) (width_of wide)) (Err RoomTooShort)
    (cond (event_spare wide s && event_formed (event_of wide s)) (Ok (event_of wide s))
    (Err EventOutOfForm))

-- an event of no kind, which no auction takes
abbrev pub of_no_kind : ℕ → Event
of_no_kind sequence = record { sequence = sequence; time = 0; kind = 0; marks = 0; side = 0; f12 = 0; f16 = 0; f20 = 0; f24 = 0; participant = 0 }

-- the event that stands in a record, in form or not: one of no kind where the bytes that should be zero are not, or end before the record does
unfoldable pub record_at : Bool → List ℕ → Event
record_at wide s =
    cond (ltb (length s) (width_of wide)) (of_no_kind (word_at s 0))
    (cond (event_spare wide s) (event_of wide s)
    (of_no_kind (word_at s 0)))

-- an event that can be written: it is in form, and an old record can hold participant 0 alone
unfoldable pub event_held : Bool → Event → Bool
event_held wide e = event_formed e && (wide || eqb e.participant 0)

unfoldable pub event_answer : Bool → Event → List ℕ → Result ⊤ Refusal
event_answer wide e out = wrote_answer (event_held wide e) EventOutOfForm (event_words wide e) out

unfoldable pub event_wrote : Bool → Event → List ℕ → List ℕ
event_wrote wide e out = wrote_bytes (event_held wide e) (event_words wide e) out

-- ---- the trailer, 16 bytes

-- the first word tells the form: "CUBT" an old tape, "CUB2" a new one
abbrev pub cubt : ℕ
cubt = 1413633347

abbrev pub cub2 : ℕ
cub2 = 843208003

abbrev pub first_word : Bool → ℕ
first_word wide = cond wide cub2 cubt

unfoldable pub trailer_words : Trailer → List ℕ
trailer_words t = first_word t.wide ∷ t.order ∷ t.events ∷ 0 ∷ []

unfoldable pub trailer_of : List ℕ → Trailer
trailer_of s = record { order = word_at s 4; events = word_at s 8; wide = eqb (word_at s 0) cub2 }

unfoldable pub read_trailer : List ℕ → Result Trailer Refusal
read_trailer s =
    cond (ltb (length s) 16) (Err RoomTooShort)
    (cond ((eqb (word_at s 0) cubt || eqb (word_at s 0) cub2) && eqb (word_at s 12) 0) (Ok (trailer_of s))
    (Err TrailerOutOfForm))

-- any S, n and form will do: only bytes too short are refused
unfoldable pub trailer_answer : Trailer → List ℕ → Result ⊤ Refusal
trailer_answer t out = wrote_answer true RoomTooShort (trailer_words t) out

unfoldable pub trailer_wrote : Trailer → List ℕ → List ℕ
trailer_wrote t out = wrote_bytes true (trailer_words t) out
