-- A tape moved from one form to the other (W-206 of document 02). `wide` is the form that is wanted: true for the new one.
use Rattle.std.specs.Prelude.{Bool, cond, not, ◌&&◌, ◌||◌, List, [], ◌∷◌, ◌++◌, map, ℕ, ltb, eqb, length, take, drop, Result, Ok, Err}
use Rattle.std.specs.List.{list_all}
use Rattle.base.specs.declared.refusal.Refusal.{Refusal}
use Rattle.base.specs.declared.refusal.Refusal.TheVariants.{TrailerOutOfForm, LengthsDisagree, RoomTooShort, FirmLost, MovedTooLong}
use Rattle.words.specs.rules.Bytes.{word_bytes, word_at}
use Rattle.tape.specs.declared.trailer.Trailer.{Trailer}
use Rattle.tape.specs.rules.Tape.{length_of, last_trailer}
use Rattle.tape.specs.rules.Whole.{tape_with, own_bytes, order_bytes, records_bytes}

-- the tape has the form already
abbrev pub has_form : Trailer → Bool → Bool
has_form t wide = cond wide t.wide (not t.wide)

-- ---- the moved tape

-- a record in the other form, whatever stands in it: its first 32 bytes; in a new one participant 0 and a zero word after them
unfoldable pub moved_record : Bool → List ℕ → List ℕ
moved_record wide r = take 32 r ++ cond wide (word_bytes (0 ∷ 0 ∷ [])) []

-- the offset of the order and the count of the events stay
abbrev pub moved_trailer : Bool → Trailer → Trailer
moved_trailer wide t = record { order = t.order; events = t.events; wide = wide }

-- the recorder's own bytes and the order's as they are, and each record in the other form
unfoldable pub moved_tape : Bool → List ℕ → Trailer → List ℕ
moved_tape wide s t = tape_with wide (own_bytes s t) (order_bytes s t) (map (moved_record wide) (records_bytes s t))

-- at the start of lent bytes; no byte past it changes
abbrev pub moved_bytes : Bool → List ℕ → Trailer → List ℕ → List ℕ
moved_bytes wide s t out = moved_tape wide s t ++ drop (length_of (moved_trailer wide t)) out

-- ---- what is moved, and the numbers

-- the last two words of a new record are zero
abbrev pub is_bare : List ℕ → Bool
is_bare r = eqb (word_at r 32) 0 && eqb (word_at r 36) 0

-- those of every event
unfoldable pub all_bare : List (List ℕ) → Bool
all_bare rs = list_all is_bare rs

-- after the trailer's refusals (21, 22): 22 for a tape that has the wanted form already; 23, lengths that don't add up; 25, moving back, an event that isn't bare; 26, too long a tape; 24, too short a room
unfoldable pub move_opened : Bool → List ℕ → Trailer → List ℕ → Result ℕ Refusal
move_opened wide s t out =
    let long = length_of (moved_trailer wide t) in
    cond (has_form t wide) (Err TrailerOutOfForm)
    (cond (not (eqb (length_of t) (length s))) (Err LengthsDisagree)
    (cond (not (wide || all_bare (records_bytes s t))) (Err FirmLost)
    (cond (ltb 65536 long) (Err MovedTooLong)
    (cond (ltb (length out) long) (Err RoomTooShort)
    (Ok long)))))

abbrev pub move_with : Bool → List ℕ → List ℕ → Result Trailer Refusal → Result ℕ Refusal
move_with wide s out (Ok t) = move_opened wide s t out
move_with wide s out (Err r) = Err r

-- the length of the moved tape, or the refusal
unfoldable pub move_answer : Bool → List ℕ → List ℕ → Result ℕ Refusal
move_answer wide s out = move_with wide s out (last_trailer s)

-- the lent bytes then: a refusal changes none
abbrev pub bytes_with : Bool → List ℕ → List ℕ → Result Trailer Refusal → Result ℕ Refusal → List ℕ
bytes_with wide s out (Ok t) (Ok n) = moved_bytes wide s t out
bytes_with wide s out (Ok t) (Err r) = out
bytes_with wide s out (Err r) m = out

unfoldable pub move_wrote : Bool → List ℕ → List ℕ → List ℕ
move_wrote wide s out = bytes_with wide s out (last_trailer s) (move_answer wide s out)
