-- What is promised of moving a tape, in both directions at once: `wide` is the form that is wanted.
use Rattle.std.specs.Prelude.{◌≡◌, Bool, true, false, cond, not, List, [], ◌∷◌, ◌++◌, map, ◌⊎◌, ◌≢◌, ℕ, ◌≤◌, ◌<◌, length, take, drop, Ok, Err}
use Rattle.base.specs.Refusal.{number_of}
use Rattle.base.specs.declared.refusal.Refusal.{Refusal}
use Rattle.base.specs.declared.refusal.Refusal.TheVariants.{TrailerOutOfForm, LengthsDisagree, RoomTooShort, FirmLost, MovedTooLong}
use Rattle.base.specs.Lists.{In, Every}
use Rattle.words.specs.rules.Bytes.{AllBytes, word_at}
use Rattle.tape.specs.declared.trailer.Trailer.{Trailer}
use Rattle.tape.specs.rules.Tape.{length_of, last_trailer, open_tape, order_in, records_of}
use Rattle.tape.specs.rules.Whole.{own_bytes, order_bytes, records_bytes}
use Rattle.moving.specs.rules.Moving.{moved_trailer, move_answer, move_wrote}

-- the moved tape: the first n of the lent bytes
abbrev pub moved_to : Bool → List ℕ → List ℕ → ℕ → List ℕ
moved_to wide s out n = take n (move_wrote wide s out)

-- of a tape s that was moved into `out`, where its moved tape is n bytes long
pub record HasMoved (wide : Bool) (s out : List ℕ) (n : ℕ) : Type 0 where
  pub trailer : Trailer
  pub opened : open_tape s ≡ Ok trailer
  pub other : trailer.wide ≡ not wide
  -- the answer is its length, at most 65,536; there was room; every byte past it stays
  pub long : n ≡ length_of (moved_trailer wide trailer)
  pub short : n ≤ 65536
  pub room : n ≤ length out
  pub stays : drop n (move_wrote wide s out) ≡ drop n out
  -- it opens, in the wanted form; the order's offset and the count of the events are as they were
  pub opens : open_tape (moved_to wide s out n) ≡ Ok (moved_trailer wide trailer)
  -- it has the recorder's own bytes, the order's bytes and the first 32 of each record, whatever they are; in a new one participant 0 and a zero word after them
  pub own : own_bytes (moved_to wide s out n) (moved_trailer wide trailer) ≡ own_bytes s trailer
  pub order-bytes : order_bytes (moved_to wide s out n) (moved_trailer wide trailer) ≡ order_bytes s trailer
  pub record-bytes : records_bytes (moved_to wide s out n) (moved_trailer wide trailer) ≡ map (λ r. take 32 r ++ cond wide (0 ∷ 0 ∷ 0 ∷ 0 ∷ 0 ∷ 0 ∷ 0 ∷ 0 ∷ []) []) (records_bytes s trailer)
  -- and the same order and the same events, participants too: whatever is made of them is made of the moved tape
  pub order : order_in (moved_to wide s out n) (moved_trailer wide trailer) ≡ order_in s trailer
  pub records : records_of (moved_to wide s out n) (moved_trailer wide trailer) ≡ records_of s trailer
  -- moved back, wherever there is room for it, it is the tape byte for byte
  pub back : AllBytes s → (out' : List ℕ) → length s ≤ length out'
      → (move_answer (not wide) (moved_to wide s out n) out' ≡ Ok (length s)) × (move_wrote (not wide) (moved_to wide s out n) out' ≡ s ++ drop (length s) out')

pub record Moves : Type 0 where
  pub done : (wide : Bool) (s out : List ℕ) (n : ℕ) → move_answer wide s out ≡ Ok n → HasMoved wide s out n
  -- a refusal has one of six numbers, and changes no byte
  pub numbers : (wide : Bool) (s out : List ℕ) (r : Refusal) → move_answer wide s out ≡ Err r → In (number_of r) (21 ∷ 22 ∷ 23 ∷ 25 ∷ 26 ∷ 24 ∷ [])
  pub keeps : (wide : Bool) (s out : List ℕ) (r : Refusal) → move_answer wide s out ≡ Err r → move_wrote wide s out ≡ out
  -- each refusal, where the tests before it are passed. What the trailer is refused for, the tape is; a tape that has the wanted form already is 22, whatever its lengths are; else lengths that don't add up are 23
  pub no-trailer : (wide : Bool) (s out : List ℕ) (r : Refusal) → last_trailer s ≡ Err r → move_answer wide s out ≡ Err r
  pub already : (wide : Bool) (s out : List ℕ) (t : Trailer) → last_trailer s ≡ Ok t → t.wide ≡ wide → move_answer wide s out ≡ Err TrailerOutOfForm
  pub not-adding : (wide : Bool) (s out : List ℕ) (t : Trailer) → last_trailer s ≡ Ok t → t.wide ≡ not wide → length_of t ≢ length s → move_answer wide s out ≡ Err LengthsDisagree
  -- moving back, one event is enough for 25, whichever it is, with something in either word
  pub laden : (s out : List ℕ) (t : Trailer) (r : List ℕ) → open_tape s ≡ Ok t → t.wide ≡ true → In r (records_bytes s t) → (word_at r 32 ≢ 0) ⊎ (word_at r 36 ≢ 0) → move_answer false s out ≡ Err FirmLost
  -- too long a tape is 26, whatever the room is, and then too short a room 24
  pub too_long : (s out : List ℕ) (t : Trailer) → open_tape s ≡ Ok t → t.wide ≡ false → 65536 < length_of (moved_trailer true t) → move_answer true s out ≡ Err MovedTooLong
  pub no_room : (wide : Bool) (s out : List ℕ) (t : Trailer) → open_tape s ≡ Ok t → t.wide ≡ not wide → (wide ≡ false → Every (λ r. (word_at r 32 ≡ 0) × (word_at r 36 ≡ 0)) (records_bytes s t))
      → length_of (moved_trailer wide t) ≤ 65536 → length out < length_of (moved_trailer wide t) → move_answer wide s out ≡ Err RoomTooShort
  -- every tape of the other form moves, where the last two words of each event are 0 (moving back), the moved tape has at most 65,536 bytes, and there is room
  pub moves : (wide : Bool) (s out : List ℕ) (t : Trailer) → open_tape s ≡ Ok t → t.wide ≡ not wide → (wide ≡ false → Every (λ r. (word_at r 32 ≡ 0) × (word_at r 36 ≡ 0)) (records_bytes s t))
      → length_of (moved_trailer wide t) ≤ 65536 → length_of (moved_trailer wide t) ≤ length out → move_answer wide s out ≡ Ok (length_of (moved_trailer wide t))
  -- 25 is for moving back alone, and 26 for moving to the new form: the two never compete
  pub only-back : (s out : List ℕ) → move_answer true s out ≡ Err FirmLost → ⊥
  pub only-new : (s out : List ℕ) → move_answer false s out ≡ Err MovedTooLong → ⊥
