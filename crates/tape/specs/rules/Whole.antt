-- A whole tape by its bytes: put together of any records as they are, and taken apart where its trailer says. `wide` says that it is of the new form.
use Rattle.std.specs.Prelude.{Bool, List, [], ◌∷◌, ◌++◌, ℕ, zero, suc, ◌+◌, take, drop}
use Rattle.words.specs.rules.Bytes.{word_bytes}
use Rattle.tape.specs.rules.Records.{width_of, trailer_words}
use Rattle.tape.specs.rules.Tape.{trailer_for}
use Rattle.tape.specs.declared.trailer.Trailer.{Trailer}

-- the bytes of records of any length, one after the other
abbrev pub together : List (List ℕ) → List ℕ
together [] = []
together (r ∷ rs) = r ++ together rs

-- n records of `long` bytes each, from the start of bytes
abbrev pub parts : ℕ → List ℕ → ℕ → List (List ℕ)
parts long s zero = []
parts long s (suc n) = take long s ∷ parts long (drop long s) n

-- a tape's parts in their places: the recorder's own bytes, the order's, each record's, the trailer's
abbrev pub in_place : List ℕ → List ℕ → List (List ℕ) → List ℕ → List ℕ
in_place own order rs trailer = own ++ (order ++ (together rs ++ trailer))

-- a tape of any records as they are
unfoldable pub tape_with : Bool → List ℕ → List ℕ → List (List ℕ) → List ℕ
tape_with wide own order rs = in_place own order rs (word_bytes (trailer_words (trailer_for wide own rs)))

-- ---- what a tape is made of, by its trailer

unfoldable pub own_bytes : List ℕ → Trailer → List ℕ
own_bytes s t = take t.order s

unfoldable pub order_bytes : List ℕ → Trailer → List ℕ
order_bytes s t = take 64 (drop t.order s)

unfoldable pub records_bytes : List ℕ → Trailer → List (List ℕ)
records_bytes s t = parts (width_of t.wide) (drop (t.order + 64) s) t.events
