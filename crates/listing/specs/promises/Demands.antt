-- What is promised of the listing, beyond the contract of `listing`.
use Rattle.std.specs.Prelude.{◌≡◌, Bool, false, List, [], ◌∷◌, ◌++◌, ℕ, ◌+◌, ◌-◌, ◌*◌, ◌^◌, ◌≤◌, ◌<◌, length, drop}
use Rattle.tape.specs.declared.order.Order.{Order}
use Rattle.tape.specs.declared.event.Event.{Event}
use Rattle.tape.specs.rules.Tape.{tape_of}
use Rattle.listing.specs.rules.Text.{text, decimal}
use Rattle.listing.specs.rules.Listing.{listing_of, room_of, length_in, listed_of, bytes_of}

-- ---- the example of document 01 (case c): an order, a response, and the same record again

abbrev pub example_order : Order
example_order =
    record {
      side = 1;
      mode = 2;
      marks = 0;
      size = 10;
      limit = 110;
      stop = 0;
      nbb = 100;
      nbo = 110;
      bb = 100;
      bo = 110;
      time = 34200000;
      opens = 34200000;
      closes = 57600000;
      interval = 100;
      displayed = 0;
      collar = 0;
    }

abbrev pub example_response : Event
example_response = record { sequence = 1; time = 20; kind = 1; marks = 0; side = 2; f12 = 3; f16 = 105; f20 = 0; f24 = 0; participant = 0 }

abbrev pub example_tape : List ℕ
example_tape = tape_of false [] example_order (example_response ∷ example_response ∷ [])

abbrev pub example_listing : List ℕ
example_listing =
    text "AUCTION buy size 10 range 101 to 109\n"
    ++ (text "EVENT 1 taken\n"
    ++ (text "EVENT 1 refused 33\n"
    ++ (text "END time range 101 to 109\n"
    ++ (text "FILL contra 105 3\n"
    ++ (text "FILL 1 105 3\n"
    ++ (text "FILL contra 109 4\n"
    ++ text "TOTAL 10\n"))))))

-- ---- a sell (case e), with a record out of form before its ending and one after it, after two bytes of the recorder's own: as an old tape, and as a new one, where the market order has a participant

abbrev pub order_e : Order
order_e =
    record {
      side = 2;
      mode = 2;
      marks = 0;
      size = 10;
      limit = 102;
      stop = 0;
      nbb = 100;
      nbo = 110;
      bb = 100;
      bo = 110;
      time = 34200000;
      opens = 34200000;
      closes = 57600000;
      interval = 100;
      displayed = 0;
      collar = 0;
    }

-- of no kind
abbrev pub no_event : ℕ → Event
no_event k = record { sequence = k; time = 20; kind = 9; marks = 0; side = 0; f12 = 0; f16 = 0; f20 = 0; f24 = 0; participant = 0 }

abbrev pub market_e : Event
market_e = record { sequence = 2; time = 20; kind = 4; marks = 0; side = 1; f12 = 4; f16 = 0; f20 = 0; f24 = 0; participant = 77 }

abbrev pub tape_e : Bool → List ℕ
tape_e wide = tape_of wide (7 ∷ 7 ∷ []) order_e (no_event 1 ∷ market_e ∷ no_event 3 ∷ [])

abbrev pub listing_e : List ℕ
listing_e =
    text "AUCTION sell size 10 range 102 to 109\n"
    ++ (text "EVENT 1 refused 32\n"
    ++ (text "EVENT 2 ended\n"
    ++ (text "EVENT 3 refused 31\n"
    ++ (text "END opposite range 102 to 109\n"
    ++ (text "FILL 2 105 4\n"
    ++ (text "FILL contra 102 6\n"
    ++ text "TOTAL 10\n"))))))

-- ---- the theorems

-- the number that decimal digits say, after those that say m
abbrev pub value_from : ℕ → List ℕ → ℕ
value_from m [] = m
value_from m (d ∷ ds) = value_from (m * 10 + (d - 48)) ds

pub record Demands : Type 0 where
  -- the listing of document 01, byte for byte; another; and that of no bytes
  pub case-c : listing_of example_tape ≡ example_listing
  pub case-e : (wide : Bool) → listing_of (tape_e wide) ≡ listing_e
  pub no_bytes : listing_of [] ≡ text "REFUSED 21\n"
  -- every tape's listing fits the room
  pub fits : (s : List ℕ) → length (listing_of s) ≤ room_of
  -- what is answered as written is within the lent bytes
  pub within : (s out : List ℕ) → length_in (listed_of s out) ≤ length out
  -- too small a room keeps its bytes; else the listing stands at the start, and every byte past it stays
  pub kept : (s out : List ℕ) → length out < room_of → bytes_of s out ≡ out
  pub stands : (s out : List ℕ) → room_of ≤ length out → bytes_of s out ≡ listing_of s ++ drop (length (listing_of s)) out
  -- a number reads back as it was written
  pub spoken : (n : ℕ) → n < 10 ^ 20 → value_from 0 (decimal n) ≡ n
