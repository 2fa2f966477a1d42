-- The board: what its functions give, as definitions that compute. Assumes nothing.
use Rattle.std.specs.Prelude.{ℕ, suc, ◌/◌, ◌%◌, Bool, false, cond, ◌&&◌, ◌||◌, List, [], ◌∷◌, Option, Some, None, leb, ltb, eqb, get_or, set, replicate}
use Rattle.words.specs.rules.Bits.{bit_at, with_bit, without_bit, ones_in, clear_in}
use Rattle.base.specs.Lists.{keep}
use Rattle.board.specs.declared.Response.{Response}
use Rattle.board.specs.declared.Board.{Board}
use Rattle.board.specs.declared.Found.{Found}

-- what stands where no response was ever placed
abbrev pub no_response : Response
no_response = record { sequence = 0; size = 0; price = 0; participant = 0; customer = false; gtx = false }

-- what stands at place i
abbrev pub response_at : List Response → ℕ → Response
response_at ps i = get_or ps i no_response

-- the board that an auction starts with: no place is live
unfoldable pub empty_board : Board
empty_board = record { places = replicate 64 no_response; live = 0 }

-- ---- the live ones

-- a place is live where its bit is set
abbrev pub is_live : Board → ℕ → Bool
is_live b i = bit_at b.live i

-- how many places are live
abbrev pub live_count : Board → ℕ
live_count b = ones_in 64 b.live

-- the lowest free place, and 64 where none is free
abbrev pub first_free : Board → ℕ
first_free b = clear_in 64 b.live

-- a place as an option, in which 64 is none
abbrev pub place_at : ℕ → Option ℕ
place_at i = cond (eqb i 64) None (Some i)

-- and the place of an option
abbrev pub place_in : Option ℕ → ℕ
place_in None = 64
place_in (Some i) = i

-- the elements of a list whose bit in w is set: bit 0 is the first element's
unfoldable pub live_in : {A : Type 0} → ℕ → List A → List A
live_in w [] = []
live_in w (r ∷ rs) = keep (eqb (w % 2) 1) r (live_in (w / 2) rs)

-- the live responses, in the order of their places
abbrev pub live_of : Board → List Response
live_of b = live_in b.live b.places

-- ---- seating and clearing

-- r at place i, live, and the board as it is where there is no such place
unfoldable pub seated_at : Board → ℕ → Response → Board
seated_at b i r = cond (ltb i 64) (record { places = set b.places i r; live = with_bit b.live i }) b

-- place i is free, and what stands there stays
abbrev pub cleared : Board → ℕ → Board
cleared b i = record { places = b.places; live = without_bit b.live i }

-- ---- finding

-- the place of the first of a list whose bit in w is set and that passes the test; the list's length where there is none
unfoldable pub find_in : {A : Type 0} → (A → Bool) → ℕ → List A → ℕ
find_in t w [] = 0
find_in t w (r ∷ rs) = cond (eqb (w % 2) 1 && t r) 0 (suc (find_in t (w / 2) rs))

-- a response with this sequence: any, or a GTX response and no limit order
abbrev pub is_named : Bool → ℕ → Response → Bool
is_named any s r = (any || r.gtx) && eqb r.sequence s

abbrev pub is_gtx : ℕ → Response → Bool
is_gtx s r = is_named false s r

-- the place of the live one with this sequence, and 64 where there is none
abbrev pub find_named : Bool → Board → ℕ → ℕ
find_named any b s = find_in (is_named any s) b.live b.places

abbrev pub find_gtx : Board → ℕ → ℕ
find_gtx b s = find_named false b s

-- a place with what stands there, and none at 64
abbrev pub found_at : Board → ℕ → Option Found
found_at b i = cond (eqb i 64) None (Some (record { place = i; response = response_at b.places i }))

-- the place that was found, and 64 for none
abbrev pub found_place : Option Found → ℕ
found_place None = 64
found_place (Some f) = f.place

-- what stands there
abbrev pub found_response : Option Found → Response
found_response None = no_response
found_response (Some f) = f.response

-- the live one with this sequence
abbrev pub found : Bool → Board → ℕ → Option Found
found any b s = found_at b (find_named any b s)

abbrev pub found_gtx : Board → ℕ → Option Found
found_gtx b s = found false b s

-- ---- rising order of sequence

-- r in front of the first that has no lower sequence
unfoldable pub inserted : Response → List Response → List Response
inserted r [] = r ∷ []
inserted r (x ∷ xs) = cond (leb r.sequence x.sequence) (r ∷ x ∷ xs) (x ∷ inserted r xs)

-- a list in rising order of sequence; equal ones stay in their order
unfoldable pub in_sequence : List Response → List Response
in_sequence [] = []
in_sequence (r ∷ rs) = inserted r (in_sequence rs)
