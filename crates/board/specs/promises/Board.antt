-- What the board's definitions mean, as statements. Each has its proof. Assumes nothing.
use Rattle.std.specs.Prelude.{◌≡◌, Bool, true, false, ◌||◌, List, [], ◌∷◌, ◌++◌, map, ℕ, suc, ◌+◌, ◌^◌, ◌≤◌, ◌<◌, eqb, length}
use Rattle.base.specs.Lists.{Every, filter, sum, Inserts, Shuffles}
use Rattle.board.specs.rules.Board.{response_at, empty_board, is_live, live_count, first_free, live_of, seated_at, cleared, find_named, in_sequence}
use Rattle.board.specs.declared.Response.{Response}
use Rattle.board.specs.declared.Board.{Board}

-- what every value of the type Board has: 64 places, and a word of 64 bits
pub record Good (b : Board) : Type 0 where
  pub places-are : length b.places ≡ 64
  pub live-fits : b.live < 2 ^ 64

-- ---- seating and clearing

-- a response is seated at a free place
pub record Seating (b : Board) (i : ℕ) (r : Response) : Type 0 where
  -- the live responses are those before and r, at some place of the list
  pub adds : Inserts r (live_of b) (live_of (seated_at b i r))
  pub count : live_count (seated_at b i r) ≡ suc (live_count b)
  pub sums : (f : Response → ℕ) → sum (map f (live_of (seated_at b i r))) ≡ f r + sum (map f (live_of b))
  -- r stands there now, and is live
  pub stands : response_at (seated_at b i r).places i ≡ r
  pub live : is_live (seated_at b i r) i ≡ true
  -- every other place stays
  pub others : (j : ℕ) → (j ≡ i → ⊥) → (response_at (seated_at b i r).places j ≡ response_at b.places j) × (is_live (seated_at b i r) j ≡ is_live b j)

-- the lowest free place: it is free, and every lower one is live
pub record LowestFree (b : Board) : Type 0 where
  pub free : is_live b (first_free b) ≡ false
  pub lowest : (j : ℕ) → j < first_free b → is_live b j ≡ true

-- a live place is cleared
pub record Clearing (b : Board) (i : ℕ) : Type 0 where
  -- the live responses are those before without the one at i
  pub takes : Inserts (response_at b.places i) (live_of (cleared b i)) (live_of b)
  pub count : live_count b ≡ suc (live_count (cleared b i))
  pub sums : (f : Response → ℕ) → sum (map f (live_of b)) ≡ f (response_at b.places i) + sum (map f (live_of (cleared b i)))
  -- the place is free
  pub dead : is_live (cleared b i) i ≡ false
  pub free : first_free (cleared b i) ≤ i

-- a response is seated at a live place: it stands there instead of the one before
pub record Amending (b : Board) (i : ℕ) (r : Response) : Type 0 where
  -- of the live responses the old one is gone, r is new, and all others stay
  pub takes : Inserts (response_at b.places i) (live_of (cleared b i)) (live_of b)
  pub adds : Inserts r (live_of (cleared b i)) (live_of (seated_at b i r))
  pub sums : (f : Response → ℕ) → f (response_at b.places i) + sum (map f (live_of (seated_at b i r))) ≡ f r + sum (map f (live_of b))
  -- r stands there now; every other place, the word and the count stay
  pub stands : response_at (seated_at b i r).places i ≡ r
  pub others : (j : ℕ) → (j ≡ i → ⊥) → response_at (seated_at b i r).places j ≡ response_at b.places j
  pub word : (seated_at b i r).live ≡ b.live
  pub count : live_count (seated_at b i r) ≡ live_count b

-- what seating at a free place, at a live one, and clearing do, and when they do nothing
pub record Changes : Type 0 where
  pub seats : (b : Board) (i : ℕ) (r : Response) → Good b → i < 64 → is_live b i ≡ false → Seating b i r
  pub amends : (b : Board) (i : ℕ) (r : Response) → Good b → is_live b i ≡ true → Amending b i r
  pub lowest : (b : Board) → first_free b < 64 → LowestFree b
  pub clears : (b : Board) (i : ℕ) → Good b → is_live b i ≡ true → Clearing b i
  -- where there is no such place, and where the place is not live, the board stays
  pub past : (b : Board) (i : ℕ) (r : Response) → 64 ≤ i → seated_at b i r ≡ b
  pub dead : (b : Board) (i : ℕ) → is_live b i ≡ false → cleared b i ≡ b
  -- clearing moves nothing else
  pub others : (b : Board) (i j : ℕ) → (j ≡ i → ⊥) → is_live (cleared b i) j ≡ is_live b j
  -- what is seated on a board and cleared on it is a board
  pub good-empty : Good empty_board
  pub good-seated : (b : Board) (i : ℕ) (r : Response) → Good b → Good (seated_at b i r)
  pub good-cleared : (b : Board) (i : ℕ) → Good b → Good (cleared b i)

-- ---- what can be seen

-- only what is live can be seen
pub record Seen : Type 0 where
  pub empty : live_of empty_board ≡ []
  -- the count is the number of live responses, and a place is free where it is below 64
  pub count : (b : Board) → Good b → live_count b ≡ length (live_of b)
  pub room : (b : Board) → live_count b < 64 → first_free b < 64
  pub no_room : (b : Board) → first_free b < 64 → live_count b < 64
  -- what is not live can't be seen
  pub live : (b c : Board) → Good b → Good c → b.live ≡ c.live → ((j : ℕ) → is_live b j ≡ true → response_at b.places j ≡ response_at c.places j) → live_of b ≡ live_of c
  pub find : (any : Bool) (b c : Board) (s : ℕ) → Good b → Good c → b.live ≡ c.live → ((j : ℕ) → is_live b j ≡ true → response_at b.places j ≡ response_at c.places j) → find_named any b s ≡ find_named any c s

-- ---- a response is found by its sequence

-- the place i is live, and a response with this sequence stands there: any, or a GTX response
pub record NamedAt (any : Bool) (b : Board) (s i : ℕ) : Type 0 where
  pub live : is_live b i ≡ true
  pub gtx : (any || (response_at b.places i).gtx) ≡ true
  pub sequence : (response_at b.places i).sequence ≡ s

abbrev pub GtxAt : Board → ℕ → ℕ → Type 0
GtxAt b s i = NamedAt false b s i

-- finding a response by its sequence
pub record Finding : Type 0 where
  -- found exactly where there is one, and the lowest
  pub found : (any : Bool) (b : Board) (s : ℕ) → Good b → find_named any b s < 64 → NamedAt any b s (find_named any b s)
  pub some : (any : Bool) (b : Board) (s i : ℕ) → Good b → NamedAt any b s i → find_named any b s ≤ i
  pub none : (any : Bool) (b : Board) (s : ℕ) → Good b → ((i : ℕ) → NamedAt any b s i → ⊥) → find_named any b s ≡ 64

-- ---- rising order of sequence

-- sequences rise, from m on
abbrev pub RisingFrom : ℕ → List Response → Type 0
RisingFrom m [] = Unit {0}
RisingFrom m (r ∷ rs) = (m ≤ r.sequence) × RisingFrom r.sequence rs

-- the order in which responses of one price trade
pub record Ordering : Type 0 where
  -- the same responses, rising; those of one sequence in the order that they had
  pub shuffles : (xs : List Response) → Shuffles xs (in_sequence xs)
  pub rises : (xs : List Response) → RisingFrom 0 (in_sequence xs)
  pub stable : (s : ℕ) (xs : List Response) → filter (λ r. eqb r.sequence s) (in_sequence xs) ≡ filter (λ r. eqb r.sequence s) xs
  pub length-stays : (xs : List Response) → length (in_sequence xs) ≡ length xs
  pub sums-stay : (f : Response → ℕ) (xs : List Response) → sum (map f (in_sequence xs)) ≡ sum (map f xs)
  -- one of a higher sequence than all others comes last
  pub last : (r : Response) (xs ys : List Response) → Inserts r xs ys → Every (λ x. x.sequence < r.sequence) xs → in_sequence ys ≡ in_sequence xs ++ (r ∷ [])
  -- any filter goes through
  pub filters : (t : Response → Bool) (xs : List Response) → filter t (in_sequence xs) ≡ in_sequence (filter t xs)
