-- Places in a word: those that pass a test, and the first in sequence.
use Rattle.std.specs.Prelude.{◌≡◌, ℕ, ◌+◌, ◌*◌, ◌/◌, ◌%◌, ◌^◌, ◌≤◌, ◌<◌, min, Bool, true, cond, ◌&&◌, List, [], ◌∷◌, eqb, length}
use Rattle.base.specs.Lists.{filter}
use Rattle.words.specs.rules.Bits.{bit_at, without_bit}
use Rattle.board.specs.rules.Board.{response_at, live_in, find_in, in_sequence}
use Rattle.board.specs.declared.Response.{Response}

-- the word of those whose bit in w is set and that pass the test
unfoldable pub word_of : {A : Type 0} → (A → Bool) → ℕ → List A → ℕ
word_of t w [] = 0
word_of t w (r ∷ rs) = cond (eqb (w % 2) 1 && t r) 1 0 + 2 * word_of t (w / 2) rs

-- the lower of m and the lowest sequence of a list
unfoldable pub lowest_from : ℕ → List Response → ℕ
lowest_from m [] = m
lowest_from m (r ∷ rs) = lowest_from (min m r.sequence) rs

-- the lowest sequence of a list
abbrev pub lowest : List Response → ℕ
lowest [] = 0
lowest (r ∷ rs) = lowest_from r.sequence rs

-- a response with this sequence
abbrev pub bears : ℕ → Response → Bool
bears s r = eqb r.sequence s

-- the first place that bears the lowest sequence of those whose bit in w is set; the list's length where w is 0
abbrev pub first_in_sequence : List Response → ℕ → ℕ
first_in_sequence ps w = find_in (bears (lowest (live_in w ps))) w ps

-- ---- what walks over the places rest on

-- of the places whose bit in w is set, k has the lowest sequence, and no lower place has the same
pub record Earliest (ps : List Response) (w k : ℕ) : Type 0 where
  pub set : bit_at w k ≡ true
  pub least : (j : ℕ) → j < length ps → bit_at w j ≡ true → (response_at ps k).sequence ≤ (response_at ps j).sequence
  pub lowest : (j : ℕ) → j < k → bit_at w j ≡ true → (response_at ps k).sequence < (response_at ps j).sequence

-- the first place in sequence, and the word of those that pass a test
pub record Walking : Type 0 where
  -- the first place is the earliest, the only such place, and there is one where the word is not 0
  pub earliest : (ps : List Response) (w : ℕ) → first_in_sequence ps w < length ps → Earliest ps w (first_in_sequence ps w)
  pub only : (ps : List Response) (w k : ℕ) → k < length ps → Earliest ps w k → first_in_sequence ps w ≡ k
  pub some : (ps : List Response) (w : ℕ) → 0 < w → w < 2 ^ length ps → first_in_sequence ps w < length ps
  pub none : (ps : List Response) → first_in_sequence ps 0 ≡ length ps
  -- it comes first of the live ones in order, and the rest after it
  pub takes : (ps : List Response) (w k : ℕ) → k ≡ first_in_sequence ps w → k < length ps → in_sequence (live_in w ps) ≡ response_at ps k ∷ in_sequence (live_in (without_bit w k) ps)
  -- the word of those that pass a test has those of the live ones that pass it
  pub word : (t : Response → Bool) (w : ℕ) (ps : List Response) → live_in (word_of t w ps) ps ≡ filter t (live_in w ps)
