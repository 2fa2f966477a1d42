-- The bits of a word of 64 bits, by arithmetic. Assumes nothing.
use Rattle.std.specs.Prelude.{◌≡◌, ℕ, zero, suc, ◌+◌, ◌-◌, ◌/◌, ◌%◌, ◌^◌, ◌<◌, Bool, cond, ltb, eqb, Option, MatchOption}
-- ones_in k w: how many of the k lowest bits of w are set. count_trailing_zeros k w: the lowest of them that is set, and k where none is
unfoldable pub use Rattle.std.specs.Int.Count.{ones_in, count_trailing_zeros}

-- is bit i of w set?
abbrev pub bit_at : ℕ → ℕ → Bool
bit_at w i = eqb (w / 2 ^ i % 2) 1

-- w with bit i set, where it has one: 2 ^ i more where that is clear
unfoldable pub with_bit : ℕ → ℕ → ℕ
with_bit w i = cond (ltb i 64) (cond (bit_at w i) w (w + 2 ^ i)) w

-- w with bit i clear: 2 ^ i less where it is set
unfoldable pub without_bit : ℕ → ℕ → ℕ
without_bit w i = cond (bit_at w i) (w - 2 ^ i) w

-- the lowest of the k lowest bits of w that is clear, and k where all are set
unfoldable pub clear_in : ℕ → ℕ → ℕ
clear_in zero w = 0
clear_in (suc k) w = cond (eqb (w % 2) 1) (suc (clear_in k (w / 2))) 0

-- w with its lowest set bit clear, and 0 where w is 0
unfoldable pub without_lowest : ℕ → ℕ
without_lowest w = without_bit w (count_trailing_zeros 64 w)

-- from a word: its lowest set bit, where there is one, and the word without it
abbrev pub TakesLowest : ℕ → Option ℕ → ℕ → Type 0
TakesLowest w r v = MatchOption r ((w ≡ 0) × (v ≡ 0)) (λ i. (0 < w) × (i < 64) × (i ≡ count_trailing_zeros 64 w) × (v ≡ without_lowest w))
