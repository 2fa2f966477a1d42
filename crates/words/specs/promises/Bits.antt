-- What the bits of a word mean, as statements. Each has its proof. Assumes nothing.
use Rattle.std.specs.Prelude.{◌≡◌, true, false, ℕ, suc, ◌^◌, ◌≤◌, ◌<◌}
use Rattle.words.specs.rules.Bits.{bit_at, with_bit, without_bit, ones_in, clear_in, count_trailing_zeros}

-- what test, set, clear, the count and the two searches mean
pub record BitsMean : Type 0 where
  -- there is no bit from 64 on
  pub past : (w i : ℕ) → w < 2 ^ 64 → 64 ≤ i → bit_at w i ≡ false
  -- set and clear: the bit itself, and every other bit stays
  pub set_same : (w i : ℕ) → i < 64 → bit_at (with_bit w i) i ≡ true
  pub set_other : (w i j : ℕ) → (j ≡ i → ⊥) → bit_at (with_bit w i) j ≡ bit_at w j
  pub clear-same : (w i : ℕ) → bit_at (without_bit w i) i ≡ false
  pub clear-other : (w i j : ℕ) → (j ≡ i → ⊥) → bit_at (without_bit w i) j ≡ bit_at w j
  -- the count: one more where a clear bit is set, one less where a set bit is cleared
  pub set-counts : (w i : ℕ) → i < 64 → bit_at w i ≡ false → ones_in 64 (with_bit w i) ≡ suc (ones_in 64 w)
  pub clear-counts : (w i : ℕ) → i < 64 → bit_at w i ≡ true → ones_in 64 w ≡ suc (ones_in 64 (without_bit w i))
  -- the first clear bit: it is clear, all below it are set, and there is one exactly where fewer than 64 bits are set
  pub clear-at-most : (w : ℕ) → clear_in 64 w ≤ 64
  pub clear-is : (w : ℕ) → clear_in 64 w < 64 → bit_at w (clear_in 64 w) ≡ false
  pub clear-lowest : (w j : ℕ) → j < clear_in 64 w → bit_at w j ≡ true
  pub clear-some : (w j : ℕ) → j < 64 → bit_at w j ≡ false → clear_in 64 w < 64
  pub clear_room : (w : ℕ) → ones_in 64 w < 64 → clear_in 64 w < 64
  pub clear-full : (w : ℕ) → clear_in 64 w < 64 → ones_in 64 w < 64
  -- the first set bit: it is set, all below it are clear, and there is one where the word is not 0
  pub set-at-most : (w : ℕ) → count_trailing_zeros 64 w ≤ 64
  pub set_is : (w : ℕ) → count_trailing_zeros 64 w < 64 → bit_at w (count_trailing_zeros 64 w) ≡ true
  pub set-lowest : (w j : ℕ) → j < count_trailing_zeros 64 w → bit_at w j ≡ false
  pub set-some : (w : ℕ) → 0 < w → w < 2 ^ 64 → count_trailing_zeros 64 w < 64
  pub set-none : count_trailing_zeros 64 0 ≡ 64
