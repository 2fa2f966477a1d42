-- What the bits of a word mean. Assumes nothing.
use mathlib.Core.Path.{◌≡◌, refl, sym, ap, ◌∙◌}
use mathlib.Core.Bool.{true, false, cond, true≢false}
use mathlib.Core.Logic.{◌⊎◌, inl, inr, ⊎_elim}
use Prim.Native.Nat.{ℕ, zero, suc, ◌+◌, ◌-◌, ◌*◌, ◌/◌, ◌%◌, ◌^◌, ◌≤◌, ◌<◌}
use native.Mathlib.Nat.{pow-suc, div-one, not-suc-le-zero, le_of_suc-le-suc, one-mul, suc-mul, mul-le-mul_right, mod-lt, div-eq_of_lt, div-div-eq-div-mul}
use native.Mathlib.Omega.{arith}
use lib.Dec.{eqb}
use lib.Count.{under}
pub use lib.Count.{trailing_le}
use lib.Pow.{pow_pos, pow_mono, split, high}
use borrow.Author.Tests.{lt-ltb, le-ltb, eqb-true, eqb-false, eq-eqb, ne_eqb}
use Rattle.base.proofs.Bools.{bool-or}
use Rattle.base.proofs.Numbers.{le-or-lt}
use Rattle.words.specs.rules.Bits.{bit_at, with_bit, without_bit, ones_in, clear_in, count_trailing_zeros, without_lowest}

-- ---- the lowest digit
pub bit-or : (w : ℕ) → (w % 2 ≡ 0) ⊎ (w % 2 ≡ 1)
bit-or w = ⊎_elim (λ e. inr (eqb-true (w % 2) 1 e)) (λ e. let h : w % 2 ≡ 1 → ⊥ = eqb-false (w % 2) 1 e in inl (omega arith)) (bool-or (eqb (w % 2) 1))

-- a bit is the digit 1, or 0
pub bit-one : (w i : ℕ) → bit_at w i ≡ true → w / 2 ^ i % 2 ≡ 1
bit-one w i t = eqb-true (w / 2 ^ i % 2) 1 t

pub bit-zero : (w i : ℕ) → bit_at w i ≡ false → w / 2 ^ i % 2 ≡ 0
bit-zero w i t = let h : w / 2 ^ i % 2 ≡ 1 → ⊥ = eqb-false (w / 2 ^ i % 2) 1 t in omega arith

one_bit : (w i : ℕ) → w / 2 ^ i % 2 ≡ 1 → bit_at w i ≡ true
one_bit w i e = eq-eqb (w / 2 ^ i % 2) 1 e

zero_bit : (w i : ℕ) → w / 2 ^ i % 2 ≡ 0 → bit_at w i ≡ false
zero_bit w i e = ne_eqb (w / 2 ^ i % 2) 1 (omega arith)

-- ---- bit i + 1 of w is bit i of w / 2
half-bit : (w i : ℕ) → w / 2 / 2 ^ i ≡ w / 2 ^ suc i
half-bit w i = div-div-eq-div-mul w 2 (2 ^ i) ∙ ap (λ (n : ℕ). w / n) (omega (arith, pow-suc 2 i))

pub bit-half : (w i : ℕ) → bit_at (w / 2) i ≡ bit_at w (suc i)
bit-half w i = ap (λ (n : ℕ). eqb (n % 2) 1) (half-bit w i)

pub bit-low : (w : ℕ) → bit_at w 0 ≡ eqb (w % 2) 1
bit-low w = ap (λ (n : ℕ). eqb (n % 2) 1) (div-one w)

-- a word below 2 ^ i has no bit from i on, and a bit that is set is part of its word
pub no-bit : (w i : ℕ) → w < 2 ^ i → bit_at w i ≡ false
no-bit w i h = zero_bit w i (ap (λ (n : ℕ). n % 2) (div-eq_of_lt h))

pub past-bit : (w i : ℕ) → w < 2 ^ 64 → 64 ≤ i → bit_at w i ≡ false
past-bit w i h l = no-bit w i (omega (arith, pow_mono l))

pub bit_le : (w i : ℕ) → bit_at w i ≡ true → 2 ^ i ≤ w
bit_le w i t =
    let e = bit-one w i t in
    let le : 1 * 2 ^ i ≤ w / 2 ^ i * 2 ^ i = mul-le-mul_right (2 ^ i) (omega arith) in
    omega (arith, split w i, one-mul (2 ^ i))

-- ---- 2 ^ i more, where bit i is clear
add_same : (w i : ℕ) → bit_at w i ≡ false → bit_at (w + 2 ^ i) i ≡ true
add_same w i t =
    let m : suc (w / 2 ^ i) * 2 ^ i ≡ w / 2 ^ i * 2 ^ i + 2 ^ i = suc-mul (w / 2 ^ i) (2 ^ i) in
    let e : w + 2 ^ i ≡ suc (w / 2 ^ i) * 2 ^ i + w % 2 ^ i = omega (arith, split w i) in
    let h = bit-zero w i t in
    one_bit (w + 2 ^ i) i (rw (e, high (suc (w / 2 ^ i)) i (mod-lt w (pow_pos i))) (omega arith))

pub add_half : (w i : ℕ) → (w + 2 ^ suc i) / 2 ≡ w / 2 + 2 ^ i
add_half w i = omega (arith, pow-suc 2 i)

pub add-odd : (w i : ℕ) → (w + 2 ^ suc i) % 2 ≡ w % 2
add-odd w i = omega (arith, pow-suc 2 i)

add-other : (w i j : ℕ) → bit_at w i ≡ false → (j ≡ i → ⊥) → bit_at (w + 2 ^ i) j ≡ bit_at w j
add-other w zero zero t n = absurd (n refl)
add-other w zero (suc j) t n =
    let h = bit-zero w 0 t in
    let e : (w + 1) / 2 ≡ w / 2 = omega arith in
    rw (← half-bit (w + 1) j, ← half-bit w j, e)
add-other w (suc i) zero t n = rw (div-one (w + 2 ^ suc i), div-one w, add-odd)
add-other w (suc i) (suc j) t n =
    let ih = add-other (w / 2) i j (bit-half w i ∙ t) (λ e. n (ap suc e)) in
    rw (← half-bit (w + 2 ^ suc i) j, ← half-bit w j, add_half) ih

add-ones : (k w i : ℕ) → i < k → bit_at w i ≡ false → ones_in k (w + 2 ^ i) ≡ suc (ones_in k w)
unfolding ones_in
add-ones zero w i l t = absurd (not-suc-le-zero l)
add-ones (suc k) w zero l t =
    let h = bit-zero w 0 t in
    let e : (w + 1) / 2 ≡ w / 2 = omega arith in
    rw e (omega arith)
add-ones (suc k) w (suc i) l t =
    let ih = add-ones k (w / 2) i (le_of_suc-le-suc l) (bit-half w i ∙ t) in
    rw (add_half, add-odd, ih) (omega arith)

-- ---- 2 ^ i less, where bit i is set: the word that 2 ^ i more makes of it again
pub cut-same : (w i : ℕ) → bit_at w i ≡ true → bit_at (w - 2 ^ i) i ≡ false
cut-same w i t =
    let h = bit-one w i t in
    let q : w / 2 ^ i ≡ suc (w / 2 ^ i - 1) = omega arith in
    let m : w / 2 ^ i * 2 ^ i ≡ (w / 2 ^ i - 1) * 2 ^ i + 2 ^ i = ap (λ (n : ℕ). n * 2 ^ i) q ∙ suc-mul (w / 2 ^ i - 1) (2 ^ i) in
    let e : w - 2 ^ i ≡ (w / 2 ^ i - 1) * 2 ^ i + w % 2 ^ i = omega (arith, split w i) in
    zero_bit (w - 2 ^ i) i (rw (e, high (w / 2 ^ i - 1) i (mod-lt w (pow_pos i))) (omega arith))

pub cut-back : (w i : ℕ) → bit_at w i ≡ true → w - 2 ^ i + 2 ^ i ≡ w
cut-back w i t = omega (arith, bit_le w i t)

-- ---- a bit set, and cleared
pub with-clear : (w i : ℕ) → i < 64 → bit_at w i ≡ false → with_bit w i ≡ w + 2 ^ i
unfolding with_bit
with-clear w i l t = rw (lt-ltb i 64 l, t)

pub with-set : (w i : ℕ) → bit_at w i ≡ true → with_bit w i ≡ w
unfolding with_bit
with-set w i t = ⊎_elim (λ l. rw (le-ltb i 64 l)) (λ l. rw (lt-ltb i 64 l, t)) (le-or-lt 64 i)

pub with-past : (w i : ℕ) → 64 ≤ i → with_bit w i ≡ w
unfolding with_bit
with-past w i l = rw (le-ltb i 64 l)

pub without-set : (w i : ℕ) → bit_at w i ≡ true → without_bit w i ≡ w - 2 ^ i
unfolding without_bit
without-set w i t = rw t

pub without-clear : (w i : ℕ) → bit_at w i ≡ false → without_bit w i ≡ w
unfolding without_bit
without-clear w i t = rw t

-- the bit itself
pub with-same : (w i : ℕ) → i < 64 → bit_at (with_bit w i) i ≡ true
with-same w i l = ⊎_elim (λ t. rw (with-set w i t) t) (λ t. rw (with-clear w i l t) (add_same w i t)) (bool-or (bit_at w i))

pub without-same : (w i : ℕ) → bit_at (without_bit w i) i ≡ false
without-same w i = ⊎_elim (λ t. rw (without-set w i t) (cut-same w i t)) (λ t. rw (without-clear w i t) t) (bool-or (bit_at w i))

-- every other bit stays
pub with-other : (w i j : ℕ) → (j ≡ i → ⊥) → bit_at (with_bit w i) j ≡ bit_at w j
with-other w i j n =
    ⊎_elim
    (λ l. rw (with-past w i l))
    (λ l. ⊎_elim (λ t. rw (with-set w i t)) (λ t. rw (with-clear w i l t) (add-other w i j t n)) (bool-or (bit_at w i)))
    (le-or-lt 64 i)

pub without_other : (w i j : ℕ) → (j ≡ i → ⊥) → bit_at (without_bit w i) j ≡ bit_at w j
without_other w i j n =
    ⊎_elim
    (λ t. rw (without-set w i t) (rw (cut-back w i t) at (sym (add-other (w - 2 ^ i) i j (cut-same w i t) n))))
    (λ t. rw (without-clear w i t))
    (bool-or (bit_at w i))

-- a bit that is still set is another one, and was set before
pub without_not : (w i j : ℕ) → bit_at (without_bit w i) j ≡ true → j ≡ i → ⊥
without_not w i j t e = true≢false (sym t ∙ ap (bit_at (without_bit w i)) e ∙ without-same w i)

pub without_in : (w i j : ℕ) → bit_at (without_bit w i) j ≡ true → bit_at w j ≡ true
without_in w i j t = sym (without_other w i j (without_not w i j t)) ∙ t

-- the count: one more, and one less
pub with-ones : (w i : ℕ) → i < 64 → bit_at w i ≡ false → ones_in 64 (with_bit w i) ≡ suc (ones_in 64 w)
with-ones w i l t = rw (with-clear w i l t) (add-ones 64 w i l t)

pub without-ones : (w i : ℕ) → i < 64 → bit_at w i ≡ true → ones_in 64 w ≡ suc (ones_in 64 (without_bit w i))
without-ones w i l t = rw (without-set w i t) (rw (cut-back w i t) at (add-ones 64 (w - 2 ^ i) i l (cut-same w i t)))

-- a word stays a word
pub with-fits : (w i : ℕ) → w < 2 ^ 64 → with_bit w i < 2 ^ 64
with-fits w i h =
    ⊎_elim
    (λ l. rw (with-past w i l) h)
    (λ l.
    ⊎_elim
    (λ t. rw (with-set w i t) h)
    (λ t. rw (with-clear w i l t) (add-fits 64 w i h l t))
    (bool-or (bit_at w i)))
    (le-or-lt 64 i)
  where
    add-fits : (k w i : ℕ) → w < 2 ^ k → i < k → bit_at w i ≡ false → w + 2 ^ i < 2 ^ k
    add-fits zero w i h l t = absurd (not-suc-le-zero l)
    add-fits (suc k) w zero h l t = let e = bit-zero w 0 t in omega (arith, pow-suc 2 k)
    add-fits (suc k) w (suc i) h l t =
        let ih = add-fits k (w / 2) i (omega (arith, pow-suc 2 k)) (le_of_suc-le-suc l) (bit-half w i ∙ t) in
        omega (arith, pow-suc 2 k, pow-suc 2 i)

pub without-le : (w i : ℕ) → without_bit w i ≤ w
without-le w i = ⊎_elim (λ t. rw (without-set w i t) (omega arith)) (λ t. rw (without-clear w i t) (omega arith)) (bool-or (bit_at w i))

pub without-lt : (w i : ℕ) → bit_at w i ≡ true → without_bit w i < w
without-lt w i t = rw (without-set w i t) (omega (arith, bit_le w i t, pow_pos i))

-- ---- the lowest clear bit
pub clear-even : (k w : ℕ) → w % 2 ≡ 0 → clear_in (suc k) w ≡ 0
unfolding clear_in
clear-even k w e = ap (λ (d : ℕ). cond (eqb d 1) (suc (clear_in k (w / 2))) 0) e

pub clear-odd : (k w : ℕ) → w % 2 ≡ 1 → clear_in (suc k) w ≡ suc (clear_in k (w / 2))
unfolding clear_in
clear-odd k w e = ap (λ (d : ℕ). cond (eqb d 1) (suc (clear_in k (w / 2))) 0) e

pub clear-le : (k w : ℕ) → clear_in k w ≤ k
unfolding clear_in
clear-le zero w = omega arith
clear-le (suc k) w =
    let ih = clear-le k (w / 2) in
    ⊎_elim (λ e. omega (arith, clear-even k w e)) (λ e. omega (arith, clear-odd k w e)) (bit-or w)

-- it is clear
pub clear-is : (k w : ℕ) → clear_in k w < k → bit_at w (clear_in k w) ≡ false
clear-is zero w h = absurd (not-suc-le-zero h)
clear-is (suc k) w h =
    let ih = clear-is k (w / 2) in
    ⊎_elim
    (λ e. rw (clear-even k w e) (zero_bit w 0 (omega arith)))
    (λ e. rw (clear-odd k w e, ← half-bit) (ih (omega (arith, clear-odd k w e))))
    (bit-or w)

-- all below it are set
pub clear-least : (k w j : ℕ) → j < clear_in k w → bit_at w j ≡ true
unfolding clear_in
clear-least zero w j h = absurd (not-suc-le-zero h)
clear-least (suc k) w zero h =
    ⊎_elim (λ e. absurd (omega (arith, clear-even k w e))) (λ e. one_bit w 0 (omega arith)) (bit-or w)
clear-least (suc k) w (suc j) h =
    let ih = clear-least k (w / 2) j in
    ⊎_elim
    (λ e. absurd (omega (arith, clear-even k w e)))
    (λ e. rw (← half-bit) (ih (omega (arith, clear-odd k w e))))
    (bit-or w)

-- so there is one where any bit is clear
pub some-clear : (k w j : ℕ) → j < k → bit_at w j ≡ false → clear_in k w < k
some-clear k w j l t =
    ⊎_elim
    (λ le. let one = bit-one w j (clear-least k w j (omega arith)) in let none = bit-zero w j t in absurd (omega arith))
    (λ lt. lt)
    (le-or-lt k (clear_in k w))

-- and that is where fewer than all are set
pub clear-ones : (k w : ℕ) → clear_in k w < k → ones_in k w < k
unfolding ones_in
clear-ones zero w h = absurd (not-suc-le-zero h)
clear-ones (suc k) w h =
    ⊎_elim
    (λ e. omega (arith, ones-le k (w / 2)))
    (λ e. let ih = clear-ones k (w / 2) (omega (arith, clear-odd k w e)) in omega arith)
    (bit-or w)
  where
    ones-le : (k w : ℕ) → ones_in k w ≤ k
    ones-le zero w = omega arith
    ones-le (suc k) w = omega (arith, ones-le k (w / 2))

pub ones-clear : (k w : ℕ) → ones_in k w < k → clear_in k w < k
unfolding ones_in
ones-clear zero w h = absurd (not-suc-le-zero h)
ones-clear (suc k) w h =
    ⊎_elim
    (λ e. omega (arith, clear-even k w e))
    (λ e. let ih = ones-clear k (w / 2) (omega arith) in omega (arith, clear-odd k w e))
    (bit-or w)

-- ---- the lowest set bit
pub set-even : (k w : ℕ) → w % 2 ≡ 0 → count_trailing_zeros (suc k) w ≡ suc (count_trailing_zeros k (w / 2))
unfolding count_trailing_zeros
set-even k w e = ap (λ (d : ℕ). under d (count_trailing_zeros k (w / 2))) e

pub set-odd : (k w : ℕ) → w % 2 ≡ 1 → count_trailing_zeros (suc k) w ≡ 0
unfolding count_trailing_zeros
set-odd k w e = ap (λ (d : ℕ). under d (count_trailing_zeros k (w / 2))) e

-- it is set
pub set_is : (k w : ℕ) → count_trailing_zeros k w < k → bit_at w (count_trailing_zeros k w) ≡ true
set_is zero w h = absurd (not-suc-le-zero h)
set_is (suc k) w h =
    let ih = set_is k (w / 2) in
    ⊎_elim
    (λ e. rw (set-even k w e, ← half-bit) (ih (omega (arith, set-even k w e))))
    (λ e. rw (set-odd k w e) (one_bit w 0 (omega arith)))
    (bit-or w)

-- all below it are clear
pub set-least : (k w j : ℕ) → j < count_trailing_zeros k w → bit_at w j ≡ false
unfolding count_trailing_zeros
set-least zero w j h = absurd (not-suc-le-zero h)
set-least (suc k) w zero h =
    ⊎_elim (λ e. zero_bit w 0 (omega arith)) (λ e. absurd (omega (arith, set-odd k w e))) (bit-or w)
set-least (suc k) w (suc j) h =
    let ih = set-least k (w / 2) j in
    ⊎_elim
    (λ e. rw (← half-bit) (ih (omega (arith, set-even k w e))))
    (λ e. absurd (omega (arith, set-odd k w e)))
    (bit-or w)

-- there is one where the word is not 0
pub some-set : (k w : ℕ) → 0 < w → w < 2 ^ k → count_trailing_zeros k w < k
some-set zero w p h = absurd (omega arith)
some-set (suc k) w p h =
    ⊎_elim
    (λ e. omega (arith, set-even k w e, some-set k (w / 2) (omega arith) (omega (arith, pow-suc 2 k))))
    (λ e. omega (arith, set-odd k w e))
    (bit-or w)

-- all of it together: what a loop over the set bits of a word knows of the one that it looks at
pub record LowestBit (w i : ℕ) : Type 0 where
  pub place : i < 64
  pub set : bit_at w i ≡ true
  pub none : (j : ℕ) → j < i → bit_at w j ≡ false

pub lowest_set : (w i : ℕ) → 0 < w → w < 2 ^ 64 → i ≡ count_trailing_zeros 64 w → LowestBit w i
lowest_set w i p h e =
    let l = some-set 64 w p h in
    record { place = omega arith; set = rw e (set_is 64 w l); none = λ j m. set-least 64 w j (omega arith) }

-- and what it has left after that
pub without-lowest : (w i : ℕ) → i ≡ count_trailing_zeros 64 w → without_lowest w ≡ without_bit w i
unfolding without_lowest
without-lowest w i e = ap (without_bit w) (sym e)

pub lowest-gone : (w : ℕ) → 0 < w → w < 2 ^ 64 → without_lowest w < w
lowest-gone w p h = rw (without-lowest w (count_trailing_zeros 64 w) refl) (without-lt w (count_trailing_zeros 64 w) (lowest_set w (count_trailing_zeros 64 w) p h refl).set)
