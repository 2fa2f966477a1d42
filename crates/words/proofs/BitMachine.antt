-- The machine's operations on a word are the arithmetic of its bits. Assumes nothing.
use mathlib.Core.Path.{◌≡◌, refl, sym, ap, ◌∙◌}
use mathlib.Core.Bool.{true, false}
use mathlib.Core.Logic.{⊎_elim}
use Prim.Native.Nat.{ℕ, zero, suc, ◌+◌, ◌-◌, ◌*◌, ◌/◌, ◌%◌, ◌^◌, ◌<◌, min}
use native.Mathlib.Nat.{pow-suc, zero-mul, one-mul}
use native.Mathlib.Numerals.{one-add}
use native.Mathlib.Omega.{arith}
use lib.Dec.{lit<}
use lib.Pow.{pow-lt, shl_exact}
use lib.Count.{ones, ones_step}
use lib.Bits.{bit_and, bit_or, and_step, and_self, and_high, or_add_and}
use Rattle.words.specs.rules.Bits.{bit_at, with_bit, without_bit, ones_in, clear_in, count_trailing_zeros, without_lowest}
use Rattle.base.proofs.Bools.{bool-or}
use Rattle.words.proofs.BitLaws.{bit-or, bit-one, bit-zero, with-clear, with-set, without-set, without-clear, clear-even, clear-odd, set-even, set-odd, some-set, set_is}

-- ---- one bit
and-bit : (w i : ℕ) → bit_and w (2 ^ i) ≡ (w / 2 ^ i % 2) * 2 ^ i
and-bit w i =
    let e : 2 ^ i ≡ 2 ^ (1 + i) - 2 ^ i = omega (arith, pow-suc 2 i, ap (λ (n : ℕ). 2 ^ n) (one-add i)) in
    ap (bit_and w) e ∙ and_high w 1 i

shl_one : (i : ℕ) → i < 64 → 1 * 2 ^ i % 2 ^ 64 ≡ 2 ^ i
shl_one i l = shl_exact 1 i 64 (lit< tt) (omega arith) ∙ one-mul (2 ^ i)

and_set : (w i : ℕ) → bit_at w i ≡ true → bit_and w (2 ^ i) ≡ 2 ^ i
and_set w i t = and-bit w i ∙ rw (bit-one w i t) (one-mul (2 ^ i))

and-clear : (w i : ℕ) → bit_at w i ≡ false → bit_and w (2 ^ i) ≡ 0
and-clear w i t = and-bit w i ∙ rw (bit-zero w i t) (zero-mul (2 ^ i))

pub or_is : (w i : ℕ) → i < 64 → bit_or w (1 * 2 ^ i % 2 ^ 64) ≡ with_bit w i
or_is w i l =
    ap (bit_or w) (shl_one i l) ∙
    ⊎_elim
    (λ t. omega (arith, or_add_and w (2 ^ i), and_set w i t, with-set w i t))
    (λ t. omega (arith, or_add_and w (2 ^ i), and-clear w i t, with-clear w i l t))
    (bool-or (bit_at w i))

-- the bits of w that m has not, and those that it has
not_digit : (x y : ℕ) → x < 2 → y < 2 → min x (1 - y) + min x y ≡ x
not_digit x y h l = omega arith

not-join : (w a b x y : ℕ) → a + b ≡ w / 2 → x + y ≡ w % 2 → a * 2 + x + (b * 2 + y) ≡ w
not-join w a b x y h l = omega arith

and-not : (k w m : ℕ) → w < 2 ^ k → m < 2 ^ k → bit_and w ((2 ^ k - 1) - m) + bit_and w m ≡ w
and-not zero w m h l = let e : w ≡ 0 = omega arith in rw e
and-not (suc k) w m h l =
    let e : (2 ^ suc k - 1 - m) % 2 ≡ 1 - m % 2 = omega (arith, pow-suc 2 k) in
    let f : (2 ^ suc k - 1 - m) / 2 ≡ 2 ^ k - 1 - m / 2 = omega (arith, pow-suc 2 k) in
    let ih = and-not k (w / 2) (m / 2) (omega (arith, pow-suc 2 k)) (omega (arith, pow-suc 2 k)) in
    rw (and_step w (2 ^ suc k - 1 - m), and_step w m, e, f)
    (not-join w _ _ _ _ ih (not_digit (w % 2) (m % 2) (omega arith) (omega arith)))

pub and-not-is : (w i : ℕ) → w < 2 ^ 64 → i < 64 → bit_and w ((2 ^ 64 - 1) - 1 * 2 ^ i % 2 ^ 64) ≡ without_bit w i
and-not-is w i h l =
    ap (λ (n : ℕ). bit_and w ((2 ^ 64 - 1) - n)) (shl_one i l) ∙
    ⊎_elim
    (λ t. omega (arith, and-not 64 w (2 ^ i) h (pow-lt l), and_set w i t, without-set w i t))
    (λ t. omega (arith, and-not 64 w (2 ^ i) h (pow-lt l), and-clear w i t, without-clear w i t))
    (bool-or (bit_at w i))

-- ---- the counts
pub ones_is : (k w : ℕ) → w < 2 ^ k → ones w ≡ ones_in k w
unfolding ones_in ones
ones_is zero w h = let e : w ≡ 0 = omega arith in rw e
ones_is (suc k) w h = ones_step w ∙ ap (λ (n : ℕ). w % 2 + n) (ones_is k (w / 2) (omega (arith, pow-suc 2 k)))

pub inverted-is : (k w : ℕ) → w < 2 ^ k → count_trailing_zeros k ((2 ^ k - 1) - w) ≡ clear_in k w
unfolding count_trailing_zeros clear_in
inverted-is zero w h = refl
inverted-is (suc k) w h =
    let odd : w % 2 + (2 ^ suc k - 1 - w) % 2 ≡ 1 = omega (arith, pow-suc 2 k) in
    let half : (2 ^ suc k - 1 - w) / 2 ≡ 2 ^ k - 1 - w / 2 = omega (arith, pow-suc 2 k) in
    let ih = inverted-is k (w / 2) (omega (arith, pow-suc 2 k)) in
    ⊎_elim
    (λ e. let f : (2 ^ suc k - 1 - w) % 2 ≡ 1 = omega arith in rw f (sym (clear-even k w e)))
    (λ e. let f : (2 ^ suc k - 1 - w) % 2 ≡ 0 = omega arith in rw (f, half) (ap suc ih ∙ sym (clear-odd k w e)))
    (bit-or w)

-- ---- the lowest set bit: a word and one less than it share all but that one
less-even : (w i : ℕ) → w % 2 ≡ 0 → (w / 2 - 2 ^ i) * 2 + min (w % 2) 1 ≡ w - 2 ^ suc i
less-even w i e = omega (arith, pow-suc 2 i)

less-odd : (w : ℕ) → w % 2 ≡ 1 → w / 2 * 2 + min (w % 2) 0 ≡ w - 1
less-odd w e = omega arith

and-less : (k w : ℕ) → 0 < w → w < 2 ^ k → bit_and w (w - 1) ≡ w - 2 ^ count_trailing_zeros k w
and-less zero w p h = absurd (omega arith)
and-less (suc k) w p h =
    ⊎_elim
    (λ e.
    let half : (w - 1) / 2 ≡ w / 2 - 1 = omega arith in
    let odd : (w - 1) % 2 ≡ 1 = omega arith in
    let ih = and-less k (w / 2) (omega arith) (omega (arith, pow-suc 2 k)) in
    and_step w (w - 1) ∙ rw (half, odd, set-even k w e, ih) (less-even w (count_trailing_zeros k (w / 2)) e))
    (λ e.
    let half : (w - 1) / 2 ≡ w / 2 = omega arith in
    let odd : (w - 1) % 2 ≡ 0 = omega arith in
    and_step w (w - 1) ∙ rw (half, odd, set-odd k w e, and_self (w / 2)) (less-odd w e))
    (bit-or w)

pub and-less-is : (w : ℕ) → 0 < w → w < 2 ^ 64 → bit_and w (w - 1) ≡ without_lowest w
unfolding without_lowest
and-less-is w p h = and-less 64 w p h ∙ sym (without-set w (count_trailing_zeros 64 w) (set_is 64 w (some-set 64 w p h)))

pub none-less : without_lowest 0 ≡ 0
unfolding without_lowest without_bit count_trailing_zeros
none-less = refl
