-- Worked examples, by computation. Assumes nothing.
use mathlib.Core.Path.{◌≡◌, refl}
use mathlib.Core.Bool.{true, false}
use Rattle.words.specs.rules.Bits.{bit_at, with_bit, without_bit, ones_in, clear_in, count_trailing_zeros, without_lowest}

-- bits 0, 2 and 63, of 0x8000_0000_0000_0005
top : bit_at 0x8000_0000_0000_0005 63 ≡ true
top = refl

past : bit_at 0xFFFF_FFFF_FFFF_FFFF 64 ≡ false
past = refl

sets : with_bit 0x8000_0000_0000_0005 1 ≡ 0x8000_0000_0000_0007
unfolding with_bit
sets = refl

sets-again : with_bit 0x8000_0000_0000_0005 63 ≡ 0x8000_0000_0000_0005
unfolding with_bit
sets-again = refl

sets-past : with_bit 5 64 ≡ 5
unfolding with_bit
sets-past = refl

clears : without_bit 0x8000_0000_0000_0005 63 ≡ 5
unfolding without_bit
clears = refl

clears-again : without_bit 5 1 ≡ 5
unfolding without_bit
clears-again = refl

counts : ones_in 64 0x8000_0000_0000_0005 ≡ 3
unfolding ones_in
counts = refl

first-clear : clear_in 64 0x8000_0000_0000_0005 ≡ 1
unfolding clear_in
first-clear = refl

none-clear : clear_in 64 0xFFFF_FFFF_FFFF_FFFF ≡ 64
unfolding clear_in
none-clear = refl

first-set : count_trailing_zeros 64 0x8000_0000_0000_0000 ≡ 63
unfolding count_trailing_zeros
first-set = refl

none-set : count_trailing_zeros 64 0 ≡ 64
unfolding count_trailing_zeros
none-set = refl

clears-lowest : without_lowest 0x8000_0000_0000_0028 ≡ 0x8000_0000_0000_0020
unfolding without_lowest without_bit count_trailing_zeros
clears-lowest = refl

clears-top : without_lowest 0x8000_0000_0000_0000 ≡ 0
unfolding without_lowest without_bit count_trailing_zeros
clears-top = refl

clears-none : without_lowest 0 ≡ 0
unfolding without_lowest without_bit count_trailing_zeros
clears-none = refl
