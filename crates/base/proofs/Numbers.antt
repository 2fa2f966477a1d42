-- Laws of numbers. Assumes nothing.
use mathlib.Core.Path.{◌≡◌}
use mathlib.Core.Logic.{◌⊎◌, inl, inr, ⊎_elim}
use Prim.Native.Nat.{ℕ, ◌*◌, ◌≤◌, ◌<◌}
use native.Mathlib.Nat.{mul-le-mul, lt_of_le_of_lt}
use native.Mathlib.Omega.{arith}
use lib.Dec.{leb, eqb, lit<}
use borrow.Author.Tests.{leb-true, leb-false, eqb-true, eqb-false}
use Rattle.base.specs.Price.{mirrored}
use Rattle.base.proofs.Bools.{bool-or}

-- ---- two numbers compared
pub le-or-lt : (a b : ℕ) → (a ≤ b) ⊎ (b < a)
le-or-lt a b = ⊎_elim (λ e. inl (leb-true a b e)) (λ e. inr (leb-false a b e)) (bool-or (leb a b))

pub eq-or : (j i : ℕ) → (j ≡ i) ⊎ (j ≡ i → ⊥)
eq-or j i = ⊎_elim (λ e. inl (eqb-true j i e)) (λ e. inr (eqb-false j i e)) (bool-or (eqb j i))

-- ---- a product of two u32 fits 64 bits
pub mul_small : (a b : ℕ) → a ≤ 4294967295 → b ≤ 4294967295 → a * b < 18446744073709551616
mul_small a b h k = lt_of_le_of_lt (mul-le-mul h k) (lit< tt)

-- ---- a price's mirror
pub mirror-twice : (p : ℕ) → p ≤ 1000000 → mirrored (mirrored p) ≡ p
unfolding mirrored
mirror-twice p h = omega arith
