-- What pro rata is, as statements. Each has its proof.
use Rattle.std.specs.Prelude.{◌≡◌, List, [], ◌∷◌, ◌⊎◌, ℕ, ◌+◌, ◌*◌, ◌/◌, ◌≤◌, ◌<◌, min}
use Rattle.base.specs.Lists.{sum}
use Rattle.share.specs.rules.Share.{floors, fractions, plus, leftover_count, leftovers, shares_by, shares}

-- ---- the words of the laws

-- two lists of one length, with P at each place
abbrev pub Each : (ℕ → ℕ → Type 0) → List ℕ → List ℕ → Type 0
Each P [] [] = Unit {0}
Each P [] (b ∷ ys) = ⊥
Each P (a ∷ xs) [] = ⊥
Each P (a ∷ xs) (b ∷ ys) = P a b × Each P xs ys

-- at most one, and none where s is 0
abbrev pub Mark : ℕ → ℕ → Type 0
Mark s m = (m ≤ 1) × (m ≤ s)

-- the leftovers go one each to distinct members: all that the laws ask of a rule
pub record Marks (R : ℕ) (ss ms : List ℕ) : Type 0 where
  pub each : Each Mark ss ms
  pub total : sum ms ≡ leftover_count R ss

-- share x of a size s is the whole part, or one more
abbrev pub Near : ℕ → ℕ → ℕ → ℕ → Type 0
Near R T s x = (x ≡ R * s / T) ⊎ (x ≡ R * s / T + 1)

-- ---- the laws

-- what the shares qs of R contracts over the sizes ss are
pub record Fair (R : ℕ) (ss qs : List ℕ) : Type 0 where
  -- they add up to R, or to all the sizes
  pub adds-up : sum qs ≡ min R (sum ss)
  -- none is above its size
  pub fits : Each ◌≤◌ qs ss
  -- all are filled where R covers them
  pub all : sum ss ≤ R → qs ≡ ss
  -- else each is the whole part of R * s / T, or one more
  pub near : R < sum ss → Each (Near R (sum ss)) ss qs

-- of two members the one ahead is not passed over: one with the fraction x gets m, and a later one with the fraction y gets n
abbrev pub NotPassed : ℕ → ℕ → ℕ → ℕ → Type 0
NotPassed x m y n = (y ≤ x → n ≤ m) × (x < y → m ≤ n)

-- so it is for any two of a list
abbrev pub InRank : List ℕ → List ℕ → Type 0
InRank [] [] = Unit {0}
InRank [] (m ∷ ms) = ⊥
InRank (x ∷ xs) [] = ⊥
InRank (x ∷ xs) (m ∷ ms) = Each (NotPassed x m) xs ms × InRank xs ms

-- what the rule for the leftovers gives, where R is short of all the sizes
pub record ByFraction (R : ℕ) (ss : List ℕ) : Type 0 where
  -- one each to distinct members
  pub marks : Marks R ss (leftovers R ss)
  -- the largest fractions first, and of equal ones the earlier
  pub in-rank : InRank (fractions R (sum ss) ss) (leftovers R ss)
  -- none to a member whose fraction is 0
  pub none_at_zero : Each Mark (fractions R (sum ss) ss) (leftovers R ss)
  -- the fractions come to as many wholes as there are leftovers
  pub wholes : sum (fractions R (sum ss) ss) ≡ leftover_count R ss * sum ss

pub record ProRata : Type 0 where
  -- for any rule that gives the leftovers one each to distinct members
  pub by-rule : (R : ℕ) (ss ms : List ℕ) → (R < sum ss → Marks R ss ms) → Fair R ss (shares_by ms R ss)
  -- the largest fraction first is such a rule
  pub by_fraction : (R : ℕ) (ss : List ℕ) → R < sum ss → ByFraction R ss
  -- and no other is: one each to distinct members, the largest fractions first and of equal ones the earlier, make these shares
  pub only : (R : ℕ) (ss ms : List ℕ) → R < sum ss → Marks R ss ms → InRank (fractions R (sum ss) ss) ms → shares R ss ≡ plus (floors R (sum ss) ss) ms
  -- so the shares are fair
  pub fair : (R : ℕ) (ss : List ℕ) → Fair R ss (shares R ss)
