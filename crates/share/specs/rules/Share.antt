-- Pro rata: R contracts over a list of sizes, in rising order of sequence (document 01, "Who trades"; document 02, W-203).
use Rattle.std.specs.Prelude.{Bool, cond, List, [], ◌∷◌, ℕ, ◌+◌, ◌-◌, ◌*◌, ◌/◌, ◌%◌, min, leb, ltb, length}
use Rattle.base.specs.Lists.{filter, sum}

-- the whole part of R * s / T, at each size
abbrev pub floors : ℕ → ℕ → List ℕ → List ℕ
floors R T [] = []
floors R T (s ∷ ss) = (R * s / T) ∷ floors R T ss

-- the fractional part of R * s / T, counted in T-ths, at each size
abbrev pub fractions : ℕ → ℕ → List ℕ → List ℕ
fractions R T [] = []
fractions R T (s ∷ ss) = (R * s % T) ∷ fractions R T ss

-- two lists added, member by member
abbrev pub plus : List ℕ → List ℕ → List ℕ
plus [] ms = []
plus (x ∷ xs) [] = x ∷ xs
plus (x ∷ xs) (m ∷ ms) = (x + m) ∷ plus xs ms

-- what the whole parts leave of R
abbrev pub leftover_count : ℕ → List ℕ → ℕ
leftover_count R ss = R - sum (floors R (sum ss) ss)

-- how many of a list pass a test
abbrev pub how_many : (ℕ → Bool) → List ℕ → ℕ
how_many t xs = length (filter t xs)

-- k leftovers, by the fractions: one to each member that fewer than k are ahead of, those with a larger fraction and of equal ones those in earlier, the lower sequences
abbrev pub one_each : ℕ → List ℕ → List ℕ → List ℕ
one_each k earlier [] = []
one_each k earlier (x ∷ xs) = cond (ltb (how_many (leb x) earlier + how_many (ltb x) xs) k) 1 0 ∷ one_each k (x ∷ earlier) xs

-- the leftovers: one each to the largest fractions, and among equal ones to the lower sequence
abbrev pub leftovers : ℕ → List ℕ → List ℕ
leftovers R ss = one_each (leftover_count R ss) [] (fractions R (sum ss) ss)

-- the shares, with the leftovers ms: all are filled where R covers them
abbrev pub shares_by : List ℕ → ℕ → List ℕ → List ℕ
shares_by ms R ss = cond (leb (sum ss) R) ss (plus (floors R (sum ss) ss) ms)

-- pro rata
unfoldable pub shares : ℕ → List ℕ → List ℕ
shares R ss = shares_by (leftovers R ss) R ss

-- first come, first served: each as far as what is left goes
abbrev pub in_turn : ℕ → List ℕ → List ℕ
in_turn left [] = []
in_turn left (s ∷ ss) = min left s ∷ in_turn (left - s) ss
