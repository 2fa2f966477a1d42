-- The rule for the leftovers as the code goes by it: a cut through the fractions.
use Rattle.std.specs.Prelude.{◌≡◌, cond, List, [], ◌∷◌, ℕ, ◌+◌, ◌-◌, ◌≤◌, min, ltb, eqb}
use Rattle.share.specs.rules.Share.{how_many}

-- what one with the fraction x gets: one above the cut c, and at it one of those that are spare
abbrev pub one_by : ℕ → ℕ → ℕ → ℕ
one_by c spare x = cond (ltb c x) 1 (cond (eqb c x) (min spare 1) 0)

-- what is spare after it
abbrev pub spare_by : ℕ → ℕ → ℕ → ℕ
spare_by c spare x = spare - cond (eqb c x) 1 0

-- one to each above the cut c, and to the first at it, as many as are spare
abbrev pub by_cut : ℕ → ℕ → List ℕ → List ℕ
by_cut c spare [] = []
by_cut c spare (x ∷ xs) = one_by c spare x ∷ by_cut c (spare_by c spare x) xs

-- the cut c serves k of a list: k leftovers by the cut are then those of the rule (proofs/CutLaws `one-each-cut`)
pub record Cuts (k : ℕ) (xs : List ℕ) (c spare : ℕ) : Type 0 where
  pub counted : how_many (ltb c) xs + spare ≡ k
  pub enough : spare ≤ how_many (eqb c) xs
