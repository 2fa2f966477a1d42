-- Fills: who trades how much at a price, and their words.
use Rattle.std.specs.Prelude.{List, [], ◌∷◌, ◌++◌, ℕ, ltb}
use Rattle.board.specs.declared.Response.{Response}
use Rattle.base.specs.Lists.{keep}

pub record Fill : Type 0 where
  -- the sequence, and 0 for the Contra Order
  pub party : ℕ
  pub price : ℕ
  pub quantity : ℕ

abbrev pub fill : ℕ → ℕ → ℕ → Fill
fill party price quantity = record { party = party; price = price; quantity = quantity }

-- the fill of one party: none of zero
abbrev pub fill_of : ℕ → ℕ → ℕ → List Fill
fill_of party price quantity = keep (ltb 0 quantity) (fill party price quantity) []

abbrev pub sizes : List Response → List ℕ
sizes [] = []
sizes (r ∷ rs) = r.size ∷ sizes rs

-- a quantity to each response, at the price p
abbrev pub fills_by : ℕ → List Response → List ℕ → List Fill
fills_by p [] qs = []
fills_by p (r ∷ rs) [] = []
fills_by p (r ∷ rs) (q ∷ qs) = fill_of r.sequence p q ++ fills_by p rs qs

-- ---- words

-- the fills' words, one after the other
abbrev pub words : List Fill → List ℕ
words [] = []
words (f ∷ fs) = f.party ∷ (f.price ∷ (f.quantity ∷ words fs))
