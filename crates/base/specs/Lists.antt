-- Words for lists. Assumes nothing.
use Rattle.std.specs.Prelude.{ℕ, ◌+◌, Bool, true, false, List, [], ◌∷◌, ◌⊎◌, ◌≡◌}

-- x in front of the list, where the test passed
abbrev pub keep : {A : Type 0} → Bool → A → List A → List A
keep true x xs = x ∷ xs
keep false x xs = xs

-- those of a list that pass a test
unfoldable pub filter : {A : Type 0} → (A → Bool) → List A → List A
filter t [] = []
filter t (x ∷ xs) = keep (t x) x (filter t xs)

-- the numbers of a list, added up
unfoldable pub sum : List ℕ → ℕ
sum [] = 0
sum (x ∷ xs) = x + sum xs

-- P holds of each of a list
abbrev pub Every : {A : Type 0} → (A → Type 0) → List A → Type 0
Every P [] = Unit {0}
Every P (x ∷ xs) = P x × Every P xs

-- a is one of a list
abbrev pub In : {A : Type 0} → A → List A → Type 0
In a [] = ⊥
In a (x ∷ xs) = (a ≡ x) ⊎ In a xs

-- the second list is the first with r more, at some place
pub data Inserts {A : Type 0} (r : A) : List A → List A → Type 0 where
  here : {xs : List A} → Inserts r xs (r ∷ xs)
  there : {x : A} {xs ys : List A} → Inserts r xs ys → Inserts r (x ∷ xs) (x ∷ ys)

-- the second list is the first in some order
pub data Shuffles {A : Type 0} : List A → List A → Type 0 where
  none : Shuffles [] []
  more : {x : A} {xs ys zs : List A} → Shuffles xs ys → Inserts x ys zs → Shuffles (x ∷ xs) zs
