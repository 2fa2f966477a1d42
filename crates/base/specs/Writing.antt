-- What a writer says that writes things of one kind, one after the other, into words or bytes.
use Rattle.std.specs.Prelude.{◌≡◌, List, ℕ, ◌+◌}

-- `written xs at fs` is xs with the things fs from place `at` on, and `long fs` says how many places they take
module _ {A : Type 0} (written : List ℕ → ℕ → List A → List ℕ) (long : List A → ℕ) where
  -- from xs, at place `at`, it wrote fs; ys is what is there then, and `next` the place after
  pub record Wrote (xs : List ℕ) (at : ℕ) (fs : List A) (next : ℕ) (ys : List ℕ) : Type 0 where
    pub words : ys ≡ written xs at fs
    pub place : next ≡ at + long fs

  -- a writing loop's state: to write gs at w in ys comes to the same as to write fs at `at` in xs
  pub record Left (xs : List ℕ) (at : ℕ) (fs : List A) (ys : List ℕ) (w : ℕ) (gs : List A) : Type 0 where
    pub words : written ys w gs ≡ written xs at fs
    pub place : w + long gs ≡ at + long fs
