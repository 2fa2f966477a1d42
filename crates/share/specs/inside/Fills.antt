-- What a writer of fills says.
use Rattle.std.specs.Prelude.{List, [], ◌∷◌, ℕ, ◌+◌, ◌*◌, length, set}
use Rattle.base.specs.Writing.{Wrote, Left}
use Rattle.share.specs.rules.Fills.{Fill}

abbrev pub put : List ℕ → ℕ → Fill → List ℕ
put xs at f = set (set (set xs at f.party) (at + 1) f.price) (at + 2) f.quantity

-- xs with the fills' words from place `at` on, every other word as it was
unfoldable pub written : List ℕ → ℕ → List Fill → List ℕ
written xs at [] = xs
written xs at (f ∷ fs) = written (put xs at f) (at + 3) fs

-- a fill takes three words
abbrev pub words_of : List Fill → ℕ
words_of fs = 3 * length fs

-- from xs, at place `at`, it wrote fs; ys is what is there then, and `next` the place after
abbrev pub WroteFills : List ℕ → ℕ → List Fill → ℕ → List ℕ → Type 0
WroteFills = Wrote written words_of

-- a writing loop's state: to write gs at w in ys comes to the same as to write fs at `at` in xs
abbrev pub LeftFills : List ℕ → ℕ → List Fill → List ℕ → ℕ → List Fill → Type 0
LeftFills = Left written words_of
