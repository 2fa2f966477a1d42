-- What writers of bytes say.
use Rattle.std.specs.Prelude.{List, ℕ, length}
use Rattle.std.proofs.lemmas.List.Edits.{sets}
use Rattle.base.specs.Writing.{Wrote, Left}

-- from xs, at place `at`, it wrote the bytes t; ys is what is there then, and `next` the place after
abbrev pub WroteBytes : List ℕ → ℕ → List ℕ → ℕ → List ℕ → Type 0
WroteBytes xs at t next ys = Wrote sets length xs at t next ys

-- a loop that writes: to write t at w in ys comes to the same as to write s at `at` in xs
abbrev pub LeftBytes : List ℕ → ℕ → List ℕ → List ℕ → ℕ → List ℕ → Type 0
LeftBytes xs at s ys w t = Left sets length xs at s ys w t
