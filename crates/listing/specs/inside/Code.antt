-- What the private functions of `listing` give.
use Rattle.std.specs.Prelude.{◌≡◌, List, [], ◌∷◌, ℕ, length}
use Rattle.std.proofs.lemmas.List.Edits.{sets}
use Rattle.share.specs.rules.Fills.{Fill, fill}
use Rattle.listing.specs.declared.Listed.{Listed}
use Rattle.run.specs.rules.Run.{Run}
use Rattle.listing.specs.rules.Listing.{lines_of, answer_of}

-- what the writer of a run's lines says: from xs it wrote them at the start, and answered r; ys is what is there then
pub record Lists (run : Run) (xs : List ℕ) (r : Listed) (ys : List ℕ) : Type 0 where
  pub answer : r ≡ answer_of (length (lines_of run)) run
  pub bytes : ys ≡ sets xs 0 (lines_of run)

-- ---- fills as the writer of fills leaves them

-- the fills of words, three each
abbrev pub fills_in : List ℕ → List Fill
fills_in (party ∷ price ∷ quantity ∷ ws) = fill party price quantity ∷ fills_in ws
fills_in _ = []
