-- What the methods of a writer say.
use Rattle.std.specs.Prelude.{◌≡◌, List, ℕ, ◌+◌, ◌≤◌, length}
use Rattle.words.specs.inside.Writing.{WroteBytes}
use Rattle.listing.specs.declared.text.Writer.{Writer}

-- its lent bytes have room for a text
abbrev pub Fits : Writer → List ℕ → Type 0
Fits w s = w.at + length s ≤ length w.out.now

-- it wrote a text at its place, and holds the same lent bytes
pub record Writes (old new : Writer) (s : List ℕ) : Type 0 where
  pub lent : new.out.ghost_name ≡ old.out.ghost_name
  pub wrote : WroteBytes old.out.now old.at s new.at new.out.now
  pub room : length new.out.now ≡ length old.out.now
