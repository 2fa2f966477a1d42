-- What it means that a contract settles its function.
use Rattle.std.specs.Prelude.{◌≡◌}
use contract.Lifetimes.{Lfts}
use denote.Triple.Entry.{Args, Res}
use denote.Triple.Clauses.{Ended, Lasts, AtExit, at_exit}

module _ (T : Ended) where
  -- What a contract asks of the arguments.
  abbrev pub Asks : Type 1
  Asks = (κs : Lfts T.signature.lifetimes) → Args T.signature κs → Type 0

  -- The outcomes that it allows: the answer, and what was lent as it is at exit.
  abbrev pub Allows : Type 1
  Allows = (κs : Lfts T.signature.lifetimes) → Args T.signature κs → Res T.signature κs → AtExit T κs → Type 0

  -- It asks nothing, and two outcomes that it allows are equal: the answers `y` and `z`, and the last values `v` and `w` of all that was lent.
  abbrev pub Settled : Asks → Allows → Type 0
  Settled asks allows =
      (κs : Lfts T.signature.lifetimes) (a : Args T.signature κs) →
      asks κs a ×
      ((y z : Res T.signature κs) (v w : Lasts T κs a) →
      allows κs a y (at_exit T κs a v) → allows κs a z (at_exit T κs a w) → (y ≡ z) × (v ≡ w))
