-- `board::find` meets its contract. The invariant: a search of the places still to come finds what a search of all finds. Assumes nothing.
use Prim.Native.Nat.{◌^◌, ◌<◌}
use mathlib.Core.Path.{◌≡◌}
use Rattle.board.specs.rules.Board.{find_in, is_named, find_named}
use Rattle.board.proofs.find.Given as goal

abbrev pub invariant-loop-place : goal.invariant-loop-place
invariant-loop-place l =
    (l.place-iterator.left < 2 ^ 64) × (find_in (is_named l.any l.sequence) l.place-iterator.left l.b.places ≡ find_named l.any l.b l.sequence)
