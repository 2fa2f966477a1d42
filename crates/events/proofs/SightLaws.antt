-- What an event sees of the board, by the response that it names.
use mathlib.Core.Path.{◌≡◌, ap, ◌∙◌}
use Prim.Native.Nat.{ℕ}
use Rattle.std.specs.Prelude.{Option}
use Rattle.words.specs.rules.Bits.{clear_in}
use Rattle.board.specs.declared.Board.{Board}
use Rattle.board.specs.declared.Found.{Found}
use Rattle.board.specs.rules.Board.{first_free, place_at, found_at}
use Rattle.board.proofs.PlaceLaws.{place-back, found-back}
use Rattle.tape.specs.declared.event.Event.{Event}
use Rattle.decision.specs.declared.Sight.{Sight}
use Rattle.decision.specs.rules.Decide.{free_place, old_place}
use Rattle.events.specs.rules.Step.{found_for, sight_of}

-- what the board tells, by the response that was found for the event
abbrev pub sight_by : ℕ → Option Found → Sight
sight_by live f = record { free = place_at (clear_in 64 live); named = f }

pub sight-found : (b : Board) (e : Event) (f : Option Found) (s : Sight) → s ≡ sight_by b.live f → f ≡ found_at b (found_for b e) → s ≡ sight_of b e
unfolding sight_of
sight-found b e f s es ef = es ∙ ap (sight_by b.live) ef

-- the places that it tells, as numbers
pub sight-free : (b : Board) (e : Event) → free_place (sight_of b e) ≡ first_free b
unfolding sight_of
sight-free b e = place-back (first_free b)

pub sight-old : (b : Board) (e : Event) → old_place (sight_of b e) ≡ found_for b e
unfolding sight_of
sight-old b e = found-back b (found_for b e)
