-- `board::is_named` meets its contract. Assumes nothing.
use mathlib.Core.Path.{refl}
use Rattle.board.proofs.is_named.Goals as goal

pub returns : goal.returns
returns c = refl
