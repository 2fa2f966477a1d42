-- `board::empty` meets its contract. Assumes nothing.
use mathlib.Core.Path.{ap}
use lib.ListN.{replicate}
use Rattle.board.specs.rules.Board.{empty_board}
use Rattle.board.specs.declared.Response.{Response}
use Rattle.board.proofs.empty.Goals as goal

pub returns : goal.returns
unfolding empty_board
returns c = ap (λ (r : Response). record { places = replicate 64 r; live = 0 }) c.no_response-places.ensures
