-- `board::clear` meets its contract. Assumes nothing.
use Rattle.board.proofs.clear.Goals as goal

pub returns : goal.returns
returns c = rw c.without_bit.ensures
