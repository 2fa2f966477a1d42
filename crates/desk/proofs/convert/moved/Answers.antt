-- Of `desk::convert::moved`: a tape that was moved lies within the lent bytes.
use Rattle.std.proofs.Common.{sym, ◌∙◌, arith}
use Rattle.io.proofs.Counting.{prefix_len_of_le}
use Rattle.moving.proofs.Theorems.{all-moves}
use Rattle.desk.proofs.convert.moved.Goals as goal

pub returns : goal.returns
returns c =
    let done = all-moves.done c.is_wide.result c.args.tape.now c.args.out.now c.in_ok-length.length (sym c.move_tape.ensures.value ∙ c.in_ok-length.was) in
    prefix_len_of_le _ _ (omega (arith, done.room))
