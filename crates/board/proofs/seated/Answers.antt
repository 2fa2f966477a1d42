-- `board::seated` meets its contract. Assumes nothing.
use mathlib.Core.Path.{sym}
use Rattle.board.proofs.BoardLaws.{seated-is, seated-past}
use Rattle.board.proofs.seated.Goals as goal

pub returns-then-at-ge64 : goal.returns-then-at-ge64
returns-then-at-ge64 c = sym (seated-past c.args.b c.args.at _ c.if-at-ge64.true)

pub returns : goal.returns
returns c =
    let b = c.args.b in
    rw c.with_bit.ensures (sym (seated-is b c.args.at _ c.if-at-ge64.false))
