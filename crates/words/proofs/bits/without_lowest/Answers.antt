-- `words::bits::without_lowest` meets its contract. Assumes nothing.
use mathlib.Core.Path.{sym}
use native.Mathlib.Omega.{arith}
use borrow.Author.Rules.{rules}
use Rattle.words.proofs.BitMachine.{and-less-is, none-less}
use Rattle.words.proofs.bits.without_lowest.Goals as goal

pub returns-then-w-eq0 : goal.returns-then-w-eq0
returns-then-w-eq0 c = rw c.if-w-eq0.true (sym none-less)

pub returns-else-w-eq0 : goal.returns-else-w-eq0
returns-else-w-eq0 c = and-less-is c.args.w (omega (arith, c.if-w-eq0.false)) (search rules)
