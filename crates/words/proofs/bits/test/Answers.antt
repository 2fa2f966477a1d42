-- `words::bits::test` meets its contract. Assumes nothing.
use mathlib.Core.Path.{sym}
use borrow.Author.Rules.{rules}
use Rattle.words.proofs.BitLaws.{past-bit}
use Rattle.words.proofs.bits.test.Goals as goal

pub returns-else-i-lt64 : goal.returns-else-i-lt64
returns-else-i-lt64 c = sym (past-bit c.args.w c.args.i (search rules) c.if-i-lt64.false)
