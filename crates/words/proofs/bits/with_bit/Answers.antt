-- `words::bits::with_bit` meets its contract. Assumes nothing.
use mathlib.Core.Path.{sym}
use borrow.Author.Rules.{rules}
use Rattle.words.proofs.BitLaws.{with-past}
use Rattle.words.proofs.BitMachine.{or_is}
use Rattle.words.proofs.bits.with_bit.Goals as goal

pub returns-then-i-lt64 : goal.returns-then-i-lt64
returns-then-i-lt64 c = or_is c.args.w c.args.i (search rules)

pub returns-else-i-lt64 : goal.returns-else-i-lt64
returns-else-i-lt64 c = sym (with-past c.args.w c.args.i c.if-i-lt64.false)
