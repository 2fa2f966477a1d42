-- `words::bits::without_bit` meets its contract. Assumes nothing.
use mathlib.Core.Path.{sym}
use borrow.Author.Rules.{rules}
use Rattle.words.proofs.BitLaws.{past-bit, without-clear}
use Rattle.words.proofs.BitMachine.{and-not-is}
use Rattle.words.proofs.bits.without_bit.Goals as goal

pub returns-then-i-lt64 : goal.returns-then-i-lt64
returns-then-i-lt64 c = and-not-is c.args.w c.args.i (search rules) c.if-i-lt64.true

pub returns-else-i-lt64 : goal.returns-else-i-lt64
returns-else-i-lt64 c =
    let w = c.args.w in
    let i = c.args.i in
    sym (without-clear w i (past-bit w i (search rules) c.if-i-lt64.false))
