-- `words::bits::first_clear` meets its contract. Assumes nothing.
use borrow.Author.Rules.{rules}
use Rattle.words.proofs.BitMachine.{inverted-is}
use Rattle.words.proofs.bits.first_clear.Goals as goal

pub returns : goal.returns
returns c = inverted-is 64 _ (search rules)
