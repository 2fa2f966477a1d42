-- `words::bits::ones` meets its contract. Assumes nothing.
use borrow.Author.Rules.{rules}
use Rattle.words.proofs.BitMachine.{ones_is}
use Rattle.words.proofs.bits.ones.Goals as goal

pub returns : goal.returns
returns c = ones_is 64 _ (search rules)
