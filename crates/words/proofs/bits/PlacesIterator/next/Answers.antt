use Rattle.std.proofs.Common.{rules, arith}
use Rattle.words.proofs.BitLaws.{lowest-gone}
use Rattle.words.proofs.bits.PlacesIterator.next.Goals as goal

pub returns-clause-goes : goal.returns-clause-goes
returns-clause-goes c = search (rules, lowest-gone c.args.self.now.left (omega arith) (omega arith))
