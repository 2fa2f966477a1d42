use Rattle.trade.proofs.NarrowLaws.{Search}
use Rattle.trade.proofs.leftovers.cut.Given as goal

abbrev pub invariant-loop-a : goal.invariant-loop-a
invariant-loop-a l = Search l.l.shared l.l.total l.b.places l.l.others l.a

abbrev pub decreases-loop-a : goal.decreases-loop-a
decreases-loop-a l = l.a.word
