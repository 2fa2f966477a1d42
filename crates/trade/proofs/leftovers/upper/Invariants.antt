use Rattle.trade.proofs.NarrowLaws.{Looked}
use Rattle.trade.proofs.leftovers.upper.Given as goal

abbrev pub invariant-loop-i : goal.invariant-loop-i
invariant-loop-i l = Looked l.amount l.total l.b.places l.a l.u l.i-iterator.left
