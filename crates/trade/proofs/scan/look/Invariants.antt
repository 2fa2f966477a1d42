use Rattle.std.proofs.Common.{◌^◌, ◌<◌}
use Rattle.trade.proofs.FoundLaws.{Sees}
use Rattle.trade.proofs.scan.look.Given as goal

abbrev pub invariant-loop-i : goal.invariant-loop-i
invariant-loop-i l = (l.i-iterator.left < 2 ^ 64) × Sees l.bound l.top l.b.places l.unseen l.first l.second l.i-iterator.left
