use Rattle.std.proofs.Common.{◌^◌, ◌<◌}
use Rattle.board.proofs.LiveLaws.{Sifted}
use Rattle.trade.specs.inside.Code.{below}
use Rattle.trade.proofs.scan.below.Given as goal

abbrev pub invariant-loop-i : goal.invariant-loop-i
invariant-loop-i l = (l.i-iterator.left < 2 ^ 64) × Sifted (below l.bound l.limit) l.b.places l.word l.near l.i-iterator.left
