use Rattle.std.proofs.Common.{◌≡◌, ◌+◌, ◌^◌, ◌<◌}
use Rattle.base.specs.Lists.{sum}
use Rattle.trade.specs.inside.Code.{fractions_in}
use Rattle.trade.proofs.scan.fractions.Given as goal

abbrev pub invariant-loop-i : goal.invariant-loop-i
invariant-loop-i l =
    (l.i-iterator.left < 2 ^ 64) × (sum (fractions_in l.amount l.total l.b.places l.word) ≡ l.sum + sum (fractions_in l.amount l.total l.b.places l.i-iterator.left))
