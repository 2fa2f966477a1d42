use Rattle.std.proofs.Common.{◌≡◌, ◌^◌, ◌≤◌, ◌<◌, min}
use Rattle.board.specs.rules.Board.{live_in}
use Rattle.trade.specs.inside.Code.{least_of}
use Rattle.trade.proofs.scan.lowest.Given as goal

abbrev pub invariant-loop-i : goal.invariant-loop-i
invariant-loop-i l =
    (l.i-iterator.left < 2 ^ 64) × (l.lowest ≤ l.top) × (least_of l.bound l.top (live_in l.word l.b.places) ≡ min l.lowest (least_of l.bound l.top (live_in l.i-iterator.left l.b.places)))
