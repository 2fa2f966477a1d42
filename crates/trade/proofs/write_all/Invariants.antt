use mathlib.Core.Path.{◌≡◌}
use mathlib.Core.Bool.{false}
use Rattle.std.specs.Prelude.{Some}
use Prim.Native.Nat.{◌+◌, ◌-◌, ◌^◌, ◌≤◌, ◌<◌}
use lib.ListN.{length}
use Rattle.base.specs.Lists.{filter}
use Rattle.board.specs.rules.Board.{live_in, live_of}
use Rattle.share.specs.inside.Fills.{LeftFills}
use Rattle.trade.specs.declared.Found.{Found}
use Rattle.trade.specs.rules.Trade.{offers, flat}
use Rattle.trade.specs.rules.Write.{reported}
use Rattle.trade.specs.inside.Code.{Stands, due_of, walk_from}
use Rattle.trade.proofs.NearLaws.{Near}
use Rattle.trade.proofs.StepLaws.{ahead}
use Rattle.trade.proofs.write_all.Given as goal

abbrev pub invariant-loop-d : goal.invariant-loop-d
invariant-loop-d l =
    (l.s.from ≤ l.top + 1)
    × (l.s.held + l.s.left ≤ 4294967295)
    × (length l.out ≡ length l.initial.out)
    × (l.s.rest < 2 ^ 64)
    × (live_in l.s.rest l.b.places ≡ filter (ahead l.d l.s.from) (live_of l.b))
    × LeftFills l.initial.out l.at (reported l.d.sell (flat (walk_from l.d (offers l.b) 0 l.left 0))) l.out l.s.at (reported l.d.sell (flat (walk_from l.d (offers l.b) l.s.from l.s.left l.s.held)))
    × Near l.d.bound l.b.places l.s.near l.s.rest
    × ((n : Found) → l.s.next ≡ Some n → l.s.from ≤ l.top → due_of l.s ≡ false → Stands l.d.bound l.top l.b.places l.s.rest n)

abbrev pub decreases-loop-d : goal.decreases-loop-d
decreases-loop-d l = l.top + 1 - l.s.from
