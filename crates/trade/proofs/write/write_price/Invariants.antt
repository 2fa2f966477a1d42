use Rattle.std.proofs.Common.{◌≡◌, ◌≤◌, ◌<◌, length}
use Rattle.share.specs.inside.Fills.{LeftFills}
use Rattle.trade.specs.inside.Code.{fills_at}
use Rattle.trade.proofs.ServeLaws.{Hands, to_serve}
use Rattle.trade.proofs.RunLaws.{serve_work}
use Rattle.trade.proofs.write.write_price.Given as goal

abbrev pub invariant-loop-h-2 : goal.invariant-loop-h-2
invariant-loop-h-2 l =
    Hands l.l l.cut.at l.b.places l.h
    × LeftFills l.fn.out l.fn.at (fills_at l.b.places l.l) l.out l.h.at (to_serve l.l l.cut.at l.b.places l.h)
    × (serve_work l.h ≤ serve_work l.initial.h)

abbrev pub decreases-loop-h-2 : goal.decreases-loop-h-2
decreases-loop-h-2 l = serve_work l.h

abbrev pub invariant-loop-h-3 : goal.invariant-loop-h-3
invariant-loop-h-3 l =
    Hands l.l l.cut.at l.b.places l.h
    × (length l.out ≡ length l.fn.out)
    × LeftFills l.fn.out l.fn.at (fills_at l.b.places l.l) l.out l.h.at (to_serve l.l l.cut.at l.b.places l.h)
    × (serve_work l.h ≤ serve_work l.initial.h)
    × (0 < l.h.run → l.h.unseen ≡ 0)
    × (0 < l.h.unseen → serve_work l.h < serve_work l.initial.h)

abbrev pub decreases-loop-h-3 : goal.decreases-loop-h-3
decreases-loop-h-3 l = serve_work l.h

abbrev pub invariant-loop-h : goal.invariant-loop-h
invariant-loop-h l =
    Hands l.l l.cut.at l.b.places l.h
    × (length l.out ≡ length l.initial.out)
    × LeftFills l.initial.out l.at (fills_at l.b.places l.l) l.out l.h.at (to_serve l.l l.cut.at l.b.places l.h)

abbrev pub decreases-loop-h : goal.decreases-loop-h
decreases-loop-h l = serve_work l.h
