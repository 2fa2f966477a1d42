use Rattle.std.proofs.Common.{arith, ap, ℕ}
use Rattle.board.specs.rules.Board.{live_in}
use Rattle.trade.specs.inside.Code.{least_of}
use Rattle.trade.proofs.CodeLaws.{taken, least-le, least-turn, least-none}
use Rattle.trade.proofs.scan.lowest.Goals as goal

pub loop-i-init : goal.loop-i-init
loop-i-init c =
    let a = c.args in
    rw (c.into_iter-i-iterator.ensures.into_iter_gives, c.of-i-items.ensures) (omega arith, omega arith, omega (arith, least-le a.bound a.top (live_in a.word a.b.now.places)))

pub loop-i-preserved : goal.loop-i-preserved
loop-i-preserved c =
    let a = c.args in
    let l = c.loop-i in
    let t = taken a.b.now.places l.i-iterator.left c.in-Some.i c.next.new.self.left c.requires l.invariant.0 c.in-Some.ensures.steps in
    (t.2, omega (arith, c.min-lowest.ensures, l.invariant.1), omega (arith, l.invariant.2, c.min-lowest.ensures, c.working.ensures.0, ap (λ (w : ℕ). least_of a.bound a.top (live_in w a.b.now.places)) t.1, least-turn a.bound a.top l.lowest a.b.now.places l.i-iterator.left c.in-Some.i t.0))

pub returns : goal.returns
returns c =
    let a = c.args in
    omega (arith, c.loop-i.invariant, ap (λ (w : ℕ). least_of a.bound a.top (live_in w a.b.now.places)) c.in-None.ensures.steps.0, least-none a.bound a.top a.b.now.places)
