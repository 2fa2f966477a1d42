use Rattle.std.proofs.Common.{arith, true, false}
use borrow.Author.Tests.{lt-ltb, le-ltb}
use Rattle.board.proofs.LiveLaws.{sift-start, sift-end}
use Rattle.trade.specs.inside.Code.{below}
use Rattle.trade.proofs.CodeLaws.{sift-taken}
use Rattle.trade.proofs.scan.below.Goals as goal

pub loop-i-init : goal.loop-i-init
loop-i-init c = rw (c.into_iter-i-iterator.ensures.into_iter_gives, c.of-i-items.ensures) (omega arith, sift-start (below c.args.bound c.args.limit) c.args.b.now.places c.args.word)

pub loop-i-preserved-then-working-limit : goal.loop-i-preserved-then-working-limit
loop-i-preserved-then-working-limit c =
    let a = c.args in
    let l = c.loop-i in
    rw c.with_bit-near.ensures (sift-taken (below a.bound a.limit) a.b.now.places a.word l.near l.i-iterator.left c.in-Some.i c.next.new.self.left true c.requires l.invariant.0 c.in-Some.ensures.steps (lt-ltb _ a.limit (omega (arith, c.working.ensures.0, c.if-working-limit.true))) l.invariant.1)

pub loop-i-preserved : goal.loop-i-preserved
loop-i-preserved c =
    let a = c.args in
    let l = c.loop-i in
    sift-taken (below a.bound a.limit) a.b.now.places a.word l.near l.i-iterator.left c.in-Some.i c.next.new.self.left false c.requires l.invariant.0 c.in-Some.ensures.steps (le-ltb _ a.limit (omega (arith, c.working.ensures.0, c.if-working-limit.false))) l.invariant.1

pub returns : goal.returns
returns c = sift-end (below c.args.bound c.args.limit) c.args.b.now.places c.args.word c.loop-i.near (rw c.in-None.ensures.steps.0 at c.loop-i.invariant.1)
