use Rattle.std.proofs.Common.{arith}
use Rattle.trade.proofs.CodeLaws.{taken}
use Rattle.trade.proofs.FoundLaws.{sees-start, sees-skip, sees-same, sees-other, two-found}
use Rattle.trade.proofs.scan.look.Goals as goal

pub loop-i-init : goal.loop-i-init
loop-i-init c =
    let a = c.args in
    rw (c.into_iter-i-iterator.ensures.into_iter_gives, c.of-i-items.ensures, c.nothing-first.ensures) (omega arith, sees-start a.bound a.top a.b.now.places a.unseen c.requires.0)

pub loop-i-preserved-then-second-from : goal.loop-i-preserved-then-second-from
loop-i-preserved-then-second-from c =
    let a = c.args in
    let l = c.loop-i in
    let t = taken a.b.now.places l.i-iterator.left c.in-Some.i c.next.new.self.left c.requires.0 l.invariant.0 c.in-Some.ensures.steps in
    (t.2, rw t.1 (sees-skip a.bound a.top a.b.now.places a.unseen c.requires.0 l.i-iterator.left c.in-Some.i t.0 l.first l.second (omega (arith, c.if-second-from.true, c.from.ensures)) l.invariant.1))

pub loop-i-preserved-then-p-first : goal.loop-i-preserved-then-p-first
loop-i-preserved-then-p-first c =
    let a = c.args in
    let l = c.loop-i in
    let t = taken a.b.now.places l.i-iterator.left c.in-Some.i c.next.new.self.left c.requires.0 l.invariant.0 c.in-Some.ensures.steps in
    (t.2, rw t.1 (sees-same a.bound a.top a.b.now.places a.unseen c.requires.0 l.i-iterator.left c.in-Some.i t.0 l.first l.second _ c.working-p.result c.added-first.ensures.0 c.added-first.ensures.1 c.working-p.ensures.0 c.if-p-first.true l.invariant.1))

pub loop-i-preserved : goal.loop-i-preserved
loop-i-preserved c =
    let a = c.args in
    let l = c.loop-i in
    let t = taken a.b.now.places l.i-iterator.left c.in-Some.i c.next.new.self.left c.requires.0 l.invariant.0 c.in-Some.ensures.steps in
    (t.2, rw t.1 (sees-other a.bound a.top a.b.now.places a.unseen c.requires.0 l.i-iterator.left c.in-Some.i t.0 l.first l.second _ _ c.working-p.result c.found-first.ensures.0 c.found-first.ensures.1 c.later-second.ensures.0 c.later-second.ensures.1 c.working-p.ensures.0 c.if-p-first.false l.invariant.1))

pub returns : goal.returns
returns c =
    let a = c.args in
    two-found a.bound a.top a.b.now.places a.unseen c.loop-i.first c.loop-i.second c.requires.0 (omega arith) (rw c.in-None.ensures.steps.0 at c.loop-i.invariant.1)
