use Rattle.std.proofs.Common.{arith}
use Rattle.trade.proofs.NarrowLaws.{looked-start, looked-low, looked-upper, looked-lower, looked-all}
use Rattle.trade.proofs.leftovers.upper.Goals as goal

pub loop-i-init : goal.loop-i-init
loop-i-init c =
    let a = c.args in
    rw (c.into_iter-i-iterator.ensures.into_iter_gives, c.of-i-items.ensures) (looked-start a.amount a.total a.b.now.places c.requires.board_size a.a (omega arith))

pub overflow_add-u : goal.overflow_add-u
overflow_add-u c =
    let a = c.args in
    let l = c.loop-i in
    omega (arith, c.requires.amount_bound.2, looked-low a.amount a.total a.b.now.places c.requires.board_size a.a l.u l.i-iterator.left c.in-Some.i c.next.new.self.left _ c.in-Some.ensures.steps c.fraction_of-fraction.ensures.0 l.invariant c.if-a-fraction.true)

pub loop-i-preserved-then-a-fraction : goal.loop-i-preserved-then-a-fraction
loop-i-preserved-then-a-fraction c =
    let a = c.args in
    let l = c.loop-i in
    rw c.with_bit.ensures (looked-upper a.amount a.total a.b.now.places c.requires.board_size a.a l.u l.i-iterator.left c.in-Some.i c.next.new.self.left _ c.in-Some.ensures.steps c.fraction_of-fraction.ensures.0 l.invariant c.if-a-fraction.true)

pub loop-i-preserved : goal.loop-i-preserved
loop-i-preserved c =
    let a = c.args in
    let l = c.loop-i in
    looked-lower a.amount a.total a.b.now.places c.requires.board_size a.a l.u l.i-iterator.left c.in-Some.i c.next.new.self.left _ c.in-Some.ensures.steps c.fraction_of-fraction.ensures.0 l.invariant c.if-a-fraction.false

pub returns : goal.returns
returns c =
    let a = c.args in
    looked-all a.amount a.total a.b.now.places c.requires.board_size a.a c.loop-i.u (rw c.in-None.ensures.steps.0 at c.loop-i.invariant)
