use Rattle.std.proofs.Common.{arith, ap, ℕ}
use Rattle.base.specs.Lists.{sum}
use Rattle.trade.specs.inside.Code.{fractions_in}
use Rattle.trade.proofs.CodeLaws.{taken, fractions-turn, fractions-none}
use Rattle.trade.proofs.NarrowLaws.{sum_low}
use Rattle.trade.proofs.scan.fractions.Goals as goal

pub overflow_add-sum : goal.overflow_add-sum
overflow_add-sum c =
    let a = c.args in
    let v = c.requires.1 in
    omega (arith, c.loop-i.invariant.1, sum_low a.amount a.total a.b.now.places c.requires.0 a.word v (omega arith) a.word, c.fraction_of-sum.ensures.1, v.small)

pub loop-i-preserved : goal.loop-i-preserved
unfolding sum
loop-i-preserved c =
    let a = c.args in
    let l = c.loop-i in
    let t = taken a.b.now.places l.i-iterator.left c.in-Some.i c.next.new.self.left c.requires.0 l.invariant.0 c.in-Some.ensures.steps in
    (t.2, rw t.1 (omega (arith, l.invariant.1, c.fraction_of-sum.ensures.0, ap sum (fractions-turn a.amount a.total a.b.now.places l.i-iterator.left c.in-Some.i t.0))))

pub returns : goal.returns
unfolding sum
returns c =
    let a = c.args in
    omega (arith, c.loop-i.invariant.1, ap (λ (w : ℕ). sum (fractions_in a.amount a.total a.b.now.places w)) c.in-None.ensures.steps.0, ap sum (fractions-none a.amount a.total a.b.now.places))
