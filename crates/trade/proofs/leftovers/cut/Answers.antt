use Rattle.std.proofs.Common.{arith, ◌^◌, ◌<◌}
use Rattle.trade.specs.inside.Code.{Short}
use Rattle.trade.proofs.NarrowLaws.{Halves, leftover, sum_low, counts, search-start, search-end, search-halves, search-low, search-next}
use Rattle.trade.proofs.leftovers.cut.Goals as goal
use Rattle.trade.proofs.leftovers.cut.Goals.{After-fractions-sum, After-upper-u, Else-u-a}

short : (c : goal.After-fractions-sum) → Short c.args.b.now.places c.args.l.others c.args.l.shared c.args.l.total
short c = c.requires.1 c.if-l.false

fits : (c : goal.After-fractions-sum) → c.args.l.others < 2 ^ 64
fits c = omega arith

pub counted-a-requires : goal.counted-a-requires
counted-a-requires c =
    let a = c.args in
    let s = (goal.at.counted-a-requires c).After-fractions-sum in
    counts a.l.shared a.l.total a.b.now.places c.requires.0 a.l.others (short s) (fits s) c.fractions-sum.result c.fractions-sum.ensures

pub loop-a-init : goal.loop-a-init
loop-a-init c =
    let a = c.args in
    let s = (goal.at.loop-a-init c).After-fractions-sum in
    rw c.counted-a.ensures (search-start a.l.shared a.l.total a.b.now.places c.requires.0 a.l.others (short s) (fits s) c.fractions-sum.result c.fractions-sum.ensures)

pub upper-u-requires-clause-amount_bound : goal.upper-u-requires-clause-amount_bound
upper-u-requires-clause-amount_bound c =
    let a = c.args in
    let s = (goal.at.upper-u-requires-clause-amount_bound c).After-fractions-sum in
    let v = short s in
    (v.low, v.short, omega (arith, sum_low a.l.shared a.l.total a.b.now.places c.requires.0 a.l.others v (fits s) c.loop-a.a.word))

pub returns-then-u-a : goal.returns-then-u-a
returns-then-u-a c =
    let a = c.args in
    let s = (goal.at.returns-then-u-a c).After-fractions-sum in
    λ _. search-end a.l.shared a.l.total a.b.now.places c.requires.0 a.l.others (short s) (fits s) c.loop-a.a c.upper-u.result c.loop-a.invariant c.upper-u.ensures c.if-u-a.true

half : (c : goal.Else-u-a) → Halves c.args.l.shared c.args.l.total c.args.b.now.places c.args.l.others (leftover c.args.l.shared c.args.l.total c.args.b.now.places c.args.l.others) c.loop-a.a c.upper-u.result
half c =
    let a = c.args in
    search-halves a.l.shared a.l.total a.b.now.places c.requires.0 a.l.others (c.requires.1 c.if-l.false) (omega arith) c.loop-a.a c.upper-u.result c.loop-a.invariant c.upper-u.ensures c.if-u-a.false

pub narrowed-a-requires-clause-sum_bound : goal.narrowed-a-requires-clause-sum_bound
narrowed-a-requires-clause-sum_bound c =
    let a = c.args in
    let s = (goal.at.narrowed-a-requires-clause-sum_bound c).After-fractions-sum in
    let h = half (goal.at.narrowed-a-requires-clause-sum_bound c).Else-u-a in
    (search-low a.l.shared a.l.total a.b.now.places c.requires.0 a.l.others (short s) (fits s) c.loop-a.a c.upper-u.result c.loop-a.invariant c.upper-u.ensures c.if-u-a.false, h.upper-low, h.upper_in)

pub narrowed-a-requires-clause-word_nonzero : goal.narrowed-a-requires-clause-word_nonzero
narrowed-a-requires-clause-word_nonzero c = let h = half (goal.at.narrowed-a-requires-clause-word_nonzero c).Else-u-a in (h.upper-some, h.others-some)

pub loop-a-smaller : goal.loop-a-smaller
loop-a-smaller c = rw c.narrowed-a.ensures (half (goal.at.loop-a-smaller c).Else-u-a).less

pub loop-a-preserved : goal.loop-a-preserved
loop-a-preserved c =
    let a = c.args in
    let s = (goal.at.loop-a-preserved c).After-fractions-sum in
    rw c.narrowed-a.ensures (search-next a.l.shared a.l.total a.b.now.places c.requires.0 a.l.others (short s) (fits s) c.loop-a.a c.upper-u.result c.loop-a.invariant c.upper-u.ensures c.if-u-a.false)
