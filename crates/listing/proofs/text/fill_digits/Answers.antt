use Prim.Native.Nat.{◌-◌, ◌≤◌}
use native.Mathlib.Omega.{arith}
use borrow.Author.Rules.{rules}
use lib.ListN.{length-set}
use Rattle.listing.proofs.DecimalLaws.{digits-some, left-all, left-pair, left-some, left-last, left-two}
use Rattle.listing.proofs.text.fill_digits.Goals as goal
use Rattle.listing.proofs.text.fill_digits.Goals.{In-loop-rest}

pub loop-rest-init : goal.loop-rest-init
loop-rest-init c = left-all c.args.n c.args.out.now (search rules) c.requires

-- ---- two digits more

two : (c : goal.In-loop-rest) → 2 ≤ c.loop-rest.at
two c = left-some (omega (arith, c.loop-rest-test.true)) c.loop-rest.invariant

pub overflow_sub-last : goal.overflow_sub-last
overflow_sub-last c = omega (arith, two c)

pub bounds-out-last : goal.bounds-out-last
bounds-out-last c = omega (arith, two c.before, c.loop-rest.invariant.within)

pub overflow_sub-at : goal.overflow_sub-at
overflow_sub-at c = omega (arith, two c.before)

pub bounds-out-at : goal.bounds-out-at
bounds-out-at c =
    let l = c.loop-rest in
    omega (arith, two c.before.before, l.invariant.within, length-set l.out (l.at - 1) c.last_digit.result)

pub loop-rest-preserved : goal.loop-rest-preserved
loop-rest-preserved c = rw (c.last_digit.ensures, c.last_digit-in-loop-rest.ensures) (left-pair c.loop-rest-test.true c.loop-rest.invariant)

pub bounds-out-1 : goal.bounds-out-1
bounds-out-1 c = let l = c.loop-rest in omega (arith, left-some c.if-rest-ge10.true l.invariant, l.invariant.within)

pub bounds-out-0 : goal.bounds-out-0
bounds-out-0 c =
    let l = c.loop-rest in
    omega (arith, left-some c.if-rest-ge10.true l.invariant, l.invariant.within, length-set l.out 1 c.last_digit-then-rest-ge10.result)

pub returns-then-rest-ge10 : goal.returns-then-rest-ge10
returns-then-rest-ge10 c = rw (c.last_digit-then-rest-ge10.ensures, c.last_digit-then-rest-ge10-2.ensures) (left-two (search rules) (search rules) c.loop-rest.invariant)

pub bounds-out-0-2 : goal.bounds-out-0-2
bounds-out-0-2 c = let l = c.loop-rest in omega (arith, digits-some l.rest, l.invariant.place, l.invariant.within)

pub returns : goal.returns
returns c = rw c.last_digit-2.ensures (left-last (search rules) c.loop-rest.invariant)
