use Rattle.std.proofs.Common.{Bool, arith, ap, ◌≡◌, ◌∙◌, ◌+◌, ◌*◌, ◌≤◌, ◌<◌, ◌++◌, ◌&&◌, ℕ, true, false, length, get_or, refl}
use borrow.Author.Tests.{eqb-true, eq-eqb}
use lib.Dec.{eqb}
use lib.ListN.{length-append}
use Rattle.base.proofs.Bools.{and_left, and_right}
use Rattle.board.specs.rules.Board.{no_response}
use Rattle.share.proofs.FillsLaws.{left-start, left-turn, left-done}
use Rattle.trade.specs.inside.Code.{next_fills, next_of, served_fills, served_of}
use Rattle.trade.proofs.ServeLaws.{Hands, to_serve, to-serve-done, hands_start, hands-met, hands-served, hands_next}
use Rattle.trade.proofs.RunLaws.{serve_work, served-looks, work-met, work-served, work-next}
use Rattle.trade.proofs.write.write_price.Goals as goal
use Rattle.trade.proofs.write.write_price.Goals.{After-met-h, After-filled-h, After-first_set-i-in-loop-h-3, At-loop-h-3, Else-h}

pub loop-h-init : goal.loop-h-init
loop-h-init c =
    let a = c.args in
    let p = c.requires.price in
    let k = hands_start a.l a.cut.at a.b.now.places p.size (omega arith) p.customers-rank p.left-low a.at in
    rw c.hand_of-h.ensures.0 (k.0, refl, rw (k.2, ← k.1) (left-start _ _ _))

-- ---- one more place is looked at

met-less : (c : goal.After-met-h) → serve_work c.met-h.result < serve_work c.loop-h-2.h
met-less c =
    rw c.met-h.ensures (work-met c.args.b.now.places c.loop-h-2.h c.first_set-i.result c.from.result c.loop-h-2.invariant.0.serves (omega (arith, c.loop-h-2-test.true)) c.first_set-i.ensures c.from.ensures (omega arith))

pub loop-h-2-smaller : goal.loop-h-2-smaller
loop-h-2-smaller c = met-less (goal.at.loop-h-2-smaller c).After-met-h

pub loop-h-2-preserved : goal.loop-h-2-preserved
loop-h-2-preserved c =
    let l = met-less (goal.at.loop-h-2-preserved c).After-met-h in
    let m = hands-met c.args.l c.args.cut.at c.args.b.now.places c.loop-h-2.h c.requires.price.size c.loop-h-2.invariant.0 c.first_set-i.result c.from.result (omega (arith, c.loop-h-2-test.true)) c.first_set-i.ensures c.from.ensures (omega arith) in
    (rw c.met-h.ensures m.0, rw (c.met-h.ensures, m.1, m.2) c.loop-h-2.invariant.1, omega (arith, l, c.loop-h-2.invariant.2))

-- ---- the next in sequence

-- what is still to be written fits

room : (c : goal.At-loop-h-3) → c.loop-h-3.h.at + 3 * length (to_serve c.args.l c.args.cut.at c.args.b.now.places c.loop-h-3.h) ≤ length c.loop-h-3.out
room c = omega (arith, c.loop-h-3.invariant.2.place, c.loop-h-3.invariant.1, c.requires.room)

first : (c : goal.After-first_set-i-in-loop-h-3) → (at : ℕ)
    → Hands c.args.l c.args.cut.at c.args.b.now.places (served_of c.loop-h-3.h c.args.l c.args.cut.at (get_or c.args.b.now.places c.first_set-i-in-loop-h-3.result no_response) at)
    × (to_serve c.args.l c.args.cut.at c.args.b.now.places c.loop-h-3.h ≡ served_fills c.loop-h-3.h c.args.l c.args.cut.at (get_or c.args.b.now.places c.first_set-i-in-loop-h-3.result no_response) ++ to_serve c.args.l c.args.cut.at c.args.b.now.places (served_of c.loop-h-3.h c.args.l c.args.cut.at (get_or c.args.b.now.places c.first_set-i-in-loop-h-3.result no_response) at))
first c =
    λ at. let some : 0 < c.loop-h-3.h.run = omega (arith, c.loop-h-3-test.true) in
    hands-served c.args.l c.args.cut.at c.args.b.now.places c.loop-h-3.h c.requires.price.size c.loop-h-3.invariant.0 c.first_set-i-in-loop-h-3.result (c.loop-h-3.invariant.4 some) some c.first_set-i-in-loop-h-3.ensures at

pub filled-h-requires-clause-r_in_bounds : goal.filled-h-requires-clause-r_in_bounds
filled-h-requires-clause-r_in_bounds c =
    let s = (goal.at.filled-h-requires-clause-r_in_bounds c).After-first_set-i-in-loop-h-3 in
    omega (arith, room (goal.at.filled-h-requires-clause-r_in_bounds c).At-loop-h-3, ap length (first s 0).1 ∙ length-append (served_fills c.loop-h-3.h c.args.l c.args.cut.at (get_or c.args.b.now.places c.first_set-i-in-loop-h-3.result no_response)) _)

filled-less : (c : goal.After-filled-h) → serve_work c.filled-h.result < serve_work c.loop-h-3.h
filled-less c =
    let some : 0 < c.loop-h-3.h.run = omega (arith, c.loop-h-3-test.true) in
    rw c.filled-h.ensures.value (work-served c.args.b.now.places c.loop-h-3.h c.requires.price.size c.loop-h-3.invariant.0.serves (c.loop-h-3.invariant.4 some) c.first_set-i-in-loop-h-3.result c.args.l c.args.cut.at _ _ some c.first_set-i-in-loop-h-3.ensures refl)

pub loop-h-3-smaller : goal.loop-h-3-smaller
loop-h-3-smaller c = filled-less (goal.at.loop-h-3-smaller c).After-filled-h

pub loop-h-3-preserved : goal.loop-h-3-preserved
loop-h-3-preserved c =
    let l = filled-less (goal.at.loop-h-3-preserved c).After-filled-h in
    let n = first (goal.at.loop-h-3-preserved c).After-first_set-i-in-loop-h-3 c.filled-h.result.at in
    let h : Hands c.args.l c.args.cut.at c.args.b.now.places c.filled-h.result = rw c.filled-h.ensures.value n.0 in
    let t : to_serve c.args.l c.args.cut.at c.args.b.now.places c.loop-h-3.h ≡ served_fills c.loop-h-3.h c.args.l c.args.cut.at (get_or c.args.b.now.places c.first_set-i-in-loop-h-3.result no_response) ++ to_serve c.args.l c.args.cut.at c.args.b.now.places c.filled-h.result = rw c.filled-h.ensures.value n.1 in (
      h,
      omega (arith, c.filled-h.auto.out, c.loop-h-3.invariant.1),
      left-turn (rw t at c.loop-h-3.invariant.2) c.filled-h.ensures.wrote_fills,
      omega (arith, l, c.loop-h-3.invariant.3),
      rw c.filled-h.ensures.value (served-looks c.loop-h-3.h c.args.l c.args.cut.at _ c.filled-h.result.at),
      λ _. omega (arith, l, c.loop-h-3.invariant.3),
    )

-- ---- the run is served

pub returns-then-h : goal.returns-then-h
returns-then-h c =
    let h = c.loop-h-3.h in
    let z : h.late ≡ 0 = eqb-true h.late 0 (and_right h.last (eqb h.late 0) c.if-h.true) in
    left-done (rw (to-serve-done c.args.l c.args.cut.at c.args.b.now.places h (and_left h.last (eqb h.late 0) c.if-h.true) (omega (arith, c.loop-h-3-test.false, c.if-h-ne0.false))) at c.loop-h-3.invariant.2)

-- others are to come

others-come : (c : goal.Else-h) → c.loop-h-3.h.late ≡ 0 → c.loop-h-3.h.last ≡ false
others-come c = λ z. let h = c.loop-h-3.h in go h.last (rw (eq-eqb h.late 0 z) at c.if-h.false)
  where
    go : (b : Bool) → (b && true) ≡ false → b ≡ false
    go true e = e
    go false e = refl

nexts : (c : goal.Else-h) → (at : ℕ)
    → Hands c.args.l c.args.cut.at c.args.b.now.places (next_of c.loop-h-3.h c.args.l c.args.cut.spare at)
    × (to_serve c.args.l c.args.cut.at c.args.b.now.places c.loop-h-3.h ≡ next_fills c.loop-h-3.h c.args.l ++ to_serve c.args.l c.args.cut.at c.args.b.now.places (next_of c.loop-h-3.h c.args.l c.args.cut.spare at))
nexts c = λ at. hands_next c.args.l c.args.cut.at c.args.b.now.places c.loop-h-3.h c.requires.price.size c.loop-h-3.invariant.0 (omega (arith, c.if-h-ne0.false)) (omega (arith, c.loop-h-3-test.false)) (others-come c) (omega arith) c.args.cut.spare c.requires.price at

pub next-h-requires : goal.next-h-requires
next-h-requires c =
    let s = (goal.at.next-h-requires c).Else-h in
    (c.requires.price.contra-low, omega (arith, room (goal.at.next-h-requires c).At-loop-h-3, ap length (nexts s 0).1 ∙ length-append (next_fills c.loop-h-3.h c.args.l) _))

pub loop-h-smaller : goal.loop-h-smaller
loop-h-smaller c =
    let n : serve_work c.next-h.result < serve_work c.loop-h-3.h =
    rw c.next-h.ensures.value (work-next c.args.b.now.places c.loop-h-3.h c.requires.price.size c.loop-h-3.invariant.0.serves (omega (arith, c.if-h-ne0.false)) c.args.l c.args.cut.spare _ (omega (arith, c.loop-h-3-test.false)) (others-come (goal.at.loop-h-smaller c).Else-h) (omega arith)) in
    omega (arith, n, c.loop-h-3.invariant.3, c.loop-h-2.invariant.2)

pub loop-h-preserved : goal.loop-h-preserved
loop-h-preserved c =
    let n = nexts (goal.at.loop-h-preserved c).Else-h c.next-h.result.at in
    let h : Hands c.args.l c.args.cut.at c.args.b.now.places c.next-h.result = rw c.next-h.ensures.value n.0 in
    let t : to_serve c.args.l c.args.cut.at c.args.b.now.places c.loop-h-3.h ≡ next_fills c.loop-h-3.h c.args.l ++ to_serve c.args.l c.args.cut.at c.args.b.now.places c.next-h.result = rw c.next-h.ensures.value n.1 in
    (h, omega (arith, c.next-h.auto.out, c.loop-h-3.invariant.1), left-turn (rw t at c.loop-h-3.invariant.2) c.next-h.ensures.wrote_fills)
