use mathlib.Core.Path.{◌≡◌, refl, sym, ap, ap₂, subst, ◌∙◌}
use mathlib.Core.Bool.{◌&&◌}
use mathlib.Core.Logic.{inl, inr, ⊎_elim}
use Prim.Native.Nat.{ℕ, ◌+◌, ◌^◌, ◌<◌}
use native.Mathlib.Omega.{arith}
use Rattle.run.specs.rules.Run.{run, heard, closed}
use Rattle.events.specs.rules.Step.{sight_of, board_after, turn_of}
use Rattle.events.proofs.SightLaws.{sight-found}
use Rattle.board.specs.rules.Board.{found_at}
use Rattle.words.specs.rules.Bits.{with_bit, without_bit}
use Rattle.words.proofs.BitLaws.{without-le, without-lt, without-lowest, LowestBit, lowest_set}
use Rattle.board.specs.promises.Board.{Good}
use Rattle.board.proofs.BoardLaws.{empty-good}
use Rattle.decision.specs.declared.Sight.{Sight}
use Rattle.tape.specs.declared.event.Event.{Event}
use mathlib.Core.List.{List, []}
use Rattle.listing.specs.rules.Listing.{event_lines}
use Rattle.listing.specs.inside.Writes.{Fits}
use Rattle.listing.proofs.WriterLaws.{writes-same, fits-first, left-start, left-turn, left-end}
use Rattle.listing.proofs.LookLaws.{Seeks, Sought, looked, is_at, sought-le, sought-live, some-past, gap-less, look-start, look-places, look-gap, look-four, look_hit, look-slow, look-over, look-end, look-found, look-next, look-for}
use Rattle.listing.proofs.RunLaws.{whole, closed-whole, seat-set, seat-past, seat-free, seat-none, good-after, rest, rest-none, events-turn, run-turn, begin-lines, begin-run}
use Rattle.listing.proofs.put_events.Goals as goal
use Rattle.listing.proofs.put_events.Goals.{in-Seat+then-i-lt64, in-Seat+else-i-lt64, in-Free, in-Nothing, in-Quote, in-Sell, After-first_set-j, After-sight_of-v, After-which, After-without_lowest-slow, In-loop-rest}

pub loop-k-init : goal.loop-k-init
loop-k-init c =
    record {
      lines = left-start (subst (λ (t : List ℕ). Fits c.args.w.now t) (begin-lines c.args.tape.now c.args.t c.args.a c.args.b.now c.requires.board_value) c.requires.room);
      auction = refl;
      good = rw c.requires.board_value.1 empty-good;
    }

-- ---- the search for the response that the event names, four places at a time
pub loop-rest-init : goal.loop-rest-init
loop-rest-init c =
    inl (look-start _ _ _ _ refl)

-- what is known while it goes on

good : (c : goal.In-loop-rest) → Good c.loop-k.b
good c = c.loop-k.invariant.good

seeks : (c : goal.In-loop-rest) → Seeks c.loop-k.b c.record_in-e.result.f12 c.sought-rest.result c.loop-rest.named c.loop-rest.rest c.loop-rest.i c.loop-rest.slow
seeks c = ⊎_elim (λ x. x) (λ x. absurd (c.loop-rest-test.true x.over)) c.loop-rest.invariant

fits : (c : goal.In-loop-rest) → c.sought-rest.result < 2 ^ 64
fits c = omega (arith, c.sought-rest.ensures, sought-le c.names.result c.loop-k.b.live, (good c).live-fits)

inside : (c : goal.In-loop-rest) → c.loop-rest.i + 3 < 64
inside c = look-places _ _ _ _ _ _ _ (seeks c) (fits c) (omega (arith, c.loop-rest-test.true))

-- where it goes on, the event names a response
live : (c : goal.In-loop-rest) → c.sought-rest.result ≡ c.loop-k.b.live
live c = sought-live c.names.result _ _ c.sought-rest.ensures (some-past _ _ _ (seeks c).rest-is (omega (arith, c.loop-rest-test.true)))

pub gap_of-gap-requires : goal.gap_of-gap-requires
gap_of-gap-requires c = (omega (arith, c.loop-rest-test.true), c.if-rest-eq0.true)

pub overflow_shr-rest : goal.overflow_shr-rest
overflow_shr-rest c = omega (arith, c.gap_of-gap.ensures.1)

pub overflow_add-i : goal.overflow_add-i
overflow_add-i c = omega (arith, inside (goal.at.overflow_add-i c).In-loop-rest, c.gap_of-gap.ensures.1)

pub loop-rest-smaller-then-rest-eq0 : goal.loop-rest-smaller-then-rest-eq0
loop-rest-smaller-then-rest-eq0 c = gap-less _ _ (omega (arith, c.loop-rest-test.true)) c.gap_of-gap.ensures.0

pub loop-rest-preserved-then-rest-eq0 : goal.loop-rest-preserved-then-rest-eq0
loop-rest-preserved-then-rest-eq0 c = inl (look-gap _ _ _ _ _ _ _ _ (seeks (goal.at.loop-rest-preserved-then-rest-eq0 c).In-loop-rest) c.gap_of-gap.ensures.2 c.gap_of-gap.ensures.3)

pub overflow_add-second : goal.overflow_add-second
overflow_add-second c = omega (arith, inside (goal.at.overflow_add-second c).In-loop-rest)

pub overflow_add-third : goal.overflow_add-third
overflow_add-third c = omega (arith, inside (goal.at.overflow_add-third c).In-loop-rest)

pub overflow_add-fourth : goal.overflow_add-fourth
overflow_add-fourth c = omega (arith, inside (goal.at.overflow_add-fourth c).In-loop-rest)

pub offset_bounds-b-i : goal.offset_bounds-b-i
offset_bounds-b-i c = omega (arith, inside (goal.at.offset_bounds-b-i c).In-loop-rest)

pub bounds-b-i : goal.bounds-b-i
bounds-b-i c = omega (arith, inside (goal.at.bounds-b-i c).In-loop-rest)

pub offset_bounds-b-second : goal.offset_bounds-b-second
offset_bounds-b-second c = omega (arith, inside (goal.at.offset_bounds-b-second c).In-loop-rest)

pub bounds-b-second : goal.bounds-b-second
bounds-b-second c = omega (arith, inside (goal.at.bounds-b-second c).In-loop-rest)

pub offset_bounds-b-third : goal.offset_bounds-b-third
offset_bounds-b-third c = omega (arith, inside (goal.at.offset_bounds-b-third c).In-loop-rest)

pub bounds-b-third : goal.bounds-b-third
bounds-b-third c = omega (arith, inside (goal.at.bounds-b-third c).In-loop-rest)

pub offset_bounds-b-fourth : goal.offset_bounds-b-fourth
offset_bounds-b-fourth c = omega (arith, inside (goal.at.offset_bounds-b-fourth c).In-loop-rest)

pub bounds-b-fourth : goal.bounds-b-fourth
bounds-b-fourth c = omega (arith, inside (goal.at.bounds-b-fourth c).In-loop-rest)

pub overflow_add-i-then-b-i : goal.overflow_add-i-then-b-i
overflow_add-i-then-b-i c = omega (arith, inside (goal.at.overflow_add-i-then-b-i c).In-loop-rest)

pub loop-rest-smaller-then-b-i : goal.loop-rest-smaller-then-b-i
loop-rest-smaller-then-b-i c = omega (arith, c.loop-rest-test.true)

pub loop-rest-preserved-then-b-i : goal.loop-rest-preserved-then-b-i
loop-rest-preserved-then-b-i c = inl (look-four _ _ _ _ _ _ _ (seeks (goal.at.loop-rest-preserved-then-b-i c).In-loop-rest) c.if-b-i.true)

pub offset_bounds-b-i-in-loop-rest : goal.offset_bounds-b-i-in-loop-rest
offset_bounds-b-i-in-loop-rest c = omega (arith, inside (goal.at.offset_bounds-b-i-in-loop-rest c).In-loop-rest)

pub bounds-b-i-in-loop-rest : goal.bounds-b-i-in-loop-rest
bounds-b-i-in-loop-rest c = omega (arith, inside (goal.at.bounds-b-i-in-loop-rest c).In-loop-rest)

pub offset_bounds-b-second-in-loop-rest : goal.offset_bounds-b-second-in-loop-rest
offset_bounds-b-second-in-loop-rest c = omega (arith, inside (goal.at.offset_bounds-b-second-in-loop-rest c).In-loop-rest)

pub bounds-b-second-in-loop-rest : goal.bounds-b-second-in-loop-rest
bounds-b-second-in-loop-rest c = omega (arith, inside (goal.at.bounds-b-second-in-loop-rest c).In-loop-rest)

pub offset_bounds-b-third-in-loop-rest : goal.offset_bounds-b-third-in-loop-rest
offset_bounds-b-third-in-loop-rest c = omega (arith, inside (goal.at.offset_bounds-b-third-in-loop-rest c).In-loop-rest)

pub bounds-b-third-in-loop-rest : goal.bounds-b-third-in-loop-rest
bounds-b-third-in-loop-rest c = omega (arith, inside (goal.at.bounds-b-third-in-loop-rest c).In-loop-rest)

-- the one of the four that has the sequence, or the last of them
which : (c : goal.After-which) → c.loop-rest.i + 3 < 64 → c.loop-rest.i + c.which.result < 64
which c h = omega (arith, h, c.which.ensures.1)

pub overflow_add-j : goal.overflow_add-j
overflow_add-j c = omega (arith, which (goal.at.overflow_add-j c).After-which (inside (goal.at.overflow_add-j c).In-loop-rest))

pub offset_bounds-b-j : goal.offset_bounds-b-j
offset_bounds-b-j c = omega (arith, which (goal.at.offset_bounds-b-j c).After-which (inside (goal.at.offset_bounds-b-j c).In-loop-rest))

pub bounds-b-j : goal.bounds-b-j
bounds-b-j c = which (goal.at.bounds-b-j c).After-which (inside (goal.at.bounds-b-j c).In-loop-rest)

pub loop-rest-smaller-then-test-is_named : goal.loop-rest-smaller-then-test-is_named
loop-rest-smaller-then-test-is_named c = omega (arith, c.loop-rest-test.true)

pub loop-rest-preserved-then-test-is_named : goal.loop-rest-preserved-then-test-is_named
loop-rest-preserved-then-test-is_named c =
    let o = c.loop-k in
    let s = c.record_in-e.result.f12 in
    let j = c.loop-rest.i + c.which.result in
    inr (look_hit o.b (good (goal.at.loop-rest-preserved-then-test-is_named c).In-loop-rest) s _ _ _ _ _ (seeks (goal.at.loop-rest-preserved-then-test-is_named c).In-loop-rest) _ c.which.ensures.0 (which (goal.at.loop-rest-preserved-then-test-is_named c).After-which (inside (goal.at.loop-rest-preserved-then-test-is_named c).In-loop-rest))
    (ap (λ (v : ℕ). is_at o.b s v j) (live (goal.at.loop-rest-preserved-then-test-is_named c).In-loop-rest) ∙ sym (ap₂ ◌&&◌ c.test.ensures c.is_named.ensures) ∙ c.if-test-is_named.true))

pub loop-rest-smaller : goal.loop-rest-smaller
loop-rest-smaller c = omega (arith, c.loop-rest-test.true)

pub loop-rest-preserved : goal.loop-rest-preserved
loop-rest-preserved c =
    let o = c.loop-k in
    let s = c.record_in-e.result.f12 in
    inr (subst (λ (v : ℕ). Sought o.b s c.sought-rest.result c.loop-rest.named 0 v) (live (goal.at.loop-rest-preserved c).In-loop-rest) (look-slow o.b (good (goal.at.loop-rest-preserved c).In-loop-rest) s _ _ _ _ _ (seeks (goal.at.loop-rest-preserved c).In-loop-rest) (fits (goal.at.loop-rest-preserved c).In-loop-rest)))

-- ---- and one place at a time
pub loop-slow-init : goal.loop-slow-init
loop-slow-init c =
    let o = c.loop-k in
    let e = c.record_in-e.result in
    let x = look-over o.b o.invariant.good e.f12 _ _ _ _ _ c.loop-rest.invariant c.loop-rest-test.false in (
      x.0,
      x.1 ∙ ap (found_at o.b) (look-for o.b o.invariant.good e _ _ c.names.ensures c.sought-rest.ensures),
    )

low : (c : goal.After-first_set-j) → LowestBit c.loop-slow.slow c.first_set-j.result
low c = lowest_set _ _ (omega (arith, c.loop-slow-test.true)) c.loop-slow.invariant.0 c.first_set-j.ensures

pub overflow_cast-j : goal.overflow_cast-j
overflow_cast-j c = omega (arith, (low (goal.at.overflow_cast-j c).After-first_set-j).place)

pub offset_bounds-b-j-in-loop-slow : goal.offset_bounds-b-j-in-loop-slow
offset_bounds-b-j-in-loop-slow c = omega (arith, (low (goal.at.offset_bounds-b-j-in-loop-slow c).After-first_set-j).place)

pub bounds-b-j-in-loop-slow : goal.bounds-b-j-in-loop-slow
bounds-b-j-in-loop-slow c = (low (goal.at.bounds-b-j-in-loop-slow c).After-first_set-j).place

pub loop-slow-smaller-then-is_named : goal.loop-slow-smaller-then-is_named
loop-slow-smaller-then-is_named c = omega (arith, c.loop-slow-test.true)

pub loop-slow-preserved-then-is_named : goal.loop-slow-preserved-then-is_named
loop-slow-preserved-then-is_named c =
    let o = c.loop-k in (
      omega arith,
      look-found o.b o.invariant.good c.record_in-e.result.f12 c.loop-slow.named c.loop-slow.slow c.first_set-j.result (low (goal.at.loop-slow-preserved-then-is_named c).After-first_set-j) (sym c.is_named-in-loop-slow.ensures ∙ c.if-is_named.true) ∙ c.loop-slow.invariant.1,
    )

-- the places still to come after that turn
left : (c : goal.After-without_lowest-slow) → c.without_lowest-slow.result ≡ without_bit c.loop-slow.slow c.first_set-j.result
left c = c.without_lowest-slow.ensures ∙ without-lowest _ _ c.first_set-j.ensures

pub loop-slow-smaller : goal.loop-slow-smaller
loop-slow-smaller c =
    omega (arith, left (goal.at.loop-slow-smaller c).After-without_lowest-slow, without-lt c.loop-slow.slow c.first_set-j.result (low (goal.at.loop-slow-smaller c).After-first_set-j).set)

pub loop-slow-preserved : goal.loop-slow-preserved
loop-slow-preserved c =
    let o = c.loop-k in
    let s = c.record_in-e.result.f12 in (
      omega (arith, left (goal.at.loop-slow-preserved c).After-without_lowest-slow, without-le c.loop-slow.slow c.first_set-j.result, c.loop-slow.invariant.0),
      ap (looked o.b s c.loop-slow.named) (left (goal.at.loop-slow-preserved c).After-without_lowest-slow)
          ∙ look-next o.b s c.loop-slow.named c.loop-slow.slow c.first_set-j.result (sym c.is_named-in-loop-slow.ensures ∙ c.if-is_named.false)
          ∙ c.loop-slow.invariant.1,
    )

seen : (c : goal.After-sight_of-v) → c.sight_of-v.result ≡ sight_of c.loop-k.b c.record_in-e.result
seen c =
    let o = c.loop-k in
    let e = c.record_in-e.result in
    sight-found o.b e _ _ c.sight_of-v.ensures
    (sym (look-end o.b o.invariant.good e.f12 c.loop-slow.named)
    ∙ ap (looked o.b e.f12 c.loop-slow.named) (sym c.loop-slow-test.false)
    ∙ c.loop-slow.invariant.1)

-- ---- a turn: its line, and what it does to the board

pub event-requires : goal.event-requires
event-requires c =
    let a = c.args in
    let l = c.loop-k in
    let e = c.record_in-e in
    let u = c.turn-u in
    let eu = u.ensures ∙ ap (λ (x : Sight). turn_of l.h x e.result) (seen (goal.at.event-requires c).After-sight_of-v) in
    let turn = events-turn a.tape.now a.t l.k l.h l.b (board_after l.b u.result.change) e.result u.result e.ensures eu refl c.loop-k-test.true in
    fits-first l.w _ _ (subst (λ (t : List ℕ). Fits l.w t) turn l.invariant.lines.fits)

pub loop-k-preserved : goal.loop-k-preserved
loop-k-preserved c =
    let a = c.args in
    let l = c.loop-k in
    let k = c.loop-k-test.true in
    let e = c.record_in-e in
    let u = c.turn-u in
    let eu = u.ensures ∙ ap (λ (x : Sight). turn_of l.h x e.result) (seen (goal.at.loop-k-preserved c).After-sight_of-v) in
    let seated : c.match-c.b ≡ board_after l.b u.result.change =
    elim c.match-c.branch [
      | in-Seat+then-i-lt64 w ↦ seat-set l.b _ _ _ _ _ _ w.in-Seat.is w.if-i-lt64.true (w.with_bit-b.ensures ∙ ap (λ (n : ℕ). with_bit l.b.live n) (omega arith)) w.b-is
      | in-Seat+else-i-lt64 w ↦ seat-past l.b _ _ _ _ _ w.in-Seat.is w.if-i-lt64.false w.b-is
      | in-Free w ↦ seat-free l.b _ _ _ _ _ w.in-Free.is w.without_bit-b.ensures w.b-is
      | in-Nothing w ↦ seat-none l.b _ _ _ w.in-Nothing.is refl w.b-is
      | in-Quote w ↦ seat-none l.b _ _ _ w.in-Quote.is refl w.b-is
      | in-Sell w ↦ seat-none l.b _ _ _ w.in-Sell.is refl w.b-is
    ] in
    record {
      lines = left-turn _ l.invariant.lines c.event.ensures (events-turn a.tape.now a.t l.k l.h l.b _ e.result u.result e.ensures eu seated k);
      auction = run-turn a.tape.now a.t l.k l.h l.b _ e.result u.result e.ensures eu seated k ∙ l.invariant.auction;
      good = rw seated (good-after l.b u.result.change l.invariant.good);
    }

pub returns : goal.returns
returns c =
    let a = c.args in
    let l = c.loop-k in
    let s = a.tape.now in
    let none : rest s a.t l.k ≡ [] = rest-none s a.t l.k c.loop-k-test.false in
    record {
      lines =
          writes-same (left-end l.invariant.lines (ap (λ (es : List Event). event_lines (heard (whole l.h l.b) es)) none))
          (sym (begin-lines s a.t a.a a.b.now c.requires.board_value));
      auction_value = (
        closed-whole l.h l.b c.close_turn-last.result c.close_turn-last.ensures
            ∙ ap (λ (es : List Event). closed (run (whole l.h l.b) es)) (sym none)
            ∙ ap closed (l.invariant.auction ∙ begin-run s a.t a.a a.b.now c.requires.board_value),
        l.invariant.good.places-are,
      );
    }
