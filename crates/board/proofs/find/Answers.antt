use mathlib.Core.Path.{◌≡◌, sym, ap, ◌∙◌}
use native.Mathlib.Omega.{arith}
use borrow.Author.Rules.{rules}
use Prim.Native.Nat.{ℕ, ◌<◌}
use lib.ListN.{length}
use Rattle.words.proofs.BitLaws.{without-le, without-lowest, LowestBit, lowest_set}
use Rattle.board.specs.rules.Board.{no_response, find_in, is_named, found_at}
use Rattle.base.proofs.ListLaws.{length-mapped}
use Rattle.board.proofs.PlaceLaws.{found-some}
use Rattle.board.proofs.FindLaws.{find-low, find-rest, find_none}
use Rattle.board.proofs.find.Goals as goal
use Rattle.board.proofs.find.Goals.{In-Some}

-- the place that a turn looks at
low : (c : goal.In-Some) → LowestBit c.loop-place.place-iterator.left c.in-Some.place
low c = lowest_set _ _ c.in-Some.ensures.steps.0 c.loop-place.invariant.0 c.in-Some.ensures.steps.2

pub returns-then-is_named : goal.returns-then-is_named
returns-then-is_named c =
    let a = c.args in
    let i = c.in-Some.place in
    let w = low (goal.at.returns-then-is_named c).In-Some in
    let long : length a.b.places ≡ 64 = search (rules, length-mapped) in
    let h : i < length a.b.places = omega (arith, long, w.place) in
    sym (found-some a.b i w.place)
    ∙ ap (found_at a.b)
    (sym (find-low (is_named a.any a.sequence) c.loop-place.place-iterator.left a.b.places no_response i h w (sym c.is_named.ensures ∙ c.if-is_named.true))
    ∙ c.loop-place.invariant.1)

pub loop-place-preserved : goal.loop-place-preserved
loop-place-preserved c =
    let a = c.args in
    let l = c.loop-place in
    let s = c.in-Some.ensures.steps in
    let t = is_named a.any a.sequence in
    let left = s.3 ∙ without-lowest _ _ s.2 in (
      omega (arith, left, without-le l.place-iterator.left c.in-Some.place, l.invariant.0),
      ap (λ (v : ℕ). find_in t v a.b.places) left
          ∙ find-rest t l.place-iterator.left a.b.places no_response c.in-Some.place (sym c.is_named.ensures ∙ c.if-is_named.false)
          ∙ l.invariant.1,
    )

pub returns : goal.returns
returns c =
    let a = c.args in
    let t = is_named a.any a.sequence in
    let long : length a.b.places ≡ 64 = search (rules, length-mapped) in
    ap (found_at a.b) (sym long ∙ sym (ap (λ (v : ℕ). find_in t v a.b.places) c.in-None.ensures.steps.0 ∙ find_none t a.b.places) ∙ c.loop-place.invariant.1)
