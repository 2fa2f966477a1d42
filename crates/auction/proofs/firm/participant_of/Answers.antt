use mathlib.Core.Path.{◌≡◌, sym, ◌∙◌}
use mathlib.Core.Bool.{true}
use Prim.Native.Nat.{◌<◌}
use native.Mathlib.Omega.{arith}
use borrow.Author.Rules.{rules}
use borrow.Author.Tests.{lt-ltb}
use lib.ListN.{length}
use Rattle.std.specs.Prelude.{Some}
use Rattle.base.proofs.ListLaws.{length-mapped}
use Rattle.board.specs.rules.Board.{is_named, find_named, found_at}
use Rattle.board.proofs.FindLaws.{find-le}
use Rattle.board.proofs.PlaceLaws.{found-gives}
use Rattle.auction.specs.rules.Firm.{participant_of}
use Rattle.auction.proofs.firm.participant_of.Goals as goal

pub returns : goal.returns
unfolding participant_of
returns c =
    let b = c.args.a.board in
    let s = c.args.sequence in
    let i = find_named true b s in
    let e : found_at b i ≡ Some c.in_ok-named.named = sym c.find.ensures ∙ c.in_ok-named.was in
    let g = found-gives b i c.in_ok-named.named e in
    let long : length b.places ≡ 64 = search (rules, length-mapped) in
    let l : i < 64 = omega (arith, g.0, long, find-le (is_named true s) b.live b.places) in
    simp (lt-ltb _ _ l, g.1)
