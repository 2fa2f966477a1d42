use mathlib.Core.Path.{◌≡◌, sym, ap, subst, ◌∙◌}
use native.Mathlib.Omega.{arith}
use lib.ListN.{length}
use Rattle.base.proofs.ListLaws.{length-mapped}
use Rattle.events.specs.declared.Stepped.{Stepped}
use Rattle.fills.specs.rules.Fills.{has_ended}
use Rattle.run.specs.rules.Run.{closed}
use Rattle.listing.specs.rules.Listing.{end_lines}
use Rattle.listing.proofs.LengthLaws.{end-lines-short, closed-kept}
use Rattle.listing.proofs.RunLaws.{closed-ended}
use Rattle.auction.specs.declared.Auction.{Auction}
use Rattle.listing.specs.inside.Writes.{Fits}
use Rattle.listing.proofs.WriterLaws.{writes-same, writes-start, fits-start}
use Rattle.listing.proofs.WatchLaws.{unshown, shown}
use borrow.Author.Rules.{rules}
use Rattle.listing.proofs.watch.ended.Goals as goal
use Rattle.listing.proofs.watch.ended.Goals.{Start}

len : (c : goal.Start) → length c.args.a.board.places ≡ 64
len c = search (rules, length-mapped)

pub returns-then-out-lt-LINES : goal.returns-then-out-lt-LINES
returns-then-out-lt-LINES c =
    let both = let a = c.args in unshown (end_lines (closed a.a)) a.out.now c.if-out-lt-LINES.true in
    record { value = both.0; out_after = both.1 }

pub results-requires : goal.results-requires
results-requires c =
    let a = c.args in
    let w = c.new-w.ensures in
    let e = ap (λ (s : Stepped). s.auction) c.close-s.ensures in
    let places = closed-kept a.a ∙ len (goal.at.results-requires c).Start in
    record {
      ended = (ap (λ (b : Auction). has_ended b.head) e ∙ closed-ended a.a, ap (λ (b : Auction). length b.board.places) e ∙ places);
      room =
          subst (λ (b : Auction). Fits c.new-w.result (end_lines b)) (sym e)
          (fits-start c.new-w.result _ _ w.bytes w.place (omega (arith, c.if-out-lt-LINES.false, end-lines-short (closed a.a) places)));
    }

pub returns : goal.returns
returns c =
    let both = let a = c.args in
    let w = c.new-w.ensures in
    shown (end_lines (closed a.a)) a.out.now c.if-out-lt-LINES.false (omega (arith, end-lines-short (closed a.a) (closed-kept a.a ∙ len (goal.at.returns c).Start)))
    (writes-start w.bytes w.place (writes-same c.results.ensures (ap (λ (s : Stepped). end_lines s.auction) c.close-s.ensures)) (search rules)) in
    record { value = both.0; out_after = both.1 }
