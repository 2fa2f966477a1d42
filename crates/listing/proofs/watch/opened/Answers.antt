use native.Mathlib.Omega.{arith}
use borrow.Author.Rules.{rules}
use Rattle.listing.specs.rules.Listing.{auction_line}
use Rattle.listing.proofs.LengthLaws.{auction-short}
use Rattle.listing.proofs.WriterLaws.{writes-start, fits-start}
use Rattle.listing.proofs.WatchLaws.{unshown, shown}
use Rattle.listing.proofs.watch.opened.Goals as goal

pub returns-then-out-lt-LINES : goal.returns-then-out-lt-LINES
returns-then-out-lt-LINES c =
    let both = let a = c.args in unshown (auction_line a.h) a.out.now c.if-out-lt-LINES.true in
    record { value = both.0; out_after = both.1 }

pub auction-requires : goal.auction-requires
auction-requires c = let a = c.args in let w = c.new-w.ensures in fits-start c.new-w.result _ _ w.bytes w.place (omega (arith, c.if-out-lt-LINES.false, auction-short a.h))

pub returns : goal.returns
returns c =
    let both = let a = c.args in let w = c.new-w.ensures in shown (auction_line a.h) a.out.now c.if-out-lt-LINES.false (omega (arith, auction-short a.h)) (writes-start w.bytes w.place c.auction.ensures (search rules)) in
    record { value = both.0; out_after = both.1 }
