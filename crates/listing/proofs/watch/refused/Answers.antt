use native.Mathlib.Omega.{arith}
use borrow.Author.Rules.{rules}
use Rattle.listing.specs.rules.Listing.{refused_line}
use Rattle.listing.proofs.LengthLaws.{refused-short}
use Rattle.listing.proofs.WriterLaws.{writes-start, fits-start}
use Rattle.listing.proofs.WatchLaws.{unshown, shown}
use Rattle.listing.proofs.watch.refused.Goals as goal

pub returns-then-out-lt-LINES : goal.returns-then-out-lt-LINES
returns-then-out-lt-LINES c =
    let both = let a = c.args in unshown (refused_line a.number) a.out.now c.if-out-lt-LINES.true in
    record { value = both.0; out_after = both.1 }

pub refused-requires : goal.refused-requires
refused-requires c = let a = c.args in let w = c.new-w.ensures in fits-start c.new-w.result _ _ w.bytes w.place (omega (arith, c.if-out-lt-LINES.false, refused-short a.number))

pub returns : goal.returns
returns c =
    let both = let a = c.args in let w = c.new-w.ensures in shown (refused_line a.number) a.out.now c.if-out-lt-LINES.false (omega (arith, refused-short a.number)) (writes-start w.bytes w.place c.refused.ensures (search rules)) in
    record { value = both.0; out_after = both.1 }
