use mathlib.Core.Path.{refl, sym, ap, ◌∙◌}
use native.Mathlib.Omega.{arith}
use Rattle.std.proofs.Common.{length-take-le}
use lib.ListN.{replicate}
use Prim.Native.Nat.{◌*◌}
use Rattle.trade.specs.rules.Trade.{traded}
use Rattle.listing.specs.rules.Listing.{fill_lines, total_line, end_lines}
use Rattle.listing.proofs.FillLaws.{Reported, written, reported}
use Rattle.listing.proofs.WriterLaws.{writes-append, writes-same, fits-first, fits-rest}
use Rattle.listing.proofs.text.Writer.results.Goals as goal
use Rattle.listing.proofs.text.Writer.results.Goals.{After-unwrap-n}

found : (c : goal.After-unwrap-n) → Reported (record { head = c.args.h; board = c.args.b.now }) c.unwrap-n.result c.write_lent.new.out
found c =
    let w = c.write_lent in
    reported _ (replicate 390 0) c.unwrap-n.result w.new.out c.requires.ended.0 c.requires.ended.1 refl (sym w.ensures.value ∙ c.unwrap-n.ensures) w.ensures.out_after

pub unwrap-n-requires : goal.unwrap-n-requires
unwrap-n-requires c = rw (c.write_lent.ensures.value, written (record { head = c.args.h; board = c.args.b.now }) (replicate 390 0) c.requires.ended.0 refl) refl

pub slice_bounds-words-end : goal.slice_bounds-words-end
slice_bounds-words-end c = let f = found c in omega (arith, f.few, f.long)

pub slice_bounds-fills-end : goal.slice_bounds-fills-end
slice_bounds-fills-end c =
    let f = found (goal.at.slice_bounds-fills-end c).After-unwrap-n in
    sym (length-take-le (3 * c.unwrap-n.result) c.write_lent.new.out (omega (arith, f.few, f.long)))

pub end-requires : goal.end-requires
unfolding end_lines
end-requires c = fits-first c.args.self.now _ _ c.requires.room

pub fills-sum-requires : goal.fills-sum-requires
unfolding end_lines
fills-sum-requires c =
    let f = found (goal.at.fills-sum-requires c).After-unwrap-n in
    record {
      few = omega (arith, f.few, f.long, length-take-le (3 * c.unwrap-n.result) c.write_lent.new.out (omega (arith, f.few, f.long)));
      room = rw f.fills (fits-first c.end.new.self _ _ (fits-rest _ c.end.ensures c.requires.room));
    }

pub total-requires : goal.total-requires
unfolding end_lines
total-requires c =
    let f = found (goal.at.total-requires c).After-unwrap-n in
    let w = c.fills-sum.ensures in
    rw (w.sum, f.fills) (fits-rest _ (writes-same w.lines (ap fill_lines f.fills)) (fits-rest _ c.end.ensures c.requires.room))

pub returns : goal.returns
unfolding end_lines
returns c =
    let f = found (goal.at.returns c).After-unwrap-n in
    let w = c.fills-sum.ensures in
    writes-append c.end.ensures (writes-append (writes-same w.lines (ap fill_lines f.fills)) (writes-same c.total.ensures (ap total_line (w.sum ∙ ap traded f.fills))))
