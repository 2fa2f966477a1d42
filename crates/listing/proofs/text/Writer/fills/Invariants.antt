use mathlib.Core.Path.{◌≡◌}
use Prim.Native.Nat.{◌+◌, ◌*◌, ◌≤◌}
use lib.ListN.{length}
use Rattle.trade.specs.rules.Trade.{traded}
use Rattle.listing.specs.rules.Listing.{fill_lines}
use Rattle.listing.specs.inside.Code.{fills_in}
use Rattle.listing.proofs.WriterLaws.{LeftToWrite}
use Rattle.listing.proofs.text.Writer.fills.Given as goal

abbrev pub invariant-loop-fill : goal.invariant-loop-fill
invariant-loop-fill l =
    record {
      can_next : (goal.iterator-loop-fill).can_next l.fill-iterator;
      is_finite : (goal.iterator-loop-fill).is_finite l.fill-iterator;
      threes : l.fill-iterator.size ≡ 3;
      lines : LeftToWrite l.initial.self l.self (fill_lines (fills_in l.words)) (fill_lines (fills_in l.fill-iterator.rest.now));
      total : l.sum + traded (fills_in l.fill-iterator.rest.now) ≡ traded (fills_in l.words);
      small : l.sum + 4294967295 * length (fills_in l.fill-iterator.rest.now) ≤ 4294967295 * 130;
    }
