use mathlib.Core.Path.{ap}
use native.Mathlib.Omega.{arith}
use borrow.Author.Rules.{rules}
use Rattle.base.specs.Refusal.{number_of}
use Rattle.run.specs.rules.Run.{refused}
use Rattle.listing.specs.rules.Listing.{refused_line}
use Rattle.listing.proofs.LengthLaws.{refused-short}
use Rattle.listing.proofs.WriterLaws.{writes-same, writes-start, fits-start}
use Rattle.listing.proofs.ListsLaws.{wrote-lists}
use Rattle.listing.proofs.list_refused.Goals as goal

pub refused-requires : goal.refused-requires
refused-requires c =
    let w = c.new-w.ensures in
    rw c.number.ensures (fits-start c.new-w.result _ _ w.bytes w.place (omega (arith, refused-short (number_of c.args.refusal), c.requires)))

pub returns : goal.returns
returns c =
    let w = c.new-w.ensures in
    wrote-lists (refused c.args.refusal) (writes-start w.bytes w.place (writes-same c.refused.ensures (ap refused_line c.number.ensures)) (search rules))
