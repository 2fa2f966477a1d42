use Rattle.listing.proofs.WriterLaws.{writes-append}
use Rattle.listing.specs.rules.Listing.{fill_line}
use Rattle.listing.proofs.text.Writer.fill.Goals as goal

pub returns : goal.returns
unfolding fill_line
returns c = writes-append c.party.ensures (writes-append c.field.ensures (writes-append c.field-2.ensures c.text.ensures))
