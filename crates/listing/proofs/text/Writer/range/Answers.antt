use Rattle.listing.proofs.WriterLaws.{writes-append}
use Rattle.listing.specs.rules.Listing.{range_text}
use Rattle.listing.proofs.text.Writer.range.Goals as goal

pub returns : goal.returns
unfolding range_text
returns c = writes-append c.field.ensures (writes-append c.field-2.ensures c.text.ensures)
