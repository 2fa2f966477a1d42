use Rattle.listing.proofs.WriterLaws.{writes-append}
use Rattle.listing.proofs.text.Writer.field.Goals as goal

pub returns : goal.returns
returns c = writes-append c.text.ensures (rw c.from.ensures at c.number.ensures)
