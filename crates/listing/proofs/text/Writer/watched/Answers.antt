use Rattle.listing.proofs.WriterLaws.{writes-append}
use Rattle.listing.specs.rules.Listing.{event_line_with}
use Rattle.listing.proofs.text.Writer.watched.Goals as goal

pub returns : goal.returns
unfolding event_line_with
returns c = writes-append c.said.ensures (writes-append c.field.ensures c.text.ensures)
