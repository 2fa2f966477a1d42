use Rattle.listing.proofs.WriterLaws.{writes-append}
use Rattle.listing.specs.rules.Listing.{event_line}
use Rattle.listing.proofs.text.Writer.event.Goals as goal

pub returns : goal.returns
unfolding event_line
returns c = writes-append c.said.ensures c.text.ensures
