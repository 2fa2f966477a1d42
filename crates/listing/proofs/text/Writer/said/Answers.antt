use Rattle.listing.proofs.WriterLaws.{writes-append}
use Rattle.listing.specs.rules.Listing.{event_text}
use Rattle.listing.proofs.text.Writer.said.Goals as goal

pub returns : goal.returns
unfolding event_text
returns c = writes-append c.field.ensures c.answer.ensures
