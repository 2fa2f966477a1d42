use Rattle.listing.proofs.WriterLaws.{writes-append}
use Rattle.listing.specs.rules.Listing.{refused_line}
use Rattle.listing.proofs.text.Writer.refused.Goals as goal

pub returns : goal.returns
unfolding refused_line
returns c = writes-append c.field.ensures c.text.ensures
