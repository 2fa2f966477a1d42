use Rattle.listing.proofs.WriterLaws.{writes-append}
use Rattle.listing.specs.rules.Listing.{total_line}
use Rattle.listing.proofs.text.Writer.total.Goals as goal

pub returns : goal.returns
unfolding total_line
returns c = writes-append (writes-append c.text.ensures c.number.ensures) c.text-2.ensures
