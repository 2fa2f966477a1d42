use mathlib.Core.Path.{ap}
use Rattle.listing.specs.rules.Listing.{range_text, auction_line}
use Rattle.listing.proofs.WriterLaws.{writes-append, writes-same}
use Rattle.listing.proofs.text.Writer.auction.Goals as goal

pub returns : goal.returns
unfolding auction_line
returns c = writes-append c.side.ensures (writes-append c.field.ensures (writes-same c.range.ensures (ap range_text c.price_range.ensures)))
