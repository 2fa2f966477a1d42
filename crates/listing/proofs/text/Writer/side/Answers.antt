use mathlib.Core.Path.{sym, ap}
use Rattle.listing.specs.rules.Listing.{side_text}
use Rattle.listing.proofs.WriterLaws.{writes-same}
use Rattle.listing.proofs.text.Writer.side.Goals as goal

pub returns-then-sell : goal.returns-then-sell
returns-then-sell c = writes-same c.text.ensures (ap side_text (sym c.if-sell.true))

pub returns : goal.returns
returns c = writes-same c.text-2.ensures (ap side_text (sym c.if-sell.false))
