use Rattle.listing.specs.rules.Listing.{end_text}
use Rattle.listing.proofs.text.Writer.ending.Goals as goal

pub returns-in-Opposite : goal.returns-in-Opposite
unfolding end_text
returns-in-Opposite c = rw c.in-Opposite.is c.text-in-Opposite.ensures

pub returns-in-Improve : goal.returns-in-Improve
unfolding end_text
returns-in-Improve c = rw c.in-Improve.is c.text-in-Improve.ensures
