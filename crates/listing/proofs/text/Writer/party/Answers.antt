use Rattle.listing.specs.rules.Listing.{party_text}
use Rattle.listing.proofs.text.Writer.party.Goals as goal

pub returns-then-party-eq0 : goal.returns-then-party-eq0
unfolding party_text
returns-then-party-eq0 c = rw c.if-party-eq0.true c.text.ensures
