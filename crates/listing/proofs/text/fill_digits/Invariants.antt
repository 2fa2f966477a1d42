use Rattle.listing.proofs.DecimalLaws.{DigitsLeft}
use Rattle.listing.proofs.text.fill_digits.Given as goal

abbrev pub invariant-loop-rest : goal.invariant-loop-rest
invariant-loop-rest l = DigitsLeft l.n l.out l.at l.rest

abbrev pub decreases-loop-rest : goal.decreases-loop-rest
decreases-loop-rest l = l.rest
