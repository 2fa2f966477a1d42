use mathlib.Core.Path.{sym}
use native.Mathlib.Omega.{arith}
use borrow.Author.Rules.{rules}
use Rattle.listing.proofs.DecimalLaws.{digits_1, digits-power}
use Rattle.listing.proofs.text.count_digits.Goals as goal

pub returns-in-Some : goal.returns-in-Some
returns-in-Some c = let e = c.in-Some.ensures in sym (digits-power c.in-Some.power c.args.n e.power_le e.next_power_gt (search rules))

pub returns-in-None : goal.returns-in-None
returns-in-None c = sym (digits_1 c.args.n (omega (arith, c.in-None.ensures.none)))
