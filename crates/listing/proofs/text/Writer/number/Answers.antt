use Rattle.listing.specs.rules.Text.{decimal}
use Rattle.listing.proofs.WriterLaws.{part-writes}
use native.Mathlib.Omega.{arith}
use Rattle.listing.proofs.text.Writer.number.Goals as goal

pub returns : goal.returns
returns c = let a = c.args in part-writes a.self.now (decimal a.n) _ _ c.requires (omega (arith, c.count_digits.ensures)) c.fill_digits.ensures
