use mathlib.Core.Path.{refl}
use Rattle.listing.proofs.WriterLaws.{part-writes}
use Rattle.listing.proofs.text.Writer.text.Goals as goal

pub returns : goal.returns
returns c = let a = c.args in part-writes a.self.now a.s.now _ _ c.requires refl c.copy.ensures
