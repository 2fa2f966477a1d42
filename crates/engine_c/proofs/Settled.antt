-- The exported function's contract settles it: the length, and every lent byte. What is cited is made from the code's own clauses, so a clause that says less is refused here.
use mathlib.Core.Path.{sym, ◌∙◌, ap}
use Rattle.base.specs.Settled.{Settled}
use Rattle.engine_c.specs.contracts as stated
use Rattle.engine_c.proofs as contracts

pub cube-listing : Settled stated.cube_listing.ended contracts.cube_listing.Reads.Asked contracts.cube_listing.Reads.Learnt
cube-listing κs a = (tt, λ y z v w p q. (p.0 ∙ sym q.0, ap (λ x. (tt, (x, tt))) (p.1 ∙ sym q.1)))
