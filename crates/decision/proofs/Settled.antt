-- Each public function's contract settles it. What is cited is made from the code's own clauses, so a clause that says less is refused here.
use mathlib.Core.Path.{refl, sym, ◌∙◌}
use Rattle.base.specs.Settled.{Settled}
use Rattle.decision.specs.contracts as stated
use Rattle.decision.proofs as contracts

pub decide : Settled stated.decide.ended contracts.decide.Reads.Asked contracts.decide.Reads.Learnt
decide κs a = (tt, λ y z v w p q. (p ∙ sym q, refl))
