-- Each public function's contract settles it. What is cited is made from the code's own clauses, so a clause that says less is refused here.
use mathlib.Core.Path.{refl, sym, ◌∙◌}
use Rattle.base.specs.Settled.{Settled}
use Rattle.base.specs.contracts as stated
use Rattle.base.proofs as contracts

pub mirror : Settled stated.mirror.ended contracts.mirror.Reads.Asked contracts.mirror.Reads.Learnt
mirror κs a = (tt, λ y z v w p q. (p ∙ sym q, refl))

pub refusal-number : Settled stated.refusal.Refusal.number.ended contracts.refusal.Refusal.number.Reads.Asked contracts.refusal.Refusal.number.Reads.Learnt
refusal-number κs a = (tt, λ y z v w p q. (p ∙ sym q, refl))
