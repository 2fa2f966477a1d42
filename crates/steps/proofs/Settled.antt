-- Each public function's contract settles it. What is cited is made from the code's own clauses, so a clause that says less is refused here.
use mathlib.Core.Path.{refl, sym, ap, ◌∙◌}
use Rattle.base.specs.Settled.{Settled}
use Rattle.steps.specs.contracts as stated
use Rattle.steps.proofs as contracts

pub step : Settled stated.by_value.step.ended contracts.by_value.step.Reads.Asked contracts.by_value.step.Reads.Learnt
step κs a = (tt, λ y z v w p q. (p ∙ sym q, refl))

pub close : Settled stated.by_value.close.ended contracts.by_value.close.Reads.Asked contracts.by_value.close.Reads.Learnt
close κs a = (tt, λ y z v w p q. (p ∙ sym q, refl))

pub apply : Settled stated.lent.apply.ended contracts.lent.apply.Reads.Asked contracts.lent.apply.Reads.Learnt
apply κs a = (tt, λ y z v w p q. (p.0 ∙ sym q.0, ap (λ x. (x, (tt, tt))) (p.1 ∙ sym q.1)))

pub cancel : Settled stated.lent.cancel.ended contracts.lent.cancel.Reads.Asked contracts.lent.cancel.Reads.Learnt
cancel κs a = (tt, λ y z v w p q. (p.0 ∙ sym q.0, ap (λ x. (x, (tt, (tt, (tt, tt))))) (p.1 ∙ sym q.1)))
