-- Each public function's contract settles it. What is cited is made from the code's own clauses, so a clause that says less is refused here.
use mathlib.Core.Path.{refl, sym, ◌∙◌}
use Rattle.base.specs.Settled.{Settled}
use Rattle.mirror.specs.contracts as stated
use Rattle.mirror.proofs as contracts

pub buy-order : Settled stated.buy_order.ended contracts.buy_order.Reads.Asked contracts.buy_order.Reads.Learnt
buy-order κs a = (tt, λ y z v w p q. (p ∙ sym q, refl))

pub buy-event : Settled stated.buy_event.ended contracts.buy_event.Reads.Asked contracts.buy_event.Reads.Learnt
buy-event κs a = (tt, λ y z v w p q. (p ∙ sym q, refl))
