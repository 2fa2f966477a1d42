-- Each public function's contract settles it. What is cited is made from the code's own clauses, so a clause that says less is refused here.
use mathlib.Core.Path.{refl, sym, ◌∙◌}
use Rattle.base.specs.Settled.{Settled}
use Rattle.auction.specs.contracts as stated
use Rattle.auction.proofs as contracts

pub is_open : Settled stated.bounds.is_open.ended contracts.bounds.is_open.Reads.Asked contracts.bounds.is_open.Reads.Learnt
is_open κs a = (tt, λ y z v w p q. (p ∙ sym q, refl))

pub bound_by : Settled stated.bounds.bound_by.ended contracts.bounds.bound_by.Reads.Asked contracts.bounds.bound_by.Reads.Learnt
bound_by κs a = (tt, λ y z v w p q. (p.0 ∙ sym q.0, refl))

pub bound-now : Settled stated.bounds.bound_now.ended contracts.bounds.bound_now.Reads.Asked contracts.bounds.bound_now.Reads.Learnt
bound-now κs a = (tt, λ y z v w p q. (p ∙ sym q, refl))

pub price-range : Settled stated.bounds.price_range.ended contracts.bounds.price_range.Reads.Asked contracts.bounds.price_range.Reads.Learnt
price-range κs a = (tt, λ y z v w p q. (p ∙ sym q, refl))

pub participant-of : Settled stated.firm.participant_of.ended contracts.firm.participant_of.Reads.Asked contracts.firm.participant_of.Reads.Learnt
participant-of κs a = (tt, λ y z v w p q. (p ∙ sym q, refl))

pub on-offer : Settled stated.offer.on_offer.ended contracts.offer.on_offer.Reads.Asked contracts.offer.on_offer.Reads.Learnt
on-offer κs a = (tt, λ y z v w p q. (p ∙ sym q, refl))

pub moved-offer : Settled stated.offer.moved_offer.ended contracts.offer.moved_offer.Reads.Asked contracts.offer.moved_offer.Reads.Learnt
moved-offer κs a = (tt, λ y z v w p q. (p ∙ sym q, refl))

pub accept : Settled stated.orders.accept.ended contracts.orders.accept.Reads.Asked contracts.orders.accept.Reads.Learnt
accept κs a = (tt, λ y z v w p q. (p ∙ sym q, refl))
