-- Each public function's contract settles it. What is cited is made from the code's own clauses, so a clause that says less is refused here.
use mathlib.Core.Path.{refl, sym, ◌∙◌, ap}
use Rattle.base.specs.Settled.{Settled}
use Rattle.listing.specs.contracts as stated
use Rattle.listing.proofs as contracts

pub length-of : Settled stated.length_of.ended contracts.length_of.Reads.Asked contracts.length_of.Reads.Learnt
length-of κs a = (tt, λ y z v w p q. (p ∙ sym q, refl))

pub listing : Settled stated.listing.ended contracts.listing.Reads.Asked contracts.listing.Reads.Learnt
listing κs a = (tt, λ y z v w p q. (p.0 ∙ sym q.0, ap (λ x. (tt, (x, tt))) (p.1 ∙ sym q.1)))

pub refused : Settled stated.watch.refused.ended contracts.watch.refused.Reads.Asked contracts.watch.refused.Reads.Learnt
refused κs a = (tt, λ y z v w p q. (p.0 ∙ sym q.0, ap (λ x. (tt, (x, tt))) (p.1.0 ∙ sym q.1.0)))

pub opened : Settled stated.watch.opened.ended contracts.watch.opened.Reads.Asked contracts.watch.opened.Reads.Learnt
opened κs a = (tt, λ y z v w p q. (p.0 ∙ sym q.0, ap (λ x. (tt, (x, tt))) (p.1.0 ∙ sym q.1.0)))

pub event : Settled stated.watch.event.ended contracts.watch.event.Reads.Asked contracts.watch.event.Reads.Learnt
event κs a = (tt, λ y z v w p q. (p.0 ∙ sym q.0, ap (λ x. (tt, (tt, (x, tt)))) (p.1.0 ∙ sym q.1.0)))

pub ended : Settled stated.watch.ended.ended contracts.watch.ended.Reads.Asked contracts.watch.ended.Reads.Learnt
ended κs a = (tt, λ y z v w p q. (p.0 ∙ sym q.0, ap (λ x. (tt, (x, tt))) (p.1.0 ∙ sym q.1.0)))
