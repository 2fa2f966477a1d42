-- Each public function's contract settles it. What is cited is made from the code's own clauses, so a clause that says less is refused here.
use mathlib.Core.Path.{refl, sym, ◌∙◌}
use Rattle.base.specs.Settled.{Settled}
use Rattle.reader.specs.contracts as stated
use Rattle.reader.proofs as contracts

pub hold : Settled stated.hold.ended contracts.hold.Reads.Asked contracts.hold.Reads.Learnt
hold κs a = (tt, λ y z v w p q. (p ∙ sym q, refl))

pub held-order : Settled stated.held_order.ended contracts.held_order.Reads.Asked contracts.held_order.Reads.Learnt
held-order κs a = (tt, λ y z v w p q. (p ∙ sym q, refl))

pub current-event : Settled stated.current_event.ended contracts.current_event.Reads.Asked contracts.current_event.Reads.Learnt
current-event κs a = (tt, λ y z v w p q. (p ∙ sym q, refl))

pub next : Settled stated.next.ended contracts.next.Reads.Asked contracts.next.Reads.Learnt
next κs a = (tt, λ y z v w p q. (p ∙ sym q, refl))

pub tape-order : Settled stated.tape_order.ended contracts.tape_order.Reads.Asked contracts.tape_order.Reads.Learnt
tape-order κs a = (tt, λ y z v w p q. (p ∙ sym q, refl))

pub tape-event : Settled stated.tape_event.ended contracts.tape_event.Reads.Asked contracts.tape_event.Reads.Learnt
tape-event κs a = (tt, λ y z v w p q. (p ∙ sym q, refl))

pub tape-next : Settled stated.tape_next.ended contracts.tape_next.Reads.Asked contracts.tape_next.Reads.Learnt
tape-next κs a = (tt, λ y z v w p q. (p ∙ sym q, refl))
