-- Each public function's contract settles it. What is cited is made from the code's own clauses, so a clause that says less is refused here.
use mathlib.Core.Path.{refl, sym, ◌∙◌, ap}
use Rattle.base.specs.Settled.{Settled}
use Rattle.tape.specs.contracts as stated
use Rattle.tape.proofs as contracts

pub event-bytes : Settled stated.event.event_bytes.ended contracts.event.event_bytes.Reads.Asked contracts.event.event_bytes.Reads.Learnt
event-bytes κs a = (tt, λ y z v w p q. (p.0 ∙ sym q.0, refl))

pub record-at : Settled stated.event.record_at.ended contracts.event.record_at.Reads.Asked contracts.event.record_at.Reads.Learnt
record-at κs a = (tt, λ y z v w p q. (p ∙ sym q, refl))

pub read-event : Settled stated.event.read_event.ended contracts.event.read_event.Reads.Asked contracts.event.read_event.Reads.Learnt
read-event κs a = (tt, λ y z v w p q. (p ∙ sym q, refl))

pub write-event : Settled stated.event.write_event.ended contracts.event.write_event.Reads.Asked contracts.event.write_event.Reads.Learnt
write-event κs a = (tt, λ y z v w p q. (p.0 ∙ sym q.0, ap (λ x. (tt, (tt, (x, tt)))) (p.1 ∙ sym q.1)))

pub order-form : Settled stated.form.order_form.ended contracts.form.order_form.Reads.Asked contracts.form.order_form.Reads.Learnt
order-form κs a = (tt, λ y z v w p q. (p ∙ sym q, refl))

pub event-form : Settled stated.form.event_form.ended contracts.form.event_form.Reads.Asked contracts.form.event_form.Reads.Learnt
event-form κs a = (tt, λ y z v w p q. (p ∙ sym q, refl))

pub read-order : Settled stated.order.read_order.ended contracts.order.read_order.Reads.Asked contracts.order.read_order.Reads.Learnt
read-order κs a = (tt, λ y z v w p q. (p ∙ sym q, refl))

pub write-order : Settled stated.order.write_order.ended contracts.order.write_order.Reads.Asked contracts.order.write_order.Reads.Learnt
write-order κs a = (tt, λ y z v w p q. (p.0 ∙ sym q.0, ap (λ x. (tt, (x, tt))) (p.1 ∙ sym q.1)))

pub order-in : Settled stated.records.order_in.ended contracts.records.order_in.Reads.Asked contracts.records.order_in.Reads.Learnt
order-in κs a = (tt, λ y z v w p q. (p ∙ sym q, refl))

pub record-in : Settled stated.records.record_in.ended contracts.records.record_in.Reads.Asked contracts.records.record_in.Reads.Learnt
record-in κs a = (tt, λ y z v w p q. (p ∙ sym q, refl))

pub read-trailer : Settled stated.trailer.read_trailer.ended contracts.trailer.read_trailer.Reads.Asked contracts.trailer.read_trailer.Reads.Learnt
read-trailer κs a = (tt, λ y z v w p q. (p ∙ sym q, refl))

pub write-trailer : Settled stated.trailer.write_trailer.ended contracts.trailer.write_trailer.Reads.Asked contracts.trailer.write_trailer.Reads.Learnt
write-trailer κs a = (tt, λ y z v w p q. (p.0 ∙ sym q.0, ap (λ x. (tt, (x, tt))) (p.1 ∙ sym q.1)))

pub length-of : Settled stated.trailer.length_of.ended contracts.trailer.length_of.Reads.Asked contracts.trailer.length_of.Reads.Learnt
length-of κs a = (tt, λ y z v w p q. (p ∙ sym q, refl))

pub last-trailer : Settled stated.trailer.last_trailer.ended contracts.trailer.last_trailer.Reads.Asked contracts.trailer.last_trailer.Reads.Learnt
last-trailer κs a = (tt, λ y z v w p q. (p ∙ sym q, refl))

pub open-tape : Settled stated.trailer.open_tape.ended contracts.trailer.open_tape.Reads.Asked contracts.trailer.open_tape.Reads.Learnt
open-tape κs a = (tt, λ y z v w p q. (p ∙ sym q, refl))
