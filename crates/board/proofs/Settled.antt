-- Each public function's contract settles it. What is cited is made from the code's own clauses, so a clause that says less is refused here.
use mathlib.Core.Path.{refl, sym, ◌∙◌}
use Rattle.base.specs.Settled.{Settled}
use Rattle.board.specs.contracts as stated
use Rattle.board.proofs as contracts

pub empty : Settled stated.empty.ended contracts.empty.Reads.Asked contracts.empty.Reads.Learnt
empty κs a = (tt, λ y z v w p q. (p ∙ sym q, refl))

pub is_live : Settled stated.is_live.ended contracts.is_live.Reads.Asked contracts.is_live.Reads.Learnt
is_live κs a = (tt, λ y z v w p q. (p ∙ sym q, refl))

pub live-count : Settled stated.live_count.ended contracts.live_count.Reads.Asked contracts.live_count.Reads.Learnt
live-count κs a = (tt, λ y z v w p q. (p ∙ sym q, refl))

pub free-in : Settled stated.free_in.ended contracts.free_in.Reads.Asked contracts.free_in.Reads.Learnt
free-in κs a = (tt, λ y z v w p q. (p ∙ sym q, refl))

pub first-free : Settled stated.first_free.ended contracts.first_free.Reads.Asked contracts.first_free.Reads.Learnt
first-free κs a = (tt, λ y z v w p q. (p ∙ sym q, refl))

pub seated : Settled stated.seated.ended contracts.seated.Reads.Asked contracts.seated.Reads.Learnt
seated κs a = (tt, λ y z v w p q. (p ∙ sym q, refl))

pub clear : Settled stated.clear.ended contracts.clear.Reads.Asked contracts.clear.Reads.Learnt
clear κs a = (tt, λ y z v w p q. (p ∙ sym q, refl))

pub is-named : Settled stated.is_named.ended contracts.is_named.Reads.Asked contracts.is_named.Reads.Learnt
is-named κs a = (tt, λ y z v w p q. (p ∙ sym q, refl))

pub find : Settled stated.find.ended contracts.find.Reads.Asked contracts.find.Reads.Learnt
find κs a = (tt, λ y z v w p q. (p ∙ sym q, refl))

pub response-at : Settled stated.response_at.ended contracts.response_at.Reads.Asked contracts.response_at.Reads.Learnt
response-at κs a = (tt, λ y z v w p q. (p ∙ sym q, refl))
