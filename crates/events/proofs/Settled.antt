-- Each public function's contract settles it. What is cited is made from the code's own clauses, so a clause that says less is refused here.
use mathlib.Core.Path.{refl, sym, ◌∙◌}
use Rattle.base.specs.Settled.{Settled}
use Rattle.events.specs.contracts as stated
use Rattle.events.proofs as contracts

pub names : Settled stated.turns.names.ended contracts.turns.names.Reads.Asked contracts.turns.names.Reads.Learnt
names κs a = (tt, λ y z v w p q. (p ∙ sym q, refl))

pub sight-of : Settled stated.turns.sight_of.ended contracts.turns.sight_of.Reads.Asked contracts.turns.sight_of.Reads.Learnt
sight-of κs a = (tt, λ y z v w p q. (p ∙ sym q, refl))

pub sight : Settled stated.turns.sight.ended contracts.turns.sight.Reads.Asked contracts.turns.sight.Reads.Learnt
sight κs a = (tt, λ y z v w p q. (p ∙ sym q, refl))

pub turn : Settled stated.turns.turn.ended contracts.turns.turn.Reads.Asked contracts.turns.turn.Reads.Learnt
turn κs a = (tt, λ y z v w p q. (p ∙ sym q, refl))

pub close-turn : Settled stated.turns.close_turn.ended contracts.turns.close_turn.Reads.Asked contracts.turns.close_turn.Reads.Learnt
close-turn κs a = (tt, λ y z v w p q. (p ∙ sym q, refl))
