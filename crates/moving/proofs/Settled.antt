-- The public function's contract settles it. What is cited is made from the code's own clauses, so a clause that says less is refused here.
use mathlib.Core.Path.{sym, ◌∙◌, ap}
use Rattle.base.specs.Settled.{Settled}
use Rattle.moving.specs.contracts as stated
use Rattle.moving.proofs as contracts

pub move-tape : Settled stated.move_tape.ended contracts.move_tape.Reads.Asked contracts.move_tape.Reads.Learnt
move-tape κs a = (tt, λ y z v w p q. (p.0 ∙ sym q.0, ap (λ x. (tt, (tt, (x, tt)))) (p.1 ∙ sym q.1)))
