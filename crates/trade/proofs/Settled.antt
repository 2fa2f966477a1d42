-- Each public function's contract settles it. What is cited is made from the code's own clauses, so a clause that says less is refused here.
use mathlib.Core.Path.{sym, ◌∙◌, ap}
use Rattle.base.specs.Settled.{Settled}
use Rattle.trade.specs.contracts as stated
use Rattle.trade.proofs as contracts

pub write-fills : Settled stated.write_fills.ended contracts.write_fills.Reads.Asked contracts.write_fills.Reads.Learnt
write-fills κs a = (tt, λ y z v w p q. (p.0 ∙ sym q.0, ap (λ x. (tt, (tt, (tt, (x, (tt, tt)))))) (p.1 ∙ sym q.1)))

pub write-lent : Settled stated.write_lent.ended contracts.write_lent.Reads.Asked contracts.write_lent.Reads.Learnt
write-lent κs a = (tt, λ y z v w p q. (p.0 ∙ sym q.0, ap (λ x. (tt, (tt, (tt, (x, (tt, tt)))))) (p.1 ∙ sym q.1)))
