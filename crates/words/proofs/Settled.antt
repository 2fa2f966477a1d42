-- Each public function's contract settles it. What is cited is made from the code's own clauses, so a clause that says less is refused here.
use mathlib.Core.Path.{refl, sym, ◌∙◌, ap}
use Rattle.base.specs.Settled.{Settled}
use Rattle.words.specs.contracts as stated
use Rattle.words.proofs as contracts

pub test : Settled stated.bits.test.ended contracts.bits.test.Reads.Asked contracts.bits.test.Reads.Learnt
test κs a = (tt, λ y z v w p q. (p ∙ sym q, refl))

pub mark : Settled stated.bits.mark.ended contracts.bits.mark.Reads.Asked contracts.bits.mark.Reads.Learnt
mark κs a = (tt, λ y z v w p q. (p ∙ sym q, refl))

pub with-bit : Settled stated.bits.with_bit.ended contracts.bits.with_bit.Reads.Asked contracts.bits.with_bit.Reads.Learnt
with-bit κs a = (tt, λ y z v w p q. (p ∙ sym q, refl))

pub without-bit : Settled stated.bits.without_bit.ended contracts.bits.without_bit.Reads.Asked contracts.bits.without_bit.Reads.Learnt
without-bit κs a = (tt, λ y z v w p q. (p ∙ sym q, refl))

pub ones : Settled stated.bits.ones.ended contracts.bits.ones.Reads.Asked contracts.bits.ones.Reads.Learnt
ones κs a = (tt, λ y z v w p q. (p ∙ sym q, refl))

pub first-clear : Settled stated.bits.first_clear.ended contracts.bits.first_clear.Reads.Asked contracts.bits.first_clear.Reads.Learnt
first-clear κs a = (tt, λ y z v w p q. (p ∙ sym q, refl))

pub first-set : Settled stated.bits.first_set.ended contracts.bits.first_set.Reads.Asked contracts.bits.first_set.Reads.Learnt
first-set κs a = (tt, λ y z v w p q. (p ∙ sym q, refl))

pub without-lowest : Settled stated.bits.without_lowest.ended contracts.bits.without_lowest.Reads.Asked contracts.bits.without_lowest.Reads.Learnt
without-lowest κs a = (tt, λ y z v w p q. (p ∙ sym q, refl))

pub places-of : Settled stated.bits.Places.of.ended contracts.bits.Places.of.Reads.Asked contracts.bits.Places.of.Reads.Learnt
places-of κs a = (tt, λ y z v w p q. (p ∙ sym q, refl))

pub join : Settled stated.bytes.join.ended contracts.bytes.join.Reads.Asked contracts.bytes.join.Reads.Learnt
join κs a = (tt, λ y z v w p q. (p ∙ sym q, refl))

pub read_word : Settled stated.bytes.read_word.ended contracts.bytes.read_word.Reads.Asked contracts.bytes.read_word.Reads.Learnt
read_word κs a = (tt, λ y z v w p q. (p ∙ sym q, refl))

pub write-words : Settled stated.bytes.write_words.ended contracts.bytes.write_words.Reads.Asked contracts.bytes.write_words.Reads.Learnt
write-words κs a = (tt, λ y z v w p q. (refl, ap (λ x. (x, (tt, (tt, tt)))) (p ∙ sym q)))
