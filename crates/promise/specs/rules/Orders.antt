-- Which number an order is refused with, by its own fields and in its own prices, for buys and sells alike. No mirror
-- stands here.
use Rattle.std.specs.Prelude.{cond, not, ◌&&◌, ◌||◌, ℕ, ◌+◌, ◌-◌, leb, ltb, eqb}
use Rattle.words.specs.rules.Bits.{bit_at}
use Rattle.tape.specs.declared.order.Order.{Order}
use Rattle.tape.specs.rules.Form.{order_formed}
use Rattle.exact.specs.rules.EitherSide.{better, worse_of}
use Rattle.promise.specs.rules.Answers.{Paper, no, yes}
use Rattle.promise.specs.rules.Sides.{is_sell, initiating_price}
use Rattle.promise.specs.rules.Events.{first_quoted, bound_at}

module _ (o : Order) where
  -- the bound at acceptance
  abbrev pub opening_bound : ℕ
  opening_bound = bound_at o (first_quoted o)

  -- number 12's guaranteed price: the working stop, the working auto-match limit, or in mode 2 the initiating price
  abbrev pub guaranteed_price : ℕ
  guaranteed_price = cond (eqb o.mode 2) (initiating_price o) (worse_of (is_sell o) o.stop opening_bound)

  -- what it has to be where the NBBO is one cent wide: a buy's NBO - 1, a sell's NBB + 1
  abbrev pub one_cent_better : ℕ
  one_cent_better = cond (is_sell o) (o.nbb + 1) (o.nbo - 1)

  -- the order's number, or what is given for an order that no test refuses
  abbrev pub order_number : {A : Type 0} → A → Paper A
  order_number opened =
      -- a field outside its stated form
      cond (not (order_formed o)) (no 1)
      -- BB > NBB or BO < NBO
      (cond (ltb o.nbb o.bb || ltb o.bo o.nbo) (no 2)
      (cond (eqb o.size 0) (no 3)
      (cond (ltb o.time o.opens) (no 4)
      (cond (leb o.closes (o.time + 1000)) (no 5)
      -- halted, another auction open
      (cond (bit_at o.marks 0) (no 6)
      (cond (bit_at o.marks 1) (no 7)
      (cond (leb o.nbo o.nbb) (no 8)
      (cond (ltb o.size 50 && eqb (o.bo - o.bb) 1) (no 9)
      -- the limit, then the initiating price, on the wrong side of the bound
      (cond (better (is_sell o) o.limit opening_bound) (no 10)
      (cond (better (is_sell o) (initiating_price o) opening_bound) (no 13)
      -- the stop or auto-match limit beyond the initiating price; mode 2 has neither
      (cond (not (eqb o.mode 2) && better (is_sell o) (initiating_price o) o.stop) (no 11)
      (cond (ltb o.size 50 && eqb (o.nbo - o.nbb) 1 && not (eqb guaranteed_price one_cent_better)) (no 12)
      (yes opened)))))))))))))
