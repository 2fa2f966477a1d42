-- What a collared order on the other side moves, and what it leaves (W-205 of document 02). A sell is the buy that it mirrors.
use Rattle.std.specs.Prelude.{◌≡◌, Bool, true, cond, not, ◌&&◌, ◌↔◌, ℕ, ◌+◌, ◌-◌, ◌≤◌, ◌<◌, min, max, leb, ltb, eqb, Result, Ok, Err}
use Rattle.base.specs.Refusal.{number_of}
use Rattle.base.specs.declared.refusal.Refusal.{Refusal}
use Rattle.base.specs.declared.refusal.Refusal.TheVariants.{LimitBelowRange, StopAboveRange, NationalCentWide, NoRange}
use Rattle.tape.specs.declared.order.Order.{Order}
use Rattle.tape.specs.rules.Form.{collar_formed, order_formed}
use Rattle.mirror.specs.rules.Mirror.{buy_order}
use Rattle.auction.specs.rules.Accept.{initiating_of, first_bound, order_refusal, accept_of}
use Rattle.auction.specs.declared.Auction.{Auction}

-- the order with another displayed price and collar
abbrev pub recollared : ℕ → ℕ → Order → Order
recollared displayed collar o =
    record {
      side = o.side;
      mode = o.mode;
      marks = o.marks;
      size = o.size;
      limit = o.limit;
      stop = o.stop;
      nbb = o.nbb;
      nbo = o.nbo;
      bb = o.bb;
      bo = o.bo;
      time = o.time;
      opens = o.opens;
      closes = o.closes;
      interval = o.interval;
      displayed = displayed;
      collar = collar;
    }

-- the auction with another initiating price
abbrev pub with_initiating : ℕ → Auction → Auction
with_initiating p a =
    let h = a.head in
    let t = h.terms in
    record {
      head =
          record {
            terms = record { sell = t.sell; mode = t.mode; size = t.size; initiating = p; floor = t.floor; stop = t.stop; interval = t.interval };
            quotes = h.quotes;
            sequence = h.sequence;
            clock = h.clock;
            ending = h.ending;
            market = h.market;
            offered = h.offered;
          };
      board = a.board;
    }

-- none of 1 to 9 refuses
abbrev pub past_9 : Result (Unit {0}) Refusal → Bool
past_9 (Ok u) = true
past_9 (Err r) = leb 10 (number_of r)

-- none of 1 to 9 refuses the order
abbrev pub reaches_range : Order → Bool
reaches_range o = past_9 (order_refusal o)

-- a buy's initiating price, and its numbers 10 to 12, as document 01 has them without W-205
abbrev pub quoted_initiating : Order → ℕ
quoted_initiating b = cond (ltb b.size 50) (min (min b.limit b.nbo) (b.bo - 1)) (min b.limit b.nbo)

abbrev pub quoted_refusal : Order → Result (Unit {0}) Refusal
quoted_refusal b =
    cond (ltb b.limit (first_bound b)) (Err LimitBelowRange)
    (cond (ltb (quoted_initiating b) b.stop) (Err StopAboveRange)
    (cond (ltb b.size 50 && eqb b.nbo (b.nbb + 1) && not (eqb b.nbo (cond (eqb b.mode 2) (quoted_initiating b) (max b.stop (first_bound b)) + 1))) (Err NationalCentWide)
    (Ok tt)))

pub record Collared : Type 0 where
  -- the form of the two fields is tested beside that of all others, at every size
  pub form : (o : Order) (d c : ℕ) → order_formed (recollared d c o) ≡ (order_formed (recollared 0 0 o) && collar_formed o.side d c)
  -- both fields zero: document 01 as it was (2 to 9 do not read them)
  pub none-price : (b : Order) → b.displayed ≡ 0 → initiating_of b ≡ quoted_initiating b
  pub none_number : (o : Order) → o.displayed ≡ 0 → reaches_range o ≡ true → order_refusal o ≡ quoted_refusal (buy_order o)
  pub none-auction : (o : Order) (a : Auction) → o.displayed ≡ 0 → accept_of o ≡ Ok a → a.head.terms.initiating ≡ quoted_initiating (buy_order o)
  -- a collared order: its displayed price minus the collar stands for BO, also where it is above the quoted one, and under 50 contracts alone
  pub some-price : (b : Order) → (b.displayed ≡ 0 → ⊥) → initiating_of b ≡ cond (ltb b.size 50) (min (min b.limit b.nbo) (b.displayed - b.collar - 1)) (min b.limit b.nbo)
  -- two orders in form that differ in the two fields alone: 2 to 10 refuse both or neither, and the bound is one
  pub up-to-10 : (o : Order) (d c : ℕ) (r : Refusal) → order_formed o ≡ true → order_formed (recollared d c o) ≡ true → 2 ≤ number_of r → number_of r ≤ 10 → order_refusal o ≡ Err r → order_refusal (recollared d c o) ≡ Err r
  pub one-bound : (o : Order) (d c : ℕ) → first_bound (buy_order (recollared d c o)) ≡ first_bound (buy_order o)
  -- where both are accepted they open one auction but for its initiating price: the quotes, the bound and all that an event goes by are those of the quoted markets
  pub one-auction : (o : Order) (d c : ℕ) (a b : Auction) → accept_of o ≡ Ok a → accept_of (recollared d c o) ≡ Ok b → b ≡ with_initiating (initiating_of (buy_order (recollared d c o))) a
  -- in form, they act through the initiating price alone, and so from 50 contracts on not at all
  pub by-price : (o : Order) (d c : ℕ) → order_formed o ≡ true → order_formed (recollared d c o) ≡ true
      → initiating_of (buy_order (recollared d c o)) ≡ initiating_of (buy_order o) → accept_of (recollared d c o) ≡ accept_of o
  pub from-50 : (o : Order) (d c : ℕ) → order_formed o ≡ true → order_formed (recollared d c o) ≡ true → 50 ≤ o.size → accept_of (recollared d c o) ≡ accept_of o
  -- 13 exactly where the initiating price is below the bound and the limit is not; so under 50 contracts and with a collared order alone, and the range of an accepted order is not empty
  pub thirteen : (o : Order) → order_refusal o ≡ Err NoRange ↔ ((reaches_range o && (ltb (initiating_of (buy_order o)) (first_bound (buy_order o)) && leb (first_bound (buy_order o)) (buy_order o).limit)) ≡ true)
  pub thirteen-only : (o : Order) → order_refusal o ≡ Err NoRange → (o.size < 50) × (o.displayed ≡ 0 → ⊥)
  pub some-range : (o : Order) (a : Auction) → accept_of o ≡ Ok a → first_bound (buy_order o) ≤ initiating_of (buy_order o)
