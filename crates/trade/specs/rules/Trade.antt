-- Who trades, for a buy (document 01, "Range and guarantee" and "Who trades"): definitions that compute, total on all inputs.
use Rattle.std.specs.Prelude.{Bool, true, false, cond, not, ◌||◌, List, [], ◌∷◌, ◌++◌, ℕ, zero, suc, ◌+◌, ◌-◌, ◌*◌, ◌/◌, min, max, leb, ltb, eqb, length}
use Rattle.board.specs.declared.Response.{Response}
use Rattle.board.specs.declared.Board.{Board}
use Rattle.base.specs.Lists.{filter, sum}
use Rattle.board.specs.rules.Board.{live_of, in_sequence}
use Rattle.share.specs.rules.Share.{shares, in_turn}
use Rattle.share.specs.rules.Fills.{Fill, fill_of, fills_by, sizes}
use Rattle.trade.specs.declared.Deal.{Deal}
use Rattle.trade.specs.rules.Plan.{plan_of}

-- the live responses, in rising order of sequence
abbrev pub offers : Board → List Response
offers b = in_sequence (live_of b)

abbrev pub from_customer : Response → Bool
from_customer r = r.customer

abbrev pub from_other : Response → Bool
from_other r = not r.customer

-- ---- one price

pub record Level : Type 0 where
  pub price : ℕ
  -- the size left, and what the Contra Order holds, on arriving here
  pub left : ℕ
  pub held : ℕ
  -- what the Contra Order takes after Customers and before the others; whether all the rest goes to it too
  pub want : ℕ
  pub final : Bool
  -- the responses at this price
  pub here : List Response

abbrev pub customers : Level → List Response
customers l = filter from_customer l.here

abbrev pub others : Level → List Response
others l = filter from_other l.here

-- the size of all responses at a level: document 01's A
abbrev pub size_here : Level → ℕ
size_here l = sum (sizes l.here)

abbrev pub after_customers : Level → ℕ
after_customers l = l.left - sum (sizes (customers l))

abbrev pub first : Level → ℕ
first l = min (after_customers l) l.want

-- what is left to the others: the R of the pro rata
abbrev pub shared : Level → ℕ
shared l = after_customers l - first l

abbrev pub given : Level → List ℕ
given l = shares (shared l) (sizes (others l))

abbrev pub rest : Level → ℕ
rest l = cond l.final (shared l - sum (given l)) 0

abbrev pub contra : Level → ℕ
contra l = first l + rest l

-- Customers by sequence, the Contra Order, the others pro rata
unfoldable pub level_fills : Level → List Fill
level_fills l =
    fills_by l.price (customers l) (in_turn l.left (sizes (customers l)))
    ++ (fill_of 0 l.price (contra l) ++ fills_by l.price (others l) (given l))

abbrev pub traded : List Fill → ℕ
traded [] = 0
traded (f ∷ fs) = f.quantity + traded fs

abbrev pub flat : List Level → List Fill
flat [] = []
flat (l ∷ ls) = level_fills l ++ flat ls

-- ---- the range

module _ (d : Deal) where
  -- the price at which a response works: its own, but at least the bound
  abbrev pub working : Response → ℕ
  working r = max r.price d.bound

  -- the stop or auto-match limit as it works
  abbrev pub working_stop : ℕ
  working_stop = max d.stop d.bound

  -- the last price of the walk
  unfoldable pub top : ℕ
  top = cond (eqb d.mode 1) working_stop d.initiating

  -- the price from which on the Contra Order takes part
  unfoldable pub entry : ℕ
  entry = cond (eqb d.mode 2) 0 working_stop

  -- the least working price from `from` on, but at most the last price
  unfoldable pub next : ℕ → List Response → ℕ
  next from [] = top
  next from (r ∷ rs) = min (cond (leb from (working r)) (working r) top) (next from rs)

-- 40%, and 50% where exactly one response is live; at least one contract
unfoldable pub guarantee_of : ℕ → ℕ → ℕ
guarantee_of size n = max 1 (cond (eqb n 1) (size * 5 / 10) (size * 4 / 10))

-- ---- the walk of the deal d over the live responses rs, in rising order of sequence

module _ (d : Deal) (rs : List Response) where
  abbrev pub guarantee : ℕ
  guarantee = guarantee_of d.size (length rs)

  -- the responses at a price
  unfoldable pub offers_at : ℕ → List Response
  offers_at p = filter (λ r. eqb (working d r) p) rs

  -- the price p with the plan of its mode, where so much is left on arriving and the Contra Order holds so much
  unfoldable pub level_at : ℕ → ℕ → ℕ → Level
  level_at p left held =
      let os = offers_at p in
      let plan = plan_of d.mode (working_stop d) d.initiating guarantee p left held (sum (sizes os)) in
      record { price = p; left = left; held = held; want = plan.want; final = plan.final; here = os }

  -- from the price `from` on, until nothing is left or the last price is passed; n is fuel: one for each price is enough
  unfoldable pub walk : ℕ → ℕ → ℕ → ℕ → List Level
  walk zero from left held = []
  walk (suc n) from left held =
      let l = level_at (next d from rs) left held in
      elim (eqb left 0 || ltb (top d) from) [ true ↦ [] | false ↦ l ∷ walk n (l.price + 1) (left - traded (level_fills l)) (held + contra l) ]

  -- ---- the market order that ended the auction

  -- in mode 2 the lowest working price, or the midpoint where nobody responded, half cents up; else the lower of the lowest working price, if there is a response, and the working stop or limit
  unfoldable pub market_price : ℕ
  market_price =
      let lowest = next d 0 rs in
      cond (eqb d.mode 2) (cond (eqb (length rs) 0) ((d.initiating + d.bound + 1) / 2) lowest) (min lowest (working_stop d))

  abbrev pub market_takes : ℕ
  market_takes = min d.size d.selling

  abbrev pub market_fill : List Fill
  market_fill = fill_of d.market market_price market_takes

  -- ---- all the fills

  unfoldable pub levels : List Level
  levels = walk (suc (top d)) 0 (d.size - market_takes) 0

  unfoldable pub fills : List Fill
  fills = market_fill ++ flat levels
