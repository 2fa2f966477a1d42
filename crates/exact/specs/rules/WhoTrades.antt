-- Who trades: what a list of fills has to be, sentence by sentence, for a buy or a sell in its own prices (document 01,
-- "Who trades"; document 02, W-203). It speaks of any list of fills, which it is
-- given: no fill is computed here.
use Rattle.std.specs.Prelude.{◌≡◌, Bool, false, cond, List, [], ◌++◌, ◌⊎◌, ◌≢◌, ℕ, ◌+◌, ◌-◌, ◌/◌, ◌≤◌, ◌<◌, min, eqb, length}
use Rattle.base.specs.Lists.{Every, In, filter, sum}
use Rattle.board.specs.declared.Response.{Response}
use Rattle.share.specs.rules.Share.{shares, in_turn}
use Rattle.share.specs.rules.Fills.{Fill, fill_of, sizes}
use Rattle.trade.specs.declared.Deal.{Deal}
use Rattle.trade.specs.rules.Plan.{Plan}
use Rattle.trade.specs.rules.Trade.{from_customer, from_other, guarantee_of, traded}
use Rattle.demand.specs.promises.Demands.{got_at, times, walked}
use Rattle.exact.specs.rules.EitherSide.{better, better_of, worse_of, sold_better, got_better, gots_at, InOrder, plan_by}

-- what a market order of the other side trades: as far as sizes go
abbrev pub market_quantity : Deal → ℕ
market_quantity d = min d.size d.selling

-- the auction has ended with the terms d, in prices of its side; `sell` says which side, and d.sell is not read
module _ (sell : Bool) (d : Deal) where
  -- the price at which a response works: its own, or the bound where its own is better
  abbrev pub working_price : Response → ℕ
  working_price r = worse_of sell r.price d.bound

  -- the stop or auto-match limit as it works
  abbrev pub working_stop : ℕ
  working_stop = worse_of sell d.stop d.bound

  -- the last price at which anything may trade: in mode 1 the stop, else the initiating price
  abbrev pub last_price : ℕ
  last_price = cond (eqb d.mode 1) working_stop d.initiating

  -- the midpoint of initiating price and bound: a buy's half cents up, a sell's down
  abbrev pub midpoint : ℕ
  midpoint = cond sell ((d.initiating + d.bound) / 2) ((d.initiating + d.bound + 1) / 2)

  -- the responses rs are live at the ending; they stand by sequence, and ties go to the lower one so
  module _ (rs : List Response) where
    -- ---- the market order that ended the auction

    -- q is the best working price of the responses
    pub record Best (q : ℕ) : Type 0 where
      pub response : Response
      pub live : In response rs
      pub works : working_price response ≡ q
      pub none-better : Every (λ r. better sell (working_price r) q ≡ false) rs

    -- it trades at p
    pub record MarketPrice (p : ℕ) : Type 0 where
      -- in mode 2 without responses at the midpoint of initiating price and bound, with responses at their best working
      -- price
      pub halfway : d.mode ≡ 2 → rs ≡ [] → p ≡ midpoint
      pub matched : d.mode ≡ 2 → (q : ℕ) → Best q → p ≡ q
      -- in modes 1 and 3 at the better of that, if there is a response, and the working stop or limit
      pub better-of : d.mode ≢ 2 → (q : ℕ) → Best q → p ≡ better_of sell q working_stop
      pub alone : d.mode ≢ 2 → rs ≡ [] → p ≡ working_stop

    -- ---- a price

    -- all responses at the price p, the Customers among them, and the others
    abbrev pub all_at : ℕ → List Response
    all_at p = filter (λ r. eqb (working_price r) p) rs

    abbrev pub customers_at : ℕ → List Response
    customers_at p = filter from_customer (all_at p)

    abbrev pub others_at : ℕ → List Response
    others_at p = filter from_other (all_at p)

    -- something may trade at p: a response works there, or it is the last price; and it is not beyond that
    abbrev pub MayTrade : ℕ → Type 0
    MayTrade p = (better sell last_price p ≡ false) × ((0 < length (all_at p)) ⊎ (p ≡ last_price))

    -- ws are the fills of all but the market order
    module _ (ws : List Fill) (p : ℕ) where
      -- the size left on arriving at p: what the market order and better prices leave
      abbrev pub left_at : ℕ
      left_at = d.size - (market_quantity d + sold_better sell p ws)

      -- what the Contra Order holds: its contracts at better prices
      abbrev pub held_at : ℕ
      held_at = got_better sell 0 p ws

      -- the plan of the mode
      abbrev pub plan_at : Plan
      plan_at =
          plan_by d.mode (better sell p working_stop) (eqb p d.initiating) (guarantee_of d.size (length rs)) left_at held_at
          (sum (sizes (all_at p)))

      -- what the Contra Order takes after Customers and before the others
      abbrev pub contra_first : ℕ
      contra_first = min (left_at - sum (sizes (customers_at p))) plan_at.want

      -- what is left to the others then, the R of the pro rata, and their shares of it
      abbrev pub left_to_others : ℕ
      left_to_others = left_at - sum (sizes (customers_at p)) - contra_first

      abbrev pub others_shares : List ℕ
      others_shares = shares left_to_others (sizes (others_at p))

    -- who has what at the price p
    pub record AtPrice (ws : List Fill) (p : ℕ) : Type 0 where
      -- Customers first, by sequence, each as far as the size left goes
      pub customers : gots_at p ws (customers_at p) ≡ in_turn (left_at ws p) (sizes (customers_at p))
      -- then the Contra Order, what the plan says; at the guarantee price also all that the others leave
      pub contra : got_at 0 p ws ≡ contra_first ws p + cond (plan_at ws p).final (left_to_others ws p - sum (others_shares ws p)) 0
      -- the others pro rata, of what is left to them
      pub others : gots_at p ws (others_at p) ≡ others_shares ws p

    -- ---- all fills: fs are those of the auction

    pub record WhoTrades (fs : List Fill) : Type 0 where
      -- they add up to the size, and none is of zero
      pub adds-up : traded fs ≡ d.size
      pub some : Every (λ f. 1 ≤ f.quantity) fs
      -- each price lies between the bound and the initiating price
      pub in-range : Every (λ f. (better sell f.price d.bound ≡ false) × (better sell d.initiating f.price ≡ false)) fs
      -- one per party and price
      pub once : (k p : ℕ) → times k p fs ≤ 1
      -- a market order that ended the auction trades first, as far as sizes go, at its price; then come all others
      pub market-price : ℕ
      pub market-at : MarketPrice market-price
      pub market-first : fs ≡ fill_of d.market market-price (market_quantity d) ++ walked d fs
      -- these are the Contra Order and the responses; a response trades at its working price alone
      pub nobody-else : Every (λ f. (f.party ≡ 0) ⊎ ((r : Response) × In r rs × (r.sequence ≡ f.party))) (walked d fs)
      pub works_at : (r : Response) → In r rs → Every (λ f. f.party ≡ r.sequence → f.price ≡ working_price r) (walked d fs)
      -- they trade at the working prices of responses, and at the last price; who has what at each of these
      pub prices : Every (λ f. MayTrade f.price) (walked d fs)
      pub at-price : (p : ℕ) → MayTrade p → AtPrice (walked d fs) p
      -- they stand by price, the best first; at a price Customers, the Contra Order, others, each by sequence
      pub in_order : InOrder sell rs (walked d fs)
