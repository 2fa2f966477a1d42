-- What holds of every list of fills that meets the clauses: demand 3's sentences, and that there is no other such list.
use Rattle.std.specs.Prelude.{◌≡◌, Bool, true, false, List, ◌≢◌, ℕ, ◌≤◌, ◌<◌, length}
use Rattle.base.specs.Lists.{Every, In}
use Rattle.board.specs.declared.Response.{Response}
use Rattle.board.specs.declared.Board.{Board}
use Rattle.share.specs.rules.Fills.{Fill, sizes}
use Rattle.share.specs.promises.Share.{Fair as FairShares}
use Rattle.trade.specs.declared.Deal.{Deal}
use Rattle.trade.specs.rules.Trade.{offers, fills, guarantee_of}
use Rattle.demand.specs.promises.Demands.{Absent, Distinct, got, Tradable, walked}
use Rattle.exact.specs.rules.EitherSide.{better, gots_at}
use Rattle.exact.specs.rules.WhoTrades.{working_price, others_at, MayTrade, plan_at, left_to_others, WhoTrades}

module _ (sell : Bool) (d : Deal) (rs : List Response) where
  -- demand 3's sentences of fills, beside `adds-up` and `in-range`
  pub record FairFills (fs : List Fill) : Type 0 where
    -- nobody trades more than its size
    pub response-fits : (r : Response) → In r rs → got r.sequence fs ≤ r.size
    pub market-fits : 0 < d.selling → got d.market fs ≤ d.selling
    -- or beyond its limit: a response's price, the Contra Order's stop or auto-match limit
    pub response-limit : (r : Response) → In r rs → Every (λ f. f.party ≡ r.sequence → better sell f.price r.price ≡ false) fs
    pub contra-limit : d.mode ≢ 2 → Every (λ f. f.party ≡ 0 → better sell f.price d.stop ≡ false) fs
    -- where anything trades, every response with a better working price is filled
    pub priority : (r : Response) → In r rs
        → Every (λ f. better sell (working_price sell d r) f.price ≡ true → got r.sequence fs ≡ r.size) fs
    -- the non-Customers at a price share pro rata what is left to them there: together they trade all of that, R, or all
    -- that they ask for, T; if R < T each trades the whole part of R * s / T, or one more
    pub share : (p : ℕ) → MayTrade sell d rs p
        → FairShares (left_to_others sell d rs (walked d fs) p) (sizes (others_at sell d rs p)) (gots_at p (walked d fs) (others_at sell d rs p))
    -- where one of them trades at the guarantee price, the Contra Order holds its guarantee
    pub guaranteed : (r : Response) → In r rs → r.customer ≡ false
        → (plan_at sell d rs (walked d fs) (working_price sell d r)).final ≡ true → 0 < got r.sequence fs
        → guarantee_of d.size (length rs) ≤ got 0 fs

-- parties have numbers of their own, and 0 is the Contra Order's alone
pub record Apart (d : Deal) (rs : List Response) : Type 0 where
  pub parties : Every (λ r. 0 < r.sequence) rs
  pub distinct : Distinct rs
  pub market-apart : 0 < d.selling → (0 < d.market) × Absent d.market rs

-- the engine's fills, of every deal and board that can trade, meet the clauses: of the buy that the engine works with,
-- before its prices are reported; promise's `InRealTerms` has the fills as they are written, for a buy or a sell
abbrev pub Holds : Type 0
Holds = (d : Deal) (b : Board) → Tradable d b → WhoTrades false d (offers b) (fills d (offers b))

-- two lists that meet them are one, for a buy or a sell
abbrev pub Alike : Type 0
Alike =
    (sell : Bool) (d : Deal) (rs : List Response) (fs gs : List Fill) → Apart d rs → WhoTrades sell d rs fs → WhoTrades sell d rs gs
    → fs ≡ gs

-- and whatever list meets them has demand 3's sentences
abbrev pub Fair : Type 0
Fair = (sell : Bool) (d : Deal) (rs : List Response) (fs : List Fill) → Apart d rs → WhoTrades sell d rs fs → FairFills sell d rs fs
