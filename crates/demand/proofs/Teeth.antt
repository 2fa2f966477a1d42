-- That `Tradable` can be met, and that `Demand3` refuses wrong listings.
use mathlib.Core.Path.{refl, ap}
use mathlib.Core.Bool.{true, false}
use mathlib.Core.List.{[], ◌∷◌}
use mathlib.Core.Logic.{inl}
use Prim.Native.Nat.{ℕ}
use native.Mathlib.Omega.{arith}
use lib.Dec.{lit<, lit≤}
use Rattle.board.specs.declared.Board.{Board}
use Rattle.board.specs.declared.Response.{Response}
use Rattle.base.specs.Lists.{filter, sum}
use Rattle.board.specs.rules.Board.{live_in, inserted, in_sequence}
use Rattle.share.specs.rules.Fills.{fill}
use Rattle.trade.specs.declared.Deal.{Deal}
use Rattle.trade.specs.rules.Plan.{mode1, mode2, mode3}
use Rattle.trade.specs.rules.Trade.{offers, Level, guarantee_of, top, entry, next, offers_at, level_at, walk, market_price, levels, fills}
use Rattle.demand.specs.promises.Demands.{got, sold_at, Tradable, Demand3}
use Rattle.demand.proofs.Examples.{gtx, board, deal, ended}
use Rattle.demand.proofs.Theorems.{demand3}

-- ---- case b

abbrev terms : Deal
terms = deal false 100 1 110 100 108

abbrev three : Board
three = board (gtx 1 31 108 ∷ gtx 2 30 108 ∷ gtx 3 30 108 ∷ [])

tradable : Tradable terms three
unfolding live_in
tradable =
    record {
      bound-below = lit≤ tt;
      stop-below = lit≤ tt;
      prices = (lit≤ tt, (lit≤ tt, (lit≤ tt, tt)));
      mode = (lit≤ tt, lit≤ tt);
      parties = (lit< tt, (lit< tt, (lit< tt, tt)));
      distinct = ((omega arith, (omega arith, tt)), ((omega arith, tt), (tt, tt)));
      market-apart = λ h. absurd (omega arith);
    }

pub holds : Demand3 terms three (fills terms (offers three))
holds = demand3 terms three tradable

-- the Contra Order does not get every contract
pub not-all-contra : Demand3 terms three (fill 0 108 100 ∷ []) → ⊥
unfolding guarantee_of live_in inserted in_sequence
not-all-contra h = omega (arith, h.covered (gtx 1 31 108) (inl refl) refl (lit< tt))

-- nor one more than its guarantee, where others want it
pub not-one-more : Demand3 terms three (fill 0 108 41 ∷ fill 1 108 20 ∷ fill 2 108 20 ∷ fill 3 108 19 ∷ []) → ⊥
unfolding guarantee_of live_in inserted in_sequence
not-one-more h = omega (arith, h.covered (gtx 1 31 108) (inl refl) refl (lit< tt))

-- ---- case a, and others like it

-- the Contra Order does not trade below its stop
pub not-below-stop : Demand3 terms (board (gtx 1 30 105 ∷ gtx 2 60 108 ∷ gtx 3 40 108 ∷ [])) (fill 0 101 40 ∷ fill 1 105 30 ∷ fill 2 108 18 ∷ fill 3 108 12 ∷ []) → ⊥
unfolding entry
not-below-stop h = omega (arith, h.contra-limit.0 refl)

-- nor does anything trade above it
pub not-above-stop : Demand3 (deal false 5 1 3 1 1) (board []) (fill 0 3 5 ∷ []) → ⊥
unfolding top
not-above-stop h = omega (arith, h.top-price.0)

-- ---- case d

abbrev sold : Deal
sold = ended (deal false 10 2 108 101 0) 1 4

-- the market order is not left out, nor does it trade at another price
pub not-without-market : Demand3 sold (board []) (fill 0 108 10 ∷ []) → ⊥
unfolding market_price live_in in_sequence filter
not-without-market h = omega (arith, ap (got 1) h.market-trades)

pub not-at-another : Demand3 sold (board []) (fill 1 108 4 ∷ fill 0 108 6 ∷ []) → ⊥
unfolding market_price live_in in_sequence filter
not-at-another h = omega (arith, ap (sold_at 105) h.market-trades)

-- ---- Customers

abbrev customer : ℕ → ℕ → ℕ → Response
customer k s p = record { sequence = k; size = s; price = p; participant = 0; customer = true; gtx = true }

-- they come before the Contra Order
pub not-before-customer : Demand3 terms (board (customer 1 80 108 ∷ [])) (fill 0 108 50 ∷ fill 1 108 50 ∷ []) → ⊥
unfolding live_in
not-before-customer h = omega (arith, h.customers-before-contra (customer 1 80 108) (inl refl) refl (lit< tt))

-- and the Contra Order does not go round them by a lower price
abbrev there : Level
there = record { price = 105; left = 100; held = 0; want = 30; final = false; here = customer 1 30 105 ∷ [] }

pub not-passed-over : Demand3 (deal false 100 2 110 100 0) (board (customer 1 30 105 ∷ [])) (fill 0 100 100 ∷ []) → ⊥
unfolding live_in inserted in_sequence guarantee_of top entry next offers_at mode1 mode2 mode3 level_at walk levels filter sum
not-passed-over h = omega (arith, (h.by_level there (inl refl)).trades)
