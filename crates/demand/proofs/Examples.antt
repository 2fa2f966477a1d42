-- The figures of document 01 that end in fills, on boards of 64 places: one theorem, by computation.
use mathlib.Core.Path.{◌≡◌, refl}
use mathlib.Core.Bool.{Bool, true, false}
use mathlib.Core.List.{List, [], ◌∷◌, map, ◌++◌}
use Prim.Native.Nat.{ℕ, ◌-◌, ◌^◌}
use lib.ListN.{length, replicate}
use Rattle.base.specs.Price.{mirrored}
use Rattle.board.specs.declared.Response.{Response}
use Rattle.board.specs.declared.Board.{Board}
use Rattle.base.specs.Lists.{sum, filter}
use Rattle.board.specs.rules.Board.{no_response, live_in, inserted, in_sequence}
use Rattle.share.specs.rules.Share.{shares}
use Rattle.share.specs.rules.Fills.{words}
use Rattle.trade.specs.declared.Deal.{Deal}
use Rattle.trade.specs.rules.Plan.{mode1, mode2, mode3}
use Rattle.trade.specs.rules.Trade.{level_fills, guarantee_of, top, entry, next, offers_at, level_at, walk, market_price, levels, fills}
use Rattle.trade.specs.rules.Write.{fills_of}

-- sequence, size, price; no Customer's
abbrev pub gtx : ℕ → ℕ → ℕ → Response
gtx k s p = record { sequence = k; size = s; price = p; participant = 0; customer = false; gtx = true }

-- these responses at the lowest places
abbrev pub board : List Response → Board
board rs = record { places = rs ++ replicate (64 - length rs) no_response; live = 2 ^ length rs - 1 }

abbrev pub deal : Bool → ℕ → ℕ → ℕ → ℕ → ℕ → Deal
deal sell size mode initiating bound stop =
    record { sell = sell; mode = mode; size = size; initiating = initiating; bound = bound; stop = stop; market = 0; selling = 0 }

-- ended by a market order
abbrev pub ended : Deal → ℕ → ℕ → Deal
ended d market selling =
    record { sell = d.sell; mode = d.mode; size = d.size; initiating = d.initiating; bound = d.bound; stop = d.stop; market = market; selling = selling }

pub record Case : Type 0 where
  pub deal : Deal
  pub board : Board
  pub want : List ℕ

abbrev pub figures : List Case
figures =
    -- a
    record {
      deal = deal false 100 1 110 100 108;
      board = board (gtx 1 30 105 ∷ gtx 2 60 108 ∷ gtx 3 40 108 ∷ []);
      want = 1 ∷ 105 ∷ 30 ∷ 0 ∷ 108 ∷ 40 ∷ 2 ∷ 108 ∷ 18 ∷ 3 ∷ 108 ∷ 12 ∷ [];
    }
    -- b, as W-203 has it
    ∷ record {
      deal = deal false 100 1 110 100 108;
      board = board (gtx 1 31 108 ∷ gtx 2 30 108 ∷ gtx 3 30 108 ∷ []);
      want = 0 ∷ 108 ∷ 40 ∷ 1 ∷ 108 ∷ 20 ∷ 2 ∷ 108 ∷ 20 ∷ 3 ∷ 108 ∷ 20 ∷ [];
    }
    -- c
    ∷ record { deal = deal false 10 2 109 101 0; board = board (gtx 1 3 105 ∷ []); want = 0 ∷ 105 ∷ 3 ∷ 1 ∷ 105 ∷ 3 ∷ 0 ∷ 109 ∷ 4 ∷ [] }
    -- d
    ∷ record { deal = ended (deal false 10 2 108 101 0) 1 4; board = board []; want = 1 ∷ 105 ∷ 4 ∷ 0 ∷ 108 ∷ 6 ∷ [] }
    -- e: a sell, limit 102; its mirror buys with the initiating price 999,898 and the bound 999,891
    ∷ record { deal = ended (deal true 10 2 999898 999891 0) 1 4; board = board []; want = 1 ∷ 105 ∷ 4 ∷ 0 ∷ 102 ∷ 6 ∷ [] }
    -- f
    ∷ record { deal = deal false 1 1 109 101 105; board = board (gtx 1 1 105 ∷ []); want = 0 ∷ 105 ∷ 1 ∷ [] }
    -- g, closed after the bid of 108: the response works at the bound, 109
    ∷ record { deal = deal false 10 2 109 109 0; board = board (gtx 1 3 105 ∷ []); want = 0 ∷ 109 ∷ 7 ∷ 1 ∷ 109 ∷ 3 ∷ [] }
    -- h, the responses placed in another order than that of their sequences
    ∷ record {
      deal = deal false 200 3 110 100 103;
      board = board (gtx 3 30 106 ∷ gtx 1 20 101 ∷ gtx 2 80 104 ∷ []);
      want = 1 ∷ 101 ∷ 20 ∷ 0 ∷ 104 ∷ 80 ∷ 2 ∷ 104 ∷ 80 ∷ 3 ∷ 106 ∷ 20 ∷ [];
    }
    ∷ []

pub figures-hold : map (λ (c : Case). words (fills_of c.deal c.board)) figures ≡ map (λ (c : Case). c.want) figures
unfolding sum filter live_in inserted in_sequence shares level_fills guarantee_of top entry next offers_at mode1 mode2 mode3 level_at walk market_price levels fills fills_of mirrored
figures-hold = refl
