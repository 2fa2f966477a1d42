-- The fills of an auction that has ended.
use Rattle.std.specs.Prelude.{Bool, not, List, ℕ, Result}
use Rattle.share.specs.rules.Fills.{Fill}
use Rattle.trade.specs.declared.Deal.{Deal}
use Rattle.base.specs.declared.refusal.Refusal.{Refusal}
use Rattle.trade.specs.rules.Write.{fills_of, fill_answer, fill_words}
use Rattle.auction.specs.rules.Range.{is_open, bound_now}
use Rattle.auction.specs.declared.Auction.{Auction}
use Rattle.auction.specs.declared.Head.{Head}

abbrev pub has_ended : Head → Bool
has_ended h = not (is_open h.ending)

-- the terms at the ending
unfoldable pub deal_of : Head → Deal
deal_of h =
    record {
      sell = h.terms.sell;
      mode = h.terms.mode;
      size = h.terms.size;
      initiating = h.terms.initiating;
      bound = bound_now h;
      stop = h.terms.stop;
      market = h.market.sequence;
      selling = h.market.size;
    }

-- the fills, prices mirrored back for a sell
abbrev pub auction_fills : Auction → List Fill
auction_fills a = fills_of (deal_of a.head) a.board

-- 40 before the ending, then 39, else the number of fills; and the words
abbrev pub fills_answer : Auction → List ℕ → ℕ → Result ℕ Refusal
fills_answer a xs start = fill_answer (has_ended a.head) (deal_of a.head) a.board xs start

abbrev pub fills_after : Auction → List ℕ → ℕ → List ℕ
fills_after a xs start = fill_words (has_ended a.head) (deal_of a.head) a.board xs start
