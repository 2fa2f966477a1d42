-- What an event does, in the order's own prices, for buys and sells alike. No board and no mirror stand here.
use Rattle.std.specs.Prelude.{Bool, cond, not, ◌&&◌, ◌||◌, List, [], ◌∷◌, ◌++◌, ℕ, ◌+◌, ◌-◌, leb, ltb, eqb, length, Result, Ok, Err}
use Rattle.base.specs.declared.refusal.Refusal.{Refusal}
use Rattle.base.specs.declared.refusal.Refusal.TheVariants.{AuctionEnded, EventOutOfForm, SequenceTaken, BeforeClock, OwnSide, AboveInitiating, NoSuchResponse, BoardFull}
use Rattle.board.specs.declared.Response.{Response}
use Rattle.tape.specs.declared.order.Order.{Order}
use Rattle.tape.specs.declared.event.Event.{Event}
use Rattle.tape.specs.rules.Form.{event_formed}
use Rattle.tape.specs.rules.Fields.{size_of, price_of, name_of, new_price_of, nbb_of, nbo_of, bb_of, bo_of}
use Rattle.auction.specs.rules.Accept.{tick_of, bid_mark, offer_mark, no_market}
use Rattle.auction.specs.rules.Range.{is_open}
use Rattle.auction.specs.declared.Market.{Market}
use Rattle.auction.specs.declared.Range.{Range}
use Rattle.auction.specs.declared.Ending.{Ending}
use Rattle.auction.specs.declared.Ending.TheVariants.{Open, Time, Same, Opposite, Improve}
use Rattle.decision.specs.rules.Decide.{is_customer, is_non_routable}
use Rattle.events.specs.declared.Answer.{Answer}
use Rattle.events.specs.declared.Answer.TheVariants.{Taken, Ended, Late, Refused}
use Rattle.base.specs.Lists.{keep, sum}
use Rattle.share.specs.rules.Fills.{Fill, sizes}
use Rattle.trade.specs.rules.Trade.{traded}
use Rattle.run.specs.rules.Run.{Said, said, is_taken}
use Rattle.listing.specs.rules.Listing.{field, side_text, range_text, event_lines, event_line_with, end_text, fill_lines, total_line}
use Rattle.exact.specs.rules.EitherSide.{better, worse_of}
use Rattle.promise.specs.rules.Sides.{is_sell, other_side, opening_range, initiating_price, takes_place, stands_after, has_named}

-- ---- the quotes

-- of the order's own side the exchange's best, a buy's BB or a sell's BO, with its Customer mark, and the national
-- best; of the other side the exchange's and the national best
pub record Quoted : Type 0 where
  pub own : ℕ
  pub mark : Bool
  pub own_national : ℕ
  pub other : ℕ
  pub other_national : ℕ

module _ (o : Order) where
  abbrev pub own_side : ℕ
  own_side = cond (is_sell o) 2 1

  -- by the order's own fields
  abbrev pub first_quoted : Quoted
  first_quoted =
      record {
        own = cond (is_sell o) o.bo o.bb;
        mark = cond (is_sell o) (offer_mark o.marks) (bid_mark o.marks);
        own_national = cond (is_sell o) o.nbo o.nbb;
        other = cond (is_sell o) o.bb o.bo;
        other_national = cond (is_sell o) o.nbb o.nbo;
      }

  -- as a record of quotes brings them
  abbrev pub brought : Event → Quoted
  brought e =
      record {
        own = cond (is_sell o) (bo_of e) (bb_of e);
        mark = cond (is_sell o) (offer_mark e.marks) (bid_mark e.marks);
        own_national = cond (is_sell o) (nbo_of e) (nbb_of e);
        other = cond (is_sell o) (bb_of e) (bo_of e);
        other_national = cond (is_sell o) (nbb_of e) (nbo_of e);
      }

  -- with a limit order of the own side: a higher bid (a lower offer) becomes the best with its own mark, an equal one
  -- can only set the mark, another changes neither; the national best is at least its price
  abbrev pub outbid : Quoted → Event → Quoted
  outbid q e =
      record {
        own = worse_of (is_sell o) q.own (price_of e);
        mark = cond (better (is_sell o) q.own (price_of e)) (is_customer e) (q.mark || (eqb (price_of e) q.own && is_customer e));
        own_national = worse_of (is_sell o) q.own_national (price_of e);
        other = q.other;
        other_national = q.other_national;
      }

  -- the bound of a buy: the higher of the NBB at initiation and BB + t
  -- of a sell: the lower of the NBO at initiation and BO - t
  abbrev pub bound_at : Quoted → ℕ
  bound_at q =
      let t = tick_of o.size q.mark in
      worse_of (is_sell o) (cond (is_sell o) o.nbo o.nbb) (cond (is_sell o) (q.own - t) (q.own + t))

  -- the bound that q makes passes the initiating price
  abbrev pub passes : Quoted → Bool
  passes q = better (is_sell o) (initiating_price o) (bound_at q)

  -- a limit order is marketable: at the national best of the side across, or beyond it; a non-routable one at the
  -- exchange's
  abbrev pub marketable : Quoted → Event → Bool
  marketable q e =
      cond (eqb e.side own_side)
      (not (better (is_sell o) (price_of e) (cond (is_non_routable e) q.other q.other_national)))
      (not (better (is_sell o) (cond (is_non_routable e) q.own q.own_national) (price_of e)))

  -- one of the own side would raise a buy's BB (lower a sell's BO), or set its mark at an equal price
  abbrev pub raises : Quoted → Event → Bool
  raises q e = better (is_sell o) q.own (price_of e) || (eqb (price_of e) q.own && is_customer e && not q.mark)

  -- by a record after which the auction is still open: quotes replace them, a limit order of the own side outbids
  abbrev pub quoted_after : Quoted → Event → Quoted
  quoted_after q e = cond (eqb e.kind 5) (brought e) (cond (eqb e.kind 3 && eqb e.side own_side) (outbid q e) q)

  -- a market order of the other side, which ends the auction
  abbrev pub market_after : Market → Event → Market
  market_after m e = cond (eqb e.kind 4 && eqb e.side (other_side o)) (record { sequence = e.sequence; size = size_of e }) m

-- ---- the auction as the records so far leave it

pub record Now : Type 0 where
  -- the highest sequence and the time of the last event taken; 0 before any
  pub sequence : ℕ
  pub clock : ℕ
  pub quoted : Quoted
  -- the responses, by sequence
  pub standing : List Response
  pub market : Market
  pub ending : Ending

-- ended by time: nothing else moves
abbrev pub by_time : Now → Now
by_time n =
    record {
      sequence = n.sequence;
      clock = n.clock;
      quoted = n.quoted;
      standing = n.standing;
      market = n.market;
      ending = Time;
    }

-- the answer where a refusal, or the ending after the event, is decided
abbrev pub answer_of : Result Ending Refusal → Answer
answer_of (Err r) = Refused r
answer_of (Ok g) = cond (is_open g) Taken Ended

module _ (o : Order) where
  abbrev pub opening : Now
  opening = record { sequence = 0; clock = 0; quoted = first_quoted o; standing = []; market = no_market; ending = Open }

  -- 31 to 34, in their order
  abbrev pub refusal_of : Now → Event → Result (Unit {0}) Refusal
  refusal_of n e =
      cond (not (is_open n.ending)) (Err AuctionEnded)
      (cond (not (event_formed e)) (Err EventOutOfForm)
      (cond (leb e.sequence n.sequence) (Err SequenceTaken)
      (cond (ltb e.time n.clock) (Err BeforeClock)
      (Ok tt))))

  -- then, before time L, by its kind: 35 to 38, or the ending after it
  abbrev pub decided : Now → Event → Result Ending Refusal
  decided n e =
      let room = ltb (length n.standing) 64 in
      let own = eqb e.side (own_side o) in
      let named = has_named (name_of e) n.standing in
      -- a GTX response, a cancel
      cond (eqb e.kind 1)
      (cond own (Err OwnSide) (cond (better (is_sell o) (initiating_price o) (price_of e)) (Err AboveInitiating) (cond room (Ok Open) (Err BoardFull))))
      (cond (eqb e.kind 2) (cond named (Ok Open) (Err NoSuchResponse))
      -- a limit order, of the own side and of the other
      (cond (eqb e.kind 3 && own)
      (cond (marketable o n.quoted e) (Ok Same)
      (cond (raises o n.quoted e && passes o (outbid o n.quoted e)) (Ok Improve) (Ok Open)))
      (cond (eqb e.kind 3)
      (cond (takes_place o e && not room) (Err BoardFull) (cond (marketable o n.quoted e) (Ok Opposite) (Ok Open)))
      -- a market order, an amend, quotes
      (cond (eqb e.kind 4) (cond own (Ok Same) (Ok Opposite))
      (cond (eqb e.kind 6)
      (cond (better (is_sell o) (initiating_price o) (new_price_of e)) (Err AboveInitiating) (cond named (Ok Open) (Err NoSuchResponse)))
      (cond (passes o (brought o e)) (Ok Improve) (Ok Open)))))))

  -- what it leaves: a record that is taken, or ends the auction, moves the highest sequence and the clock; one that ends
  -- it leaves the quotes as they are
  abbrev pub leaves : Now → Event → Result Ending Refusal → Now
  leaves n e (Err r) = n
  leaves n e (Ok g) =
      record {
        sequence = e.sequence;
        clock = e.time;
        quoted = cond (is_open g) (quoted_after o n.quoted e) n.quoted;
        standing = stands_after o n.standing e;
        market = market_after o n.market e;
        ending = g;
      }

  -- 31 to 34, then late, then by its kind
  abbrev pub answer_by : Now → Event → Result (Unit {0}) Refusal → Answer
  answer_by n e (Err r) = Refused r
  answer_by n e (Ok u) = cond (leb o.interval e.time) Late (answer_of (decided n e))

  abbrev pub answer_to : Now → Event → Answer
  answer_to n e = answer_by n e (refusal_of n e)

  abbrev pub after_by : Now → Event → Result (Unit {0}) Refusal → Now
  after_by n e (Err r) = n
  after_by n e (Ok u) = cond (leb o.interval e.time) (by_time n) (leaves n e (decided n e))

  abbrev pub after : Now → Event → Now
  after n e = after_by n e (refusal_of n e)

  -- record by record: the answers, those that are taken or end the auction, and what all of them leave
  abbrev pub answers_from : Now → List Event → List Said
  answers_from n [] = []
  answers_from n (e ∷ es) = said e.sequence (answer_to n e) ∷ answers_from (after n e) es

  abbrev pub taken_from : Now → List Event → List Event
  taken_from n [] = []
  taken_from n (e ∷ es) = keep (is_taken (answer_to n e)) e (taken_from (after n e) es)

  abbrev pub after_all : Now → List Event → Now
  after_all n [] = n
  after_all n (e ∷ es) = after_all (after n e) es

  -- an auction still open after the last is closed by hand, as by an event at time L
  abbrev pub lastly : List Event → Now
  lastly es = let n = after_all opening es in cond (is_open n.ending) (by_time n) n

  -- the range that the END line shows, low to high
  abbrev pub last_range : List Event → Range
  last_range es =
      let bound = bound_at o (lastly es).quoted in
      record { low = cond (is_sell o) (initiating_price o) bound; high = cond (is_sell o) bound (initiating_price o) }

  -- ---- the listing and the watch, with the fills fs

  abbrev pub first_line : List ℕ
  first_line = side_text (is_sell o) ++ (field " size " o.size ++ range_text (opening_range o))

  abbrev pub last_lines : List Event → List Fill → List ℕ
  last_lines es fs = (end_text (lastly es).ending ++ range_text (last_range es)) ++ (fill_lines fs ++ total_line (traded fs))

  abbrev pub lines_with : List Event → List Fill → List ℕ
  lines_with es fs = first_line ++ (event_lines (answers_from opening es) ++ last_lines es fs)

  -- the EVENT lines of a watch, each with the contracts on offer after its record: the sum of the sizes that stand
  abbrev pub watch_from : Now → List Event → List ℕ
  watch_from n [] = []
  watch_from n (e ∷ es) =
      event_line_with (said e.sequence (answer_to n e)) (sum (sizes (after n e).standing)) ++ watch_from (after n e) es

  abbrev pub watch_with : List Event → List Fill → List ℕ
  watch_with es fs = first_line ++ (watch_from opening es ++ last_lines es fs)
