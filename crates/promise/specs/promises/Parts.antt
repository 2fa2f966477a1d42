-- The parts of the promise.
use Rattle.std.specs.Prelude.{◌≡◌, Bool, true, false, cond, not, ◌&&◌, ◌||◌, List, [], ◌∷◌, ◌++◌, map, ◌⊎◌, ◌≢◌, ℕ, ◌+◌, ◌*◌, ◌≤◌, ◌<◌, min, max, ltb, eqb, length, take, drop, Some, None}
use Rattle.std.specs.Option.{option_to_list}
use Prim.Native.String.{String}
use Rattle.base.specs.Lists.{In, Every, filter, sum}
use Rattle.words.specs.rules.Bytes.{AllBytes, word_at}
use Rattle.board.specs.declared.Response.{Response}
use Rattle.board.specs.rules.Board.{in_sequence}
use Rattle.board.specs.promises.Board.{Good}
use Rattle.share.specs.rules.Fills.{Fill, sizes, words}
use Rattle.share.specs.rules.Share.{shares}
use Rattle.share.specs.promises.Share.{Near}
use Rattle.tape.specs.declared.order.Order.{Order}
use Rattle.tape.specs.declared.event.Event.{Event}
use Rattle.tape.specs.declared.trailer.Trailer.{Trailer}
use Rattle.tape.specs.rules.Form.{order_formed, event_formed}
use Rattle.tape.specs.rules.Records.{cubt, cub2, order_of, order_spare, read_order, order_answer, width_of, event_of, event_spare, read_event, event_answer, trailer_of, read_trailer, trailer_answer}
use Rattle.tape.specs.rules.Fields.{size_of, name_of, new_price_of}
use Rattle.tape.specs.rules.Tape.{open_tape, order_in}
use Rattle.trade.specs.rules.Trade.{offers, fills, traded}
use Rattle.trade.specs.rules.Write.{reported}
use Rattle.demand.specs.promises.Demands.{Absent, Distinct, got, gots}
use Rattle.trade.specs.declared.Deal.{Deal}
use Rattle.exact.specs.rules.WhoTrades.{WhoTrades}
use Rattle.exact.specs.promises.Fair.{FairFills}
use Rattle.promise.specs.rules.Events.{bound_at, opening, answers_from, taken_from, lastly, last_range, watch_from}
use Rattle.auction.specs.rules.Accept.{auction_of, accept_of, Accepts}
use Rattle.auction.specs.rules.Range.{is_open}
use Rattle.auction.specs.rules.Offer.{on_offer}
use Rattle.auction.specs.declared.Auction.{Auction}
use Rattle.auction.specs.declared.Ending.{Ending}
use Rattle.auction.specs.rules.Firm.{participant_of}
use Rattle.moving.specs.rules.Moving.{move_answer, move_wrote}
use Rattle.moving.specs.promises.Moves.{moved_to}
use Rattle.decision.specs.rules.Decide.{is_amend}
use Rattle.events.specs.rules.Step.{step_of}
use Rattle.events.specs.declared.Answer.{Answer}
use Rattle.fills.specs.rules.Fills.{deal_of, auction_fills, fills_answer, fills_after}
use Rattle.run.specs.rules.Run.{Said, said, run, heard, played, is_taken, run_of}
use Rattle.run.specs.promises.Demands.{Within, Trades, Names, InTime}
use Rattle.listing.specs.rules.Text.{text, newline}
use Rattle.listing.specs.rules.Watch.{watch_line, watch_lines}
use Rattle.listing.specs.rules.Listing.{field, answer_text, event_text, end_text, refused_line, auction_line, event_lines, end_lines, listing_of, room_of, listed_of, length_in, bytes_of}
use Rattle.promise.specs.rules.Answers.{no, yes, paper_of, answer_is, ending_is, run_is, listed_is}
use Rattle.promise.specs.rules.Tapes.{Carries}
use Rattle.promise.specs.rules.Sides.{is_sell, other_side, better, got_better, sent, responses, taken_records, at_end, range_at_end, written_fills, live_at_end, market_order, working_price, others_at_price, guarantee_at_end, plan_at_price, left_to_others_at_price, sent_by, sent_instead, initiating_price, takes_place, standing_of, has_named, given_size, given_price}

-- ---- 1. every tape is answered

-- the listing of the bytes s: one of four
pub data Answered (s : List ℕ) : Type 0 where
  -- 21, 22 or 23: the bytes are no tape
  no-tape : (n : ℕ) → paper_of (open_tape s) ≡ no n → In n (21 ∷ 22 ∷ 23 ∷ []) → listing_of s ≡ refused_line n → Answered s
  -- 1: the order's record is out of form
  no-order : (t : Trailer) → paper_of (open_tape s) ≡ yes t → paper_of (order_in s t) ≡ no 1 → listing_of s ≡ refused_line 1 → Answered s
  -- 2 to 13: the order is not accepted
  not-accepted : (o : Order) (es : List Event) (n : ℕ) → Carries s o es → paper_of (accept_of o) ≡ no n → In n (2 ∷ 3 ∷ 4 ∷ 5 ∷ 6 ∷ 7 ∷ 8 ∷ 9 ∷ 10 ∷ 11 ∷ 12 ∷ 13 ∷ []) → listing_of s ≡ refused_line n → Answered s
  -- the auction: its opening, a line for each record, its end
  auction : (o : Order) (es : List Event) → Carries s o es → Accepts o
      → listing_of s ≡ auction_line (auction_of o).head ++ (event_lines (heard (auction_of o) es) ++ end_lines (played o es)) → Answered s

-- and the room lent for it
pub record Roomed (s out : List ℕ) : Type 0 where
  -- too small a room is 24, before anything else, and nothing is written
  pub small : length out < room_of → (listed_is (listed_of s out) ≡ no 24) × (length_in (listed_of s out) ≡ 0) × (bytes_of s out ≡ out)
  -- else the tape's number or the ending is answered, with the listing's length; the listing stands at the start, and every byte past it stays
  pub answers : room_of ≤ length out → (listed_is (listed_of s out) ≡ run_is (run_of s)) × (length_in (listed_of s out) ≡ length (listing_of s))
  pub stands : room_of ≤ length out → bytes_of s out ≡ listing_of s ++ drop (length (listing_of s)) out
  pub fits : length (listing_of s) ≤ room_of

-- the fills of an auction, into words from a start place
pub record Filling (a : Auction) (xs : List ℕ) (start : ℕ) : Type 0 where
  -- 40 before the ending, then 39 for fewer than 390 words from the start place: every word stays
  pub early : is_open a.head.ending ≡ true → (paper_of (fills_answer a xs start) ≡ no 40) × (fills_after a xs start ≡ xs)
  pub small : is_open a.head.ending ≡ false → length xs < start + 390 → (paper_of (fills_answer a xs start) ≡ no 39) × (fills_after a xs start ≡ xs)
  -- else their number, and their words from the start place on; all other words stay, and there is room for all
  pub counted : is_open a.head.ending ≡ false → start + 390 ≤ length xs
      → (paper_of (fills_answer a xs start) ≡ yes (length (auction_fills a))) × (fills_after a xs start ≡ take start xs ++ (words (auction_fills a) ++ drop (start + 3 * length (auction_fills a)) xs))
  pub room : Good a.board → 3 * length (auction_fills a) ≤ 390

-- the records' readers and writers: 24 first, or last; and the record's own number
pub record Numbered : Type 0 where
  pub reads-order : (s : List ℕ) → paper_of (read_order s) ≡ cond (ltb (length s) 64) (no 24) (cond (order_spare s && order_formed (order_of s)) (yes (order_of s)) (no 1))
  pub reads-event : (wide : Bool) (s : List ℕ) → paper_of (read_event wide s) ≡ cond (ltb (length s) (width_of wide)) (no 24) (cond (event_spare wide s && event_formed (event_of wide s)) (yes (event_of wide s)) (no 32))
  pub reads-trailer : (s : List ℕ) → paper_of (read_trailer s) ≡ cond (ltb (length s) 16) (no 24) (cond ((eqb (word_at s 0) cubt || eqb (word_at s 0) cub2) && eqb (word_at s 12) 0) (yes (trailer_of s)) (no 22))
  pub writes-order : (o : Order) (out : List ℕ) → paper_of (order_answer o out) ≡ cond (order_formed o) (cond (ltb (length out) 64) (no 24) (yes tt)) (no 1)
  pub writes-event : (wide : Bool) (e : Event) (out : List ℕ) → paper_of (event_answer wide e out) ≡ cond (event_formed e && (wide || eqb e.participant 0)) (cond (ltb (length out) (width_of wide)) (no 24) (yes tt)) (no 32)
  pub writes-trailer : (t : Trailer) (out : List ℕ) → paper_of (trailer_answer t out) ≡ cond (ltb (length out) 16) (no 24) (yes tt)
  -- the words of the EVENT and END lines
  pub event-words : (a : Answer) (w : String) → answer_is a ≡ yes w → answer_text a ≡ text " " ++ text w
  pub event-number : (a : Answer) (n : ℕ) → answer_is a ≡ no n → answer_text a ≡ field " refused " n
  pub end-words : (g : Ending) → end_text g ≡ text "END " ++ text (ending_is g)

-- which numbers an event's line can have
abbrev pub EventNumber : Said → Type 0
EventNumber x = (n : ℕ) → answer_is x.answer ≡ no n → In n (31 ∷ 32 ∷ 33 ∷ 34 ∷ 35 ∷ 36 ∷ 37 ∷ 38 ∷ [])

-- ---- 3. demand 3, in real prices

module _ (o : Order) (es : List Event) where
  -- the record that was taken and whose sequence r bears, e, made r; whether r still stands is not said here
  pub data Sends : Event → Response → Type 0 where
    -- a GTX response on the other side (its size capped at the CUBE size), or a limit order that takes a place
    places : (e : Event) → In e (taken_records o es) → ((e.kind ≡ 1) × (e.side ≡ other_side o)) ⊎ ((e.kind ≡ 3) × (takes_place o e ≡ true)) → Sends e (sent_by o e)
    -- an amend, of the GTX response of an earlier record g
    amends : (e g : Event) (old : Response) → In e (taken_records o es) → e.kind ≡ 6 → Sends g old → old.gtx ≡ true → name_of e ≡ g.sequence → g.sequence < e.sequence → Sends e (sent_instead o e old)

  -- the record e is the market order that ended the auction: the last that was taken, on the other side
  pub record Ends (e : Event) : Type 0 where
    pub taken : In e (taken_records o es)
    pub side : e.side ≡ other_side o
    pub kind : e.kind ≡ 4
    pub sequence : (market_order o es).sequence ≡ e.sequence
    pub size : (market_order o es).size ≡ size_of e
    pub ending : ending_is (at_end o es).head.ending ≡ "opposite"
    pub latest : (at_end o es).head.sequence ≡ e.sequence

  -- who trades: the Contra Order, the response that a record made, or the market order that ended the auction; no more than the record's size, and a response not beyond its price
  pub data Trader (f : Fill) : Type 0 where
    the_contra : f.party ≡ 0 → Trader f
    a_response : (e : Event) (r : Response) → In r (live_at_end o es) → Sends e r → f.party ≡ e.sequence → got e.sequence (written_fills o es) ≤ given_size e → better (is_sell o) f.price (given_price e) ≡ false → Trader f
    the_market : (e : Event) → Ends e → f.party ≡ e.sequence → got e.sequence (written_fills o es) ≤ size_of e → Trader f

  pub record InRealPrices : Type 0 where
    -- the auction has ended
    pub ended : is_open (at_end o es).head.ending ≡ false
    -- the fills add up to the order's size field
    pub adds-up : traded (written_fills o es) ≡ o.size
    -- each price lies in the range that the END line shows, and not beyond the order's limit field; no fill is of zero
    pub in-range : Every (Within (range_at_end o es)) (written_fills o es)
    pub own-limit : Every (λ f. better (is_sell o) o.limit f.price ≡ false) (written_fills o es)
    pub some : Every (λ f. 1 ≤ f.quantity) (written_fills o es)
    -- they are those of demand 3's clauses, which hold of the buy that the order is or mirrors, with a sell's prices mirrored back
    pub clauses : Trades (at_end o es)
    pub link : written_fills o es ≡ reported (is_sell o) (fills (deal_of (at_end o es).head) (offers (at_end o es).board))
    -- the responses, by sequence, are those that the records taken leave standing, an amended one once, with its latest size and price; and the fills are those of these responses (of a sell
    -- their prices are mirrored into the buy's, and the fills' prices back)
    pub stand : in_sequence (live_at_end o es) ≡ standing_of o (taken_records o es)
    pub by-fold : written_fills o es ≡ reported (is_sell o) (fills (deal_of (at_end o es).head) (map (sent (is_sell o)) (standing_of o (taken_records o es))))
    -- one that was cancelled or amended trades nothing under its old name
    pub gone-none : (e : Event) → In e (taken_records o es) → Names e → got (name_of e) (written_fills o es) ≡ 0
    -- each party is the Contra Order, or exactly one record
    pub parties : Every Trader (written_fills o es)
    pub told-apart : (e g : Event) → In e (taken_records o es) → In g (taken_records o es) → e.sequence ≡ g.sequence → e ≡ g
    pub not-contra : (e : Event) → In e (taken_records o es) → 0 < e.sequence
    -- a market order of the other side that is taken ends the auction, and trades as far as sizes go
    pub market-trades : (e : Event) → In e (taken_records o es) → e.kind ≡ 4 → e.side ≡ other_side o → Ends e × (got e.sequence (written_fills o es) ≡ min o.size (size_of e))
    -- the Contra Order does not trade beyond its stop or auto-match limit
    pub contra-limit : o.mode ≢ 2 → Every (λ f. f.party ≡ 0 → better (is_sell o) f.price o.stop ≡ false) (written_fills o es)
    -- a response trades at its working price alone, and at most its size
    pub works : (r : Response) → In r (live_at_end o es) → Every (λ f. f.party ≡ r.sequence → f.price ≡ working_price o es r) (written_fills o es)
    pub fits : (r : Response) → In r (live_at_end o es) → got r.sequence (written_fills o es) ≤ r.size
    -- where anything trades, every response with a better working price is filled
    pub priority : (r : Response) → In r (live_at_end o es) → (f : Fill) → In f (written_fills o es) → better (is_sell o) (working_price o es r) f.price ≡ true → got r.sequence (written_fills o es) ≡ r.size
    -- the others at a price are all filled where what is left to them covers them, and otherwise each gets the whole part, or one more
    pub filled : (r : Response) → In r (live_at_end o es) → r.customer ≡ false
        → sum (sizes (others_at_price o es (working_price o es r))) ≤ left_to_others_at_price o es (working_price o es r) → got r.sequence (written_fills o es) ≡ r.size
    pub short : (r : Response) → In r (live_at_end o es) → r.customer ≡ false
        → left_to_others_at_price o es (working_price o es r) < sum (sizes (others_at_price o es (working_price o es r)))
        → Near (left_to_others_at_price o es (working_price o es r)) (sum (sizes (others_at_price o es (working_price o es r)))) r.size (got r.sequence (written_fills o es))
    -- demand 2's method: by sequence the others at a price have the pro rata shares of what is left to them, the leftovers going one each to the largest fractions, and among equal ones to the lower sequence
    pub shared-out : (p : ℕ) → gots (written_fills o es) (in_sequence (others_at_price o es p)) ≡ shares (left_to_others_at_price o es p) (sizes (in_sequence (others_at_price o es p)))
    -- of what the others at a price trade together, each trades the whole part of its share, or one more; where one is not filled, the Contra Order has no more than its guarantee, or than it has at better prices
    pub share : (r : Response) → In r (live_at_end o es) → r.customer ≡ false
        → Near (sum (gots (written_fills o es) (others_at_price o es (working_price o es r)))) (sum (sizes (others_at_price o es (working_price o es r)))) r.size (got r.sequence (written_fills o es))
    pub covered : (r : Response) → In r (live_at_end o es) → r.customer ≡ false → got r.sequence (written_fills o es) < r.size
        → got 0 (written_fills o es) ≤ max (guarantee_at_end o es) (got_better (is_sell o) 0 (working_price o es r) (written_fills o es))
    -- where one of them trades at the guarantee price the Contra Order has its guarantee
    pub guaranteed : (r : Response) → In r (live_at_end o es) → r.customer ≡ false → (plan_at_price o es (working_price o es r)).final ≡ true → 0 < got r.sequence (written_fills o es) → guarantee_at_end o es ≤ got 0 (written_fills o es)
    -- it also has it where one of them trades, from the stop or limit on, and nothing trades at a worse price
    pub guaranteed-last : (r : Response) → In r (live_at_end o es) → r.customer ≡ false → (o.mode ≢ 2 → better (is_sell o) (working_price o es r) o.stop ≡ false)
        → Every (λ f. better (is_sell o) (working_price o es r) f.price ≡ false) (written_fills o es) → 0 < got r.sequence (written_fills o es) → guarantee_at_end o es ≤ got 0 (written_fills o es)

-- and in real terms, by the order's own fields and the records before it
module _ (o : Order) (es : List Event) where
  -- the auction at its end, in the order's own prices: the order's fields, and the bound and the market order that the
  -- records leave
  abbrev pub deal_at_end : Deal
  deal_at_end =
      record {
        sell = is_sell o;
        mode = o.mode;
        size = o.size;
        initiating = initiating_price o;
        bound = bound_at o (lastly o es).quoted;
        stop = o.stop;
        market = (lastly o es).market.sequence;
        selling = (lastly o es).market.size;
      }

  -- the clauses of a list of fills, any list, over the responses that the records leave standing, an amended one once,
  -- with its latest size and price
  abbrev pub RealPrices : List Fill → Type 0
  RealPrices fs = WhoTrades (is_sell o) deal_at_end (lastly o es).standing fs

  pub record InRealTerms : Type 0 where
    -- the answers, the records taken, the ending, the range and the lines of a watch are those of the order's own fields
    -- and the records, one after the other
    pub answers : heard (auction_of o) es ≡ answers_from o (opening o) es
    pub taken : taken_records o es ≡ taken_from o (opening o) es
    pub ending : (at_end o es).head.ending ≡ (lastly o es).ending
    pub range : range_at_end o es ≡ last_range o es
    pub watch : watch_lines (auction_of o) es ≡ watch_from o (opening o) es
    -- the responses that they leave standing are those of parts 4, 5 and 7
    pub standing : (lastly o es).standing ≡ standing_of o (taken_records o es)
    -- the fills that are written meet the clauses, and whatever list meets them is the one that is written
    pub holds : RealPrices (written_fills o es)
    pub only : (fs : List Fill) → RealPrices fs → fs ≡ written_fills o es
    -- whatever list meets them is fair, response by response; nor does the order itself trade beyond its limit
    pub fair : (fs : List Fill) → RealPrices fs → FairFills (is_sell o) deal_at_end (lastly o es).standing fs
    pub own-limit : (fs : List Fill) → RealPrices fs → Every (λ f. better (is_sell o) o.limit f.price ≡ false) fs

-- ---- 4. a response that stands on the board is never counted twice

-- the response r was made by one record of es that was taken, and by no other; no cancel and no amend that was taken names it
pub record OneRecord (o : Order) (es : List Event) (r : Response) : Type 0 where
  pub record_of : Event
  pub sends : Sends o es record_of r
  pub only : (g : Event) → In g (taken_records o es) → g.sequence ≡ r.sequence → g ≡ record_of
  pub latest : (g : Event) → In g (taken_records o es) → Names g → name_of g ≡ r.sequence → ⊥

module _ (o : Order) where
  -- the order's auction after some records
  abbrev pub auction_after : List Event → Auction
  auction_after es = run (auction_of o) es

  pub record CountedOnce : Type 0 where
    -- once a record was taken, or ended the auction, every record with its sequence or a lower one is refused, whatever else it says, and changes nothing: 31 once ended; else 32 where it is out of form, and 33
    pub refused : (before : List Event) (e g : Event) → In e (taken_records o before) → g.sequence ≤ e.sequence
        → (answer_is (step_of (auction_after before) g).answer ≡ no (cond (is_open (auction_after before).head.ending) (cond (event_formed g) 33 32) 31)) × ((step_of (auction_after before) g).auction ≡ auction_after before)
    -- the live responses, by sequence, are a fold of the records taken: 1 and 3 add, 2 takes away, 6 takes away and adds
    pub by-records : (es : List Event) → Accepts o → in_sequence (responses (auction_after es)) ≡ standing_of o (taken_records o es)
    -- each comes from one record, or from an amend of what came from one
    pub one-record : (es : List Event) → Accepts o → Every (OneRecord o es) (responses (auction_after es))
    -- no two of them bear one sequence
    pub apart : (es : List Event) → Accepts o → Distinct (responses (auction_after es))
    -- none is taken away twice, so that a record leads to one live response at most; one that was cancelled or amended never comes back
    pub named-once : (es : List Event) (e g : Event) → Accepts o → In e (taken_records o es) → In g (taken_records o es) → Names e → Names g → name_of e ≡ name_of g → e ≡ g
    pub never_back : (es : List Event) (e : Event) → Accepts o → In e (taken_records o es) → Names e → Absent (name_of e) (responses (auction_after es))
    -- an amend in time: 36 where its price is worse than the initiating price, then 37 where no GTX response of that name stands, else taken; a cancel: 37, else taken
    pub amend-answers : (es : List Event) (e : Event) → Accepts o → e.kind ≡ 6 → InTime (auction_after es).head e
        → answer_is (step_of (auction_after es) e).answer ≡ cond (better (is_sell o) (initiating_price o) (new_price_of e)) (no 36) (cond (has_named (name_of e) (standing_of o (taken_records o es))) (yes "taken") (no 37))
    pub cancel-answers : (es : List Event) (e : Event) → Accepts o → e.kind ≡ 2 → InTime (auction_after es).head e
        → answer_is (step_of (auction_after es) e).answer ≡ cond (has_named (name_of e) (standing_of o (taken_records o es))) (yes "taken") (no 37)
    -- so one that was cancelled or amended is named no more: 37, and 36 before it
    pub named-no-more : (es : List Event) (e g : Event) → Accepts o → In e (taken_records o es) → Names e → Names g → name_of g ≡ name_of e → InTime (auction_after es).head g
        → answer_is (step_of (auction_after es) g).answer ≡ no (cond (is_amend g && better (is_sell o) (initiating_price o) (new_price_of g)) 36 37)

-- ---- 5. the contracts on offer

module _ (o : Order) where
  pub record Offered : Type 0 where
    -- after any records, refused ones among them, and at the end: the sum of the sizes over the live places
    pub sums : (es : List Event) → Accepts o → on_offer (auction_after o es) ≡ sum (sizes (responses (auction_after o es)))
    pub sums-end : (es : List Event) → Accepts o → on_offer (at_end o es) ≡ sum (sizes (live_at_end o es))
    -- which are those that the records taken leave standing: a GTX response, and an amended one with its new size, capped at the CUBE size; a limit order with its whole size
    pub by-records : (es : List Event) → Accepts o → on_offer (auction_after o es) ≡ sum (sizes (standing_of o (taken_records o es)))
    -- a limit order that takes a place counts, whether or not it ends the auction; one that takes none, quotes and a market order do not
    pub limit-counts : (es : List Event) (e : Event) → Accepts o → e.kind ≡ 3 → takes_place o e ≡ true → is_taken (step_of (auction_after o es) e).answer ≡ true → on_offer (auction_after o (es ++ (e ∷ []))) ≡ on_offer (auction_after o es) + size_of e
    pub limit-not : (es : List Event) (e : Event) → Accepts o → e.kind ≡ 3 → takes_place o e ≡ false → on_offer (auction_after o (es ++ (e ∷ []))) ≡ on_offer (auction_after o es)
    pub market-or-quotes : (es : List Event) (e : Event) → (e.kind ≡ 4) ⊎ (e.kind ≡ 5) → on_offer (auction_after o (es ++ (e ∷ []))) ≡ on_offer (auction_after o es)
    -- a record that is refused, or late, leaves it
    pub leaves : (es : List Event) (e : Event) → is_taken (step_of (auction_after o es) e).answer ≡ false → on_offer (auction_after o (es ++ (e ∷ []))) ≡ on_offer (auction_after o es)
    -- once the auction has ended it stands at its last value, whatever records come; closing by hand leaves it too, and what comes after that
    pub stands : (es fs : List Event) → is_open (auction_after o es).head.ending ≡ false → on_offer (auction_after o (es ++ fs)) ≡ on_offer (auction_after o es)
    pub closing : (es fs : List Event) → on_offer (run (at_end o es) fs) ≡ on_offer (auction_after o es)
    -- on a watch each EVENT line is the listing's, with the sum after that record at its end
    pub watched : (es : List Event) (e : Event) → Accepts o
        → watch_line (auction_after o es) e ≡ event_text (said e.sequence (step_of (auction_after o es) e).answer) ++ (field " on offer " (sum (sizes (standing_of o (taken_records o (es ++ (e ∷ [])))))) ++ newline)

-- ---- 7. which firm stands behind a response

-- of an auction: the firm is answered for every live response, by its sequence, and for no other sequence
pub record Told (a : Auction) : Type 0 where
  pub answers : (r : Response) → In r (responses a) → participant_of a r.sequence ≡ Some r.participant
  pub nobody : (k : ℕ) → Absent k (responses a) → participant_of a k ≡ None

module _ (o : Order) where
  pub record Firms : Type 0 where
    -- it is the participant of the record that sent the response; of an amended one that of the amend (which record that is: `one-record` of part 4)
    pub of-record : (es : List Event) (e : Event) (r : Response) → Sends o es e r → r.participant ≡ e.participant
    -- after any records, and at the end
    pub told : (es : List Event) → Accepts o → Told (auction_after o es)
    pub told-end : (es : List Event) → Accepts o → Told (at_end o es)
    -- so, of every sequence, it is that of the response with it that the records taken leave standing; nobody's where there is none: cancelled, amended away, never placed, a market order
    pub by-records : (es : List Event) (k : ℕ) → Accepts o → option_to_list (participant_of (auction_after o es) k) ≡ map (λ r. r.participant) (filter (λ r. eqb r.sequence k) (standing_of o (taken_records o es)))
    pub by-records-end : (es : List Event) (k : ℕ) → Accepts o → option_to_list (participant_of (at_end o es) k) ≡ map (λ r. r.participant) (filter (λ r. eqb r.sequence k) (standing_of o (taken_records o es)))

-- an event with participant 0, all else as it is
abbrev pub unnamed : Event → Event
unnamed e = record { sequence = e.sequence; time = e.time; kind = e.kind; marks = e.marks; side = e.side; f12 = e.f12; f16 = e.f16; f20 = e.f20; f24 = e.f24; participant = 0 }

-- the participants of the records are free on every kind, and change no answer, no fill and no line
pub record Unshown : Type 0 where
  pub form : (e : Event) → event_formed (unnamed e) ≡ event_formed e
  pub answers : (o : Order) (es : List Event) → heard (auction_of o) (map unnamed es) ≡ heard (auction_of o) es
  pub fills : (o : Order) (es : List Event) → auction_fills (at_end o (map unnamed es)) ≡ auction_fills (at_end o es)
  -- two tapes of one order, whose records differ in their participants alone, have the same listing
  pub listed : (s t : List ℕ) (o : Order) (es fs : List Event) → Carries s o es → Carries t o fs → map unnamed fs ≡ map unnamed es → listing_of t ≡ listing_of s

-- ---- 8. a tape in the other form

-- the tape s moved into the bytes `out`; `wide` is the form that is wanted
pub record MovedTape (wide : Bool) (s out : List ℕ) : Type 0 where
  -- a refusal has one of six numbers, and changes no byte
  pub refused : (n : ℕ) → paper_of (move_answer wide s out) ≡ no n → In n (21 ∷ 22 ∷ 23 ∷ 25 ∷ 26 ∷ 24 ∷ []) × (move_wrote wide s out ≡ out)
  -- else the moved tape stands at the start, and every byte past its length stays; it has the same listing
  pub stays : (n : ℕ) → paper_of (move_answer wide s out) ≡ yes n → drop n (move_wrote wide s out) ≡ drop n out
  pub listed : (n : ℕ) → paper_of (move_answer wide s out) ≡ yes n → listing_of (moved_to wide s out n) ≡ listing_of s
  -- and moved back, wherever there is room for it, it is the tape byte for byte
  pub back : (n : ℕ) → paper_of (move_answer wide s out) ≡ yes n → AllBytes s → (out' : List ℕ) → length s ≤ length out'
      → (paper_of (move_answer (not wide) (moved_to wide s out n) out') ≡ yes (length s)) × (move_wrote (not wide) (moved_to wide s out n) out' ≡ s ++ drop (length s) out')
