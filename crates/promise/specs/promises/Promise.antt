-- The promise: what the user is promised of every tape, on one page. A tape is any list of bytes.
use Rattle.std.specs.Prelude.{◌≡◌, Bool, Err, List, [], ◌≢◌, ℕ, ◌≤◌, ◌<◌}
use Rattle.base.specs.declared.refusal.Refusal.{Refusal}
use Rattle.base.specs.Lists.{Every}
use Rattle.words.specs.rules.Bytes.{AllBytes}
use Rattle.tape.specs.declared.order.Order.{Order}
use Rattle.tape.specs.declared.event.Event.{Event}
use Rattle.mirror.specs.rules.Mirror.{mirrored_order}
use Rattle.auction.specs.rules.Accept.{auction_of, accept_of, Accepts}
use Rattle.auction.specs.rules.Range.{range_of}
use Rattle.auction.specs.declared.Auction.{Auction}
use Rattle.run.specs.rules.Run.{heard, run_of}
use Rattle.run.specs.promises.Demands.{Keeps, mirrored_records}
use Rattle.roundtrip.specs.promises.Demands.{Demands}
use Rattle.listing.specs.rules.Listing.{listing_of}
use Rattle.listing.specs.rules.Watch.{watch_lines}
use Rattle.promise.specs.rules.Tapes.{Carries, SomeTape, end_of, watch_of, not_refused, not_refused_said, WithResent, mirrored_lines}
use Rattle.promise.specs.rules.Answers.{no, paper_of}
use Rattle.promise.specs.rules.Sides.{opening_range}
use Rattle.promise.specs.rules.Events.{lines_with, watch_with}
use Rattle.share.specs.rules.Fills.{Fill}
use Rattle.promise.specs.rules.Orders.{order_number}
use Rattle.promise.specs.promises.Parts.{Answered, Roomed, Filling, Numbered, EventNumber, InRealPrices, RealPrices, InRealTerms, CountedOnce, Offered, Firms, Unshown, MovedTape}
use Rattle.promise.specs.promises.Below.{Below}

pub record Promise : Type 0 where
  -- 1. Every tape is answered: `REFUSED` and its number, or an auction's listing; whatever room is lent for it
  pub answered : (s : List ℕ) → Answered s
  -- an order is accepted and opens its auction, or is refused with the first number that its own fields give
  pub order-number : (o : Order) → paper_of (accept_of o) ≡ order_number o (auction_of o)
  pub roomed : (s out : List ℕ) → Roomed s out
  pub filling : (a : Auction) (xs : List ℕ) (start : ℕ) → Filling a xs start
  pub numbered : Numbered
  pub event-numbers : (a : Auction) (es : List Event) → Every EventNumber (heard a es)
  -- a refusal changes nothing: the tape without its refused records has the same END, FILL and TOTAL lines, and the other records are answered as before
  pub keeps : Keeps
  pub can-lack : (s : List ℕ) (o : Order) (es : List Event) (a : Auction) → AllBytes s → (c : Carries s o es) → SomeTape c.trailer.wide o (not_refused a es)
  pub without-refused : (s t : List ℕ) (o : Order) (es : List Event) → Carries s o es → Carries t o (not_refused (auction_of o) es) → end_of t ≡ end_of s
  -- the tape of a refused order has none of those lines
  pub none-refused : (s : List ℕ) (o : Order) (es : List Event) (r : Refusal) → Carries s o es → accept_of o ≡ Err r → end_of s ≡ []
  pub answered-alike : (a : Auction) (es : List Event) → heard a (not_refused a es) ≡ not_refused_said (heard a es)
  -- 2. Records read and write back to the same values and the same bytes, in both forms: order, event, trailer, whole tape
  pub read_back : Demands
  -- 3. Demand 3 in real prices, of every order that is accepted and every list of records after it; where none of them ends the auction it is closed by hand. The range at the opening is that of the order's own fields
  pub first_range : (o : Order) → Accepts o → range_of (auction_of o).head ≡ opening_range o
  -- and is not empty. 13 is given where it would be, under 50 contracts and with a collared order on the other side alone; there 11 and 12 are not
  pub some-range : (o : Order) → Accepts o → (opening_range o).low ≤ (opening_range o).high
  pub no-range : (o : Order) → paper_of (accept_of o) ≡ no 13 → ((opening_range o).high < (opening_range o).low) × (o.size < 50) × (o.displayed ≢ 0)
  pub only-13 : (o : Order) (n : ℕ) → paper_of (accept_of o) ≡ no n → 10 < n → (opening_range o).high < (opening_range o).low → n ≡ 13
  pub trades : (o : Order) (es : List Event) → Accepts o → InRealPrices o es
  -- the same by the order's own fields and the records alone: each record's answer by those before it, the ending, the range and the fills by all
  pub real-terms : (o : Order) (es : List Event) → Accepts o → InRealTerms o es
  -- so the listing and the watch of every tape whose order is accepted are settled by the order's own fields, the records and the clauses
  pub printed : (s : List ℕ) (o : Order) (es : List Event) (fs : List Fill) → Carries s o es → Accepts o → RealPrices o es fs → listing_of s ≡ lines_with o es fs
  pub watch-printed : (s : List ℕ) (o : Order) (es : List Event) (fs : List Fill) → Carries s o es → Accepts o → RealPrices o es fs → watch_of s ≡ watch_with o es fs
  -- 4. A response that stands on the board is never counted twice, and an amended one once, with its latest size and price: what stands is a fold of the records taken
  pub counted : (o : Order) → CountedOnce o
  -- a tape with any number of resent records put in, or of any records after the ending, has the same END, FILL and TOTAL lines (a tape has at most 2,045 records, and a new one 1,636)
  pub same-records : (a : Auction) (es fs : List Event) → WithResent a es fs → not_refused a fs ≡ not_refused a es
  pub resends : (s t : List ℕ) (o : Order) (es fs : List Event) → Carries s o es → Carries t o fs → WithResent (auction_of o) es fs → end_of t ≡ end_of s
  -- 5. The contracts on offer, kept in the auction and shown on a watch, are the sum of the sizes over the live places after every record; a refusal leaves them, and after the ending they stand at their last value
  pub on-offer : (o : Order) → Offered o
  -- 6. Sells mirror buys: the tape whose order and records in form are mirrored (a record out of form stays as it is) has the mirrored listing
  pub can-mirror : (s : List ℕ) (o : Order) (es : List Event) → AllBytes s → (c : Carries s o es) → SomeTape c.trailer.wide (mirrored_order o) (mirrored_records es)
  pub mirrors : (s t : List ℕ) (o : Order) (es : List Event) → Carries s o es → Carries t (mirrored_order o) (mirrored_records es) → listing_of t ≡ mirrored_lines (run_of s)
  -- and the same EVENT lines on a watch
  pub mirrors-watch : (o : Order) (es : List Event) → Accepts o → watch_lines (auction_of (mirrored_order o)) (mirrored_records es) ≡ watch_lines (auction_of o) es
  -- 7. Which firm stands behind a live response: the participant of the record that sent it, and of an amended one that of the amend
  pub firms : (o : Order) → Firms o
  -- it is in no answer, no fill and no line
  pub unshown : Unshown
  -- 8. A tape moves between the old form and the new: the same listing, and back the identical bytes
  pub moved : (wide : Bool) (s out : List ℕ) → MovedTape wide s out
  -- and the theorems below
  pub below : Below
