-- How long a listing is at most: its lines, the records of a tape, and the fills of a board of 64 places.
use mathlib.Core.Path.{◌≡◌, refl, ap, ◌∙◌}
use mathlib.Core.Bool.{Bool, true, false, cond}
use mathlib.Core.List.{List, [], ◌∷◌, ◌++◌}
use Prim.Native.Nat.{ℕ, suc, ◌+◌, ◌*◌, ◌≤◌}
use Prim.Native.String.{String}
use native.Mathlib.Omega.{arith}
use lib.Dec.{eqb, ltb}
use lib.ListN.{length, length-append, length-set}
use Rattle.std.specs.Prelude.{Result, Ok, Err}
use Rattle.base.specs.Refusal.{number_of}
use Rattle.base.specs.declared.refusal.Refusal.{Refusal}
use Rattle.board.specs.declared.Board.{Board}
use Rattle.board.specs.rules.Board.{empty_board, seated_at}
use Rattle.share.specs.rules.Fills.{Fill}
use Rattle.tape.specs.declared.event.Event.{Event}
use Rattle.tape.specs.declared.order.Order.{Order}
use Rattle.tape.specs.declared.trailer.Trailer.{Trailer}
use Rattle.tape.specs.rules.Tape.{open_tape, order_in, records_of}
use Rattle.tape.proofs.HoldsLaws.{records-length}
use Rattle.trade.specs.rules.Trade.{traded}
use Rattle.trade.proofs.WholeLaws.{fills-few}
use Rattle.auction.specs.declared.Auction.{Auction}
use Rattle.auction.specs.declared.Head.{Head}
use Rattle.base.proofs.Bools.{by}
use Rattle.events.specs.declared.Answer.{Answer}
use Rattle.events.specs.declared.Answer.TheVariants.{Taken, Ended, Late, Refused}
use Rattle.auction.specs.declared.Ending.{Ending}
use Rattle.auction.specs.declared.Ending.TheVariants.{Open, Time, Same, Opposite, Improve}
use Rattle.auction.specs.declared.Range.{Range}
use Rattle.decision.specs.declared.Change.{Change}
use Rattle.decision.specs.declared.Change.TheVariants.{Nothing, Seat, Free, Quote, Sell}
use Rattle.auction.specs.rules.Accept.{opened_by, accept_of}
use Rattle.auction.proofs.Accepted.{opened}
use Rattle.events.specs.rules.Step.{sight_of, board_after, turn_of, close_turn, step_of}
use Rattle.auction.specs.rules.Range.{range_of}
use Rattle.fills.specs.rules.Fills.{deal_of, auction_fills}
use Rattle.listing.specs.rules.Text.{text, decimal, newline}
use Rattle.run.specs.rules.Run.{Said, run, heard, closed, run_entry, run_order, run_tape, run_of}
use Rattle.listing.specs.rules.Listing.{field, refused_line, range_text, side_text, auction_line, answer_text, event_text, event_line, event_line_with, end_text, end_line, party_text, fill_line, total_line, event_lines, fill_lines, end_lines, lines_of, listing_of, room_of}
use Rattle.listing.proofs.DecimalLaws.{decimal-short}
use Rattle.listing.proofs.RunLaws.{tape-fits}

-- ---- lines

field-short : (s : String) (n : ℕ) → length (field s n) ≤ length (text s) + 20
field-short s n = omega (arith, length-append (text s) (decimal n), decimal-short n)

-- a text of at most k bytes after one of at most j
then-short : (j k : ℕ) (s t : List ℕ) → length s ≤ j → length t ≤ k → length (s ++ t) ≤ j + k
then-short j k s t h i = omega (arith, length-append s t)

pub refused-short : (n : ℕ) → length (refused_line n) ≤ 29
unfolding refused_line
refused-short n = then-short 28 1 (field "REFUSED " n) newline (field-short "REFUSED " n) (omega arith)

range-short : (r : Range) → length (range_text r) ≤ 52
unfolding range_text
range-short r =
    then-short 27 25 (field " range " r.low) (field " to " r.high ++ newline) (field-short " range " r.low)
    (then-short 24 1 (field " to " r.high) newline (field-short " to " r.high) (omega arith))

side-short : (b : Bool) → length (side_text b) ≤ 12
side-short true = omega arith
side-short false = omega arith

pub auction-short : (h : Head) → length (auction_line h) ≤ 90
unfolding auction_line
auction-short h =
    then-short 12 78 (side_text h.terms.sell) (field " size " h.terms.size ++ range_text (range_of h)) (side-short h.terms.sell)
    (then-short 26 52 (field " size " h.terms.size) (range_text (range_of h)) (field-short " size " h.terms.size) (range-short (range_of h)))

answer-short : (r : Answer) → length (answer_text r) ≤ 29
unfolding answer_text
answer-short Taken = omega arith
answer-short Ended = omega arith
answer-short Late = omega arith
answer-short (Refused r) = field-short " refused " (number_of r)

said-short : (e : Said) → length (event_text e) ≤ 55
unfolding event_text
said-short e = then-short 26 29 (field "EVENT " e.sequence) (answer_text e.answer) (field-short "EVENT " e.sequence) (answer-short e.answer)

event-short : (e : Said) → length (event_line e) ≤ 56
unfolding event_line
event-short e = then-short 55 1 (event_text e) newline (said-short e) (omega arith)

pub watched-short : (e : Said) (n : ℕ) → length (event_line_with e n) ≤ 86
unfolding event_line_with
watched-short e n = then-short 55 31 (event_text e) (field " on offer " n ++ newline) (said-short e) (then-short 30 1 (field " on offer " n) newline (field-short " on offer " n) (omega arith))

ending-short : (g : Ending) → length (end_text g) ≤ 12
unfolding end_text
ending-short Open = omega arith
ending-short Time = omega arith
ending-short Same = omega arith
ending-short Opposite = omega arith
ending-short Improve = omega arith

end_short : (h : Head) → length (end_line h) ≤ 64
unfolding end_line
end_short h = then-short 12 52 (end_text h.ending) (range_text (range_of h)) (ending-short h.ending) (range-short (range_of h))

party-short : (p : ℕ) → length (party_text p) ≤ 25
unfolding party_text
party-short p = go (eqb p 0)
  where
    go : (b : Bool) → length (cond b (text "FILL contra") (field "FILL " p)) ≤ 25
    go true = omega arith
    go false = field-short "FILL " p

fill-short : (f : Fill) → length (fill_line f) ≤ 68
unfolding fill_line
fill-short f =
    then-short 25 43 (party_text f.party) (field " " f.price ++ (field " " f.quantity ++ newline)) (party-short f.party)
    (then-short 21 22 (field " " f.price) (field " " f.quantity ++ newline) (field-short " " f.price)
    (then-short 21 1 (field " " f.quantity) newline (field-short " " f.quantity) (omega arith)))

total-short : (n : ℕ) → length (total_line n) ≤ 27
unfolding total_line
total-short n = then-short 26 1 (field "TOTAL " n) newline (field-short "TOTAL " n) (omega arith)

events-short : (es : List Said) → length (event_lines es) ≤ 56 * length es
events-short [] = omega arith
events-short (e ∷ es) = omega (arith, length-append (event_line e) (event_lines es), event-short e, events-short es)

fills-short : (fs : List Fill) → length (fill_lines fs) ≤ 68 * length fs
fills-short [] = omega arith
fills-short (f ∷ fs) = omega (arith, length-append (fill_line f) (fill_lines fs), fill-short f, fills-short fs)

-- ---- the events

heard-length : (es : List Event) (a : Auction) → length (heard a es) ≡ length es
heard-length [] a = refl
heard-length (e ∷ es) a = ap suc (heard-length es (step_of a e).auction)

-- ---- a board keeps its 64 places

abbrev places : Auction → ℕ
places a = length a.board.places

board-kept : (b : Board) (c : Change) → length (board_after b c).places ≡ length b.places
unfolding seated_at
board-kept b Nothing = refl
board-kept b (Seat i r gone) = by (λ (x : Board). length x.places ≡ length b.places) (ltb i 64) _ _ (λ _. length-set b.places i r) (λ _. refl)
board-kept b (Free i gone) = refl
board-kept b (Quote q) = refl
board-kept b (Sell m) = refl

run-kept : (es : List Event) (a : Auction) → places (run a es) ≡ places a
run-kept [] a = refl
run-kept (e ∷ es) a = run-kept es (step_of a e).auction ∙ board-kept a.board (turn_of a.head (sight_of a.board e) e).change

pub closed-kept : (a : Auction) → places (closed a) ≡ places a
closed-kept a = board-kept a.board (close_turn a.head).change

-- an auction begins with the empty board
pub accept-empty : (o : Order) {a : Auction} → accept_of o ≡ Ok a → a.board ≡ empty_board
unfolding opened_by
accept-empty o h = ap (λ (a : Auction). a.board) (opened o h).auction

accept-places : (o : Order) (a : Auction) → accept_of o ≡ Ok a → places a ≡ 64
unfolding empty_board
accept-places o a h = ap (λ (b : Board). length b.places) (accept-empty o h)

-- ---- the listing

pub end-lines-short : (a : Auction) → places a ≡ 64 → length (end_lines a) ≤ 8931
unfolding end_lines
end-lines-short a h =
    let fs : List Fill = auction_fills a in
    then-short 64 8867 (end_line a.head) (fill_lines fs ++ total_line (traded fs)) (end_short a.head)
    (then-short 8840 27 (fill_lines fs) (total_line (traded fs)) (omega (arith, fills-short fs, fills-few (deal_of a.head) a.board h)) (total-short (traded fs)))

entry-short : (es : List Event) (x : Result Auction Refusal) → length es ≤ 2045 → ((a : Auction) → x ≡ Ok a → places a ≡ 64) → length (lines_of (run_entry es x)) ≤ room_of
entry-short es (Err r) h p = omega (arith, refused-short (number_of r))
entry-short es (Ok a) h p =
    let last : Auction = closed (run a es) in
    let said : List Said = heard a es in
    omega (
      arith,
      length-append (auction_line a.head) (event_lines said ++ end_lines last),
      length-append (event_lines said) (end_lines last),
      auction-short a.head,
      events-short said,
      heard-length es a,
      end-lines-short last (closed-kept (run a es) ∙ run-kept es a ∙ p a refl),
    )

pub auction-fits : (s : List ℕ) (t : Trailer) (a : Auction) → t.events ≤ 2045 → a.board ≡ empty_board → length (lines_of (run_entry (records_of s t) (Ok a))) ≤ room_of
unfolding empty_board
auction-fits s t a h e = entry-short (records_of s t) (Ok a) (omega (arith, h, records-length s t)) (λ b i. let q : b ≡ a = cc in ap (λ (x : Auction). length x.board.places) q ∙ ap (λ (x : Board). length x.places) e)

order-short : (es : List Event) (r : Result Order Refusal) → length es ≤ 2045 → length (lines_of (run_order es r)) ≤ room_of
order-short es (Err r) h = omega (arith, refused-short (number_of r))
order-short es (Ok o) h = entry-short es (accept_of o) h (accept-places o)

tape-short : (s : List ℕ) (r : Result Trailer Refusal) → open_tape s ≡ r → length (lines_of (run_tape s r)) ≤ room_of
tape-short s (Err r) e = omega (arith, refused-short (number_of r))
tape-short s (Ok t) e = order-short (records_of s t) (order_in s t) (omega (arith, records-length s t, tape-fits s t e))

-- every listing fits the room
pub listing-fits : (s : List ℕ) → length (listing_of s) ≤ room_of
unfolding listing_of run_of
listing-fits s = tape-short s (open_tape s) refl
