-- The runner's listing (document 01): from a tape's bytes to the listing's bytes.
use Rattle.std.specs.Prelude.{Bool, cond, List, [], ◌∷◌, ◌++◌, ℕ, eqb, ltb, length, drop}
use Prim.Native.String.{String}
use Rattle.base.specs.Refusal.{number_of}
use Rattle.share.specs.rules.Fills.{Fill}
use Rattle.trade.specs.rules.Trade.{traded}
use Rattle.auction.specs.declared.Auction.{Auction}
use Rattle.auction.specs.declared.Head.{Head}
use Rattle.auction.specs.declared.Range.{Range}
use Rattle.auction.specs.declared.Ending.{Ending}
use Rattle.auction.specs.declared.Ending.TheVariants.{Open, Time, Same, Opposite, Improve}
use Rattle.events.specs.declared.Answer.{Answer}
use Rattle.events.specs.declared.Answer.TheVariants.{Taken, Ended, Late, Refused}
use Rattle.auction.specs.rules.Range.{range_of}
use Rattle.fills.specs.rules.Fills.{auction_fills}
use Rattle.listing.specs.rules.Text.{text, newline, decimal}
use Rattle.run.specs.rules.Run.{Said, Run, refused, ended, run_of}
use Rattle.listing.specs.declared.Listed.{Listed}
use Rattle.base.specs.declared.refusal.Refusal.{Refusal}
use Rattle.base.specs.declared.refusal.Refusal.TheVariants.{RoomTooShort}
use Rattle.std.specs.Prelude.{Result, Ok, Err}
use Rattle.auction.specs.declared.Ending.{Ending}

-- ---- lines

-- a text, and a number after it
abbrev pub field : String → ℕ → List ℕ
field s n = text s ++ decimal n

-- REFUSED and the number
unfoldable pub refused_line : ℕ → List ℕ
refused_line number = field "REFUSED " number ++ newline

-- a range, low to high, up to the line's end
unfoldable pub range_text : Range → List ℕ
range_text r = field " range " r.low ++ (field " to " r.high ++ newline)

abbrev pub side_text : Bool → List ℕ
side_text sell = cond sell (text "AUCTION sell") (text "AUCTION buy")

-- the order's side and size, and the range at the opening
unfoldable pub auction_line : Head → List ℕ
auction_line h = side_text h.terms.sell ++ (field " size " h.terms.size ++ range_text (range_of h))

unfoldable pub answer_text : Answer → List ℕ
answer_text Taken = text " taken"
answer_text Ended = text " ended"
answer_text Late = text " late"
answer_text (Refused r) = field " refused " (number_of r)

-- the sequence and the answer
unfoldable pub event_text : Said → List ℕ
event_text e = field "EVENT " e.sequence ++ answer_text e.answer

unfoldable pub event_line : Said → List ℕ
event_line e = event_text e ++ newline

-- the same with the contracts on offer at its end, for a watch
unfoldable pub event_line_with : Said → ℕ → List ℕ
event_line_with e offered = event_text e ++ (field " on offer " offered ++ newline)

-- why it ended (never `open`: an auction still open is closed by hand)
unfoldable pub end_text : Ending → List ℕ
end_text Time = text "END time"
end_text Same = text "END same"
end_text Opposite = text "END opposite"
end_text Improve = text "END improve"
end_text Open = text "END open"

-- and the range that then holds
unfoldable pub end_line : Head → List ℕ
end_line h = end_text h.ending ++ range_text (range_of h)

-- the party is 0 for the Contra Order
unfoldable pub party_text : ℕ → List ℕ
party_text party = cond (eqb party 0) (text "FILL contra") (field "FILL " party)

-- party, price, quantity
unfoldable pub fill_line : Fill → List ℕ
fill_line f = party_text f.party ++ (field " " f.price ++ (field " " f.quantity ++ newline))

unfoldable pub total_line : ℕ → List ℕ
total_line n = field "TOTAL " n ++ newline

-- ---- the listing

abbrev pub event_lines : List Said → List ℕ
event_lines [] = []
event_lines (e ∷ es) = event_line e ++ event_lines es

abbrev pub fill_lines : List Fill → List ℕ
fill_lines [] = []
fill_lines (f ∷ fs) = fill_line f ++ fill_lines fs

-- the ending, the fills, and the sum of their quantities
unfoldable pub end_lines : Auction → List ℕ
end_lines a = end_line a.head ++ (fill_lines (auction_fills a) ++ total_line (traded (auction_fills a)))

abbrev pub lines_of : Run → List ℕ
lines_of (refused r) = refused_line (number_of r)
lines_of (ended first said last) = auction_line first.head ++ (event_lines said ++ end_lines last)

unfoldable pub listing_of : List ℕ → List ℕ
listing_of s = lines_of (run_of s)

-- ---- what `listing` answers, and the lent bytes after it

-- a text at the start of lent bytes, every byte past it as it was; nothing changes where they are fewer than the room
abbrev pub at_start : ℕ → List ℕ → List ℕ → List ℕ
at_start room t out = cond (ltb (length out) room) out (t ++ drop (length t) out)

-- the room that every listing fits
abbrev pub room_of : ℕ
room_of = 131072

-- what came of a tape: a refusal, or why its auction ended
abbrev pub outcome_of : Run → Result Ending Refusal
outcome_of (refused r) = Err r
outcome_of (ended first said last) = Ok last.head.ending

-- that, and how long the listing is
abbrev pub answer_of : ℕ → Run → Listed
answer_of n run = record { outcome = outcome_of run; length = n }

-- the length in an answer
abbrev pub length_in : Listed → ℕ
length_in l = l.length

-- 24, before anything else, where the room is too small
unfoldable pub listed_of : List ℕ → List ℕ → Listed
listed_of s out = cond (ltb (length out) room_of) (record { outcome = Err RoomTooShort; length = 0 }) (answer_of (length (listing_of s)) (run_of s))

unfoldable pub bytes_of : List ℕ → List ℕ → List ℕ
bytes_of s out = at_start room_of (listing_of s) out
