-- Worked examples on a board of 64 places, by computation. Assumes nothing.
use mathlib.Core.Path.{◌≡◌, refl}
use mathlib.Core.Bool.{true, false}
use mathlib.Core.List.{List, [], ◌∷◌, ◌++◌, map}
use Prim.Native.Nat.{ℕ, zero, suc}
use lib.ListN.{replicate}
use Rattle.words.specs.rules.Bits.{with_bit, without_bit, ones_in, clear_in}
use Rattle.base.specs.Lists.{sum}
use Rattle.board.specs.rules.Board.{no_response, empty_board, live_count, first_free, live_in, live_of, seated_at, cleared, find_in, find_named, find_gtx, inserted, in_sequence}
use Rattle.board.specs.inside.Places.{word_of, lowest_from, first_in_sequence}
use Rattle.board.specs.declared.Response.{Response}
use Rattle.board.specs.declared.Board.{Board}

-- a sell of n at 100: a GTX response, or a limit order
abbrev gtx : ℕ → ℕ → Response
gtx s n = record { sequence = s; size = n; price = 100; participant = 0; customer = false; gtx = true }

abbrev limit : ℕ → ℕ → Response
limit s n = record { sequence = s; size = n; price = 100; participant = 0; customer = false; gtx = false }

-- live at places 0, 2, 3 and 63; what stands at place 1 is dead
abbrev some : Board
some = record {
  places = gtx 9 10 ∷ gtx 8 20 ∷ limit 7 30 ∷ gtx 12 40 ∷ replicate 59 no_response ++ (gtx 7 50 ∷ []);
  live = 0x8000_0000_0000_000D;
}

-- the sequences of a list
abbrev sequences : List Response → List ℕ
sequences rs = map (λ (r : Response). r.sequence) rs

counted : live_count some ≡ 4
unfolding ones_in
counted = refl

free : first_free some ≡ 1
unfolding clear_in
free = refl

live : sequences (live_of some) ≡ 9 ∷ 7 ∷ 12 ∷ 7 ∷ []
unfolding live_in
live = refl

-- at the lowest free place
placed : Board → Response → Board
placed b r = seated_at b (first_free b) r

-- the lowest free place is taken, and what stood there is gone
place-one : sequences (live_of (placed some (gtx 20 5))) ≡ 9 ∷ 20 ∷ 7 ∷ 12 ∷ 7 ∷ []
unfolding placed seated_at live_in clear_in with_bit
place-one = refl

place-two : first_free (placed some (gtx 20 5)) ≡ 4
unfolding placed seated_at clear_in with_bit
place-two = refl

-- any place may be named; at one past the end nothing happens
seat-five : sequences (live_of (seated_at some 5 (gtx 20 5))) ≡ 9 ∷ 7 ∷ 12 ∷ 20 ∷ 7 ∷ []
unfolding seated_at live_in with_bit
seat-five = refl

seat-past : seated_at some 64 (gtx 20 5) ≡ some
unfolding seated_at
seat-past = refl

clear-one : sequences (live_of (cleared some 63)) ≡ 9 ∷ 7 ∷ 12 ∷ []
unfolding live_in without_bit
clear-one = refl

-- a dead place, and one past the end: nothing happens
clear-dead : cleared some 1 ≡ some
unfolding without_bit
clear-dead = refl

clear-past : cleared some 64 ≡ some
unfolding without_bit
clear-past = refl

-- the live GTX of a sequence: not the limit order at place 2, and not the dead one at place 1
find-seven : find_gtx some 7 ≡ 63
unfolding find_in
find-seven = refl

-- any response, and not a GTX response alone: the limit order
find-any : find_named true some 7 ≡ 2
unfolding find_in
find-any = refl

find-eight : find_gtx some 8 ≡ 64
unfolding find_in
find-eight = refl

find-cleared : find_gtx (cleared some 63) 7 ≡ 64
unfolding find_in without_bit
find-cleared = refl

-- the word of the live GTX responses: places 0, 3 and 63
gtx-word : word_of (λ (r : Response). r.gtx) some.live some.places ≡ 0x8000_0000_0000_0009
unfolding word_of
gtx-word = refl

-- the lower of the two places with sequence 7, then the other
first : first_in_sequence some.places some.live ≡ 2
unfolding find_in live_in lowest_from
first = refl

second : first_in_sequence some.places (cleared some 2).live ≡ 63
unfolding find_in live_in lowest_from without_bit
second = refl

nobody : first_in_sequence some.places 0 ≡ 64
unfolding find_in live_in lowest_from
nobody = refl

sorted : in_sequence (live_of some) ≡ limit 7 30 ∷ gtx 7 50 ∷ gtx 9 10 ∷ gtx 12 40 ∷ []
unfolding live_in inserted in_sequence
sorted = refl

-- placed one after another, with falling sequences: each takes the lowest free place, and the 65th none
placings : ℕ → Board → Board
placings zero b = b
placings (suc n) b = placings n (placed b (gtx n 2))

full : live_count (placings 64 empty_board) ≡ 64
unfolding placings empty_board placed seated_at clear_in with_bit ones_in
full = refl

no_room : placed (placings 64 empty_board) (gtx 99 2) ≡ placings 64 empty_board
unfolding placings empty_board placed seated_at clear_in with_bit
no_room = refl

all-sizes : sum (map (λ (r : Response). r.size) (in_sequence (live_of (placings 64 empty_board)))) ≡ 128
unfolding placings empty_board placed seated_at clear_in with_bit live_in inserted in_sequence sum
all-sizes = refl

last-is-first : first_in_sequence (placings 64 empty_board).places (placings 64 empty_board).live ≡ 63
unfolding placings empty_board placed seated_at clear_in with_bit find_in live_in lowest_from
last-is-first = refl

-- a cleared place is the next one taken
reused : first_free (cleared (placings 64 empty_board) 17) ≡ 17
unfolding placings empty_board placed seated_at clear_in with_bit without_bit
reused = refl
