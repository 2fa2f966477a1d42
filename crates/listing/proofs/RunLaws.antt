-- Laws of the loop over a tape's events.
use mathlib.Core.Path.{◌≡◌, refl, sym, ap, ap₂, ◌∙◌}
use mathlib.Core.Bool.{Bool, true, false, cond, not}
use mathlib.Core.List.{List, [], ◌∷◌, ◌++◌}
use Prim.Native.Nat.{ℕ, suc, ◌+◌, ◌-◌, ◌≤◌, ◌<◌}
use native.Mathlib.Nat.{sub-zero}
use native.Mathlib.Omega.{arith}
use borrow.Author.Tests.{lt-ltb, le-ltb}
use lib.ListN.{set}
use Rattle.std.specs.Prelude.{Ok}
use Rattle.base.specs.declared.refusal.Refusal.TheVariants.{AuctionEnded}
use Rattle.words.specs.rules.Bits.{with_bit, without_bit}
use Rattle.board.specs.rules.Board.{empty_board, seated_at}
use Rattle.board.specs.promises.Board.{Good}
use Rattle.board.proofs.BoardLaws.{seated-good, cleared-good}
use Rattle.board.specs.declared.Board.{Board}
use Rattle.board.specs.declared.Response.{Response}
use Rattle.tape.specs.declared.event.Event.{Event}
use Rattle.tape.specs.declared.trailer.Trailer.{Trailer}
use Rattle.tape.specs.rules.Tape.{open_tape, record_in, records_from, records_of}
use Rattle.tape.proofs.HoldsLaws.{tape-took, records-none, records-more}
use Rattle.tape.proofs.RecordLaws.{at_least}
use Rattle.auction.specs.declared.Auction.{Auction}
use Rattle.auction.specs.declared.Head.{Head}
use Rattle.events.specs.declared.Stepped.{Stepped}
use Rattle.events.specs.declared.Turn.{Turn}
use Rattle.decision.specs.declared.Change.{Change}
use Rattle.decision.specs.declared.Change.TheVariants.{Nothing, Seat, Free, Quote, Sell}
use Rattle.events.specs.declared.Answer.TheVariants.{Late, Refused}
use Rattle.events.specs.rules.Step.{sight_of, board_after, stays, ended_by_time, turn_of, close_turn, gives, seated_on, step_of}
use Rattle.auction.specs.rules.Range.{is_open}
use Rattle.fills.specs.rules.Fills.{has_ended}
use Rattle.run.specs.rules.Run.{run, said, heard, closed}
use Rattle.run.proofs.SoundLaws as Runs
use Rattle.listing.specs.rules.Listing.{event_line, event_lines}

-- a tape that opens has no more events than its listing has room for
pub tape-fits : (s : List ℕ) (t : Trailer) → open_tape s ≡ Ok t → t.events ≤ 2045
tape-fits s t e = let k = tape-took s t e in omega (arith, k.0, k.1, at_least t.wide t.events)

-- an auction that was closed by hand has ended
pub closed-ended : (a : Auction) → has_ended (closed a).head ≡ true
closed-ended a = ap not (Runs.closed-ended a)

-- ---- the events, from record k on

-- a head and a board, as an auction
abbrev pub whole : Head → Board → Auction
whole h b = record { head = h; board = b }

-- closing leaves the board
pub closed-whole : (h : Head) (b : Board) (u : Turn) → u ≡ close_turn h → whole u.head b ≡ closed (whole h b)
unfolding close_turn
closed-whole h b u e = ap (λ (v : Turn). whole v.head b) e ∙ go (is_open h.ending)
  where
    go : (t : Bool) → whole (cond t (stays Late (ended_by_time h)) (stays (Refused AuctionEnded) h)).head b ≡ (seated_on b (cond t (stays Late (ended_by_time h)) (stays (Refused AuctionEnded) h))).auction
    go true = refl
    go false = refl

-- ---- a change, seated on the loop's own board

module _ (b after : Board) (c : Change) where
  pub seat-set : (i : ℕ) (r : Response) (gone w : ℕ) → c ≡ Seat i r gone → i < 64 → w ≡ with_bit b.live i → after ≡ record { places = set b.places i r; live = w } → after ≡ board_after b c
  unfolding seated_at
  seat-set i r gone w e l z f = f ∙ simp (z, e, lt-ltb _ _ l)

  pub seat-past : (i : ℕ) (r : Response) (gone : ℕ) → c ≡ Seat i r gone → 64 ≤ i → after ≡ b → after ≡ board_after b c
  unfolding seated_at
  seat-past i r gone e l f = f ∙ simp (e, le-ltb _ _ l)

  pub seat-free : (i gone w : ℕ) → c ≡ Free i gone → w ≡ without_bit b.live i → after ≡ record { places = b.places; live = w } → after ≡ board_after b c
  seat-free i gone w e z f = f ∙ simp (z, e)

  pub seat-none : (d : Change) → c ≡ d → board_after b d ≡ b → after ≡ b → after ≡ board_after b c
  seat-none d e k f = f ∙ sym k ∙ ap (board_after b) (sym e)

pub good-after : (b : Board) (c : Change) → Good b → Good (board_after b c)
good-after b Nothing g = g
good-after b (Seat i r gone) g = seated-good b i r g
good-after b (Free i gone) g = cleared-good b i g
good-after b (Quote q) g = g
good-after b (Sell m) g = g

module _ (s : List ℕ) (t : Trailer) where
  abbrev pub rest : ℕ → List Event
  rest k = records_from s t k (t.events - k)

  rest_more : (k : ℕ) → k < t.events → rest k ≡ record_in s t k ∷ rest (k + 1)
  rest_more k h =
      let e : t.events - k ≡ suc (t.events - (k + 1)) = omega arith in
      ap (records_from s t k) e ∙ records-more s t k (t.events - (k + 1))

  pub rest-none : (k : ℕ) → t.events ≤ k → rest k ≡ []
  rest-none k h = let e : t.events - k ≡ 0 = omega arith in ap (records_from s t k) e ∙ records-none s t k

  pub rest_all : records_of s t ≡ rest 0
  unfolding records_of
  rest_all = ap (records_from s t 0) (sym (sub-zero t.events))

  -- a turn of the loop: the event of record k did u to the head, and `after` is the board then
  module _ (k : ℕ) (h : Head) (b after : Board) (e : Event) (u : Turn) (ee : e ≡ record_in s t k) (eu : u ≡ turn_of h (sight_of b e) e) (ea : after ≡ board_after b u.change) where
    did : gives u.answer (whole u.head after) ≡ step_of (whole h b) (record_in s t k)
    did =
        ap (λ (x : Board). gives u.answer (whole u.head x)) ea
        ∙ ap (λ (v : Turn). gives v.answer (whole v.head (board_after b v.change))) eu
        ∙ ap (step_of (whole h b)) ee

    pub events-turn : k < t.events → event_lines (heard (whole h b) (rest k)) ≡ event_line (said e.sequence u.answer) ++ event_lines (heard (whole u.head after) (rest (k + 1)))
    events-turn l =
        ap (λ (es : List Event). event_lines (heard (whole h b) es)) (rest_more k l)
        ∙ ap₂ {C = List ℕ} (λ (x : Event) (v : Stepped). event_line (said x.sequence v.answer) ++ event_lines (heard v.auction (rest (k + 1)))) (sym ee) (sym did)

    pub run-turn : k < t.events → run (whole u.head after) (rest (k + 1)) ≡ run (whole h b) (rest k)
    run-turn l = ap (λ (v : Stepped). run v.auction (rest (k + 1))) did ∙ ap (run (whole h b)) (sym (rest_more k l))

-- the loop begins with the whole auction, before all the records
module _ (s : List ℕ) (t : Trailer) (a : Auction) (b : Board) (empty : (a.board ≡ empty_board) × (b ≡ empty_board)) where
  first : whole a.head b ≡ a
  first = ap (whole a.head) (empty.1 ∙ sym empty.0)

  pub begin-lines : event_lines (heard a (records_of s t)) ≡ event_lines (heard (whole a.head b) (rest s t 0))
  begin-lines = ap₂ {C = List ℕ} (λ (x : Auction) (es : List Event). event_lines (heard x es)) (sym first) (rest_all s t)

  pub begin-run : run (whole a.head b) (rest s t 0) ≡ run a (records_of s t)
  begin-run = ap₂ (λ (x : Auction) (es : List Event). run x es) first (sym (rest_all s t))
