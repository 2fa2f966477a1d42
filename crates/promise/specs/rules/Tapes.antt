-- Tapes beside one another: what a tape carries, and which records another has more, fewer, or mirrored.
use Rattle.std.specs.Prelude.{◌≡◌, Bool, false, not, List, [], ◌∷◌, ◌++◌, ℕ, ◌≤◌, Result, Ok, Err}
use Rattle.base.specs.declared.refusal.Refusal.{Refusal}
use Rattle.base.specs.Lists.{In, keep, filter}
use Rattle.words.specs.rules.Bytes.{AllBytes}
use Rattle.base.specs.Refusal.{number_of}
use Rattle.tape.specs.rules.Tape.{open_tape, order_in, records_of}
use Rattle.tape.specs.declared.order.Order.{Order}
use Rattle.tape.specs.declared.event.Event.{Event}
use Rattle.tape.specs.declared.trailer.Trailer.{Trailer}
use Rattle.trade.specs.rules.Trade.{traded}
use Rattle.auction.specs.rules.Range.{is_open, range_of}
use Rattle.auction.specs.declared.Auction.{Auction}
use Rattle.events.specs.rules.Step.{step_of}
use Rattle.events.specs.declared.Answer.{Answer}
use Rattle.fills.specs.rules.Fills.{auction_fills}
use Rattle.run.specs.rules.Run.{Said, Run, refused, ended, run_of, run, taken_of}
use Rattle.run.specs.promises.Demands.{mirrored_fills, mirrored_range}
use Rattle.promise.specs.rules.Answers.{yes, is_no, paper_of, answer_is}
use Rattle.listing.specs.rules.Watch.{watch_lines}
use Rattle.listing.specs.rules.Listing.{field, refused_line, auction_line, range_text, side_text, event_lines, end_text, fill_lines, total_line, end_lines}

-- the bytes s are a tape that opens: the order that is read of its record, and the events that stand in its records, in form or not
pub record Carries (s : List ℕ) (o : Order) (es : List Event) : Type 0 where
  pub trailer : Trailer
  pub opened : paper_of (open_tape s) ≡ yes trailer
  pub order : paper_of (order_in s trailer) ≡ yes o
  pub records : records_of s trailer ≡ es

-- there is a tape, of the new form where `wide`, that carries an order and records
pub record SomeTape (wide : Bool) (o : Order) (es : List Event) : Type 0 where
  pub bytes : List ℕ
  pub all-bytes : AllBytes bytes
  pub carries : Carries bytes o es
  pub form : carries.trailer.wide ≡ wide

-- the END, FILL and TOTAL lines of a tape's listing; none where it is refused
abbrev pub end_in : Run → List ℕ
end_in (refused r) = []
end_in (ended first said last) = end_lines last

abbrev pub end_of : List ℕ → List ℕ
end_of s = end_in (run_of s)

-- ---- a watch

-- the records of a tape that opens
abbrev pub records_in : List ℕ → Result Trailer Refusal → List Event
records_in s (Err r) = []
records_in s (Ok t) = records_of s t

-- its lines: those of the listing, each EVENT line with the contracts on offer after its event
abbrev pub watch_in : List Event → Run → List ℕ
watch_in es (refused r) = refused_line (number_of r)
watch_in es (ended first said last) = auction_line first.head ++ (watch_lines first es ++ end_lines last)

abbrev pub watch_of : List ℕ → List ℕ
watch_of s = watch_in (records_in s (open_tape s)) (run_of s)

-- ---- fewer records, and more

abbrev pub is_refused : Answer → Bool
is_refused x = is_no (answer_is x)

-- the records that the auction a does not refuse
abbrev pub not_refused : Auction → List Event → List Event
not_refused a [] = []
not_refused a (e ∷ es) = keep (not (is_refused (step_of a e).answer)) e (not_refused (step_of a e).auction es)

-- the lines of those
abbrev pub not_refused_said : List Said → List Said
not_refused_said xs = filter (λ x. not (is_refused x.answer)) xs

-- fs is es with resent records put in, one after the other: each bears the sequence of a record that was taken before it, or a lower one, whatever else it says
pub data WithResent (a : Auction) (es : List Event) : List Event → Type 0 where
  none : WithResent a es es
  more : (before : List Event) (e g : Event) (rest : List Event) → In e (taken_of a before) → g.sequence ≤ e.sequence → WithResent a es (before ++ rest) → WithResent a es (before ++ (g ∷ rest))
  -- or it is put in after the ending, whatever it says
  past_end : (before : List Event) (g : Event) (rest : List Event) → is_open (run a before).head.ending ≡ false → WithResent a es (before ++ rest) → WithResent a es (before ++ (g ∷ rest))

-- ---- the mirror

-- the listing for the other side: its word, the ranges and the fills' prices are mirrored, all else stays
abbrev pub mirrored_lines : Run → List ℕ
mirrored_lines (refused r) = refused_line (number_of r)
mirrored_lines (ended first said last) =
    (side_text (not first.head.terms.sell) ++ (field " size " first.head.terms.size ++ range_text (mirrored_range (range_of first.head))))
    ++ (event_lines said
    ++ ((end_text last.head.ending ++ range_text (mirrored_range (range_of last.head)))
    ++ (fill_lines (mirrored_fills (auction_fills last)) ++ total_line (traded (auction_fills last)))))
