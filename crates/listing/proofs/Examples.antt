-- Listings and watches by computation.
use mathlib.Core.Path.{◌≡◌, refl}
use mathlib.Core.Bool.{Bool, true, false}
use mathlib.Core.List.{List, [], ◌∷◌}
use Prim.Native.Nat.{ℕ}
use Rattle.words.specs.rules.Bytes.{word_at}
use Rattle.tape.specs.rules.Records.{order_words, order_of, order_spare, read_order, width_of, event_words, event_of, event_spare, record_at, trailer_words, trailer_of, read_trailer}
use Rattle.tape.specs.rules.Tape.{last_trailer, open_tape, order_in, record_in, records_from, records_of, tape_of}
use Rattle.auction.specs.rules.Accept.{auction_of, Accepts}
use Rattle.run.specs.rules.Run.{run_of}
use Rattle.run.proofs.Figures.{Computed}
use Rattle.listing.specs.rules.Text.{text, digits, decimal}
use Rattle.listing.specs.rules.Listing.{refused_line, range_text, auction_line, answer_text, event_text, event_line, event_line_with, end_text, end_line, party_text, fill_line, total_line, end_lines, listing_of}
use Rattle.listing.specs.rules.Watch.{watch_lines}
use Rattle.listing.specs.promises.Demands.{example_order, example_response, example_tape, example_listing, order_e, no_event, market_e, tape_e, listing_e}
use Rattle.listing.specs.promises.Watching.{watch_c, moved, watch_moved, watch_e}

-- a tape and its listing
abbrev Lists : List ℕ → List ℕ → Type 0
unfolding Computed word_at order_words order_of order_spare read_order width_of event_words event_of event_spare record_at trailer_words trailer_of read_trailer last_trailer open_tape order_in record_in records_from records_of tape_of run_of digits decimal refused_line range_text auction_line answer_text event_text event_line event_line_with end_text end_line party_text fill_line total_line end_lines listing_of
Lists tape t = listing_of tape ≡ t

pub case-c : listing_of example_tape ≡ example_listing
unfolding Lists
case-c = refl

pub case-e : (wide : Bool) → listing_of (tape_e wide) ≡ listing_e
unfolding Lists
case-e true = refl
case-e false = refl

pub accepts-c : Accepts example_order
unfolding Lists
accepts-c = refl

pub accepts-e : Accepts order_e
unfolding Lists
accepts-e = refl

pub watch-c : watch_lines (auction_of example_order) (example_response ∷ example_response ∷ []) ≡ watch_c
unfolding Lists
watch-c = refl

pub watch-moved : watch_lines (auction_of example_order) moved ≡ watch_moved
unfolding Lists
watch-moved = refl

pub watch-e : watch_lines (auction_of order_e) (no_event 1 ∷ market_e ∷ no_event 3 ∷ []) ≡ watch_e
unfolding Lists
watch-e = refl

pub no_bytes : listing_of [] ≡ text "REFUSED 21\n"
unfolding Lists
no_bytes = refl
