-- Laws of the lines of a watch: each at the start of lent bytes, or none where they are too few; and what is promised of it.
use mathlib.Core.Path.{◌≡◌, refl, sym, ap, ap₂, ◌∙◌}
use mathlib.Core.Bool.{Bool, true, false}
use mathlib.Core.List.{List, [], ◌∷◌, ◌++◌}
use Prim.Native.Nat.{ℕ, ◌≤◌, ◌<◌}
use Prim.Native.String.{String}
use native.Mathlib.Omega.{arith}
use borrow.Author.Tests.{lt-ltb, le-ltb}
use lib.ListN.{length, take, drop, length-append}
use lib.Seq.{take-append_seam}
use Rattle.base.proofs.SetsLaws.{sets-front}
use Rattle.tape.specs.declared.event.Event.{Event}
use Rattle.board.specs.promises.Board.{Good}
use Rattle.auction.specs.declared.Auction.{Auction}
use Rattle.auction.specs.declared.Head.{Head}
use Rattle.auction.specs.declared.Ending.{Ending}
use Rattle.auction.specs.declared.Ending.TheVariants.{Open, Time, Same, Opposite, Improve}
use Rattle.auction.specs.rules.Offer.{on_offer}
use Rattle.events.specs.declared.Stepped.{Stepped}
use Rattle.events.specs.rules.Step.{step_of}
use Rattle.run.specs.rules.Run.{Said, said, run}
use Rattle.listing.specs.declared.watch.Watched.{Watched}
use Rattle.listing.specs.rules.Text.{text, decimal, newline}
use Rattle.listing.specs.rules.Listing.{field, refused_line, side_text, auction_line, answer_text, event_text, event_line_with, end_text, end_line, end_lines}
use Rattle.listing.specs.rules.Watch.{lines_room, shown_length, shown_bytes, watch_line, watch_lines, watched_of}
use Rattle.listing.specs.promises.Watching.{Shows, none, more, Watching}
use Rattle.listing.proofs.LengthLaws.{refused-short, auction-short, watched-short, end-lines-short}
use Rattle.listing.proofs.Examples.{accepts-c, accepts-e, watch-c, watch-moved, watch-e}
use Rattle.words.specs.inside.Writing.{WroteBytes}

module _ (line xs : List ℕ) where
  pub unshown : length xs < lines_room → (0 ≡ shown_length line xs) × ((xs ≡ shown_bytes line xs) × (0 ≤ length xs))
  unshown h = rw (lt-ltb (length xs) lines_room h) (refl, (refl, omega arith))

  pub shown : {n : ℕ} {ys : List ℕ} → lines_room ≤ length xs → length line ≤ lines_room → WroteBytes xs 0 line n ys → (n ≡ shown_length line xs) × ((ys ≡ shown_bytes line xs) × (n ≤ length ys))
  shown {n} {ys} h fits w =
      let bytes : ys ≡ line ++ drop (length line) xs = w.words ∙ sets-front line xs (length line) refl (omega (arith, fits, h)) in
      rw (le-ltb (length xs) lines_room h) (omega (arith, w.place), (bytes, omega (arith, w.place, ap length bytes, length-append line (drop (length line) xs))))

-- an event, and the length of its line
module _ (a : Auction) (e : Event) (xs : List ℕ) where
  abbrev made : Auction → ℕ → Watched
  made b n = record { auction = b; length = n }

  pub unwatched : length xs < lines_room → made a 0 ≡ watched_of a e xs
  unfolding watched_of
  unwatched h = rw (lt-ltb (length xs) lines_room h)

  pub watched : (s : Stepped) (n : ℕ) → lines_room ≤ length xs → s ≡ step_of a e → n ≡ shown_length (watch_line a e) xs → made s.auction n ≡ watched_of a e xs
  unfolding watched_of
  watched s n h p q = ap₂ made (ap (λ (v : Stepped). v.auction) p) q ∙ rw (le-ltb (length xs) lines_room h)

-- ---- what is promised of a watch

-- a text that begins with a field is not empty
some : (s : String) (n : ℕ) (t : List ℕ) → 1 ≤ length (text s) → 1 ≤ length (field s n ++ t)
some s n t h = omega (arith, h, length-append (field s n) t, length-append (text s) (decimal n))

begins : (s t : List ℕ) → 1 ≤ length s → 1 ≤ length (s ++ t)
begins s t h = omega (arith, h, length-append s t)

lines_fit : (a : Auction) (e : Event) → (1 ≤ length (watch_line a e)) × (length (watch_line a e) ≤ lines_room)
unfolding event_line_with event_text
lines_fit a e =
    let x : Said = said e.sequence (step_of a e).answer in
    (begins (event_text x) _ (some "EVENT " e.sequence (answer_text x.answer) (omega arith)), omega (arith, watched-short x (on_offer (step_of a e).auction)))

ends-fit : (a : Auction) → Good a.board → (1 ≤ length (end_lines a)) × (length (end_lines a) ≤ lines_room)
unfolding end_lines end_line end_text
ends-fit a g = (begins (end_line a.head) _ (begins (end_text a.head.ending) _ (ends a.head.ending)), omega (arith, end-lines-short a g.places-are))
  where
    ends : (g : Ending) → 1 ≤ length (end_text g)
    ends Open = omega arith
    ends Time = omega arith
    ends Same = omega arith
    ends Opposite = omega arith
    ends Improve = omega arith

heads-fit : (h : Head) → (1 ≤ length (auction_line h)) × (length (auction_line h) ≤ lines_room)
unfolding auction_line
heads-fit h = (begins (side_text h.terms.sell) _ (side h.terms.sell), omega (arith, auction-short h))
  where
    side : (b : Bool) → 1 ≤ length (side_text b)
    side true = omega arith
    side false = omega arith

refusals-fit : (n : ℕ) → (1 ≤ length (refused_line n)) × (length (refused_line n) ≤ lines_room)
unfolding refused_line
refusals-fit n = (some "REFUSED " n newline (omega arith), omega (arith, refused-short n))

not-met : (a : Auction) (e : Event) (out : List ℕ) → length out < lines_room → (watched_of a e out ≡ made a e out a 0) × (shown_bytes (watch_line a e) out ≡ out)
not-met a e out h = (sym (unwatched a e out h), rw (lt-ltb (length out) lines_room h))

met : (a : Auction) (e : Event) (out : List ℕ) → lines_room ≤ length out → (watched_of a e out ≡ made a e out (step_of a e).auction (length (watch_line a e))) × (shown_bytes (watch_line a e) out ≡ watch_line a e ++ drop (length (watch_line a e)) out)
met a e out h = (sym (watched a e out (step_of a e) (length (watch_line a e)) h refl (rw (le-ltb (length out) lines_room h))), rw (le-ltb (length out) lines_room h))

shows : (a : Auction) (es : List Event) (t : List ℕ) (b : Auction) → Shows a es t b → (t ≡ watch_lines a es) × (b ≡ run a es)
shows a [] [] b none = (refl, refl)
shows a [] (_ ∷ _) b x4 = elim x4 [ ]
shows a (e ∷ es) t b (more {t = u} out h rest) =
    let m = met a e out h in
    let ih = shows (watched_of a e out).auction es u b rest in
    let after : (watched_of a e out).auction ≡ (step_of a e).auction = ap (λ (w : Watched). w.auction) m.0 in
    let line : take (watched_of a e out).length (shown_bytes (watch_line a e) out) ≡ watch_line a e = ap₂ (λ (n : ℕ) (xs : List ℕ). take n xs) (ap (λ (w : Watched). w.length) m.0) m.1 ∙ take-append_seam (watch_line a e) (drop (length (watch_line a e)) out) in
    (ap₂ {C = List ℕ} (λ (xs ys : List ℕ). xs ++ ys) line (ih.0 ∙ ap (λ (x : Auction). watch_lines x es) after), ih.1 ∙ ap (λ (x : Auction). run x es) after)

pub watching : Watching
watching =
    record {
      accepts-c = accepts-c;
      accepts-e = accepts-e;
      case-c = watch-c;
      case-moved = watch-moved;
      case-e = watch-e;
      lines_fit = lines_fit;
      ends-fit = ends-fit;
      heads-fit = heads-fit;
      refusals-fit = refusals-fit;
      not-met = not-met;
      met = met;
      shows = shows;
    }
