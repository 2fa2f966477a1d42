-- The tape whose order and records in form are mirrored has the mirrored listing, for buys and sells. Assumes nothing.
use mathlib.Core.Path.{◌≡◌, refl, sym, ap, ap₂, ◌∙◌}
use mathlib.Core.Bool.{Bool, true, false, cond, not}
use mathlib.Core.List.{List, [], ◌∷◌, ◌++◌}
use Prim.Native.Nat.{ℕ}
use lib.ListN.{drop}
use Rattle.auction.proofs.Accepted.{opened, accepts}
use Rattle.base.specs.declared.refusal.Refusal.{Refusal}
use Rattle.std.specs.Result.{result_map_both}
use Rattle.std.specs.Prelude.{Err, Ok, Result}
use Rattle.share.specs.rules.Fills.{Fill}
use Rattle.tape.specs.declared.order.Order.{Order}
use Rattle.tape.specs.declared.event.Event.{Event}
use Rattle.tape.specs.rules.Form.{order_formed, event_formed}
use Rattle.tape.specs.rules.Tape.{order_in}
use Rattle.roundtrip.proofs.RoundTrip.{order-formed}
use Rattle.mirror.specs.rules.Mirror.{mirrored_order, mirrored_event}
use Rattle.mirror.proofs.MirrorForm.{order-twice, event-twice, event-form}
use Rattle.trade.specs.rules.Trade.{traded}
use Rattle.auction.specs.rules.Accept.{auction_of, accept_of, Accepts}
use Rattle.auction.specs.rules.Range.{range_of}
use Rattle.auction.specs.declared.Auction.{Auction}
use Rattle.auction.specs.declared.Head.{Head}
use Rattle.auction.specs.declared.Range.{Range}
use Rattle.fills.specs.rules.Fills.{auction_fills}
use Rattle.run.specs.rules.Run.{Said, heard, run, played, run_entry, run_of}
use Rattle.run.specs.promises.Demands.{Sound, flipped_head, flipped, mirrored_record, mirrored_records, mirrored_fills, mirrored_range}
use Rattle.run.proofs.SoundLaws.{sound-opened, sound-run, sound-close, reported-total}
use Rattle.run.proofs.Mirrors.{mirrors as auctions}
use Rattle.listing.specs.rules.Listing.{field, range_text, side_text, auction_line, event_lines, end_text, end_line, fill_lines, total_line, end_lines, lines_of, listing_of}
use Rattle.promise.specs.rules.Tapes.{Carries, mirrored_lines}
use Rattle.promise.proofs.Carried.{order-at}
use Rattle.promise.proofs.Answered.{run-carries}

-- ---- the lines of the same auction for the other side

module _ (a : Auction) (k : Sound a) where
  abbrev h : Head
  h = a.head

  other_word : (t : Bool) → side_text (cond t false true) ≡ side_text (not t)
  other_word true = refl
  other_word false = refl

  opening-mirrored : auction_line (flipped_head h) ≡ side_text (not h.terms.sell) ++ (field " size " h.terms.size ++ range_text (mirrored_range (range_of h)))
  unfolding auction_line
  opening-mirrored =
      ap (λ (w : List ℕ). w ++ (field " size " h.terms.size ++ range_text (range_of (flipped_head h)))) (other_word h.terms.sell)
      ∙ ap (λ (r : Range). side_text (not h.terms.sell) ++ (field " size " h.terms.size ++ range_text r)) (auctions.ranges a (λ _. k))

  end-mirrored : end_lines (flipped a) ≡ (end_text h.ending ++ range_text (mirrored_range (range_of h))) ++ (fill_lines (mirrored_fills (auction_fills a)) ++ total_line (traded (auction_fills a)))
  unfolding end_lines end_line
  end-mirrored =
      ap₂ (λ (r : Range) (fs : List Fill). (end_text h.ending ++ range_text r) ++ (fill_lines fs ++ total_line (traded fs))) (auctions.ranges a (λ _. k)) (auctions.trades a (λ _. k))
      ∙ ap (λ (n : ℕ). (end_text h.ending ++ range_text (mirrored_range (range_of h))) ++ (fill_lines (mirrored_fills (auction_fills a)) ++ total_line n)) (reported-total true (auction_fills a))

-- ---- the listing

module _ (o : Order) (es : List Event) where
  abbrev first : Auction
  first = auction_of o

  -- of an order that is accepted
  accepted-mirrored : Accepts o → lines_of (run_entry (mirrored_records es) (Ok (auction_of (mirrored_order o)))) ≡ mirrored_lines (run_entry es (Ok first))
  accepted-mirrored e =
      let k : Sound first = sound-opened o e in
      ap (λ (a : Auction). auction_line a.head ++ (event_lines (heard (auction_of (mirrored_order o)) (mirrored_records es)) ++ end_lines (played (mirrored_order o) (mirrored_records es)))) (auctions.opens o e)
      ∙ ap₂ (λ (l : List ℕ) (rs : List Said). l ++ (event_lines rs ++ end_lines (played (mirrored_order o) (mirrored_records es)))) (opening-mirrored first k) (auctions.hears o es e)
      ∙ ap (λ (l : List ℕ). (side_text (not first.head.terms.sell) ++ (field " size " first.head.terms.size ++ range_text (mirrored_range (range_of first.head)))) ++ (event_lines (heard first es) ++ l))
      (ap end_lines (auctions.plays o es e) ∙ end-mirrored (played o es) (sound-close (run first es) (sound-run es first k)))

  order-mirrored : order_formed o ≡ true → lines_of (run_entry (mirrored_records es) (accept_of (mirrored_order o))) ≡ mirrored_lines (run_entry es (accept_of o))
  order-mirrored f = ap (λ (x : Result Auction Refusal). lines_of (run_entry (mirrored_records es) x)) (auctions.accepts o f) ∙ go (accept_of o) refl
    where
      go : (x : Result Auction Refusal) → accept_of o ≡ x → lines_of (run_entry (mirrored_records es) (result_map_both flipped (λ r. r) x)) ≡ mirrored_lines (run_entry es x)
      go (Ok a) e =
          let k : Accepts o = accepts o e in
          let p : a ≡ first = (opened o e).auction in
          ap (λ (b : Auction). lines_of (run_entry (mirrored_records es) (Ok b))) (ap flipped p ∙ sym (auctions.opens o k)) ∙ accepted-mirrored k ∙ ap (λ (b : Auction). mirrored_lines (run_entry es (Ok b))) (sym p)
      go (Err r) e = refl

pub mirrors : (s t : List ℕ) (o : Order) (es : List Event) → Carries s o es → Carries t (mirrored_order o) (mirrored_records es) → listing_of t ≡ mirrored_lines (run_of s)
unfolding listing_of order_in
mirrors s t o es c d =
    ap lines_of (run-carries t (mirrored_order o) (mirrored_records es) d)
    ∙ order-mirrored o es (order-formed (drop c.trailer.order s) o (order-at c))
    ∙ ap mirrored_lines (sym (run-carries s o es c))

-- ---- mirrored again

record-twice : (e : Event) → mirrored_record (mirrored_record e) ≡ e
record-twice e = go (event_formed e) refl
  where
    go : (b : Bool) → event_formed e ≡ b → mirrored_record (cond b (mirrored_event e) e) ≡ e
    go true f = ap (λ (b : Bool). cond b (mirrored_event (mirrored_event e)) (mirrored_event e)) (event-form e f) ∙ event-twice e f
    go false f = ap (λ (b : Bool). cond b (mirrored_event e) e) f

records-twice : (es : List Event) → mirrored_records (mirrored_records es) ≡ es
records-twice [] = refl
records-twice (e ∷ es) = ap₂ {C = List Event} (λ (x : Event) (xs : List Event). x ∷ xs) (record-twice e) (records-twice es)

-- the mirror of the mirrored tape is the listing
pub mirrors-back : (s t : List ℕ) (o : Order) (es : List Event) → Carries s o es → Carries t (mirrored_order o) (mirrored_records es) → mirrored_lines (run_of t) ≡ listing_of s
unfolding order_in
mirrors-back s t o es c d =
    let f : order_formed o ≡ true = order-formed (drop c.trailer.order s) o (order-at c) in
    let back : Carries s (mirrored_order (mirrored_order o)) (mirrored_records (mirrored_records es)) = rw (order-twice o f, records-twice es) c in
    sym (mirrors t s (mirrored_order o) (mirrored_records es) d back)
