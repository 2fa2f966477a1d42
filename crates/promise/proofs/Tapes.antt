-- There is a tape without the refused records, and a mirrored one. Assumes nothing.
use mathlib.Core.Path.{◌≡◌, refl, ap, sym, subst, ◌∙◌}
use mathlib.Core.Bool.{Bool, true, false, cond, not}
use mathlib.Core.List.{List, [], ◌∷◌, ◌++◌, map, append-nil}
use Prim.Native.Nat.{ℕ, ◌*◌, ◌≤◌}
use native.Mathlib.Nat.{mul-le-mul_right}
use native.Mathlib.Omega.{arith}
use lib.ListN.{length, take, drop, length-append, length-drop, take-append-drop}
use lib.Seq.{length-take-le}
use Rattle.std.specs.Prelude.{Ok}
use Rattle.base.specs.Lists.{Every, keep}
use Rattle.words.specs.rules.Bytes.{AllBytes, word_bytes, word_at}
use Rattle.words.proofs.ByteLaws.{length-word_bytes, word-alone, bytes_take, bytes-append, bytes-words}
use Rattle.tape.specs.rules.Form.{order_formed, event_formed}
use Rattle.tape.specs.rules.Records.{order_words, width_of, event_words, read_order, read_event, record_at, event_held}
use Rattle.tape.specs.rules.Tape.{open_tape, trailer_for}
use Rattle.tape.specs.declared.order.Order.{Order}
use Rattle.tape.specs.declared.event.Event.{Event}
use Rattle.tape.specs.declared.trailer.Trailer.{Trailer}
use Rattle.tape.proofs.RecordLaws.{width-ge, words_long}
use Rattle.tape.proofs.HoldsLaws.{event-stands, event-held, held_by, recorded}
use Rattle.tape.specs.rules.Whole.{tape_with, own_bytes, order_bytes, records_bytes}
use Rattle.roundtrip.specs.promises.Demands.{Word, AnyRecords, MadeOf}
use Rattle.roundtrip.proofs.RoundTrip.{order-formed, event-said}
use Rattle.roundtrip.proofs.Whole.{Long, tape-long, tape-bytes, own-bytes, order-bytes, records-bytes, any-records, made_of}
use Rattle.roundtrip.proofs.TapeBack.{order-64, order-stands, record-got, participant-fits}
use Rattle.mirror.specs.rules.Mirror.{mirrored_order, mirrored_event}
use Rattle.mirror.proofs.EventLaws.{mirror-sequence, mirror-participant}
use Rattle.mirror.proofs.MirrorForm.{order-form, event-form}
use Rattle.auction.specs.declared.Auction.{Auction}
use Rattle.events.specs.rules.Step.{step_of}
use Rattle.run.specs.promises.Demands.{mirrored_records}
use Rattle.promise.proofs.Carried.{tape-at, order-at, carry}
use Rattle.promise.specs.rules.Tapes.{Carries, SomeTape, is_refused, not_refused}

-- ---- records in which given events stand, made of the records rs of a tape: no more of them, and bytes where those are

pub record Stand (wide : Bool) (rs : List (List ℕ)) (es : List Event) : Type 0 where
  pub records : List (List ℕ)
  pub long : Long (width_of wide) records
  pub count : length records ≤ length rs
  pub stand : map (record_at wide) records ≡ es
  pub bytes : Every AllBytes rs → Every AllBytes records

module _ {wide : Bool} {rs : List (List ℕ)} {es : List Event} (r : List ℕ) (st : Stand wide rs es) where
  -- one record more, made of r
  one_more : (new : List ℕ) (e : Event) → length new ≡ width_of wide → record_at wide new ≡ e → (AllBytes r → AllBytes new) → Stand wide (r ∷ rs) (e ∷ es)
  one_more new e n there b =
      record {
        records = new ∷ st.records;
        long = (n, st.long);
        count = omega (arith, st.count);
        stand = ap (λ (x : Event). x ∷ map (record_at wide) st.records) there ∙ ap (λ (xs : List Event). e ∷ xs) st.stand;
        bytes = λ a. (b a.0, st.bytes a.1);
      }

  -- r as it is, or not at all
  kept : length r ≡ width_of wide → (t : Bool) → Stand wide (r ∷ rs) (keep t (record_at wide r) es)
  kept n true = one_more r (record_at wide r) n refl (λ b. b)
  kept n false = record { records = st.records; long = st.long; count = omega (arith, st.count); stand = st.stand; bytes = λ a. st.bytes a.1 }

module _ (wide : Bool) where
  abbrev at : List ℕ → Event
  at = record_at wide

  lacking : (rs : List (List ℕ)) → Long (width_of wide) rs → (a : Auction) → Stand wide rs (not_refused a (map at rs))
  lacking [] n a = record { records = []; long = tt; count = omega arith; stand = refl; bytes = λ b. b }
  lacking (r ∷ rs) n a = kept r (lacking rs n.1 (step_of a (at r)).auction) n.0 (not (is_refused (step_of a (at r)).answer))

  -- ---- a record in form, mirrored: its sequence's bytes stay, the others are written

  module _ (r : List ℕ) (n : length r ≡ width_of wide) (ok : event_formed (at r) ≡ true) (b : AllBytes r) where
    abbrev other : Event
    other = mirrored_event (at r)

    abbrev mirrored_bytes : List ℕ
    mirrored_bytes = take 4 r ++ word_bytes (drop 1 (event_words wide other))

    four : length (take 4 r) ≡ 4
    four = length-take-le 4 r (omega (arith, width-ge wide))

    mirrored-long : length mirrored_bytes ≡ width_of wide
    mirrored-long =
        omega (arith, length-append (take 4 r) (word_bytes (drop 1 (event_words wide other))), four, length-word_bytes (drop 1 (event_words wide other)), length-drop 1 (event_words wide other), words_long wide other, width-ge wide)

    same-sequence : word_at (take 4 r) 0 ≡ other.sequence
    same-sequence =
        sym (word-alone (take 4 r) (drop 4 r) 0 (omega (arith, four)))
        ∙ ap (λ (s : List ℕ). word_at s 0) (take-append-drop 4 r)
        ∙ sym (recorded wide r).sequence
        ∙ sym (mirror-sequence (at r))

    -- a mirrored event keeps its participant, so that the record can hold it
    held : event_held wide other ≡ true
    held = held_by wide (at r) other (mirror-participant (at r)) (event-held wide r (at r) (record-got wide r n ok)) (event-form (at r) ok)

    mirrored-stands : at mirrored_bytes ≡ other
    mirrored-stands =
        event-stands wide mirrored_bytes other
        (ap (λ (l : List ℕ). read_event wide (take 4 r ++ l)) (sym (append-nil (word_bytes (drop 1 (event_words wide other)))))
        ∙ event-said wide other (take 4 r) [] four same-sequence (subst Word (sym (mirror-participant (at r))) (participant-fits wide r b)) held)

    mirrored-bytes : AllBytes mirrored_bytes
    mirrored-bytes = bytes-append (take 4 r) (word_bytes (drop 1 (event_words wide other))) (bytes_take 4 r b) (bytes-words (drop 1 (event_words wide other)))

  mirroring : (rs : List (List ℕ)) → Long (width_of wide) rs → Every AllBytes rs → Stand wide rs (mirrored_records (map at rs))
  mirroring [] n b = record { records = []; long = tt; count = omega arith; stand = refl; bytes = λ b. b }
  mirroring (r ∷ rs) n b = go (event_formed (at r)) refl (mirroring rs n.1 b.1)
    where
      go : (t : Bool) → event_formed (at r) ≡ t → Stand wide rs (mirrored_records (map at rs)) → Stand wide (r ∷ rs) (cond t (mirrored_event (at r)) (at r) ∷ mirrored_records (map at rs))
      go true ok st = one_more r st (mirrored_bytes r n.0 ok b.0) _ (mirrored-long r n.0 ok b.0) (mirrored-stands r n.0 ok b.0) (λ _. mirrored-bytes r n.0 ok b.0)
      go false ok st = one_more r st r _ n.0 refl (λ x. x)

-- ---- a tape of other records, after the own bytes of a tape that opens

module _ (s : List ℕ) (t : Trailer) (h : open_tape s ≡ Ok t) (order : List ℕ) (n : length order ≡ 64) {es : List Event} (st : Stand t.wide (records_bytes s t) es) where
  abbrev remade : List ℕ
  remade = tape_with t.wide (own_bytes s t) order st.records

  remade-any : AnyRecords t.wide (own_bytes s t) order st.records
  remade-any =
      let m : MadeOf s t = made_of s t h in
      let was = tape-long t.wide (own_bytes s t) (order_bytes s t) (records_bytes s t) m.fitting.order-long m.fitting.each_long in
      let is = tape-long t.wide (own_bytes s t) order st.records n st.long in
      let less : length st.records * width_of t.wide ≤ length (records_bytes s t) * width_of t.wide = mul-le-mul_right (width_of t.wide) st.count in
      any-records t.wide (own_bytes s t) order st.records (record { order-long = n; each_long = st.long; fits = omega (arith, was, is, less, m.fitting.fits) })

  remade-bytes : AllBytes s → AllBytes order → AllBytes remade
  remade-bytes b c = tape-bytes t.wide (own_bytes s t) order st.records (own-bytes s t b) c (st.bytes (records-bytes s t b))

  remake : (o : Order) (fs : List Event) → AllBytes s → AllBytes order → read_order order ≡ Ok o → es ≡ fs → SomeTape t.wide o fs
  remake o fs b c eo ee =
      record {
        bytes = remade;
        all-bytes = remade-bytes b c;
        carries = carry remade o fs (trailer_for t.wide (own_bytes s t) st.records) remade-any.opens (remade-any.ordered ∙ eo) (remade-any.records ∙ st.stand ∙ ee);
        form = refl;
      }

-- ---- what is promised

module _ (s : List ℕ) (o : Order) (es : List Event) (b : AllBytes s) (c : Carries s o es) where
  made : MadeOf s c.trailer
  made = made_of s c.trailer (tape-at c)

  there : map (record_at c.trailer.wide) (records_bytes s c.trailer) ≡ es
  there = sym made.records ∙ c.records

  lacks : (a : Auction) → Stand c.trailer.wide (records_bytes s c.trailer) (not_refused a (map (record_at c.trailer.wide) (records_bytes s c.trailer)))
  lacks a = lacking c.trailer.wide (records_bytes s c.trailer) made.fitting.each_long a

  mirrors : Stand c.trailer.wide (records_bytes s c.trailer) (mirrored_records (map (record_at c.trailer.wide) (records_bytes s c.trailer)))
  mirrors = mirroring c.trailer.wide (records_bytes s c.trailer) made.fitting.each_long (records-bytes s c.trailer b)

  pub can-lack : (a : Auction) → SomeTape c.trailer.wide o (not_refused a es)
  can-lack a =
      remake s c.trailer (tape-at c) (order_bytes s c.trailer) made.fitting.order-long (lacks a) o (not_refused a es)
      b (order-bytes s c.trailer b) (sym made.ordered ∙ order-at c) (ap (not_refused a) there)

  formed : order_formed o ≡ true
  formed = order-formed (order_bytes s c.trailer) o (sym made.ordered ∙ order-at c)

  pub can-mirror : SomeTape c.trailer.wide (mirrored_order o) (mirrored_records es)
  can-mirror =
      remake s c.trailer (tape-at c) (word_bytes (order_words (mirrored_order o))) (order-64 (mirrored_order o)) mirrors (mirrored_order o) (mirrored_records es)
      b (bytes-words (order_words (mirrored_order o))) (order-stands (mirrored_order o) (order-form o formed)) (ap mirrored_records there)
