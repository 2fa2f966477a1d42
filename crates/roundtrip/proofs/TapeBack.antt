-- A tape that the writers put together opens and gives back what was put in; a whole tape that was read is written back to its bytes. Assumes nothing.
use mathlib.Core.Path.{◌≡◌, refl, ap, sym, subst, ◌∙◌}
use mathlib.Core.Bool.{Bool, true, false, cond}
use mathlib.Core.Logic.{⊎_elim}
use mathlib.Core.List.{List, [], ◌∷◌, ◌++◌, map, append_assoc, append-nil}
use Prim.Native.Nat.{ℕ, zero, suc, ◌+◌, ◌*◌, ◌≤◌, ◌<◌}
use native.Mathlib.Nat.{add-zero, zero-add, zero-mul, suc-mul}
use native.Mathlib.Omega.{arith}
use lib.ListN.{length, get_or, take, drop, length-append, length-drop, length-map, drop_of_length-le}
use lib.Seq.{take_all, take_at, drop_at, get_or-append_seam}
use lib.Dec.{ltb}
use Rattle.std.specs.Prelude.{Ok, Err}
use Rattle.base.specs.Lists.{Every}
use Rattle.base.specs.declared.refusal.Refusal.TheVariants.{EventOutOfForm}
use Rattle.base.proofs.Numbers.{le-or-lt}
use Rattle.words.specs.rules.Bytes.{AllBytes, word_bytes, word_at}
use Rattle.words.proofs.ByteLaws.{length-word_bytes, bytes_drop, word_in, word_out}
use Rattle.tape.specs.declared.order.Order.{Order}
use Rattle.tape.specs.declared.event.Event.{Event}
use Rattle.tape.specs.declared.trailer.Trailer.{Trailer}
use Rattle.tape.specs.rules.Form.{order_formed, shape_of, shape_tests, event_formed}
use Rattle.tape.specs.rules.Records.{with_record, width_of, new_word, event_of, event_spare, of_no_kind, order_words, event_words, trailer_words, order_wrote, event_wrote, trailer_wrote, read_order, read_event, record_at}
use Rattle.tape.specs.rules.Tape.{length_of, open_tape, event_place, order_in, record_in, records_from, records_of, trailer_for, events_bytes, tape_of, wrote_events, wrote_tape}
use Rattle.tape.specs.rules.Whole.{together, tape_with, own_bytes, order_bytes, records_bytes}
use Rattle.roundtrip.specs.promises.Demands.{Word, AllHeld, none, more, InBytes, Tapeable, TapeBack, AnyRecords, MadeOf, Demands}
use Rattle.tape.proofs.RecordLaws.{words_long}
use Rattle.tape.proofs.HoldsLaws.{event-stands, held-formed, event-held, records-more, recorded, holds}
use Rattle.roundtrip.proofs.RoundTrip.{wrote-is, order-length, order-written, order-formed, order-read, event-written, event-read, trailer-length, values-back, bytes_back, refusals-keep}
use Rattle.roundtrip.proofs.Whole.{Long, tape-long, any-records, records-bytes, made_of}

-- ---- the bytes of an order and of events

pub order-64 : (o : Order) → length (word_bytes (order_words o)) ≡ 64
order-64 o = length-word_bytes (order_words o) ∙ ap (λ (n : ℕ). n * 4) (order-length o)

abbrev event_bytes : Bool → Event → List ℕ
event_bytes wide e = word_bytes (event_words wide e)

each_long : (wide : Bool) (es : List Event) → Long (width_of wide) (map (event_bytes wide) es)
each_long wide [] = tt
each_long wide (e ∷ es) = (length-word_bytes (event_words wide e) ∙ words_long wide e, each_long wide es)

-- an order that was written is read, and an event that was written stands in its record
pub order-stands : (o : Order) → order_formed o ≡ true → read_order (word_bytes (order_words o)) ≡ Ok o
order-stands o ok = ap read_order (sym (append-nil (word_bytes (order_words o)))) ∙ order-written o [] ok

events-stand : {wide : Bool} {es : List Event} → AllHeld wide es → map (record_at wide) (map (event_bytes wide) es) ≡ es
events-stand none = refl
events-stand {wide} (more {e} {es} q p ok f) =
    let one : record_at wide (event_bytes wide e) ≡ e = event-stands wide (event_bytes wide e) e (ap (read_event wide) (sym (append-nil (event_bytes wide e))) ∙ event-written wide e [] q p ok) in
    ap (λ (x : Event). x ∷ map (record_at wide) (map (event_bytes wide) es)) one ∙ ap (λ (xs : List Event). e ∷ xs) (events-stand f)

formed-at : {wide : Bool} (before : List Event) (e : Event) (after : List Event) → AllHeld wide (before ++ (e ∷ after)) → event_formed e ≡ true
formed-at {wide} [] e after (more q p ok f) = held-formed wide e ok
formed-at (b ∷ before) e after (more q p ok f) = formed-at before e after f

-- what the writers put together is a tape of their records
module _ (wide : Bool) (own : List ℕ) where
  same-trailer : (es : List Event) → trailer_for wide own (map (event_bytes wide) es) ≡ trailer_for wide own es
  same-trailer es = ap (λ (n : ℕ). record { order = length own; events = n; wide = wide }) (length-map es (event_bytes wide))

  events-together : (es : List Event) → events_bytes wide es ≡ together (map (event_bytes wide) es)
  events-together [] = refl
  events-together (e ∷ es) = ap (λ (l : List ℕ). event_bytes wide e ++ l) (events-together es)

  tape-with : (o : Order) (es : List Event) → tape_of wide own o es ≡ tape_with wide own (word_bytes (order_words o)) (map (event_bytes wide) es)
  unfolding tape_of tape_with
  tape-with o es =
      let ob : List ℕ = word_bytes (order_words o) in
      ap (λ (l : List ℕ). own ++ (ob ++ (l ++ word_bytes (trailer_words (trailer_for wide own es))))) (events-together es)
      ∙ ap (λ (t : Trailer). own ++ (ob ++ (together (map (event_bytes wide) es) ++ word_bytes (trailer_words t)))) (sym (same-trailer es))

-- ---- the writers, one after the other

-- a record at the start of lent bytes: itself, and what is after it
record-parts : (ws out after : List ℕ) (n : ℕ) → length ws * 4 ≡ n → after ≡ with_record ws out → (take n after ≡ word_bytes ws) × (drop n after ≡ drop n out)
record-parts ws out after n e w =
    let l : length (word_bytes ws) ≡ n = length-word_bytes ws ∙ e in (
      ap (take n) w ∙ take_at (word_bytes ws) (drop (length ws * 4) out) n l,
      ap (drop n) w ∙ drop_at (word_bytes ws) (drop (length ws * 4) out) n l ∙ ap (λ (k : ℕ). drop k out) e,
    )

module _ (t : Trailer) where
  abbrev long : ℕ
  long = width_of t.wide

  events-made : {es : List Event} → AllHeld t.wide es → (room : List ℕ) → length room ≡ length es * long + 16 → wrote_events es t room ≡ events_bytes t.wide es ++ word_bytes (trailer_words t)
  unfolding event_wrote trailer_wrote
  events-made none room n =
      let n4 : length (trailer_words t) ≡ 4 = trailer-length t in
      let z : 0 * long ≡ 0 = zero-mul long in
      let done : length room ≤ length (trailer_words t) * 4 = omega arith in
      wrote-is (trailer_words t) room refl (omega arith)
      ∙ ap (λ (l : List ℕ). word_bytes (trailer_words t) ++ l) (drop_of_length-le room done)
      ∙ append-nil (word_bytes (trailer_words t))
  events-made (more {e} {es} q p ok f) room n =
      let w : length (event_words t.wide e) * 4 ≡ long = words_long t.wide e in
      let m : suc (length es) * long ≡ length es * long + long = suc-mul (length es) long in
      let p = record-parts (event_words t.wide e) room (event_wrote t.wide e room) long w (wrote-is (event_words t.wide e) room ok (omega arith)) in
      let k : length (drop long room) ≡ length es * long + 16 = omega (arith, length-drop long room) in
      ap (λ (l : List ℕ). l ++ wrote_events es t (drop long (event_wrote t.wide e room))) p.0
      ∙ ap (λ (l : List ℕ). word_bytes (event_words t.wide e) ++ wrote_events es t l) p.1
      ∙ ap (λ (l : List ℕ). word_bytes (event_words t.wide e) ++ l) (events-made f (drop long room) k)
      ∙ sym (append_assoc (word_bytes (event_words t.wide e)) (events_bytes t.wide es) (word_bytes (trailer_words t)))

-- ---- a tape's record by its number

records-nth : (s : List ℕ) (t : Trailer) (n k i : ℕ) (d : Event) → i < n → get_or (records_from s t k n) i d ≡ record_in s t (k + i)
records-nth s t zero k i d h = absurd (none_below h)
  where
    none_below : i < 0 → ⊥
    none_below h = omega arith
records-nth s t (suc n) k zero d h = ap (λ (es : List Event). get_or es 0 d) (records-more s t k n) ∙ ap (record_in s t) (sym (add-zero k))
records-nth s t (suc n) k (suc i) d h =
    let next : k + 1 + i ≡ k + suc i = omega arith in
    ap (λ (es : List Event). get_or es (suc i) d) (records-more s t k n) ∙ records-nth s t n (k + 1) i d (omega arith) ∙ ap (record_in s t) next

record-nth : (s : List ℕ) (t : Trailer) (k : ℕ) (d : Event) → k < t.events → get_or (records_of s t) k d ≡ record_in s t k
unfolding records_of
record-nth s t k d h = records-nth s t t.events 0 k d h ∙ ap (record_in s t) (zero-add k)

-- an event in form that stands in a record is read there
record-reads : (s : List ℕ) (t : Trailer) (k : ℕ) (e : Event) → record_in s t k ≡ e → event_formed e ≡ true → width_of t.wide ≤ length (drop (event_place t.wide t.order k) s)
    → read_event t.wide (drop (event_place t.wide t.order k) s) ≡ Ok e
unfolding record_in
record-reads s t k e there ok n =
    (recorded t.wide (drop (event_place t.wide t.order k) s)).reads n
    ∙ ap (λ (x : Event). cond (event_formed x) (Ok x) (Err EventOutOfForm)) there
    ∙ ap (λ (x : Bool). cond x (Ok e) (Err EventOutOfForm)) ok

-- ---- a tape that the writers put together

module _ (wide : Bool) (own : List ℕ) (o : Order) (es : List Event) (fine : Tapeable wide own o es) where
  abbrev t : Trailer
  t = trailer_for wide own es

  abbrev rs : List (List ℕ)
  rs = map (event_bytes wide) es

  made : (room : List ℕ) → length own + length room ≡ length_of t → wrote_tape wide own o es room ≡ tape_of wide own o es
  unfolding wrote_tape tape_of order_wrote
  made room n =
      let n16 : length (order_words o) ≡ 16 = order-length o in
      let p = record-parts (order_words o) room (order_wrote o room) 64 (omega arith) (wrote-is (order_words o) room fine.order (omega arith)) in
      let k : length (drop 64 room) ≡ length es * width_of wide + 16 = omega (arith, length-drop 64 room) in
      ap (λ (l : List ℕ). own ++ (l ++ wrote_events es t (drop 64 (order_wrote o room)))) p.0
      ∙ ap (λ (l : List ℕ). own ++ (word_bytes (order_words o) ++ wrote_events es t l)) p.1
      ∙ ap (λ (l : List ℕ). own ++ (word_bytes (order_words o) ++ l)) (events-made t fine.events (drop 64 room) k)

  made-with : AnyRecords wide own (word_bytes (order_words o)) rs
  made-with =
      let n = tape-long wide own (word_bytes (order_words o)) rs (order-64 o) (each_long wide es) ∙ ap length_of (same-trailer wide own es) in
      any-records wide own (word_bytes (order_words o)) rs (record { order-long = order-64 o; each_long = each_long wide es; fits = omega (arith, n, fine.fits) })

  opens : open_tape (tape_of wide own o es) ≡ Ok t
  opens = ap open_tape (tape-with wide own o es) ∙ made-with.opens ∙ ap Ok (same-trailer wide own es)

  order-back : order_in (tape_of wide own o es) t ≡ Ok o
  order-back =
      ap (λ (s : List ℕ). order_in s t) (tape-with wide own o es)
      ∙ ap (order_in (tape_with wide own (word_bytes (order_words o)) rs)) (sym (same-trailer wide own es))
      ∙ made-with.ordered
      ∙ order-stands o fine.order

  records-back : records_of (tape_of wide own o es) t ≡ es
  records-back =
      ap (λ (s : List ℕ). records_of s t) (tape-with wide own o es)
      ∙ ap (records_of (tape_with wide own (word_bytes (order_words o)) rs)) (sym (same-trailer wide own es))
      ∙ made-with.records
      ∙ events-stand fine.events

  event-back : (before : List Event) (e : Event) (after : List Event) → es ≡ before ++ (e ∷ after) → read_event wide (drop (event_place wide (length own) (length before)) (tape_of wide own o es)) ≡ Ok e
  event-back before e after h =
      let s : List ℕ = tape_of wide own o es in
      let k : ℕ = length before in
      let below : k < length es = omega (arith, ap length h, length-append before (e ∷ after)) in
      let there : record_in s t k ≡ e = sym (record-nth s t k e below) ∙ ap (λ (xs : List Event). get_or xs k e) (records-back ∙ h) ∙ get_or-append_seam before e after e in
      let room : event_place wide (length own) k + width_of wide + 16 ≤ length s = (holds s t opens).event k below in
      record-reads s t k e there (formed-at before e after (subst (AllHeld wide) h fine.events)) (omega (arith, length-drop (event_place wide (length own) k) s))

  pub tape-back : TapeBack wide own o es
  tape-back = record { written = made; opens = opens; order = order-back; records = records-back; event = event-back }

-- ---- a whole tape that was read is written back

-- records in form, read and written
module _ (wide : Bool) where
  abbrev Formed : Event → Type 0
  Formed e = event_formed e ≡ true

  -- what stands in a record in form is read
  pub record-got : (r : List ℕ) → length r ≡ width_of wide → Formed (record_at wide r) → read_event wide r ≡ Ok (record_at wide r)
  record-got r n f = (recorded wide r).reads (omega arith) ∙ ap (λ (x : Bool). cond x (Ok (record_at wide r)) (Err EventOutOfForm)) f

  records-written : (rs : List (List ℕ)) → Long (width_of wide) rs → Every AllBytes rs → Every Formed (map (record_at wide) rs) → map (event_bytes wide) (map (record_at wide) rs) ≡ rs
  records-written [] n b f = refl
  records-written (r ∷ rs) n b f =
      let one : event_bytes wide (record_at wide r) ≡ r = event-read wide r (record_at wide r) b.0 (record-got r n.0 f.0) ∙ take_all (width_of wide) r (omega (arith, n.0)) in
      ap (λ (x : List ℕ). x ∷ map (event_bytes wide) (map (record_at wide) rs)) one ∙ ap (λ (xs : List (List ℕ)). r ∷ xs) (records-written rs n.1 b.1 f.1)

order_same : (s : List ℕ) (t : Trailer) (o : Order) → AllBytes s → order_in s t ≡ Ok o → word_bytes (order_words o) ≡ order_bytes s t
unfolding order_in order_bytes
order_same s t o b q = order-read (drop t.order s) o (bytes_drop t.order s b) q

pub whole_back : (s : List ℕ) (t : Trailer) (o : Order) → AllBytes s → open_tape s ≡ Ok t → order_in s t ≡ Ok o → Every (λ e. event_formed e ≡ true) (records_of s t) → tape_of t.wide (own_bytes s t) o (records_of s t) ≡ s
whole_back s t o b h q f =
    let m : MadeOf s t = made_of s t h in
    let own : List ℕ = own_bytes s t in
    let records : map (event_bytes t.wide) (records_of s t) ≡ records_bytes s t = ap (map (event_bytes t.wide)) m.records ∙ records-written t.wide (records_bytes s t) m.fitting.each_long (records-bytes s t b) (subst (Every (λ e. event_formed e ≡ true)) m.records f) in
    tape-with t.wide own o (records_of s t)
    ∙ ap (λ (x : List ℕ). tape_with t.wide own x (map (event_bytes t.wide) (records_of s t))) (order_same s t o b q)
    ∙ ap (tape_with t.wide own (order_bytes s t)) records
    ∙ m.whole b

-- ---- and so the writers write it

-- a word that is read fits 32 bits
word_fits : (s : List ℕ) (at : ℕ) → AllBytes s → Word (word_at s at)
word_fits s at b = ⊎_elim (λ n. omega (arith, word_in s at n, b at, b (at + 1), b (at + 2), b (at + 3))) (λ n. omega (arith, word_out s at n)) (le-or-lt (at + 4) (length s))

-- records in form bear sequences and participants that fit
pub participant-fits : (wide : Bool) (r : List ℕ) → AllBytes r → Word (record_at wide r).participant
unfolding record_at event_of
participant-fits wide r b = go (ltb (length r) (width_of wide)) (event_spare wide r) wide
  where
    new : (w : Bool) → Word (new_word w r 32)
    new true = word_fits r 32 b
    new false = omega arith

    go : (x y w : Bool) → Word (cond x (of_no_kind (word_at r 0)) (cond y (event_of w r) (of_no_kind (word_at r 0)))).participant
    go true y w = omega arith
    go false true w = new w
    go false false w = omega arith

records-held : (wide : Bool) (rs : List (List ℕ)) → Long (width_of wide) rs → Every AllBytes rs → Every (λ e. event_formed e ≡ true) (map (record_at wide) rs) → AllHeld wide (map (record_at wide) rs)
records-held wide [] n b f = none
records-held wide (r ∷ rs) n b f =
    more (subst Word (sym (recorded wide r).sequence) (word_fits r 0 b.0)) (participant-fits wide r b.0) (event-held wide r (record_at wide r) (record-got wide r n.0 f.0)) (records-held wide rs n.1 b.1 f.1)

pub whole-written : (s room : List ℕ) (t : Trailer) (o : Order) → AllBytes s → open_tape s ≡ Ok t → order_in s t ≡ Ok o → Every (λ e. event_formed e ≡ true) (records_of s t) → length (own_bytes s t) + length room ≡ length s
    → wrote_tape t.wide (own_bytes s t) o (records_of s t) room ≡ s
whole-written s room t o b h q f n =
    let m : MadeOf s t = made_of s t h in
    let own : List ℕ = own_bytes s t in
    let es : List Event = records_of s t in
    let back : tape_of t.wide own o es ≡ s = whole_back s t o b h q f in
    let long : length (tape_of t.wide own o es) ≡ length_of (trailer_for t.wide own es) =
    ap length (tape-with t.wide own o es) ∙ tape-long t.wide own (word_bytes (order_words o)) (map (event_bytes t.wide) es) (order-64 o) (each_long t.wide es) ∙ ap length_of (same-trailer t.wide own es) in
    let fine : Tapeable t.wide own o es =
    record {
      order = order-formed (order_bytes s t) o (sym m.ordered ∙ q);
      events = subst (AllHeld t.wide) (sym m.records) (records-held t.wide (records_bytes s t) m.fitting.each_long (records-bytes s t b) (subst (Every (λ e. event_formed e ≡ true)) m.records f));
      fits = omega (arith, long, ap length back, (holds s t h).short);
    } in
    (tape-back t.wide own o es fine).written room (omega (arith, n, long, ap length back)) ∙ back

-- ---- the bytes themselves

in_bytes : InBytes
unfolding trailer_words event_words read_event width_of event_of event_spare word_at event_formed shape_tests shape_of
in_bytes = record { old-trailer = refl; new-trailer = refl; old-record = refl; new-record = refl; new-read = refl }

-- ---- all that is promised

pub demands : Demands
demands =
    record {
      in_bytes = in_bytes;
      values-back = values-back;
      bytes_back = bytes_back;
      refusals-keep = refusals-keep;
      tape-back = tape-back;
      holds = holds;
      recorded = recorded;
      any-records = any-records;
      made_of = made_of;
      whole_back = whole_back;
      whole-written = whole-written;
    }
