-- A whole tape by its bytes: any records make a tape, and a tape is made of its records. Assumes nothing.
use mathlib.Core.Path.{◌≡◌, refl, ap, sym, ◌∙◌}
use mathlib.Core.Bool.{Bool}
use mathlib.Core.List.{List, [], ◌∷◌, ◌++◌, map, append_assoc, append-nil}
use Prim.Native.Nat.{ℕ, zero, suc, ◌+◌, ◌*◌, ◌-◌, ◌≤◌}
use native.Mathlib.Nat.{zero-mul, suc-mul, add-mul}
use native.Mathlib.Omega.{arith}
use lib.ListN.{length, take, drop, length-append, length-drop, take-append-drop}
use lib.Seq.{length-take-le, take_all, take_at, drop_at, drop-drop}
use borrow.Author.Tests.{le-ltb, eq-eqb}
use Rattle.std.specs.Prelude.{Ok}
use Rattle.base.specs.Lists.{Every}
use Rattle.words.specs.rules.Bytes.{AllBytes, word_bytes}
use Rattle.words.proofs.ByteLaws.{length-word_bytes, bytes_take, bytes_drop, bytes-append, bytes-words}
use Rattle.tape.specs.declared.event.Event.{Event}
use Rattle.tape.specs.declared.trailer.Trailer.{Trailer}
use Rattle.tape.specs.rules.Records.{width_of, trailer_words, read_order, record_at, read_trailer}
use Rattle.tape.specs.rules.Tape.{length_of, last_trailer, open_tape, event_place, order_in, record_in, records_from, records_of, trailer_for}
use Rattle.tape.specs.rules.Whole.{together, parts, in_place, tape_with, own_bytes, order_bytes, records_bytes}
use Rattle.roundtrip.specs.promises.Demands.{Fitting, AnyRecords, MadeOf}
use Rattle.tape.proofs.RecordLaws.{at_least, order-alone, record-alone}
use Rattle.tape.proofs.HoldsLaws.{records-none, records-more, tape-took}
use Rattle.roundtrip.proofs.RoundTrip.{trailer-length, trailer-written, trailer-read}

-- ---- records of one length, any, one after the other

module _ (long : ℕ) where
  -- each of them is as long
  abbrev pub Long : List (List ℕ) → Type 0
  Long = Every (λ r. length r ≡ long)

  pub together-long : (rs : List (List ℕ)) → Long rs → length (together rs) ≡ length rs * long
  together-long [] e = sym (zero-mul long)
  together-long (r ∷ rs) e = omega (arith, length-append r (together rs), e.0, together-long rs e.1, suc-mul (length rs) long)

  -- what was put together is taken apart again
  parts-together : (rs : List (List ℕ)) (l : List ℕ) → Long rs → parts long (together rs ++ l) (length rs) ≡ rs
  parts-together [] l e = refl
  parts-together (r ∷ rs) l e =
      let s : (r ++ together rs) ++ l ≡ r ++ (together rs ++ l) = append_assoc r (together rs) l in
      ap (λ (x : List ℕ). take long x ∷ parts long (drop long x) (length rs)) s
      ∙ ap (λ (x : List ℕ). x ∷ parts long (drop long (r ++ (together rs ++ l))) (length rs)) (take_at r (together rs ++ l) long e.0)
      ∙ ap (λ (x : List ℕ). r ∷ parts long x (length rs)) (drop_at r (together rs ++ l) long e.0)
      ∙ ap (λ (x : List (List ℕ)). r ∷ x) (parts-together rs l e.1)

  -- and what was taken apart is put together again
  pub together-parts : (s : List ℕ) (n : ℕ) → together (parts long s n) ++ drop (n * long) s ≡ s
  together-parts s zero = ap (λ (k : ℕ). drop k s) (zero-mul long)
  together-parts s (suc n) =
      let k : suc n * long ≡ long + n * long = omega (arith, suc-mul n long) in
      append_assoc (take long s) (together (parts long (drop long s) n)) (drop (suc n * long) s)
      ∙ ap (λ (i : ℕ). take long s ++ (together (parts long (drop long s) n) ++ drop i s)) k
      ∙ ap (λ (l : List ℕ). take long s ++ (together (parts long (drop long s) n) ++ l)) (sym (drop-drop (n * long) long s))
      ∙ ap (λ (l : List ℕ). take long s ++ l) (together-parts (drop long s) n)
      ∙ take-append-drop long s

  parts-count : (s : List ℕ) (n : ℕ) → length (parts long s n) ≡ n
  parts-count s zero = refl
  parts-count s (suc n) = ap suc (parts-count (drop long s) n)

  parts-long : (s : List ℕ) (n : ℕ) → n * long ≤ length s → Long (parts long s n)
  parts-long s zero h = tt
  parts-long s (suc n) h =
      let k : long + n * long ≤ length s = omega (arith, suc-mul n long) in
      (length-take-le long s (omega arith), parts-long (drop long s) n (omega (arith, length-drop long s)))

  parts-bytes : (s : List ℕ) (n : ℕ) → AllBytes s → Every AllBytes (parts long s n)
  parts-bytes s zero b = tt
  parts-bytes s (suc n) b = (bytes_take long s b, parts-bytes (drop long s) n (bytes_drop long s b))

  -- a tape's parts in their places, whatever its trailer is
  module _ (own order : List ℕ) (rs : List (List ℕ)) (trailer : List ℕ) (n : length order ≡ 64) (e : Long rs) where
    pub placed-long : length (in_place own order rs trailer) ≡ length own + 64 + length rs * long + length trailer
    placed-long = omega (arith, length-append own (order ++ (together rs ++ trailer)), length-append order (together rs ++ trailer), length-append (together rs) trailer, together-long rs e, n)

    pub placed-order : take 64 (drop (length own) (in_place own order rs trailer)) ≡ order
    placed-order = ap (take 64) (drop_at own (order ++ (together rs ++ trailer)) (length own) refl) ∙ take_at order (together rs ++ trailer) 64 n

    after-order : drop (length own + 64) (in_place own order rs trailer) ≡ together rs ++ trailer
    after-order =
        let rest : List ℕ = order ++ (together rs ++ trailer) in
        sym (drop-drop 64 (length own) (own ++ rest)) ∙ ap (drop 64) (drop_at own rest (length own) refl) ∙ drop_at order (together rs ++ trailer) 64 n

    pub placed-records : parts long (drop (length own + 64) (in_place own order rs trailer)) (length rs) ≡ rs
    placed-records = ap (λ (l : List ℕ). parts long l (length rs)) after-order ∙ parts-together rs trailer e

    pub placed-trailer : drop (length own + 64 + length rs * long) (in_place own order rs trailer) ≡ trailer
    placed-trailer =
        sym (drop-drop (length rs * long) (length own + 64) (in_place own order rs trailer))
        ∙ ap (drop (length rs * long)) after-order
        ∙ drop_at (together rs) trailer (length rs * long) (together-long rs e)

  -- any bytes are the parts that stand in their places, for an order at `at` and n records
  pub placed-back : (s : List ℕ) (at n : ℕ) → in_place (take at s) (take 64 (drop at s)) (parts long (drop (at + 64) s) n) (drop (at + 64 + n * long) s) ≡ s
  placed-back s at n =
      let rest : List ℕ = drop at s in
      ap (λ (l : List ℕ). take at s ++ (take 64 rest ++ (together (parts long (drop (at + 64) s) n) ++ l))) (sym (drop-drop (n * long) (at + 64) s))
      ∙ ap (λ (l : List ℕ). take at s ++ (take 64 rest ++ l)) (together-parts (drop (at + 64) s) n)
      ∙ ap (λ (l : List ℕ). take at s ++ (take 64 rest ++ l)) (sym (drop-drop 64 at s))
      ∙ ap (λ (l : List ℕ). take at s ++ l) (take-append-drop 64 rest)
      ∙ take-append-drop at s

together-bytes : (rs : List (List ℕ)) → Every AllBytes rs → AllBytes (together rs)
together-bytes [] b = bytes-words []
together-bytes (r ∷ rs) b = bytes-append r (together rs) b.0 (together-bytes rs b.1)

-- ---- what is read of a tape is read of its parts

module _ (s : List ℕ) (t : Trailer) where
  order-part : t.order + 64 ≤ length s → order_in s t ≡ read_order (order_bytes s t)
  unfolding order_in order_bytes
  order-part h =
      let rest : List ℕ = drop t.order s in
      ap read_order (sym (take-append-drop 64 rest)) ∙ order-alone (take 64 rest) (drop 64 rest) (length-take-le 64 rest (omega (arith, length-drop t.order s)))

  abbrev long : ℕ
  long = width_of t.wide

  abbrev at : List ℕ → Event
  at = record_at t.wide

  records-from : (n k : ℕ) → event_place t.wide t.order k + n * long ≤ length s → records_from s t k n ≡ map at (parts long (drop (event_place t.wide t.order k) s) n)
  unfolding record_in
  records-from zero k h = records-none s t k
  records-from (suc n) k h =
      let here : ℕ = event_place t.wide t.order k in
      let rest : List ℕ = drop here s in
      let more : suc n * long ≡ n * long + long = suc-mul n long in
      let one : at rest ≡ at (take long rest) =
      ap at (sym (take-append-drop long rest)) ∙ record-alone t.wide (take long rest) (drop long rest) (length-take-le long rest (omega (arith, length-drop here s))) in
      let after : here + long ≡ event_place t.wide t.order (k + 1) = omega (arith, add-mul k 1 long) in
      let next : drop (event_place t.wide t.order (k + 1)) s ≡ drop long rest = ap (λ (i : ℕ). drop i s) (sym after) ∙ sym (drop-drop long here s) in
      records-more s t k n
      ∙ ap (λ (e : Event). e ∷ records_from s t (k + 1) n) one
      ∙ ap (λ (es : List Event). at (take long rest) ∷ es) (records-from n (k + 1) (omega (arith, after, more)) ∙ ap (λ (l : List ℕ). map at (parts long l n)) next)

  records-part : t.order + 64 + t.events * long ≤ length s → records_of s t ≡ map at (records_bytes s t)
  unfolding records_of records_bytes
  records-part h =
      let z : event_place t.wide t.order 0 ≡ t.order + 64 = omega (arith, zero-mul long) in
      records-from t.events 0 (omega (arith, z)) ∙ ap (λ (i : ℕ). map at (parts long (drop i s) t.events)) z

-- ---- a tape of any records

trailer-bytes : (t : Trailer) → length (word_bytes (trailer_words t)) ≡ 16
trailer-bytes t = length-word_bytes (trailer_words t) ∙ ap (λ (n : ℕ). n * 4) (trailer-length t)

module _ (wide : Bool) (own order : List ℕ) (rs : List (List ℕ)) (n : length order ≡ 64) (e : Long (width_of wide) rs) where
  pub tape-long : length (tape_with wide own order rs) ≡ length_of (trailer_for wide own rs)
  unfolding tape_with
  tape-long = let t : Trailer = trailer_for wide own rs in omega (arith, placed-long (width_of wide) own order rs (word_bytes (trailer_words t)) n e, trailer-bytes t)

  pub own-with : own_bytes (tape_with wide own order rs) (trailer_for wide own rs) ≡ own
  unfolding tape_with own_bytes
  own-with = take_at own _ (length own) refl

  pub order-with : order_bytes (tape_with wide own order rs) (trailer_for wide own rs) ≡ order
  unfolding tape_with order_bytes
  order-with = placed-order (width_of wide) own order rs (word_bytes (trailer_words (trailer_for wide own rs))) n e

  pub records-with : records_bytes (tape_with wide own order rs) (trailer_for wide own rs) ≡ rs
  unfolding tape_with records_bytes
  records-with = placed-records (width_of wide) own order rs (word_bytes (trailer_words (trailer_for wide own rs))) n e

  trailer-with : drop (event_place wide (length own) (length rs)) (tape_with wide own order rs) ≡ word_bytes (trailer_words (trailer_for wide own rs))
  unfolding tape_with
  trailer-with = placed-trailer (width_of wide) own order rs (word_bytes (trailer_words (trailer_for wide own rs))) n e

  tape-opens : length (tape_with wide own order rs) ≤ 65536 → open_tape (tape_with wide own order rs) ≡ Ok (trailer_for wide own rs)
  unfolding open_tape last_trailer
  tape-opens fits =
      let s : List ℕ = tape_with wide own order rs in
      let t : Trailer = trailer_for wide own rs in
      let l : length s ≡ length_of t = tape-long in
      let many : length rs * 32 ≤ length rs * width_of wide = at_least wide (length rs) in
      let place : length s - 16 ≡ event_place wide (length own) (length rs) = omega arith in
      let last : drop (length s - 16) s ≡ word_bytes (trailer_words t) ++ [] = ap (λ (k : ℕ). drop k s) place ∙ trailer-with ∙ sym (append-nil (word_bytes (trailer_words t))) in
      let got : read_trailer (drop (length s - 16) s) ≡ Ok t = ap read_trailer last ∙ trailer-written t [] (omega arith) (omega arith) in
      simp (le-ltb (length s) 16 (omega arith), le-ltb 65536 (length s) fits, got, eq-eqb (length_of t) (length s) (sym l))

pub any-records : (wide : Bool) (own order : List ℕ) (rs : List (List ℕ)) → Fitting wide own order rs → AnyRecords wide own order rs
any-records wide own order rs f =
    let s : List ℕ = tape_with wide own order rs in
    let t : Trailer = trailer_for wide own rs in
    let l : length s ≡ length_of t = tape-long wide own order rs f.order-long f.each_long in
    record {
      opens = tape-opens wide own order rs f.order-long f.each_long f.fits;
      ordered = order-part s t (omega arith) ∙ ap read_order (order-with wide own order rs f.order-long f.each_long);
      records = records-part s t (omega arith) ∙ ap (map (record_at wide)) (records-with wide own order rs f.order-long f.each_long);
    }

-- a tape of bytes
pub tape-bytes : (wide : Bool) (own order : List ℕ) (rs : List (List ℕ)) → AllBytes own → AllBytes order → Every AllBytes rs → AllBytes (tape_with wide own order rs)
unfolding tape_with
tape-bytes wide own order rs a b c =
    let end : List ℕ = word_bytes (trailer_words (trailer_for wide own rs)) in
    bytes-append own (order ++ (together rs ++ end)) a (bytes-append order (together rs ++ end) b (bytes-append (together rs) end (together-bytes rs c) (bytes-words (trailer_words (trailer_for wide own rs)))))

-- ---- what a tape that opens is made of

module _ (s : List ℕ) (t : Trailer) (b : AllBytes s) where
  pub own-bytes : AllBytes (own_bytes s t)
  unfolding own_bytes
  own-bytes = bytes_take t.order s b

  pub order-bytes : AllBytes (order_bytes s t)
  unfolding order_bytes
  order-bytes = bytes_take 64 (drop t.order s) (bytes_drop t.order s b)

  pub records-bytes : Every AllBytes (records_bytes s t)
  unfolding records_bytes
  records-bytes = parts-bytes (width_of t.wide) (drop (t.order + 64) s) t.events (bytes_drop (t.order + 64) s b)

-- where the lengths add up, each record is as long as its form says
pub each_long : (s : List ℕ) (t : Trailer) → length_of t ≡ length s → Long (width_of t.wide) (records_bytes s t)
unfolding records_bytes
each_long s t l = parts-long (width_of t.wide) (drop (t.order + 64) s) t.events (omega (arith, length-drop (t.order + 64) s))

-- and the trailer is the one for them
pub same-trailer : (s : List ℕ) (t : Trailer) → length_of t ≡ length s → trailer_for t.wide (own_bytes s t) (records_bytes s t) ≡ t
unfolding own_bytes records_bytes
same-trailer s t l =
    let a : length (take t.order s) ≡ t.order = length-take-le t.order s (omega arith) in
    let b : length (parts (width_of t.wide) (drop (t.order + 64) s) t.events) ≡ t.events = parts-count (width_of t.wide) (drop (t.order + 64) s) t.events in
    simp (a, b)

module _ (s : List ℕ) (t : Trailer) (h : open_tape s ≡ Ok t) where
  abbrev wide : Bool
  wide = t.wide

  order-64 : length (order_bytes s t) ≡ 64
  unfolding order_bytes
  order-64 = length-take-le 64 (drop t.order s) (omega (arith, length-drop t.order s, (tape-took s t h).1))

  whole : AllBytes s → tape_with wide (own_bytes s t) (order_bytes s t) (records_bytes s t) ≡ s
  unfolding tape_with own_bytes order_bytes records_bytes
  whole b =
      let l : length_of t ≡ length s = (tape-took s t h).1 in
      let last : List ℕ = drop (length s - 16) s in
      let all : take 16 last ≡ last = take_all 16 last (omega (arith, length-drop (length s - 16) s)) in
      let place : length s - 16 ≡ event_place wide t.order t.events = omega arith in
      let trailer : word_bytes (trailer_words t) ≡ drop (event_place wide t.order t.events) s = trailer-read last t (bytes_drop (length s - 16) s b) (tape-took s t h).2 ∙ all ∙ ap (λ (k : ℕ). drop k s) place in
      ap (in_place (own_bytes s t) (order_bytes s t) (records_bytes s t)) (ap (λ (x : Trailer). word_bytes (trailer_words x)) (same-trailer s t l) ∙ trailer)
      ∙ placed-back (width_of wide) s t.order t.events

  pub made_of : MadeOf s t
  made_of =
      let l : length_of t ≡ length s = (tape-took s t h).1 in
      let short : length s ≤ 65536 = (tape-took s t h).0 in
      let long : length (tape_with wide (own_bytes s t) (order_bytes s t) (records_bytes s t)) ≡ length_of t = tape-long wide (own_bytes s t) (order_bytes s t) (records_bytes s t) order-64 (each_long s t l) ∙ ap length_of (same-trailer s t l) in
      record {
        fitting = record { order-long = order-64; each_long = each_long s t l; fits = omega arith };
        whole = whole;
        ordered = order-part s t (omega arith);
        records = records-part s t (omega arith);
      }
