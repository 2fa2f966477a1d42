-- What the loops of `moving` come to, turn by turn. Assumes nothing.
use mathlib.Core.Path.{◌≡◌, refl, sym, ap, subst, ◌∙◌}
use mathlib.Core.Bool.{Bool}
use mathlib.Core.List.{List, [], ◌∷◌, ◌++◌, map, append_assoc}
use Prim.Native.Nat.{ℕ, ◌+◌, ◌*◌, ◌-◌, ◌≤◌, ◌<◌}
use native.Mathlib.Nat.{zero-add}
use native.Mathlib.Omega.{arith}
use borrow.Rule.Slice.PartMut.{put_mid}
use lib.ListN.{length, take, drop, length-append, length-drop, length-map}
use lib.Seq.{sets, sets-eq, length-sets, take-add, drop-drop, take_at, drop_at, length-take-le}
use denote.Ref.{Bor}
use Rattle.std.specs.declared.slice.ChunksExact.{ChunksExact}
use Rattle.std.specs.Iterator.{AlwaysYields}
use Rattle.std.specs.Slice.Iter.{chunks_exact_rest, chunks_exact_size, chunks_exact_steps}
use Rattle.std.proofs.lemmas.Iterator.{YieldsList}
use Rattle.base.proofs.SetsLaws.{part-back, rest-is, sets-front}
use Rattle.words.specs.rules.Bytes.{word_bytes}
use Rattle.words.specs.inside.Writing.{WroteBytes, LeftBytes}
use Rattle.words.proofs.ByteLaws.{length-word_bytes}
use Rattle.words.proofs.WroteLaws.{wrote-append, left-same, left-wrote, left-done}
use Rattle.tape.specs.declared.trailer.Trailer.{Trailer}
use Rattle.tape.specs.rules.Records.{width_of, trailer_words, trailer_wrote}
use Rattle.tape.specs.rules.Tape.{length_of}
use Rattle.tape.specs.rules.Whole.{together, parts, tape_with, own_bytes, order_bytes, records_bytes}
use Rattle.tape.proofs.RecordLaws.{width-ge}
use Rattle.roundtrip.proofs.RoundTrip.{wrote-is, trailer-length}
use Rattle.roundtrip.proofs.Whole.{Long, together-long, together-parts, each_long, same-trailer}
use Rattle.moving.specs.rules.Moving.{moved_record, moved_trailer, moved_tape, moved_bytes}
use Rattle.moving.proofs.MoveLaws.{records-long, moved-trailer, moved-width}

-- ---- writing at a place

-- what is written at the start of the part that was lent from a place on is written at that place
put-at : (xs s ys : List ℕ) (a : ℕ) → a + length s ≤ length xs → ys ≡ s ++ drop (length s) (take (length xs - a) (drop a xs)) → put_mid a (length xs - a) xs ys ≡ sets xs a s
put-at xs s ys a h e =
    part-back a xs ys
    ∙ ap (λ (r : List ℕ). take a xs ++ r) (e ∙ ap (λ (l : List ℕ). s ++ drop (length s) l) (rest-is xs a) ∙ ap (λ (l : List ℕ). s ++ l) (drop-drop (length s) a xs))
    ∙ sym (append_assoc (take a xs) s (drop (a + length s) xs))
    ∙ sym (sets-eq s xs a h)

-- ---- the records, one after the other

-- where they lie in a tape whose lengths add up
pub records-lie : (s : List ℕ) (t : Trailer) → length_of t ≡ length s → take (length s - 16 - (t.order + 64)) (drop (t.order + 64) s) ≡ together (records_bytes s t)
unfolding records_bytes
records-lie s t l =
    let w = width_of t.wide in
    let d = drop (t.order + 64) s in
    let rs = parts w d t.events in
    let n : length (together rs) ≡ t.events * w = together-long w rs (each_long s t l) ∙ ap (λ (k : ℕ). k * w) (ap (λ (x : Trailer). x.events) (same-trailer s t l)) in
    ap (take (length s - 16 - (t.order + 64))) (sym (together-parts w d t.events))
    ∙ take_at (together rs) (drop (t.events * w) d) (length s - 16 - (t.order + 64)) (omega (arith, n))

-- the first of records of one length, and those after it
pub record Next (long : ℕ) (rs : List (List ℕ)) (x l : List ℕ) : Type 0 where
  pub after : List (List ℕ)
  pub first : rs ≡ x ∷ after
  pub rest : l ≡ together after
  pub as_long : Long long after

next : (long : ℕ) (rs : List (List ℕ)) (x l : List ℕ) → 0 < long → Long long rs → together rs ≡ x ++ l → length x ≡ long → Next long rs x l
next long [] x l p a e n = absurd (omega (arith, ap length e, length-append x l))
next long (r ∷ rs) x l p a e n =
    record {
      after = rs;
      first = ap (λ (y : List ℕ). y ∷ rs) (sym (take_at r (together rs) long a.0) ∙ ap (take long) e ∙ take_at x l long n);
      rest = sym (drop_at x l long n) ∙ ap (drop long) (sym e) ∙ drop_at r (together rs) long a.0;
      as_long = a.1;
    }

-- an iterator that has records of its length left, one after the other
pub record Over (it : ChunksExact ℕ) (rs : List (List ℕ)) : Type 0 where
  pub some : 0 < chunks_exact_size it
  pub as_long : Long (chunks_exact_size it) rs
  pub rest : chunks_exact_rest it ≡ together rs

-- over those of a tape
pub over-tape : {it : ChunksExact ℕ} (s : List ℕ) (t : Trailer) → length_of t ≡ length s → chunks_exact_size it ≡ width_of t.wide → chunks_exact_rest it ≡ together (records_bytes s t) → Over it (records_bytes s t)
over-tape s t l e r = record { some = omega (arith, e, width-ge t.wide); as_long = rw e (each_long s t l); rest = r }

-- it gives just them
chunks : (it : ChunksExact ℕ) (rs : List (List ℕ)) → Over it rs → AlwaysYields chunks_exact_steps (λ (x : Bor (List ℕ)). x.now) it rs
chunks it [] o = λ x j k. omega (arith, o.some, k.1.1, ap length (sym o.rest ∙ k.1.0), length-append x.now (chunks_exact_rest j))
chunks it (r ∷ rs) o = (
  λ j k. omega (arith, k.1.0, o.as_long.0, ap length o.rest, length-append r (together rs)),
  λ x j k.
      let n = next (chunks_exact_size it) (r ∷ rs) x.now (chunks_exact_rest j) o.some o.as_long (sym o.rest ∙ k.1.0) k.1.1 in
      let e : rs ≡ n.after = cc (n.first) in
      (cc (n.first), chunks j rs (record { some = omega (arith, o.some, k.0); as_long = rw (k.0, e) n.as_long; rest = n.rest ∙ ap together (sym e) })),
)

pub over : {it : ChunksExact ℕ} {rs : List (List ℕ)} → Over it rs → YieldsList chunks_exact_steps (λ (x : Bor (List ℕ)). x.now) it rs
over {it} {rs} o = record { runs = chunks it rs o }

-- ---- writing them

-- how many bytes the moved records have, where the lengths add up
records-width : (wide : Bool) (s : List ℕ) (t : Trailer) → length_of t ≡ length s → length (together (map (moved_record wide) (records_bytes s t))) ≡ t.events * width_of wide
records-width wide s t l =
    let n : length (records_bytes s t) ≡ t.events = ap (λ (x : Trailer). x.events) (same-trailer s t l) in
    together-long (width_of wide) (map (moved_record wide) (records_bytes s t)) (records-long wide t.wide (records_bytes s t) (each_long s t l))
    ∙ ap (λ (m : ℕ). m * width_of wide) (length-map (records_bytes s t) (moved_record wide) ∙ n)

-- what is left to write is the records that an iterator has left, in the other form
pub record Moving (wide : Bool) (s : List ℕ) (t : Trailer) (it : ChunksExact ℕ) (xs : List ℕ) (start : ℕ) (ys : List ℕ) (w : ℕ) : Type 0 where
  pub records : List (List ℕ)
  pub over : Over it records
  pub width : chunks_exact_size it ≡ width_of t.wide
  pub left : LeftBytes xs start (together (map (moved_record wide) (records_bytes s t))) ys w (together (map (moved_record wide) records))

-- one record
module _ {wide : Bool} {s : List ℕ} {t : Trailer} {it : ChunksExact ℕ} {xs ys : List ℕ} {start w : ℕ} (jt : ChunksExact ℕ) (r : List ℕ) (m : Moving wide s t it xs start ys w) (e : chunks_exact_rest it ≡ r ++ chunks_exact_rest jt) (n : length r ≡ chunks_exact_size it) where
  here : Next (chunks_exact_size it) m.records r (chunks_exact_rest jt)
  here = next (chunks_exact_size it) m.records r (chunks_exact_rest jt) m.over.some m.over.as_long (sym m.over.rest ∙ e) n

  split : together (map (moved_record wide) m.records) ≡ moved_record wide r ++ together (map (moved_record wide) here.after)
  split = ap (λ (rs : List (List ℕ)). together (map (moved_record wide) rs)) here.first

  pub long-record : 32 ≤ length r
  long-record = omega (arith, n, m.width, width-ge t.wide)

  pub record-room : length_of t ≡ length s → start + t.events * width_of wide ≤ length xs → length ys ≡ length xs → w + width_of wide ≤ length ys
  record-room l room same =
      omega (arith, m.left.place, records-width wide s t l, ap length split, length-append (moved_record wide r) (together (map (moved_record wide) here.after)), moved-width r wide long-record)

  pub record-turn : {next : ℕ} {zs : List ℕ} → chunks_exact_size jt ≡ chunks_exact_size it → WroteBytes ys w (moved_record wide r) next zs → Moving wide s t jt xs start zs next
  record-turn z wrote =
      record {
        records = here.after;
        over = record { some = omega (arith, m.over.some, z); as_long = subst (λ (k : ℕ). Long k here.after) (sym z) here.as_long; rest = here.rest };
        width = z ∙ m.width;
        left = left-wrote (left-same m.left split) wrote;
      }

-- no record is left
none-left : (long : ℕ) (rs : List (List ℕ)) → Long long rs → length (together rs) < long → rs ≡ []
none-left long [] a h = refl
none-left long (r ∷ rs) a h = absurd (omega (arith, a.0, length-append r (together rs)))

pub records-done : {wide : Bool} {s : List ℕ} {t : Trailer} {it : ChunksExact ℕ} {xs ys : List ℕ} {start w : ℕ} → Moving wide s t it xs start ys w → length (chunks_exact_rest it) < chunks_exact_size it
    → WroteBytes xs start (together (map (moved_record wide) (records_bytes s t))) w ys
records-done {wide} {it = it} m h =
    let none : m.records ≡ [] = none-left (chunks_exact_size it) m.records m.over.as_long (omega (arith, ap length m.over.rest)) in
    left-done (left-same m.left (ap (λ (rs : List (List ℕ)). together (map (moved_record wide) rs)) none))

-- ---- the whole tape

trailer-16 : (t : Trailer) → length (word_bytes (trailer_words t)) ≡ 16
trailer-16 t = length-word_bytes (trailer_words t) ∙ ap (λ (k : ℕ). k * 4) (trailer-length t)

-- what a writer leaves of a trailer in the part that was lent to it
trailer-put : (t : Trailer) (out : List ℕ) → 16 ≤ length out → trailer_wrote t out ≡ word_bytes (trailer_words t) ++ drop (length (word_bytes (trailer_words t))) out
unfolding trailer_wrote
trailer-put t out h =
    let n : length (trailer_words t) ≡ 4 = trailer-length t in
    wrote-is (trailer_words t) out refl (omega arith) ∙ ap (λ (k : ℕ). word_bytes (trailer_words t) ++ drop k out) (sym (length-word_bytes (trailer_words t)))

-- after the first bytes and the records
module _ (wide : Bool) (s : List ℕ) (t : Trailer) {xs ys zs : List ℕ} {start end : ℕ} (l : length_of t ≡ length s) (room : length_of (moved_trailer wide t) ≤ length xs)
    (first : WroteBytes xs 0 (take (t.order + 64) s) start ys) (records : WroteBytes ys start (together (map (moved_record wide) (records_bytes s t))) end zs) where
  -- the trailer's place
  end-place : end + 16 ≡ length_of (moved_trailer wide t)
  end-place = omega (arith, first.place, records.place, length-take-le (t.order + 64) s (omega (arith, l)), records-width wide s t l)

  same-room : length zs ≡ length xs
  same-room = ap length records.words ∙ length-sets ys start (together (map (moved_record wide) (records_bytes s t))) ∙ ap length first.words ∙ length-sets xs 0 (take (t.order + 64) s)

  pub trailer-room : end ≤ length zs
  trailer-room = omega (arith, end-place, same-room)

  -- the moved tape, and the bytes past it
  pub wrote-tape : {us : List ℕ} → us ≡ trailer_wrote (moved_trailer wide t) (take (length zs - end) (drop end zs)) → put_mid end (length zs - end) zs us ≡ moved_bytes wide s t xs
  unfolding moved_tape tape_with own_bytes order_bytes
  wrote-tape {us} e =
      let rs = map (moved_record wide) (records_bytes s t) in
      let tr = word_bytes (trailer_words (moved_trailer wide t)) in
      let n16 : length tr ≡ 16 = trailer-16 (moved_trailer wide t) in
      let left : 16 ≤ length (take (length zs - end) (drop end zs)) = omega (arith, end-place, same-room, ap length (rest-is zs end), length-drop end zs) in
      let last : put_mid end (length zs - end) zs us ≡ sets zs end tr = put-at zs tr us end (omega (arith, end-place, same-room)) (e ∙ trailer-put (moved_trailer wide t) _ left) in
      let all : WroteBytes xs 0 ((take (t.order + 64) s ++ together rs) ++ tr) (end + length tr) (put_mid end (length zs - end) zs us) = wrote-append (wrote-append first records) (record { words = last; place = refl }) in
      let tape : (take (t.order + 64) s ++ together rs) ++ tr ≡ moved_tape wide s t =
      ap (λ (x : List ℕ). (x ++ together rs) ++ tr) (take-add t.order 64 s)
      ∙ append_assoc (take t.order s ++ take 64 (drop t.order s)) (together rs) tr
      ∙ append_assoc (take t.order s) (take 64 (drop t.order s)) (together rs ++ tr)
      ∙ ap (λ (x : Trailer). take t.order s ++ (take 64 (drop t.order s) ++ (together rs ++ word_bytes (trailer_words x)))) (sym (moved-trailer wide s t l)) in
      let n : length (moved_tape wide s t) ≡ length_of (moved_trailer wide t) = sym (ap length tape) ∙ sym (zero-add _) ∙ sym all.place ∙ ap (λ (k : ℕ). end + k) n16 ∙ end-place in
      all.words ∙ ap (sets xs 0) tape ∙ sets-front (moved_tape wide s t) xs (length_of (moved_trailer wide t)) n room
