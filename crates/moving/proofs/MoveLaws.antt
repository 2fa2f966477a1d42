-- A record in the other form, and the tape of such records. Assumes nothing.
use mathlib.Core.Path.{◌≡◌, refl, sym, ap, subst, ◌∙◌}
use mathlib.Core.Bool.{Bool, true, false, not, true≢false}
use mathlib.Core.List.{List, [], ◌∷◌, ◌++◌, map, append-nil}
use Prim.Native.Nat.{ℕ, ◌+◌, ◌≤◌, ◌<◌}
use native.Mathlib.Omega.{arith}
use lib.Dec.{eqb}
use lib.ListN.{length, get_or, take, drop, length-append, length-map, take-append-drop, drop_of_length-le}
use lib.Seq.{length-take-le, take_all, take_at, get_or-take}
use borrow.Author.Tests.{le-ltb, eqb-true}
use Rattle.std.specs.Prelude.{Ok}
use Rattle.base.specs.Lists.{Every}
use Rattle.base.proofs.Bools.{and_left, and_right, and_both}
use Rattle.words.specs.rules.Bytes.{AllBytes, word_bytes, word_at}
use Rattle.words.proofs.ByteLaws.{word-alone, word-past, row_back}
use Rattle.tape.specs.declared.event.Event.{Event}
use Rattle.tape.specs.declared.trailer.Trailer.{Trailer}
use Rattle.tape.specs.rules.Records.{width_of, new_word, event_of, event_spare, record_at}
use Rattle.tape.specs.rules.Tape.{length_of, open_tape, order_in, records_of, trailer_for}
use Rattle.tape.specs.rules.Whole.{tape_with, own_bytes, order_bytes, records_bytes}
use Rattle.tape.proofs.RecordLaws.{width-ge}
use Rattle.tape.proofs.HoldsLaws.{tape-last}
use Rattle.roundtrip.specs.promises.Demands.{AnyRecords, MadeOf}
use Rattle.roundtrip.proofs.Whole.{Long, tape-long, own-with, order-with, records-with, any-records, records-bytes, same-trailer, made_of}
use Rattle.moving.specs.rules.Moving.{moved_record, moved_trailer, moved_tape, is_bare, all_bare}

-- ---- one record

-- what stands in a record goes by its first 32 bytes and the words that only a new one has
record-by : (a b : Bool) (x y : List ℕ) → width_of a ≤ length x → width_of b ≤ length y → take 32 x ≡ take 32 y → new_word a x 32 ≡ new_word b y 32 → new_word a x 36 ≡ new_word b y 36 → record_at a x ≡ record_at b y
unfolding record_at event_of event_spare
record-by a b x y hx hy e p q =
    simp (le-ltb (length x) (width_of a) hx, le-ltb (length y) (width_of b) hy, p, q, at 8 (omega arith), at 9 (omega arith), at 10 (omega arith), at 11 (omega arith), word 0 (omega arith), word 4 (omega arith), word 12 (omega arith), word 16 (omega arith), word 20 (omega arith), word 24 (omega arith), word 28 (omega arith))
  where
    at : (i : ℕ) → i < 32 → get_or x i 0 ≡ get_or y i 0
    at i h = sym (get_or-take 32 x i 0 h) ∙ ap (λ (l : List ℕ). get_or l i 0) e ∙ get_or-take 32 y i 0 h

    front : (c : Bool) (z : List ℕ) → width_of c ≤ length z → (i : ℕ) → i + 4 ≤ 32 → word_at z i ≡ word_at (take 32 z) i
    front c z h i l = ap (λ (s : List ℕ). word_at s i) (sym (take-append-drop 32 z)) ∙ word-alone (take 32 z) (drop 32 z) i (omega (arith, length-take-le 32 z (omega (arith, width-ge c))))

    word : (i : ℕ) → i + 4 ≤ 32 → word_at x i ≡ word_at y i
    word i l = front a x hx i l ∙ ap (λ (s : List ℕ). word_at s i) e ∙ sym (front b y hy i l)

module _ (r : List ℕ) where
  -- the first 32 bytes stay
  moved_front : (wide : Bool) → 32 ≤ length r → take 32 (moved_record wide r) ≡ take 32 r
  unfolding moved_record
  moved_front wide h = take_at (take 32 r) _ 32 (length-take-le 32 r h)

  pub moved-width : (wide : Bool) → 32 ≤ length r → length (moved_record wide r) ≡ width_of wide
  unfolding moved_record width_of
  moved-width true h = omega (arith, length-append (take 32 r) (word_bytes (0 ∷ 0 ∷ [])), length-take-le 32 r h)
  moved-width false h = omega (arith, length-append (take 32 r) [], length-take-le 32 r h)

  -- what is moved back has nothing in the two words
  abbrev Bare : Bool → Type 0
  Bare wide = wide ≡ false → is_bare r ≡ true

  bare-words : (wide : Bool) → Bare wide → (new_word (not wide) r 32 ≡ 0) × (new_word (not wide) r 36 ≡ 0)
  bare-words true b = (refl, refl)
  bare-words false b = (eqb-true (word_at r 32) 0 (and_left _ (eqb (word_at r 36) 0) (b refl)), eqb-true (word_at r 36) 0 (and_right (eqb (word_at r 32) 0) _ (b refl)))

  moved-words : (wide : Bool) → 32 ≤ length r → (new_word wide (moved_record wide r) 32 ≡ 0) × (new_word wide (moved_record wide r) 36 ≡ 0)
  unfolding moved_record word_at
  moved-words true h = let past = word-past (take 32 r) (word_bytes (0 ∷ 0 ∷ [])) 32 in (past 0 (length-take-le 32 r h), past 4 (length-take-le 32 r h))
  moved-words false h = (refl, refl)

  moved-bare : 32 ≤ length r → is_bare (moved_record true r) ≡ true
  moved-bare h = let w = moved-words true h in simp (w.0, w.1)

  -- the same event stands in it
  moved-stands : (wide : Bool) → length r ≡ width_of (not wide) → Bare wide → record_at wide (moved_record wide r) ≡ record_at (not wide) r
  moved-stands wide n b =
      let long : 32 ≤ length r = omega (arith, width-ge (not wide)) in
      record-by wide (not wide) (moved_record wide r) r (omega (arith, moved-width wide long)) (omega arith) (moved_front wide long)
      ((moved-words wide long).0 ∙ sym (bare-words wide b).0) ((moved-words wide long).1 ∙ sym (bare-words wide b).1)

  -- and moved back it is what it was
  moved_back : (wide : Bool) → length r ≡ width_of (not wide) → Bare wide → AllBytes r → moved_record (not wide) (moved_record wide r) ≡ r
  unfolding moved_record width_of
  moved_back true n b a = append-nil (take 32 (moved_record true r)) ∙ moved_front true (omega arith) ∙ take_all 32 r (omega arith)
  moved_back false n b a =
      let two = bare-words false b in
      let rest : word_bytes (word_at r 32 ∷ word_at r 36 ∷ []) ++ drop 40 r ≡ drop 32 r = row_back r 2 32 a (omega arith) in
      let all : length r ≤ 40 = omega arith in
      let none : drop 40 r ≡ [] = drop_of_length-le r all in
      let zeros : word_bytes (word_at r 32 ∷ word_at r 36 ∷ []) ≡ word_bytes (0 ∷ 0 ∷ []) = ap (λ (x : ℕ). word_bytes (x ∷ word_at r 36 ∷ [])) two.0 ∙ ap (λ (x : ℕ). word_bytes (0 ∷ x ∷ [])) two.1 in
      let last : drop 32 r ≡ word_bytes (0 ∷ 0 ∷ []) = sym rest ∙ ap (λ (l : List ℕ). word_bytes (word_at r 32 ∷ word_at r 36 ∷ []) ++ l) none ∙ append-nil _ ∙ zeros in
      ap (λ (l : List ℕ). l ++ word_bytes (0 ∷ 0 ∷ [])) (moved_front false (omega arith)) ∙ ap (λ (l : List ℕ). take 32 r ++ l) (sym last) ∙ take-append-drop 32 r

-- ---- the records of a tape

module _ (wide : Bool) where
  abbrev other : ℕ
  other = width_of (not wide)

  pub records-long : (from : Bool) (rs : List (List ℕ)) → Long (width_of from) rs → Long (width_of wide) (map (moved_record wide) rs)
  records-long from [] n = tt
  records-long from (r ∷ rs) n = (moved-width r wide (omega (arith, n.0, width-ge from)), records-long from rs n.1)

  -- each is bare, where they are moved back
  each_bare : (rs : List (List ℕ)) → (wide ≡ false → all_bare rs ≡ true) → Every (λ r. Bare r wide) rs
  unfolding all_bare
  each_bare [] b = tt
  each_bare (r ∷ rs) b = (λ e. and_left (is_bare r) (all_bare rs) (b e), each_bare rs (λ e. and_right (is_bare r) (all_bare rs) (b e)))

  records-stand : (rs : List (List ℕ)) → Long other rs → Every (λ r. Bare r wide) rs → map (record_at wide) (map (moved_record wide) rs) ≡ map (record_at (not wide)) rs
  records-stand [] n b = refl
  records-stand (r ∷ rs) n b =
      ap (λ (e : Event). e ∷ map (record_at wide) (map (moved_record wide) rs)) (moved-stands r wide n.0 b.0) ∙ ap (λ (es : List Event). record_at (not wide) r ∷ es) (records-stand rs n.1 b.1)

  records-back : (rs : List (List ℕ)) → Long other rs → Every (λ r. Bare r wide) rs → Every AllBytes rs → map (moved_record (not wide)) (map (moved_record wide) rs) ≡ rs
  records-back [] n b a = refl
  records-back (r ∷ rs) n b a =
      ap (λ (x : List ℕ). x ∷ map (moved_record (not wide)) (map (moved_record wide) rs)) (moved_back r wide n.0 b.0 a.0) ∙ ap (λ (xs : List (List ℕ)). r ∷ xs) (records-back rs n.1 b.1 a.1)

-- what was moved to the new form is bare
all-bare : (rs : List (List ℕ)) → Long (width_of false) rs → all_bare (map (moved_record true) rs) ≡ true
unfolding all_bare
all-bare [] n = refl
all-bare (r ∷ rs) n = and_both (moved-bare r (omega (arith, n.0, width-ge false))) (all-bare rs n.1)

bare-moved : (wide : Bool) (rs : List (List ℕ)) → Long (width_of (not wide)) rs → not wide ≡ false → all_bare (map (moved_record wide) rs) ≡ true
bare-moved true rs n f = all-bare rs n
bare-moved false rs n f = absurd (true≢false f)

-- ---- the tape

-- its trailer has the same offset and the same count
pub moved-trailer : (wide : Bool) (s : List ℕ) (t : Trailer) → length_of t ≡ length s → trailer_for wide (own_bytes s t) (map (moved_record wide) (records_bytes s t)) ≡ moved_trailer wide t
moved-trailer wide s t l =
    let same : trailer_for t.wide (own_bytes s t) (records_bytes s t) ≡ t = same-trailer s t l in
    let count : length (map (moved_record wide) (records_bytes s t)) ≡ length (records_bytes s t) = length-map (records_bytes s t) (moved_record wide) in
    λ i. record { order = (same i).order; events = (count ∙ ap (λ (x : Trailer). x.events) same) i; wide = wide }

module _ (wide : Bool) (s : List ℕ) (t : Trailer) (h : open_tape s ≡ Ok t) (w : t.wide ≡ not wide) where
  abbrev own : List ℕ
  own = own_bytes s t

  abbrev order : List ℕ
  order = order_bytes s t

  abbrev rs : List (List ℕ)
  rs = map (moved_record wide) (records_bytes s t)

  made : MadeOf s t
  made = made_of s t h

  each : Long (width_of (not wide)) (records_bytes s t)
  each = subst (λ (x : Bool). Long (width_of x) (records_bytes s t)) w made.fitting.each_long

  long : Long (width_of wide) rs
  long = records-long wide (not wide) (records_bytes s t) each

  trailer : trailer_for wide own rs ≡ moved_trailer wide t
  trailer = moved-trailer wide s t (tape-last s t h).0

  pub moved_length : length (moved_tape wide s t) ≡ length_of (moved_trailer wide t)
  unfolding moved_tape
  moved_length = tape-long wide own order rs made.fitting.order-long long ∙ ap length_of trailer

  pub moved-own : own_bytes (moved_tape wide s t) (moved_trailer wide t) ≡ own
  unfolding moved_tape
  moved-own = ap (own_bytes (tape_with wide own order rs)) (sym trailer) ∙ own-with wide own order rs made.fitting.order-long long

  pub moved_order : order_bytes (moved_tape wide s t) (moved_trailer wide t) ≡ order
  unfolding moved_tape
  moved_order = ap (order_bytes (tape_with wide own order rs)) (sym trailer) ∙ order-with wide own order rs made.fitting.order-long long

  pub moved-records : records_bytes (moved_tape wide s t) (moved_trailer wide t) ≡ rs
  unfolding moved_tape
  moved-records = ap (records_bytes (tape_with wide own order rs)) (sym trailer) ∙ records-with wide own order rs made.fitting.order-long long

  pub moved-all-bare : not wide ≡ false → all_bare (records_bytes (moved_tape wide s t) (moved_trailer wide t)) ≡ true
  moved-all-bare f = ap all_bare moved-records ∙ bare-moved wide (records_bytes s t) each f

  module _ (fits : length_of (moved_trailer wide t) ≤ 65536) where
    any : AnyRecords wide own order rs
    unfolding moved_tape
    any = any-records wide own order rs (record { order-long = made.fitting.order-long; each_long = long; fits = omega (arith, moved_length) })

    pub moved-opens : open_tape (moved_tape wide s t) ≡ Ok (moved_trailer wide t)
    unfolding moved_tape
    moved-opens = any.opens ∙ ap Ok trailer

    pub same-order : order_in (moved_tape wide s t) (moved_trailer wide t) ≡ order_in s t
    unfolding moved_tape
    same-order = ap (order_in (tape_with wide own order rs)) (sym trailer) ∙ any.ordered ∙ sym made.ordered

    pub same-records : (wide ≡ false → all_bare (records_bytes s t) ≡ true) → records_of (moved_tape wide s t) (moved_trailer wide t) ≡ records_of s t
    unfolding moved_tape
    same-records b =
        ap (records_of (tape_with wide own order rs)) (sym trailer) ∙ any.records ∙ records-stand wide (records_bytes s t) each (each_bare wide (records_bytes s t) b)
        ∙ ap (λ (x : Bool). map (record_at x) (records_bytes s t)) (sym w) ∙ sym made.records

  -- the tape that it was moved from comes back
  pub tape-again : (wide ≡ false → all_bare (records_bytes s t) ≡ true) → AllBytes s → moved_tape (not wide) (moved_tape wide s t) (moved_trailer wide t) ≡ s
  unfolding moved_tape
  tape-again b a =
      ap (λ (x : List ℕ). tape_with (not wide) x (order_bytes (moved_tape wide s t) (moved_trailer wide t)) (map (moved_record (not wide)) (records_bytes (moved_tape wide s t) (moved_trailer wide t)))) moved-own
      ∙ ap (λ (x : List ℕ). tape_with (not wide) own x (map (moved_record (not wide)) (records_bytes (moved_tape wide s t) (moved_trailer wide t)))) moved_order
      ∙ ap (λ (xs : List (List ℕ)). tape_with (not wide) own order (map (moved_record (not wide)) xs)) moved-records
      ∙ ap (tape_with (not wide) own order) (records-back wide (records_bytes s t) each (each_bare wide (records_bytes s t) b) (records-bytes s t a))
      ∙ ap (λ (x : Bool). tape_with x own order (records_bytes s t)) (sym w)
      ∙ made.whole a
