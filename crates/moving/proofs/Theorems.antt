-- What is promised of moving a tape.
use mathlib.Core.Path.{◌≡◌, refl, sym, ap, ◌∙◌}
use mathlib.Core.Bool.{Bool, true, false, cond, not, ◌&&◌, ◌||◌, true≢false}
use mathlib.Core.List.{List, [], ◌∷◌, ◌++◌}
use mathlib.Core.Logic.{◌⊎◌, ◌≢◌, inl, inr}
use Prim.Native.Nat.{ℕ, ◌-◌, ◌≤◌, ◌<◌}
use native.Mathlib.Omega.{arith}
use lib.Dec.{ltb, eqb}
use lib.ListN.{length, take, drop}
use lib.Seq.{take_at, drop_at}
use borrow.Author.Tests.{lt-ltb, le-ltb, ltb-true, ltb-false, eq-eqb, ne_eqb, eqb-true, not-false}
use Rattle.std.specs.Prelude.{Result, Ok, Err}
use Rattle.base.specs.Lists.{In, Every}
use Rattle.base.specs.Refusal.{number_of}
use Rattle.base.specs.declared.refusal.Refusal.{Refusal}
use Rattle.base.specs.declared.refusal.Refusal.TheVariants.{TapeLength, TrailerOutOfForm, LengthsDisagree, RoomTooShort, FirmLost, MovedTooLong}
use Rattle.base.proofs.Bools.{and_both, and-no-left, and-no-right}
use Rattle.words.specs.rules.Bytes.{AllBytes, word_at}
use Rattle.tape.specs.declared.trailer.Trailer.{Trailer}
use Rattle.tape.specs.rules.Records.{width_of, cubt, cub2, trailer_of, read_trailer}
use Rattle.tape.specs.rules.Tape.{length_of, last_trailer, open_tape, order_in, records_of}
use Rattle.tape.specs.rules.Whole.{own_bytes, order_bytes, records_bytes}
use Rattle.tape.proofs.RecordLaws.{at_least}
use Rattle.tape.proofs.HoldsLaws.{tape-took, tape-last, trailer-took, tape-opens}
use Rattle.moving.specs.rules.Moving.{has_form, moved_record, moved_trailer, moved_tape, moved_bytes, is_bare, all_bare, move_opened, move_with, move_answer, bytes_with, move_wrote}
use Rattle.moving.specs.promises.Moves.{moved_to, HasMoved, Moves}
use Rattle.moving.proofs.MoveLaws.{moved_length, moved-own, moved_order, moved-records, moved-all-bare, moved-opens, same-order, same-records, tape-again}

-- ---- the tests that led to an answer

took : (a b c d f : Bool) (k n : ℕ) → cond a (Err TrailerOutOfForm) (cond b (Err LengthsDisagree) (cond c (Err FirmLost) (cond d (Err MovedTooLong) (cond f (Err RoomTooShort) (Ok k))))) ≡ Ok n
    → (a ≡ false) × (b ≡ false) × (c ≡ false) × (d ≡ false) × (f ≡ false) × (k ≡ n)
took true b c d f k n h = (cc, cc, cc, cc, cc, cc)
took false true c d f k n h = (cc, cc, cc, cc, cc, cc)
took false false true d f k n h = (cc, cc, cc, cc, cc, cc)
took false false false true f k n h = (cc, cc, cc, cc, cc, cc)
took false false false false true k n h = (cc, cc, cc, cc, cc, cc)
took false false false false false k n h = (refl, refl, refl, refl, refl, cc)

-- a tape that does not have the wanted form has the other one
other-form : (wide : Bool) (t : Trailer) → has_form t wide ≡ false → t.wide ≡ not wide
other-form true t h = h
other-form false t h = not-false t.wide h

bare-if : (wide b : Bool) → not (wide || b) ≡ false → wide ≡ false → b ≡ true
bare-if true b h e = absurd (let z : ◌≡◌ {A = ℕ} 0 1 = cc in (let r : ⊥ = omega arith in r))
bare-if false b h e = not-false b h

-- what is known of a tape that moves
record Takes (wide : Bool) (s out : List ℕ) (n : ℕ) : Type 0 where
  trailer : Trailer
  last : last_trailer s ≡ Ok trailer
  other : trailer.wide ≡ not wide
  adds : length_of trailer ≡ length s
  bare : wide ≡ false → all_bare (records_bytes s trailer) ≡ true
  short : length_of (moved_trailer wide trailer) ≤ 65536
  room : length_of (moved_trailer wide trailer) ≤ length out
  long : length_of (moved_trailer wide trailer) ≡ n

takes : (wide : Bool) (s out : List ℕ) (n : ℕ) → move_answer wide s out ≡ Ok n → Takes wide s out n
unfolding move_answer move_opened
takes wide s out n h = go (last_trailer s) refl h
  where
    go : (r : Result Trailer Refusal) → last_trailer s ≡ r → move_with wide s out r ≡ Ok n → Takes wide s out n
    go (Err k) e h = cc
    go (Ok t) e h =
        let m = length_of (moved_trailer wide t) in
        let k = took (has_form t wide) (not (eqb (length_of t) (length s))) (not (wide || all_bare (records_bytes s t))) (ltb 65536 m) (ltb (length out) m) m n h in
        record {
          trailer = t;
          last = e;
          other = other-form wide t k.0;
          adds = eqb-true (length_of t) (length s) (not-false _ k.1);
          bare = bare-if wide (all_bare (records_bytes s t)) k.2;
          short = ltb-false 65536 m k.3;
          room = ltb-false (length out) m k.4;
          long = k.5;
        }

-- ---- each answer, by the tests before it

form-other : (wide : Bool) (t : Trailer) → t.wide ≡ not wide → has_form t wide ≡ false
form-other true t h = h
form-other false t h = ap not h

form-same : (wide : Bool) (t : Trailer) → t.wide ≡ wide → has_form t wide ≡ true
form-same true t h = h
form-same false t h = ap not h

no-trailer : (wide : Bool) (s out : List ℕ) (r : Refusal) → last_trailer s ≡ Err r → move_answer wide s out ≡ Err r
unfolding move_answer
no-trailer wide s out r e = ap (move_with wide s out) e

already : (wide : Bool) (s out : List ℕ) (t : Trailer) → last_trailer s ≡ Ok t → t.wide ≡ wide → move_answer wide s out ≡ Err TrailerOutOfForm
unfolding move_answer move_opened
already wide s out t e f = simp (e, form-same wide t f)

not-adding : (wide : Bool) (s out : List ℕ) (t : Trailer) → last_trailer s ≡ Ok t → t.wide ≡ not wide → length_of t ≢ length s → move_answer wide s out ≡ Err LengthsDisagree
unfolding move_answer move_opened
not-adding wide s out t e f n = simp (e, form-other wide t f, ne_eqb (length_of t) (length s) n)

module _ (wide : Bool) (s out : List ℕ) (t : Trailer) (h : open_tape s ≡ Ok t) (f : t.wide ≡ not wide) where
  -- of a tape of the other form, what is answered is told by the last three tests
  by_tests : (c d g : Bool) → (wide || all_bare (records_bytes s t)) ≡ c → ltb 65536 (length_of (moved_trailer wide t)) ≡ d → ltb (length out) (length_of (moved_trailer wide t)) ≡ g
      → move_answer wide s out ≡ cond (not c) (Err FirmLost) (cond d (Err MovedTooLong) (cond g (Err RoomTooShort) (Ok (length_of (moved_trailer wide t)))))
  unfolding move_answer move_opened
  by_tests c d g x y z = let k = tape-last s t h in simp (k.1, form-other wide t f, eq-eqb (length_of t) (length s) k.0, x, y, z)

  module _ (b : wide ≡ false → all_bare (records_bytes s t) ≡ true) (l : length_of (moved_trailer wide t) ≤ 65536) where
    bare : (wide || all_bare (records_bytes s t)) ≡ true
    bare = go wide (all_bare (records_bytes s t)) b
      where
        go : (w x : Bool) → (w ≡ false → x ≡ true) → (w || x) ≡ true
        go true x b = refl
        go false x b = b refl

    no_room : length out < length_of (moved_trailer wide t) → move_answer wide s out ≡ Err RoomTooShort
    no_room r = by_tests true false true bare (le-ltb 65536 _ l) (lt-ltb (length out) _ r)

    moves : length_of (moved_trailer wide t) ≤ length out → move_answer wide s out ≡ Ok (length_of (moved_trailer wide t))
    moves r = by_tests true false false bare (le-ltb 65536 _ l) (le-ltb (length out) _ r)

-- where the two words of each are 0, all are bare
all-zero : (rs : List (List ℕ)) → Every (λ r. (word_at r 32 ≡ 0) × (word_at r 36 ≡ 0)) rs → all_bare rs ≡ true
unfolding all_bare
all-zero [] z = refl
all-zero (r ∷ rs) z = and_both (and_both (eq-eqb (word_at r 32) 0 z.0.0) (eq-eqb (word_at r 36) 0 z.0.1)) (all-zero rs z.1)

too_long : (s out : List ℕ) (t : Trailer) → open_tape s ≡ Ok t → t.wide ≡ false → 65536 < length_of (moved_trailer true t) → move_answer true s out ≡ Err MovedTooLong
too_long s out t h f l = by_tests true s out t h f true true (ltb (length out) (length_of (moved_trailer true t))) refl (lt-ltb 65536 _ l) refl

-- one record that is not bare is enough
not-bare : (rs : List (List ℕ)) (r : List ℕ) → In r rs → is_bare r ≡ false → all_bare rs ≡ false
unfolding all_bare
not-bare [] r i b = absurd i
not-bare (x ∷ rs) r (inl e) b = ap (λ (y : List ℕ). is_bare y && all_bare rs) (sym e) ∙ and-no-left (all_bare rs) b
not-bare (x ∷ rs) r (inr i) b = and-no-right (is_bare x) (not-bare rs r i b)

laden : (s out : List ℕ) (t : Trailer) (r : List ℕ) → open_tape s ≡ Ok t → t.wide ≡ true → In r (records_bytes s t) → (word_at r 32 ≢ 0) ⊎ (word_at r 36 ≢ 0) → move_answer false s out ≡ Err FirmLost
laden s out t r h f i w = by_tests false s out t h f false _ _ (not-bare (records_bytes s t) r i (some w)) refl refl
  where
    some : (word_at r 32 ≢ 0) ⊎ (word_at r 36 ≢ 0) → is_bare r ≡ false
    some (inl n) = and-no-left (eqb (word_at r 36) 0) (ne_eqb (word_at r 32) 0 n)
    some (inr n) = and-no-right (eqb (word_at r 32) 0) (ne_eqb (word_at r 36) 0 n)

-- the lent bytes, where a tape moves and where it does not
wrote : (wide : Bool) (s out : List ℕ) (t : Trailer) (n : ℕ) → last_trailer s ≡ Ok t → move_answer wide s out ≡ Ok n → move_wrote wide s out ≡ moved_bytes wide s t out
unfolding move_wrote
wrote wide s out t n e h = ap (λ (r : Result Trailer Refusal). bytes_with wide s out r (move_answer wide s out)) e ∙ ap (bytes_with wide s out (Ok t)) h

keeps : (wide : Bool) (s out : List ℕ) (r : Refusal) → move_answer wide s out ≡ Err r → move_wrote wide s out ≡ out
unfolding move_wrote
keeps wide s out r h = ap (bytes_with wide s out (last_trailer s)) h ∙ go (last_trailer s)
  where
    go : (t : Result Trailer Refusal) → bytes_with wide s out t (Err r) ≡ out
    go (Ok t) = refl
    go (Err k) = refl

-- ---- the moved tape

module _ (wide : Bool) (s out : List ℕ) (n : ℕ) (h : move_answer wide s out ≡ Ok n) where
  abbrev k : Takes wide s out n
  k = takes wide s out n h

  abbrev t : Trailer
  t = k.trailer

  opened : open_tape s ≡ Ok t
  opened = tape-opens s t k.last k.adds

  bytes : move_wrote wide s out ≡ moved_tape wide s t ++ drop n out
  bytes = wrote wide s out t n k.last h ∙ ap (λ (m : ℕ). moved_tape wide s t ++ drop m out) k.long

  long : length (moved_tape wide s t) ≡ n
  long = moved_length wide s t opened k.other ∙ k.long

  is : moved_to wide s out n ≡ moved_tape wide s t
  is = ap (take n) bytes ∙ take_at (moved_tape wide s t) (drop n out) n long

  opens : open_tape (moved_tape wide s t) ≡ Ok (moved_trailer wide t)
  opens = moved-opens wide s t opened k.other k.short

  -- moved back, it has the form and the length that the tape had
  again : moved_trailer (not wide) (moved_trailer wide t) ≡ t
  again = λ i. record { order = t.order; events = t.events; wide = sym k.other i }

  back : AllBytes s → (out' : List ℕ) → length s ≤ length out' → (move_answer (not wide) (moved_tape wide s t) out' ≡ Ok (length s)) × (move_wrote (not wide) (moved_tape wide s t) out' ≡ s ++ drop (length s) out')
  back a out' room =
      let m : length_of (moved_trailer (not wide) (moved_trailer wide t)) ≡ length s = ap length_of again ∙ k.adds in
      let fits : length s ≤ 65536 = (tape-took s t opened).0 in
      let moved : move_answer (not wide) (moved_tape wide s t) out' ≡ Ok (length s) =
      moves (not wide) (moved_tape wide s t) out' (moved_trailer wide t) opens (twice wide) (moved-all-bare wide s t opened k.other) (omega arith) (omega arith) ∙ ap Ok m in (
        moved,
        wrote (not wide) (moved_tape wide s t) out' (moved_trailer wide t) (length s) (tape-last (moved_tape wide s t) (moved_trailer wide t) opens).1 moved
            ∙ ap (λ (x : List ℕ). x ++ drop (length_of (moved_trailer (not wide) (moved_trailer wide t))) out') (tape-again wide s t opened k.other k.bare a)
            ∙ ap (λ (j : ℕ). s ++ drop j out') m,
      )
    where
      twice : (w : Bool) → w ≡ not (not w)
      twice true = refl
      twice false = refl

  pub done : HasMoved wide s out n
  unfolding moved_record
  done =
      record {
        trailer = t;
        opened = opened;
        other = k.other;
        long = sym k.long;
        short = omega (arith, k.long, k.short);
        room = omega (arith, k.long, k.room);
        stays = ap (drop n) bytes ∙ drop_at (moved_tape wide s t) (drop n out) n long;
        opens = ap open_tape is ∙ opens;
        own = ap (λ (x : List ℕ). own_bytes x (moved_trailer wide t)) is ∙ moved-own wide s t opened k.other;
        order-bytes = ap (λ (x : List ℕ). order_bytes x (moved_trailer wide t)) is ∙ moved_order wide s t opened k.other;
        record-bytes = ap (λ (x : List ℕ). records_bytes x (moved_trailer wide t)) is ∙ moved-records wide s t opened k.other;
        order = ap (λ (x : List ℕ). order_in x (moved_trailer wide t)) is ∙ same-order wide s t opened k.other k.short;
        records = ap (λ (x : List ℕ). records_of x (moved_trailer wide t)) is ∙ same-records wide s t opened k.other k.short k.bare;
        back = λ a out' room.
            (ap (λ (x : List ℕ). move_answer (not wide) x out') is ∙ (back a out' room).0, ap (λ (x : List ℕ). move_wrote (not wide) x out') is ∙ (back a out' room).1);
      }

-- ---- 25 and 26

-- where 25 is given, and where 26 is
gave : (a b c d f : Bool) (k : ℕ) (r : Refusal) → cond a (Err TrailerOutOfForm) (cond b (Err LengthsDisagree) (cond c (Err FirmLost) (cond d (Err MovedTooLong) (cond f (Err RoomTooShort) (Ok k))))) ≡ Err r
    → (r ≡ FirmLost → c ≡ true) × (r ≡ MovedTooLong → (b ≡ false) × (d ≡ true))
gave true b c d f k r h = ((λ e. cc), (λ e. (cc, cc)))
gave false true c d f k r h = ((λ e. cc), (λ e. (cc, cc)))
gave false false true d f k r h = ((λ e. refl), (λ e. (refl, cc)))
gave false false false true f k r h = ((λ e. cc), (λ e. (refl, refl)))
gave false false false false true k r h = ((λ e. cc), (λ e. (refl, cc)))
gave false false false false false k r h = ((λ e. cc), (λ e. (refl, cc)))

-- the refusals that come from the trailer
trailer-refused : (s : List ℕ) (r : Refusal) → last_trailer s ≡ Err r → In r (TapeLength ∷ TrailerOutOfForm ∷ RoomTooShort ∷ [])
unfolding last_trailer read_trailer
trailer-refused s r = go (ltb (length s) 16 || ltb 65536 (length s)) (ltb (length last) 16) ((eqb (word_at last 0) cubt || eqb (word_at last 0) cub2) && eqb (word_at last 12) 0)
  where
    last : List ℕ
    last = drop (length s - 16) s

    go : (a b c : Bool) → cond a (Err TapeLength) (cond b (Err RoomTooShort) (cond c (Ok (trailer_of last)) (Err TrailerOutOfForm))) ≡ Err r → In r (TapeLength ∷ TrailerOutOfForm ∷ RoomTooShort ∷ [])
    go true b c h = inl (cc)
    go false true c h = inr (inr (inl (cc)))
    go false false true h = cc
    go false false false h = inr (inl (cc))

-- none of them is 25 or 26
low : {r : Refusal} → In r (TapeLength ∷ TrailerOutOfForm ∷ RoomTooShort ∷ []) → (r ≡ FirmLost → ⊥) × (r ≡ MovedTooLong → ⊥)
low (inl q) = ((λ e. cc), (λ e. cc))
low (inr (inl q)) = ((λ e. cc), (λ e. cc))
low (inr (inr (inl q))) = ((λ e. cc), (λ e. cc))
low (inr (inr (inr q))) = absurd q

numbers : (wide : Bool) (s out : List ℕ) (r : Refusal) → move_answer wide s out ≡ Err r → In (number_of r) (21 ∷ 22 ∷ 23 ∷ 25 ∷ 26 ∷ 24 ∷ [])
unfolding move_answer move_opened
numbers wide s out r h = go (last_trailer s) refl h
  where
    from : In r (TapeLength ∷ TrailerOutOfForm ∷ RoomTooShort ∷ []) → In (number_of r) (21 ∷ 22 ∷ 23 ∷ 25 ∷ 26 ∷ 24 ∷ [])
    from (inl q) = inl (ap number_of q)
    from (inr (inl q)) = inr (inl (ap number_of q))
    from (inr (inr (inl q))) = inr (inr (inr (inr (inr (inl (ap number_of q))))))
    from (inr (inr (inr q))) = absurd q

    told : (a b c d f : Bool) (k : ℕ) → cond a (Err TrailerOutOfForm) (cond b (Err LengthsDisagree) (cond c (Err FirmLost) (cond d (Err MovedTooLong) (cond f (Err RoomTooShort) (Ok k))))) ≡ Err r → In (number_of r) (21 ∷ 22 ∷ 23 ∷ 25 ∷ 26 ∷ 24 ∷ [])
    told true b c d f k h = let q : r ≡ TrailerOutOfForm = cc in inr (inl (ap number_of q))
    told false true c d f k h = let q : r ≡ LengthsDisagree = cc in inr (inr (inl (ap number_of q)))
    told false false true d f k h = let q : r ≡ FirmLost = cc in inr (inr (inr (inl (ap number_of q))))
    told false false false true f k h = let q : r ≡ MovedTooLong = cc in inr (inr (inr (inr (inl (ap number_of q)))))
    told false false false false true k h = let q : r ≡ RoomTooShort = cc in inr (inr (inr (inr (inr (inl (ap number_of q))))))
    told false false false false false k h = cc

    go : (t : Result Trailer Refusal) → last_trailer s ≡ t → move_with wide s out t ≡ Err r → In (number_of r) (21 ∷ 22 ∷ 23 ∷ 25 ∷ 26 ∷ 24 ∷ [])
    go (Err k) e h = let q : k ≡ r = cc in from (trailer-refused s r (e ∙ ap Err q))
    go (Ok t) e h =
        let m = length_of (moved_trailer wide t) in
        told (has_form t wide) (not (eqb (length_of t) (length s))) (not (wide || all_bare (records_bytes s t))) (ltb 65536 m) (ltb (length out) m) m h

only-back : (s out : List ℕ) → move_answer true s out ≡ Err FirmLost → ⊥
unfolding move_answer move_opened
only-back s out h = go (last_trailer s) refl h
  where
    go : (t : Result Trailer Refusal) → last_trailer s ≡ t → move_with true s out t ≡ Err FirmLost → ⊥
    go (Err k) e h = (low (trailer-refused s k e)).0 (cc)
    go (Ok t) e h =
        let m = length_of (moved_trailer true t) in
        true≢false (sym ((gave (has_form t true) (not (eqb (length_of t) (length s))) false (ltb 65536 m) (ltb (length out) m) m FirmLost h).0 refl))

-- a tape that is moved back becomes no longer
only-new : (s out : List ℕ) → move_answer false s out ≡ Err MovedTooLong → ⊥
unfolding move_answer move_opened width_of
only-new s out h = go (last_trailer s) refl h
  where
    go : (t : Result Trailer Refusal) → last_trailer s ≡ t → move_with false s out t ≡ Err MovedTooLong → ⊥
    go (Err k) e h = (low (trailer-refused s k e)).1 (cc)
    go (Ok t) e h =
        let m = length_of (moved_trailer false t) in
        let g = (gave (has_form t false) (not (eqb (length_of t) (length s))) (not (all_bare (records_bytes s t))) (ltb 65536 m) (ltb (length out) m) m MovedTooLong h).1 refl in
        let adds : length_of t ≡ length s = eqb-true (length_of t) (length s) (not-false _ g.0) in
        omega (arith, ltb-true 65536 m g.1, adds, (trailer-took s t e).0, at_least t.wide t.events)

pub all-moves : Moves
all-moves =
    record {
      done = done;
      numbers = numbers;
      keeps = keeps;
      no-trailer = no-trailer;
      already = already;
      not-adding = not-adding;
      laden = laden;
      too_long = too_long;
      no_room = λ wide s out t h f z. no_room wide s out t h f (λ e. all-zero (records_bytes s t) (z e));
      moves = λ wide s out t h f z. moves wide s out t h f (λ e. all-zero (records_bytes s t) (z e));
      only-back = only-back;
      only-new = only-new;
    }
