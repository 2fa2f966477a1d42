-- What is known of what was read: an event in form, a tape that holds its records. Assumes nothing.
use mathlib.Core.Path.{◌≡◌, refl, ap, sym, ◌∙◌}
use mathlib.Core.Bool.{Bool, true, false, cond, ◌&&◌, ◌||◌}
use mathlib.Core.List.{List, [], ◌∷◌}
use Prim.Native.Nat.{ℕ, zero, suc, ◌+◌, ◌-◌, ◌≤◌}
use native.Mathlib.Omega.{arith}
use lib.Dec.{ltb, eqb}
use lib.ListN.{length, drop}
use borrow.Author.Tests.{ltb-false, le-ltb, eqb-true, eq-eqb}
use Rattle.std.specs.Prelude.{Result, Ok, Err}
use Rattle.base.specs.declared.refusal.Refusal.{Refusal}
use Rattle.base.specs.declared.refusal.Refusal.TheVariants.{TapeLength, LengthsDisagree, EventOutOfForm}
use Rattle.words.specs.rules.Bytes.{word_at}
use Rattle.tape.specs.declared.event.Event.{Event}
use Rattle.tape.specs.declared.trailer.Trailer.{Trailer}
use Rattle.tape.specs.rules.Form.{event_formed, shape_of, shape_tests}
use Rattle.tape.specs.rules.Records.{width_of, event_of, event_spare, of_no_kind, record_at, read_event, event_held, read_trailer}
use Rattle.tape.specs.rules.Tape.{length_of, opened_with, last_trailer, open_tape, record_in, records_from, records_of}
use Rattle.tape.specs.promises.Holds.{Holds, Recorded}
use Rattle.base.proofs.Bools.{and_left, and_right, and_both, or_right}
use Rattle.tape.proofs.RecordLaws.{next_place}

-- ---- a value that is read

-- the tests that led to it
pub took : {A : Type 0} (r q : Refusal) (a b : Bool) (x y : A) → cond a (Err r) (cond b (Ok x) (Err q)) ≡ Ok y → (a ≡ false) × (b ≡ true) × (x ≡ y)
took r q true b x y h = (cc, cc, cc)
took r q false true x y h = (refl, refl, cc)
took r q false false x y h = (cc, cc, cc)

-- ---- an event that is read

-- the tests that led to it
module _ (wide : Bool) (s : List ℕ) (e : Event) where
  pub event-took : read_event wide s ≡ Ok e → (ltb (length s) (width_of wide) ≡ false) × ((event_spare wide s && event_formed (event_of wide s)) ≡ true) × (event_of wide s ≡ e)
  unfolding read_event
  event-took h = took _ _ (ltb (length s) (width_of wide)) (event_spare wide s && event_formed (event_of wide s)) (event_of wide s) e h

  event-formed : read_event wide s ≡ Ok e → event_formed e ≡ true
  event-formed h = let t = event-took h in ap event_formed (sym t.2) ∙ and_right (event_spare wide s) (event_formed (event_of wide s)) t.1

  -- an event that is read stands there
  pub event-stands : read_event wide s ≡ Ok e → record_at wide s ≡ e
  unfolding record_at
  event-stands h = let t = event-took h in simp (t.0, and_left (event_spare wide s) (event_formed (event_of wide s)) t.1) t.2

-- an event that a record can hold is in form, and one that is read can be held
pub held-formed : (wide : Bool) (e : Event) → event_held wide e ≡ true → event_formed e ≡ true
unfolding event_held
held-formed wide e h = and_left (event_formed e) _ h

pub event-held : (wide : Bool) (s : List ℕ) (e : Event) → read_event wide s ≡ Ok e → event_held wide e ≡ true
unfolding event_held event_of
event-held wide s e h = and_both (event-formed wide s e h) (ap (λ (x : Event). wide || eqb x.participant 0) (sym (event-took wide s e h).2) ∙ nobody wide)
  where
    nobody : (wide : Bool) → (wide || eqb (event_of wide s).participant 0) ≡ true
    nobody true = refl
    nobody false = refl

-- and so can another event in form, with the same participant
pub held_by : (wide : Bool) (e x : Event) → x.participant ≡ e.participant → event_held wide e ≡ true → event_formed x ≡ true → event_held wide x ≡ true
unfolding event_held
held_by wide e x p h f = and_both f (ap (λ (n : ℕ). wide || eqb n 0) p ∙ and_right (event_formed e) _ h)

-- nothing is of no kind
no_kind : (q : ℕ) → event_formed (of_no_kind q) ≡ false
unfolding event_formed shape_tests shape_of
no_kind q = refl

pub recorded : (wide : Bool) (s : List ℕ) → Recorded wide s
unfolding read_event record_at event_of
recorded wide s = record { reads = λ h. rw (le-ltb (length s) (width_of wide) h) (reads (event_spare wide s)); sequence = same (ltb (length s) (width_of wide)) (event_spare wide s) }
  where
    reads : (b : Bool) → cond (b && event_formed (event_of wide s)) (Ok (event_of wide s)) (Err EventOutOfForm)
        ≡ cond (event_formed (cond b (event_of wide s) (of_no_kind (word_at s 0)))) (Ok (cond b (event_of wide s) (of_no_kind (word_at s 0)))) (Err EventOutOfForm)
    reads true = refl
    reads false = rw (no_kind (word_at s 0)) refl

    same : (b c : Bool) → (cond b (of_no_kind (word_at s 0)) (cond c (event_of wide s) (of_no_kind (word_at s 0)))).sequence ≡ word_at s 0
    same true c = refl
    same false true = refl
    same false false = refl

-- ---- a tape's records, step by step

pub records-none : (s : List ℕ) (t : Trailer) (k : ℕ) → records_from s t k 0 ≡ []
unfolding records_from
records-none s t k = refl

pub records-more : (s : List ℕ) (t : Trailer) (k n : ℕ) → records_from s t k (suc n) ≡ record_in s t k ∷ records_from s t (k + 1) n
unfolding records_from
records-more s t k n = refl

records-long : (s : List ℕ) (t : Trailer) (k n : ℕ) → length (records_from s t k n) ≡ n
unfolding records_from
records-long s t k zero = refl
records-long s t k (suc n) = ap suc (records-long s t (k + 1) n)

-- as many as the trailer says
pub records-length : (s : List ℕ) (t : Trailer) → length (records_of s t) ≡ t.events
unfolding records_of
records-length s t = records-long s t 0 t.events

-- ---- a tape that opens

-- the tests that led to its trailer
took-last : (a : Bool) (r : Result Trailer Refusal) (t : Trailer) → cond a (Err TapeLength) r ≡ Ok t → (a ≡ false) × (r ≡ Ok t)
took-last true r t h = (cc, cc)
took-last false r t h = (refl, h)

pub trailer-took : (s : List ℕ) (t : Trailer) → last_trailer s ≡ Ok t → (length s ≤ 65536) × (read_trailer (drop (length s - 16) s) ≡ Ok t)
unfolding last_trailer
trailer-took s t h =
    let k = took-last (ltb (length s) 16 || ltb 65536 (length s)) (read_trailer (drop (length s - 16) s)) t h in
    (ltb-false 65536 (length s) (or_right (ltb (length s) 16) (ltb 65536 (length s)) k.0), k.1)

-- and to the tape
took-tape : (n : ℕ) (r : Result Trailer Refusal) (t : Trailer) → opened_with n r ≡ Ok t → (length_of t ≡ n) × (r ≡ Ok t)
took-tape n (Err k) t h = (cc, cc)
took-tape n (Ok x) t h = let k = go (eqb (length_of x) n) refl h in (ap length_of (sym k.1) ∙ k.0, ap Ok k.1)
  where
    go : (b : Bool) → eqb (length_of x) n ≡ b → cond b (Ok x) (Err LengthsDisagree) ≡ Ok t → (length_of x ≡ n) × (x ≡ t)
    go true e k = (eqb-true (length_of x) n e, cc)
    go false e k = (cc, cc)

-- its length is what its trailer says
pub tape-last : (s : List ℕ) (t : Trailer) → open_tape s ≡ Ok t → (length_of t ≡ length s) × (last_trailer s ≡ Ok t)
unfolding open_tape
tape-last s t h = took-tape (length s) (last_trailer s) t h

pub tape-opens : (s : List ℕ) (t : Trailer) → last_trailer s ≡ Ok t → length_of t ≡ length s → open_tape s ≡ Ok t
unfolding open_tape
tape-opens s t e n = simp (e, eq-eqb (length_of t) (length s) n)

-- and its last 16 bytes are that
pub tape-took : (s : List ℕ) (t : Trailer) → open_tape s ≡ Ok t → (length s ≤ 65536) × (length_of t ≡ length s) × (read_trailer (drop (length s - 16) s) ≡ Ok t)
tape-took s t h =
    let k = tape-last s t h in
    let l = trailer-took s t k.1 in
    (l.0, k.0, l.1)

pub holds : (s : List ℕ) (t : Trailer) → open_tape s ≡ Ok t → Holds s t
holds s t h = let k = tape-took s t h in record { short = k.0; order = omega (arith, k.1); event = λ i below. omega (arith, k.1, next_place t.wide i t.events below) }
