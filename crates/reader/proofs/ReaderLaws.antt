-- Reading one event after the other through a held tape. Assumes nothing.
use mathlib.Core.Path.{◌≡◌, ap, sym, ◌∙◌}
use mathlib.Core.Bool.{true, false, true≢false}
use mathlib.Core.List.{List, ◌∷◌}
use mathlib.Core.Logic.{⊎_elim}
use Prim.Native.Nat.{ℕ, zero, suc, ◌+◌, ◌≤◌, ◌<◌, min}
use native.Mathlib.Omega.{arith}
use borrow.Author.Tests.{lt-ltb, le-ltb, le-leb, lt-leb}
use denote.Ref.{Bor}
use Rattle.std.specs.Prelude.{Option, Some, None}
use Rattle.base.proofs.Numbers.{le-or-lt}
use Rattle.tape.specs.rules.Tape.{record_in, records_from, records_of}
use Rattle.tape.specs.declared.trailer.Trailer.{Trailer}
use Rattle.tape.specs.declared.event.Event.{Event}
use Rattle.tape.proofs.HoldsLaws.{records-none, records-more}
use Rattle.reader.specs.rules.Reader.{current_of, next_place, held, next_of, standing}
use Rattle.reader.specs.promises.Reading.{advanced, and_then, gathered, Reading}

-- ---- places

-- below the end a move counts on, at the end it stays
pub goes_on : (t : Trailer) (k : ℕ) → k < t.events → next_place t k ≡ k + 1
unfolding next_place
goes_on t k l = simp (lt-ltb _ _ l)

stays : (t : Trailer) (k : ℕ) → t.events ≤ k → next_place t k ≡ k
unfolding next_place
stays t k l = simp (le-ltb _ _ l)

next-min : (t : Trailer) (k : ℕ) → next_place t (min k t.events) ≡ min (suc k) t.events
next-min t k =
    ⊎_elim
    (λ l. let e : min k t.events ≡ t.events = omega arith in ap (next_place t) e ∙ stays t t.events (omega arith) ∙ omega arith)
    (λ l. let e : min k t.events ≡ k = omega arith in ap (next_place t) e ∙ goes_on t k l ∙ omega arith)
    (le-or-lt t.events k)

moves : (bytes : Bor (List ℕ)) (t : Trailer) (k : ℕ) → advanced k (held bytes t 0) ≡ held bytes t (min k t.events)
moves bytes t zero = ap (held bytes t) (omega arith)
moves bytes t (suc k) = ap next_of (moves bytes t k) ∙ ap (held bytes t) (next-min t k)

-- ---- what stands there

record-there : (s : List ℕ) (t : Trailer) (k : ℕ) → k < t.events → current_of s t k ≡ Some (record_in s t k)
unfolding current_of
record-there s t k l = simp (lt-leb _ _ l)

pub end-there : (s : List ℕ) (t : Trailer) (k : ℕ) → t.events ≤ k → current_of s t k ≡ None
unfolding current_of
end-there s t k l = simp (le-leb _ _ l)

-- no record is the end
pub not_end : (r : Event) → Some r ≡ None → true ≡ false
not_end r h = cc

module _ (bytes : Bor (List ℕ)) (t : Trailer) where
  stands : (k : ℕ) → standing (advanced k (held bytes t 0)) ≡ current_of bytes.now t (min k t.events)
  stands k = ap standing (moves bytes t k)

  -- from place k on, with n records left and m moves at least
  rest : (n k m : ℕ) → k + n ≡ t.events → n ≤ m → gathered m (held bytes t k) ≡ records_from bytes.now t k n
  rest zero k zero e l = sym (records-none bytes.now t k)
  rest zero k (suc m) e l = ap (λ (c : Option Event). and_then c (gathered m (next_of (held bytes t k)))) (end-there bytes.now t k (omega arith)) ∙ sym (records-none bytes.now t k)
  rest (suc n) k zero e l = absurd (omega arith)
  rest (suc n) k (suc m) e l =
      let below : k < t.events = omega arith in
      ap (λ (c : Option Event). and_then c (gathered m (next_of (held bytes t k)))) (record-there bytes.now t k below)
      ∙ ap (λ (i : ℕ). record_in bytes.now t k ∷ gathered m (held bytes t i)) (goes_on t k below)
      ∙ ap (λ (rs : List Event). record_in bytes.now t k ∷ rs) (rest n (k + 1) m (omega arith) (omega arith))
      ∙ sym (records-more bytes.now t k n)

  event : (k : ℕ) → k < t.events → standing (advanced k (held bytes t 0)) ≡ Some (record_in bytes.now t k)
  event k l = let e : min k t.events ≡ k = omega arith in stands k ∙ ap (current_of bytes.now t) e ∙ record-there bytes.now t k l

  end : (k : ℕ) → t.events ≤ k → standing (advanced k (held bytes t 0)) ≡ None
  end k l = stands k ∙ end-there bytes.now t (min k t.events) (omega arith)

  only : (k : ℕ) → standing (advanced k (held bytes t 0)) ≡ None → t.events ≤ k
  only k h = ⊎_elim (λ l. l) (λ l. absurd (true≢false (not_end (record_in bytes.now t k) (sym (event k l) ∙ h)))) (le-or-lt t.events k)

  all : (n : ℕ) → t.events ≤ n → gathered n (held bytes t 0) ≡ records_of bytes.now t
  unfolding records_of
  all n l = rest t.events 0 n (omega arith) l

  pub reading : Reading bytes t
  reading = record { at = moves bytes t; event = event; end = end; only = only; all = all }
