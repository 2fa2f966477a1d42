-- What a reader or a writer answers, for any record: a row of words. Assumes nothing.
use mathlib.Core.Path.{◌≡◌, refl, ◌∙◌}
use mathlib.Core.Bool.{Bool, true, false}
use mathlib.Core.List.{List, [], ◌∷◌, ◌++◌}
use Prim.Native.Nat.{ℕ, ◌+◌, ◌*◌, ◌/◌, ◌≤◌, ◌<◌}
use native.Mathlib.Omega.{arith}
use lib.ListN.{length, get_or, take, length-append, get_or-append}
use borrow.Author.Tests.{le-ltb, lt-ltb}
use Rattle.std.specs.Prelude.{Ok, Err}
use Rattle.base.specs.declared.refusal.Refusal.{Refusal}
use Rattle.base.specs.declared.refusal.Refusal.TheVariants.{RoomTooShort}
use Rattle.words.specs.rules.Bytes.{joined, word_at, with_words}
use Rattle.words.proofs.ByteLaws.{row-front, word-alone}
use Rattle.tape.specs.rules.Records.{wrote_answer, wrote_bytes, width_of, new_word, event_words, order_of, order_spare, read_order, event_of, event_spare, record_at}
use Rattle.tape.specs.declared.event.Event.{Event}

-- ---- records of both lengths

pub width-ge : (wide : Bool) → 32 ≤ width_of wide
unfolding width_of
width-ge true = omega arith
width-ge false = omega arith

pub at_least : (wide : Bool) (n : ℕ) → n * 32 ≤ n * width_of wide
unfolding width_of
at_least true n = omega arith
at_least false n = omega arith

-- a record before another ends before it begins
pub next_place : (wide : Bool) (k n : ℕ) → k < n → k * width_of wide + width_of wide ≤ n * width_of wide
unfolding width_of
next_place true k n h = omega arith
next_place false k n h = omega arith

-- the words of a record are as long as it is
pub words_long : (wide : Bool) (e : Event) → length (event_words wide e) * 4 ≡ width_of wide
unfolding event_words width_of
words_long true e = refl
words_long false e = refl

-- and are the first of those of a new one
pub words-held : (wide : Bool) (e : Event) {n j : ℕ} → n ≡ width_of wide → j ≡ joined e.kind e.marks e.side 0
    → take (n / 4) (e.sequence ∷ e.time ∷ j ∷ e.f12 ∷ e.f16 ∷ e.f20 ∷ e.f24 ∷ 0 ∷ e.participant ∷ 0 ∷ []) ≡ event_words wide e
unfolding event_words width_of
words-held true e n j = simp (n, j)
words-held false e n j = simp (n, j)

-- ---- writers: the answer, and the bytes

pub wrote-formless : {formed : Bool} (r : Refusal) (ws out : List ℕ) → formed ≡ false
    → (Err r ≡ wrote_answer formed r ws out) × (out ≡ wrote_bytes formed ws out)
wrote-formless r ws out e = (simp e, simp e)

pub wrote-short : {formed : Bool} (r : Refusal) (ws out : List ℕ) → formed ≡ true → length out < length ws * 4
    → (Err RoomTooShort ≡ wrote_answer formed r ws out) × (out ≡ wrote_bytes formed ws out)
wrote-short r ws out e h = (simp (e, lt-ltb _ _ h), simp (e, lt-ltb _ _ h))

pub wrote-done : {formed : Bool} {after : List ℕ} (r : Refusal) (ws out : List ℕ) → formed ≡ true → length ws * 4 ≤ length out → after ≡ with_words out 0 ws
    → (Ok tt ≡ wrote_answer formed r ws out) × (after ≡ wrote_bytes formed ws out)
wrote-done r ws out e h w = (simp (e, le-ltb _ _ h), w ∙ row-front out ws h ∙ simp (e, le-ltb _ _ h))

-- ---- readers: what stands after a record's own bytes is not looked at

pub order-alone : (r l : List ℕ) → length r ≡ 64 → read_order (r ++ l) ≡ read_order r
unfolding read_order order_of order_spare
order-alone r l n =
    let g : (i : ℕ) → i < length r → get_or (r ++ l) i 0 ≡ get_or r i 0 = get_or-append r l 0 in
    let w : (at : ℕ) → at + 4 ≤ length r → word_at (r ++ l) at ≡ word_at r at = word-alone r l in
    simp (le-ltb (length (r ++ l)) 64 (omega (arith, length-append r l)), le-ltb (length r) 64 (omega arith), g 0 (omega arith), g 1 (omega arith), g 2 (omega arith), g 3 (omega arith), w 4 (omega arith), w 8 (omega arith), w 12 (omega arith), w 16 (omega arith), w 20 (omega arith), w 24 (omega arith), w 28 (omega arith), w 32 (omega arith), w 36 (omega arith), w 40 (omega arith), w 44 (omega arith), w 48 (omega arith), w 52 (omega arith), w 56 (omega arith), w 60 (omega arith))

-- a word of a new record too
new-alone : (wide : Bool) (r l : List ℕ) (at : ℕ) → at + 4 ≤ 40 → length r ≡ width_of wide → new_word wide (r ++ l) at ≡ new_word wide r at
unfolding width_of
new-alone true r l at h n = word-alone r l at (omega arith)
new-alone false r l at h n = refl

pub record-alone : (wide : Bool) (r l : List ℕ) → length r ≡ width_of wide → record_at wide (r ++ l) ≡ record_at wide r
unfolding record_at event_of event_spare
record-alone wide r l n =
    let g : (i : ℕ) → i < length r → get_or (r ++ l) i 0 ≡ get_or r i 0 = get_or-append r l 0 in
    let w : (at : ℕ) → at + 4 ≤ length r → word_at (r ++ l) at ≡ word_at r at = word-alone r l in
    let m : 32 ≤ length r = omega (arith, width-ge wide) in
    simp (le-ltb (length (r ++ l)) (width_of wide) (omega (arith, length-append r l)), le-ltb (length r) (width_of wide) (omega arith), new-alone wide r l 32 (omega arith) n, new-alone wide r l 36 (omega arith) n, g 8 (omega arith), g 9 (omega arith), g 10 (omega arith), g 11 (omega arith), w 0 (omega arith), w 4 (omega arith), w 12 (omega arith), w 16 (omega arith), w 20 (omega arith), w 24 (omega arith), w 28 (omega arith))
