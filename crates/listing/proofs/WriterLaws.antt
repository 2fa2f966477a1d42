-- Laws of a writer: a text into a part of its lent bytes, and one text after the other.
use mathlib.Core.Path.{◌≡◌, refl, sym, ap, ap₂, subst, ◌∙◌}
use mathlib.Core.List.{List, [], ◌++◌}
use Prim.Native.Nat.{ℕ, ◌+◌, ◌-◌, ◌≤◌}
use native.Mathlib.Omega.{arith}
use Rattle.std.proofs.lemmas.List.{append_assoc}
use borrow.Rule.Slice.Mut.{set_vals}
use borrow.Rule.Slice.PartMut.{put_mid}
use lib.ListN.{length, take, drop, length-append}
use lib.Seq.{sets, sets-eq, length-sets, drop-drop}
use Rattle.words.specs.inside.Writing.{WroteBytes}
use Rattle.words.proofs.WroteLaws.{wrote-append, wrote-same}
use Rattle.listing.specs.declared.text.Writer.{Writer}
use Rattle.listing.specs.rules.Listing.{refused_line, range_text, auction_line, answer_text, event_text, event_line, event_line_with, end_text, end_line, party_text, fill_line, total_line}
use Rattle.listing.specs.inside.Writes.{Fits, Writes}

-- a text into the part that is as long
pub part-writes : (w : Writer) (t ys : List ℕ) (end : ℕ) → Fits w t → end ≡ w.at + length t → ys ≡ t
    → Writes w (record { out = set_vals (put_mid w.at (end - w.at) w.out.now ys) w.out; at = end }) t
part-writes w t ys end fits e f =
    let k : end - w.at ≡ length t = omega arith in
    let is : put_mid w.at (end - w.at) w.out.now ys ≡ sets w.out.now w.at t =
    rw (f, k) (ap {B = List ℕ} (λ r. take w.at w.out.now ++ (t ++ r)) (drop-drop (length t) w.at w.out.now)
    ∙ sym (append_assoc (take w.at w.out.now) t (drop (w.at + length t) w.out.now))
    ∙ sym (sets-eq t w.out.now w.at fits)) in
    record { lent = refl; wrote = record { words = is; place = e }; room = ap length is ∙ length-sets w.out.now w.at t }

pub writes-append : {u v w : Writer} {s t : List ℕ} → Writes u v s → Writes v w t → Writes u w (s ++ t)
writes-append a b = record { lent = b.lent ∙ a.lent; wrote = wrote-append a.wrote b.wrote; room = b.room ∙ a.room }

pub writes-same : {v w : Writer} {s t : List ℕ} → Writes v w s → s ≡ t → Writes v w t
writes-same a e = record { lent = a.lent; wrote = wrote-same a.wrote e; room = a.room }

-- a text at the start of lent bytes: xs before, and ys once they are back
pub writes-start : {v w : Writer} {s xs ys : List ℕ} → v.out.now ≡ xs → v.at ≡ 0 → Writes v w s → ys ≡ w.out.now → WroteBytes xs 0 s w.at ys
writes-start {v} {w} {s} {xs} {ys} e z a f = record { words = f ∙ a.wrote.words ∙ ap₂ {C = List ℕ} (λ us n. sets us n s) e z; place = omega (arith, a.wrote.place, z) }

pub fits-start : (v : Writer) (s xs : List ℕ) → v.out.now ≡ xs → v.at ≡ 0 → length s ≤ length xs → Fits v s
fits-start v s xs e z f = omega (arith, f, ap length e, z)

-- room for one text and another is room for the one, and then for the other
pub fits-first : (v : Writer) (s t : List ℕ) → Fits v (s ++ t) → Fits v s
fits-first v s t f = omega (arith, f, length-append s t)

pub fits-rest : {v w : Writer} {s : List ℕ} (t : List ℕ) → Writes v w s → Fits v (s ++ t) → Fits w t
fits-rest {s = s} t a f = omega (arith, f, a.wrote.place, a.room, length-append s t)

-- ---- a loop that writes: to write t with v comes to the same as to write s with u

pub record LeftToWrite (u v : Writer) (s t : List ℕ) : Type 0 where
  pub fits : Fits v t
  pub rest : (w : Writer) → Writes v w t → Writes u w s

pub left-start : {u : Writer} {s : List ℕ} → Fits u s → LeftToWrite u u s s
left-start f = record { fits = f; rest = λ w a. a }

-- what is left begins with x, which is written
pub left-turn : {u v w : Writer} {s t x : List ℕ} (y : List ℕ) → LeftToWrite u v s t → Writes v w x → t ≡ x ++ y → LeftToWrite u w s y
left-turn {v = v} y l a e =
    record {
      fits = fits-rest y a (subst (λ r. Fits v r) e l.fits);
      rest = λ z b. l.rest z (writes-same (writes-append a b) (sym e));
    }

-- nothing is left
pub left-end : {u v : Writer} {s t : List ℕ} → LeftToWrite u v s t → t ≡ [] → Writes u v s
left-end {v = v} l e = l.rest v (writes-same (record { lent = refl; wrote = record { words = refl; place = omega arith }; room = refl }) (sym e))

pub ruleset writing = (length-append, writes-append)

-- opens what each line says
unfoldable pub lines : Type 0
unfolding refused_line range_text auction_line answer_text event_text event_line event_line_with end_text end_line party_text fill_line total_line
lines = Unit {0}
