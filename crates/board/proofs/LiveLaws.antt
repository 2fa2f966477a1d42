-- Laws of the live ones of a list of places. Assumes nothing.
use mathlib.Core.Path.{◌≡◌, refl, sym, ap, ◌∙◌}
use mathlib.Core.Bool.{Bool, true, false, cond, ◌&&◌}
use mathlib.Core.List.{List, [], ◌∷◌}
use mathlib.Core.Logic.{⊎_elim}
use Prim.Native.Nat.{ℕ, zero, suc, ◌+◌, ◌-◌, ◌*◌, ◌/◌, ◌%◌, ◌^◌, ◌<◌}
use native.Mathlib.Nat.{pow-suc, not-suc-le-zero, le_of_suc-le-suc}
use native.Mathlib.Omega.{arith}
use lib.Dec.{eqb}
use lib.ListN.{length, get_or}
use lib.Pow.{pow_pos}
use borrow.Author.Tests.{eq-eqb, ne_eqb}
use Rattle.words.specs.rules.Bits.{bit_at, with_bit, without_bit, ones_in}
use Rattle.words.proofs.BitLaws.{bit-or, bit-zero, bit-half, bit-low, no-bit, add_half, add-odd, cut-same, cut-back, with-clear, with-other, without-set, without_not, without_in, without_other, LowestBit}
use Rattle.base.specs.Lists.{keep, filter, Every, Inserts}
use Rattle.base.specs.Lists.Inserts.{here, there}
use Rattle.board.specs.rules.Board.{live_in}
use Rattle.board.specs.inside.Places.{word_of}
use Rattle.base.proofs.ListLaws.{filter-keep}

low_bit : (w : ℕ) → w % 2 ≡ 1 → bit_at w 0 ≡ true
low_bit w e = bit-low w ∙ eq-eqb (w % 2) 1 e

module _ {A : Type 0} where
  -- ---- a place at a time
  pub dead-step : (w : ℕ) (p : A) (ps : List A) → w % 2 ≡ 0 → live_in w (p ∷ ps) ≡ live_in (w / 2) ps
  unfolding live_in
  dead-step w p ps e = ap (λ (d : ℕ). keep (eqb d 1) p (live_in (w / 2) ps)) e

  pub live-step : (w : ℕ) (p : A) (ps : List A) → w % 2 ≡ 1 → live_in w (p ∷ ps) ≡ p ∷ live_in (w / 2) ps
  unfolding live_in
  live-step w p ps e = ap (λ (d : ℕ). keep (eqb d 1) p (live_in (w / 2) ps)) e

  pub none-live : (ps : List A) → live_in 0 ps ≡ []
  unfolding live_in
  none-live [] = refl
  none-live (x ∷ ps) = none-live ps

  -- the count of ones is the number of the live ones
  pub count-live : (w : ℕ) (ps : List A) → ones_in (length ps) w ≡ length (live_in w ps)
  unfolding ones_in live_in
  count-live w [] = refl
  count-live w (p ∷ ps) =
      let ih = count-live (w / 2) ps in ⊎_elim (λ e. rw e (omega arith)) (λ e. rw e (omega arith)) (bit-or w)

  -- ---- what holds of each live place holds of each live one
  pub live-every : (P : A → Type 0) (w : ℕ) (ps : List A) (d : A) → ((j : ℕ) → j < length ps → bit_at w j ≡ true → P (get_or ps j d)) → Every P (live_in w ps)
  unfolding live_in
  live-every P w [] d h = tt
  live-every P w (p ∷ ps) d h =
      let ih = live-every P (w / 2) ps d (λ j l t. h (suc j) (omega arith) (sym (bit-half w j) ∙ t)) in
      ⊎_elim
      (λ e. rw (dead-step w p ps e) ih)
      (λ e. rw (live-step w p ps e) (h 0 (omega arith) (low_bit w e), ih))
      (bit-or w)

  -- ---- what is not live can't be seen
  pub live_same : (w : ℕ) (ps qs : List A) (d : A) → length ps ≡ length qs → ((j : ℕ) → bit_at w j ≡ true → get_or ps j d ≡ get_or qs j d) → live_in w ps ≡ live_in w qs
  unfolding live_in
  live_same w [] [] d l h = refl
  live_same w [] (q ∷ qs) d l h = absurd (omega arith)
  live_same w (p ∷ ps) [] d l h = absurd (omega arith)
  live_same w (p ∷ ps) (q ∷ qs) d l h =
      let ih = live_same (w / 2) ps qs d (omega arith) (λ j t. h (suc j) (sym (bit-half w j) ∙ t)) in
      ⊎_elim
      (λ e. dead-step w p ps e ∙ ih ∙ sym (dead-step w q qs e))
      (λ e.
      let same : p ≡ q = h 0 (low_bit w e) in
      rw (live-step w p ps e, live-step w q qs e, same, ih))
      (bit-or w)

  -- ---- a place more is one more, and a place less one less
  pub more-live : (w i : ℕ) (ps : List A) (d : A) → i < length ps → bit_at w i ≡ false → Inserts (get_or ps i d) (live_in w ps) (live_in (w + 2 ^ i) ps)
  more-live w i [] d l h = absurd (not-suc-le-zero l)
  more-live w zero (p ∷ ps) d l h =
      let e = bit-zero w 0 h in
      let z : w % 2 ≡ 0 = omega arith in
      let f : (w + 1) % 2 ≡ 1 = omega arith in
      let g : (w + 1) / 2 ≡ w / 2 = omega arith in
      rw (dead-step w p ps z, live-step _ p ps f, g) here
  more-live w (suc i) (p ∷ ps) d l h =
      let ih = more-live (w / 2) i ps d (le_of_suc-le-suc l) (bit-half w i ∙ h) in
      ⊎_elim
      (λ e. rw (dead-step w p ps e, dead-step _ p ps (add-odd w i ∙ e), add_half) ih)
      (λ e. rw (live-step w p ps e, live-step _ p ps (add-odd w i ∙ e), add_half) (there ih))
      (bit-or w)

  pub less-live : (w i : ℕ) (ps : List A) (d : A) → i < length ps → bit_at w i ≡ true → Inserts (get_or ps i d) (live_in (without_bit w i) ps) (live_in w ps)
  less-live w i ps d l t =
      rw (without-set w i t) (rw (cut-back w i t) at (more-live (w - 2 ^ i) i ps d l (cut-same w i t)))

  -- ---- the lowest live place is the first of the live ones
  first_more : (w i : ℕ) (ps : List A) (d : A) → i < length ps → bit_at w i ≡ false → ((j : ℕ) → j < i → bit_at w j ≡ false) → live_in (w + 2 ^ i) ps ≡ get_or ps i d ∷ live_in w ps
  first_more w i [] d l h none = absurd (not-suc-le-zero l)
  first_more w zero (p ∷ ps) d l h none =
      let e = bit-zero w 0 h in
      let z : w % 2 ≡ 0 = omega arith in
      let f : (w + 1) % 2 ≡ 1 = omega arith in
      let g : (w + 1) / 2 ≡ w / 2 = omega arith in
      rw (dead-step w p ps z, live-step (w + 1) p ps f, g)
  first_more w (suc i) (p ∷ ps) d l h none =
      let e = bit-zero w 0 (none 0 (omega arith)) in
      let z : w % 2 ≡ 0 = omega arith in
      let ih = first_more (w / 2) i ps d (le_of_suc-le-suc l) (bit-half w i ∙ h) (λ j m. bit-half w j ∙ none (suc j) (omega arith)) in
      rw (dead-step w p ps z, dead-step (w + 2 ^ suc i) p ps (add-odd w i ∙ z), add_half) ih

  pub first_live : (w i : ℕ) (ps : List A) (d : A) → i < length ps → LowestBit w i → live_in w ps ≡ get_or ps i d ∷ live_in (without_bit w i) ps
  first_live w i ps d l low =
      let t = low.set in
      let f = first_more (w - 2 ^ i) i ps d l (cut-same w i t) none in
      rw (without-set w i t) (rw (cut-back w i t) at f)
    where
      none : (j : ℕ) → j < i → bit_at (w - 2 ^ i) j ≡ false
      none j h = rw (without-set w i low.set) at (without_other w i j (omega arith) ∙ low.none j h)

-- ---- the word of those that pass a test
module _ {A : Type 0} (t : A → Bool) where
  digit : (b : Bool) (n : ℕ) → eqb ((cond b 1 0 + 2 * n) % 2) 1 ≡ b
  digit true n = eq-eqb ((1 + 2 * n) % 2) 1 (omega arith)
  digit false n = ne_eqb ((0 + 2 * n) % 2) 1 (omega arith)

  halves : (b : Bool) (n : ℕ) → (cond b 1 0 + 2 * n) / 2 ≡ n
  halves true n = omega arith
  halves false n = omega arith

  -- its live ones are those of w that pass
  pub word-filters : (w : ℕ) (ps : List A) → live_in (word_of t w ps) ps ≡ filter t (live_in w ps)
  unfolding word_of live_in filter
  word-filters w [] = refl
  word-filters w (x ∷ ps) =
      let n = word_of t (w / 2) ps in
      let b = eqb (w % 2) 1 in
      rw (digit (b && t x) n, halves (b && t x) n, word-filters (w / 2) ps) (sym (filter-keep t b x (live_in (w / 2) ps)))

  word_none : (ps : List A) → word_of t 0 ps ≡ 0
  unfolding word_of
  word_none [] = refl
  word_none (x ∷ ps) = rw (word_none ps)

  word-cons : (w : ℕ) (x : A) (ps : List A) (b : Bool) → (eqb (w % 2) 1 && t x) ≡ b → word_of t w (x ∷ ps) ≡ cond b 1 0 + 2 * word_of t (w / 2) ps
  unfolding word_of
  word-cons w x ps b e = rw e

  -- a place more adds its bit, where it passes
  more-word : (w i : ℕ) (ps : List A) (d : A) → i < length ps → bit_at w i ≡ false → word_of t (w + 2 ^ i) ps ≡ cond (t (get_or ps i d)) (2 ^ i) 0 + word_of t w ps
  more-word w i [] d l h = absurd (not-suc-le-zero l)
  more-word w zero (p ∷ ps) d l h =
      let e = bit-zero w 0 h in
      let z : w % 2 ≡ 0 = omega arith in
      let f : (w + 1) % 2 ≡ 1 = omega arith in
      let g : (w + 1) / 2 ≡ w / 2 = omega arith in
      rw (word-cons (w + 1) p ps (t p) (rw f), g, word-cons w p ps false (rw z)) (omega arith)
  more-word w (suc i) (p ∷ ps) d l h =
      let b = eqb (w % 2) 1 && t p in
      let ih = more-word (w / 2) i ps d (le_of_suc-le-suc l) (bit-half w i ∙ h) in
      rw (word-cons (w + 2 ^ suc i) p ps b (rw (add-odd w i)), add_half, word-cons w p ps b refl, ih)
      (omega (arith, twice (t (get_or ps i d))))
    where
      twice : (c : Bool) → cond c (2 ^ suc i) 0 ≡ 2 * cond c (2 ^ i) 0
      twice true = omega (arith, pow-suc 2 i)
      twice false = refl

  -- ---- a loop that makes this word: of w the places of rest are still to come, and those of kept have passed
  pub record Sifted (ps : List A) (w kept rest : ℕ) : Type 0 where
    pub total : word_of t w ps ≡ kept + word_of t rest ps
    pub apart : (j : ℕ) → bit_at rest j ≡ true → bit_at kept j ≡ false

  pub sift-start : (ps : List A) (w : ℕ) → Sifted ps w 0 w
  sift-start ps w = record { total = omega arith; apart = λ j h. no-bit 0 j (pow_pos j) }

  pub sift-end : (ps : List A) (w kept : ℕ) → Sifted ps w kept 0 → kept ≡ word_of t w ps
  sift-end ps w kept s = omega (arith, s.total, word_none ps)

  -- a turn: place i of rest is kept where it passes
  pub sift-step : (ps : List A) (w kept rest i : ℕ) (d : A) → i < length ps → i < 64 → bit_at rest i ≡ true → Sifted ps w kept rest
      → Sifted ps w (cond (t (get_or ps i d)) (with_bit kept i) kept) (without_bit rest i)
  sift-step ps w kept rest i d l m b s = go (t (get_or ps i d)) refl
    where
      left : word_of t rest ps ≡ cond (t (get_or ps i d)) (2 ^ i) 0 + word_of t (without_bit rest i) ps
      left = rw (without-set rest i b) (rw (cut-back rest i b) at (more-word (rest - 2 ^ i) i ps d l (cut-same rest i b)))

      clear : (j : ℕ) → bit_at (without_bit rest i) j ≡ true → bit_at kept j ≡ false
      clear j h = s.apart j (without_in rest i j h)

      go : (c : Bool) → t (get_or ps i d) ≡ c → Sifted ps w (cond c (with_bit kept i) kept) (without_bit rest i)
      go true e = record {
        total = omega (arith, s.total, rw e at left, with-clear kept i m (s.apart i b));
        apart = λ j h. with-other kept i j (without_not rest i j h) ∙ clear j h;
      }
      go false e = record { total = omega (arith, s.total, rw e at left); apart = clear }
