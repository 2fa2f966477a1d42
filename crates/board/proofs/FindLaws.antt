-- Laws of the search for a place. Assumes nothing.
use mathlib.Core.Path.{◌≡◌, refl, sym, ap, ◌∙◌}
use mathlib.Core.Bool.{Bool, true, false, cond, ◌&&◌, true≢false}
use mathlib.Core.List.{List, [], ◌∷◌}
use mathlib.Core.Logic.{⊎_elim}
use Prim.Native.Nat.{ℕ, zero, suc, ◌/◌, ◌%◌, ◌≤◌, ◌<◌}
use native.Mathlib.Nat.{not-suc-le-zero}
use native.Mathlib.Omega.{arith}
use lib.Dec.{eqb}
use lib.ListN.{length, get_or}
use Rattle.words.specs.rules.Bits.{bit_at, without_bit}
use Rattle.base.proofs.Bools.{bool-or, and_both, and-no-left, and-no-right}
use Rattle.base.proofs.Numbers.{le-or-lt, eq-or}
use Rattle.words.proofs.BitLaws.{bit-half, bit-low, without_other, LowestBit}
use Rattle.board.specs.rules.Board.{find_in}

module _ {A : Type 0} (t : A → Bool) where
  -- place j is looked for
  abbrev pub hit : ℕ → List A → A → ℕ → Bool
  hit w ps d j = bit_at w j && t (get_or ps j d)

  hit-low : (w : ℕ) (x : A) (ps : List A) (d : A) → hit w (x ∷ ps) d 0 ≡ (eqb (w % 2) 1 && t x)
  hit-low w x ps d = ap (λ (b : Bool). b && t x) (bit-low w)

  hit-half : (w : ℕ) (x : A) (ps : List A) (d : A) (j : ℕ) → hit (w / 2) ps d j ≡ hit w (x ∷ ps) d (suc j)
  hit-half w x ps d j = ap (λ (b : Bool). b && t (get_or ps j d)) (bit-half w j)

  -- ---- a place at a time
  stop_step : (w : ℕ) (x : A) (ps : List A) (d : A) → hit w (x ∷ ps) d 0 ≡ true → find_in t w (x ∷ ps) ≡ 0
  unfolding find_in
  stop_step w x ps d e = ap (λ (b : Bool). cond b 0 (suc (find_in t (w / 2) ps))) (sym (hit-low w x ps d) ∙ e)

  pass_step : (w : ℕ) (x : A) (ps : List A) (d : A) → hit w (x ∷ ps) d 0 ≡ false → find_in t w (x ∷ ps) ≡ suc (find_in t (w / 2) ps)
  unfolding find_in
  pass_step w x ps d e = ap (λ (b : Bool). cond b 0 (suc (find_in t (w / 2) ps))) (sym (hit-low w x ps d) ∙ e)

  pub find-le : (w : ℕ) (ps : List A) → find_in t w ps ≤ length ps
  unfolding find_in
  find-le w [] = omega arith
  find-le w (x ∷ ps) =
      let ih = find-le (w / 2) ps in
      ⊎_elim
      (λ e. omega (arith, stop_step w x ps x e))
      (λ e. omega (arith, pass_step w x ps x e))
      (bool-or (hit w (x ∷ ps) x 0))

  -- what is found is looked for
  pub find-is : (w : ℕ) (ps : List A) (d : A) → find_in t w ps < length ps → hit w ps d (find_in t w ps) ≡ true
  find-is w [] d h = absurd (not-suc-le-zero h)
  find-is w (x ∷ ps) d h =
      let ih = find-is (w / 2) ps d in
      ⊎_elim
      (λ e. rw (stop_step w x ps d e) e)
      (λ e. rw (pass_step w x ps d e) (sym (hit-half w x ps d (find_in t (w / 2) ps)) ∙ ih (omega (arith, pass_step w x ps d e))))
      (bool-or (hit w (x ∷ ps) d 0))

  -- and none before it
  pub find_first : (w : ℕ) (ps : List A) (d : A) (j : ℕ) → j < find_in t w ps → hit w ps d j ≡ false
  unfolding find_in
  find_first w [] d j h = absurd (not-suc-le-zero h)
  find_first w (x ∷ ps) d zero h =
      ⊎_elim (λ e. absurd (omega (arith, stop_step w x ps d e))) (λ e. e) (bool-or (hit w (x ∷ ps) d 0))
  find_first w (x ∷ ps) d (suc j) h =
      let ih = find_first (w / 2) ps d j in
      ⊎_elim
      (λ e. absurd (omega (arith, stop_step w x ps d e)))
      (λ e. sym (hit-half w x ps d j) ∙ ih (omega (arith, pass_step w x ps d e)))
      (bool-or (hit w (x ∷ ps) d 0))

  -- so it is the only such place
  pub find-unique : (w : ℕ) (ps : List A) (d : A) (i : ℕ) → i < length ps → hit w ps d i ≡ true → ((j : ℕ) → j < i → hit w ps d j ≡ false) → find_in t w ps ≡ i
  find-unique w ps d i l e h =
      ⊎_elim
      (λ below.
      ⊎_elim
      (λ above. omega arith)
      (λ lt. absurd (true≢false (sym (find-is w ps d (omega arith)) ∙ h (find_in t w ps) lt)))
      (le-or-lt i (find_in t w ps)))
      (λ lt. absurd (true≢false (sym e ∙ find_first w ps d i lt)))
      (le-or-lt (find_in t w ps) i)

  -- the search goes by what is looked for alone
  find-same : (w v : ℕ) (ps qs : List A) (d : A) → length ps ≡ length qs → ((j : ℕ) → hit w ps d j ≡ hit v qs d j) → find_in t w ps ≡ find_in t v qs
  unfolding find_in
  find-same w v [] [] d l h = refl
  find-same w v [] (y ∷ qs) d l h = absurd (omega arith)
  find-same w v (x ∷ ps) [] d l h = absurd (omega arith)
  find-same w v (x ∷ ps) (y ∷ qs) d l h =
      let ih = find-same (w / 2) (v / 2) ps qs d (omega arith) (λ j. hit-half w x ps d j ∙ h (suc j) ∙ sym (hit-half v y qs d j)) in
      ⊎_elim
      (λ e. stop_step w x ps d e ∙ sym (stop_step v y qs d (sym (h 0) ∙ e)))
      (λ e. pass_step w x ps d e ∙ ap suc ih ∙ sym (pass_step v y qs d (sym (h 0) ∙ e)))
      (bool-or (hit w (x ∷ ps) d 0))

  pub find-unseen : (w : ℕ) (ps qs : List A) (d : A) → length ps ≡ length qs → ((j : ℕ) → bit_at w j ≡ true → get_or ps j d ≡ get_or qs j d) → find_in t w ps ≡ find_in t w qs
  find-unseen w ps qs d l h =
      find-same w w ps qs d l
      (λ j. ⊎_elim (λ b. rw (h j b)) (λ b. and-no-left _ b ∙ sym (and-no-left _ b)) (bool-or (bit_at w j)))

  -- ---- a loop that looks at the lowest place of the word, and then at the rest
  pub find-low : (w : ℕ) (ps : List A) (d : A) (i : ℕ) → i < length ps → LowestBit w i → t (get_or ps i d) ≡ true → find_in t w ps ≡ i
  find-low w ps d i l low f = find-unique w ps d i l (and_both low.set f) (λ j h. and-no-left _ (low.none j h))

  pub find-rest : (w : ℕ) (ps : List A) (d : A) (i : ℕ) → t (get_or ps i d) ≡ false → find_in t (without_bit w i) ps ≡ find_in t w ps
  find-rest w ps d i f = find-same (without_bit w i) w ps ps d refl same
    where
      same : (j : ℕ) → hit (without_bit w i) ps d j ≡ hit w ps d j
      same j =
          ⊎_elim
          (λ e.
          let g : t (get_or ps j d) ≡ false = rw e f in
          and-no-right (bit_at (without_bit w i) j) g ∙ sym (and-no-right (bit_at w j) g))
          (λ n. ap (λ (b : Bool). b && t (get_or ps j d)) (without_other w i j n))
          (eq-or j i)

  pub find_none : (ps : List A) → find_in t 0 ps ≡ length ps
  unfolding find_in
  find_none [] = refl
  find_none (x ∷ ps) = ap suc (find_none ps)
