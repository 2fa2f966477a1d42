-- Laws of the search for the response that an event names: four places at a time, and, where a freed place has its sequence too, one at a time.
use mathlib.Core.Path.{◌≡◌, refl, sym, ap, subst, ◌∙◌}
use mathlib.Core.Bool.{Bool, true, false, cond, not, ◌||◌, ◌&&◌, true≢false}
use mathlib.Core.Logic.{◌⊎◌, ⊎_elim}
use Prim.Native.Nat.{ℕ, zero, suc, ◌+◌, ◌-◌, ◌*◌, ◌/◌, ◌%◌, ◌^◌, ◌≤◌, ◌<◌}
use native.Mathlib.Nat.{div-one, div-eq_of_lt, div-lt_self, mod-lt}
use native.Mathlib.Omega.{arith}
use borrow.Author.Tests.{eqb-true, ne_eqb}
use lib.Dec.{eqb}
use lib.Pow.{pow-lt, pow_mono, pow_pos, shr_le, shr-shr, split}
use Rattle.std.specs.Prelude.{Option, Some}
use Rattle.base.proofs.Bools.{bool-or, and_left, and_right, and-no-left, and-no-right, no}
use Rattle.base.proofs.Numbers.{le-or-lt, eq-or}
use Rattle.words.specs.rules.Bits.{bit_at, without_bit, count_trailing_zeros}
use Rattle.words.proofs.BitLaws.{LowestBit, no-bit, set-least}
use Rattle.board.specs.declared.Board.{Board}
use Rattle.board.specs.declared.Found.{Found}
use Rattle.board.specs.promises.Board.{Good}
use Rattle.board.specs.rules.Board.{no_response, response_at, find_in, is_gtx, found_at}
use Rattle.board.proofs.PlaceLaws.{found-some}
use Rattle.board.proofs.FindLaws.{hit, find-le, find-is, find-unique, find-low, find-rest, find_none}
use Rattle.tape.specs.declared.event.Event.{Event}
use Rattle.decision.specs.rules.Decide.{is_cancel, is_amend}
use Rattle.events.specs.rules.Step.{found_for}

-- the response that is looked for among the places of a word
abbrev pub among : Board → ℕ → ℕ → Option Found
among b s w = found_at b (find_in (is_gtx s) w b.places)

-- what is found so far, and where the places still to come have a response with this sequence, that one
abbrev pub looked : Board → ℕ → Option Found → ℕ → Option Found
looked b s named w = cond (eqb (find_in (is_gtx s) w b.places) 64) named (among b s w)

-- the word has place j, and the response with this sequence stands there
abbrev pub is_at : Board → ℕ → ℕ → ℕ → Bool
is_at b s w j = hit (is_gtx s) w b.places no_response j

abbrev pub has_sequence : Board → ℕ → ℕ → Bool
has_sequence b s j = eqb (response_at b.places j).sequence s

-- it stands at no place before i, and `rest` is the word from there on
pub record Seeks (b : Board) (s w : ℕ) (named : Option Found) (rest i slow : ℕ) : Type 0 where
  pub nobody : named ≡ found_at b 64
  pub quick : slow ≡ 0
  pub rest-is : rest ≡ w / 2 ^ i
  pub fours : i % 4 ≡ 0
  pub none : (j : ℕ) → j < i → is_at b s w j ≡ false

-- no four places are left: it is found, or to be looked for among those of `slow`
pub record Sought (b : Board) (s w : ℕ) (named : Option Found) (rest slow : ℕ) : Type 0 where
  pub over : rest ≡ 0
  pub fits : slow < 2 ^ 64
  pub left : looked b s named slow ≡ among b s w

-- ---- the word

pub sought-le : (names : Bool) (live : ℕ) → cond names live 0 ≤ live
sought-le true live = omega arith
sought-le false live = omega arith

pub sought-live : (names : Bool) (live w : ℕ) → w ≡ cond names live 0 → 0 < w → w ≡ live
sought-live true live w e h = e
sought-live false live w e h = absurd (omega (arith, e, h))

bit_past : (w i m : ℕ) → bit_at (w / 2 ^ i) m ≡ bit_at w (i + m)
bit_past w i m = ap (λ (n : ℕ). eqb (n % 2) 1) (shr-shr w i m)

none-past : (w i : ℕ) → w / 2 ^ i ≡ 0 → w < 2 ^ i
none-past w i e = omega (arith, split w i, ap (λ (n : ℕ). n * 2 ^ i) e, mod-lt w (pow_pos i))

-- a part of a word that is not 0 is of a word that is not 0
pub some-past : (w i rest : ℕ) → rest ≡ w / 2 ^ i → 0 < rest → 0 < w
some-past w i rest e h = omega (arith, e, h, shr_le w i)

pub gap-less : (rest gap : ℕ) → 0 < rest → 0 < gap → rest / 2 ^ gap < rest
gap-less rest gap h g = div-lt_self h (pow-lt {i = 0} {j = gap} g)

-- a word whose four lowest places are free has its lowest place past them
pub gap-some : (w i : ℕ) → LowestBit w i → w % 16 ≡ 0 → 0 < i / 4 * 4
gap-some w i low e = ⊎_elim (λ h. omega (arith, h)) (λ h. absurd (true≢false (sym low.set ∙ free w i e h))) (le-or-lt 4 i)
  where
    free : (w i : ℕ) → w % 16 ≡ 0 → i < 4 → bit_at w i ≡ false
    free w zero e h = ne_eqb (w / 2 ^ 0 % 2) 1 (λ z. omega (arith, div-one w, z, e))
    free w (suc zero) e h = ne_eqb (w / 2 ^ 1 % 2) 1 (λ z. omega (arith, z, e))
    free w (suc (suc zero)) e h = ne_eqb (w / 2 ^ 2 % 2) 1 (λ z. omega (arith, z, e))
    free w (suc (suc (suc zero))) e h = ne_eqb (w / 2 ^ 3 % 2) 1 (λ z. omega (arith, z, e))
    free w (suc (suc (suc (suc i)))) e h = absurd (omega (arith, h))

-- ---- places that have another sequence

module _ (b : Board) (s w : ℕ) where
  other : (j : ℕ) → has_sequence b s j ≡ false → is_at b s w j ≡ false
  other j e = and-no-right (bit_at w j) (and-no-right (response_at b.places j).gtx e)

  differs : (x : Bool) → not x ≡ true → x ≡ false
  differs true n = sym n
  differs false n = refl

  -- one of three places in a row, or a later one
  one_of : (P : ℕ → Type 0) (i j : ℕ) → i ≤ j → P i → P (i + 1) → P (i + 2) → (i + 3 ≤ j → P j) → P j
  one_of P i j l x y z f =
      ⊎_elim (λ e. rw e x)
      (λ n. ⊎_elim (λ e. rw e y)
      (λ m. ⊎_elim (λ e. rw e z) (λ k. f (later n m k)) (eq-or j (i + 2))) (eq-or j (i + 1))) (eq-or j i)
    where
      later : (j ≡ i → ⊥) → (j ≡ i + 1 → ⊥) → (j ≡ i + 2 → ⊥) → i + 3 ≤ j
      later n m k = omega (arith, l, n, m, k)

  -- four of them
  pub four-others : (i : ℕ) → (((not (has_sequence b s i) && not (has_sequence b s (i + 1))) && not (has_sequence b s (i + 2))) && not (has_sequence b s (i + 3))) ≡ true → (j : ℕ) → i ≤ j → j < i + 4 → is_at b s w j ≡ false
  four-others i t j l h =
      let three = and_left _ (not (has_sequence b s (i + 3))) t in
      let two = and_left _ (not (has_sequence b s (i + 2))) three in
      one_of (λ k. is_at b s w k ≡ false) i j l
      (other i (differs _ (and_left _ (not (has_sequence b s (i + 1))) two)))
      (other (i + 1) (differs _ (and_right (not (has_sequence b s i)) _ two)))
      (other (i + 2) (differs _ (and_right (not (has_sequence b s i) && not (has_sequence b s (i + 1))) _ three)))
      (λ m. let e : j ≡ i + 3 = omega (arith, m, h) in rw e (other (i + 3) (differs _ (and_right ((not (has_sequence b s i) && not (has_sequence b s (i + 1))) && not (has_sequence b s (i + 2))) _ t))))

  -- those before the one of four that has it
  pub which-before : (i k : ℕ) → k ≡ cond (has_sequence b s i) 0 (cond (has_sequence b s (i + 1)) 1 (cond (has_sequence b s (i + 2)) 2 3)) → (j : ℕ) → i ≤ j → j < i + k → is_at b s w j ≡ false
  which-before i k e j l h = go (has_sequence b s i) (has_sequence b s (i + 1)) (has_sequence b s (i + 2)) refl refl refl e
    where
      go : (x y z : Bool) → has_sequence b s i ≡ x → has_sequence b s (i + 1) ≡ y → has_sequence b s (i + 2) ≡ z → k ≡ cond x 0 (cond y 1 (cond z 2 3)) → is_at b s w j ≡ false
      go true y z ex ey ez k0 = absurd (omega (arith, l, h, k0))
      go false true z ex ey ez k1 = let e : j ≡ i = omega (arith, l, h, k1) in rw e (other i ex)
      go false false true ex ey ez k2 =
          ⊎_elim (λ e. rw e (other i ex)) (λ n. let e : j ≡ i + 1 = omega (arith, l, h, k2, n) in rw e (other (i + 1) ey)) (eq-or j i)
      go false false false ex ey ez k3 =
          one_of (λ k. is_at b s w k ≡ false) i j l (other i ex) (other (i + 1) ey) (other (i + 2) ez) (λ m. absurd (omega (arith, m, h, k3)))

-- ---- four places at a time

module _ (b : Board) (s w : ℕ) (named : Option Found) where
  pub look-start : named ≡ found_at b 64 → Seeks b s w named w 0 0
  look-start e = record { nobody = e; quick = refl; rest-is = sym (div-one w); fours = refl; none = λ j h. absurd (omega (arith, h)) }

  -- there are four
  pub look-places : (rest i slow : ℕ) → Seeks b s w named rest i slow → w < 2 ^ 64 → 0 < rest → i + 3 < 64
  look-places rest i slow S f h =
      ⊎_elim (λ l. absurd (omega (arith, h, S.rest-is, div-eq_of_lt (lt l)))) (λ l. omega (arith, l, S.fours)) (le-or-lt 64 i)
    where
      lt : 64 ≤ i → w < 2 ^ i
      lt l = omega (arith, f, pow_mono l)

  -- the word has none of them
  pub look-gap : (rest i slow gap : ℕ) → Seeks b s w named rest i slow → gap % 4 ≡ 0 → gap ≤ count_trailing_zeros 64 rest → Seeks b s w named (rest / 2 ^ gap) (i + gap) slow
  look-gap rest i slow gap S q g =
      record {
        nobody = S.nobody;
        quick = S.quick;
        rest-is = ap (λ (n : ℕ). n / 2 ^ gap) S.rest-is ∙ shr-shr w i gap;
        fours = omega (arith, q, S.fours);
        none = λ j h. ⊎_elim (λ l. and-no-left _ (clear j l h)) (S.none j) (le-or-lt i j);
      }
    where
      clear : (j : ℕ) → i ≤ j → j < i + gap → bit_at w j ≡ false
      clear j l h =
          let e : j ≡ i + (j - i) = omega (arith, l) in
          ap (λ (n : ℕ). bit_at w n) e ∙ sym (bit_past w i (j - i)) ∙ ap (λ (n : ℕ). bit_at n (j - i)) (sym S.rest-is) ∙ set-least 64 rest (j - i) (omega (arith, l, h, g))

  -- none of them has the sequence
  pub look-four : (rest i slow : ℕ) → Seeks b s w named rest i slow → (((not (has_sequence b s i) && not (has_sequence b s (i + 1))) && not (has_sequence b s (i + 2))) && not (has_sequence b s (i + 3))) ≡ true → Seeks b s w named (rest / 16) (i + 4) slow
  look-four rest i slow S t =
      record {
        nobody = S.nobody;
        quick = S.quick;
        rest-is = ap (λ (n : ℕ). n / 16) S.rest-is ∙ shr-shr w i 4;
        fours = omega (arith, S.fours);
        none = λ j h. ⊎_elim (λ l. four-others b s w i t j l h) (S.none j) (le-or-lt i j);
      }

module _ (b : Board) (g : Good b) (s : ℕ) where
  nowhere : find_in (is_gtx s) 0 b.places ≡ 64
  nowhere = find_none (is_gtx s) b.places ∙ g.places-are

  at_place : (i : ℕ) → cond (eqb i 64) (found_at b 64) (found_at b i) ≡ found_at b i
  at_place i =
      ⊎_elim
      (λ t. ap (λ (x : Bool). cond x (found_at b 64) (found_at b i)) t ∙ ap (found_at b) (sym (eqb-true i 64 t)))
      (λ t. ap (λ (x : Bool). cond x (found_at b 64) (found_at b i)) t)
      (bool-or (eqb i 64))

  -- no place is left
  pub look-end : (named : Option Found) → looked b s named 0 ≡ named
  look-end named = ap (λ (i : ℕ). cond (eqb i 64) named (found_at b i)) nowhere

  module _ (w : ℕ) (named : Option Found) (rest i slow : ℕ) (S : Seeks b s w named rest i slow) where
    -- one of the four has it
    pub look_hit : (k : ℕ) → k ≡ cond (has_sequence b s i) 0 (cond (has_sequence b s (i + 1)) 1 (cond (has_sequence b s (i + 2)) 2 3)) → i + k < 64 → is_at b s w (i + k) ≡ true → Sought b s w (Some (record { place = i + k; response = response_at b.places (i + k) })) 0 slow
    look_hit k e h t =
        subst (λ (n : Option Found). Sought b s w n 0 slow) (found-some b (i + k) h) record {
          over = refl;
          fits = omega (arith, S.quick, pow_pos 64);
          left =
              ap (looked b s (found_at b (i + k))) S.quick
              ∙ look-end (found_at b (i + k))
              ∙ ap (found_at b) (sym (find-unique (is_gtx s) w b.places no_response (i + k) (omega (arith, h, g.places-are)) t (λ j m. ⊎_elim (λ l. which-before b s w i k e j l m) (S.none j) (le-or-lt i j))));
        }

    -- a freed place has the sequence: all places are looked at
    pub look-slow : w < 2 ^ 64 → Sought b s w named 0 w
    look-slow f =
        record { over = refl; fits = f; left = ap (λ (n : Option Found). looked b s n w) S.nobody ∙ at_place (find_in (is_gtx s) w b.places) }

    -- all fours are passed
    pub look_none : rest ≡ 0 → (slow < 2 ^ 64) × (looked b s named slow ≡ among b s w)
    look_none z = (
      omega (arith, S.quick, pow_pos 64),
      ap (looked b s named) S.quick ∙ look-end named ∙ S.nobody ∙ ap (found_at b) (sym absent),
    )
      where
        none : (j : ℕ) → is_at b s w j ≡ false
        none j = ⊎_elim (λ l. and-no-left _ (no-bit w j (omega (arith, pow_mono l, none-past w i (sym S.rest-is ∙ z))))) (S.none j) (le-or-lt i j)

        absent : find_in (is_gtx s) w b.places ≡ 64
        absent =
            ⊎_elim
            (λ l. omega (arith, l, find-le (is_gtx s) w b.places, g.places-are))
            (λ l. no (sym (find-is (is_gtx s) w b.places no_response (omega (arith, l, g.places-are))) ∙ none _))
            (le-or-lt 64 (find_in (is_gtx s) w b.places))

  -- either way
  pub look-over : (w : ℕ) (named : Option Found) (rest i slow : ℕ) → Seeks b s w named rest i slow ⊎ Sought b s w named rest slow → rest ≡ 0 → (slow < 2 ^ 64) × (looked b s named slow ≡ among b s w)
  look-over w named rest i slow x z = ⊎_elim (λ S. look_none w named rest i slow S z) (λ D. (D.fits, D.left)) x

  -- ---- one place at a time

  -- the lowest place has it
  pub look-found : (named : Option Found) (w i : ℕ) → LowestBit w i → is_gtx s (response_at b.places i) ≡ true → looked b s (Some (record { place = i; response = response_at b.places i })) 0 ≡ looked b s named w
  look-found named w i low t =
      look-end (Some (record { place = i; response = response_at b.places i }))
      ∙ sym (found-some b i low.place)
      ∙ sym (ap (λ (j : ℕ). cond (eqb j 64) named (found_at b j)) (find-low (is_gtx s) w b.places no_response i (omega (arith, low.place, g.places-are)) low t)
      ∙ ap (λ (x : Bool). cond x named (found_at b i)) (ne_eqb i 64 (λ z. omega (arith, low.place))))

-- and has it not
pub look-next : (b : Board) (s : ℕ) (named : Option Found) (w i : ℕ) → is_gtx s (response_at b.places i) ≡ false → looked b s named (without_bit w i) ≡ looked b s named w
look-next b s named w i t =
    ap (λ (j : ℕ). cond (eqb j 64) named (found_at b j)) (find-rest (is_gtx s) w b.places no_response i t)

-- what is found on the places that are looked over is what is found for the event
pub look-for : (b : Board) → Good b → (e : Event) (names : Bool) (w : ℕ) → names ≡ (is_cancel e || is_amend e) → w ≡ cond names b.live 0 → find_in (is_gtx e.f12) w b.places ≡ found_for b e
look-for b g e names w en ew =
    ap (λ (v : ℕ). find_in (is_gtx e.f12) v b.places) ew
    ∙ go names
    ∙ ap (λ (n : Bool). cond n (find_in (is_gtx e.f12) b.live b.places) 64) en
  where
    go : (n : Bool) → find_in (is_gtx e.f12) (cond n b.live 0) b.places ≡ cond n (find_in (is_gtx e.f12) b.live b.places) 64
    go true = refl
    go false = find_none (is_gtx e.f12) b.places ∙ g.places-are
