-- Laws of plain decimal.
use mathlib.Core.Path.{◌≡◌, refl, sym, ap, ap₂, ◌∙◌}
use mathlib.Core.Bool.{Bool, true, false, cond}
use mathlib.Core.List.{List, [], ◌∷◌, ◌++◌, append-nil}
use mathlib.Core.Logic.{◌≢◌}
use Prim.Native.Nat.{ℕ, zero, suc, ◌+◌, ◌-◌, ◌*◌, ◌/◌, ◌%◌, ◌^◌, ◌≤◌, ◌<◌}
use native.Mathlib.Nat.{pow-suc}
use native.Mathlib.Omega.{arith}
use Rattle.std.proofs.lemmas.List.{append_assoc, drop_all, drop-set}
use borrow.Author.Tests.{ne_eqb, eqb-true}
use lib.Dec.{eqb}
use lib.ListN.{length, set, drop, length-append, length-set}
use Rattle.listing.specs.rules.Text.{digit, digits, decimal}
use Rattle.listing.specs.promises.Demands.{value_from}

digits-none : (k : ℕ) → digits k 0 ≡ []
unfolding digits
digits-none zero = refl
digits-none (suc k) = refl

digits_more : (k n : ℕ) → n ≢ 0 → digits (suc k) n ≡ digits k (n / 10) ++ (digit n ∷ [])
unfolding digits
digits_more k n h = rw (ne_eqb n 0 h)

-- ---- lengths

one_more : (k : ℕ) (t : List ℕ) (b : Bool) (d : ℕ) → length t ≤ k → length (cond b [] (t ++ (d ∷ []))) ≤ suc k
one_more k t true d h = omega arith
one_more k t false d h = omega (arith, length-append t (d ∷ []))

digits-short : (k n : ℕ) → length (digits k n) ≤ k
unfolding digits
digits-short zero n = omega arith
digits-short (suc k) n = one_more k (digits k (n / 10)) (eqb n 0) (digit n) (digits-short k (n / 10))

pub decimal-short : (n : ℕ) → length (decimal n) ≤ 20
unfolding decimal
decimal-short n = omega (arith, length-append (digits 19 (n / 10)) (digit n ∷ []), digits-short 19 (n / 10))

-- ---- the last digit apart

digits-enough : (k n : ℕ) → n < 10 ^ k → digits (suc k) n ≡ digits k n
unfolding digits
digits-enough zero n h = rw (let e : n ≡ 0 = omega arith in e)
digits-enough (suc k) n h = ap (λ (t : List ℕ). cond (eqb n 0) [] (t ++ (digit n ∷ []))) (digits-enough k (n / 10) (omega (arith, pow-suc 10 k)))

decimal-one : (n : ℕ) → n < 10 → decimal n ≡ digit n ∷ []
unfolding decimal
decimal-one n h =
    let e : n / 10 ≡ 0 = omega arith in
    ap (λ (m : ℕ). digits 19 m ++ (digit n ∷ [])) e ∙ ap (λ (t : List ℕ). t ++ (digit n ∷ [])) (digits-none 19)

decimal-more : (n : ℕ) → 10 ≤ n → n < 2 ^ 64 → decimal n ≡ decimal (n / 10) ++ (digit n ∷ [])
unfolding decimal
decimal-more n h small =
    ap (λ (t : List ℕ). t ++ (digit n ∷ []))
    (digits_more 18 (n / 10) (λ e. omega arith)
    ∙ ap (λ (t : List ℕ). t ++ (digit (n / 10) ∷ [])) (sym (digits-enough 18 (n / 10 / 10) (omega arith))))

-- ---- how many digits

pub digits-some : (n : ℕ) → 1 ≤ length (decimal n)
unfolding decimal
digits-some n = omega (arith, length-append (digits 19 (n / 10)) (digit n ∷ []))

length_more : (n : ℕ) → 10 ≤ n → n < 2 ^ 64 → length (decimal n) ≡ 1 + length (decimal (n / 10))
length_more n h small = ap length (decimal-more n h small) ∙ omega (arith, length-append (decimal (n / 10)) (digit n ∷ []))

pub digits_1 : (n : ℕ) → n < 10 → length (decimal n) ≡ 1
digits_1 n h = ap length (decimal-one n h)

-- a digit more than the highest power of ten that is not above it
pub digits-power : (k n : ℕ) → 10 ^ k ≤ n → n < 10 * 10 ^ k → n < 2 ^ 64 → length (decimal n) ≡ k + 1
digits-power zero n h i small = omega (arith, digits_1 n (omega arith))
digits-power (suc k) n h i small =
    let e : 10 ^ suc k ≡ 10 * 10 ^ k = omega (arith, pow-suc 10 k) in
    omega (arith, length_more n (omega (arith, e)) small, digits-power k (n / 10) (omega (arith, e)) (omega (arith, e)) (omega arith))

-- ---- the digits are written from the last on: those of `rest` are still to come, and the others stand in ys from w on

pub record DigitsLeft (n : ℕ) (ys : List ℕ) (w rest : ℕ) : Type 0 where
  pub small : rest < 2 ^ 64
  pub place : w ≡ length (decimal rest)
  pub within : w ≤ length ys
  pub digits : decimal n ≡ decimal rest ++ drop w ys

pub left-all : (n : ℕ) (ys : List ℕ) → n < 2 ^ 64 → length ys ≡ length (decimal n) → DigitsLeft n ys (length ys) n
left-all n ys small e =
    record {
      small = small;
      place = e;
      within = omega arith;
      digits = sym (ap {B = List ℕ} (λ r. decimal n ++ r) (drop_all (length ys) ys (omega arith)) ∙ append-nil (decimal n));
    }

pub left-turn : {n : ℕ} {ys : List ℕ} {w rest : ℕ} → 10 ≤ rest → DigitsLeft n ys w rest → DigitsLeft n (set ys (w - 1) (digit rest)) (w - 1) (rest / 10)
left-turn {n} {ys} {w} {rest} h l =
    let t = decimal (rest / 10) in
    let e : w ≡ w - 1 + 1 = omega (arith, l.place, length_more rest h l.small) in
    record {
      small = omega (arith, l.small);
      place = omega (arith, l.place, length_more rest h l.small);
      within = omega (arith, l.within, length-set ys (w - 1) (digit rest));
      digits =
          l.digits
          ∙ ap₂ {C = List ℕ} (λ s k. s ++ drop k ys) (decimal-more rest h l.small) e
          ∙ append_assoc t (digit rest ∷ []) (drop (w - 1 + 1) ys)
          ∙ ap {B = List ℕ} (λ r. t ++ r) (sym (drop-set ys (w - 1) (digit rest) (omega (arith, l.within, e))));
    }

-- the tens of a number are those of what it has past the hundreds
tens : (n : ℕ) → n / 10 % 10 ≡ n % 100 / 10
tens n =
    let x : n / 10 ≡ n / 100 * 10 + n % 100 / 10 = omega arith in
    let y : n % 100 / 10 < 10 = omega arith in
    omega (arith, x, y)

-- two digits
pub left-pair : {n : ℕ} {ys : List ℕ} {w rest : ℕ} → 100 ≤ rest → DigitsLeft n ys w rest → DigitsLeft n (set (set ys (w - 1) (digit (rest % 100))) (w - 1 - 1) (digit (rest % 100 / 10))) (w - 1 - 1) (rest / 100)
left-pair {n} {ys} {w} {rest} h l =
    let e : digit (rest % 100) ≡ digit rest = omega arith in
    let f : digit (rest % 100 / 10) ≡ digit (rest / 10) = omega (arith, tens rest) in
    let g : rest / 100 ≡ rest / 10 / 10 = omega arith in
    rw (e, f, g) (left-turn (omega arith) (left-turn (omega arith) l))

-- there is a byte before the last that was written
pub left-some : {n : ℕ} {ys : List ℕ} {w rest : ℕ} → 10 ≤ rest → DigitsLeft n ys w rest → 2 ≤ w
left-some {n} {ys} {w} {rest} h l = omega (arith, l.place, length_more rest h l.small, digits-some (rest / 10))

pub left-last : {n : ℕ} {ys : List ℕ} {w rest : ℕ} → rest < 10 → DigitsLeft n ys w rest → set ys 0 (digit rest) ≡ decimal n
left-last {n} {ys} {w} {rest} h l =
    let e : w ≡ 1 = omega (arith, l.place, digits_1 rest h) in
    drop-set ys 0 (digit rest) (omega (arith, l.within, e)) ∙ sym (l.digits ∙ ap₂ {C = List ℕ} (λ s k. s ++ drop k ys) (decimal-one rest h) e)

-- the last two at once
pub left-two : {n : ℕ} {ys : List ℕ} {w rest : ℕ} → 10 ≤ rest → rest < 100 → DigitsLeft n ys w rest → set (set ys 1 (digit rest)) 0 (digit (rest / 10)) ≡ decimal n
left-two {n} {ys} {w} {rest} h small l =
    let e : 1 ≡ w - 1 = omega (arith, l.place, length_more rest h l.small, digits_1 (rest / 10) (omega arith)) in
    ap (λ (k : ℕ). set (set ys k (digit rest)) 0 (digit (rest / 10))) e ∙ left-last (omega arith) (left-turn h l)

-- ---- digits read back

value-append : (m : ℕ) (s : List ℕ) (d : ℕ) → value_from m (s ++ (d ∷ [])) ≡ value_from m s * 10 + (d - 48)
value-append m [] d = refl
value-append m (x ∷ s) d = value-append (m * 10 + (x - 48)) s d

digits_value : (k n : ℕ) → n < 10 ^ k → value_from 0 (digits k n) ≡ n
unfolding digits
digits_value zero n h = omega arith
digits_value (suc k) n h = go (eqb n 0) refl (digits_value k (n / 10) (omega (arith, pow-suc 10 k)))
  where
    go : (b : Bool) → eqb n 0 ≡ b → value_from 0 (digits k (n / 10)) ≡ n / 10 → value_from 0 (cond b [] (digits k (n / 10) ++ (digit n ∷ []))) ≡ n
    go true e ih = sym (eqb-true n 0 e)
    go false e ih = value-append 0 (digits k (n / 10)) (digit n) ∙ omega (arith, ih)

pub decimal-value : (n : ℕ) → n < 10 ^ 20 → value_from 0 (decimal n) ≡ n
unfolding decimal
decimal-value n h = value-append 0 (digits 19 (n / 10)) (digit n) ∙ omega (arith, digits_value 19 (n / 10) (omega arith))
