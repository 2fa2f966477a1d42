-- The laws of pro rata, over any list of sizes, and any rule for the leftovers that gives one each to distinct members.
use mathlib.Core.Path.{◌≡◌, refl, sym, ap, ◌∙◌}
use mathlib.Core.Bool.{Bool, true, false, cond}
use mathlib.Core.List.{List, [], ◌∷◌}
use mathlib.Core.Logic.{◌⊎◌, inl, inr}
use Prim.Native.Nat.{ℕ, zero, suc, ◌+◌, ◌-◌, ◌*◌, ◌/◌, ◌%◌, ◌≤◌, ◌<◌, min}
use native.Mathlib.Nat.{div-mul-le_self, mod-add-div', mod-lt, zero-mod, div-lt_iff_lt-mul, mul-add, add-mul, mul_comm, mul-zero, suc-mul, zero-div, mul-lt-mul_of_pos_right, le_of_mul-le-mul_right}
use native.Mathlib.Omega.{arith}
use borrow.Author.Tests.{leb-true, leb-false, lt-leb, le-leb, lt-ltb, le-ltb}
use lib.Dec.{leb, ltb}
use lib.ListN.{length}
use Rattle.base.specs.Lists.{filter, sum}
use Rattle.share.specs.rules.Share.{floors, fractions, plus, leftover_count, how_many, leftovers, shares_by, shares, in_turn}
use Rattle.share.specs.inside.Cut.{Cuts}
use Rattle.share.specs.promises.Share.{Each, Mark, Marks, Near, Fair, InRank, ByFraction, ProRata}
use Rattle.share.proofs.CutLaws.{many-pass, many-fail, ones, rank-only, marks-one}

-- ---- the whole parts

-- together they are at most R
floors-below : (R T : ℕ) (ss : List ℕ) → sum (floors R T ss) * T ≤ R * sum ss
unfolding sum
floors-below R T [] = omega arith
floors-below R T (s ∷ ss) =
    rw (add-mul, mul-add) (omega (arith, div-mul-le_self (R * s) T, floors-below R T ss))

floors-at-most : (R : ℕ) (ss : List ℕ) → 0 < sum ss → sum (floors R (sum ss) ss) ≤ R
floors-at-most R ss h = le_of_mul-le-mul_right (floors-below R (sum ss) ss) h

-- ---- the fractions

-- with the whole parts they are all of R
parts_all : (R T : ℕ) (ss : List ℕ) → sum (fractions R T ss) + sum (floors R T ss) * T ≡ R * sum ss
unfolding sum
parts_all R T [] = simp mul-zero (omega arith)
parts_all R T (s ∷ ss) =
    simp (mul-add, add-mul) (omega (arith, mod-add-div' (R * s) T, parts_all R T ss))

-- they come to as many wholes as there are leftovers
pub wholes : (R : ℕ) (ss : List ℕ) → 0 < sum ss → sum (fractions R (sum ss) ss) ≡ leftover_count R ss * sum ss
wholes R ss h =
    let F = sum (floors R (sum ss) ss) in
    let e : R ≡ F + leftover_count R ss = omega (arith, floors-at-most R ss h) in
    let f : R * sum ss ≡ F * sum ss + leftover_count R ss * sum ss = ap (λ (n : ℕ). n * sum ss) e ∙ add-mul F (leftover_count R ss) (sum ss) in
    omega (arith, parts_all R (sum ss) ss)

-- each is less than a whole, so that there are as many that are not 0 as leftovers
below-whole : (R T : ℕ) (ss : List ℕ) → 0 < T → sum (fractions R T ss) ≤ how_many (ltb 0) (fractions R T ss) * T
unfolding sum filter
below-whole R T [] h = omega arith
below-whole R T (s ∷ ss) h = go (R * s % T) (mod-lt (R * s) h) (below-whole R T ss h)
  where
    go : (x : ℕ) → x < T → sum (fractions R T ss) ≤ how_many (ltb 0) (fractions R T ss) * T → x + sum (fractions R T ss) ≤ how_many (ltb 0) (x ∷ fractions R T ss) * T
    go zero l i = omega (arith, ap (λ (n : ℕ). n * T) (many-fail (ltb 0) 0 (fractions R T ss) refl))
    go (suc x) l i =
        let e = ap (λ (n : ℕ). n * T) (many-pass (ltb 0) (suc x) (fractions R T ss) (lt-ltb 0 (suc x) (omega arith))) in
        omega (arith, e, suc-mul (how_many (ltb 0) (fractions R T ss)) T)

-- nor is one above a whole: where there is no leftover, the cut is there
pub cut-whole : (R T : ℕ) (ss : List ℕ) → 0 < T → Cuts 0 (fractions R T ss) T 0
unfolding filter
cut-whole R T ss h = record { counted = omega (arith, none_above ss); enough = omega arith }
  where
    none_above : (xs : List ℕ) → how_many (ltb T) (fractions R T xs) ≡ 0
    none_above [] = refl
    none_above (x ∷ xs) = many-fail (ltb T) (R * x % T) (fractions R T xs) (le-ltb T (R * x % T) (omega (arith, mod-lt (R * x) h))) ∙ none_above xs

pub left-at-most : (R : ℕ) (ss : List ℕ) → 0 < sum ss → leftover_count R ss ≤ how_many (ltb 0) (fractions R (sum ss) ss)
left-at-most R ss h = le_of_mul-le-mul_right (omega (arith, wholes R ss h, below-whole R (sum ss) ss h)) h

-- one member's whole part leaves room for one more, where it has a size and R is short of T
pub room : (R T s : ℕ) → R < T → 0 < s → R * s / T < s
room R T s h p =
    let t : 0 < T = omega arith in
    (div-lt_iff_lt-mul t).1 (rw (mul_comm s T) (mul-lt-mul_of_pos_right h p))

none : (R T : ℕ) → R * 0 / T ≡ 0
none R T = rw (mul-zero) (zero-div T)

-- ---- the laws for any rule: `Marks` is all that they ask

sum-plus : (R T : ℕ) (ss ms : List ℕ) → Each Mark ss ms → sum (plus (floors R T ss) ms) ≡ sum (floors R T ss) + sum ms
unfolding sum
sum-plus R T [] [] e = refl
sum-plus R T [] (m ∷ ms) e = absurd e
sum-plus R T (s ∷ ss) [] e = absurd e
sum-plus R T (s ∷ ss) (m ∷ ms) e = omega (arith, sum-plus R T ss ms e.1)

one-fits : (R T s m : ℕ) → R < T → Mark s m → R * s / T + m ≤ s
one-fits R T zero m h k = simp (mul-zero, zero-div) (omega arith)
one-fits R T (suc s) m h k = omega (arith, room R T (suc s) h (omega arith))

plus-fits : (R T : ℕ) (ss ms : List ℕ) → R < T → Each Mark ss ms → Each ◌≤◌ (plus (floors R T ss) ms) ss
plus-fits R T [] [] h e = tt
plus-fits R T [] (m ∷ ms) h e = absurd e
plus-fits R T (s ∷ ss) [] h e = absurd e
plus-fits R T (s ∷ ss) (m ∷ ms) h e = (one-fits R T s m h e.0, plus-fits R T ss ms h e.1)

each-refl : (ss : List ℕ) → Each ◌≤◌ ss ss
each-refl [] = tt
each-refl (s ∷ ss) = (omega arith, each-refl ss)

near-one : (q m : ℕ) → m ≤ 1 → (q + m ≡ q) ⊎ (q + m ≡ q + 1)
near-one q zero h = inl (omega arith)
near-one q (suc m) h = inr (omega arith)

plus-near : (R T : ℕ) (ss ms : List ℕ) → Each Mark ss ms → Each (Near R T) ss (plus (floors R T ss) ms)
plus-near R T [] [] e = tt
plus-near R T [] (m ∷ ms) e = absurd e
plus-near R T (s ∷ ss) [] e = absurd e
plus-near R T (s ∷ ss) (m ∷ ms) e = (near-one (R * s / T) m e.0.0, plus-near R T ss ms e.1)

-- the rule need be right only where R is short
module _ (R : ℕ) (ss ms : List ℕ) (right : R < sum ss → Marks R ss ms) where
  -- all of R is given out, or all is filled
  by-sum : sum (shares_by ms R ss) ≡ min R (sum ss)
  by-sum = go (leb (sum ss) R) refl
    where
      go : (b : Bool) → leb (sum ss) R ≡ b → sum (cond b ss (plus (floors R (sum ss) ss) ms)) ≡ min R (sum ss)
      go true e = omega (arith, leb-true (sum ss) R e)
      go false e =
          let h : R < sum ss = leb-false (sum ss) R e in
          let f : sum (floors R (sum ss) ss) ≤ R = floors-at-most R ss (omega arith) in
          omega (arith, sum-plus R (sum ss) ss ms (right h).each, (right h).total)

  -- no share is above its size
  by_fits : Each ◌≤◌ (shares_by ms R ss) ss
  by_fits = go (leb (sum ss) R) refl
    where
      go : (b : Bool) → leb (sum ss) R ≡ b → Each ◌≤◌ (cond b ss (plus (floors R (sum ss) ss) ms)) ss
      go true e = each-refl ss
      go false e =
          let h : R < sum ss = leb-false (sum ss) R e in
          plus-fits R (sum ss) ss ms h (right h).each

  -- where R is short, each share is the whole part of R * s / T, or one more
  by_near : R < sum ss → Each (Near R (sum ss)) ss (shares_by ms R ss)
  by_near h = rw (lt-leb (sum ss) R h) (plus-near R (sum ss) ss ms (right h).each)

  by-fair : Fair R ss (shares_by ms R ss)
  by-fair = record { adds-up = by-sum; fits = by_fits; all = λ h. rw (le-leb (sum ss) R h); near = by_near }

-- ---- the rule: the largest fractions

-- one with a fraction has a size
one-sized : (R T s m : ℕ) → Mark (R * s % T) m → Mark s m
one-sized R T zero m k = (k.0, omega (arith, simp (mul-zero, zero-mod) at k.1))
one-sized R T (suc s) m k = (k.0, omega arith)

all-sized : (R T : ℕ) (ss ms : List ℕ) → Each Mark (fractions R T ss) ms → Each Mark ss ms
all-sized R T [] [] e = tt
all-sized R T [] (m ∷ ms) e = absurd e
all-sized R T (s ∷ ss) [] e = absurd e
all-sized R T (s ∷ ss) (m ∷ ms) e = (one-sized R T s m e.0, all-sized R T ss ms e.1)

by_fraction : (R : ℕ) (ss : List ℕ) → R < sum ss → ByFraction R ss
by_fraction R ss h =
    let p : 0 < sum ss = omega arith in
    let o = ones (leftover_count R ss) (fractions R (sum ss) ss) (left-at-most R ss p) in
    record {
      marks = record { each = all-sized R (sum ss) ss (leftovers R ss) o.each; total = o.total };
      in-rank = o.in-rank;
      none_at_zero = o.each;
      wholes = wholes R ss p;
    }

-- ---- the laws of `shares`

fair-shares : (R : ℕ) (ss : List ℕ) → Fair R ss (shares R ss)
unfolding shares
fair-shares R ss = by-fair R ss (leftovers R ss) (λ h. (by_fraction R ss h).marks)

only-rank : (R : ℕ) (ss ms : List ℕ) → R < sum ss → Marks R ss ms → InRank (fractions R (sum ss) ss) ms → shares R ss ≡ plus (floors R (sum ss) ss) ms
unfolding shares
only-rank R ss ms h k r =
    let b = by_fraction R ss h in
    let e : leftovers R ss ≡ ms = rank-only (fractions R (sum ss) ss) (leftovers R ss) ms b.in-rank r (marks-one ss (leftovers R ss) b.marks.each) (marks-one ss ms k.each) (b.marks.total ∙ sym k.total) in
    rw (lt-leb (sum ss) R h, e)

pub pro-rata : ProRata
pro-rata = record { by-rule = by-fair; by_fraction = by_fraction; only = only-rank; fair = fair-shares }

pub shares_sum : (R : ℕ) (ss : List ℕ) → sum (shares R ss) ≡ min R (sum ss)
shares_sum R ss = (fair-shares R ss).adds-up

pub shares-fit : (R : ℕ) (ss : List ℕ) → Each ◌≤◌ (shares R ss) ss
shares-fit R ss = (fair-shares R ss).fits

pub shares-near : (R : ℕ) (ss : List ℕ) → R < sum ss → Each (Near R (sum ss)) ss (shares R ss)
shares-near R ss = (fair-shares R ss).near

-- a whole part is at most its size
pub floor-le : (R T s : ℕ) → R < T → R * s / T ≤ s
floor-le R T zero h = simp (mul-zero, zero-div) (omega arith)
floor-le R T (suc s) h = omega (arith, room R T (suc s) h (omega arith))

each-length : (P : ℕ → ℕ → Type 0) (xs ys : List ℕ) → Each P xs ys → length xs ≡ length ys
each-length P [] [] e = refl
each-length P [] (y ∷ ys) e = absurd e
each-length P (x ∷ xs) [] e = absurd e
each-length P (x ∷ xs) (y ∷ ys) e = ap suc (each-length P xs ys e.1)

pub each-flip : (P : ℕ → ℕ → Type 0) (xs ys : List ℕ) → Each P xs ys → Each (λ y x. P x y) ys xs
each-flip P [] [] e = tt
each-flip P [] (y ∷ ys) e = absurd e
each-flip P (x ∷ xs) [] e = absurd e
each-flip P (x ∷ xs) (y ∷ ys) e = (e.0, each-flip P xs ys e.1)

each_same : (ss : List ℕ) → Each (λ s q. q ≡ s) ss ss
each_same [] = tt
each_same (s ∷ ss) = (refl, each_same ss)

-- ---- first come first

pub turn-sum : (left : ℕ) (ss : List ℕ) → sum (in_turn left ss) ≡ min left (sum ss)
unfolding sum
turn-sum left [] = omega arith
turn-sum left (s ∷ ss) = omega (arith, turn-sum (left - s) ss)

pub turn-fit : (left : ℕ) (ss : List ℕ) → Each (λ s q. q ≤ s) ss (in_turn left ss)
turn-fit left [] = tt
turn-fit left (s ∷ ss) = (omega arith, turn-fit (left - s) ss)

pub turn-full : (left : ℕ) (ss : List ℕ) → sum ss ≤ left → Each (λ s q. q ≡ s) ss (in_turn left ss)
unfolding sum
turn-full left [] h = tt
turn-full left (s ∷ ss) h = (omega arith, turn-full (left - s) ss (omega arith))

pub turn-length : (left : ℕ) (ss : List ℕ) → length (in_turn left ss) ≡ length ss
turn-length left ss = sym (each-length (λ s q. q ≤ s) ss (in_turn left ss) (turn-fit left ss))

-- ---- pro rata, where it covers all
pub shares-full : (R : ℕ) (ss : List ℕ) → sum ss ≤ R → Each (λ s q. q ≡ s) ss (shares R ss)
shares-full R ss h = rw ((fair-shares R ss).all h) (each_same ss)

pub shares-nobody : (R : ℕ) → shares R [] ≡ []
unfolding shares
shares-nobody R = go (leb (sum []) R)
  where
    go : (b : Bool) → cond b [] (plus [] (leftovers R [])) ≡ []
    go true = refl
    go false = refl

pub shares-length : (R : ℕ) (ss : List ℕ) → length (shares R ss) ≡ length ss
shares-length R ss = each-length ◌≤◌ (shares R ss) ss (shares-fit R ss)
