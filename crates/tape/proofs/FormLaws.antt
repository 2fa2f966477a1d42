-- What the tests of a form say. Assumes nothing.
use mathlib.Core.Path.{◌≡◌, refl, sym, subst, ◌∙◌}
use mathlib.Core.Bool.{Bool, true, false, cond, not, ◌&&◌, ◌||◌, or-false}
use mathlib.Core.List.{List, [], ◌∷◌}
use mathlib.Core.Logic.{⊎_elim}
use Prim.Native.Nat.{ℕ, zero, suc, ◌<◌, ◌≤◌}
use native.Mathlib.Omega.{arith}
use lib.ListN.{get_or}
use lib.Dec.{leb, eqb}
use borrow.Author.Tests.{leb-true, ltb-true, eqb-true}
use Rattle.tape.specs.declared.order.Order.{Order}
use Rattle.tape.specs.declared.form.Shape.{Shape}
use Rattle.tape.specs.declared.form.Range.{Range}
use Rattle.tape.specs.rules.Form.{all_from, within, collar_result, collar_formed, order_tests, order_formed, range, inside, unused, sides, sizes, prices, any_number, bids, offers, row, shape_of}
use Rattle.base.proofs.Bools.{and_left, and_right, or-either}

all_start : (ts : List Bool) (b : Bool) → all_from b ts ≡ true → b ≡ true
all_start [] b h = h
all_start (t ∷ ts) b h = and_left b t (all_start ts (b && t) h)

-- where all tests hold, the one at any place does (and past the end `true` stands)
pub each : (ts : List Bool) (b : Bool) → all_from b ts ≡ true → (i : ℕ) → get_or ts i true ≡ true
each [] b h i = refl
each (t ∷ ts) b h zero = and_right b t (all_start ts (b && t) h)
each (t ∷ ts) b h (suc i) = each ts (b && t) h i

pub within-le : (x low high : ℕ) → within x low high ≡ true → x ≤ high
within-le x low high h = leb-true x high (and_right (leb low x) (leb x high) h)

pub within-ge : (x low high : ℕ) → within x low high ≡ true → low ≤ x
within-ge x low high h = leb-true low x (and_left (leb low x) (leb x high) h)

-- ---- orders

-- no stop is above the highest price
stop_le : (s : ℕ) (a : Bool) → ((a && eqb s 0) || (not a && within s 1 999999)) ≡ true → s ≤ 999999
stop_le s true h = let z : s ≡ 0 = eqb-true s 0 (sym (or-false (eqb s 0)) ∙ h) in omega arith
stop_le s false h = within-le s 1 999999 h

-- a stop is 0 in mode 2, and a price else
pub stop-none : (s : ℕ) (a : Bool) → a ≡ true → ((a && eqb s 0) || (not a && within s 1 999999)) ≡ true → s ≡ 0
stop-none s true e h = eqb-true s 0 (sym (or-false (eqb s 0)) ∙ h)
stop-none s false e h = cc

pub stop-some : (s : ℕ) (a : Bool) → a ≡ false → ((a && eqb s 0) || (not a && within s 1 999999)) ≡ true → 1 ≤ s
stop-some s true e h = absurd (let z : ◌≡◌ {A = ℕ} 0 1 = cc in (let r : ⊥ = omega arith in r))
stop-some s false e h = within-ge s 1 999999 h

-- what the form of a collared order says: there is none, or its displayed price, the collar and the result are prices
pub data CollarForm (side displayed collar : ℕ) : Type 0 where
  without : displayed ≡ 0 → collar ≡ 0 → CollarForm side displayed collar
  with : within displayed 1 999999 ≡ true → within collar 1 999999 ≡ true → within (collar_result side displayed collar) 1 999999 ≡ true → CollarForm side displayed collar

pub collar-form : (side displayed collar : ℕ) → collar_formed side displayed collar ≡ true → CollarForm side displayed collar
collar-form side displayed collar h =
    ⊎_elim
    (λ z. without (eqb-true _ _ (and_left (eqb displayed 0) (eqb collar 0) z)) (eqb-true _ _ (and_right (eqb displayed 0) (eqb collar 0) z)))
    (λ p.
    let both = and_left (within displayed 1 999999 && within collar 1 999999) (within (collar_result side displayed collar) 1 999999) p in
    with (and_left (within displayed 1 999999) (within collar 1 999999) both) (and_right (within displayed 1 999999) (within collar 1 999999) both) (and_right (within displayed 1 999999 && within collar 1 999999) (within (collar_result side displayed collar) 1 999999) p))
    (or-either (eqb displayed 0 && eqb collar 0) _ h)

displayed-le : {side displayed collar : ℕ} → CollarForm side displayed collar → displayed ≤ 999999
displayed-le (without d c) = omega (arith, d)
displayed-le (with d c p) = within-le _ 1 999999 d

collar-le : {side displayed collar : ℕ} → CollarForm side displayed collar → collar ≤ 999999
collar-le (without d c) = omega (arith, c)
collar-le (with d c p) = within-le _ 1 999999 c

-- the bounds of an order in form
pub record OrderBounds (o : Order) : Type 0 where
  pub some-side : 1 ≤ o.side
  pub some-mode : 1 ≤ o.mode
  pub some-limit : 1 ≤ o.limit
  pub some-nbb : 1 ≤ o.nbb
  pub some-nbo : 1 ≤ o.nbo
  pub some-bo : 1 ≤ o.bo
  pub some-interval : 100 ≤ o.interval
  pub no_stop : eqb o.mode 2 ≡ true → o.stop ≡ 0
  pub some-stop : eqb o.mode 2 ≡ false → 1 ≤ o.stop
  pub side : o.side ≤ 2
  pub mode : o.mode ≤ 3
  pub marks : o.marks ≤ 15
  pub size : o.size ≤ 100000
  pub limit : o.limit ≤ 999999
  pub stop : o.stop ≤ 999999
  pub nbb : o.nbb ≤ 999999
  pub nbo : o.nbo ≤ 999999
  pub bb : o.bb ≤ 999999
  pub bo : o.bo ≤ 1000000
  pub time : o.time ≤ 86400000
  pub opens : o.opens < o.closes
  pub closes : o.closes ≤ 86400000
  pub interval : o.interval ≤ 1000
  pub displayed : o.displayed ≤ 999999
  pub collar : o.collar ≤ 999999
  pub collar-form : CollarForm o.side o.displayed o.collar

pub order-bounds : (o : Order) → order_formed o ≡ true → OrderBounds o
unfolding order_formed order_tests
order-bounds o h =
    let t : (i : ℕ) → get_or (order_tests o) i true ≡ true = each (order_tests o) true h in
    let k : CollarForm o.side o.displayed o.collar = collar-form o.side o.displayed o.collar (t 14) in
    record {
      some-side = within-ge o.side 1 2 (t 0);
      some-mode = within-ge o.mode 1 3 (t 1);
      some-limit = within-ge o.limit 1 999999 (t 4);
      some-nbb = within-ge o.nbb 1 999999 (t 6);
      some-nbo = within-ge o.nbo 1 999999 (t 7);
      some-bo = within-ge o.bo 1 1000000 (t 9);
      some-interval = within-ge o.interval 100 1000 (t 13);
      no_stop = λ e. stop-none o.stop (eqb o.mode 2) e (t 5);
      some-stop = λ e. stop-some o.stop (eqb o.mode 2) e (t 5);
      side = within-le o.side 1 2 (t 0);
      mode = within-le o.mode 1 3 (t 1);
      marks = leb-true o.marks 15 (t 2);
      size = leb-true o.size 100000 (t 3);
      limit = within-le o.limit 1 999999 (t 4);
      stop = stop_le o.stop (eqb o.mode 2) (t 5);
      nbb = within-le o.nbb 1 999999 (t 6);
      nbo = within-le o.nbo 1 999999 (t 7);
      bb = leb-true o.bb 999999 (t 8);
      bo = within-le o.bo 1 1000000 (t 9);
      time = leb-true o.time 86400000 (t 10);
      opens = ltb-true o.opens o.closes (t 11);
      closes = leb-true o.closes 86400000 (t 12);
      interval = within-le o.interval 100 1000 (t 13);
      displayed = displayed-le k;
      collar = collar-le k;
      collar-form = k;
    }

-- ---- events

-- what holds of each row of the table holds of the row of any kind
choose : (P : ℕ → Shape → Type 0) (k n : ℕ) (x y : Shape) → P n x → P k y → P k (cond (eqb k n) x y)
choose P k n x y px py = go (eqb k n) refl
  where
    go : (b : Bool) → eqb k n ≡ b → P k (cond b x y)
    go true e = subst (λ (m : ℕ). P m x) (sym (eqb-true k n e)) px
    go false e = py

-- the highest numbers that a row lets through
pub record RowBounds (k : ℕ) (s : Shape) : Type 0 where
  pub kind : (m : ℕ) → inside m s.marks ≡ true → k ≤ 255
  pub marks : s.marks.high ≤ 15
  pub side : s.side.high ≤ 2
  pub f12 : s.f12.high ≤ 4294967295
  pub f16 : s.f16.high ≤ 999999
  pub f20 : s.f20.high ≤ 999999
  pub f24 : s.f24.high ≤ 1000000

known : {k : ℕ} (marks : Range) (low : Bool) (side f12 f16 f20 f24 : Range) → k ≤ 255 → marks.high ≤ 15 → side.high ≤ 2 → f12.high ≤ 4294967295 → f16.high ≤ 999999 → f20.high ≤ 999999 → f24.high ≤ 1000000 → RowBounds k (row marks low side f12 f16 f20 f24)
known marks low side f12 f16 f20 f24 hk a b c d e f = record { kind = λ m h. hk; marks = a; side = b; f12 = c; f16 = d; f20 = e; f24 = f }

pub row-bounds : (k : ℕ) → RowBounds k (shape_of k)
unfolding shape_of
row-bounds k =
    choose RowBounds k 1 _ _ (known (range 0 1) true sides sizes prices unused unused (omega arith) (omega arith) (omega arith) (omega arith) (omega arith) (omega arith) (omega arith))
    (choose RowBounds k 2 _ _ (known unused true unused any_number unused unused unused (omega arith) (omega arith) (omega arith) (omega arith) (omega arith) (omega arith) (omega arith))
    (choose RowBounds k 3 _ _ (known (range 0 3) true sides sizes prices unused unused (omega arith) (omega arith) (omega arith) (omega arith) (omega arith) (omega arith) (omega arith))
    (choose RowBounds k 4 _ _ (known (range 0 1) true sides sizes unused unused unused (omega arith) (omega arith) (omega arith) (omega arith) (omega arith) (omega arith) (omega arith))
    (choose RowBounds k 5 _ _ (known (range 0 15) false unused prices prices bids offers (omega arith) (omega arith) (omega arith) (omega arith) (omega arith) (omega arith) (omega arith))
    (choose RowBounds k 6 _ _ (known unused true unused any_number sizes prices unused (omega arith) (omega arith) (omega arith) (omega arith) (omega arith) (omega arith) (omega arith))
    (record { kind = λ m h. absurd (omega (arith, within-ge m 1 0 h, within-le m 1 0 h)); marks = omega arith; side = omega arith; f12 = omega arith; f16 = omega arith; f20 = omega arith; f24 = omega arith }))))))
