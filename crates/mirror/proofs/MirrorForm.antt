-- The mirror of an order or an event in form is in form, and twice is once. Assumes nothing.
use mathlib.Core.Path.{◌≡◌, refl, sym, ap, ◌∙◌}
use mathlib.Core.Bool.{Bool, true, false, cond, not, ◌&&◌, ◌||◌, or-true}
use Prim.Native.Nat.{ℕ, ◌+◌, ◌-◌, ◌≤◌, ◌<◌}
use native.Mathlib.Omega.{arith}
use lib.Dec.{leb, eqb}
use lib.ListN.{get_or}
use borrow.Author.Tests.{le-leb, lt-ltb, eq-eqb, ne_eqb, eqb-true, eqb-false}
use Rattle.words.specs.rules.Bits.{bit_at}
use Rattle.tape.specs.declared.order.Order.{Order}
use Rattle.tape.specs.declared.event.Event.{Event}
use Rattle.tape.specs.rules.Form.{within, inside, sides, prices, collar_result, collar_formed, order_tests, order_formed, shape_of, shape_tests, event_formed}
use Rattle.tape.proofs.FormLaws.{each, within-ge, within-le, CollarForm, without, with, OrderBounds, order-bounds, row-bounds}
use Rattle.base.specs.Price.{mirrored}
use Rattle.base.proofs.Numbers.{mirror-twice}
use Rattle.mirror.specs.promises.Records.{RecordsMirror}
use Rattle.mirror.proofs.MarkLaws.{marks-mirror, marks-twice, marks-below}
use Rattle.mirror.specs.rules.Mirror.{mirrored_marks, mirrored_side, mirrored_unless, mirrored_order, mirrored_priced, mirrored_market, mirrored_quotes, mirrored_amend, mirrored_event, buy_order}
use Rattle.base.proofs.Bools.{by}
use Rattle.mirror.proofs.EventLaws.{mirror-one, mirror-three, mirror-four, mirror-five, mirror-six, mirror-rest, mirror-by, mirror-participant}

pub side-twice : (s : ℕ) → mirrored_side (mirrored_side s) ≡ s
unfolding mirrored_side
side-twice s = go (eqb s 1) (eqb s 2) refl refl
  where
    go : (a b : Bool) → eqb s 1 ≡ a → eqb s 2 ≡ b → cond (eqb (cond a 2 (cond b 1 s)) 1) 2 (cond (eqb (cond a 2 (cond b 1 s)) 2) 1 (cond a 2 (cond b 1 s))) ≡ s
    go true b p q = sym (eqb-true s 1 p)
    go false true p q = sym (eqb-true s 2 q)
    go false false p q = simp (p, q)

-- ---- orders

unless-twice : (t : Bool) (p : ℕ) → p ≤ 1000000 → mirrored_unless t (mirrored_unless t p) ≡ p
unless-twice true p h = refl
unless-twice false p h = mirror-twice p h

-- the mirror of a price is not 0
pub none_stays : (p : ℕ) → p ≤ 999999 → eqb (mirrored_unless (eqb p 0) p) 0 ≡ eqb p 0
unfolding mirrored
none_stays p h = go (eqb p 0) refl
  where
    go : (t : Bool) → eqb p 0 ≡ t → eqb (mirrored_unless t p) 0 ≡ t
    go true z = z
    go false z = ne_eqb (1000000 - p) 0 (λ q. omega (arith, q))

pub order-twice : (o : Order) → order_formed o ≡ true → mirrored_order (mirrored_order o) ≡ o
unfolding mirrored_order
order-twice o f =
    let b : OrderBounds o = order-bounds o f in
    let p : (x : ℕ) → x ≤ 1000000 → mirrored (mirrored x) ≡ x = mirror-twice in
    simp (side-twice o.side, marks-twice o.marks, p o.limit (omega arith), p o.nbb (omega arith), p o.nbo (omega arith), p o.bb (omega arith), p o.bo (omega arith), unless-twice (eqb o.mode 2) o.stop (omega arith), none_stays o.displayed b.displayed, unless-twice (eqb o.displayed 0) o.displayed (omega arith))

formed-if : (o : Order) → 1 ≤ o.side → o.side ≤ 2 → 1 ≤ o.mode → o.mode ≤ 3 → o.marks ≤ 15 → o.size ≤ 100000 → 1 ≤ o.limit → o.limit ≤ 999999
    → ((eqb o.mode 2 && eqb o.stop 0) || (not (eqb o.mode 2) && within o.stop 1 999999)) ≡ true → 1 ≤ o.nbb → o.nbb ≤ 999999 → 1 ≤ o.nbo → o.nbo ≤ 999999
    → o.bb ≤ 999999 → 1 ≤ o.bo → o.bo ≤ 1000000 → o.time ≤ 86400000 → o.opens < o.closes → o.closes ≤ 86400000 → 100 ≤ o.interval → o.interval ≤ 1000
    → collar_formed o.side o.displayed o.collar ≡ true → order_formed o ≡ true
unfolding order_formed order_tests
formed-if o h1 h2 h3 h4 h5 h6 h7 h8 h9 h10 h11 h12 h13 h14 h15 h16 h17 h18 h19 h20 h21 h22 =
    simp (le-leb _ _ h1, le-leb _ _ h2, le-leb _ _ h3, le-leb _ _ h4, le-leb _ _ h5, le-leb _ _ h6, le-leb _ _ h7, le-leb _ _ h8, h9, le-leb _ _ h10, le-leb _ _ h11, le-leb _ _ h12, le-leb _ _ h13, le-leb _ _ h14, le-leb _ _ h15, le-leb _ _ h16, le-leb _ _ h17, lt-ltb _ _ h18, le-leb _ _ h19, le-leb _ _ h20, le-leb _ _ h21, h22)

side-some : (s : ℕ) → 1 ≤ s → s ≤ 2 → (1 ≤ mirrored_side s) × (mirrored_side s ≤ 2)
unfolding mirrored_side
side-some s a b =
    let P : ℕ → Type 0 = λ k. (1 ≤ k) × (k ≤ 2) in
    by P (eqb s 1) _ _ (λ _. (omega arith, omega arith)) (λ _. by P (eqb s 2) _ _ (λ _. (omega arith, omega arith)) (λ _. (a, b)))

stop-formed : (t : Bool) (s : ℕ) → s ≤ 999999 → (t ≡ true → s ≡ 0) → (t ≡ false → 1 ≤ s) → ((t && eqb (cond t s (mirrored s)) 0) || (not t && within (cond t s (mirrored s)) 1 999999)) ≡ true
unfolding mirrored
stop-formed true s h z n = simp (eq-eqb _ _ (z refl))
stop-formed false s h z n = let k : 1 ≤ s = n refl in simp (le-leb 1 (1000000 - s) (omega arith), le-leb (1000000 - s) 999999 (omega arith))

order-side : (o : Order) → (mirrored_order o).side ≡ mirrored_side o.side
unfolding mirrored_order
order-side o = refl

other-one : (s : ℕ) → s ≡ 2 → mirrored_side s ≡ 1
unfolding mirrored_side
other-one s z = ap mirrored_side z

other-two : (s : ℕ) → s ≡ 1 → mirrored_side s ≡ 2
unfolding mirrored_side
other-two s z = ap mirrored_side z

one_of_two : (s : ℕ) → 1 ≤ s → s ≤ 2 → (s ≡ 2 → ⊥) → s ≡ 1
one_of_two s a b n = omega (arith, n)

-- a mirrored price is a price
price-in : (p : ℕ) → within p 1 999999 ≡ true → within (mirrored p) 1 999999 ≡ true
unfolding mirrored
price-in p h = simp (le-leb 1 (1000000 - p) (omega (arith, within-le p 1 999999 h)), le-leb (1000000 - p) 999999 (omega (arith, within-ge p 1 999999 h)))

-- what a collared order counts at is mirrored with its displayed price, the collar being a difference
collared-mirrored : (s d c : ℕ) → 1 ≤ s → s ≤ 2 → d ≤ 1000000 → (s ≡ 1 → c ≤ d) → collar_result (mirrored_side s) (mirrored d) c ≡ mirrored (collar_result s d c)
unfolding mirrored
collared-mirrored s d c a b h k = go (eqb s 2) refl
  where
    go : (t : Bool) → eqb s 2 ≡ t → cond (eqb (mirrored_side s) 2) (1000000 - d + c) (1000000 - d - c) ≡ 1000000 - cond t (d + c) (d - c)
    go true z = let e : mirrored_side s ≡ 1 = other-one s (eqb-true _ _ z) in simp e (omega arith)
    go false z =
        let n : s ≡ 1 = one_of_two s a b (eqb-false _ _ z) in
        let e : mirrored_side s ≡ 2 = other-two s n in
        let m : c ≤ d = k n in
        simp e (omega arith)

-- a collar that is not above the displayed price of a buy
collar-below : (s d c : ℕ) → within (collar_result s d c) 1 999999 ≡ true → s ≡ 1 → c ≤ d
collar-below s d c h z = let k : within (d - c) 1 999999 ≡ true = rw z at h in omega (arith, within-ge (d - c) 1 999999 k)

collar-formed : (s d c : ℕ) → 1 ≤ s → s ≤ 2 → CollarForm s d c → collar_formed (mirrored_side s) (mirrored_unless (eqb d 0) d) c ≡ true
collar-formed s d c a b (without z k) = simp (eq-eqb d 0 z, eq-eqb c 0 k)
collar-formed s d c a b (with hd hc hp) =
    let m : within (collar_result (mirrored_side s) (mirrored d) c) 1 999999 ≡ true =
    ap (λ (p : ℕ). within p 1 999999) (collared-mirrored s d c a b (omega (arith, within-le d 1 999999 hd)) (collar-below s d c hp)) ∙ price-in (collar_result s d c) hp in
    simp (ne_eqb d 0 (λ q. omega (arith, q, within-ge d 1 999999 hd)), price-in d hd, hc, m, or-true (eqb (mirrored d) 0 && eqb c 0))

pub order-form : (o : Order) → order_formed o ≡ true → order_formed (mirrored_order o) ≡ true
unfolding mirrored_order mirrored
order-form o f =
    let b : OrderBounds o = order-bounds o f in
    let s = side-some o.side b.some-side b.side in
    formed-if (mirrored_order o) s.0 s.1 b.some-mode b.mode ((marks-below o.marks).1 b.marks) b.size (omega arith) (omega arith)
    (stop-formed (eqb o.mode 2) o.stop b.stop b.no_stop b.some-stop)
    (omega arith) (omega arith) (omega arith) (omega arith) (omega arith) (omega arith) (omega arith) b.time b.opens b.closes b.some-interval b.interval
    (collar-formed o.side o.displayed o.collar b.some-side b.side b.collar-form)

order-collared : (o : Order) → order_formed o ≡ true → (o.displayed ≡ 0 → ⊥)
    → collar_result (mirrored_order o).side (mirrored_order o).displayed (mirrored_order o).collar ≡ mirrored (collar_result o.side o.displayed o.collar)
unfolding mirrored_order
order-collared o f n = go (order-bounds o f).collar-form
  where
    go : CollarForm o.side o.displayed o.collar → collar_result (mirrored_side o.side) (mirrored_unless (eqb o.displayed 0) o.displayed) o.collar ≡ mirrored (collar_result o.side o.displayed o.collar)
    go (without z k) = absurd (n z)
    go (with hd hc hp) =
        let b = order-bounds o f in
        simp (ne_eqb o.displayed 0 n) (collared-mirrored o.side o.displayed o.collar b.some-side b.side (omega (arith, b.displayed)) (collar-below o.side o.displayed o.collar hp))

-- the buy of the mirrored order is the buy of the order
pub buy-mirrored : (o : Order) → order_formed o ≡ true → buy_order (mirrored_order o) ≡ buy_order o
unfolding buy_order
buy-mirrored o f = go (eqb o.side 2) refl
  where
    side : (mirrored_order o).side ≡ mirrored_side o.side
    side = order-side o

    go : (t : Bool) → eqb o.side 2 ≡ t → cond (eqb (mirrored_order o).side 2) (mirrored_order (mirrored_order o)) (mirrored_order o) ≡ cond t (mirrored_order o) o
    go true z = let k : (mirrored_order o).side ≡ 1 = side ∙ other-one o.side (eqb-true _ _ z) in simp (ne_eqb (mirrored_order o).side 2 (λ q. omega (arith, k)))
    go false z = let k : (mirrored_order o).side ≡ 2 = side ∙ other-two o.side (one_of_two o.side (order-bounds o f).some-side (order-bounds o f).side (eqb-false _ _ z)) in simp (eq-eqb (mirrored_order o).side 2 k) (order-twice o f)

-- and the side is the other one
pub other-side : (o : Order) → order_formed o ≡ true → eqb (mirrored_order o).side 2 ≡ cond (eqb o.side 2) false true
other-side o f = ap (λ (s : ℕ). eqb s 2) (order-side o) ∙ go (eqb o.side 2) refl
  where
    go : (t : Bool) → eqb o.side 2 ≡ t → eqb (mirrored_side o.side) 2 ≡ cond t false true
    go true z = ap (λ (s : ℕ). eqb s 2) (other-one o.side (eqb-true _ _ z))
    go false z = ap (λ (s : ℕ). eqb s 2) (other-two o.side (one_of_two o.side (order-bounds o f).some-side (order-bounds o f).side (eqb-false _ _ z)))

-- ---- events

-- what a form says of an event's numbers
pub record EventBounds (e : Event) : Type 0 where
  pub price : e.f16 ≤ 999999
  pub bb : e.f20 ≤ 999999
  pub bo : e.f24 ≤ 1000000
  pub nbb : e.kind ≡ 5 → e.f12 ≤ 999999

pub event-bounds : (e : Event) → event_formed e ≡ true → EventBounds e
unfolding event_formed shape_tests shape_of
event-bounds e h =
    let t : (i : ℕ) → get_or (shape_tests (shape_of e.kind) e) i true ≡ true = each (shape_tests (shape_of e.kind) e) true h in
    let b = row-bounds e.kind in
    record {
      price = omega (arith, within-le e.f16 _ _ (t 5), b.f16);
      bb = omega (arith, within-le e.f20 _ _ (t 6), b.f20);
      bo = omega (arith, within-le e.f24 _ _ (t 7), b.f24);
      nbb = λ k. let z : (shape_of e.kind).f12.high ≡ 999999 = ap (λ (n : ℕ). (shape_of n).f12.high) k in omega (arith, within-le e.f12 _ _ (t 4), z);
    }

module _ (e : Event) (f : event_formed e ≡ true) where
  priced-twice : mirrored_priced (mirrored_priced e) ≡ e
  unfolding mirrored_priced
  priced-twice = let b = event-bounds e f in simp (side-twice e.side, mirror-twice e.f16 (omega (arith, b.price)))

  market-twice : mirrored_market (mirrored_market e) ≡ e
  unfolding mirrored_market
  market-twice = simp (side-twice e.side)

  quotes-twice : e.kind ≡ 5 → mirrored_quotes (mirrored_quotes e) ≡ e
  unfolding mirrored_quotes
  quotes-twice k =
      let b = event-bounds e f in
      simp (marks-twice e.marks, mirror-twice e.f12 (omega (arith, b.nbb k)), mirror-twice e.f16 (omega (arith, b.price)), mirror-twice e.f20 (omega (arith, b.bb)), mirror-twice e.f24 (omega (arith, b.bo)))

  amend-twice : mirrored_amend (mirrored_amend e) ≡ e
  unfolding mirrored_amend
  amend-twice = simp (mirror-twice e.f20 (omega (arith, (event-bounds e f).bb)))

  pub event-twice : mirrored_event (mirrored_event e) ≡ e
  unfolding mirrored_priced mirrored_market mirrored_quotes mirrored_amend
  event-twice =
      mirror-by (λ x. mirrored_event x ≡ e) e
      (λ k. mirror-one (mirrored_priced e) k ∙ priced-twice)
      (λ k. mirror-three (mirrored_priced e) k ∙ priced-twice)
      (λ k. mirror-four (mirrored_market e) k ∙ market-twice)
      (λ k. mirror-five (mirrored_quotes e) k ∙ quotes-twice k)
      (λ k. mirror-six (mirrored_amend e) k ∙ amend-twice)
      (λ a b c d g. mirror-rest e a b c d g)

-- an event is in form where each test of its kind's row passes
formed-by : (e : Event) → leb e.time 86400000 ≡ true → inside e.marks (shape_of e.kind).marks ≡ true
    → ((shape_of e.kind).low || (not (bit_at e.marks 0) && not (bit_at e.marks 1))) ≡ true → inside e.side (shape_of e.kind).side ≡ true
    → inside e.f12 (shape_of e.kind).f12 ≡ true → inside e.f16 (shape_of e.kind).f16 ≡ true → inside e.f20 (shape_of e.kind).f20 ≡ true → inside e.f24 (shape_of e.kind).f24 ≡ true
    → event_formed e ≡ true
unfolding event_formed shape_tests
formed-by e h0 h1 h2 h3 h4 h5 h6 h7 = simp (h0, h1, h2, h3, h4, h5, h6, h7)

-- a mirrored offer is a bid, a mirrored bid an offer
side-in : (s : ℕ) → within s 1 2 ≡ true → within (mirrored_side s) 1 2 ≡ true
side-in s h = let k = side-some s (within-ge s 1 2 h) (within-le s 1 2 h) in simp (le-leb _ _ k.0, le-leb _ _ k.1)

bid-in : (p : ℕ) → within p 1 1000000 ≡ true → within (mirrored p) 0 999999 ≡ true
unfolding mirrored
bid-in p h = simp (le-leb 0 (1000000 - p) (omega arith), le-leb (1000000 - p) 999999 (omega (arith, within-ge p 1 1000000 h)))

offer-in : (p : ℕ) → within p 0 999999 ≡ true → within (mirrored p) 1 1000000 ≡ true
unfolding mirrored
offer-in p h = simp (le-leb 1 (1000000 - p) (omega (arith, within-le p 0 999999 h)), le-leb (1000000 - p) 1000000 (omega arith))

marks-in : (m : ℕ) → within m 0 15 ≡ true → within (mirrored_marks m) 0 15 ≡ true
marks-in m h = simp (le-leb 0 (mirrored_marks m) (omega arith), le-leb (mirrored_marks m) 15 ((marks-below m).1 (within-le m 0 15 h)))

-- bits 0 and 1 stay
low_same : (m : ℕ) → (not (bit_at (mirrored_marks m) 0) && not (bit_at (mirrored_marks m) 1)) ≡ (not (bit_at m 0) && not (bit_at m 1))
low_same m =
    let k = marks-mirror m in
    ap (λ (b : Bool). not b && not (bit_at (mirrored_marks m) 1)) (k.other 0 (λ e. omega arith) (λ e. omega arith))
    ∙ ap (λ (b : Bool). not (bit_at m 0) && not b) (k.other 1 (λ e. omega arith) (λ e. omega arith))

module _ (e : Event) (f : event_formed e ≡ true) where
  test : (i : ℕ) → get_or (shape_tests (shape_of e.kind) e) i true ≡ true
  unfolding event_formed
  test = each (shape_tests (shape_of e.kind) e) true f

  -- a row whose side is a side and whose field 16 is a price
  priced-form : (shape_of e.kind).side ≡ sides → (shape_of e.kind).f16 ≡ prices → event_formed (mirrored_priced e) ≡ true
  unfolding mirrored_priced shape_tests
  priced-form s p = formed-by (mirrored_priced e) (test 0) (test 1) (test 2) (rw s (side-in e.side (rw s at (test 3)))) (test 4) (rw p (price-in e.f16 (rw p at (test 5)))) (test 6) (test 7)

  market-form : (shape_of e.kind).side ≡ sides → event_formed (mirrored_market e) ≡ true
  unfolding mirrored_market shape_tests
  market-form s = formed-by (mirrored_market e) (test 0) (test 1) (test 2) (rw s (side-in e.side (rw s at (test 3)))) (test 4) (test 5) (test 6) (test 7)

  quotes-form : e.kind ≡ 5 → event_formed (mirrored_quotes e) ≡ true
  unfolding mirrored_quotes shape_tests shape_of
  quotes-form k =
      let t1 : within e.marks 0 15 ≡ true = rw k at (test 1) in
      let t2 : (not (bit_at e.marks 0) && not (bit_at e.marks 1)) ≡ true = rw k at (test 2) in
      let t3 : within e.side 0 0 ≡ true = rw k at (test 3) in
      let t4 : within e.f12 1 999999 ≡ true = rw k at (test 4) in
      let t5 : within e.f16 1 999999 ≡ true = rw k at (test 5) in
      let t6 : within e.f20 0 999999 ≡ true = rw k at (test 6) in
      let t7 : within e.f24 1 1000000 ≡ true = rw k at (test 7) in
      formed-by (mirrored_quotes e) (test 0) (rw k (marks-in e.marks t1)) (rw k (low_same e.marks ∙ t2)) (rw k t3)
      (rw k (price-in e.f16 t5)) (rw k (price-in e.f12 t4)) (rw k (bid-in e.f24 t7)) (rw k (offer-in e.f20 t6))

  -- a row whose field 20 is a price
  amend-form : (shape_of e.kind).f20 ≡ prices → event_formed (mirrored_amend e) ≡ true
  unfolding mirrored_amend shape_tests
  amend-form p = formed-by (mirrored_amend e) (test 0) (test 1) (test 2) (test 3) (test 4) (test 5) (rw p (price-in e.f20 (rw p at (test 6)))) (test 7)

  pub event-form : event_formed (mirrored_event e) ≡ true
  unfolding shape_of
  event-form =
      mirror-by (λ x. event_formed x ≡ true) e
      (λ k. priced-form (ap (λ (n : ℕ). (shape_of n).side) k) (ap (λ (n : ℕ). (shape_of n).f16) k))
      (λ k. priced-form (ap (λ (n : ℕ). (shape_of n).side) k) (ap (λ (n : ℕ). (shape_of n).f16) k))
      (λ k. market-form (ap (λ (n : ℕ). (shape_of n).side) k))
      quotes-form
      (λ k. amend-form (ap (λ (n : ℕ). (shape_of n).f20) k))
      (λ _ _ _ _ _. f)

-- ---- all that is promised

pub records-mirror : RecordsMirror
records-mirror =
    record {
      marks = marks-mirror;
      marks-twice = marks-twice;
      order-twice = order-twice;
      event-twice = event-twice;
      order-form = order-form;
      event-form = event-form;
      participant = mirror-participant;
      collared = order-collared;
      other-side = other-side;
      same-buy = buy-mirrored;
    }
