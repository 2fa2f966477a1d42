-- The responses of a word of places served in rising order of sequence, by runs.
use mathlib.Core.Path.{◌≡◌, refl, sym, ap, ap₂, ◌∙◌}
use mathlib.Core.Bool.{Bool, true, false, cond, ◌&&◌, ◌||◌, true≢false}
use mathlib.Core.List.{List, [], ◌∷◌}
use mathlib.Core.Logic.{◌⊎◌, inl, inr, ⊎_elim}
use Prim.Native.Nat.{ℕ, zero, suc, ◌+◌, ◌-◌, ◌*◌, ◌/◌, ◌%◌, ◌^◌, ◌≤◌, ◌<◌}
use native.Mathlib.Nat.{mul-le-mul_right}
use native.Mathlib.Omega.{arith}
use borrow.Author.Tests.{lt-ltb, le-ltb, le-leb, lt-leb, eq-eqb, ne_eqb}
use lib.Dec.{leb, ltb, eqb}
use lib.ListN.{length, get_or}
use lib.Pow.{pow_pos}
use Rattle.base.proofs.Bools.{by, bool-or, and_both, and-no-left, and-no-right, or-either}
use Rattle.base.proofs.Numbers.{le-or-lt, eq-or}
use Rattle.words.specs.rules.Bits.{bit_at, with_bit, without_bit, count_trailing_zeros, without_lowest}
use Rattle.words.proofs.BitLaws.{bit-or, bit-half, bit-low, bit_le, no-bit, past-bit, with-clear, with-same, with-other, without-set, without_not, without_in, without-lt, without-lowest, lowest_set, LowestBit}
use Rattle.board.specs.declared.Response.{Response}
use Rattle.board.specs.rules.Board.{no_response, live_in}
use Rattle.board.specs.inside.Places.{Earliest}
use Rattle.board.specs.promises.Board.{RisingFrom}
use Rattle.board.proofs.LiveLaws.{dead-step, live-step}
use Rattle.board.proofs.FirstLaws.{earliest-sequence}
use Rattle.share.specs.rules.Fills.{fill_of}
use Rattle.share.specs.inside.Fills.{WroteFills, written}
use Rattle.trade.specs.declared.Hand.{Hand}
use Rattle.trade.specs.declared.Price.{Price}
use Rattle.trade.specs.inside.Code.{rank_of, hunting_of, hand_of, met_of, next_fills, next_of, served_of}
use Rattle.trade.proofs.FoundLaws.{rank_rises}
use Rattle.trade.proofs.WriteLaws.{Pick}

-- ---- what the functions give, one law for each return

pub wrote_none : (words : List ℕ) (at next : ℕ) → next ≡ at → WroteFills words at [] next words
unfolding written
wrote_none words at next e = record { words = refl; place = omega arith }

-- what is kept by a look, and what a hand is made with
abbrev pub Kept : Bool → Bool → ℕ → ℕ → Hand → Type 0
Kept last turns k at n = (n.last ≡ last) × (n.turns ≡ turns) × (n.k ≡ k) × (n.at ≡ at)

pub hunting-kept : (last turns : Bool) (word k at : ℕ) → Kept last turns k at (hunting_of last turns word k at)
unfolding hunting_of
hunting-kept last turns word k at = (refl, refl, refl, refl)

pub hand-kept : (last turns : Bool) (word n k at : ℕ) → Kept last turns k at (hand_of last turns word n k at)
unfolding hand_of
hand-kept last turns word n k at = by (Kept last turns k at) (ltb n 4294967295) _ _ (λ _. (refl, refl, refl, refl)) (λ _. hunting-kept last turns word k at)

-- where the run is served
module _ (h : Hand) (l : Price) (spare at : ℕ) where
  pub late_is : (h.late ≡ 0 → ⊥) → (next_of h l spare at ≡ hunting_of h.last h.turns h.late h.k h.at) × (next_fills h l ≡ [])
  unfolding next_of next_fills
  late_is n = let p = ne_eqb h.late 0 n in (rw p refl, rw p refl)

  pub others-is : h.late ≡ 0 → (next_of h l spare at ≡ hand_of true l.turns l.others l.other (cond l.turns l.shared spare) at) × (next_fills h l ≡ fill_of 0 l.reported l.contra)
  unfolding next_of next_fills
  others-is e = let p = eq-eqb h.late 0 e in (rw p refl, rw p refl)

-- where one was served, none is to be looked at
pub served-looks : (h : Hand) (l : Price) (c : ℕ) (r : Response) (at : ℕ) → 0 < (served_of h l c r at).run → (served_of h l c r at).unseen ≡ 0
unfolding served_of hunting_of
served-looks h l c r at = by (λ (n : Hand). 0 < n.run → n.unseen ≡ 0) (leb h.edge r.sequence) _ _ (λ _ p. absurd (omega arith)) (λ _ p. refl)

-- ---- words that have no place in common

none_in : {X : Type 0} (j : ℕ) → bit_at 0 j ≡ true → X
none_in j t = absurd (true≢false (sym t ∙ no-bit 0 j (pow_pos j)))

abbrev pub Apart : ℕ → ℕ → Type 0
Apart a b = (j : ℕ) → bit_at a j ≡ true → bit_at b j ≡ true → ⊥

sum_low : (a b : ℕ) → (a % 2 ≡ 1 → b % 2 ≡ 1 → ⊥) → ((a + b) / 2 ≡ a / 2 + b / 2) × (eqb ((a + b) % 2) 1 ≡ (eqb (a % 2) 1 || eqb (b % 2) 1))
sum_low a b h =
    ⊎_elim
    (λ e.
    let f : (a + b) % 2 ≡ b % 2 = omega arith in
    (omega arith, ap (λ (n : ℕ). eqb n 1) f ∙ ap (λ (n : ℕ). eqb n 1 || eqb (b % 2) 1) (sym e)))
    (λ e.
    let z : b % 2 ≡ 0 = ⊎_elim (λ f. f) (λ f. absurd (h e f)) (bit-or b) in
    let f : (a + b) % 2 ≡ 1 = omega arith in
    (omega arith, ap (λ (n : ℕ). eqb n 1) f ∙ ap (λ (n : ℕ). eqb n 1 || eqb (b % 2) 1) (sym e)))
    (bit-or a)

-- the bits of a sum
sum-bit : (a b j : ℕ) → Apart a b → bit_at (a + b) j ≡ (bit_at a j || bit_at b j)
sum-bit a b zero h =
    bit-low (a + b)
    ∙ (sum_low a b (λ p q. h 0 (bit-low a ∙ eq-eqb (a % 2) 1 p) (bit-low b ∙ eq-eqb (b % 2) 1 q))).1
    ∙ ap₂ (λ (x y : Bool). x || y) (sym (bit-low a)) (sym (bit-low b))
sum-bit a b (suc j) h =
    sym (bit-half (a + b) j)
    ∙ ap (λ (n : ℕ). bit_at n j) (sum_low a b (λ p q. h 0 (bit-low a ∙ eq-eqb (a % 2) 1 p) (bit-low b ∙ eq-eqb (b % 2) 1 q))).0
    ∙ sum-bit (a / 2) (b / 2) j (λ k t u. h (suc k) (sym (bit-half a k) ∙ t) (sym (bit-half b k) ∙ u))
    ∙ ap₂ (λ (x y : Bool). x || y) (bit-half a j) (bit-half b j)

sum-in : (a b j : ℕ) → Apart a b → bit_at (a + b) j ≡ true → (bit_at a j ≡ true) ⊎ (bit_at b j ≡ true)
sum-in a b j h t = or-either (bit_at a j) (bit_at b j) (sym (sum-bit a b j h) ∙ t)

sum_left : (a b j : ℕ) → Apart a b → bit_at a j ≡ true → bit_at (a + b) j ≡ true
sum_left a b j h t = sum-bit a b j h ∙ ap (λ (x : Bool). x || bit_at b j) t

-- one place more
with_in : (w i j : ℕ) → bit_at (with_bit w i) j ≡ true → (j ≡ i) ⊎ (bit_at w j ≡ true)
with_in w i j t = ⊎_elim (λ e. inl e) (λ n. inr (sym (with-other w i j n) ∙ t)) (eq-or j i)

with-some : (w i : ℕ) → i < 64 → 0 < with_bit w i
with-some w i l = omega (arith, bit_le (with_bit w i) i (with-same w i l), pow_pos i)

-- those that are left are above the lowest
left-above : (w i k : ℕ) → LowestBit w i → bit_at (without_bit w i) k ≡ true → i < k
left-above w i k low t =
    let n = without_not w i k t in
    ⊎_elim
    (λ le. ⊎_elim (λ ge. absurd (n (omega arith))) (λ lt. absurd (true≢false (sym (without_in w i k t) ∙ low.none k lt))) (le-or-lt i k))
    (λ lt. lt)
    (le-or-lt k i)

-- none of a word is below the lowest
from_lowest : (w i k : ℕ) → LowestBit w i → bit_at w k ≡ true → i ≤ k
from_lowest w i k low t = ⊎_elim (λ le. le) (λ lt. absurd (true≢false (sym t ∙ low.none k lt))) (le-or-lt i k)

-- ---- what is known of a hand

abbrev pub rest_of : Hand → ℕ
rest_of h = h.run + h.late + h.unseen

abbrev pub seq_at : List Response → ℕ → ℕ
seq_at ps j = (get_or ps j no_response).sequence

-- while places are looked at, and straight after that
pub record Looks (ps : List Response) (h : Hand) : Type 0 where
  pub run-floor : (j : ℕ) → bit_at h.run j ≡ true → h.first ≤ seq_at ps j
  pub late-floor : (j : ℕ) → bit_at h.late j ≡ true → h.first ≤ seq_at ps j
  pub top : (j : ℕ) → bit_at h.run j ≡ true → seq_at ps j ≤ h.latest
  pub past : (j : ℕ) → bit_at h.late j ≡ true → (h.edge ≤ seq_at ps j) ⊎ (seq_at ps j < h.latest)
  pub begun : h.first < 4294967296 → (0 < h.run) × (h.first < h.edge) × ((e : ℕ) → ((j : ℕ) → bit_at h.run j ≡ true → e ≤ seq_at ps j) → e ≤ h.first)

pub record Serves (ps : List Response) (h : Hand) : Type 0 where
  pub fits : rest_of h < 2 ^ 64
  pub clear : Apart h.run h.late
  pub run-below : (j k : ℕ) → bit_at h.run j ≡ true → bit_at h.unseen k ≡ true → j < k
  pub late_below : (j k : ℕ) → bit_at h.late j ≡ true → bit_at h.unseen k ≡ true → j < k
  pub rises : (j k : ℕ) → j < k → bit_at h.run j ≡ true → bit_at h.run k ≡ true → seq_at ps j ≤ seq_at ps k
  pub near : (j : ℕ) → bit_at h.late j ≡ true → h.edge ≤ seq_at ps j + 1
  pub before : (j k : ℕ) → j < k → bit_at h.late j ≡ true → bit_at h.run k ≡ true → seq_at ps k < h.edge → seq_at ps k < seq_at ps j
  pub looks : (0 < h.unseen) ⊎ ((h.first < 4294967296) × (0 < h.run + h.late)) → Looks ps h

-- ---- how it begins

module _ (ps : List Response) (last turns : Bool) (word k at : ℕ) (fits : word < 2 ^ 64) where
  pub serves-hunting : Serves ps (hunting_of last turns word k at) × (rest_of (hunting_of last turns word k at) ≡ word)
  unfolding hunting_of
  serves-hunting = (
    record {
      fits = omega arith;
      clear = λ j t u. none_in j t;
      run-below = λ j k t u. none_in j t;
      late_below = λ j k t u. none_in j t;
      rises = λ j k l t u. none_in j t;
      near = λ j t. none_in j t;
      before = λ j k l t u v. none_in j t;
      looks = λ o. record {
        run-floor = λ j t. none_in j t;
        late-floor = λ j t. none_in j t;
        top = λ j t. none_in j t;
        past = λ j t. none_in j t;
        begun = λ l. absurd (omega arith);
      };
    },
    omega arith,
  )

-- where they rise by sequence, they rise from place to place
live-rises : (m w : ℕ) (ps : List Response) → RisingFrom m (live_in w ps)
    → ((j : ℕ) → j < length ps → bit_at w j ≡ true → m ≤ seq_at ps j)
    × ((j k : ℕ) → j < k → k < length ps → bit_at w j ≡ true → bit_at w k ≡ true → seq_at ps j ≤ seq_at ps k)
live-rises m w [] h = (λ j l t. absurd (omega arith), λ j k l n t u. absurd (omega arith))
live-rises m w (p ∷ ps) h =
    ⊎_elim
    (λ e.
    let ih = live-rises m (w / 2) ps (rw (dead-step w p ps e) at h) in
    (λ j. dead-floor e ih.0 j, λ j k. dead-step-up e ih.1 j k))
    (λ e.
    let g : (m ≤ p.sequence) × RisingFrom p.sequence (live_in (w / 2) ps) = rw (live-step w p ps e) at h in
    let ih = live-rises p.sequence (w / 2) ps g.1 in
    (λ j. live-floor g.0 ih.0 j, λ j k. live-step-up ih.0 ih.1 j k))
    (bit-or w)
  where
    low_clear : w % 2 ≡ 0 → {X : Type 0} → bit_at w 0 ≡ true → X
    low_clear e t = absurd (true≢false (sym t ∙ bit-low w ∙ ne_eqb (w % 2) 1 (omega arith)))

    dead-floor : w % 2 ≡ 0 → ((j : ℕ) → j < length ps → bit_at (w / 2) j ≡ true → m ≤ seq_at ps j) → (j : ℕ) → j < suc (length ps) → bit_at w j ≡ true → m ≤ seq_at (p ∷ ps) j
    dead-floor e f zero l t = low_clear e t
    dead-floor e f (suc j) l t = f j (omega arith) (bit-half w j ∙ t)

    dead-step-up : w % 2 ≡ 0 → ((j k : ℕ) → j < k → k < length ps → bit_at (w / 2) j ≡ true → bit_at (w / 2) k ≡ true → seq_at ps j ≤ seq_at ps k)
        → (j k : ℕ) → j < k → k < suc (length ps) → bit_at w j ≡ true → bit_at w k ≡ true → seq_at (p ∷ ps) j ≤ seq_at (p ∷ ps) k
    dead-step-up e f j zero l n t u = absurd (omega arith)
    dead-step-up e f zero (suc k) l n t u = low_clear e t
    dead-step-up e f (suc j) (suc k) l n t u = f j k (omega arith) (omega arith) (bit-half w j ∙ t) (bit-half w k ∙ u)

    live-floor : m ≤ p.sequence → ((j : ℕ) → j < length ps → bit_at (w / 2) j ≡ true → p.sequence ≤ seq_at ps j) → (j : ℕ) → j < suc (length ps) → bit_at w j ≡ true → m ≤ seq_at (p ∷ ps) j
    live-floor g f zero l t = g
    live-floor g f (suc j) l t = let x = f j (omega arith) (bit-half w j ∙ t) in omega arith

    live-step-up : ((j : ℕ) → j < length ps → bit_at (w / 2) j ≡ true → p.sequence ≤ seq_at ps j)
        → ((j k : ℕ) → j < k → k < length ps → bit_at (w / 2) j ≡ true → bit_at (w / 2) k ≡ true → seq_at ps j ≤ seq_at ps k)
        → (j k : ℕ) → j < k → k < suc (length ps) → bit_at w j ≡ true → bit_at w k ≡ true → seq_at (p ∷ ps) j ≤ seq_at (p ∷ ps) k
    live-step-up g f j zero l n t u = absurd (omega arith)
    live-step-up g f zero (suc k) l n t u = g k (omega arith) (bit-half w k ∙ u)
    live-step-up g f (suc j) (suc k) l n t u = f j k (omega arith) (omega arith) (bit-half w j ∙ t) (bit-half w k ∙ u)

bit-low-64 : (w j : ℕ) → w < 2 ^ 64 → bit_at w j ≡ true → j < 64
bit-low-64 w j h t = ⊎_elim (λ le. absurd (true≢false (sym t ∙ past-bit w j h le))) (λ lt. lt) (le-or-lt 64 j)

module _ (ps : List Response) (size : length ps ≡ 64) (last turns : Bool) (word n k at : ℕ) (fits : word < 2 ^ 64) (rank : n ≡ rank_of 0 (live_in word ps)) where
  risen : n < 4294967295 → (i j : ℕ) → i < j → bit_at word i ≡ true → bit_at word j ≡ true → seq_at ps i ≤ seq_at ps j
  risen l i j lt t u =
      (live-rises 0 word ps (rank_rises 0 (live_in word ps) (omega arith))).1 i j lt (omega (arith, bit-low-64 word j fits u)) t u

  pub serves-hand : Serves ps (hand_of last turns word n k at) × (rest_of (hand_of last turns word n k at) ≡ word)
  unfolding hand_of
  serves-hand =
      ⊎_elim
      (λ le. rw (le-ltb n 4294967295 le) (serves-hunting ps last turns word k at fits))
      (λ lt.
      rw (lt-ltb n 4294967295 lt) (
        record {
          fits = omega arith;
          clear = λ j t u. none_in j u;
          run-below = λ j k t u. none_in k u;
          late_below = λ j k t u. none_in j t;
          rises = risen lt;
          near = λ j t. none_in j t;
          before = λ j k l t u v. none_in j t;
          looks = λ o. absurd (⊎_elim (λ p. omega arith) (λ p. omega (arith, p.0)) o);
        },
        omega arith,
      ))
      (le-or-lt 4294967295 n)

-- ---- the first of the run is next, where its sequence is below the edge

module _ (ps : List Response) (h : Hand) (size : length ps ≡ 64) (s : Serves ps h) where
  run-lowest : (i : ℕ) → 0 < h.run → i ≡ count_trailing_zeros 64 h.run → LowestBit h.run i
  run-lowest i p e = lowest_set h.run i p (omega (arith, s.fits)) e

  module _ (i : ℕ) (none : h.unseen ≡ 0) (some : 0 < h.run) (at_i : i ≡ count_trailing_zeros 64 h.run) (below : seq_at ps i < h.edge) where
    rest-is : rest_of h ≡ h.run + h.late
    rest-is = omega arith

    earliest : Earliest ps (h.run + h.late) i
    earliest =
        let low = run-lowest i some at_i in
        record {
          set = sum_left h.run h.late i s.clear low.set;
          least = λ j l t.
              ⊎_elim
              (λ u.
              let ge = from_lowest h.run i j low u in
              ⊎_elim (λ e. rw e (omega arith)) (λ n. s.rises i j (omega arith) low.set u) (eq-or j i))
              (λ u. omega (arith, s.near j u))
              (sum-in h.run h.late j s.clear t);
          lowest = λ j l t.
              ⊎_elim
              (λ u. absurd (true≢false (sym u ∙ low.none j l)))
              (λ u. s.before j i l u low.set below)
              (sum-in h.run h.late j s.clear t);
        }

    pub serves-pick : Pick ps (rest_of h) i
    serves-pick =
        let low = run-lowest i some at_i in
        rw rest-is
        (record {
          low = low.place;
          less = without-lt (h.run + h.late) i earliest.set;
          cons = earliest-sequence ps (h.run + h.late) i (omega (arith, low.place)) earliest;
        })

    pub serves-served : (l : Price) (c : ℕ) (r : Response) (at : ℕ) → r ≡ get_or ps i no_response → Serves ps (served_of h l c r at) × (rest_of (served_of h l c r at) ≡ without_bit (rest_of h) i)
    unfolding served_of
    serves-served l c r at e =
        let low = run-lowest i some at_i in
        let lt : r.sequence < h.edge = omega (arith, ap (λ (x : Response). x.sequence) e) in
        let x = without-lowest h.run i at_i in
        let y : without_bit (rest_of h) i ≡ h.run + h.late - 2 ^ i = ap (λ (w : ℕ). without_bit w i) rest-is ∙ without-set (h.run + h.late) i earliest.set in
        let z = without-set h.run i low.set in
        let b = bit_le h.run i low.set in
        rw (lt-leb h.edge r.sequence lt, x) (
          record {
            fits = omega (arith, s.fits);
            clear = λ j t u. s.clear j (without_in h.run i j t) u;
            run-below = λ j k t u. none_in k u;
            late_below = λ j k t u. none_in k u;
            rises = λ j k m t u. s.rises j k m (without_in h.run i j t) (without_in h.run i k u);
            near = s.near;
            before = λ j k m t u v. s.before j k m t (without_in h.run i k u) v;
            looks = λ o. absurd (⊎_elim (λ p. omega arith) (λ p. omega (arith, p.0)) o);
          },
          omega arith,
        )

  -- all are looked over again
  pub serves-again : (l : Price) (c : ℕ) (r : Response) (at : ℕ) → h.unseen ≡ 0 → h.edge ≤ r.sequence → Serves ps (served_of h l c r at) × (rest_of (served_of h l c r at) ≡ rest_of h)
  unfolding served_of
  serves-again l c r at none le =
      let g = serves-hunting ps h.last h.turns (h.run + h.late) h.k h.at (omega (arith, s.fits)) in
      rw (le-leb h.edge r.sequence le) (g.0, omega (arith, g.1))

  -- those that come late are looked over
  pub serves-late : h.unseen ≡ 0 → h.run ≡ 0 → Serves ps (hunting_of h.last h.turns h.late h.k h.at) × (rest_of (hunting_of h.last h.turns h.late h.k h.at) ≡ rest_of h)
  serves-late none gone =
      let g = serves-hunting ps h.last h.turns h.late h.k h.at (omega (arith, s.fits)) in
      (g.0, omega (arith, g.1))

  pub serves-next : (l : Price) (spare at : ℕ) → h.unseen ≡ 0 → h.run ≡ 0 → (h.late ≡ 0 → ⊥) → Serves ps (next_of h l spare at) × (rest_of (next_of h l spare at) ≡ rest_of h)
  unfolding next_of
  serves-next l spare at none gone n = rw (ne_eqb h.late 0 n) (serves-late none gone)

-- the others come
pub serves-others : (ps : List Response) (h : Hand) (l : Price) (spare at : ℕ) → length ps ≡ 64 → h.late ≡ 0 → l.others < 2 ^ 64 → l.other ≡ rank_of 0 (live_in l.others ps)
    → Serves ps (next_of h l spare at) × (rest_of (next_of h l spare at) ≡ l.others)
unfolding next_of
serves-others ps h l spare at size none fits rank =
    rw (eq-eqb h.late 0 none) (serves-hand ps size true l.turns l.others l.other (cond l.turns l.shared spare) at fits rank)

-- ---- a place is looked at

module _ (ps : List Response) (h : Hand) (i t : ℕ) (s : Serves ps h) (some : 0 < h.unseen) (at_i : i ≡ count_trailing_zeros 64 h.unseen) (t-is : t ≡ seq_at ps i) (small : t < 4294967296) where
  low : LowestBit h.unseen i
  low = lowest_set h.unseen i some (omega (arith, s.fits)) at_i

  known : Looks ps h
  known = s.looks (inl some)

  -- it is in no other word, and all of them are below it
  run-clear : bit_at h.run i ≡ false
  run-clear = ⊎_elim (λ u. absurd (let z = s.run-below i i u low.set in omega arith)) (λ u. u) (bool-or (bit_at h.run i))

  late-clear : bit_at h.late i ≡ false
  late-clear = ⊎_elim (λ u. absurd (let z = s.late_below i i u low.set in omega arith)) (λ u. u) (bool-or (bit_at h.late i))

  left_is : without_bit h.unseen i + 2 ^ i ≡ h.unseen
  left_is = omega (arith, without-set h.unseen i low.set, bit_le h.unseen i low.set)

  above : (k : ℕ) → bit_at (without_bit h.unseen i) k ≡ true → i < k
  above k u = left-above h.unseen i k low u

  run-left : (j k : ℕ) → bit_at h.run j ≡ true → bit_at (without_bit h.unseen i) k ≡ true → j < k
  run-left j k u v = s.run-below j k u (without_in h.unseen i k v)

  late-left : (j k : ℕ) → bit_at h.late j ≡ true → bit_at (without_bit h.unseen i) k ≡ true → j < k
  late-left j k u v = s.late_below j k u (without_in h.unseen i k v)

  alone : (j : ℕ) → bit_at (with_bit 0 i) j ≡ true → j ≡ i
  alone j u = ⊎_elim (λ e. e) (λ v. none_in j v) (with_in 0 i j u)

  -- what is at i
  seq-at : (j : ℕ) → j ≡ i → seq_at ps j ≡ t
  seq-at j e = ap (seq_at ps) e ∙ sym t-is

  first_run : t < h.first → Serves ps (met_of h t i) × (rest_of (met_of h t i) ≡ rest_of h)
  unfolding met_of
  first_run lt =
      let w = with-clear 0 i low.place (no-bit 0 i (pow_pos i)) in
      let sum : with_bit 0 i + (h.run + h.late) + without_bit h.unseen i ≡ rest_of h = omega (arith, w, left_is) in
      let floor : (j : ℕ) → bit_at (h.run + h.late) j ≡ true → h.first ≤ seq_at ps j = λ j u. ⊎_elim (known.run-floor j) (known.late-floor j) (sum-in h.run h.late j s.clear u) in
      rw (lt-ltb t h.first lt, without-lowest h.unseen i at_i) (
        record {
          fits = omega (arith, sum, s.fits);
          clear = λ j u v.
              ⊎_elim
              (λ x. absurd (true≢false (sym x ∙ ap (bit_at h.run) (alone j u) ∙ run-clear)))
              (λ x. absurd (true≢false (sym x ∙ ap (bit_at h.late) (alone j u) ∙ late-clear)))
              (sum-in h.run h.late j s.clear v);
          run-below = λ j k u v. omega (arith, alone j u, above k v);
          late_below = λ j k u v. ⊎_elim (λ x. run-left j k x v) (λ x. late-left j k x v) (sum-in h.run h.late j s.clear u);
          rises = λ j k l u v. absurd (omega (arith, alone j u, alone k v));
          near = λ j u. omega (arith, floor j u);
          before = λ j k l u v x. omega (arith, floor j u, seq-at k (alone k v));
          looks = λ o. record {
            run-floor = λ j u. omega (arith, seq-at j (alone j u));
            late-floor = λ j u. omega (arith, floor j u);
            top = λ j u. omega (arith, seq-at j (alone j u));
            past = λ j u. inl (floor j u);
            begun = λ l. (with-some 0 i low.place, lt, λ e f. omega (arith, f i (with-same 0 i low.place), seq-at i refl));
          };
        },
        sum,
      )

  module _ (ge : h.first ≤ t) where
    begun : (0 < h.run) × (h.first < h.edge) × ((e : ℕ) → ((j : ℕ) → bit_at h.run j ≡ true → e ≤ seq_at ps j) → e ≤ h.first)
    begun = known.begun (omega arith)

    joins-run : h.latest ≤ t → Serves ps (met_of h t i) × (rest_of (met_of h t i) ≡ rest_of h)
    unfolding met_of
    joins-run le =
        let w = with-clear h.run i low.place run-clear in
        let sum : with_bit h.run i + h.late + without_bit h.unseen i ≡ rest_of h = omega (arith, w, left_is) in
        rw (le-ltb t h.first ge, le-leb h.latest t le, without-lowest h.unseen i at_i) (
          record {
            fits = omega (arith, sum, s.fits);
            clear = λ j u v.
                ⊎_elim
                (λ e. true≢false (sym v ∙ ap (bit_at h.late) e ∙ late-clear))
                (λ x. s.clear j x v)
                (with_in h.run i j u);
            run-below = λ j k u v. ⊎_elim (λ e. omega (arith, above k v)) (λ x. run-left j k x v) (with_in h.run i j u);
            late_below = late-left;
            rises = λ j k l u v.
                ⊎_elim
                (λ e. ⊎_elim (λ f. absurd (omega arith)) (λ y. absurd (omega (arith, s.run-below k i y low.set))) (with_in h.run i k v))
                (λ x. ⊎_elim (λ f. omega (arith, seq-at k f, known.top j x)) (λ y. s.rises j k l x y) (with_in h.run i k v))
                (with_in h.run i j u);
            near = s.near;
            before = λ j k l u v x.
                ⊎_elim
                (λ f. ⊎_elim (λ p. omega (arith, seq-at k f)) (λ p. absurd (omega (arith, seq-at k f, s.near j u))) (known.past j u))
                (λ y. s.before j k l u y x)
                (with_in h.run i k v);
            looks = λ o. record {
              run-floor = λ j u. ⊎_elim (λ e. omega (arith, seq-at j e)) (known.run-floor j) (with_in h.run i j u);
              late-floor = known.late-floor;
              top = λ j u. ⊎_elim (λ e. omega (arith, seq-at j e)) (λ x. omega (arith, known.top j x)) (with_in h.run i j u);
              past = λ j u. ⊎_elim (λ p. inl p) (λ p. inr (omega arith)) (known.past j u);
              begun = λ l. (with-some h.run i low.place, begun.1, λ e f. begun.2 e (λ j u. f j (stays j u)));
            };
          },
          sum,
        )
      where
        stays : (j : ℕ) → bit_at h.run j ≡ true → bit_at (with_bit h.run i) j ≡ true
        stays j u = with-other h.run i j (λ e. true≢false (sym u ∙ ap (bit_at h.run) e ∙ run-clear)) ∙ u

    comes-late : t < h.latest → Serves ps (met_of h t i) × (rest_of (met_of h t i) ≡ rest_of h)
    unfolding met_of
    comes-late lt =
        let w = with-clear h.late i low.place late-clear in
        let sum : h.run + with_bit h.late i + without_bit h.unseen i ≡ rest_of h = omega (arith, w, left_is) in
        rw (le-ltb t h.first ge, lt-leb h.latest t lt, without-lowest h.unseen i at_i) (
          record {
            fits = omega (arith, sum, s.fits);
            clear = λ j u v.
                ⊎_elim
                (λ e. true≢false (sym u ∙ ap (bit_at h.run) e ∙ run-clear))
                (λ x. s.clear j u x)
                (with_in h.late i j v);
            run-below = run-left;
            late_below = λ j k u v. ⊎_elim (λ e. omega (arith, above k v)) (λ x. late-left j k x v) (with_in h.late i j u);
            rises = s.rises;
            near = λ j u. ⊎_elim (λ e. omega (arith, seq-at j e)) (λ x. omega (arith, s.near j x)) (with_in h.late i j u);
            before = λ j k l u v x.
                ⊎_elim
                (λ e. absurd (omega (arith, s.run-below k i v low.set)))
                (λ y. s.before j k l y v (omega arith))
                (with_in h.late i j u);
            looks = λ o. record {
              run-floor = known.run-floor;
              late-floor = λ j u. ⊎_elim (λ e. omega (arith, seq-at j e)) (known.late-floor j) (with_in h.late i j u);
              top = known.top;
              past = λ j u. ⊎_elim (λ e. inr (omega (arith, seq-at j e))) (λ x. ⊎_elim (λ p. inl (omega arith)) (λ p. inr p) (known.past j x)) (with_in h.late i j u);
              begun = λ l. (begun.0, omega (arith, begun.1), begun.2);
            };
          },
          sum,
        )

  pub serves-met : Serves ps (met_of h t i) × (rest_of (met_of h t i) ≡ rest_of h)
  serves-met =
      ⊎_elim
      (λ ge. ⊎_elim (joins-run ge) (comes-late ge) (le-or-lt h.latest t))
      first_run
      (le-or-lt h.first t)

-- ---- what is left to do: each turn lessens it

-- B is above every word: a look takes fewer than B turns, and after a look one at least is served
unfoldable pub weighs : ℕ → Bool → ℕ → Bool → ℕ → ℕ
weighs B last rest idle unseen = cond last 0 (B * (2 * B)) + rest * (2 * B) + cond idle B 0 + unseen

-- no look is under way, and none was made since one was served
unfoldable pub idle_of : Hand → Bool
idle_of h = leb 4294967296 h.first && eqb h.unseen 0

unfoldable pub serve_work : Hand → ℕ
serve_work h = weighs 18446744073709551616 h.last (rest_of h) (idle_of h) h.unseen

weighs-look : (B : ℕ) (last : Bool) (rest u v : ℕ) → v < u → weighs B last rest false v < weighs B last rest false u
unfolding weighs
weighs-look B last rest u v l = omega arith

weighs-again : (B : ℕ) (last : Bool) (rest word : ℕ) → word < B → weighs B last rest false word < weighs B last rest true 0
unfolding weighs
weighs-again B last rest word l = omega arith

weighs-serve : (B : ℕ) (last : Bool) (rest left : ℕ) (idle : Bool) → 0 < B → left < rest → weighs B last left true 0 < weighs B last rest idle 0
unfolding weighs
weighs-serve B last rest left idle p l =
    let m : suc left * (2 * B) ≤ rest * (2 * B) = mul-le-mul_right (2 * B) l in
    omega arith

weighs-others : (B rest unseen : ℕ) (idle was : Bool) → rest < B → unseen < B → weighs B true rest idle unseen < weighs B false 0 was 0
unfolding weighs
weighs-others B rest unseen idle was l u =
    let m : suc rest * (2 * B) ≤ B * (2 * B) = mul-le-mul_right (2 * B) l in
    omega (arith, most idle)
  where
    most : (b : Bool) → cond b B 0 ≤ B
    most true = omega arith
    most false = omega arith

weighs-same : (B : ℕ) {last last' : Bool} {rest rest' : ℕ} {idle idle' : Bool} {u u' : ℕ} → last ≡ last' → rest ≡ rest' → idle ≡ idle' → u ≡ u' → weighs B last rest idle u ≡ weighs B last' rest' idle' u'
weighs-same B p q r v = rw (p, q, r, v)

-- n has less to do than h, by what is known of the two
work-less : (n h : Hand) (last last' : Bool) (rest rest' : ℕ) (idle idle' : Bool) (u u' : ℕ)
    → n.last ≡ last → rest_of n ≡ rest → idle_of n ≡ idle → n.unseen ≡ u
    → h.last ≡ last' → rest_of h ≡ rest' → idle_of h ≡ idle' → h.unseen ≡ u'
    → weighs 18446744073709551616 last rest idle u < weighs 18446744073709551616 last' rest' idle' u'
    → serve_work n < serve_work h
unfolding serve_work
work-less n h last last' rest rest' idle idle' u u' ln rn in' un lh rh ih uh lt =
    omega (arith, weighs-same 18446744073709551616 ln rn in' un, weighs-same 18446744073709551616 lh rh ih uh)

-- looking, or just after a look; and idle
not-idle-look : (h : Hand) → 0 < h.unseen → idle_of h ≡ false
unfolding idle_of
not-idle-look h l = and-no-right (leb 4294967296 h.first) (ne_eqb h.unseen 0 (omega arith))

not-idle-first : (h : Hand) → h.first < 4294967296 → idle_of h ≡ false
unfolding idle_of
not-idle-first h l = and-no-left (eqb h.unseen 0) (lt-leb 4294967296 h.first l)

is-idle : (h : Hand) → 4294967296 ≤ h.first → h.unseen ≡ 0 → idle_of h ≡ true
unfolding idle_of
is-idle h l e = and_both (le-leb 4294967296 h.first l) (eq-eqb h.unseen 0 e)

-- ---- a place is looked at

met-fields : (h : Hand) (t i : ℕ) → t < 4294967296
    → ((met_of h t i).last ≡ h.last) × ((met_of h t i).unseen ≡ without_lowest h.unseen) × ((met_of h t i).first < 4294967296)
unfolding met_of
met-fields h t i small =
    ⊎_elim
    (λ ge.
    ⊎_elim
    (λ le. rw (le-ltb t h.first ge, le-leb h.latest t le) (refl, refl, omega arith))
    (λ lt. rw (le-ltb t h.first ge, lt-leb h.latest t lt) (refl, refl, omega arith))
    (le-or-lt h.latest t))
    (λ lt. rw (lt-ltb t h.first lt) (refl, refl, small))
    (le-or-lt h.first t)

pub work-met : (ps : List Response) (h : Hand) (i t : ℕ) → Serves ps h → 0 < h.unseen → i ≡ count_trailing_zeros 64 h.unseen → t ≡ seq_at ps i → t < 4294967296 → serve_work (met_of h t i) < serve_work h
work-met ps h i t s some at_i t-is small =
    let f = met-fields h t i small in
    let low = lowest_set h.unseen i some (omega (arith, s.fits)) at_i in
    let less : without_lowest h.unseen < h.unseen = rw (without-lowest h.unseen i at_i) (without-lt h.unseen i low.set) in
    work-less (met_of h t i) h h.last h.last (rest_of h) (rest_of h) false false (without_lowest h.unseen) h.unseen
    f.0 (serves-met ps h i t s some at_i t-is small).1 (not-idle-first (met_of h t i) f.2) f.1
    refl refl (not-idle-look h some) refl
    (weighs-look 18446744073709551616 h.last (rest_of h) h.unseen (without_lowest h.unseen) less)

-- ---- where no place is to be looked at

hunting-work : (n h : Hand) (turns : Bool) (word k at : ℕ) → n ≡ hunting_of h.last turns word k at → 0 < word → word < 2 ^ 64 → rest_of h ≡ word → idle_of h ≡ true → h.unseen ≡ 0 → serve_work n < serve_work h
unfolding hunting_of
hunting-work n h turns word k at e p fits is idle none =
    rw e
    (work-less (hunting_of h.last turns word k at) h h.last h.last word word false true word 0
    refl (omega arith) (not-idle-look (hunting_of h.last turns word k at) p) refl
    refl is idle none
    (weighs-again 18446744073709551616 h.last word word fits))

hand-fields : (last turns : Bool) (word n k at : ℕ)
    → ((hand_of last turns word n k at).last ≡ last) × (rest_of (hand_of last turns word n k at) ≡ word) × ((hand_of last turns word n k at).unseen ≤ word)
unfolding hand_of hunting_of
hand-fields last turns word n k at =
    ⊎_elim
    (λ le. rw (le-ltb n 4294967295 le) (refl, omega arith, omega arith))
    (λ lt. rw (lt-ltb n 4294967295 lt) (refl, omega arith, omega arith))
    (le-or-lt 4294967295 n)

module _ (ps : List Response) (h : Hand) (size : length ps ≡ 64) (s : Serves ps h) (none : h.unseen ≡ 0) where
  -- what was found at the last look is served at once
  served-at-once : (i : ℕ) → 0 < h.run → i ≡ count_trailing_zeros 64 h.run → h.edge ≤ seq_at ps i → 4294967296 ≤ h.first
  served-at-once i some at_i le =
      let low = run-lowest ps h size s i some at_i in
      ⊎_elim
      (λ ge. ge)
      (λ lt.
      let b = (s.looks (inr (lt, omega arith))).begun lt in
      let all : (j : ℕ) → bit_at h.run j ≡ true → seq_at ps i ≤ seq_at ps j =
      λ j u.
      let ge = from_lowest h.run i j low u in
      ⊎_elim (λ e. rw e (omega arith)) (λ n. s.rises i j (omega arith) low.set u) (eq-or j i) in
      absurd (omega (arith, b.1, b.2 (seq_at ps i) all)))
      (le-or-lt 4294967296 h.first)

  served-fields : (l : Price) (c : ℕ) (r : Response) (at : ℕ) → r.sequence < h.edge
      → ((served_of h l c r at).last ≡ h.last) × ((served_of h l c r at).unseen ≡ 0) × (4294967296 ≤ (served_of h l c r at).first)
  unfolding served_of
  served-fields l c r at lt = rw (lt-leb h.edge r.sequence lt) (refl, refl, omega arith)

  again-is : (l : Price) (c : ℕ) (r : Response) (at : ℕ) → h.edge ≤ r.sequence → served_of h l c r at ≡ hunting_of h.last h.turns (h.run + h.late) h.k h.at
  unfolding served_of
  again-is l c r at le = rw (le-leb h.edge r.sequence le)

  pub work-served : (i : ℕ) (l : Price) (c : ℕ) (r : Response) (at : ℕ) → 0 < h.run → i ≡ count_trailing_zeros 64 h.run → r ≡ get_or ps i no_response → serve_work (served_of h l c r at) < serve_work h
  work-served i l c r at some at_i e =
      let q : r.sequence ≡ seq_at ps i = ap (λ (x : Response). x.sequence) e in
      ⊎_elim
      (λ le.
      hunting-work (served_of h l c r at) h h.turns (h.run + h.late) h.k h.at (again-is l c r at le) (omega arith) (omega (arith, s.fits)) (omega arith)
      (is-idle h (served-at-once i some at_i (omega arith)) none) none)
      (λ lt.
      let below : seq_at ps i < h.edge = omega arith in
      let f = served-fields l c r at lt in
      work-less (served_of h l c r at) h h.last h.last (without_bit (rest_of h) i) (rest_of h) true (idle_of h) 0 0
      f.0 (serves-served ps h size s i none some at_i below l c r at e).1 (is-idle (served_of h l c r at) f.2 f.1) f.1
      refl refl refl none
      (weighs-serve 18446744073709551616 h.last (rest_of h) (without_bit (rest_of h) i) (idle_of h) (omega arith) (serves-pick ps h size s i none some at_i below).less))
      (le-or-lt h.edge r.sequence)

  -- those that come late, or the others after the Customers
  pub work-next : (l : Price) (spare at : ℕ) → h.run ≡ 0 → (h.late ≡ 0 → h.last ≡ false) → l.others < 2 ^ 64 → serve_work (next_of h l spare at) < serve_work h
  work-next l spare at gone first fits =
      ⊎_elim
      (λ e. rw (others-is h l spare at e).0 (others-work e))
      (λ n.
      hunting-work (next_of h l spare at) h h.turns h.late h.k h.at (late_is h l spare at n).0 (omega arith) (omega (arith, s.fits)) (omega arith)
      (is-idle h (first-high n) none) none)
      (eq-or h.late 0)
    where
      first-high : (h.late ≡ 0 → ⊥) → 4294967296 ≤ h.first
      first-high n =
          ⊎_elim
          (λ ge. ge)
          (λ lt. let b = (s.looks (inr (lt, omega arith))).begun lt in absurd (omega (arith, b.0)))
          (le-or-lt 4294967296 h.first)

      others-work : h.late ≡ 0 → serve_work (hand_of true l.turns l.others l.other (cond l.turns l.shared spare) at) < serve_work h
      others-work e =
          let n = hand_of true l.turns l.others l.other (cond l.turns l.shared spare) at in
          let g = hand-fields true l.turns l.others l.other (cond l.turns l.shared spare) at in
          work-less n h true false l.others 0 (idle_of n) (idle_of h) n.unseen 0
          g.0 g.1 refl refl
          (first e) (omega arith) refl none
          (weighs-others 18446744073709551616 l.others n.unseen (idle_of n) (idle_of h) fits (omega (arith, g.2)))
