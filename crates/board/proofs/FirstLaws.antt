-- Laws of the first place in rising order of sequence. Assumes nothing.
use mathlib.Core.Path.{◌≡◌, sym, ◌∙◌}
use mathlib.Core.Bool.{true, false, true≢false}
use mathlib.Core.List.{List, [], ◌∷◌}
use mathlib.Core.Logic.{⊎_elim}
use Prim.Native.Nat.{ℕ, zero, suc, ◌+◌, ◌-◌, ◌/◌, ◌%◌, ◌^◌, ◌≤◌, ◌<◌, min}
use native.Mathlib.Nat.{not-suc-le-zero, le_of_suc-le-suc}
use native.Mathlib.Omega.{arith}
use lib.ListN.{length}
use borrow.Author.Tests.{eqb-true, eq-eqb, ne_eqb}
use Rattle.words.specs.rules.Bits.{bit_at, without_bit, count_trailing_zeros}
use Rattle.base.proofs.Bools.{bool-or, and_left, and_right, and_both, and-no-left, and-no-right}
use Rattle.base.proofs.Numbers.{le-or-lt, eq-or}
use Rattle.words.proofs.BitLaws.{bit-or, bit-zero, bit-half, bit-low, add_half, add-odd, cut-same, cut-back, without-set, without_in, set_is, some-set}
use Rattle.base.specs.Lists.{Every, Inserts}
use Rattle.base.specs.Lists.Inserts.{here, there}
use Rattle.board.specs.rules.Board.{no_response, response_at, live_in, in_sequence}
use Rattle.board.specs.inside.Places.{lowest_from, lowest, bears, first_in_sequence, Earliest}
use Rattle.board.specs.declared.Response.{Response}
use Rattle.base.proofs.ListLaws.{every-inserts}
use Rattle.board.proofs.LiveLaws.{dead-step, live-step, live-every, less-live}
use Rattle.board.proofs.FindLaws.{hit, find-is, find_first, find-unique, find_none}
use Rattle.board.proofs.SequenceLaws.{From, Leads, leads-sequence}
use Rattle.board.proofs.SequenceLaws.Leads.{first, later}

-- ---- the lowest sequence of a list
from_le : (m : ℕ) (xs : List Response) → (lowest_from m xs ≤ m) × From (lowest_from m xs) xs
unfolding lowest_from
from_le m [] = (omega arith, tt)
from_le m (x ∷ xs) = let ih = from_le (min m x.sequence) xs in (omega (arith, ih.0), (omega (arith, ih.0), ih.1))

from-most : (n m : ℕ) (xs : List Response) → n ≤ m → From n xs → n ≤ lowest_from m xs
unfolding lowest_from
from-most n m [] h e = h
from-most n m (x ∷ xs) h e = from-most n (min m x.sequence) xs (omega (arith, e.0)) e.1

lowest-le : (xs : List Response) → From (lowest xs) xs
lowest-le [] = tt
lowest-le (x ∷ xs) = from_le x.sequence xs

-- the greatest number that is no higher than any, where there is one
lowest-most : {r : Response} {xs ys : List Response} → Inserts r xs ys → (n : ℕ) → From n ys → n ≤ lowest ys
lowest-most {r} (here {xs = xs}) n e = from-most n r.sequence xs e.0 e.1
lowest-most (there {x = x} {ys = ys} i) n e = from-most n x.sequence ys e.0 e.1

-- one of them bears it
lowest-borne : {r : Response} {xs ys : List Response} → Inserts r xs ys → Every (λ (y : Response). y.sequence ≡ lowest ys → ⊥) ys → ⊥
lowest-borne {ys = ys} i e = omega (arith, lowest-most i (suc (lowest ys)) (both ys (lowest ys) e (lowest-le ys)))
  where
    both : (ys : List Response) (n : ℕ) → Every (λ (y : Response). y.sequence ≡ n → ⊥) ys → From n ys → From (suc n) ys
    both [] n e f = tt
    both (y ∷ ys) n e f = (let g = e.0 in omega (arith, f.0), both ys n e.1 f.1)

-- ---- an earliest place comes first of the live ones
leads-at : (v k : ℕ) (ps : List Response) → k < length ps → bit_at v k ≡ false
    → ((j : ℕ) → j < k → bit_at v j ≡ true → (response_at ps k).sequence < (response_at ps j).sequence)
    → ((j : ℕ) → j < length ps → bit_at v j ≡ true → (response_at ps k).sequence ≤ (response_at ps j).sequence)
    → Leads (response_at ps k) (live_in v ps) (live_in (v + 2 ^ k) ps)
leads-at v k [] l b low least = absurd (not-suc-le-zero l)
leads-at v zero (p ∷ ps) l b low least =
    let e = bit-zero v 0 b in
    let z : v % 2 ≡ 0 = omega arith in
    let f : (v + 1) % 2 ≡ 1 = omega arith in
    let g : (v + 1) / 2 ≡ v / 2 = omega arith in
    rw (dead-step v p ps z, live-step _ p ps f, g)
    (first (live-every (λ (x : Response). p.sequence ≤ x.sequence) (v / 2) ps no_response (λ j h t. least (suc j) (omega arith) (sym (bit-half v j) ∙ t))))
leads-at v (suc k) (p ∷ ps) l b low least =
    let ih =
    leads-at (v / 2) k ps (le_of_suc-le-suc l) (bit-half v k ∙ b)
    (λ j h t. low (suc j) (omega arith) (sym (bit-half v j) ∙ t))
    (λ j h t. least (suc j) (omega arith) (sym (bit-half v j) ∙ t)) in
    ⊎_elim
    (λ e. rw (dead-step v p ps e, dead-step _ p ps (add-odd v k ∙ e), add_half) ih)
    (λ e. rw (live-step v p ps e, live-step _ p ps (add-odd v k ∙ e), add_half) (later (low 0 (omega arith) (bit-low v ∙ eq-eqb (v % 2) 1 e)) ih))
    (bit-or v)

module _ (ps : List Response) (w k : ℕ) (l : k < length ps) (e : Earliest ps w k) where
  leads : Leads (response_at ps k) (live_in (without_bit w k) ps) (live_in w ps)
  leads =
      rw (without-set w k e.set)
      (rw (cut-back w k e.set) at
      (leads-at (w - 2 ^ k) k ps l (cut-same w k e.set) (λ j h t. e.lowest j h (was j t)) (λ j h t. e.least j h (was j t))))
    where
      was : (j : ℕ) → bit_at (w - 2 ^ k) j ≡ true → bit_at w j ≡ true
      was j t = without_in w k j (rw (without-set w k e.set) t)

  pub earliest-sequence : in_sequence (live_in w ps) ≡ response_at ps k ∷ in_sequence (live_in (without_bit w k) ps)
  earliest-sequence = leads-sequence leads

-- ---- the place that is found is the earliest
module _ (ps : List Response) (w : ℕ) where
  -- the lowest sequence of the live ones
  abbrev floor : ℕ
  floor = lowest (live_in w ps)

  low-le : (j : ℕ) → j < length ps → bit_at w j ≡ true → floor ≤ (response_at ps j).sequence
  low-le j l b = (every-inserts (λ (x : Response). floor ≤ x.sequence) (less-live w j ps no_response l b) (lowest-le (live_in w ps))).0

  -- a place that bears it is looked for
  low-hit : (j : ℕ) → bit_at w j ≡ true → (response_at ps j).sequence ≡ floor → hit (bears floor) w ps no_response j ≡ true
  low-hit j b e = and_both b (eq-eqb (response_at ps j).sequence floor e)

  pub first-earliest : first_in_sequence ps w < length ps → Earliest ps w (first_in_sequence ps w)
  first-earliest l = record {
    set = and_left (bit_at w k) (bears floor (response_at ps k)) hits;
    least = λ j h b. rw is (low-le j h b);
    lowest = λ j h b.
        ⊎_elim
        (λ e. absurd (true≢false (sym (low-hit j b e) ∙ find_first (bears floor) w ps no_response j h)))
        (λ n. rw is (omega (arith, low-le j (omega arith) b)))
        (eq-or (response_at ps j).sequence floor);
  }
    where
      k : ℕ
      k = first_in_sequence ps w

      hits : hit (bears floor) w ps no_response k ≡ true
      hits = find-is (bears floor) w ps no_response l

      is : (response_at ps k).sequence ≡ floor
      is = eqb-true (response_at ps k).sequence floor (and_right (bit_at w k) (bears floor (response_at ps k)) hits)

  -- and an earliest place is the one that is found
  pub earliest-first : (k : ℕ) → k < length ps → Earliest ps w k → first_in_sequence ps w ≡ k
  earliest-first k l e = find-unique (bears floor) w ps no_response k l (low-hit k e.set is) none
    where
      is : (response_at ps k).sequence ≡ floor
      is =
          let up : From (response_at ps k).sequence (live_in w ps) = live-every (λ (x : Response). (response_at ps k).sequence ≤ x.sequence) w ps no_response e.least in
          omega (arith, low-le k l e.set, lowest-most (less-live w k ps no_response l e.set) (response_at ps k).sequence up)

      none : (j : ℕ) → j < k → hit (bears floor) w ps no_response j ≡ false
      none j h =
          ⊎_elim
          (λ b. and-no-right (bit_at w j) (ne_eqb (response_at ps j).sequence floor (λ q. omega (arith, e.lowest j h b, is))))
          (λ b. and-no-left _ b)
          (bool-or (bit_at w j))

  -- there is one where the word is not 0
  pub some_first : 0 < w → w < 2 ^ length ps → first_in_sequence ps w < length ps
  some_first p h =
      let k = count_trailing_zeros (length ps) w in
      let l = some-set (length ps) w p h in
      ⊎_elim
      (λ le.
      let nobody = live-every (λ (y : Response). y.sequence ≡ floor → ⊥) w ps no_response (λ j m b q. true≢false (sym (low-hit j b q) ∙ find_first (bears floor) w ps no_response j (omega arith))) in
      absurd (lowest-borne (less-live w k ps no_response l (set_is (length ps) w l)) nobody))
      (λ lt. lt)
      (le-or-lt (length ps) (first_in_sequence ps w))

-- and none where it is
pub none_first : (ps : List Response) → first_in_sequence ps 0 ≡ length ps
none_first ps = find_none (bears (lowest (live_in 0 ps))) ps

-- it comes first of the live ones in order
pub first-takes : (ps : List Response) (w k : ℕ) → k ≡ first_in_sequence ps w → k < length ps → in_sequence (live_in w ps) ≡ response_at ps k ∷ in_sequence (live_in (without_bit w k) ps)
first-takes ps w k e l = earliest-sequence ps w k l (rw e (first-earliest ps w (rw (← e) l)))
