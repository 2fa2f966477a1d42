-- Laws of stores in a row, and of a part of a list from a place on. Assumes nothing.
use mathlib.Core.Path.{◌≡◌, refl, sym, ap, ◌∙◌}
use mathlib.Core.List.{List, [], ◌∷◌, ◌++◌, append-nil, append_assoc}
use Prim.Native.Nat.{ℕ, suc, ◌+◌, ◌-◌, ◌≤◌, ◌<◌}
use native.Mathlib.Nat.{le_of_eq, add-zero, add-suc, suc-add}
use borrow.Rule.Slice.PartMut.{put_mid}
use native.Mathlib.Numerals.{add-one}
use native.Mathlib.Omega.{arith}
use lib.ListN.{length, set, get_or, take, drop, length-drop, drop_of_length-le}
use lib.Seq.{sets, sets-eq, set_comm, take_all, take-suc, length-take-le, drop-drop}

module _ {A : Type 0} where
  -- a run of stores is the one of its first part, then that of the rest: holds with room or without
  pub sets-append : (xs : List A) (at : ℕ) (s t : List A) → sets xs at (s ++ t) ≡ sets (sets xs at s) (at + length s) t
  sets-append xs at [] t = rw (add-zero at)
  sets-append xs at (v ∷ s) t = sets-append (set xs at v) (suc at) s t ∙ rw (suc-add at (length s), add-suc at (length s))

  -- a store after a run may come first
  pub sets-set : (xs : List A) (at : ℕ) (s : List A) (k : ℕ) (d : A) → at + length s ≤ k → set (sets xs at s) k d ≡ sets (set xs k d) at s
  sets-set xs at [] k d h = refl
  sets-set xs at (v ∷ s) k d h =
      sets-set (set xs at v) (suc at) s k d (omega arith)
      ∙ ap (λ (ys : List A). sets ys (suc at) s) (set_comm xs at k v d (λ e. omega arith))

  -- one store more
  pub sets_more : (xs s : List A) (at i : ℕ) (d : A) → i < length s → set (sets xs at (take i s)) (at + i) (get_or s i d) ≡ sets xs at (take (i + 1) s)
  sets_more xs s at i d h =
      let l : length (take i s) ≡ i = length-take-le i s (omega arith) in
      sym (ap (λ (t : List A). sets xs at t) (ap (λ (k : ℕ). take k s) (add-one i) ∙ take-suc s i d h)
      ∙ sets-append xs at (take i s) (get_or s i d ∷ [])
      ∙ ap (λ (k : ℕ). set (sets xs at (take i s)) (at + k) (get_or s i d)) l)

  -- stores from the front on replace the first elements, and no other
  pub sets-front : (vs l : List A) (n : ℕ) → length vs ≡ n → n ≤ length l → sets l 0 vs ≡ vs ++ drop n l
  sets-front vs l n e h =
      let z : 0 + length vs ≡ n = omega arith in
      sets-eq vs l 0 (omega arith) ∙ ap (λ (k : ℕ). vs ++ drop k l) z

  -- a part that was lent from a place on, once it is back
  pub part-back : (a : ℕ) (xs ys : List A) → put_mid a (length xs - a) xs ys ≡ take a xs ++ ys
  part-back a xs ys = ap {B = List A} (λ r. take a xs ++ r) (ap {B = List A} (λ r. ys ++ r) (drop_of_length-le (drop a xs) (le_of_eq (length-drop a xs))) ∙ append-nil ys)

  -- what a callee that is lent `&s[at..]` sees
  pub rest-is : (s : List A) (at : ℕ) → take (length s - at) (drop at s) ≡ drop at s
  rest-is s at = take_all (length s - at) (drop at s) (omega (arith, length-drop at s))

  -- after a write of just so many elements as were lent from a place on
  pub put-over : (xs s ys : List A) (at : ℕ) → at + length s ≤ length xs → ys ≡ s → put_mid at (at + length s - at) xs ys ≡ sets xs at s
  put-over xs s ys at h e =
      let n : at + length s - at ≡ length s = omega arith in
      rw (e, n) (ap (λ (l : List A). take at xs ++ (s ++ l)) (drop-drop (length s) at xs) ∙ sym (append_assoc (take at xs) s (drop (at + length s) xs)) ∙ sym (sets-eq s xs at h))
