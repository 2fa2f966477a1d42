-- The marks in the mirror, bit by bit and as numbers. Assumes nothing.
use mathlib.Core.Path.{◌≡◌, refl, ap, ◌∙◌}
use mathlib.Core.Bool.{Bool, true, false, cond}
use Prim.Native.Nat.{ℕ, ◌+◌, ◌-◌, ◌/◌, ◌%◌, ◌≤◌, ◌<◌}
use native.Mathlib.Omega.{arith}
use Rattle.words.specs.rules.Bits.{bit_at, with_bit, without_bit}
use Rattle.words.proofs.BitLaws.{bit-zero, bit_le, with-clear, with-set, without-set, without-clear, with-same, with-other, without-same, without_other}
use Rattle.mirror.specs.rules.Mirror.{with_mark, mirrored_marks}
use Rattle.mirror.specs.promises.Records.{MarksMirror}

-- ---- one mark

mark-same : (m i : ℕ) (b : Bool) → i < 64 → bit_at (with_mark m i b) i ≡ b
mark-same m i true h = with-same m i h
mark-same m i false h = without-same m i

mark-other : (m i : ℕ) (b : Bool) (j : ℕ) → (j ≡ i → ⊥) → bit_at (with_mark m i b) j ≡ bit_at m j
mark-other m i true j n = with-other m i j n
mark-other m i false j n = without_other m i j n

-- ---- bits 2 and 3 change places, and every other bit stays

pub marks-mirror : (m : ℕ) → MarksMirror m
unfolding mirrored_marks
marks-mirror m =
    let one : ℕ = with_mark m 2 (bit_at m 3) in
    record {
      two = mark-other one 3 (bit_at m 2) 2 (λ e. omega arith) ∙ mark-same m 2 (bit_at m 3) (omega arith);
      three = mark-same one 3 (bit_at m 2) (omega arith);
      other = λ j n2 n3. mark-other one 3 (bit_at m 2) j n3 ∙ mark-other m 2 (bit_at m 3) j n2;
    }

-- ---- as numbers: nothing changes where the two bits are equal, else 4 and 8 change places

pub marks-are : (m : ℕ) (b c : Bool) → bit_at m 2 ≡ b → bit_at m 3 ≡ c → mirrored_marks m ≡ cond b (cond c m (m - 4 + 8)) (cond c (m + 4 - 8) m)
unfolding mirrored_marks
marks-are m b c p q = from b c p q ∙ go b c p q
  where
    from : (b c : Bool) → bit_at m 2 ≡ b → bit_at m 3 ≡ c → mirrored_marks m ≡ with_mark (with_mark m 2 c) 3 b
    from b c p q = ap (λ (x : Bool). with_mark (with_mark m 2 x) 3 (bit_at m 2)) q ∙ ap (with_mark (with_mark m 2 c) 3) p

    three : (c : Bool) → bit_at m 3 ≡ c → (x : Bool) → bit_at (with_mark m 2 x) 3 ≡ c
    three c q x = mark-other m 2 x 3 (λ e. omega arith) ∙ q

    go : (b c : Bool) → bit_at m 2 ≡ b → bit_at m 3 ≡ c → with_mark (with_mark m 2 c) 3 b ≡ cond b (cond c m (m - 4 + 8)) (cond c (m + 4 - 8) m)
    go true true p q = with-set (with_bit m 2) 3 (three true q true) ∙ with-set m 2 p
    go true false p q = with-clear (without_bit m 2) 3 (omega arith) (three false q false) ∙ ap (λ (x : ℕ). x + 8) (without-set m 2 p)
    go false true p q = without-set (with_bit m 2) 3 (three true q true) ∙ ap (λ (x : ℕ). x - 8) (with-clear m 2 (omega arith) p)
    go false false p q = without-clear (without_bit m 2) 3 (three false q false) ∙ without-clear m 2 p

pub marks-twice : (m : ℕ) → mirrored_marks (mirrored_marks m) ≡ m
marks-twice m = go (bit_at m 2) (bit_at m 3) refl refl
  where
    n : ℕ
    n = mirrored_marks m

    back : (b c : Bool) → bit_at m 2 ≡ b → bit_at m 3 ≡ c → mirrored_marks n ≡ cond c (cond b n (n - 4 + 8)) (cond b (n + 4 - 8) n)
    back b c p q = marks-are n c b ((marks-mirror m).two ∙ q) ((marks-mirror m).three ∙ p)

    go : (b c : Bool) → bit_at m 2 ≡ b → bit_at m 3 ≡ c → mirrored_marks n ≡ m
    go true true p q = back true true p q ∙ marks-are m true true p q
    go true false p q = let e : n ≡ m - 4 + 8 = marks-are m true false p q in let l : 4 ≤ m = bit_le m 2 p in back true false p q ∙ omega arith
    go false true p q = let e : n ≡ m + 4 - 8 = marks-are m false true p q in let l : 8 ≤ m = bit_le m 3 q in back false true p q ∙ omega arith
    go false false p q = back false false p q ∙ marks-are m false false p q

-- ---- they take no more room

pub marks-below : (m : ℕ) → (m < 256 → mirrored_marks m < 256) × (m ≤ 15 → mirrored_marks m ≤ 15)
marks-below m = go (bit_at m 2) (bit_at m 3) refl refl
  where
    go : (b c : Bool) → bit_at m 2 ≡ b → bit_at m 3 ≡ c → (m < 256 → mirrored_marks m < 256) × (m ≤ 15 → mirrored_marks m ≤ 15)
    go true false p q =
        let e : mirrored_marks m ≡ m - 4 + 8 = marks-are m true false p q in
        let z : m / 8 % 2 ≡ 0 = bit-zero m 3 q in
        let l : 4 ≤ m = bit_le m 2 p in
        (λ h. omega (arith, z, h), λ h. omega (arith, z, h))
    go true true p q = let e : mirrored_marks m ≡ m = marks-are m true true p q in (λ h. omega (arith, h), λ h. omega (arith, h))
    go false true p q = let e : mirrored_marks m ≡ m + 4 - 8 = marks-are m false true p q in (λ h. omega (arith, h), λ h. omega (arith, h))
    go false false p q = let e : mirrored_marks m ≡ m = marks-are m false false p q in (λ h. omega (arith, h), λ h. omega (arith, h))

-- one mark after the other, as the code sets them
pub marks-made : (m x y : ℕ) (s t : Bool) → s ≡ bit_at m 3 → x ≡ with_mark m 2 s → t ≡ bit_at m 2 → y ≡ with_mark x 3 t → y ≡ mirrored_marks m
unfolding mirrored_marks
marks-made m x y s t hs hx ht hy = hy ∙ ap (with_mark x 3) ht ∙ ap (λ (z : ℕ). with_mark z 3 (bit_at m 2)) (hx ∙ ap (with_mark m 2) hs)
