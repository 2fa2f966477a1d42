-- Laws of words in bytes: what was written is read, what was read is written back. Assumes nothing.
use mathlib.Core.Path.{◌≡◌, refl, ap, sym, ◌∙◌}
use mathlib.Core.List.{List, [], ◌∷◌, ◌++◌, append_assoc}
use mathlib.Core.Logic.{⊎_elim}
use Prim.Native.Nat.{ℕ, zero, suc, ◌+◌, ◌-◌, ◌*◌, ◌/◌, ◌%◌, ◌≤◌, ◌<◌, ◌^◌}
use native.Mathlib.Nat.{add-zero, div-add-mod', div-div-eq-div-mul}
use borrow.Author.Tests.{le-leb, lt-leb}
use native.Mathlib.Omega.{arith}
use borrow.Rule.Slice.PartMut.{put_mid}
use lib.ListN.{length, get_or, take, drop, length-append, length-take, get_or-append, get_or-eq_default}
use lib.Seq.{sets, take_all, take-suc, drop-cons, length-take-le, get_or-append-add, get_or-take, get_or-drop}
use native.Mathlib.Numerals.{add-one}
use Rattle.base.proofs.Numbers.{le-or-lt}
use Rattle.base.proofs.SetsLaws.{sets-append, sets-front, put-over}
use Rattle.words.specs.rules.Bytes.{AllBytes, joined, u32_bytes, word_bytes, word_at, with_words}
use Rattle.words.specs.inside.Row.{words_from}

-- four digits of 256 make the number, in plain variables: linear
four : (v q1 q2 q3 r0 r1 r2 : ℕ) → q1 * 256 + r0 ≡ v → q2 * 256 + r1 ≡ q1 → q3 * 256 + r2 ≡ q2 → r0 + r1 * 256 + r2 * 65536 + q3 * 16777216 ≡ v
four v q1 q2 q3 r0 r1 r2 e0 e1 e2 = omega arith

-- the number comes back from its bytes
joined_bytes : (v : ℕ) → v < 2 ^ 32 → joined (v % 256) (v / 256 % 256) (v / 65536 % 256) (v / 16777216 % 256) ≡ v
joined_bytes v h =
    let d2 : v / 256 / 256 ≡ v / 65536 = div-div-eq-div-mul v 256 256 in
    let d3 : v / 65536 / 256 ≡ v / 16777216 = div-div-eq-div-mul v 65536 256 in
    let top : v / 16777216 < 256 = omega arith in
    let last : v / 16777216 % 256 ≡ v / 16777216 = omega arith in
    rw last
    (four v (v / 256) (v / 65536) (v / 16777216) (v % 256) (v / 256 % 256) (v / 65536 % 256)
    (div-add-mod' v 256)
    (rw d2 at (div-add-mod' (v / 256) 256))
    (rw d3 at (div-add-mod' (v / 65536) 256)))

-- the bytes come back from the number
pub bytes-joined : (a b c d : ℕ) → a < 256 → b < 256 → c < 256 → d < 256 → u32_bytes (joined a b c d) ≡ a ∷ b ∷ c ∷ d ∷ []
bytes-joined a b c d ha hb hc hd =
    let q1 : joined a b c d / 256 ≡ b + c * 256 + d * 65536 = omega arith in
    let q2 : joined a b c d / 65536 ≡ c + d * 256 = omega arith in
    let q3 : joined a b c d / 16777216 ≡ d = omega arith in
    let e0 : joined a b c d % 256 ≡ a = omega arith in
    let e1 : (b + c * 256 + d * 65536) % 256 ≡ b = omega arith in
    let e2 : (c + d * 256) % 256 ≡ c = omega arith in
    let e3 : d % 256 ≡ d = omega arith in
    rw (q1, q2, q3, e0, e1, e2, e3)

-- ---- rows of words

pub length-word_bytes : (ws : List ℕ) → length (word_bytes ws) ≡ length ws * 4
length-word_bytes [] = refl
length-word_bytes (w ∷ ws) = omega (arith, length-word_bytes ws)

word_bytes-append : (xs ys : List ℕ) → word_bytes (xs ++ ys) ≡ word_bytes xs ++ word_bytes ys
word_bytes-append [] ys = refl
word_bytes-append (x ∷ xs) ys = ap (λ (l : List ℕ). u32_bytes x ++ l) (word_bytes-append xs ys)

-- one word more
pub word_more : (s xs ws : List ℕ) (at i : ℕ) {word : List ℕ} → xs ≡ sets s at (word_bytes (take i ws)) → i < length ws → at + length ws * 4 ≤ length xs → word ≡ u32_bytes (get_or ws i 0)
    → put_mid (at + i * 4) (at + i * 4 + 4 - (at + i * 4)) xs word ≡ sets s at (word_bytes (take (i + 1) ws))
word_more s xs ws at i before h room e =
    let v = u32_bytes (get_or ws i 0) in
    let more : take (i + 1) ws ≡ take i ws ++ (get_or ws i 0 ∷ []) = rw (add-one, take-suc ws i 0) in
    let n : length (word_bytes (take i ws)) ≡ i * 4 = omega (arith, length-word_bytes (take i ws), length-take-le i ws (omega arith)) in
    put-over xs v _ (at + i * 4) (omega arith) e
    ∙ ap (λ (ys : List ℕ). sets ys (at + i * 4) v) before
    ∙ sym
    (ap (λ (l : List ℕ). sets s at (word_bytes l)) more
    ∙ ap (λ (l : List ℕ). sets s at l) (word_bytes-append (take i ws) (get_or ws i 0 ∷ []))
    ∙ sets-append s at (word_bytes (take i ws)) v
    ∙ ap (λ (k : ℕ). sets (sets s at (word_bytes (take i ws))) (at + k) v) n)

-- ---- one word

-- the four bytes that stand at `at`
abbrev pub four_at : List ℕ → ℕ → ℕ
four_at s at = joined (get_or s at 0) (get_or s (at + 1) 0) (get_or s (at + 2) 0) (get_or s (at + 3) 0)

pub word_in : (s : List ℕ) (at : ℕ) → at + 4 ≤ length s → word_at s at ≡ four_at s at
unfolding word_at
word_in s at h = simp (le-leb (at + 4) (length s) h)

pub word_out : (s : List ℕ) (at : ℕ) → length s < at + 4 → word_at s at ≡ 0
unfolding word_at
word_out s at h = simp (lt-leb (at + 4) (length s) h)

pub row_in : (s : List ℕ) (at : ℕ) (ws : List ℕ) → at + length ws * 4 ≤ length s → with_words s at ws ≡ sets s at (word_bytes ws)
unfolding with_words
row_in s at ws h = simp (le-leb (at + length ws * 4) (length s) h)

pub row_out : (s : List ℕ) (at : ℕ) (ws : List ℕ) → length s < at + length ws * 4 → with_words s at ws ≡ s
unfolding with_words
row_out s at ws h = simp (lt-leb (at + length ws * 4) (length s) h)

-- a row that there is room for was written, or there is nothing to write
pub row_wrote : (s : List ℕ) (at i : ℕ) (ws : List ℕ) → length ws ≤ i → length ws ≤ (length s - at) / 4 → sets s at (word_bytes (take i ws)) ≡ with_words s at ws
row_wrote s at i [] l h =
    ap (λ (ws : List ℕ). sets s at (word_bytes ws)) (take_all i [] l)
    ∙ ⊎_elim (λ k. sym (row_in s at [] k)) (λ k. sym (row_out s at [] k)) (le-or-lt (at + 0 * 4) (length s))
row_wrote s at i (w ∷ ws) l h =
    ap (λ (vs : List ℕ). sets s at (word_bytes vs)) (take_all i (w ∷ ws) l) ∙ sym (row_in s at (w ∷ ws) (omega arith))

-- what stands after k elements, counted from there
past : (xs l : List ℕ) (k i : ℕ) → length xs ≡ k → get_or (xs ++ l) (k + i) 0 ≡ get_or l i 0
past xs l k i e = ap (λ (n : ℕ). get_or (xs ++ l) (n + i) 0) (sym e) ∙ get_or-append-add xs l i 0

-- a word counts from the start of what is left
pub word-past : (xs l : List ℕ) (k at : ℕ) → length xs ≡ k → word_at (xs ++ l) (k + at) ≡ word_at l at
word-past xs l k at e = ⊎_elim inside outside (le-or-lt (at + 4) (length l))
  where
    n : length (xs ++ l) ≡ k + length l
    n = length-append xs l ∙ ap (λ (m : ℕ). m + length l) e

    g : (i : ℕ) → get_or (xs ++ l) (k + at + i) 0 ≡ get_or l (at + i) 0
    g i = ap (λ (m : ℕ). get_or (xs ++ l) m 0) (omega arith) ∙ past xs l k (at + i) e

    inside : at + 4 ≤ length l → word_at (xs ++ l) (k + at) ≡ word_at l at
    inside h =
        let same : four_at (xs ++ l) (k + at) ≡ four_at l at = simp (past xs l k at e, g 1, g 2, g 3) in
        word_in (xs ++ l) (k + at) (omega (arith, n)) ∙ same ∙ sym (word_in l at h)

    outside : length l < at + 4 → word_at (xs ++ l) (k + at) ≡ word_at l at
    outside h = word_out (xs ++ l) (k + at) (omega (arith, n)) ∙ sym (word_out l at h)

-- a word that ends before the first part does is that part's
pub word-alone : (xs l : List ℕ) (at : ℕ) → at + 4 ≤ length xs → word_at (xs ++ l) at ≡ word_at xs at
word-alone xs l at h =
    let g : (i : ℕ) → i < length xs → get_or (xs ++ l) i 0 ≡ get_or xs i 0 = get_or-append xs l 0 in
    let same : four_at (xs ++ l) at ≡ four_at xs at = simp (g at (omega arith), g (at + 1) (omega arith), g (at + 2) (omega arith), g (at + 3) (omega arith)) in
    word_in (xs ++ l) at (omega (arith, length-append xs l)) ∙ same ∙ sym (word_in xs at h)

-- a word that was put in front is read
word-front : (v : ℕ) (l : List ℕ) → v < 2 ^ 32 → word_at (u32_bytes v ++ l) 0 ≡ v
word-front v l h = word_in (u32_bytes v ++ l) 0 (omega arith) ∙ joined_bytes v h

-- the bytes of the word at `at`, and what is after them
word_back : (s : List ℕ) (at : ℕ) → AllBytes s → at + 4 ≤ length s → u32_bytes (word_at s at) ++ drop (at + 4) s ≡ drop at s
word_back s at b h =
    let e1 : suc at ≡ at + 1 = omega arith in
    let e2 : suc (at + 1) ≡ at + 2 = omega arith in
    let e3 : suc (at + 2) ≡ at + 3 = omega arith in
    let e4 : suc (at + 3) ≡ at + 4 = omega arith in
    let d0 : drop at s ≡ get_or s at 0 ∷ drop (at + 1) s = rw e1 at (drop-cons s at 0 (omega arith)) in
    let d1 : drop (at + 1) s ≡ get_or s (at + 1) 0 ∷ drop (at + 2) s = rw e2 at (drop-cons s (at + 1) 0 (omega arith)) in
    let d2 : drop (at + 2) s ≡ get_or s (at + 2) 0 ∷ drop (at + 3) s = rw e3 at (drop-cons s (at + 2) 0 (omega arith)) in
    let d3 : drop (at + 3) s ≡ get_or s (at + 3) 0 ∷ drop (at + 4) s = rw e4 at (drop-cons s (at + 3) 0 (omega arith)) in
    ap (λ (v : ℕ). u32_bytes v ++ drop (at + 4) s) (word_in s at h)
    ∙ ap (λ (l : List ℕ). l ++ drop (at + 4) s) (bytes-joined (get_or s at 0) (get_or s (at + 1) 0) (get_or s (at + 2) 0) (get_or s (at + 3) 0) (b at) (b (at + 1)) (b (at + 2)) (b (at + 3)))
    ∙ sym (d0 ∙ ap (λ (l : List ℕ). get_or s at 0 ∷ l) (d1 ∙ ap (λ (l : List ℕ). get_or s (at + 1) 0 ∷ l) (d2 ∙ ap (λ (l : List ℕ). get_or s (at + 2) 0 ∷ l) d3)))

-- ---- rows of words: a record of any length is one

-- every word of a row fits 32 bits
abbrev pub Fit : List ℕ → Type 0
Fit [] = Unit {0}
Fit (w ∷ ws) = (w < 2 ^ 32) × Fit ws

-- a row counts from the start of what is left
pub row-past : (xs l : List ℕ) (k n at : ℕ) → length xs ≡ k → words_from (xs ++ l) (k + at) n ≡ words_from l at n
row-past xs l k zero at e = refl
row-past xs l k (suc n) at e =
    let a : k + at + 4 ≡ k + (at + 4) = omega arith in
    simp (word-past xs l k at e, a, row-past xs l k n (at + 4) e)

-- the words that were written in front are read
pub row_read : (ws l : List ℕ) → Fit ws → words_from (word_bytes ws ++ l) 0 (length ws) ≡ ws
row_read [] l f = refl
row_read (w ∷ ws) l f =
    ap (λ (x : ℕ). x ∷ words_from (u32_bytes w ++ (word_bytes ws ++ l)) 4 (length ws)) (word-front w (word_bytes ws ++ l) f.0)
    ∙ ap (λ (r : List ℕ). w ∷ r) (row-past (u32_bytes w) (word_bytes ws ++ l) 4 (length ws) 0 refl ∙ row_read ws l f.1)

-- n words that were read, written back, are the bytes
pub row_back : (s : List ℕ) (n at : ℕ) → AllBytes s → at + n * 4 ≤ length s → word_bytes (words_from s at n) ++ drop (at + n * 4) s ≡ drop at s
row_back s zero at b h = ap (λ (k : ℕ). drop k s) (add-zero at)
row_back s (suc n) at b h =
    let e : at + suc n * 4 ≡ at + 4 + n * 4 = omega arith in
    append_assoc (u32_bytes (word_at s at)) (word_bytes (words_from s (at + 4) n)) (drop (at + suc n * 4) s)
    ∙ ap (λ (k : ℕ). u32_bytes (word_at s at) ++ (word_bytes (words_from s (at + 4) n) ++ drop k s)) e
    ∙ ap (λ (l : List ℕ). u32_bytes (word_at s at) ++ l) (row_back s n (at + 4) b (omega arith))
    ∙ word_back s at b (omega arith)

-- a row written at the start replaces its own bytes, and no other
pub row-front : (s ws : List ℕ) → length ws * 4 ≤ length s → with_words s 0 ws ≡ word_bytes ws ++ drop (length ws * 4) s
row-front s ws h = row_in s 0 ws (omega arith) ∙ sets-front (word_bytes ws) s (length ws * 4) (length-word_bytes ws) h

-- ---- parts of bytes are bytes

pub bytes_drop : (n : ℕ) (s : List ℕ) → AllBytes s → AllBytes (drop n s)
bytes_drop n s b i = rw (get_or-drop n s i 0) (b (n + i))

pub bytes_take : (n : ℕ) (s : List ℕ) → AllBytes s → AllBytes (take n s)
bytes_take n s b i = ⊎_elim past within (le-or-lt n i)
  where
    past : n ≤ i → get_or (take n s) i 0 < 256
    past h = let none : length (take n s) ≤ i = omega (arith, length-take n s) in rw (get_or-eq_default (take n s) 0 none) (omega arith)

    within : i < n → get_or (take n s) i 0 < 256
    within h = rw (get_or-take n s i 0 h) (b i)

pub bytes-append : (xs ys : List ℕ) → AllBytes xs → AllBytes ys → AllBytes (xs ++ ys)
bytes-append [] ys a b i = b i
bytes-append (x ∷ xs) ys a b zero = a 0
bytes-append (x ∷ xs) ys a b (suc i) = bytes-append xs ys (λ j. a (suc j)) b i

pub bytes-words : (ws : List ℕ) → AllBytes (word_bytes ws)
bytes-words [] i = omega arith
bytes-words (w ∷ ws) i = bytes-append (u32_bytes w) (word_bytes ws) four (bytes-words ws) i
  where
    four : AllBytes (u32_bytes w)
    four zero = omega arith
    four (suc zero) = omega arith
    four (suc (suc zero)) = omega arith
    four (suc (suc (suc zero))) = omega arith
    four (suc (suc (suc (suc i)))) = omega arith
