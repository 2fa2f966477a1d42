-- The search for the cut through the fractions: places that are narrowed down by the mean.
use mathlib.Core.Path.{◌≡◌, refl, sym, ap, subst, ◌∙◌}
use mathlib.Core.Bool.{Bool, true, false, cond, not}
use mathlib.Core.List.{List, [], ◌∷◌}
use mathlib.Core.Logic.{⊎_elim, ◌≢◌}
use Prim.Native.Nat.{ℕ, ◌+◌, ◌-◌, ◌*◌, ◌/◌, ◌%◌, ◌^◌, ◌≤◌, ◌<◌}
use native.Mathlib.Nat.{div-add-mod', mod-lt, mul-div_cancel}
use native.Mathlib.Omega.{arith}
use borrow.Author.Tests.{le-leb, lt-leb, eqb-true, eqb-false}
use lib.Dec.{leb, ltb, eqb}
use lib.ListN.{length, get_or}
use Rattle.std.specs.Prelude.{Some}
use Rattle.words.specs.rules.Bits.{with_bit, ones_in, TakesLowest}
use Rattle.base.specs.Lists.{keep, filter, sum}
use Rattle.base.proofs.Numbers.{le-or-lt}
use Rattle.base.proofs.ListLaws.{filter-length}
use Rattle.board.specs.declared.Response.{Response}
use Rattle.board.specs.rules.Board.{no_response, live_in}
use Rattle.board.specs.inside.Places.{word_of}
use Rattle.board.proofs.LiveLaws.{none-live, count-live, word-filters, Sifted, sift-start, sift-end}
use Rattle.share.specs.rules.Share.{fractions, leftover_count, how_many}
use Rattle.share.specs.rules.Fills.{sizes}
use Rattle.share.specs.inside.Cut.{Cuts}
use Rattle.share.proofs.ShareLaws.{wholes, left-at-most, cut-whole}
use Rattle.share.proofs.CutLaws.{cut-upper, cut-lower, cut_level, some_upper, upper-lower}
use Rattle.trade.specs.declared.Among.{Among}
use Rattle.trade.specs.declared.Upper.{Upper}
use Rattle.trade.specs.inside.Code.{fractions_in, Short, is_upper, UpperOf, no_cut, mean_of, among_of, counted_of, narrowed_of}
use Rattle.trade.proofs.CodeLaws.{taken, sift-taken, fractions-turn, fractions-none, fractions-length, live-short}
use Rattle.trade.proofs.StepLaws.{word-le, word-rest}

-- ---- the mean of n numbers, rounded up

mean-enough : (total n : ℕ) → 0 < n → total ≤ mean_of total n * n
unfolding mean_of
mean-enough total n h = omega (arith, div-add-mod' (total + n - 1) n, mod-lt (total + n - 1) h)

mean-least : (total n : ℕ) → 0 < n → mean_of total n * n < total + n
unfolding mean_of
mean-least total n h = omega (arith, div-add-mod' (total + n - 1) n)

-- ---- the half that has the cut

pub narrowed-upper : (a : Among) (u : Upper) → a.leftovers ≤ ones_in 64 u.word → among_of u.word u.sum a.leftovers ≡ narrowed_of a u
unfolding narrowed_of
narrowed-upper a u h = rw (le-leb a.leftovers (ones_in 64 u.word) h)

pub narrowed-lower : (a : Among) (u : Upper) → ones_in 64 u.word < a.leftovers → among_of (a.word - u.word) (a.sum - u.sum) (a.leftovers - ones_in 64 u.word) ≡ narrowed_of a u
unfolding narrowed_of
narrowed-lower a u h = rw (lt-leb a.leftovers (ones_in 64 u.word) h)

-- ---- sums by a test

sum-split : (t : ℕ → Bool) (xs : List ℕ) → sum (filter t xs) + sum (filter (λ x. not (t x)) xs) ≡ sum xs
unfolding sum filter
sum-split t [] = omega arith
sum-split t (x ∷ xs) = go (t x) (sum-split t xs)
  where
    go : (b : Bool) → sum (filter t xs) + sum (filter (λ y. not (t y)) xs) ≡ sum xs → sum (keep b x (filter t xs)) + sum (keep (not b) x (filter (λ y. not (t y)) xs)) ≡ x + sum xs
    go true i = omega arith
    go false i = omega arith

sum-cons : (t : ℕ → Bool) (x : ℕ) (xs : List ℕ) → sum (filter t (x ∷ xs)) ≡ cond (t x) x 0 + sum (filter t xs)
unfolding sum filter
sum-cons t x xs = go (t x)
  where
    go : (b : Bool) → sum (keep b x (filter t xs)) ≡ cond b x 0 + sum (filter t xs)
    go true = refl
    go false = omega arith

-- ---- R over the places ps, where T is the sum of the sizes

module _ (R T : ℕ) (ps : List Response) where
  abbrev fs : ℕ → List ℕ
  fs w = fractions_in R T ps w

  -- places among which the cut of k over the word is looked for
  pub record Seeks (word k : ℕ) (a : Among) : Type 0 where
    pub fit : a.word < 2 ^ 64
    pub sum_is : a.sum ≡ sum (fs a.word)
    pub low : a.sum ≤ 70368744161280
    pub some : 0 < a.leftovers
    pub enough : a.leftovers ≤ ones_in 64 a.word
    pub mean-is : a.mean ≡ mean_of a.sum (ones_in 64 a.word)
    -- a cut among them is the one
    pub leads : (c s : ℕ) → 0 < s → Cuts a.leftovers (fs a.word) c s → Cuts k (fs word) c s

  -- of these, u has the upper ones, but for those of rest, which are still to be looked at
  pub record Looked (a : Among) (u : Upper) (rest : ℕ) : Type 0 where
    pub fit : rest < 2 ^ 64
    pub sifted : Sifted (is_upper R T a.mean) ps a.word u.word rest
    pub upper : sum (filter (leb a.mean) (fs a.word)) ≡ u.sum + sum (filter (leb a.mean) (fs rest))

  -- the upper ones and the others are some each, and the half that has the cut is less than all
  pub record Halves (word k : ℕ) (a : Among) (u : Upper) : Type 0 where
    pub upper_in : u.word ≤ a.word
    pub upper-low : u.sum ≤ a.sum
    pub upper-some : 0 < ones_in 64 u.word
    pub others-some : ones_in 64 u.word < a.leftovers → 0 < ones_in 64 (a.word - u.word)
    pub seeks : Seeks word k (narrowed_of a u)
    pub less : (narrowed_of a u).word < a.word

module _ (R T : ℕ) (ps : List Response) (e : length ps ≡ 64) where
  fractions-filter : (t : ℕ → Bool) (rs : List Response) → fractions R T (sizes (filter (λ r. t (R * r.size % T)) rs)) ≡ filter t (fractions R T (sizes rs))
  unfolding filter
  fractions-filter t [] = refl
  fractions-filter t (r ∷ rs) = go (t (R * r.size % T)) (fractions-filter t rs)
    where
      go : (b : Bool) → fractions R T (sizes (filter (λ y. t (R * y.size % T)) rs)) ≡ filter t (fractions R T (sizes rs))
          → fractions R T (sizes (keep b r (filter (λ y. t (R * y.size % T)) rs))) ≡ keep b (R * r.size % T) (filter t (fractions R T (sizes rs)))
      go true i = ap {B = List ℕ} (λ xs. (R * r.size % T) ∷ xs) i
      go false i = i

  many : (w : ℕ) → length (fs R T ps w) ≡ ones_in 64 w
  many w = fractions-length R T (live_in w ps) ∙ sym (ap (λ (n : ℕ). ones_in n w) (sym e) ∙ count-live w ps)

  seeks-of : (word k w total leftovers : ℕ) → w < 2 ^ 64 → total ≡ sum (fs R T ps w) → total ≤ 70368744161280 → 0 < leftovers → leftovers ≤ ones_in 64 w
      → ((c s : ℕ) → 0 < s → Cuts leftovers (fs R T ps w) c s → Cuts k (fs R T ps word) c s) → Seeks R T ps word k (among_of w total leftovers)
  unfolding among_of
  seeks-of word k w total leftovers f s l p n g = record { fit = f; sum_is = s; low = l; some = p; enough = n; mean-is = refl; leads = g }

  -- all of the word, at the start: their fractions come to total
  module _ (word total : ℕ) (v : Short ps word R T) (q : total ≡ sum (fs R T ps word)) where
    abbrev left : ℕ
    left = leftover_count R (sizes (live_in word ps))

    positive : 0 < sum (sizes (live_in word ps))
    positive = omega (arith, v.total-is, v.short)

    -- as many wholes as there are leftovers
    pub wholes-left : total / T ≡ left
    wholes-left =
        let w : total ≡ left * T = q ∙ rw v.total-is (wholes R (sizes (live_in word ps)) positive) in
        ap (λ (n : ℕ). n / T) w ∙ mul-div_cancel left (omega (arith, v.short))

    start-many : left ≤ ones_in 64 word
    start-many =
        let m : left ≤ how_many (ltb 0) (fs R T ps word) = rw v.total-is (left-at-most R (sizes (live_in word ps)) positive) in
        omega (arith, m, filter-length (ltb 0) (fs R T ps word), many word)

    pub start-some : 0 < total / T → 0 < ones_in 64 word
    start-some p = omega (arith, start-many, wholes-left)

    pub seeks-start : total ≤ 70368744161280 → 0 < total / T → word < 2 ^ 64 → Seeks R T ps word left (among_of word total (total / T))
    seeks-start l p h = rw wholes-left (seeks-of word left word total left h q l (rw wholes-left at p) start-many (λ c s _ g. g))

  pub looked-start : (a : Among) → a.word < 2 ^ 64 → Looked R T ps a (record { word = 0; sum = 0 }) a.word
  looked-start a h = record { fit = h; sifted = sift-start (is_upper R T a.mean) ps a.word; upper = omega arith }

  module _ (a : Among) (u : Upper) (rest i v x : ℕ) (t : TakesLowest rest (Some i) v) (q : x ≡ R * (get_or ps i no_response).size % T) (l : Looked R T ps a u rest) where
    looked-sum : u.sum + cond (leb a.mean x) x 0 + sum (filter (leb a.mean) (fs R T ps v)) ≡ sum (filter (leb a.mean) (fs R T ps a.word))
    looked-sum =
        let k = taken ps rest i v e l.fit t in
        let c : fs R T ps rest ≡ x ∷ fs R T ps v = rw (q, k.1) (fractions-turn R T ps rest i k.0) in
        omega (arith, l.upper, ap (λ (xs : List ℕ). sum (filter (leb a.mean) xs)) c ∙ sum-cons (leb a.mean) x (fs R T ps v))

    -- no more than all
    pub looked-low : a.mean ≤ x → u.sum + x ≤ sum (fs R T ps a.word)
    looked-low h = omega (arith, rw (le-leb a.mean x h) at looked-sum, sum-split (leb a.mean) (fs R T ps a.word))

    pub looked-upper : a.mean ≤ x → Looked R T ps a (record { word = with_bit u.word i; sum = u.sum + x }) v
    looked-upper h =
        let k = sift-taken (is_upper R T a.mean) ps a.word u.word rest i v true e l.fit t (rw (← q) (le-leb a.mean x h)) l.sifted in
        record { fit = k.0; sifted = k.1; upper = sym (rw (le-leb a.mean x h) at looked-sum) }

    pub looked-lower : x < a.mean → Looked R T ps a u v
    looked-lower h =
        let k = sift-taken (is_upper R T a.mean) ps a.word u.word rest i v false e l.fit t (rw (← q) (lt-leb a.mean x h)) l.sifted in
        record { fit = k.0; sifted = k.1; upper = omega (arith, rw (lt-leb a.mean x h) at looked-sum) }

  pub looked-all : (a : Among) (u : Upper) → Looked R T ps a u 0 → UpperOf R T ps a u
  unfolding sum filter
  looked-all a u l =
      record {
        word-is = sift-end (is_upper R T a.mean) ps a.word u.word l.sifted;
        sum-is = omega (arith, l.upper, ap (λ (xs : List ℕ). sum (filter (leb a.mean) xs)) (fractions-none R T ps));
      }

  module _ (word k : ℕ) (a : Among) (seeks : Seeks R T ps word k a) where
    mean-at-least : a.sum ≤ a.mean * length (fs R T ps a.word)
    mean-at-least = rw (seeks.mean-is, many a.word) (mean-enough a.sum (ones_in 64 a.word) (omega (arith, seeks.some, seeks.enough)))

    mean-at-most : a.mean * length (fs R T ps a.word) < sum (fs R T ps a.word) + length (fs R T ps a.word)
    mean-at-most = rw (seeks.mean-is, many a.word, ← seeks.sum_is) (mean-least a.sum (ones_in 64 a.word) (omega (arith, seeks.some, seeks.enough)))

    -- what is upper comes to no more than all
    upper-low : (u : Upper) → UpperOf R T ps a u → u.sum ≤ a.sum
    upper-low u l = omega (arith, l.sum-is, seeks.sum_is, sum-split (leb a.mean) (fs R T ps a.word))

    all_fit : a.word < 2 ^ length ps
    all_fit = rw e seeks.fit

    -- where all are upper, all are at the mean, and that is the cut
    cut-found : (u : Upper) → UpperOf R T ps a u → u.word ≡ a.word → Cuts k (fs R T ps word) a.mean a.leftovers
    cut-found u l q =
        let w : word_of (is_upper R T a.mean) a.word ps ≡ a.word = sym l.word-is ∙ q in
        let f : filter (leb a.mean) (fs R T ps a.word) ≡ fs R T ps a.word =
        sym (fractions-filter (leb a.mean) (live_in a.word ps)) ∙ ap (λ (rs : List Response). fractions R T (sizes rs)) (sym (word-filters (is_upper R T a.mean) a.word ps)) ∙ ap (fs R T ps) w in
        seeks.leads a.mean a.leftovers seeks.some
        (cut_level a.mean a.leftovers (fs R T ps a.word) (ap length f) (omega (arith, mean-at-least, seeks.sum_is)) (omega (arith, many a.word, seeks.enough)))

    -- else it is in one of the halves
    module _ (u : Upper) (l : UpperOf R T ps a u) (q : u.word ≡ a.word → ⊥) where
      upper-word : u.word ≡ word_of (is_upper R T a.mean) a.word ps
      upper-word = l.word-is

      uppers : fs R T ps u.word ≡ filter (leb a.mean) (fs R T ps a.word)
      uppers =
          ap (fs R T ps) upper-word
          ∙ ap (λ (rs : List Response). fractions R T (sizes rs)) (word-filters (is_upper R T a.mean) a.word ps)
          ∙ fractions-filter (leb a.mean) (live_in a.word ps)

      upper_in : u.word ≤ a.word
      upper_in = rw upper-word (word-le (is_upper R T a.mean) a.word ps all_fit)

      others : fs R T ps (a.word - u.word) ≡ filter (λ x. not (leb a.mean x)) (fs R T ps a.word)
      others =
          ap (λ (rs : List Response). fractions R T (sizes rs)) (word-rest (is_upper R T a.mean) a.word (a.word - u.word) ps all_fit (omega (arith, upper-word, upper_in)))
          ∙ fractions-filter (λ x. not (leb a.mean x)) (live_in a.word ps)

      upper-many : ones_in 64 u.word ≡ how_many (leb a.mean) (fs R T ps a.word)
      upper-many = sym (many u.word) ∙ ap length uppers

      upper-some : 0 < ones_in 64 u.word
      upper-some = rw upper-many (some_upper a.mean (fs R T ps a.word) mean-at-most)

      -- together they are all
      both-many : ones_in 64 u.word + ones_in 64 (a.word - u.word) ≡ ones_in 64 a.word
      both-many = omega (arith, upper-many, many (a.word - u.word), ap length others, upper-lower a.mean (fs R T ps a.word), many a.word)

      others-some : ones_in 64 u.word < a.leftovers → 0 < ones_in 64 (a.word - u.word)
      others-some h = omega (arith, both-many, seeks.enough)

      upper-sum : u.sum ≡ sum (fs R T ps u.word)
      upper-sum = l.sum-is ∙ ap sum (sym uppers)

      others-sum : a.sum - u.sum ≡ sum (fs R T ps (a.word - u.word))
      others-sum = omega (arith, upper-sum, ap sum uppers, ap sum others, sum-split (leb a.mean) (fs R T ps a.word), seeks.sum_is)

      -- what is taken is a part of the places, and the cut is there
      narrowed-seeks : Seeks R T ps word k (narrowed_of a u)
      narrowed-seeks =
          ⊎_elim
          (λ h. rw (← narrowed-upper a u h)
          (seeks-of word k u.word u.sum a.leftovers (omega (arith, upper_in, seeks.fit)) upper-sum (omega (arith, upper-low u l, seeks.low)) seeks.some h
          (λ c s p g. seeks.leads c s p (cut-upper a.mean a.leftovers c s (fs R T ps a.word) p (rw (← uppers) g)))))
          (λ h. rw (← narrowed-lower a u h)
          (seeks-of word k (a.word - u.word) (a.sum - u.sum) (a.leftovers - ones_in 64 u.word) (omega (arith, seeks.fit)) others-sum (omega (arith, seeks.low)) (omega arith) (omega (arith, both-many, seeks.enough))
          (λ c s p g. seeks.leads c s p (lower h c s p g))))
          (le-or-lt a.leftovers (ones_in 64 u.word))
        where
          lower : ones_in 64 u.word < a.leftovers → (c s : ℕ) → 0 < s → Cuts (a.leftovers - ones_in 64 u.word) (fs R T ps (a.word - u.word)) c s → Cuts a.leftovers (fs R T ps a.word) c s
          lower h c s p g =
              let n : how_many (leb a.mean) (fs R T ps a.word) + (a.leftovers - ones_in 64 u.word) ≡ a.leftovers = omega (arith, upper-many) in
              subst (λ (m : ℕ). Cuts m (fs R T ps a.word) c s) n (cut-lower a.mean (a.leftovers - ones_in 64 u.word) c s (fs R T ps a.word) p (rw (← others) g))

      narrowed-less : (narrowed_of a u).word < a.word
      unfolding among_of
      narrowed-less =
          ⊎_elim
          (λ h. rw (← narrowed-upper a u h) (⊎_elim (λ g. absurd (q (omega (arith, upper_in)))) (λ g. g) (le-or-lt a.word u.word)))
          (λ h. rw (← narrowed-lower a u h) (omega (arith, upper_in, not-empty)))
          (le-or-lt a.leftovers (ones_in 64 u.word))
        where
          none : (w : ℕ) → w ≡ 0 → length (live_in w ps) ≡ 0
          none w z = ap (λ (n : ℕ). length (live_in n ps)) z ∙ ap length (none-live ps)

          not-empty : 0 < u.word
          not-empty =
              ⊎_elim (λ g. g) (λ g. absurd (omega (arith, upper-some, many u.word, fractions-length R T (live_in u.word ps), none u.word (omega arith)))) (le-or-lt 1 u.word)

      pub halves : Halves R T ps word k a u
      halves = record { upper_in = upper_in; upper-low = upper-low u l; upper-some = upper-some; others-some = others-some; seeks = narrowed-seeks; less = narrowed-less }

-- ---- the search over the places of a word

module _ (R T : ℕ) (ps : List Response) (word : ℕ) where
  abbrev pub leftover : ℕ
  leftover = leftover_count R (sizes (live_in word ps))

  -- where the search stands: there are places to look among, or there are no leftovers
  pub record Search (a : Among) : Type 0 where
    pub fit : a.word < 2 ^ 64
    pub whole : a.word ≡ 0 → Cuts leftover (fs R T ps word) a.mean a.leftovers
    pub seeks : 0 < a.word → Seeks R T ps word leftover a

-- the sizes come to T, which is more than R
module _ (R T : ℕ) (ps : List Response) (e : length ps ≡ 64) (word : ℕ) (v : Short ps word R T) (fits : word < 2 ^ 64) where
  fractions-low : (rs : List Response) → sum (fractions R T (sizes rs)) ≤ 1099511627520 * length rs
  unfolding sum
  fractions-low [] = omega arith
  fractions-low (r ∷ rs) = omega (arith, fractions-low rs, mod-lt (R * r.size) {m = T} (omega (arith, v.short)), v.small)

  pub sum_low : (w : ℕ) → sum (fs R T ps w) ≤ 70368744161280
  sum_low w = omega (arith, fractions-low (live_in w ps), live-short w ps)

  ones-some : (w : ℕ) → 0 < ones_in 64 w → 0 < w
  ones-some w h =
      ⊎_elim (λ g. g)
      (λ g.
      let z : w ≡ 0 = omega arith in
      absurd (omega (arith, many R T ps e w, fractions-length R T (live_in w ps), ap (λ (n : ℕ). length (live_in n ps)) z, ap length (none-live ps))))
      (le-or-lt 1 w)

  -- all are added up
  module _ (total : ℕ) (q : total ≡ sum (fs R T ps word)) where
    pub counts : (0 < T) × (total ≤ 70368744161280) × (0 < total / T → 0 < ones_in 64 word)
    counts = (omega (arith, v.short), omega (arith, sum_low word), start-some R T ps e word total v q)

    pub search-start : Search R T ps word (counted_of word total T)
    unfolding counted_of no_cut among_of
    search-start = go (eqb (total / T) 0) refl
      where
        go : (b : Bool) → eqb (total / T) 0 ≡ b → Search R T ps word (cond b (no_cut T) (among_of word total (total / T)))
        go true z =
            record {
              fit = omega arith;
              whole = λ _. rw (sym (wholes-left R T ps e word total v q) ∙ eqb-true (total / T) 0 z) (cut-whole R T (sizes (live_in word ps)) (omega (arith, v.short)));
              seeks = λ h. absurd (omega arith);
            }
        go false z =
            let n : total / T ≢ 0 = eqb-false (total / T) 0 z in
            let some : 0 < word = ones-some word (start-some R T ps e word total v q (omega arith)) in
            record {
              fit = fits;
              whole = λ h. absurd (omega (arith, some));
              seeks = λ _. seeks-start R T ps e word total v q (omega (arith, sum_low word)) (omega arith) fits;
            }

  -- those whose fraction is at least the mean are found
  module _ (a : Among) (u : Upper) (k : Search R T ps word a) (l : UpperOf R T ps a u) where
    -- they are all, and the cut is the mean, or there are none to look among
    pub search-end : u.word ≡ a.word → Cuts (leftover R T ps word) (fs R T ps word) a.mean a.leftovers
    search-end q = ⊎_elim (λ g. cut-found R T ps e word (leftover R T ps word) a (k.seeks g) u l q) (λ g. let z : a.word ≡ 0 = omega arith in k.whole z) (le-or-lt 1 a.word)

    -- they are not, and it goes on in the half that has the cut
    module _ (q : u.word ≢ a.word) where
      none-within : a.word ≡ 0 → u.word ≡ 0
      none-within z = omega (arith, l.word-is, word-le (is_upper R T a.mean) a.word ps (rw e k.fit))

      abbrev some : 0 < a.word
      some = ⊎_elim (λ g. g) (λ g. let z : a.word ≡ 0 = omega arith in absurd (q (none-within z ∙ sym z))) (le-or-lt 1 a.word)

      pub search-halves : Halves R T ps word (leftover R T ps word) a u
      search-halves = halves R T ps e word (leftover R T ps word) a (k.seeks some) u l q

      pub search-low : a.sum ≤ 70368744161280
      search-low = (k.seeks some).low

      pub search-next : Search R T ps word (narrowed_of a u)
      search-next =
          let s = search-halves.seeks in
          record {
            fit = s.fit;
            whole = λ z. absurd (omega (arith, ones-some (narrowed_of a u).word (omega (arith, s.enough, s.some))));
            seeks = λ _. s;
          }
