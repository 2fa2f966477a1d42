-- The rule for the leftovers, over any list of fractions: a cut serves those that fewer than k are ahead of, and there is one.
use mathlib.Core.Path.{◌≡◌, refl, sym, ap, ap₂, ◌∙◌}
use mathlib.Core.Bool.{Bool, true, false, cond, not, ◌&&◌}
use mathlib.Core.List.{List, [], ◌∷◌}
use mathlib.Core.Logic.{⊎_elim}
use Prim.Native.Nat.{ℕ, zero, suc, ◌+◌, ◌-◌, ◌*◌, ◌≤◌, ◌<◌, min}
use native.Mathlib.Nat.{mul-suc, mul-zero}
use native.Mathlib.Omega.{arith}
use borrow.Author.Tests.{ltb-true, leb-true, eqb-true, lt-ltb, le-ltb, le-leb, lt-leb, eq-eqb, ne_eqb}
use lib.Dec.{leb, ltb, eqb}
use lib.ListN.{length}
use Rattle.base.specs.Lists.{Every, keep, filter, sum}
use Rattle.base.proofs.Bools.{no}
use Rattle.base.proofs.ListLaws.{filter-filter, filter_none, filter-length, every_any}
use Rattle.base.proofs.Numbers.{le-or-lt, eq-or}
use Rattle.share.specs.rules.Share.{how_many, one_each}
use Rattle.share.specs.inside.Cut.{one_by, spare_by, by_cut, Cuts}
use Rattle.share.specs.promises.Share.{Each, Mark, NotPassed, InRank}

-- ---- how many pass a test

pub many-cons : (t : ℕ → Bool) (x : ℕ) (xs : List ℕ) → how_many t (x ∷ xs) ≡ cond (t x) 1 0 + how_many t xs
unfolding filter
many-cons t x xs = go (t x)
  where
    go : (b : Bool) → length (keep b x (filter t xs)) ≡ cond b 1 0 + how_many t xs
    go true = omega arith
    go false = omega arith

-- one that passes, and one that fails
pub many-pass : (t : ℕ → Bool) (x : ℕ) (xs : List ℕ) → t x ≡ true → how_many t (x ∷ xs) ≡ suc (how_many t xs)
many-pass t x xs e = many-cons t x xs ∙ rw e (omega arith)

pub many-fail : (t : ℕ → Bool) (x : ℕ) (xs : List ℕ) → t x ≡ false → how_many t (x ∷ xs) ≡ how_many t xs
many-fail t x xs e = many-cons t x xs ∙ rw e (omega arith)

-- what passes the one test passes the other
many-le : (t u : ℕ → Bool) → ((x : ℕ) → t x ≡ true → u x ≡ true) → (xs : List ℕ) → how_many t xs ≤ how_many u xs
unfolding filter
many-le t u h [] = omega arith
many-le t u h (x ∷ xs) = go (t x) (u x) refl refl (h x) (many-le t u h xs)
  where
    go : (a b : Bool) → t x ≡ a → u x ≡ b → (t x ≡ true → u x ≡ true) → how_many t xs ≤ how_many u xs → how_many t (x ∷ xs) ≤ how_many u (x ∷ xs)
    go true true e f g i = omega (arith, many-pass t x xs e, many-pass u x xs f)
    go true false e f g i = no (sym (g e) ∙ f)
    go false true e f g i = omega (arith, many-fail t x xs e, many-pass u x xs f)
    go false false e f g i = omega (arith, many-fail t x xs e, many-fail u x xs f)

-- what passes a test passes just one of two others
many-both : (v t u : ℕ → Bool) → ((x : ℕ) → cond (v x) 1 0 ≡ cond (t x) 1 0 + cond (u x) 1 0) → (xs : List ℕ) → how_many v xs ≡ how_many t xs + how_many u xs
unfolding filter
many-both v t u h [] = omega arith
many-both v t u h (x ∷ xs) = omega (arith, many-cons v x xs, many-cons t x xs, many-cons u x xs, h x, many-both v t u h xs)

-- the first of two tests, where it follows from the second
and_first : (a b : Bool) → (b ≡ true → a ≡ true) → (a && b) ≡ b
and_first true b h = refl
and_first false true h = no (sym (h refl))
and_first false false h = refl

-- and where it fails then
and_none : (a b : Bool) → (b ≡ true → a ≡ false) → (a && b) ≡ false
and_none true true h = no (h refl)
and_none true false h = refl
and_none false b h = refl

-- ---- a number beside the cut: above it, at it, or below

data Side (c x : ℕ) : Type 0 where
  above : c < x → ltb c x ≡ true → eqb c x ≡ false → Side c x
  level : c ≡ x → ltb c x ≡ false → eqb c x ≡ true → Side c x
  below : x < c → ltb c x ≡ false → eqb c x ≡ false → Side c x

side : (c x : ℕ) → Side c x
side c x =
    ⊎_elim
    (λ h. ⊎_elim
    (λ e. level e (le-ltb c x h) (eq-eqb c x e))
    (λ n. below (⊎_elim (λ g. absurd (n (omega arith))) (λ g. g) (le-or-lt c x)) (le-ltb c x h) (ne_eqb c x n))
    (eq-or c x))
    (λ h. above h (lt-ltb c x h) (ne_eqb c x (λ e. omega arith)))
    (le-or-lt x c)

-- ---- those that fewer than k are ahead of are those above the cut, and the first at it

-- ahead of one above the cut are only such as are above the cut
ahead-above : (c x : ℕ) (xs : List ℕ) → c < x → how_many (leb x) xs ≤ how_many (ltb c) xs
ahead-above c x xs h = many-le (leb x) (ltb c) (λ y e. lt-ltb c y (omega (arith, leb-true x y e))) xs

-- at least c: above it, or at it
at_least : (c : ℕ) (xs : List ℕ) → how_many (leb c) xs ≡ how_many (ltb c) xs + how_many (eqb c) xs
at_least c = many-both (leb c) (ltb c) (eqb c) (λ x. go x (side c x))
  where
    go : (x : ℕ) → Side c x → cond (leb c x) 1 0 ≡ cond (ltb c x) 1 0 + cond (eqb c x) 1 0
    go x (above h e f) = rw (le-leb c x (omega arith), e, f) (omega arith)
    go x (level h e f) = rw (le-leb c x (omega arith), e, f) (omega arith)
    go x (below h e f) = rw (lt-leb c x h, e, f) (omega arith)

-- all at the cut and above are ahead of one below it
ahead-below : (c x : ℕ) (xs : List ℕ) → x < c → how_many (ltb c) xs + how_many (eqb c) xs ≤ how_many (ltb x) xs
ahead-below c x xs h = omega (arith, at_least c xs, many-le (leb c) (ltb x) (λ y e. lt-ltb x y (omega (arith, leb-true c y e))) xs)

ahead-at-least : (x : ℕ) (xs : List ℕ) → how_many (ltb x) xs ≤ how_many (leb x) xs
ahead-at-least x = many-le (ltb x) (leb x) (λ y e. le-leb x y (omega (arith, ltb-true x y e)))

cut-ranks : (c s k : ℕ) (earlier xs : List ℕ) → how_many (ltb c) earlier + how_many (ltb c) xs + s ≡ k → s ≤ how_many (eqb c) earlier + how_many (eqb c) xs
    → one_each k earlier xs ≡ by_cut c (s - how_many (eqb c) earlier) xs
cut-ranks c s k earlier [] g h = refl
cut-ranks c s k earlier (x ∷ xs) g h =
    let ih = cut-ranks c s k (x ∷ earlier) xs (omega (arith, many-cons (ltb c) x earlier, many-cons (ltb c) x xs)) (omega (arith, many-cons (eqb c) x earlier, many-cons (eqb c) x xs)) in
    let spare : s - how_many (eqb c) (x ∷ earlier) ≡ spare_by c (s - how_many (eqb c) earlier) x = omega (arith, many-cons (eqb c) x earlier) in
    ap₂ {C = List ℕ} (λ y ys. y ∷ ys) (head (side c x)) (ih ∙ ap (λ (n : ℕ). by_cut c n xs) spare)
  where
    m : ℕ
    m = how_many (leb x) earlier + how_many (ltb x) xs

    head : Side c x → cond (ltb m k) 1 0 ≡ one_by c (s - how_many (eqb c) earlier) x
    head (above l e f) =
        rw (lt-ltb m k (omega (arith, ahead-above c x earlier l, ahead-above c (suc x) xs (omega arith), many-pass (ltb c) x xs e)), e)
    head (level l e f) =
        let p : how_many (leb c) earlier ≡ how_many (leb x) earlier = ap (λ (y : ℕ). how_many (leb y) earlier) l in
        let q : how_many (ltb c) xs ≡ how_many (ltb x) xs = ap (λ (y : ℕ). how_many (ltb y) xs) l in
        rw (e, f)
        (⊎_elim
        (λ n. rw (le-ltb m k (omega (arith, at_least c earlier, many-fail (ltb c) x xs e))) (omega arith))
        (λ n. rw (lt-ltb m k (omega (arith, at_least c earlier, many-fail (ltb c) x xs e))) (omega arith))
        (le-or-lt s (how_many (eqb c) earlier)))
    head (below l e f) =
        rw (le-ltb m k (omega (arith, ahead-below c x earlier l, ahead-below c x xs l, ahead-at-least x earlier, many-fail (ltb c) x xs e, many-fail (eqb c) x xs f)), e, f)

pub one-each-cut : (k : ℕ) (xs : List ℕ) (c s : ℕ) → Cuts k xs c s → one_each k [] xs ≡ by_cut c s xs
unfolding filter
one-each-cut k xs c s h = cut-ranks c s k [] xs (omega (arith, h.counted)) (omega (arith, h.enough)) ∙ ap (λ (n : ℕ). by_cut c n xs) (omega arith)

-- ---- what a cut gives

pub one-above : (c s x : ℕ) → c < x → (1 ≡ one_by c s x) × (s ≡ spare_by c s x)
one-above c s x h = rw (lt-ltb c x h, ne_eqb c x (λ e. omega arith)) (refl, omega arith)

pub one_below : (c s x : ℕ) → x < c → (0 ≡ one_by c s x) × (s ≡ spare_by c s x)
one_below c s x h = rw (le-ltb c x (omega arith), ne_eqb c x (λ e. omega arith)) (refl, omega arith)

pub one-level : (c s x q : ℕ) → c ≡ x → q ≡ min s 1 → (q ≡ one_by c s x) × (s - q ≡ spare_by c s x)
one-level c s x q h e = rw (le-ltb c x (omega arith), eq-eqb c x h) (e, omega arith)

cut_sum : (c s : ℕ) (xs : List ℕ) → sum (by_cut c s xs) ≡ how_many (ltb c) xs + min s (how_many (eqb c) xs)
unfolding sum filter
cut_sum c s [] = omega arith
cut_sum c s (x ∷ xs) = go (side c x) (cut_sum c (spare_by c s x) xs)
  where
    go : Side c x → sum (by_cut c (spare_by c s x) xs) ≡ how_many (ltb c) xs + min (spare_by c s x) (how_many (eqb c) xs)
        → one_by c s x + sum (by_cut c (spare_by c s x) xs) ≡ how_many (ltb c) (x ∷ xs) + min s (how_many (eqb c) (x ∷ xs))
    go (above l e f) i = rw (e, f) (omega (arith, rw f at i, many-pass (ltb c) x xs e, many-fail (eqb c) x xs f))
    go (level l e f) i = rw (e, f) (omega (arith, rw f at i, many-fail (ltb c) x xs e, many-pass (eqb c) x xs f))
    go (below l e f) i = rw (e, f) (omega (arith, rw f at i, many-fail (ltb c) x xs e, many-fail (eqb c) x xs f))

-- at most one, and none to 0, where none is spare at a cut of 0
cut-each : (c s : ℕ) (xs : List ℕ) → (c ≡ 0 → s ≡ 0) → Each Mark xs (by_cut c s xs)
cut-each c s [] z = tt
cut-each c s (x ∷ xs) z = (go (side c x), cut-each c (spare_by c s x) xs (λ e. omega (arith, z e)))
  where
    go : Side c x → Mark x (one_by c s x)
    go (above l e f) = rw e (omega arith, omega arith)
    go (level l e f) = rw (e, f) (omega arith, ⊎_elim (λ p. omega arith) (λ n. omega (arith, z (omega arith))) (le-or-lt 1 x))
    go (below l e f) = rw (e, f) (omega arith, omega arith)

-- of two the one ahead is not passed over: t is spare where y comes, after x
passed : (c s t x y : ℕ) → (c ≡ x → s ≡ 0 → t ≡ 0) → NotPassed x (one_by c s x) y (one_by c t y)
passed c s t x y z = go (side c x) (side c y)
  where
    go : Side c x → Side c y → NotPassed x (one_by c s x) y (one_by c t y)
    go (above l e f) (above k g h) = rw (e, g) ((λ _. omega arith), λ _. omega arith)
    go (above l e f) (level k g h) = rw (e, g, h) ((λ _. omega arith), λ p. absurd (omega arith))
    go (above l e f) (below k g h) = rw (e, g, h) ((λ _. omega arith), λ p. absurd (omega arith))
    go (level l e f) (above k g h) = rw (e, f, g) ((λ p. absurd (omega arith)), λ _. omega arith)
    go (level l e f) (level k g h) = rw (e, f, g, h) ((λ _. ⊎_elim (λ p. omega arith) (λ n. omega (arith, z l (omega arith))) (le-or-lt 1 s)), λ p. absurd (omega arith))
    go (level l e f) (below k g h) = rw (e, f, g, h) ((λ _. omega arith), λ p. absurd (omega arith))
    go (below l e f) (above k g h) = rw (e, f, g) ((λ p. absurd (omega arith)), λ _. omega arith)
    go (below l e f) (level k g h) = rw (e, f, g, h) ((λ p. absurd (omega arith)), λ _. omega arith)
    go (below l e f) (below k g h) = rw (e, f, g, h) ((λ _. omega arith), λ _. omega arith)

passed-all : (c s t x : ℕ) (xs : List ℕ) → (c ≡ x → s ≡ 0 → t ≡ 0) → Each (NotPassed x (one_by c s x)) xs (by_cut c t xs)
passed-all c s t x [] z = tt
passed-all c s t x (y ∷ ys) z = (passed c s t x y z, passed-all c s (spare_by c t y) x ys (λ e f. omega (arith, z e f)))

cut-rank : (c s : ℕ) (xs : List ℕ) → InRank xs (by_cut c s xs)
cut-rank c s [] = tt
cut-rank c s (x ∷ xs) = (passed-all c s (spare_by c s x) x xs (λ e f. omega arith), cut-rank c (spare_by c s x) xs)

-- ---- there is a cut, where there are k that are not 0

record Found (k : ℕ) (xs : List ℕ) : Type 0 where
  cut : ℕ
  spare : ℕ
  cuts : Cuts k xs cut spare
  none : cut ≡ 0 → spare ≡ 0

-- from the cut c down
find : (c k : ℕ) (xs : List ℕ) → k ≤ how_many (ltb 0) xs → how_many (ltb c) xs ≤ k → Found k xs
find zero k xs h g = record { cut = 0; spare = 0; cuts = record { counted = omega arith; enough = omega arith }; none = λ _. refl }
find (suc c) k xs h g =
    ⊎_elim
    (λ l. record { cut = suc c; spare = k - how_many (ltb (suc c)) xs; cuts = record { counted = omega arith; enough = omega arith }; none = λ e. absurd (omega arith) })
    (λ l. find c k xs h (omega (arith, at_least (suc c) xs)))
    (le-or-lt k (how_many (ltb (suc c)) xs + how_many (eqb (suc c)) xs))

-- none is above the sum of all
none_above : (c : ℕ) (xs : List ℕ) → sum xs ≤ c → how_many (ltb c) xs ≡ 0
unfolding sum filter
none_above c [] h = refl
none_above c (x ∷ xs) h = many-fail (ltb c) x xs (le-ltb c x (omega arith)) ∙ none_above c xs (omega arith)

-- the rule, where there are k that are not 0
pub record Ones (k : ℕ) (xs : List ℕ) : Type 0 where
  pub each : Each Mark xs (one_each k [] xs)
  pub total : sum (one_each k [] xs) ≡ k
  pub in-rank : InRank xs (one_each k [] xs)

pub ones : (k : ℕ) (xs : List ℕ) → k ≤ how_many (ltb 0) xs → Ones k xs
ones k xs h =
    let f = find (sum xs) k xs h (omega (arith, none_above (sum xs) xs (omega arith))) in
    let e = one-each-cut k xs f.cut f.spare f.cuts in
    record {
      each = rw e (cut-each f.cut f.spare xs f.none);
      total = rw e (omega (arith, cut_sum f.cut f.spare xs, f.cuts.counted, f.cuts.enough));
      in-rank = rw e (cut-rank f.cut f.spare xs);
    }

-- ---- and no other rule is in rank

-- of two lists in rank the one that gives the first none gives no more to the others
less-after : (x : ℕ) (xs ms ns : List ℕ) → Each (NotPassed x 1) xs ms → Each (NotPassed x 0) xs ns → Every (λ n. n ≤ 1) ns → sum ns ≤ sum ms
unfolding sum
less-after x [] [] [] e f o = omega arith
less-after x [] [] (n ∷ ns) e f o = absurd f
less-after x [] (m ∷ ms) ns e f o = absurd e
less-after x (y ∷ ys) [] ns e f o = absurd e
less-after x (y ∷ ys) (m ∷ ms) [] e f o = absurd f
less-after x (y ∷ ys) (m ∷ ms) (n ∷ ns) e f o =
    ⊎_elim
    (λ h. omega (arith, f.0.0 h, less-after x ys ms ns e.1 f.1 o.1))
    (λ h. omega (arith, e.0.1 h, o.0, less-after x ys ms ns e.1 f.1 o.1))
    (le-or-lt y x)

pub rank-only : (xs ms ns : List ℕ) → InRank xs ms → InRank xs ns → Every (λ m. m ≤ 1) ms → Every (λ n. n ≤ 1) ns → sum ms ≡ sum ns → ms ≡ ns
unfolding sum
rank-only [] [] [] e f o p q = refl
rank-only [] [] (n ∷ ns) e f o p q = absurd f
rank-only [] (m ∷ ms) ns e f o p q = absurd e
rank-only (x ∷ xs) [] ns e f o p q = absurd e
rank-only (x ∷ xs) (m ∷ ms) [] e f o p q = absurd f
rank-only (x ∷ xs) (m ∷ ms) (n ∷ ns) e f o p q =
    let same : m ≡ n = ⊎_elim (λ h. ⊎_elim (λ g. omega arith) (λ g. absurd (ahead n m ns ms f.0 e.0 g p.0 o.1 (sym q))) (le-or-lt n m)) (λ h. absurd (ahead m n ms ns e.0 f.0 h o.0 p.1 q)) (le-or-lt m n) in
    ap₂ {C = List ℕ} (λ y ys. y ∷ ys) same (rank-only xs ms ns e.1 f.1 o.1 p.1 (omega arith))
  where
    ahead : (m n : ℕ) (ms ns : List ℕ) → Each (NotPassed x m) xs ms → Each (NotPassed x n) xs ns → n < m → m ≤ 1 → Every (λ k. k ≤ 1) ns → m + sum ms ≡ n + sum ns → ⊥
    ahead m n ms ns e f h l p q =
        let a : m ≡ 1 = omega arith in
        let b : n ≡ 0 = omega arith in
        omega (arith, less-after x xs ms ns (rw a at e) (rw b at f) p)

-- the marks of any rule are at most one
pub marks-one : (ss ms : List ℕ) → Each Mark ss ms → Every (λ m. m ≤ 1) ms
marks-one [] [] e = tt
marks-one [] (m ∷ ms) e = absurd e
marks-one (s ∷ ss) [] e = absurd e
marks-one (s ∷ ss) (m ∷ ms) e = (e.0.0, marks-one ss ms e.1)

-- ---- a cut of some of a list is a cut of the list

-- at least p, and not: the two together
pub upper-lower : (p : ℕ) (xs : List ℕ) → how_many (leb p) xs + how_many (λ x. not (leb p x)) xs ≡ length xs
unfolding filter
upper-lower p [] = omega arith
upper-lower p (x ∷ xs) = go (leb p x) refl (upper-lower p xs)
  where
    go : (b : Bool) → leb p x ≡ b → how_many (leb p) xs + how_many (λ y. not (leb p y)) xs ≡ length xs → how_many (leb p) (x ∷ xs) + how_many (λ y. not (leb p y)) (x ∷ xs) ≡ suc (length xs)
    go true e i = omega (arith, many-pass (leb p) x xs e, many-fail (λ y. not (leb p y)) x xs (ap not e))
    go false e i = omega (arith, many-fail (leb p) x xs e, many-pass (λ y. not (leb p y)) x xs (ap not e))

-- those of a list that pass one test, counted by another that tells them apart, or none of them
many-some : (t u : ℕ → Bool) (xs : List ℕ) → ((x : ℕ) → t x ≡ true → u x ≡ true) → how_many t (filter u xs) ≡ how_many t xs
many-some t u xs h = ap length (filter-filter t u t xs (λ x _. and_first (u x) (t x) (h x)))

many-none : (t u : ℕ → Bool) (xs : List ℕ) → ((x : ℕ) → t x ≡ true → u x ≡ false) → how_many t (filter u xs) ≡ 0
many-none t u xs h =
    ap length (filter-filter t u (λ _. false) xs (λ x _. and_none (u x) (t x) (h x)) ∙ filter_none (λ _. false) xs (every_any (λ _. false ≡ false) xs (λ _. refl)))

module _ (p k c s : ℕ) (xs : List ℕ) (some : 0 < s) where
  -- among those that are at least p
  pub cut-upper : Cuts k (filter (leb p) xs) c s → Cuts k xs c s
  cut-upper h =
      ⊎_elim
      (λ l. record {
        counted = omega (arith, h.counted, many-some (ltb c) (leb p) xs (λ x e. le-leb p x (omega (arith, ltb-true c x e))));
        enough = omega (arith, h.enough, many-some (eqb c) (leb p) xs (λ x e. le-leb p x (omega (arith, eqb-true c x e))));
      })
      (λ l. absurd (omega (arith, h.enough, many-none (eqb c) (leb p) xs (λ x e. lt-leb p x (omega (arith, eqb-true c x e))))))
      (le-or-lt p c)

  -- among the lower ones: all that are at least p are above it
  pub cut-lower : Cuts k (filter (λ x. not (leb p x)) xs) c s → Cuts (how_many (leb p) xs + k) xs c s
  cut-lower h =
      ⊎_elim
      (λ l. absurd (omega (arith, h.enough, many-none (eqb c) (λ x. not (leb p x)) xs (λ x e. ap not (le-leb p x (omega (arith, eqb-true c x e)))))))
      (λ l. record {
        counted = omega (arith, h.counted, between l);
        enough = omega (arith, h.enough, many-some (eqb c) (λ x. not (leb p x)) xs (λ x e. ap not (lt-leb p x (omega (arith, eqb-true c x e)))));
      })
      (le-or-lt p c)
    where
      one : (a b : Bool) → (a ≡ true → b ≡ true) → cond b 1 0 ≡ cond a 1 0 + cond (not a && b) 1 0
      one true b f = rw (f refl) (omega arith)
      one false b f = omega arith

      between : c < p → how_many (ltb c) xs ≡ how_many (leb p) xs + how_many (ltb c) (filter (λ x. not (leb p x)) xs)
      between l =
          many-both (ltb c) (leb p) (λ x. not (leb p x) && ltb c x) (λ x. one (leb p x) (ltb c x) (λ e. lt-ltb c x (omega (arith, leb-true p x e)))) xs
          ∙ ap (λ (ys : List ℕ). how_many (leb p) xs + length ys) (sym (filter-filter (ltb c) (λ x. not (leb p x)) (λ x. not (leb p x) && ltb c x) xs (λ x _. refl)))

-- ---- by the mean

-- all are at least p: what is above p is over in their sum
all_upper : (p : ℕ) (xs : List ℕ) → how_many (leb p) xs ≡ length xs → p * length xs + how_many (ltb p) xs ≤ sum xs
unfolding sum filter
all_upper p [] h = omega (arith, mul-zero p)
all_upper p (x ∷ xs) h = go (side p x) (all_upper p xs)
  where
    go : Side p x → (how_many (leb p) xs ≡ length xs → p * length xs + how_many (ltb p) xs ≤ sum xs) → p * suc (length xs) + how_many (ltb p) (x ∷ xs) ≤ x + sum xs
    go (above l e f) i = omega (arith, mul-suc p (length xs), many-pass (ltb p) x xs e, i (omega (arith, many-pass (leb p) x xs (le-leb p x (omega arith)))))
    go (level l e f) i = omega (arith, mul-suc p (length xs), many-fail (ltb p) x xs e, i (omega (arith, many-pass (leb p) x xs (le-leb p x (omega arith)))))
    go (below l e f) i = absurd (omega (arith, filter-length (leb p) xs, many-fail (leb p) x xs (lt-leb p x l)))

-- where all are at least the mean, all are at it, and there is the cut
pub cut_level : (p k : ℕ) (xs : List ℕ) → how_many (leb p) xs ≡ length xs → sum xs ≤ p * length xs → k ≤ length xs → Cuts k xs p k
cut_level p k xs h l g = let e : how_many (ltb p) xs ≡ 0 = omega (arith, all_upper p xs h) in record { counted = omega arith; enough = omega (arith, at_least p xs) }

-- all are below p
none-upper : (p : ℕ) (xs : List ℕ) → how_many (leb p) xs ≡ 0 → sum xs + length xs ≤ p * length xs
unfolding sum filter
none-upper p [] h = omega arith
none-upper p (x ∷ xs) h =
    ⊎_elim
    (λ l. absurd (omega (arith, many-pass (leb p) x xs (le-leb p x l))))
    (λ l. omega (arith, mul-suc p (length xs), none-upper p xs (omega (arith, many-fail (leb p) x xs (lt-leb p x l)))))
    (le-or-lt p x)

-- some are at least the mean
pub some_upper : (p : ℕ) (xs : List ℕ) → p * length xs < sum xs + length xs → 0 < how_many (leb p) xs
some_upper p xs h = ⊎_elim (λ l. l) (λ l. absurd (omega (arith, none-upper p xs (omega arith)))) (le-or-lt 1 (how_many (leb p) xs))
