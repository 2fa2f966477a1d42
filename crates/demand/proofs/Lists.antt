-- Laws of the lists behind `Trade`: what holds of all, what is kept, what a party gets.
use mathlib.Core.Path.{◌≡◌, refl, sym, ap, ap₂, ◌∙◌, subst}
use mathlib.Core.Bool.{Bool, true, false, cond, ◌&&◌}
use mathlib.Core.List.{List, [], ◌∷◌, ◌++◌}
use mathlib.Core.Logic.{inl, inr, ◌≢◌}
use Prim.Native.Nat.{ℕ, ◌+◌, ◌≤◌, ◌<◌}
use native.Mathlib.Omega.{arith}
use borrow.Author.Tests.{ltb-true, ltb-false, eqb-false, eq-eqb, ne_eqb}
use lib.Dec.{ltb, eqb}
use lib.ListN.{length}
use Rattle.board.specs.declared.Response.{Response}
use Rattle.base.proofs.ListLaws.{every_append, every_map, every_in, every-filter}
use Rattle.base.specs.Lists.{Every, keep, filter, In}
use Rattle.share.specs.promises.Share.{Each}
use Rattle.share.specs.rules.Fills.{Fill, fill_of, fills_by, sizes}
use Rattle.trade.specs.rules.Trade.{traded}
use Rattle.demand.specs.promises.Demands.{Absent, Distinct, tally, got, gots, sold_at}

-- responses and quantities side by side
abbrev pub Pairs : (Response → ℕ → Type 0) → List Response → List ℕ → Type 0
Pairs P [] [] = Unit {0}
Pairs P [] (q ∷ qs) = ⊥
Pairs P (o ∷ os) [] = ⊥
Pairs P (o ∷ os) (q ∷ qs) = P o q × Pairs P os qs

pub distinct-keep : (t : Response → Bool) (os : List Response) → Distinct os → Distinct (filter t os)
unfolding filter
distinct-keep t [] d = tt
distinct-keep t (o ∷ os) d = go (t o) (distinct-keep t os d.1)
  where
    go : (b : Bool) → Distinct (filter t os) → Distinct (keep b o (filter t os))
    go true r = (every-filter (λ x. x.sequence ≢ o.sequence) t os d.0, r)
    go false r = r

-- a response that is not kept leaves no response of its sequence
pub absent-keep : (t : Response → Bool) (os : List Response) (o : Response) → Distinct os → In o os → t o ≡ false → Absent o.sequence (filter t os)
unfolding filter
absent-keep t [] o d m e = absurd m
absent-keep t (x ∷ xs) o d (inl p) e =
    rw (ap t (sym p) ∙ e) (subst (λ y. Absent y.sequence (filter t xs)) (sym p) (every-filter (λ y. y.sequence ≢ x.sequence) t xs d.0))
absent-keep t (x ∷ xs) o d (inr m) e = go (t x) (absent-keep t xs o d.1 m e)
  where
    apart : x.sequence ≢ o.sequence
    apart q = every_in (λ y. y.sequence ≢ x.sequence) xs o d.0 m (sym q)

    go : (b : Bool) → Absent o.sequence (filter t xs) → Absent o.sequence (keep b x (filter t xs))
    go true r = (apart, r)
    go false r = r

-- ---- tallies

pub tally-append : (t : Fill → Bool) (fs gs : List Fill) → tally t (fs ++ gs) ≡ tally t fs + tally t gs
tally-append t [] gs = omega arith
tally-append t (f ∷ fs) gs = omega (arith, tally-append t fs gs)

pub tally-none : (t : Fill → Bool) (fs : List Fill) → Every (λ f. t f ≡ false) fs → tally t fs ≡ 0
tally-none t [] a = refl
tally-none t (f ∷ fs) a = rw a.0 (omega (arith, tally-none t fs a.1))

pub tally-all : (t : Fill → Bool) (fs : List Fill) → Every (λ f. t f ≡ true) fs → tally t fs ≡ traded fs
tally-all t [] a = refl
tally-all t (f ∷ fs) a = rw a.0 (omega (arith, tally-all t fs a.1))

pub tally-le : (t : Fill → Bool) (fs : List Fill) → tally t fs ≤ traded fs
tally-le t [] = omega arith
tally-le t (f ∷ fs) = go (t f) (tally-le t fs)
  where
    go : (b : Bool) → tally t fs ≤ traded fs → cond b f.quantity 0 + tally t fs ≤ f.quantity + traded fs
    go true h = omega arith
    go false h = omega arith

pub tally-and : (s t : Fill → Bool) (fs : List Fill) → tally (λ f. s f && t f) fs ≤ tally s fs
tally-and s t [] = omega arith
tally-and s t (f ∷ fs) = go (s f) (t f) (tally-and s t fs)
  where
    go : (a b : Bool) → tally (λ f. s f && t f) fs ≤ tally s fs → cond (a && b) f.quantity 0 + tally (λ f. s f && t f) fs ≤ cond a f.quantity 0 + tally s fs
    go true true h = omega arith
    go true false h = omega arith
    go false b h = omega arith

pub got-none : (k : ℕ) (fs : List Fill) → Every (λ f. f.party ≢ k) fs → got k fs ≡ 0
got-none k fs a = tally-none _ fs (every_map (λ f. f.party ≢ k) (λ f. eqb f.party k ≡ false) fs (λ f h. ne_eqb f.party k h) a)

pub sold_at-none : (p : ℕ) (fs : List Fill) → Every (λ f. f.price ≢ p) fs → sold_at p fs ≡ 0
sold_at-none p fs a = tally-none _ fs (every_map (λ f. f.price ≢ p) (λ f. eqb f.price p ≡ false) fs (λ f h. ne_eqb f.price p h) a)

-- a party that gets nothing has no fill, where none is of zero
pub got-zero : (k : ℕ) (fs : List Fill) → Every (λ f. 0 < f.quantity) fs → got k fs ≡ 0 → Every (λ f. f.party ≢ k) fs
got-zero k [] a e = tt
got-zero k (f ∷ fs) a e = go (eqb f.party k) refl e (got-zero k fs a.1)
  where
    go : (b : Bool) → eqb f.party k ≡ b → cond b f.quantity 0 + got k fs ≡ 0 → (got k fs ≡ 0 → Every (λ f. f.party ≢ k) fs) → Every (λ f. f.party ≢ k) (f ∷ fs)
    go true q z ih = absurd (omega (arith, a.0))
    go false q z ih = (eqb-false f.party k q, ih (omega arith))

-- ---- one fill

pub got-fill : (k p q : ℕ) → got k (fill_of k p q) ≡ q
got-fill k p q = go (ltb 0 q) refl
  where
    go : (b : Bool) → ltb 0 q ≡ b → got k (keep b (record { party = k; price = p; quantity = q }) []) ≡ q
    go true e = rw (eq-eqb k k refl) (omega arith)
    go false e = omega (arith, ltb-false 0 q e)

-- what holds of a fill that has a quantity
pub all-fill : (P : Fill → Type 0) (k p q : ℕ) → (0 < q → P (record { party = k; price = p; quantity = q })) → Every P (fill_of k p q)
all-fill P k p q h = go (ltb 0 q) refl
  where
    go : (b : Bool) → ltb 0 q ≡ b → Every P (keep b (record { party = k; price = p; quantity = q }) [])
    go true e = (h (ltb-true 0 q e), tt)
    go false e = tt

-- ---- fills of a list of responses

-- each fill has the price p, a quantity, and a party that passes
pub all-by : (P : Fill → Type 0) (Q : Response → Type 0) (p : ℕ) → ((o : Response) (q : ℕ) → Q o → 0 < q → P (record { party = o.sequence; price = p; quantity = q }))
    → (os : List Response) (qs : List ℕ) → Every Q os → Every P (fills_by p os qs)
all-by P Q p f [] qs a = tt
all-by P Q p f (o ∷ os) [] a = tt
all-by P Q p f (o ∷ os) (q ∷ qs) a =
    every_append P (fill_of o.sequence p q) (fills_by p os qs) (all-fill P o.sequence p q (f o q a.0)) (all-by P Q p f os qs a.1)

pub absent_by : (k p : ℕ) (os : List Response) (qs : List ℕ) → Absent k os → Every (λ f. f.party ≢ k) (fills_by p os qs)
absent_by k p os qs a = all-by (λ f. f.party ≢ k) (λ o. o.sequence ≢ k) p (λ o q h z. h) os qs a

-- what a response of the list gets is its quantity
pub got-by : (P : Response → ℕ → Type 0) (p : ℕ) (os : List Response) (qs : List ℕ) (o : Response) → Distinct os → In o os → Pairs P os qs → P o (got o.sequence (fills_by p os qs))
got-by P p [] qs o d m a = absurd m
got-by P p (x ∷ xs) [] o d m a = absurd a
got-by P p (x ∷ xs) (q ∷ qs) o d (inl e) a =
    let k = x.sequence in
    let g : got k (fill_of k p q ++ fills_by p xs qs) ≡ q =
    omega (arith, tally-append (λ f. eqb f.party k) (fill_of k p q) (fills_by p xs qs), got-fill k p q, got-none k (fills_by p xs qs) (absent_by k p xs qs d.0)) in
    subst (λ y. P y (got y.sequence (fill_of k p q ++ fills_by p xs qs))) (sym e) (subst (λ n. P x n) (sym g) a.0)
got-by P p (x ∷ xs) (q ∷ qs) o d (inr m) a =
    let k = o.sequence in
    let apart : x.sequence ≢ k = λ e. every_in (λ y. y.sequence ≢ x.sequence) xs o d.0 m (sym e) in
    let z : got k (fill_of x.sequence p q) ≡ 0 = got-none k (fill_of x.sequence p q) (all-fill (λ f. f.party ≢ k) x.sequence p q (λ h. apart)) in
    let g : got k (fill_of x.sequence p q ++ fills_by p xs qs) ≡ got k (fills_by p xs qs) =
    omega (arith, tally-append (λ f. eqb f.party k) (fill_of x.sequence p q) (fills_by p xs qs)) in
    subst (λ n. P o n) (sym g) (got-by P p xs qs o d.1 m a.1)

pub gots-same : (fs gs : List Fill) (os : List Response) → ((o : Response) → In o os → got o.sequence fs ≡ got o.sequence gs) → gots fs os ≡ gots gs os
gots-same fs gs [] h = refl
gots-same fs gs (o ∷ os) h = ap₂ {C = List ℕ} (λ x y. x ∷ y) (h o (inl refl)) (gots-same fs gs os (λ x m. h x (inr m)))

pub gots-by : (p : ℕ) (os : List Response) (qs : List ℕ) → Distinct os → length qs ≡ length (sizes os) → gots (fills_by p os qs) os ≡ qs
gots-by p [] [] d e = refl
gots-by p [] (q ∷ qs) d e = let f : ⊥ = omega arith in absurd f
gots-by p (o ∷ os) [] d e = let f : ⊥ = omega arith in absurd f
gots-by p (o ∷ os) (q ∷ qs) d e =
    let k = o.sequence in
    let h : got k (fill_of k p q ++ fills_by p os qs) ≡ q =
    omega (arith, tally-append (λ f. eqb f.party k) (fill_of k p q) (fills_by p os qs), got-fill k p q, got-none k (fills_by p os qs) (absent_by k p os qs d.0)) in
    ap₂ {C = List ℕ} (λ x y. x ∷ y) h
    (gots-same (fill_of k p q ++ fills_by p os qs) (fills_by p os qs) os
    (λ x m.
    let apart : k ≢ x.sequence = λ z. every_in (λ y. y.sequence ≢ k) os x d.0 m (sym z) in
    omega (arith, tally-append (λ f. eqb f.party x.sequence) (fill_of k p q) (fills_by p os qs), got-none x.sequence (fill_of k p q) (all-fill (λ f. f.party ≢ x.sequence) k p q (λ h. apart))))
    ∙ gots-by p os qs d.1 (omega arith))

-- from the laws over sizes
pub pairs_of : (P : ℕ → ℕ → Type 0) (os : List Response) (qs : List ℕ) → Each P (sizes os) qs → Pairs (λ o q. P o.size q) os qs
pairs_of P [] [] e = tt
pairs_of P [] (q ∷ qs) e = absurd e
pairs_of P (o ∷ os) [] e = absurd e
pairs_of P (o ∷ os) (q ∷ qs) e = (e.0, pairs_of P os qs e.1)
