-- Each party has at most one fill at a price.
use mathlib.Core.Path.{◌≡◌, refl, ap, ◌∙◌, sym, subst}
use mathlib.Core.Bool.{Bool, true, false, not, ◌&&◌}
use mathlib.Core.List.{List, [], ◌∷◌, ◌++◌}
use mathlib.Core.Logic.{◌≢◌}
use Prim.Native.Nat.{ℕ, suc, ◌+◌, ◌≤◌, ◌-◌}
use native.Mathlib.Omega.{arith}
use borrow.Author.Tests.{eqb-true, eqb-false, ne_eqb}
use lib.Dec.{eqb}
use lib.ListN.{length, length-append}
use Rattle.board.specs.declared.Response.{Response}
use Rattle.base.proofs.Bools.{and-no-right}
use Rattle.base.proofs.ListLaws.{filter-append, filter_none, filter-length, every_map}
use Rattle.base.specs.Lists.{Every, keep, filter}
use Rattle.share.specs.rules.Share.{in_turn}
use Rattle.share.specs.rules.Fills.{Fill, fill_of, fills_by, sizes}
use Rattle.trade.specs.declared.Deal.{Deal}
use Rattle.trade.specs.rules.Trade.{from_customer, Level, customers, others, given, contra, level_fills, flat, working, offers_at, traded}
use Rattle.demand.specs.promises.Demands.{Absent, Distinct, times}
use Rattle.trade.proofs.Counts.{length-fill}
use Rattle.demand.proofs.Lists.{all-fill, distinct-keep}
use Rattle.demand.proofs.Levels.{all-level}
use Rattle.demand.proofs.Walk.{Walkable, Good, Run}
use Rattle.demand.proofs.Runs.{no-contra, run-from}

-- how many responses a party has
pub occ : ℕ → List Response → ℕ
occ k os = length (filter (λ o. eqb o.sequence k) os)

-- where none passes, none is counted
none_kept : {A : Type 0} (t : A → Bool) (xs : List A) → Every (λ x. t x ≡ false) xs → length (filter t xs) ≡ 0
none_kept t xs a = ap length (filter_none t xs a)

pub times-append : (k p : ℕ) (fs gs : List Fill) → times k p (fs ++ gs) ≡ times k p fs + times k p gs
times-append k p fs gs =
    let t : Fill → Bool = λ f. eqb f.party k && eqb f.price p in
    ap length (filter-append t fs gs) ∙ length-append (filter t fs) (filter t gs)

pub times-price : (k p : ℕ) (fs : List Fill) → Every (λ f. f.price ≢ p) fs → times k p fs ≡ 0
times-price k p fs a =
    none_kept (λ f. eqb f.party k && eqb f.price p) fs
    (every_map (λ f. f.price ≢ p) (λ f. (eqb f.party k && eqb f.price p) ≡ false) fs (λ f h. and-no-right (eqb f.party k) (ne_eqb f.price p h)) a)

pub times-party : (k p : ℕ) (fs : List Fill) → Every (λ f. f.party ≢ k) fs → times k p fs ≡ 0
times-party k p fs a =
    none_kept (λ f. eqb f.party k && eqb f.price p) fs
    (every_map (λ f. f.party ≢ k) (λ f. (eqb f.party k && eqb f.price p) ≡ false) fs (λ f h. rw (ne_eqb f.party k h)) a)

pub times-fill : (k p : ℕ) (j r q : ℕ) → times k p (fill_of j r q) ≤ 1
times-fill k p j r q =
    omega (arith, filter-length (λ f. eqb f.party k && eqb f.price p) (fill_of j r q), length-fill j r q)

times-by : (k p r : ℕ) (os : List Response) (qs : List ℕ) → times k p (fills_by r os qs) ≤ occ k os
unfolding occ filter
times-by k p r [] qs = omega arith
times-by k p r (o ∷ os) [] = omega arith
times-by k p r (o ∷ os) (q ∷ qs) = go (eqb o.sequence k) refl (times-by k p r os qs)
  where
    go : (b : Bool) → eqb o.sequence k ≡ b → times k p (fills_by r os qs) ≤ length (filter (λ x. eqb x.sequence k) os)
        → times k p (fill_of o.sequence r q ++ fills_by r os qs) ≤ length (keep b o (filter (λ x. eqb x.sequence k) os))
    go true e h = omega (arith, times-append k p (fill_of o.sequence r q) (fills_by r os qs), times-fill k p o.sequence r q)
    go false e h = omega (arith, times-append k p (fill_of o.sequence r q) (fills_by r os qs), times-party k p (fill_of o.sequence r q) (all-fill (λ f. f.party ≢ k) o.sequence r q (λ z. eqb-false o.sequence k e)))

-- the party's responses among Customers and others
occ-keep : (k : ℕ) (t : Response → Bool) (os : List Response) → occ k (filter t os) + occ k (filter (λ o. not (t o)) os) ≡ occ k os
unfolding occ filter
occ-keep k t [] = refl
occ-keep k t (o ∷ os) = go (t o) (eqb o.sequence k) refl (occ-keep k t os)
  where
    has : List Response → ℕ
    has xs = length (filter (λ x. eqb x.sequence k) xs)

    step : (c : Bool) (n : ℕ) → ℕ
    step true n = suc n
    step false n = n

    go : (b c : Bool) → eqb o.sequence k ≡ c → has (filter t os) + has (filter (λ x. not (t x)) os) ≡ has os
        → has (keep b o (filter t os)) + has (keep (not b) o (filter (λ x. not (t x)) os)) ≡ length (keep c o (filter (λ x. eqb x.sequence k) os))
    go true true e h = rw e (omega arith)
    go true false e h = rw e h
    go false true e h = rw e (omega arith)
    go false false e h = rw e h

occ-none : (k : ℕ) (os : List Response) → Absent k os → occ k os ≡ 0
unfolding occ filter
occ-none k os a = none_kept (λ o. eqb o.sequence k) os (every_map (λ o. o.sequence ≢ k) (λ o. eqb o.sequence k ≡ false) os (λ o h. ne_eqb o.sequence k h) a)

occ-once : (k : ℕ) (os : List Response) → Distinct os → occ k os ≤ 1
unfolding occ filter
occ-once k [] d = omega arith
occ-once k (o ∷ os) d = go (eqb o.sequence k) refl (occ-once k os d.1)
  where
    go : (b : Bool) → eqb o.sequence k ≡ b → length (filter (λ x. eqb x.sequence k) os) ≤ 1 → length (keep b o (filter (λ x. eqb x.sequence k) os)) ≤ 1
    go true e h = omega (arith, occ-none k os (subst (λ n. Absent n os) (eqb-true o.sequence k e) d.0))
    go false e h = h

-- at one price
pub times-level : (l : Level) (k p : ℕ) → Distinct l.here → Absent 0 l.here → times k p (level_fills l) ≤ 1
unfolding level_fills
times-level l k p d z = go (eqb 0 k) refl
  where
    a : List Fill
    a = fills_by l.price (customers l) (in_turn l.left (sizes (customers l)))

    b : List Fill
    b = fill_of 0 l.price (contra l)

    c : List Fill
    c = fills_by l.price (others l) (given l)

    both : times k p a + times k p c ≤ occ k l.here
    both = omega (arith, times-by k p l.price (customers l) (in_turn l.left (sizes (customers l))), times-by k p l.price (others l) (given l), occ-keep k from_customer l.here)

    go : (t : Bool) → eqb 0 k ≡ t → times k p (a ++ (b ++ c)) ≤ 1
    go true e =
        omega (
          arith,
          times-append k p a (b ++ c),
          times-append k p b c,
          both,
          times-fill k p 0 l.price (contra l),
          occ-none k l.here (subst (λ n. Absent n l.here) (eqb-true 0 k e) z),
        )
    go false e =
        omega (
          arith,
          times-append k p a (b ++ c),
          times-append k p b c,
          both,
          occ-once k l.here d,
          times-party k p b (all-fill (λ f. f.party ≢ k) 0 l.price (contra l) (λ h. eqb-false 0 k e)),
        )

module _ (d : Deal) (rs : List Response) (s : Walkable d rs) where
  distinct-here : (from left held : ℕ) (l : Level) → Good d rs from left held l → Distinct l.here
  unfolding offers_at
  distinct-here from left held l g = subst Distinct (sym g.here-are) (distinct-keep (λ x. eqb (working d x) l.price) rs s.distinct)

  pub run-once : (k p from left held : ℕ) (ls : List Level) → Run d rs from left held ls → times k p (flat ls) ≤ 1
  unfolding filter
  run-once k p from left held [] r = omega arith
  run-once k p from left held (l ∷ ls) r = go (eqb l.price p) refl (run-once k p (l.price + 1) (left - traded (level_fills l)) (held + contra l) ls r.1)
    where
      go : (b : Bool) → eqb l.price p ≡ b → times k p (flat ls) ≤ 1 → times k p (level_fills l ++ flat ls) ≤ 1
      go true e h =
          let q : l.price ≡ p = eqb-true l.price p e in
          omega (
            arith,
            times-append k p (level_fills l) (flat ls),
            times-level l k p (distinct-here from left held l r.0) (no-contra d rs s from left held l r.0),
            times-price k p (flat ls) (every_map (λ f. l.price + 1 ≤ f.price) (λ f. f.price ≢ p) (flat ls) (λ f z. omega arith) (run-from d rs s (l.price + 1) (left - traded (level_fills l)) (held + contra l) ls r.1)),
          )
      go false e h =
          let q : l.price ≢ p = eqb-false l.price p e in
          omega (arith, times-append k p (level_fills l) (flat ls), times-price k p (level_fills l) (all-level l (λ f. f.price ≢ p) (λ x y z. q)))
