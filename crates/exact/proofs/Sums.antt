-- What trades at a price is what the Contra Order and the responses there have. Assumes nothing.
use mathlib.Core.Path.{◌≡◌, refl, sym, ap, subst, ◌∙◌}
use mathlib.Core.Bool.{Bool, true, false, cond, not, ◌&&◌, ◌||◌}
use mathlib.Core.List.{List, [], ◌∷◌}
use mathlib.Core.Logic.{◌⊎◌, inl, inr, ⊎_elim, ◌≢◌}
use Prim.Native.Nat.{ℕ, ◌+◌, ◌-◌, ◌<◌, min}
use native.Mathlib.Omega.{arith}
use borrow.Author.Tests.{eqb-true, eq-eqb, ne_eqb}
use lib.Dec.{eqb}
use Rattle.base.specs.Lists.{Every, In, keep, filter, sum}
use Rattle.base.proofs.ListLaws.{every_map, every_in, every-filter, every-with, in-filter}
use Rattle.board.specs.declared.Response.{Response}
use Rattle.share.specs.rules.Fills.{Fill, sizes}
use Rattle.share.proofs.ShareLaws.{turn-sum, shares_sum}
use Rattle.trade.specs.declared.Deal.{Deal}
use Rattle.trade.specs.rules.Trade.{from_customer, from_other}
use Rattle.demand.specs.promises.Demands.{Absent, Distinct, got_at, sold_at}
use Rattle.demand.proofs.Lists.{distinct-keep}
use Rattle.exact.specs.rules.EitherSide.{gots_at}
use Rattle.exact.specs.rules.WhoTrades.{working_price, all_at, customers_at, others_at, left_at, plan_at, contra_first, left_to_others, AtPrice}
use Rattle.exact.specs.promises.Fair.{Apart}

-- ---- the party of a fill

-- the sequence k is one of the list's
is_one : ℕ → List Response → Bool
is_one k [] = false
is_one k (r ∷ rs) = eqb k r.sequence || is_one k rs

absent-one : (k : ℕ) (rs : List Response) → Absent k rs → is_one k rs ≡ false
unfolding is_one
absent-one k [] a = refl
absent-one k (r ∷ rs) a = rw (ne_eqb k r.sequence (λ e. a.0 (sym e))) (absent-one k rs a.1)

in_one : (k : ℕ) (rs : List Response) (r : Response) → In r rs → r.sequence ≡ k → is_one k rs ≡ true
unfolding is_one
in_one k [] r i e = absurd i
in_one k (x ∷ xs) r (inl z) e = rw (eq-eqb k x.sequence (sym e ∙ ap (λ (y : Response). y.sequence) z)) refl
in_one k (x ∷ xs) r (inr i) e = rw (in_one k xs r i e) (or-true (eqb k x.sequence))
  where
    or-true : (b : Bool) → (b || true) ≡ true
    or-true true = refl
    or-true false = refl

-- ---- one fill more

gots-empty : (p : ℕ) (xs : List Response) → sum (gots_at p [] xs) ≡ 0
unfolding sum
gots-empty p [] = refl
gots-empty p (x ∷ xs) = omega (arith, gots-empty p xs)

gots-more : (p : ℕ) (f : Fill) (fs : List Fill) (xs : List Response) → Distinct xs
    → sum (gots_at p (f ∷ fs) xs) ≡ cond (is_one f.party xs && eqb f.price p) f.quantity 0 + sum (gots_at p fs xs)
unfolding sum is_one
gots-more p f fs [] d = refl
gots-more p f fs (x ∷ xs) d = go (eqb f.party x.sequence) refl (gots-more p f fs xs d.1)
  where
    go : (b : Bool) → eqb f.party x.sequence ≡ b
        → sum (gots_at p (f ∷ fs) xs) ≡ cond (is_one f.party xs && eqb f.price p) f.quantity 0 + sum (gots_at p fs xs)
        → cond (b && eqb f.price p) f.quantity 0 + got_at x.sequence p fs + sum (gots_at p (f ∷ fs) xs)
        ≡ cond ((b || is_one f.party xs) && eqb f.price p) f.quantity 0 + (got_at x.sequence p fs + sum (gots_at p fs xs))
    go true e ih =
        let n : is_one f.party xs ≡ false = absent-one f.party xs (subst (λ (k : ℕ). Absent k xs) (sym (eqb-true f.party x.sequence e)) d.0) in
        let z : cond (is_one f.party xs && eqb f.price p) f.quantity 0 ≡ 0 = ap (λ (b : Bool). cond (b && eqb f.price p) f.quantity 0) n in
        omega (arith, ih, z)
    go false e ih = omega (arith, ih)

-- ---- all fills

sold-parts : (p : ℕ) (xs : List Response) (fs : List Fill) → Every (λ r. 0 < r.sequence) xs → Distinct xs
    → Every (λ f. f.price ≡ p → (f.party ≡ 0) ⊎ ((r : Response) × In r xs × (r.sequence ≡ f.party))) fs → sold_at p fs ≡ got_at 0 p fs + sum (gots_at p fs xs)
sold-parts p xs [] z d h = omega (arith, gots-empty p xs)
sold-parts p xs (f ∷ fs) z d h = go (eqb f.price p) refl (sold-parts p xs fs z d h.1)
  where
    more : sum (gots_at p (f ∷ fs) xs) ≡ cond (is_one f.party xs && eqb f.price p) f.quantity 0 + sum (gots_at p fs xs)
    more = gots-more p f fs xs d

    none : f.party ≡ 0 → is_one f.party xs ≡ false
    none e = absent-one f.party xs (every_map (λ r. 0 < r.sequence) (λ r. r.sequence ≢ f.party) xs (λ r l k. omega (arith, k, e)) z)

    go : (b : Bool) → eqb f.price p ≡ b → sold_at p fs ≡ got_at 0 p fs + sum (gots_at p fs xs)
        → sold_at p (f ∷ fs) ≡ got_at 0 p (f ∷ fs) + sum (gots_at p (f ∷ fs) xs)
    go true e ih =
        ⊎_elim
        (λ k. rw (more, e, eq-eqb f.party 0 k, none k) (omega (arith, ih)))
        (λ t.
        let n : f.party ≢ 0 = λ k. omega (arith, k, t.2, every_in (λ r. 0 < r.sequence) xs t.0 z t.1) in
        rw (more, e, ne_eqb f.party 0 n, in_one f.party xs t.0 t.1 t.2) (omega (arith, ih)))
        (h.0 (eqb-true f.price p e))
    go false e ih =
        let a : cond (eqb f.party 0 && eqb f.price p) f.quantity 0 ≡ 0 = rw e (no-and (eqb f.party 0) f.quantity) in
        let b : cond (is_one f.party xs && eqb f.price p) f.quantity 0 ≡ 0 = rw e (no-and (is_one f.party xs) f.quantity) in
        let c : cond (eqb f.price p) f.quantity 0 ≡ 0 = rw e refl in
        omega (arith, more, a, b, c, ih)
      where
        no-and : (b : Bool) (n : ℕ) → cond (b && false) n 0 ≡ 0
        no-and true n = refl
        no-and false n = refl

-- Customers and others are all
gots-split : (p : ℕ) (fs : List Fill) (xs : List Response) → sum (gots_at p fs xs) ≡ sum (gots_at p fs (filter from_customer xs)) + sum (gots_at p fs (filter from_other xs))
unfolding filter sum
gots-split p fs [] = refl
gots-split p fs (x ∷ xs) = go x.customer (gots-split p fs xs)
  where
    go : (b : Bool) → sum (gots_at p fs xs) ≡ sum (gots_at p fs (filter from_customer xs)) + sum (gots_at p fs (filter from_other xs))
        → got_at x.sequence p fs + sum (gots_at p fs xs) ≡ sum (gots_at p fs (keep b x (filter from_customer xs))) + sum (gots_at p fs (keep (not b) x (filter from_other xs)))
    go true ih = omega (arith, ih)
    go false ih = omega (arith, ih)

-- ---- a price of the clauses

-- L is left, C and O are the sizes of Customers and others, W is what the Contra Order wants first
parts-sum : (L C W O : ℕ) (b : Bool) (c k o : ℕ) → c ≡ min L C → o ≡ min (L - C - min (L - C) W) O → k ≡ min (L - C) W + cond b (L - C - min (L - C) W - o) 0
    → k + (c + o) ≡ cond b L (min L (C + O + W))
parts-sum L C W O true c k o e f g = omega (arith, e, f, g)
parts-sum L C W O false c k o e f g = omega (arith, e, f, g)

module _ (sell : Bool) (d : Deal) (rs : List Response) (A : Apart d rs) (ws : List Fill)
    (who : Every (λ f. (f.party ≡ 0) ⊎ ((r : Response) × In r rs × (r.sequence ≡ f.party))) ws)
    (works : (r : Response) → In r rs → Every (λ f. f.party ≡ r.sequence → f.price ≡ working_price sell d r) ws) (p : ℕ) where
  here : Every (λ f. f.price ≡ p → (f.party ≡ 0) ⊎ ((r : Response) × In r (all_at sell d rs p) × (r.sequence ≡ f.party))) ws
  here =
      every-with (λ f. f.price ≡ p → (f.party ≡ 0) ⊎ ((r : Response) × In r (all_at sell d rs p) × (r.sequence ≡ f.party))) ws
      (λ f i e. ⊎_elim (λ z. inl z)
      (λ t.
      let w : f.price ≡ working_price sell d t.0 = every_in (λ g. g.party ≡ t.0.sequence → g.price ≡ working_price sell d t.0) ws f (works t.0 t.1) i (sym t.2) in
      inr (t.0, in-filter (λ x. eqb (working_price sell d x) p) rs t.0 t.1 (eq-eqb (working_price sell d t.0) p (sym w ∙ e)), t.2))
      (every_in (λ g. (g.party ≡ 0) ⊎ ((r : Response) × In r rs × (r.sequence ≡ g.party))) ws f who i))

  -- in all: everything that is left at the clean-up price, else the responses there and what the Contra Order wants, as far as the size goes
  pub sold-is : AtPrice sell d rs ws p
      → sold_at p ws ≡ cond (plan_at sell d rs ws p).final (left_at sell d rs ws p) (min (left_at sell d rs ws p) (sum (sizes (customers_at sell d rs p)) + sum (sizes (others_at sell d rs p)) + (plan_at sell d rs ws p).want))
  sold-is a =
      let all : sold_at p ws ≡ got_at 0 p ws + sum (gots_at p ws (all_at sell d rs p)) =
      sold-parts p (all_at sell d rs p) ws (every-filter (λ r. 0 < r.sequence) (λ x. eqb (working_price sell d x) p) rs A.parties) (distinct-keep (λ x. eqb (working_price sell d x) p) rs A.distinct) here in
      let c : sum (gots_at p ws (customers_at sell d rs p)) ≡ min (left_at sell d rs ws p) (sum (sizes (customers_at sell d rs p))) = ap sum a.customers ∙ turn-sum (left_at sell d rs ws p) (sizes (customers_at sell d rs p)) in
      let o : sum (gots_at p ws (others_at sell d rs p)) ≡ min (left_to_others sell d rs ws p) (sum (sizes (others_at sell d rs p))) = ap sum a.others ∙ shares_sum (left_to_others sell d rs ws p) (sizes (others_at sell d rs p)) in
      let k : got_at 0 p ws ≡ contra_first sell d rs ws p + cond (plan_at sell d rs ws p).final (left_to_others sell d rs ws p - sum (gots_at p ws (others_at sell d rs p))) 0 =
      a.contra ∙ ap (λ (xs : List ℕ). contra_first sell d rs ws p + cond (plan_at sell d rs ws p).final (left_to_others sell d rs ws p - sum xs) 0) (sym a.others) in
      all ∙ ap (λ (n : ℕ). got_at 0 p ws + n) (gots-split p ws (all_at sell d rs p))
      ∙ parts-sum (left_at sell d rs ws p) (sum (sizes (customers_at sell d rs p))) (plan_at sell d rs ws p).want (sum (sizes (others_at sell d rs p))) (plan_at sell d rs ws p).final
      (sum (gots_at p ws (customers_at sell d rs p))) (got_at 0 p ws) (sum (gots_at p ws (others_at sell d rs p))) c o k
