-- The others at a price of the buy: what is left to them, by the price alone. Assumes nothing.
use mathlib.Core.Path.{◌≡◌, refl, sym, ap, ap₂, subst, ◌∙◌}
use mathlib.Core.Bool.{Bool, true, false, cond, not}
use mathlib.Core.List.{List, [], ◌∷◌}
use mathlib.Core.Logic.{◌⊎◌, inl, inr, ⊎_elim, ◌≢◌}
use Prim.Native.Nat.{ℕ, suc, ◌+◌, ◌*◌, ◌-◌, ◌/◌, ◌≤◌, ◌<◌, min}
use native.Mathlib.Nat.{zero-mul, mul-zero, zero-div}
use native.Mathlib.Omega.{arith}
use borrow.Author.Tests.{eqb-true, eqb-false, eq-eqb, ltb-true, ltb-false, lt-ltb, le-ltb}
use lib.Dec.{ltb, eqb}
use lib.ListN.{length}
use Rattle.base.specs.Lists.{In, Every, filter, sum}
use Rattle.base.proofs.Bools.{no}
use Rattle.base.proofs.Numbers.{le-or-lt}
use Rattle.base.proofs.ListLaws.{every_in, every-filter, every-with, in-filter, filter-test}
use Rattle.board.specs.declared.Response.{Response}
use Rattle.board.specs.declared.Board.{Board}
use Rattle.board.specs.rules.Board.{live_of}
use Rattle.share.specs.rules.Share.{shares}
use Rattle.share.specs.promises.Share.{Near}
use Rattle.share.specs.rules.Fills.{Fill, sizes}
use Rattle.trade.specs.declared.Deal.{Deal}
use Rattle.trade.specs.rules.Plan.{Plan, plan_of}
use Rattle.trade.specs.rules.Trade.{Level, from_customer, from_other, shared, others, level_fills, traded, flat, offers, offers_at, working, working_stop, guarantee, market_price, market_takes, market_fill, levels, fills, contra}
use Rattle.trade.proofs.Lists.{total-append, total-fill}
use Rattle.share.proofs.ShareLaws.{shares_sum, shares-length}
use Rattle.demand.proofs.Fair.{size_in, at-price}
use Rattle.demand.specs.promises.Demands.{Tradable, ByLevel, got, gots, got_below, sold_at, sold_below, sold_above, walked, others_at, plan_on}
use Rattle.demand.proofs.Lists.{sold_at-none}
use Rattle.demand.proofs.Order.{in-sequence, all-sequence}
use Rattle.demand.proofs.Levels.{all-level}
use Rattle.demand.proofs.Walk.{Run}
use Rattle.demand.proofs.Runs.{sold-append, run-each}
use Rattle.demand.proofs.Shares.{got-walk, shared-out}
use Rattle.demand.proofs.Theorems.{fit, the-run, walked-levels, demand3}

-- ---- where anything trades at a price, a level has it

pub record Priced (ls : List Level) (p : ℕ) : Type 0 where
  pub level : Level
  pub one : In level ls
  pub price : level.price ≡ p

run-priced : (d : Deal) (rs : List Response) (p from left held : ℕ) (ls : List Level) → Run d rs from left held ls → 0 < sold_at p (flat ls) → Priced ls p
run-priced d rs p from left held [] r t = absurd (omega arith)
run-priced d rs p from left held (l ∷ ls) r t = go (eqb l.price p) refl (run-priced d rs p (l.price + 1) (left - traded (level_fills l)) (held + contra l) ls r.1)
  where
    go : (b : Bool) → eqb l.price p ≡ b → (0 < sold_at p (flat ls) → Priced ls p) → Priced (l ∷ ls) p
    go true e ih = record { level = l; one = inl refl; price = eqb-true l.price p e }
    go false e ih =
        let k = ih (omega (arith, sold-append p (level_fills l) (flat ls), sold_at-none p (level_fills l) (all-level l (λ f. f.price ≢ p) (λ x y z. eqb-false l.price p e)))) in
        record { level = k.level; one = inr k.one; price = k.price }

-- what a party gets trades at the price where it trades alone
got-sold : (k p : ℕ) (fs : List Fill) → Every (λ f. f.party ≡ k → f.price ≡ p) fs → got k fs ≤ sold_at p fs
got-sold k p [] a = omega arith
got-sold k p (f ∷ fs) a = go (eqb f.party k) refl (got-sold k p fs a.1)
  where
    go : (b : Bool) → eqb f.party k ≡ b → got k fs ≤ sold_at p fs → cond b f.quantity 0 + got k fs ≤ sold_at p (f ∷ fs)
    go true e h = rw (eq-eqb f.price p (a.0 (eqb-true f.party k e))) (omega arith)
    go false e h = omega arith

-- what trades below a price, at it and above it is all
by-price : (p : ℕ) (fs : List Fill) → sold_below p fs + sold_at p fs + sold_above p fs ≡ traded fs
by-price p [] = refl
by-price p (f ∷ fs) = go (ltb f.price p) refl (eqb f.price p) refl (by-price p fs)
  where
    go : (b : Bool) → ltb f.price p ≡ b → (c : Bool) → eqb f.price p ≡ c → sold_below p fs + sold_at p fs + sold_above p fs ≡ traded fs
        → cond b f.quantity 0 + sold_below p fs + (cond c f.quantity 0 + sold_at p fs) + sold_above p (f ∷ fs) ≡ traded (f ∷ fs)
    go true e true q h = absurd (omega (arith, ltb-true f.price p e, eqb-true f.price p q))
    go true e false q h = rw (le-ltb p f.price (omega (arith, ltb-true f.price p e))) (omega arith)
    go false e true q h = rw (le-ltb p f.price (omega (arith, eqb-true f.price p q))) (omega arith)
    go false e false q h = rw (lt-ltb p f.price (omega (arith, ltb-false f.price p e, eqb-false f.price p q))) (omega arith)

-- where nothing trades at any higher price, nothing trades above
none-higher : (p : ℕ) (fs : List Fill) → ((q : ℕ) → p < q → sold_at q fs ≡ 0) → sold_above p fs ≡ 0
none-higher p [] n = refl
none-higher p (f ∷ fs) n = go (ltb p f.price) refl (none-higher p fs (λ q h. omega (arith, n q h)))
  where
    go : (b : Bool) → ltb p f.price ≡ b → sold_above p fs ≡ 0 → cond b f.quantity 0 + sold_above p fs ≡ 0
    go true e h =
        let z : f.quantity + sold_at f.price fs ≡ 0 =
        ap (λ (b : Bool). cond b f.quantity 0 + sold_at f.price fs) (sym (eq-eqb f.price f.price refl)) ∙ n f.price (ltb-true p f.price e) in
        omega arith
    go false e h = omega arith

-- a share of none, and of size none, is none
of_none : (R T s : ℕ) → R ≡ 0 → R * s / T ≡ 0
of_none R T s e = rw (e, zero-mul s) (zero-div T)

none_of : (R T s : ℕ) → s ≡ 0 → R * s / T ≡ 0
none_of R T s e = rw (e, mul-zero R) (zero-div T)

-- the others are no Customers
pub not-customer : (x : Response) (rs : List Response) → In x (filter from_other rs) → x.customer ≡ false
not-customer x rs m = go x.customer (filter-test from_other rs x m)
  where
    go : (t : Bool) → not t ≡ true → t ≡ false
    go true e = no (sym e)
    go false e = refl

-- who trade nothing have what adds up to nothing
all_none : (fs : List Fill) (os : List Response) → ((x : Response) → In x os → got x.sequence fs ≡ 0) → (qs : List ℕ) → length qs ≡ length os → sum qs ≡ 0 → gots fs os ≡ qs
unfolding sum
all_none fs [] h [] l z = refl
all_none fs [] h (q ∷ qs) l z = absurd (omega arith)
all_none fs (o ∷ os) h [] l z = absurd (omega arith)
all_none fs (o ∷ os) h (q ∷ qs) l z = ap₂ {C = List ℕ} (λ x xs. x ∷ xs) (omega (arith, h o (inl refl))) (all_none fs os (λ x m. h x (inr m)) qs (omega arith) (omega arith))

sizes-none : (os : List Response) → ((x : Response) → In x os → x.size ≡ 0) → sum (sizes os) ≡ 0
unfolding sum
sizes-none [] h = refl
sizes-none (o ∷ os) h = omega (arith, h o (inl refl), sizes-none os (λ x m. h x (inr m)))

sizes-length : (os : List Response) → length (sizes os) ≡ length os
sizes-length [] = refl
sizes-length (o ∷ os) = ap suc (sizes-length os)

-- a share by equal numbers
pub near : (s : ℕ) {R Q T S x y : ℕ} → R ≡ Q → T ≡ S → x ≡ y → Near R T s x → Near Q S s y
near s e1 e2 e3 n = rw (sym e1, sym e2, sym e3) n

-- ---- what is left to the others, from what is left on arriving, the responses there and the plan

abbrev pub left_by : ℕ → List Response → Plan → ℕ
left_by left here plan =
    let after = left - sum (sizes (filter from_customer here)) in
    after - min after plan.want

module _ (d : Deal) (b : Board) where
  abbrev all : List Fill
  all = fills d (offers b)

  abbrev pub left_at : ℕ → ℕ
  left_at p = d.size - (market_takes d (offers b) + sold_below p (walked d all))

  abbrev pub plan_at : ℕ → Plan
  plan_at p = plan_of d.mode (working_stop d) d.initiating (guarantee d (offers b)) p (left_at p) (got_below 0 p all) (sum (sizes (offers_at d (offers b) p)))

  abbrev pub left_to_others : ℕ → ℕ
  left_to_others p = left_by (left_at p) (offers_at d (offers b) p) (plan_at p)

  module _ (s : Tradable d b) where
    pub priced : (p : ℕ) → 0 < sold_at p (walked d all) → Priced (levels d (offers b)) p
    priced p t = run-priced d (offers b) p _ _ _ (levels d (offers b)) (the-run d (offers b) (fit d b s)) (rw (walked-levels d (offers b) (fit d b s)) at t)

    module _ (l : Level) (n : In l (levels d (offers b))) where
      by_level : ByLevel d b all l
      by_level = (demand3 d b s).by_level l n

      here-is : l.here ≡ offers_at d (offers b) l.price
      here-is = run-each d (offers b) (fit d b s) (λ x. x.here ≡ offers_at d (offers b) x.price) (λ from left held x g. g.here-are) _ _ _ (levels d (offers b)) (the-run d (offers b) (fit d b s)) l n

      left_is : l.left ≡ left_at l.price
      left_is = omega (arith, by_level.arrives)

      plan-is : plan_on l ≡ plan_at l.price
      plan-is =
          by_level.planned
          ∙ ap (λ (x : ℕ). plan_of d.mode (working_stop d) d.initiating (guarantee d (offers b)) l.price x l.held (sum (sizes l.here))) left_is
          ∙ ap (λ (x : ℕ). plan_of d.mode (working_stop d) d.initiating (guarantee d (offers b)) l.price (left_at l.price) x (sum (sizes l.here))) by_level.holds
          ∙ ap (λ (xs : List Response). plan_of d.mode (working_stop d) d.initiating (guarantee d (offers b)) l.price (left_at l.price) (got_below 0 l.price all) (sum (sizes xs))) here-is

      shared-is : shared l ≡ left_to_others l.price
      shared-is =
          ap (λ (x : ℕ). left_by x l.here (plan_on l)) left_is
          ∙ ap (λ (xs : List Response). left_by (left_at l.price) xs (plan_on l)) here-is
          ∙ ap (λ (x : Plan). left_by (left_at l.price) (offers_at d (offers b) l.price) x) plan-is

      others-are : sum (sizes (others l)) ≡ sum (sizes (others_at d (offers b) l.price))
      others-are = ap (λ (xs : List Response). sum (sizes (filter from_other xs))) here-is

    -- ---- at a price where anything trades

    module _ (p : ℕ) (k : Priced (levels d (offers b)) p) where
      others-at : sum (sizes (others k.level)) ≡ sum (sizes (others_at d (offers b) p))
      others-at = others-are k.level k.one ∙ ap (λ (x : ℕ). sum (sizes (others_at d (offers b) x))) k.price

      shared_at : shared k.level ≡ left_to_others p
      shared_at = shared-is k.level k.one ∙ ap left_to_others k.price

      final-at : k.level.final ≡ (plan_at p).final
      final-at = ap (λ (x : Plan). x.final) (plan-is k.level k.one) ∙ ap (λ (x : ℕ). (plan_at x).final) k.price

    -- a response that is no Customer's
    module _ (r : Response) (m : In r (live_of b)) (c : r.customer ≡ false) where
      abbrev works : ℕ
      works = working d r

      -- what it gets trades in the walk, at its working price
      got-walked : got r.sequence all ≤ sold_at works (walked d all)
      got-walked =
          let k = r.sequence in
          let g : got k all ≡ got k (walked d all) = got-walk d (offers b) (fit d b s) r (in-sequence r (live_of b) m) ∙ ap (got k) (sym (walked-levels d (offers b) (fit d b s))) in
          let w : got k (walked d all) ≤ sold_at works (walked d all) =
          got-sold k works (walked d all) (every-filter (λ f. f.party ≡ k → f.price ≡ works) _ all ((demand3 d b s).works_at r m)) in
          omega arith

      -- where nothing trades there it has no size, or nothing is left: what is left would trade above, and it would be filled
      idle : sold_at works (walked d all) ≡ 0 → (r.size ≡ 0) ⊎ (left_at works ≡ 0)
      idle z = go (eqb r.size 0) refl
        where
          none-at : r.size ≢ 0 → (p : ℕ) → works < p → sold_at p (walked d all) ≡ 0
          none-at n p h = at (ltb 0 (sold_at p all)) refl
            where
              at : (t : Bool) → ltb 0 (sold_at p all) ≡ t → sold_at p (walked d all) ≡ 0
              at true e = absurd (n (omega (arith, (demand3 d b s).priority r m p (ltb-true 0 (sold_at p all) e) h, got-walked, z)))
              at false e = omega (arith, ltb-false 0 (sold_at p all) e, ap (sold_at p) (demand3 d b s).market-trades, sold-append p (market_fill d (offers b)) (walked d all))

          total : market_takes d (offers b) + traded (walked d all) ≡ d.size
          total =
              omega (arith, (demand3 d b s).adds-up, ap traded (demand3 d b s).market-trades, total-append (market_fill d (offers b)) (walked d all), total-fill d.market (market_price d (offers b)) (market_takes d (offers b)))

          go : (t : Bool) → eqb r.size 0 ≡ t → (r.size ≡ 0) ⊎ (left_at works ≡ 0)
          go true e = inl (eqb-true r.size 0 e)
          go false e = inr (omega (arith, total, z, by-price works (walked d all), none-higher works (walked d all) (none-at (eqb-false r.size 0 e))))

      -- a level has its working price; or it gets nothing, and has no size or nothing is left
      cases : Priced (levels d (offers b)) works ⊎ ((got r.sequence all ≡ 0) × ((r.size ≡ 0) ⊎ (left_at works ≡ 0)))
      cases = go (ltb 0 (sold_at works (walked d all))) refl
        where
          go : (t : Bool) → ltb 0 (sold_at works (walked d all)) ≡ t → Priced (levels d (offers b)) works ⊎ ((got r.sequence all ≡ 0) × ((r.size ≡ 0) ⊎ (left_at works ≡ 0)))
          go true e = inl (priced works (ltb-true 0 (sold_at works (walked d all)) e))
          go false e =
              let z : sold_at works (walked d all) ≡ 0 = omega (arith, ltb-false 0 (sold_at works (walked d all)) e) in
              inr (omega (arith, got-walked), idle z)

      -- it is one of the others there
      is-there : In r (others_at d (offers b) works)
      unfolding offers_at
      is-there = in-filter from_other _ r (in-filter (λ x. eqb (working d x) works) (offers b) r (in-sequence r (live_of b) m) (eq-eqb works works refl)) (ap not c)

      pub filled_at : sum (sizes (others_at d (offers b) works)) ≤ left_to_others works → got r.sequence all ≡ r.size
      filled_at h =
          ⊎_elim (λ (k : Priced (levels d (offers b)) works). (by_level k.level k.one).filled r m c (sym k.price) (rw (others-at works k, shared_at works k) h))
          (λ g. ⊎_elim (λ n. omega (arith, g.0)) (λ n. omega (arith, g.0, size_in (others_at d (offers b) works) r is-there)) g.1) cases

      pub short-at : left_to_others works < sum (sizes (others_at d (offers b) works)) → Near (left_to_others works) (sum (sizes (others_at d (offers b) works))) r.size (got r.sequence all)
      short-at h =
          let T : ℕ = sum (sizes (others_at d (offers b) works)) in
          ⊎_elim (λ (k : Priced (levels d (offers b)) works). near r.size (shared_at works k) (others-at works k) refl ((by_level k.level k.one).short r m c (sym k.price) (rw (others-at works k, shared_at works k) h)))
          (λ g. inl (g.0 ∙ sym (⊎_elim (none_of (left_to_others works) T r.size) (λ n. of_none (left_to_others works) T r.size (omega arith)) g.1))) cases

      pub guaranteed-at : (plan_at works).final ≡ true → 0 < got r.sequence all → guarantee d (offers b) ≤ got 0 all
      guaranteed-at e t =
          let k = priced works (omega (arith, got-walked)) in
          (by_level k.level k.one).has-guarantee r m c (sym k.price) (final-at works k ∙ e) t

    -- ---- the others at a price, by sequence

    module _ (p : ℕ) where
      abbrev os : List Response
      os = others_at d (offers b) p

      -- one of them
      record Other (x : Response) : Type 0 where
        live : In x (live_of b)
        other : x.customer ≡ false
        works_at : working d x ≡ p

      other : (x : Response) → In x os → Other x
      other x m =
          let a = at-price d (offers b) (fit d b s) p x m in
          record {
            live = every_in (λ y. In y (live_of b)) (offers b) x (all-sequence (λ y. In y (live_of b)) (live_of b) (every-with (λ y. In y (live_of b)) (live_of b) (λ y i. i))) a.0;
            other = not-customer x (offers_at d (offers b) p) m;
            works_at = a.1;
          }

      -- where nothing trades there, it gets nothing, and has no size or nothing is left
      idle-there : sold_at p (walked d all) ≡ 0 → (x : Response) → In x os → (got x.sequence all ≡ 0) × ((x.size ≡ 0) ⊎ (left_at p ≡ 0))
      idle-there z x m =
          let i = other x m in
          let e : sold_at (working d x) (walked d all) ≡ 0 = ap (λ (q : ℕ). sold_at q (walked d all)) i.works_at ∙ z in
          (omega (arith, got-walked x i.live i.other), subst (λ (q : ℕ). (x.size ≡ 0) ⊎ (left_at q ≡ 0)) i.works_at (idle x i.live i.other e))

      none-there : sold_at p (walked d all) ≡ 0 → gots all os ≡ shares (left_to_others p) (sizes os)
      none-there z =
          all_none all os (λ x m. (idle-there z x m).0) (shares (left_to_others p) (sizes os)) (shares-length (left_to_others p) (sizes os) ∙ sizes-length os)
          (shares_sum (left_to_others p) (sizes os)
          ∙ ⊎_elim
          (λ h. let e : sum (sizes os) ≡ 0 = sizes-none os (λ x m. ⊎_elim (λ y. y) (λ y. absurd (omega arith)) (idle-there z x m).1) in omega arith)
          (λ h. omega arith)
          (le-or-lt 1 (left_at p)))

      pub shares_at : gots all os ≡ shares (left_to_others p) (sizes os)
      shares_at = go (ltb 0 (sold_at p (walked d all))) refl
        where
          go : (t : Bool) → ltb 0 (sold_at p (walked d all)) ≡ t → gots all os ≡ shares (left_to_others p) (sizes os)
          go true e =
              let k = priced p (ltb-true 0 (sold_at p (walked d all)) e) in
              let h : others k.level ≡ os = ap (filter from_other) (here-is k.level k.one) ∙ ap (λ (x : ℕ). others_at d (offers b) x) k.price in
              sym (ap (gots all) h) ∙ shared-out d b s k.level k.one ∙ ap₂ (λ (R : ℕ) (xs : List Response). shares R (sizes xs)) (shared_at p k) h
          go false e = none-there (omega (arith, ltb-false 0 (sold_at p (walked d all)) e))
