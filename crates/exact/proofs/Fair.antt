-- Demand 3's sentences, of any list that meets the clauses. Assumes nothing.
use mathlib.Core.Path.{◌≡◌, refl, sym, ap, subst, ◌∙◌}
use mathlib.Core.Bool.{Bool, true, false, cond, not, ◌&&◌}
use mathlib.Core.List.{List, [], ◌∷◌}
use mathlib.Core.Logic.{inl, inr, ⊎_elim, ◌≢◌}
use Prim.Native.Nat.{ℕ, ◌+◌, ◌-◌, ◌*◌, ◌≤◌, ◌<◌, min, max}
use native.Mathlib.Omega.{arith}
use borrow.Author.Tests.{ltb-true, ltb-false, lt-ltb, le-ltb, leb-true, eq-eqb, ne_eqb}
use lib.Dec.{leb, ltb, eqb}
use lib.ListN.{length}
use Rattle.base.specs.Lists.{Every, In, keep, filter, sum}
use Rattle.base.proofs.Numbers.{eq-or, le-or-lt}
use Rattle.base.proofs.Bools.{no}
use Rattle.base.proofs.ListLaws.{every_append, every_map, every_in, every-filter, every-with, in-filter}
use Rattle.board.specs.declared.Response.{Response}
use Rattle.share.specs.rules.Share.{in_turn}
use Rattle.share.specs.rules.Fills.{Fill, fill, fill_of, sizes}
use Rattle.share.specs.promises.Share.{Each, Fair as FairShares}
use Rattle.share.proofs.ShareLaws.{turn-fit, turn-full, shares-fit, shares-full, shares_sum, each-flip, pro-rata}
use Rattle.trade.specs.declared.Deal.{Deal}
use Rattle.trade.specs.rules.Plan.{Plan, go_on, clean_up}
use Rattle.trade.specs.rules.Trade.{from_customer, from_other, guarantee_of}
use Rattle.demand.specs.promises.Demands.{got, got_at, sold_at, walked, is_market}
use Rattle.demand.proofs.Lists.{tally-append, got-none, got-fill, all-fill}
use Rattle.exact.specs.rules.EitherSide.{better, better_of, worse_of, got_better, gots_at, auto_match, stopped, auto_match_limit, plan_by}
use Rattle.exact.specs.rules.WhoTrades.{working_price, working_stop, last_price, market_quantity, all_at, customers_at, others_at, MayTrade, left_at, held_at, plan_at, left_to_others, others_shares, Best, WhoTrades}
use Rattle.exact.specs.promises.Fair.{Apart, FairFills}
use Rattle.exact.specs.promises.Fair as promises
use Rattle.exact.proofs.Tallies.{better-self, better-not, better-apart, better-after, got-sold, at_only}
use Rattle.exact.proofs.Rest.{sold-within, sold-later, all_of}
use Rattle.exact.proofs.Sums.{sold-is}
use Rattle.exact.proofs.Only.{best_of, may-or, nothing}

-- ---- prices of either side

-- a working price is not better than the own one, nor a price that is not better than the working stop than the stop
not_beyond : (s : Bool) (p q b : ℕ) → better s p (worse_of s q b) ≡ false → better s p q ≡ false
not_beyond true p q b h = le-ltb q p (omega (arith, ltb-false (min q b) p h))
not_beyond false p q b h = le-ltb p q (omega (arith, ltb-false p (max q b) h))

-- better than the better of two is better than the first
past-both : (s : Bool) (p q b : ℕ) → better s p (better_of s q b) ≡ true → better s p q ≡ true
past-both true p q b h = lt-ltb q p (omega (arith, ltb-true (max q b) p h))
past-both false p q b h = lt-ltb p q (omega (arith, ltb-true p (min q b) h))

-- ---- the plan

-- before the stop or limit the Contra Order gets nothing
plan-early : (mode : ℕ) (last : Bool) (G left held A : ℕ) → mode ≢ 2 → plan_by mode true last G left held A ≡ go_on 0
plan-early mode last G left held A n = go (eqb mode 1) (eqb mode 2) (ne_eqb mode 2 n)
  where
    go : (a b : Bool) → b ≡ false → cond {A = Plan} a (go_on 0) (cond b (auto_match last G left held A) (go_on 0)) ≡ go_on 0
    go true b e = refl
    go false true e = no e
    go false false e = refl

-- at the clean-up price it takes what it lacks of the guarantee
final-want : (mode : ℕ) (early last : Bool) (G left held A : ℕ) → (plan_by mode early last G left held A).final ≡ true → (plan_by mode early last G left held A).want ≡ G - held
final-want mode early last G left held A = go (eqb mode 1) (eqb mode 2) early
  where
    matched : (auto_match last G left held A).final ≡ true → (auto_match last G left held A).want ≡ G - held
    matched = two (ltb (2 * A) left && not last)
      where
        two : (b : Bool) → (cond {A = Plan} b (go_on A) (clean_up (G - held))).final ≡ true → (cond {A = Plan} b (go_on A) (clean_up (G - held))).want ≡ G - held
        two true e = no (sym e)
        two false e = refl

    held_out : (b c : Bool) → leb G held ≡ b → (cond {A = Plan} b (cond c (go_on 0) (clean_up 0)) (auto_match last G left held A)).final ≡ true
        → (cond {A = Plan} b (cond c (go_on 0) (clean_up 0)) (auto_match last G left held A)).want ≡ G - held
    held_out true true f e = no (sym e)
    held_out true false f e = omega (arith, leb-true G held f)
    held_out false c f e = matched e

    go : (a b e : Bool) → (cond {A = Plan} a (stopped e G held) (cond b (auto_match last G left held A) (auto_match_limit e last G left held A))).final ≡ true
        → (cond {A = Plan} a (stopped e G held) (cond b (auto_match last G left held A) (auto_match_limit e last G left held A))).want ≡ G - held
    go true b true h = no (sym h)
    go true b false h = refl
    go false true e h = matched h
    go false false true h = no (sym h)
    go false false false h = held_out (leb G held) (ltb A left && not last) refl h

-- ---- fills

-- what a party has at better prices and at this one is part of all that it has
got-within : (sell : Bool) (k p : ℕ) (fs : List Fill) → got_better sell k p fs + got_at k p fs ≤ got k fs
got-within sell k p [] = omega arith
got-within sell k p (f ∷ fs) = omega (arith, one (eqb f.party k) (better sell f.price p) refl, got-within sell k p fs)
  where
    part : (b : Bool) → cond b f.quantity 0 ≤ f.quantity
    part true = omega arith
    part false = omega arith

    one : (a b : Bool) → better sell f.price p ≡ b → cond (a && b) f.quantity 0 + cond (a && eqb f.price p) f.quantity 0 ≤ cond a f.quantity 0
    one true true e = rw (ne_eqb f.price p (better-apart sell f.price p e)) (omega arith)
    one true false e = omega (arith, part (eqb f.price p))
    one false b e = omega arith

-- a fill is part of what trades at its price, and of what its party has
sold-here : (f : Fill) (fs : List Fill) → In f fs → f.quantity ≤ sold_at f.price fs
sold-here f [] i = absurd i
sold-here f (x ∷ fs) (inl e) =
    let q : cond (eqb x.price f.price) x.quantity 0 ≡ x.quantity = simp (eq-eqb x.price f.price (ap (λ (y : Fill). y.price) (sym e))) in
    let z : f.quantity ≡ x.quantity = ap (λ (y : Fill). y.quantity) e in
    omega (arith, q, z)
sold-here f (x ∷ fs) (inr i) = omega (arith, sold-here f fs i)

got-here : (f : Fill) (fs : List Fill) → In f fs → f.quantity ≤ got_at f.party f.price fs
got-here f [] i = absurd i
got-here f (x ∷ fs) (inl e) =
    let a : eqb x.party f.party ≡ true = eq-eqb x.party f.party (ap (λ (y : Fill). y.party) (sym e)) in
    let b : eqb x.price f.price ≡ true = eq-eqb x.price f.price (ap (λ (y : Fill). y.price) (sym e)) in
    let q : cond (eqb x.party f.party && eqb x.price f.price) x.quantity 0 ≡ x.quantity = simp (a, b) in
    let z : f.quantity ≡ x.quantity = ap (λ (y : Fill). y.quantity) e in
    omega (arith, q, z)
got-here f (x ∷ fs) (inr i) = omega (arith, got-here f fs i)

-- the market order has none of the rest
rest-none : (d : Deal) (fs : List Fill) → 0 < d.selling → got d.market (walked d fs) ≡ 0
unfolding filter
rest-none d [] n = refl
rest-none d (f ∷ fs) n = go (ltb 0 d.selling) (eqb f.party d.market) (lt-ltb 0 d.selling n) refl (rest-none d fs n)
  where
    go : (a b : Bool) → a ≡ true → eqb f.party d.market ≡ b → got d.market (walked d fs) ≡ 0 → got d.market (keep (not (a && b)) f (walked d fs)) ≡ 0
    go true true y z ih = ih
    go true false y z ih = let q : cond (eqb f.party d.market) f.quantity 0 ≡ 0 = ap (λ (t : Bool). cond t f.quantity 0) z in omega (arith, q, ih)
    go false b y z ih = no (sym y)

-- ---- what one of a list has

pick : (P : ℕ → ℕ → Type 0) (p : ℕ) (ws : List Fill) (xs : List Response) (r : Response) → In r xs → Each P (sizes xs) (gots_at p ws xs) → P r.size (got_at r.sequence p ws)
pick P p ws [] r i e = absurd i
pick P p ws (x ∷ xs) r (inl z) e = subst (λ (y : Response). P y.size (got_at y.sequence p ws)) (sym z) e.0
pick P p ws (x ∷ xs) r (inr i) e = pick P p ws xs r i e.1

got-in-sum : (p : ℕ) (ws : List Fill) (xs : List Response) (r : Response) → In r xs → got_at r.sequence p ws ≤ sum (gots_at p ws xs)
unfolding sum
got-in-sum p ws [] r i = absurd i
got-in-sum p ws (x ∷ xs) r (inl z) = subst (λ (y : Response). got_at y.sequence p ws ≤ got_at x.sequence p ws + sum (gots_at p ws xs)) (sym z) (omega arith)
got-in-sum p ws (x ∷ xs) r (inr i) = omega (arith, got-in-sum p ws xs r i)

-- ---- where one is not filled, all that is left trades at its price

-- a Customer: less is left than the Customers ask for; another: less is left to the others than they ask for
all-taken : (L C W O : ℕ) (b : Bool) → L < C → cond b L (min L (C + O + W)) ≡ L
all-taken L C W O true h = refl
all-taken L C W O false h = omega arith

rest-taken : (L C W O : ℕ) (b : Bool) → L - C - min (L - C) W < O → cond b L (min L (C + O + W)) ≡ L
rest-taken L C W O true h = refl
rest-taken L C W O false h = omega arith

some_in : (r : Response) (xs : List Response) → In r xs → 0 < length xs
some_in r [] i = absurd i
some_in r (x ∷ xs) i = omega arith

best-in : (sell : Bool) (d : Deal) (xs : List Response) (r : Response) → In r xs → (q : ℕ) × Best sell d xs q
best-in sell d [] r i = absurd i
best-in sell d (x ∷ xs) r i = best_of sell d x xs

module _ (sell : Bool) (d : Deal) (rs : List Response) (fs : List Fill) (A : Apart d rs) (E : WhoTrades sell d rs fs) where
  abbrev ws : List Fill
  ws = walked d fs

  -- a law of all fills, from one of the market order's and of the rest
  every-fill : (P : Fill → Type 0) → (0 < market_quantity d → P (fill d.market E.market-price (market_quantity d))) → Every P ws → Every P fs
  every-fill P m h = subst (Every P) (sym E.market-first) (every_append P (fill_of d.market E.market-price (market_quantity d)) ws (all-fill P d.market E.market-price (market_quantity d) m) h)

  rest_some : Every (λ f. 1 ≤ f.quantity) ws
  rest_some = every-filter (λ f. 1 ≤ f.quantity) (λ f. not (is_market d f)) fs E.some

  -- who is not the market order has all in the rest
  got-rest : (k : ℕ) → (0 < d.selling → k ≢ d.market) → got k fs ≡ got k ws
  got-rest k n =
      let none : got k (fill_of d.market E.market-price (market_quantity d)) ≡ 0 =
      got-none k (fill_of d.market E.market-price (market_quantity d)) (all-fill (λ f. f.party ≢ k) d.market E.market-price (market_quantity d) (λ z e. n (omega arith) (sym e))) in
      omega (arith, ap (got k) E.market-first, tally-append (λ f. eqb f.party k) (fill_of d.market E.market-price (market_quantity d)) ws, none)

  contra-rest : got 0 fs ≡ got 0 ws
  contra-rest = got-rest 0 (λ z e. omega (arith, (A.market-apart z).0, e))

  module _ (r : Response) (i : In r rs) where
    abbrev p : ℕ
    p = working_price sell d r

    apart : 0 < d.selling → r.sequence ≢ d.market
    apart z = every_in (λ x. x.sequence ≢ d.market) rs r (A.market-apart z).1 i

    got-works : got r.sequence fs ≡ got_at r.sequence (working_price sell d r) ws
    got-works = got-rest r.sequence apart ∙ sym (at_only r.sequence (working_price sell d r) ws (E.works_at r i))

    is-there : In r (all_at sell d rs (working_price sell d r))
    is-there = in-filter (λ x. eqb (working_price sell d x) (working_price sell d r)) rs r i (eq-eqb (working_price sell d r) (working_price sell d r) refl)

    is-customer : r.customer ≡ true → In r (customers_at sell d rs (working_price sell d r))
    is-customer c = in-filter from_customer (all_at sell d rs (working_price sell d r)) r is-there c

    is-other : r.customer ≡ false → In r (others_at sell d rs (working_price sell d r))
    is-other c = in-filter from_other (all_at sell d rs (working_price sell d r)) r is-there (ap not c)

    -- what it has there, by the clauses
    customer-has : (P : ℕ → ℕ → Type 0) → MayTrade sell d rs p → r.customer ≡ true → Each P (sizes (customers_at sell d rs p)) (in_turn (left_at sell d rs ws p) (sizes (customers_at sell d rs p))) → P r.size (got r.sequence fs)
    customer-has P m c h =
        subst (P r.size) (sym got-works) (pick P p ws (customers_at sell d rs p) r (is-customer c) (subst (Each P (sizes (customers_at sell d rs p))) (sym (E.at-price p m).customers) h))

    other-has : (P : ℕ → ℕ → Type 0) → MayTrade sell d rs p → r.customer ≡ false → Each P (sizes (others_at sell d rs p)) (others_shares sell d rs ws p) → P r.size (got r.sequence fs)
    other-has P m c h =
        subst (P r.size) (sym got-works) (pick P p ws (others_at sell d rs p) r (is-other c) (subst (Each P (sizes (others_at sell d rs p))) (sym (E.at-price p m).others) h))

    none-sold : (MayTrade sell d rs p → ⊥) → sold_at p ws ≡ 0
    none-sold n = nothing sell d rs p ws n E.prices

    none_has : (MayTrade sell d rs p → ⊥) → got r.sequence fs ≡ 0
    none_has n = omega (arith, got-works, got-sold r.sequence p ws, none-sold n)

    fits : got r.sequence fs ≤ r.size
    fits = ⊎_elim (λ m. go m r.customer refl) (λ n. omega (arith, none_has n)) (may-or sell d rs p)
      where
        go : MayTrade sell d rs p → (b : Bool) → r.customer ≡ b → got r.sequence fs ≤ r.size
        go m true c = customer-has (λ x q. q ≤ x) m c (turn-fit (left_at sell d rs ws p) (sizes (customers_at sell d rs p)))
        go m false c = other-has (λ x q. q ≤ x) m c (each-flip ◌≤◌ (others_shares sell d rs ws p) (sizes (others_at sell d rs p)) (shares-fit (left_to_others sell d rs ws p) (sizes (others_at sell d rs p))))

    limit : Every (λ f. f.party ≡ r.sequence → better sell f.price r.price ≡ false) fs
    limit =
        every-fill (λ f. f.party ≡ r.sequence → better sell f.price r.price ≡ false) (λ z e. absurd (apart (omega arith) (sym e)))
        (every_map (λ f. f.party ≡ r.sequence → f.price ≡ p) (λ f. f.party ≡ r.sequence → better sell f.price r.price ≡ false) ws
        (λ f h e. not_beyond sell f.price r.price d.bound (ap (better sell f.price) (sym (h e)) ∙ better-self sell f.price)) (E.works_at r i))

    -- ---- price by price

    module _ (f : Fill) (j : In f ws) (b : better sell p f.price ≡ true) where
      may : MayTrade sell d rs p
      may = (
        better-not sell p (last_price sell d)
            (better-after sell p f.price (last_price sell d) b (every_in (λ g. MayTrade sell d rs g.price) ws f E.prices j).0),
        inl (some_in r (all_at sell d rs p) is-there),
      )

      -- all that was left did not trade at p, since more trades after it
      over : cond (plan_at sell d rs ws p).final (left_at sell d rs ws p) (min (left_at sell d rs ws p) (sum (sizes (customers_at sell d rs p)) + sum (sizes (others_at sell d rs p)) + (plan_at sell d rs ws p).want)) ≡ left_at sell d rs ws p → ⊥
      over e =
          let sold : sold_at p ws ≡ left_at sell d rs ws p = sold-is sell d rs A ws E.nobody-else E.works_at p (E.at-price p may) ∙ e in
          let q : 1 ≤ f.quantity = every_in (λ g. 1 ≤ g.quantity) ws f rest_some j in
          omega (
            arith,
            sold,
            q,
            sold-later sell p f.price b ws,
            sold-within sell f.price ws,
            all_of d E.market-price fs E.adds-up E.market-first,
            sold-here f ws j,
          )

      filled : (c : Bool) → r.customer ≡ c → got r.sequence fs ≡ r.size
      filled true c =
          ⊎_elim
          (λ h. customer-has (λ x q. q ≡ x) may c (turn-full (left_at sell d rs ws p) (sizes (customers_at sell d rs p)) h))
          (λ h. absurd (over (all-taken (left_at sell d rs ws p) (sum (sizes (customers_at sell d rs p))) (plan_at sell d rs ws p).want (sum (sizes (others_at sell d rs p))) (plan_at sell d rs ws p).final h)))
          (le-or-lt (sum (sizes (customers_at sell d rs p))) (left_at sell d rs ws p))
      filled false c =
          ⊎_elim
          (λ h. other-has (λ x q. q ≡ x) may c (shares-full (left_to_others sell d rs ws p) (sizes (others_at sell d rs p)) h))
          (λ h. absurd (over (rest-taken (left_at sell d rs ws p) (sum (sizes (customers_at sell d rs p))) (plan_at sell d rs ws p).want (sum (sizes (others_at sell d rs p))) (plan_at sell d rs ws p).final h)))
          (le-or-lt (sum (sizes (others_at sell d rs p))) (left_to_others sell d rs ws p))

    -- a market order's price is as good as the best response's
    not-before : better sell p E.market-price ≡ true → ⊥
    not-before b =
        let t = best-in sell d rs r i in
        let l : better sell p t.0 ≡ false = every_in (λ x. better sell (working_price sell d x) t.0 ≡ false) rs r t.1.none-better i in
        ⊎_elim
        (λ m. no (sym (sym (ap (better sell p) (E.market-at.matched m t.0 t.1)) ∙ b) ∙ l))
        (λ n. no (sym (past-both sell p t.0 (working_stop sell d) (sym (ap (better sell p) (E.market-at.better-of n t.0 t.1)) ∙ b)) ∙ l))
        (eq-or d.mode 2)

    in-turn : Every (λ f. better sell p f.price ≡ true → got r.sequence fs ≡ r.size) fs
    in-turn =
        every-fill (λ f. better sell p f.price ≡ true → got r.sequence fs ≡ r.size) (λ z b. absurd (not-before b))
        (every-with (λ f. better sell p f.price ≡ true → got r.sequence fs ≡ r.size) ws (λ f j b. filled f j b r.customer refl))

    -- ---- one of the others

    module _ (c : r.customer ≡ false) where
      sum_is : MayTrade sell d rs p → sum (gots_at p ws (others_at sell d rs p)) ≡ min (left_to_others sell d rs ws p) (sum (sizes (others_at sell d rs p)))
      sum_is m = ap sum (E.at-price p m).others ∙ shares_sum (left_to_others sell d rs ws p) (sizes (others_at sell d rs p))

      holds-guarantee : (plan_at sell d rs ws p).final ≡ true → 0 < got r.sequence fs → guarantee_of d.size (length rs) ≤ got 0 fs
      holds-guarantee e h = ⊎_elim some (λ n. absurd (omega (arith, none_has n))) (may-or sell d rs p)
        where
          enough : (G held L C W R rest k all : ℕ) → W ≡ G - held → R ≡ L - C - min (L - C) W → 0 < R → k ≡ min (L - C) W + rest → held + k ≤ all → G ≤ all
          enough G held L C W R rest k all a b z g l = omega (arith, a, b, g)

          some : MayTrade sell d rs p → guarantee_of d.size (length rs) ≤ got 0 fs
          some m =
              let left : 0 < left_to_others sell d rs ws p = omega (arith, got-works, sum_is m, got-in-sum p ws (others_at sell d rs p) r (is-other c)) in
              enough (guarantee_of d.size (length rs)) (held_at sell d rs ws p) (left_at sell d rs ws p) (sum (sizes (customers_at sell d rs p))) (plan_at sell d rs ws p).want (left_to_others sell d rs ws p) _ (got_at 0 p ws) (got 0 fs)
              (final-want d.mode (better sell p (working_stop sell d)) (eqb p d.initiating) (guarantee_of d.size (length rs)) (left_at sell d rs ws p) (held_at sell d rs ws p) (sum (sizes (all_at sell d rs p))) e)
              refl left (E.at-price p m).contra (omega (arith, contra-rest, got-within sell 0 p ws))

  -- ---- the Contra Order

  stop-kept : d.mode ≢ 2 → Every (λ f. f.party ≡ 0 → better sell f.price d.stop ≡ false) fs
  stop-kept n =
      every-fill (λ f. f.party ≡ 0 → better sell f.price d.stop ≡ false) (λ z e. absurd (omega (arith, e, (A.market-apart (omega arith)).0)))
      (every-with (λ f. f.party ≡ 0 → better sell f.price d.stop ≡ false) ws (λ f j e. go f j e (better sell f.price (working_stop sell d)) refl))
    where
      go : (f : Fill) → In f ws → f.party ≡ 0 → (b : Bool) → better sell f.price (working_stop sell d) ≡ b → better sell f.price d.stop ≡ false
      go f j e false b = not_beyond sell f.price d.stop d.bound b
      go f j e true b =
          let plan : plan_at sell d rs ws f.price ≡ go_on 0 =
          ap (λ (x : Bool). plan_by d.mode x (eqb f.price d.initiating) (guarantee_of d.size (length rs)) (left_at sell d rs ws f.price) (held_at sell d rs ws f.price) (sum (sizes (all_at sell d rs f.price)))) b
          ∙ plan-early d.mode (eqb f.price d.initiating) (guarantee_of d.size (length rs)) (left_at sell d rs ws f.price) (held_at sell d rs ws f.price) (sum (sizes (all_at sell d rs f.price))) n in
          let k : got_at 0 f.price ws ≡ min (left_at sell d rs ws f.price - sum (sizes (customers_at sell d rs f.price))) 0 + 0 =
          (E.at-price f.price (every_in (λ g. MayTrade sell d rs g.price) ws f E.prices j)).contra
          ∙ ap (λ (x : Plan). min (left_at sell d rs ws f.price - sum (sizes (customers_at sell d rs f.price))) x.want + cond x.final (left_to_others sell d rs ws f.price - sum (others_shares sell d rs ws f.price)) 0) plan in
          let g : f.quantity ≤ got_at 0 f.price ws = subst (λ (x : ℕ). f.quantity ≤ got_at x f.price ws) e (got-here f ws j) in
          absurd (omega (arith, k, g, every_in (λ x. 1 ≤ x.quantity) ws f rest_some j))

  sentences : FairFills sell d rs fs
  sentences =
      record {
        response-fits = fits;
        market-fits = λ z. omega (
          arith,
          ap (got d.market) E.market-first,
          tally-append (λ f. eqb f.party d.market) (fill_of d.market E.market-price (market_quantity d)) ws,
          got-fill d.market E.market-price (market_quantity d),
          rest-none d fs z,
        );
        response-limit = limit;
        contra-limit = stop-kept;
        priority = in-turn;
        share = λ p m. subst (FairShares (left_to_others sell d rs ws p) (sizes (others_at sell d rs p))) (sym (E.at-price p m).others) (pro-rata.fair (left_to_others sell d rs ws p) (sizes (others_at sell d rs p)));
        guaranteed = holds-guarantee;
      }

pub fair : promises.Fair
fair sell d rs fs A E = sentences sell d rs fs A E
