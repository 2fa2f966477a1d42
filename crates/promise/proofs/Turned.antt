-- The clauses of a buy, turned into those of the order that it mirrors. Assumes nothing.
use mathlib.Core.Path.{◌≡◌, refl, sym, ap, ap₂, subst, ◌∙◌}
use mathlib.Core.Bool.{Bool, true, false, cond, not, ◌&&◌}
use mathlib.Core.List.{List, [], ◌∷◌, ◌++◌, map}
use mathlib.Core.Logic.{◌⊎◌, inl, inr, ⊎_elim, ◌≢◌}
use Prim.Native.Nat.{ℕ, ◌+◌, ◌-◌, ◌/◌, ◌≤◌, ◌<◌, min, max}
use native.Mathlib.Omega.{arith}
use borrow.Author.Tests.{ltb-false, eqb-true}
use lib.Dec.{ltb, eqb}
use lib.ListN.{length, length-map}
use Rattle.base.specs.Price.{mirrored}
use Rattle.base.proofs.Numbers.{le-or-lt, eq-or}
use Rattle.base.proofs.ListLaws.{every_map, every_any, every_in, every-filter, every-with}
use Rattle.base.specs.Lists.{Every, In, filter, sum}
use Rattle.board.specs.declared.Response.{Response}
use Rattle.share.specs.rules.Share.{shares, in_turn}
use Rattle.share.specs.rules.Fills.{Fill, fill_of, sizes}
use Rattle.trade.specs.declared.Deal.{Deal}
use Rattle.trade.specs.rules.Trade.{from_customer, from_other, guarantee_of, traded}
use Rattle.trade.specs.rules.Write.{reported_price, reported}
use Rattle.trade.proofs.LevelLaws.{reported-append, reported-fill, reported-length}
use Rattle.demand.specs.promises.Demands.{got_at, times, is_market, walked}
use Rattle.demand.proofs.Counts.{times-price}
use Rattle.run.proofs.SoundLaws.{reported-total}
use Rattle.promise.specs.rules.Sides.{sent}
use Rattle.promise.proofs.RealLaws.{better-shown, same-shown, shown-twice, shown, every-shown, tally-shown, filter-shown, Sent, in-sent, sent-in, filter-sent, sizes-sent}
use Rattle.exact.specs.rules.EitherSide.{better, better_of, worse_of, sold_better, got_better, gots_at, is_of, rank_of, Earlier, Before, InOrder, plan_by}
use Rattle.exact.specs.rules.WhoTrades.{working_price, working_stop, last_price, market_quantity, all_at, customers_at, others_at, MayTrade, left_at, held_at, plan_at, contra_first, left_to_others, Best, MarketPrice, AtPrice, WhoTrades}
use Rattle.exact.proofs.Reach.{some-kept}

-- ---- prices

module _ (s : Bool) where
  abbrev sh : ℕ → ℕ
  sh p = reported_price s p

  pub worse-shown : (a b : ℕ) → worse_of s (sh a) (sh b) ≡ sh (max a b)
  unfolding mirrored
  worse-shown a b = go s
    where
      go : (t : Bool) → worse_of t (reported_price t a) (reported_price t b) ≡ reported_price t (max a b)
      go true = omega arith
      go false = refl

  better-of-shown : (a b : ℕ) → better_of s (sh a) (sh b) ≡ sh (min a b)
  unfolding mirrored
  better-of-shown a b = go s
    where
      go : (t : Bool) → better_of t (reported_price t a) (reported_price t b) ≡ reported_price t (min a b)
      go true = omega arith
      go false = refl

  half-shown : (i b : ℕ) → i ≤ 1000000 → b ≤ 1000000 → sh ((i + b + 1) / 2) ≡ cond s ((sh i + sh b) / 2) ((sh i + sh b + 1) / 2)
  unfolding mirrored
  half-shown i b h k = go s
    where
      go : (t : Bool) → reported_price t ((i + b + 1) / 2) ≡ cond t ((reported_price t i + reported_price t b) / 2) ((reported_price t i + reported_price t b + 1) / 2)
      go true = omega arith
      go false = refl

  shown-fits : (p : ℕ) → p ≤ 1000000 → sh p ≤ 1000000
  unfolding mirrored
  shown-fits p h = go s
    where
      go : (t : Bool) → reported_price t p ≤ 1000000
      go true = omega arith
      go false = h

-- ---- the turn of a sequence

is_of-sent : (s : Bool) (k : ℕ) (rs : List Response) → is_of k (map (sent s) rs) ≡ is_of k rs
is_of-sent s k rs =
    ap (λ (n : ℕ). ltb 0 n)
    (ap length (filter-sent s (λ r. eqb r.sequence k) (λ r. eqb r.sequence k) rs (every_any (λ r. eqb r.sequence k ≡ eqb r.sequence k) rs (λ r. refl)))
    ∙ length-map (filter (λ r. eqb r.sequence k) rs) (sent s))

turn-sent : (s : Bool) (rs : List Response) (k : ℕ) → rank_of (map (sent s) rs) k ≡ rank_of rs k
unfolding rank_of
turn-sent s rs k =
    ap (λ (b : Bool). cond {A = ℕ} (eqb k 0) 1 (cond b 0 2))
    (ap (is_of k) (filter-sent s from_customer from_customer rs (every_any (λ r. from_customer (sent s r) ≡ from_customer r) rs (λ r. refl))) ∙ is_of-sent s k (filter from_customer rs))

earlier-sent : (s : Bool) (rs : List Response) (j k : ℕ) → Earlier rs j k → Earlier (map (sent s) rs) j k
earlier-sent s rs j k (inl h) = inl (omega (arith, turn-sent s rs j, turn-sent s rs k))
earlier-sent s rs j k (inr h) = inr (turn-sent s rs j ∙ h.0 ∙ sym (turn-sent s rs k), h.1)

order-shown : (s : Bool) (rs : List Response) (ws : List Fill) → Every (λ f. f.price ≤ 1000000) ws → InOrder false rs ws → InOrder s (map (sent s) rs) (reported s ws)
order-shown s rs [] h a = tt
order-shown s rs (f ∷ ws) h a =
    (every-shown s (λ g. (g.price ≤ 1000000) × Before false rs f g) (Before s (map (sent s) rs) (shown s f)) ws (λ g i b. go g b.0 b.1) (both ws h.1 a.0), order-shown s rs ws h.1 a.1)
  where
    both : (gs : List Fill) → Every (λ g. g.price ≤ 1000000) gs → Every (Before false rs f) gs → Every (λ g. (g.price ≤ 1000000) × Before false rs f g) gs
    both [] x y = tt
    both (g ∷ gs) x y = ((x.0, y.0), both gs x.1 y.1)

    go : (g : Fill) → g.price ≤ 1000000 → Before false rs f g → Before s (map (sent s) rs) (shown s f) (shown s g)
    go g k (inl b) = inl (better-shown s f.price g.price h.0 k ∙ b)
    go g k (inr b) = inr (ap (reported_price s) b.0, earlier-sent s rs f.party g.party b.1)

-- ---- a deal

-- with its prices as they are shown; x is the stop or limit, which mode 2 has none of
abbrev pub shown_deal : Bool → Deal → ℕ → Deal
shown_deal s d x =
    record { sell = s; mode = d.mode; size = d.size; initiating = reported_price s d.initiating; bound = reported_price s d.bound; stop = x; market = d.market; selling = d.selling }

-- the plan of mode 2 asks for no stop
plan-free : (mode : ℕ) (a b last : Bool) (G left held A : ℕ) → mode ≡ 2 → plan_by mode a last G left held A ≡ plan_by mode b last G left held A
plan-free mode a b last G left held A e =
    ap (λ (m : ℕ). plan_by m a last G left held A) e ∙ ap (λ (m : ℕ). plan_by m b last G left held A) (sym e)

gots-shown : (s : Bool) (p q : ℕ) (fs gs : List Fill) → ((k : ℕ) → got_at k p fs ≡ got_at k q gs) → (os : List Response) → gots_at p fs (map (sent s) os) ≡ gots_at q gs os
gots-shown s p q fs gs h [] = refl
gots-shown s p q fs gs h (o ∷ os) = ap₂ {C = List ℕ} (λ x y. x ∷ y) (h o.sequence) (gots-shown s p q fs gs h os)

module _ (s : Bool) (d : Deal) (rs : List Response) (x : ℕ)
    (top-fits : d.initiating ≤ 1000000) (bound-fits : d.bound ≤ 1000000) (stop-fits : d.stop ≤ 1000000) (sent-fit : Every (λ r. r.price ≤ 1000000) rs)
    (stop_is : d.mode ≢ 2 → x ≡ reported_price s d.stop) where
  abbrev d' : Deal
  d' = shown_deal s d x

  abbrev rs' : List Response
  rs' = map (sent s) rs

  works-shown : (r : Response) → working_price s d' (sent s r) ≡ reported_price s (working_price false d r)
  works-shown r = worse-shown s r.price d.bound

  works-fits : (r : Response) → In r rs → working_price false d r ≤ 1000000
  works-fits r i = omega (arith, every_in (λ y. y.price ≤ 1000000) rs r sent-fit i, bound-fits)

  stop-shown : d.mode ≢ 2 → working_stop s d' ≡ reported_price s (working_stop false d)
  stop-shown n = ap (λ (y : ℕ). worse_of s y (reported_price s d.bound)) (stop_is n) ∙ worse-shown s d.stop d.bound

  stop-low : working_stop false d ≤ 1000000
  stop-low = omega (arith, stop-fits, bound-fits)

  last_fits : last_price false d ≤ 1000000
  last_fits = go (eqb d.mode 1)
    where
      go : (b : Bool) → cond b (working_stop false d) d.initiating ≤ 1000000
      go true = stop-low
      go false = top-fits

  last-shown : last_price s d' ≡ reported_price s (last_price false d)
  last-shown = go (eqb d.mode 1) refl
    where
      go : (b : Bool) → eqb d.mode 1 ≡ b → cond b (working_stop s d') (reported_price s d.initiating) ≡ reported_price s (cond b (working_stop false d) d.initiating)
      go true e = let m : d.mode ≡ 1 = eqb-true d.mode 1 e in stop-shown (λ z. omega arith)
      go false e = refl

  -- ---- the responses at a price

  module _ (p : ℕ) (low : p ≤ 1000000) where
    all_shown : all_at s d' rs' (reported_price s p) ≡ map (sent s) (all_at false d rs p)
    all_shown =
        filter-sent s (λ r. eqb (working_price s d' r) (reported_price s p)) (λ r. eqb (working_price false d r) p) rs
        (every-with (λ r. eqb (working_price s d' (sent s r)) (reported_price s p) ≡ eqb (working_price false d r) p) rs
        (λ r i. ap (λ (y : ℕ). eqb y (reported_price s p)) (works-shown r) ∙ same-shown s (working_price false d r) p (works-fits r i) low))

    customers-shown : customers_at s d' rs' (reported_price s p) ≡ map (sent s) (customers_at false d rs p)
    customers-shown =
        ap (filter from_customer) all_shown ∙ filter-sent s from_customer from_customer (all_at false d rs p) (every_any (λ r. from_customer (sent s r) ≡ from_customer r) (all_at false d rs p) (λ r. refl))

    others-shown : others_at s d' rs' (reported_price s p) ≡ map (sent s) (others_at false d rs p)
    others-shown =
        ap (filter from_other) all_shown ∙ filter-sent s from_other from_other (all_at false d rs p) (every_any (λ r. from_other (sent s r) ≡ from_other r) (all_at false d rs p) (λ r. refl))

    count-shown : length (all_at s d' rs' (reported_price s p)) ≡ length (all_at false d rs p)
    count-shown = ap length all_shown ∙ length-map (all_at false d rs p) (sent s)

    may-shown : MayTrade false d rs p → MayTrade s d' rs' (reported_price s p)
    may-shown m = (
      ap (λ (y : ℕ). better s y (reported_price s p)) last-shown ∙ better-shown s (last_price false d) p last_fits low ∙ m.0,
      ⊎_elim (λ z. inl (subst (λ (n : ℕ). 0 < n) (sym count-shown) z)) (λ z. inr (ap (reported_price s) z ∙ sym last-shown)) m.1,
    )

    may-back : MayTrade s d' rs' (reported_price s p) → MayTrade false d rs p
    may-back m = (
      sym (better-shown s (last_price false d) p last_fits low) ∙ ap (λ (y : ℕ). better s y (reported_price s p)) (sym last-shown) ∙ m.0,
      ⊎_elim (λ z. inl (subst (λ (n : ℕ). 0 < n) count-shown z))
          (λ z. inr (sym (shown-twice s p low) ∙ ap (reported_price s) (z ∙ last-shown) ∙ shown-twice s (last_price false d) last_fits)) m.1,
    )

  -- a price where something may trade is one of the buy's, as it is shown
  record Shows (p' : ℕ) : Type 0 where
    price : ℕ
    low : price ≤ 1000000
    is : p' ≡ reported_price s price
    may : MayTrade false d rs price

  shows : (p' : ℕ) → MayTrade s d' rs' p' → Shows p'
  shows p' m = ⊎_elim one last m.1
    where
      one : 0 < length (all_at s d' rs' p') → Shows p'
      one z =
          let t = some-kept (λ r. eqb (working_price s d' r) p') rs' z in
          let k : Sent s rs t.0 = in-sent s rs t.0 t.1 in
          let w : working_price s d' t.0 ≡ p' = eqb-true (working_price s d' t.0) p' t.2 in
          let q : ℕ = working_price false d k.response in
          let e : p' ≡ reported_price s q = sym w ∙ ap (working_price s d') k.is ∙ works-shown k.response in
          record { price = q; low = works-fits k.response k.live; is = e; may = may-back q (works-fits k.response k.live) (subst (MayTrade s d' rs') e m) }

      last : p' ≡ last_price s d' → Shows p'
      last z =
          let e : p' ≡ reported_price s (last_price false d) = z ∙ last-shown in
          record { price = last_price false d; low = last_fits; is = e; may = may-back (last_price false d) last_fits (subst (MayTrade s d' rs') e m) }

  -- ---- the market order's price

  none-back : rs' ≡ [] → rs ≡ []
  none-back e = go rs e
    where
      go : (ys : List Response) → map (sent s) ys ≡ [] → ys ≡ []
      go [] z = refl
      go (y ∷ ys) z = absurd (omega (arith, ap length z))

  record Back (q' : ℕ) : Type 0 where
    price : ℕ
    is : q' ≡ reported_price s price
    best : Best false d rs price

  best-back : (q' : ℕ) → Best s d' rs' q' → Back q'
  best-back q' b =
      let k : Sent s rs b.response = in-sent s rs b.response b.live in
      let q : ℕ = working_price false d k.response in
      let e : q' ≡ reported_price s q = sym b.works ∙ ap (working_price s d') k.is ∙ works-shown k.response in
      record {
        price = q;
        is = e;
        best = record {
          response = k.response;
          live = k.live;
          works = refl;
          none-better = every-with (λ r. better false (working_price false d r) q ≡ false) rs
              (λ r i.
              sym (better-shown s (working_price false d r) q (works-fits r i) (works-fits k.response k.live))
              ∙ ap₂ (λ (u v : ℕ). better s u v) (sym (works-shown r)) (sym e)
              ∙ every_in (λ y. better s (working_price s d' y) q' ≡ false) rs' (sent s r) b.none-better (sent-in s rs r i));
        };
      }

  market-shown : (p : ℕ) → MarketPrice false d rs p → MarketPrice s d' rs' (reported_price s p)
  market-shown p a =
      record {
        matched = λ m q b. let k = best-back q b in ap (reported_price s) (a.matched m k.price k.best) ∙ sym k.is;
        halfway = λ m e. ap (reported_price s) (a.halfway m (none-back e)) ∙ half-shown s d.initiating d.bound top-fits bound-fits;
        better-of = λ m q b.
            let k = best-back q b in
            ap (reported_price s) (a.better-of m k.price k.best) ∙ sym (better-of-shown s k.price (working_stop false d)) ∙ ap₂ (λ (u v : ℕ). better_of s u v) (sym k.is) (sym (stop-shown m));
        alone = λ m e. ap (reported_price s) (a.alone m (none-back e)) ∙ sym (stop-shown m);
      }

  -- ---- at a price

  module _ (ws : List Fill) (fit : Every (λ f. f.price ≤ 1000000) ws) (p : ℕ) (low : p ≤ 1000000) where
    abbrev p' : ℕ
    p' = reported_price s p

    got-shown : (k : ℕ) → got_at k p' (reported s ws) ≡ got_at k p ws
    got-shown k =
        tally-shown s (λ f. eqb f.party k && eqb f.price p') (λ f. eqb f.party k && eqb f.price p) ws
        (every_map (λ f. f.price ≤ 1000000) (λ f. (eqb f.party k && eqb (reported_price s f.price) p') ≡ (eqb f.party k && eqb f.price p)) ws
        (λ f h. ap (λ (b : Bool). eqb f.party k && b) (same-shown s f.price p h low)) fit)

    better-sold : sold_better s p' (reported s ws) ≡ sold_better false p ws
    better-sold =
        tally-shown s (λ f. better s f.price p') (λ f. ltb f.price p) ws
        (every_map (λ f. f.price ≤ 1000000) (λ f. better s (reported_price s f.price) p' ≡ ltb f.price p) ws (λ f h. better-shown s f.price p h low) fit)

    better-got : got_better s 0 p' (reported s ws) ≡ got_better false 0 p ws
    better-got =
        tally-shown s (λ f. eqb f.party 0 && better s f.price p') (λ f. eqb f.party 0 && ltb f.price p) ws
        (every_map (λ f. f.price ≤ 1000000) (λ f. (eqb f.party 0 && better s (reported_price s f.price) p') ≡ (eqb f.party 0 && ltb f.price p)) ws
        (λ f h. ap (λ (b : Bool). eqb f.party 0 && b) (better-shown s f.price p h low)) fit)

    left-same : left_at s d' rs' (reported s ws) p' ≡ left_at false d rs ws p
    left-same = ap (λ (n : ℕ). d.size - (market_quantity d + n)) better-sold

    all_same : sizes (all_at s d' rs' p') ≡ sizes (all_at false d rs p)
    all_same = ap sizes (all_shown p low) ∙ sizes-sent s (all_at false d rs p)

    customers-same : sizes (customers_at s d' rs' p') ≡ sizes (customers_at false d rs p)
    customers-same = ap sizes (customers-shown p low) ∙ sizes-sent s (customers_at false d rs p)

    others_same : sizes (others_at s d' rs' p') ≡ sizes (others_at false d rs p)
    others_same = ap sizes (others-shown p low) ∙ sizes-sent s (others_at false d rs p)

    -- the plan, whether p is before the stop
    plan-same : plan_at s d' rs' (reported s ws) p' ≡ plan_at false d rs ws p
    plan-same = others ∙ early (eq-or d.mode 2)
      where
        others : plan_at s d' rs' (reported s ws) p'
            ≡ plan_by d.mode (better s p' (working_stop s d')) (eqb p d.initiating) (guarantee_of d.size (length rs)) (left_at false d rs ws p) (held_at false d rs ws p) (sum (sizes (all_at false d rs p)))
        others =
            λ i. plan_by d.mode (better s p' (working_stop s d')) (same-shown s p d.initiating low top-fits i) (guarantee_of d.size (length-map rs (sent s) i)) (left-same i) (better-got i) (sum (all_same i))

        early : (d.mode ≡ 2) ⊎ (d.mode ≡ 2 → ⊥)
            → plan_by d.mode (better s p' (working_stop s d')) (eqb p d.initiating) (guarantee_of d.size (length rs)) (left_at false d rs ws p) (held_at false d rs ws p) (sum (sizes (all_at false d rs p)))
            ≡ plan_at false d rs ws p
        early (inl m) = plan-free d.mode (better s p' (working_stop s d')) (ltb p (working_stop false d)) (eqb p d.initiating) (guarantee_of d.size (length rs)) (left_at false d rs ws p) (held_at false d rs ws p) (sum (sizes (all_at false d rs p))) m
        early (inr n) =
            ap (λ (b : Bool). plan_by d.mode b (eqb p d.initiating) (guarantee_of d.size (length rs)) (left_at false d rs ws p) (held_at false d rs ws p) (sum (sizes (all_at false d rs p))))
            (ap (better s p') (stop-shown n) ∙ better-shown s p (working_stop false d) low stop-low)

    at-shown : AtPrice false d rs ws p → AtPrice s d' rs' (reported s ws) p'
    at-shown a =
        record {
          customers =
              ap (gots_at p' (reported s ws)) (customers-shown p low) ∙ gots-shown s p' p (reported s ws) ws got-shown (customers_at false d rs p) ∙ a.customers
              ∙ sym (λ i. in_turn (left-same i) (customers-same i));
          contra = got-shown 0 ∙ a.contra ∙ sym (λ i. first i + cond (plan-same i).final (shared i - sum (shares (shared i) (others_same i))) 0);
          others =
              ap (gots_at p' (reported s ws)) (others-shown p low) ∙ gots-shown s p' p (reported s ws) ws got-shown (others_at false d rs p) ∙ a.others
              ∙ sym (λ i. shares (shared i) (others_same i));
        }
      where
        first : contra_first s d' rs' (reported s ws) p' ≡ contra_first false d rs ws p
        first = λ i. min (left-same i - sum (customers-same i)) (plan-same i).want

        shared : left_to_others s d' rs' (reported s ws) p' ≡ left_to_others false d rs ws p
        shared = λ i. left-same i - sum (customers-same i) - first i

  -- ---- all the clauses

  module _ (fs : List Fill) (E : WhoTrades false d rs fs) where
    fits_all : Every (λ f. f.price ≤ 1000000) fs
    fits_all =
        every_map (λ f. (ltb f.price d.bound ≡ false) × (ltb d.initiating f.price ≡ false)) (λ f. f.price ≤ 1000000) fs
        (λ f h. omega (arith, ltb-false d.initiating f.price h.1, top-fits)) E.in-range

    fits-walked : Every (λ f. f.price ≤ 1000000) (walked d fs)
    fits-walked = every-filter (λ f. f.price ≤ 1000000) (λ f. not (is_market d f)) fs fits_all

    abbrev ws : List Fill
    ws = walked d fs

    walked-shown : walked d' (reported s fs) ≡ reported s (walked d fs)
    walked-shown = filter-shown s (λ f. not (is_market d f)) (λ f. not (is_market d f)) fs (every_any (λ f. not (is_market d (shown s f)) ≡ not (is_market d f)) fs (λ f. refl))

    first-shown : reported s fs ≡ fill_of d.market (reported_price s E.market-price) (market_quantity d) ++ walked d' (reported s fs)
    first-shown =
        ap (reported s) E.market-first ∙ reported-append s (fill_of d.market E.market-price (market_quantity d)) (walked d fs)
        ∙ ap₂ {C = List Fill} (λ u v. u ++ v) (reported-fill s d.market E.market-price (market_quantity d)) (sym walked-shown)

    adds-shown : traded (reported s fs) ≡ d.size
    adds-shown = reported-total s fs ∙ E.adds-up

    at_each : (q : ℕ) → MayTrade s d' rs' q → AtPrice s d' rs' (walked d' (reported s fs)) q
    at_each q m =
        let k : Shows q = shows q m in
        subst (λ (xs : List Fill). AtPrice s d' rs' xs q) (sym walked-shown)
        (subst (AtPrice s d' rs' (reported s ws)) (sym k.is) (at-shown ws fits-walked k.price k.low (E.at-price k.price k.may)))

    once-shown : (k q : ℕ) → times k q (reported s fs) ≤ 1
    once-shown k q = ⊎_elim near far (le-or-lt q 1000000)
      where
        near : q ≤ 1000000 → times k q (reported s fs) ≤ 1
        near h =
            let p : ℕ = reported_price s q in
            let e : times k q (reported s fs) ≡ times k (reported_price s q) fs =
            ap length (filter-shown s (λ f. eqb f.party k && eqb f.price q) (λ f. eqb f.party k && eqb f.price (reported_price s q)) fs
            (every_map (λ f. f.price ≤ 1000000) (λ f. (eqb f.party k && eqb (reported_price s f.price) q) ≡ (eqb f.party k && eqb f.price (reported_price s q))) fs
            (λ f j. ap (λ (b : Bool). eqb f.party k && b)
            (ap (eqb (reported_price s f.price)) (sym (shown-twice s q h)) ∙ same-shown s f.price (reported_price s q) j (shown-fits s q h))) fits_all))
            ∙ reported-length s (filter (λ f. eqb f.party k && eqb f.price (reported_price s q)) fs) in
            omega (arith, e, E.once k (reported_price s q))

        far : 1000000 < q → times k q (reported s fs) ≤ 1
        far h =
            omega (
              arith,
              times-price k q (reported s fs)
                  (every-shown s (λ f. f.price ≤ 1000000) (λ f. f.price ≢ q) fs (λ f i j z. omega (arith, shown-fits s f.price j, z)) fits_all),
            )

    -- each of the walked fills, as it is shown
    each-walked : (P Q : Fill → Type 0) → ((f : Fill) → In f ws → P f → Q (shown s f)) → Every P ws → Every Q (walked d' (reported s fs))
    each-walked P Q g h = subst (Every Q) (sym walked-shown) (every-shown s P Q ws g h)

    pub turned : WhoTrades s (shown_deal s d x) (map (sent s) rs) (reported s fs)
    turned =
        record {
          adds-up = adds-shown;
          some = every-shown s (λ f. 1 ≤ f.quantity) (λ f. 1 ≤ f.quantity) fs (λ f i h. h) E.some;
          in-range =
              every-shown s (λ f. (ltb f.price d.bound ≡ false) × (ltb d.initiating f.price ≡ false)) (λ f. (better s f.price (reported_price s d.bound) ≡ false) × (better s (reported_price s d.initiating) f.price ≡ false)) fs
              (λ f i h. let j : f.price ≤ 1000000 = every_in (λ g. g.price ≤ 1000000) fs f fits_all i in
              (better-shown s f.price d.bound j bound-fits ∙ h.0, better-shown s d.initiating f.price top-fits j ∙ h.1)) E.in-range;
          once = once-shown;
          market-price = reported_price s E.market-price;
          market-at = market-shown E.market-price E.market-at;
          market-first = first-shown;
          nobody-else =
              each-walked (λ f. (f.party ≡ 0) ⊎ ((r : Response) × In r rs × (r.sequence ≡ f.party))) (λ f. (f.party ≡ 0) ⊎ ((r : Response) × In r rs' × (r.sequence ≡ f.party)))
              (λ f i h. ⊎_elim (λ z. inl z) (λ t. inr (sent s t.0, sent-in s rs t.0 t.1, t.2)) h) E.nobody-else;
          works_at = λ r m.
              let k : Sent s rs r = in-sent s rs r m in
              each-walked (λ f. f.party ≡ k.response.sequence → f.price ≡ working_price false d k.response) (λ f. f.party ≡ r.sequence → f.price ≡ working_price s d' r)
              (λ f i h z. ap (reported_price s) (h (z ∙ ap (λ (y : Response). y.sequence) k.is)) ∙ sym (works-shown k.response) ∙ ap (working_price s d') (sym k.is))
              (E.works_at k.response k.live);
          prices =
              each-walked (λ f. MayTrade false d rs f.price) (λ f. MayTrade s d' rs' f.price) (λ f i h. may-shown f.price (every_in (λ g. g.price ≤ 1000000) ws f fits-walked i) h) E.prices;
          at-price = at_each;
          in_order = subst (InOrder s rs') (sym walked-shown) (order-shown s rs ws fits-walked E.in_order);
        }
