-- Demand 3, as a theorem about the definition `fills`.
use mathlib.Core.Path.{◌≡◌, refl, sym, ap, ◌∙◌, subst}
use mathlib.Core.Bool.{Bool, true, false, cond, not, ◌&&◌, true≢false}
use mathlib.Core.List.{List, [], ◌∷◌, ◌++◌}
use mathlib.Core.Logic.{inl, inr, ◌≢◌}
use Prim.Native.Nat.{ℕ, suc, ◌-◌, ◌≤◌, ◌<◌, min, max}
use native.Mathlib.Omega.{arith}
use borrow.Author.Tests.{eqb-true, eqb-false, ltb-true, ltb-false, lt-ltb, eq-eqb, ne_eqb}
use lib.Dec.{ltb, eqb}
use lib.ListN.{length}
use Rattle.board.specs.declared.Response.{Response}
use Rattle.board.specs.declared.Board.{Board}
use Rattle.base.specs.Lists.{Every, keep, sum, In}
use Rattle.board.specs.rules.Board.{live_of, in_sequence}
use Rattle.share.specs.promises.Share.{Near}
use Rattle.share.specs.rules.Fills.{Fill, sizes}
use Rattle.trade.specs.declared.Deal.{Deal}
use Rattle.trade.specs.rules.Plan.{plan_of}
use Rattle.trade.specs.rules.Trade.{size_here, offers, Level, others, shared, level_fills, traded, flat, working, working_stop, top, entry, guarantee, market_price, market_takes, market_fill, levels, fills}
use Rattle.demand.specs.promises.Demands.{plan_on, Absent, Distinct, tally, got, got_at, got_below, gots, sold_at, sold_above, times, is_market, walked, others_at, InRange, Tradable, Party, the_contra, the_market, a_response, Lowest, MarketAt, ByLevel, Demand3, Demands, Few}
use Rattle.base.proofs.ListLaws.{filter-fail, shuffles-length, filter-all, every_any, every_append, every_map, every_in}
use Rattle.board.proofs.SequenceLaws.{sequence-shuffles, sequence-rises}
use Rattle.trade.proofs.CodeLaws.{live-short}
use Rattle.demand.proofs.Lists.{gots-same, tally-append, tally-and, got-none, sold_at-none, got-fill, all-fill}
use Rattle.trade.proofs.Lists.{total-append, total-fill}
use Rattle.demand.proofs.Order.{in-sequence, all-sequence, distinct-sequence}
use Rattle.trade.proofs.Levels.{traded-is}
use Rattle.demand.proofs.Levels.{level-covered, level-near, level-first}
use Rattle.demand.proofs.Walk.{Walkable, Run, top_below, runs}
use Rattle.demand.proofs.Runs.{run-left, run-held, run-who, got-append, sold-append, run-total, run-range, run-each, run-absent, run-guarantee, run_only, run_fits, run-level, run-priority, here-distinct, is-here}
use Rattle.trade.proofs.Counts.{fills-short}
use Rattle.demand.proofs.Counts.{times-append, times-party, times-fill, run-once}
use Rattle.demand.proofs.Fair.{at-price, run-near, run-covered, run-guaranteed, run-customers}
use Rattle.demand.proofs.Turns.{run-earlier, run-before}
use Rattle.demand.proofs.Limits.{run-early, run-entry, run-top, run-prices, run-sold}
use Rattle.demand.proofs.Market.{market-bound, market-top, market-least, price-matched, price-midpoint, price-lower, price-alone}

module _ (d : Deal) (rs : List Response) (s : Walkable d rs) where
  -- ---- the market order

  -- the market order's fill is no response's
  not-market : (o : Response) → In o rs → Every (λ f. f.party ≢ o.sequence) (market_fill d rs)
  not-market o m =
      all-fill (λ f. f.party ≢ o.sequence) d.market (market_price d rs) (market_takes d rs)
      (λ h e. every_in (λ x. x.sequence ≢ d.market) rs o (s.market-apart (omega arith)).1 m (sym e))

  -- ---- the levels

  pub the-run : Run d rs 0 (d.size - market_takes d rs) 0 (levels d rs)
  unfolding levels
  the-run = runs d rs s (suc (top d)) 0 (d.size - market_takes d rs) 0 (omega arith) (omega arith)

  pub all_of : fills d rs ≡ market_fill d rs ++ flat (levels d rs)
  unfolding fills
  all_of = refl

  got-levels : (o : Response) → In o rs → got o.sequence (fills d rs) ≡ got o.sequence (flat (levels d rs))
  got-levels o m =
      rw all_of (omega (arith, got-append o.sequence (market_fill d rs) (flat (levels d rs)), got-none o.sequence (market_fill d rs) (not-market o m)))

  -- a response of a level gets in all what it gets there
  at_level : (l : Level) → In l (levels d rs) → (o : Response) → In o rs → working d o ≡ l.price → got o.sequence (fills d rs) ≡ got o.sequence (level_fills l)
  at_level l n o m w = got-levels o m ∙ run-level d rs s o m _ _ _ (levels d rs) the-run l n w

  positive_of : (o : Response) → In o rs → 0 < o.sequence
  positive_of o m = every_in (λ x. 0 < x.sequence) rs o s.parties m

  once-all : (k p : ℕ) → times k p (market_fill d rs ++ flat (levels d rs)) ≤ 1
  once-all k p = go (eqb d.market k) (ltb 0 d.selling) refl refl
    where
      rest : times k p (flat (levels d rs)) ≤ 1
      rest = run-once d rs s k p _ _ _ (levels d rs) the-run

      go : (b c : Bool) → eqb d.market k ≡ b → ltb 0 d.selling ≡ c → times k p (market_fill d rs ++ flat (levels d rs)) ≤ 1
      go true true e f =
          let a = s.market-apart (ltb-true 0 d.selling f) in
          let q : d.market ≡ k = eqb-true d.market k e in
          omega (
            arith,
            times-append k p (market_fill d rs) (flat (levels d rs)),
            times-fill k p d.market (market_price d rs) (market_takes d rs),
            times-party k p (flat (levels d rs)) (run-absent d rs s k (omega (arith, a.0)) (subst (λ n. Absent n rs) q a.1) _ _ _ (levels d rs) the-run),
          )
      go true false e f =
          omega (
            arith,
            times-append k p (market_fill d rs) (flat (levels d rs)),
            rest,
            times-party k p (market_fill d rs) (all-fill (λ f. f.party ≢ k) d.market (market_price d rs) (market_takes d rs) (λ h. absurd (omega (arith, ltb-false 0 d.selling f)))),
          )
      go false c e f =
          omega (
            arith,
            times-append k p (market_fill d rs) (flat (levels d rs)),
            rest,
            times-party k p (market_fill d rs) (all-fill (λ f. f.party ≢ k) d.market (market_price d rs) (market_takes d rs) (λ h. eqb-false d.market k e)),
          )

  contra-market : got 0 (market_fill d rs) ≡ 0
  contra-market =
      got-none 0 (market_fill d rs)
      (all-fill (λ f. f.party ≢ 0) d.market (market_price d rs) (market_takes d rs) (λ h. let a : 0 < d.market = (s.market-apart (omega arith)).0 in omega arith))

  pub got-contra-levels : got 0 (fills d rs) ≡ got 0 (flat (levels d rs))
  got-contra-levels = rw all_of (omega (arith, got-append 0 (market_fill d rs) (flat (levels d rs)), contra-market))

  gots-levels : (os : List Response) → ((x : Response) → In x os → In x rs) → gots (fills d rs) os ≡ gots (flat (levels d rs)) os
  gots-levels os f = gots-same (fills d rs) (flat (levels d rs)) os (λ x m. got-levels x (f x m))

  -- all that the Contra Order gets, at whatever prices, it gets in the walk
  contra-levels : (t : Fill → Bool) → tally (λ f. eqb f.party 0 && t f) (fills d rs) ≡ tally (λ f. eqb f.party 0 && t f) (flat (levels d rs))
  contra-levels t =
      rw all_of (omega (
        arith,
        tally-append (λ f. eqb f.party 0 && t f) (market_fill d rs) (flat (levels d rs)),
        tally-and (λ f. eqb f.party 0) t (market_fill d rs),
        contra-market,
      ))

  below-levels : (p : ℕ) → got_below 0 p (fills d rs) ≡ got_below 0 p (flat (levels d rs))
  below-levels p = contra-levels (λ f. ltb f.price p)

  above-all : (p : ℕ) → sold_above p (fills d rs) ≡ 0 → sold_above p (flat (levels d rs)) ≡ 0
  above-all p h = omega (arith, rw all_of at h, tally-append (λ f. ltb p f.price) (market_fill d rs) (flat (levels d rs)))

  at_of : (p : ℕ) → 0 < got_at 0 p (fills d rs) → 0 < got_at 0 p (flat (levels d rs))
  at_of p t = omega (arith, contra-levels (λ f. eqb f.price p))

  priority-of : (o : Response) → In o rs → (p : ℕ) → 0 < sold_at p (fills d rs) → working d o < p → got o.sequence (fills d rs) ≡ o.size
  priority-of o m p t h =
      let z : sold_at p (market_fill d rs) ≡ 0 = sold_at-none p (market_fill d rs) (all-fill (λ f. f.price ≢ p) d.market (market_price d rs) (market_takes d rs) (λ q. omega (arith, market-least d rs s o m))) in
      let u : 0 < sold_at p (flat (levels d rs)) = omega (arith, rw all_of at t, sold-append p (market_fill d rs) (flat (levels d rs))) in
      got-levels o m ∙ run-priority d rs s o m _ _ _ (levels d rs) the-run p (omega arith) h u

  market-of : 0 < d.selling → got d.market (fills d rs) ≤ d.selling
  market-of h =
      let a = s.market-apart h in
      rw all_of (omega (
        arith,
        got-append d.market (market_fill d rs) (flat (levels d rs)),
        got-fill d.market (market_price d rs) (market_takes d rs),
        got-none d.market (flat (levels d rs)) (run-absent d rs s d.market a.0 a.1 _ _ _ (levels d rs) the-run),
      ))

  -- ---- the market order's fill, then the walk's

  not-markets : Every (λ f. not (is_market d f) ≡ true) (flat (levels d rs))
  not-markets = go (ltb 0 d.selling) refl
    where
      go : (b : Bool) → ltb 0 d.selling ≡ b → Every (λ f. not (b && eqb f.party d.market) ≡ true) (flat (levels d rs))
      go true e =
          let a = s.market-apart (ltb-true 0 d.selling e) in
          every_map (λ f. f.party ≢ d.market) (λ f. not (eqb f.party d.market) ≡ true) (flat (levels d rs)) (λ f h. ap not (ne_eqb f.party d.market h))
          (run-absent d rs s d.market a.0 a.1 _ _ _ (levels d rs) the-run)
      go false e = every_any (λ f. true ≡ true) (flat (levels d rs)) (λ f. refl)

  pub walked-levels : walked d (fills d rs) ≡ flat (levels d rs)
  walked-levels = rw all_of (go (ltb 0 (market_takes d rs)) refl)
    where
      rest : walked d (flat (levels d rs)) ≡ flat (levels d rs)
      rest = filter-all (λ f. not (is_market d f)) (flat (levels d rs)) not-markets

      go : (b : Bool) → ltb 0 (market_takes d rs) ≡ b
          → walked d (keep b (record { party = d.market; price = market_price d rs; quantity = market_takes d rs }) [] ++ flat (levels d rs)) ≡ flat (levels d rs)
      go true e =
          let h : 0 < market_takes d rs = ltb-true 0 (market_takes d rs) e in
          let q : is_market d (record { party = d.market; price = market_price d rs; quantity = market_takes d rs }) ≡ true =
          rw (lt-ltb 0 d.selling (omega arith), eq-eqb d.market d.market refl) in
          filter-fail (λ f. not (is_market d f)) _ (flat (levels d rs)) (ap not q) ∙ rest
      go false e = rest

  pub market-trades-of : fills d rs ≡ market_fill d rs ++ walked d (fills d rs)
  market-trades-of = all_of ∙ ap (λ (fs : List Fill). market_fill d rs ++ fs) (sym walked-levels)

  -- ---- the clauses

  adds-up-of : traded (fills d rs) ≡ d.size
  adds-up-of = rw all_of (omega (arith, total-append (market_fill d rs) (flat (levels d rs)), total-fill d.market (market_price d rs) (market_takes d rs), run-total d rs s _ _ _ (levels d rs) the-run))

  -- what holds of the market order's fill and of the levels'
  by_parts : (P : Fill → Type 0) → Every P (market_fill d rs) → Every P (flat (levels d rs)) → Every P (fills d rs)
  by_parts P a b = rw all_of (every_append P (market_fill d rs) (flat (levels d rs)) a b)

  in-range-of : Every (InRange d) (fills d rs)
  in-range-of =
      by_parts (InRange d)
      (all-fill (InRange d) d.market (market_price d rs) (market_takes d rs) (λ h. record { low = market-bound d rs s; high = omega (arith, market-top d rs s, top_below d rs s); some = h }))
      (run-range d rs s _ _ _ (levels d rs) the-run)

  market-price-of : (P : ℕ → Type 0) → P (market_price d rs) → Every (λ f. is_market d f ≡ true → P f.price) (fills d rs)
  market-price-of P p =
      by_parts (λ f. is_market d f ≡ true → P f.price)
      (all-fill (λ f. is_market d f ≡ true → P f.price) d.market (market_price d rs) (market_takes d rs) (λ h z. p))
      (every_map (λ f. not (is_market d f) ≡ true) (λ f. is_market d f ≡ true → P f.price) (flat (levels d rs)) (λ f h z. absurd (true≢false (sym h ∙ ap not z))) not-markets)

  contra-limit-of : Every (λ f. f.party ≡ 0 → entry d ≤ f.price) (fills d rs)
  contra-limit-of =
      by_parts (λ f. f.party ≡ 0 → entry d ≤ f.price)
      (all-fill (λ f. f.party ≡ 0 → entry d ≤ f.price) d.market (market_price d rs) (market_takes d rs)
      (λ h z. let a : 0 < d.market = (s.market-apart (omega arith)).0 in absurd (omega arith)))
      (run-entry d rs s _ _ _ (levels d rs) the-run)

  top-price-of : Every (λ f. f.price ≤ top d) (fills d rs)
  top-price-of =
      by_parts (λ f. f.price ≤ top d)
      (all-fill (λ f. f.price ≤ top d) d.market (market_price d rs) (market_takes d rs) (λ h. market-top d rs s))
      (run-top d rs s _ _ _ (levels d rs) the-run)

  works-at-of : (o : Response) → In o rs → Every (λ f. f.party ≡ o.sequence → f.price ≡ working d o) (fills d rs)
  works-at-of o m =
      by_parts (λ f. f.party ≡ o.sequence → f.price ≡ working d o)
      (every_map (λ f. f.party ≢ o.sequence) (λ f. f.party ≡ o.sequence → f.price ≡ working d o) (market_fill d rs) (λ f h e. absurd (h e)) (not-market o m))
      (run_only d rs s o m _ _ _ (levels d rs) the-run)

  own-limit-of : (o : Response) → In o rs → Every (λ f. f.party ≡ o.sequence → o.price ≤ f.price) (fills d rs)
  own-limit-of o m =
      every_map (λ f. f.party ≡ o.sequence → f.price ≡ working d o) (λ f. f.party ≡ o.sequence → o.price ≤ f.price) (fills d rs)
      (λ f h e. let w : f.price ≡ working d o = h e in omega arith) (works-at-of o m)

  -- a fill of a higher response would lie above the last price
  higher-none-of : (o : Response) → In o rs → top d < working d o → got o.sequence (fills d rs) ≡ 0
  higher-none-of o m h = got-none o.sequence (fills d rs) (both (fills d rs) (works-at-of o m) top-price-of)
    where
      both : (fs : List Fill) → Every (λ f. f.party ≡ o.sequence → f.price ≡ working d o) fs → Every (λ f. f.price ≤ top d) fs → Every (λ f. f.party ≢ o.sequence) fs
      both [] a b = tt
      both (f ∷ fs) a b = (λ e. let w : f.price ≡ working d o = a.0 e in omega (arith, b.0), both fs a.1 b.1)

  share-of : (o : Response) → In o rs → o.customer ≡ false
      → Near (sum (gots (fills d rs) (others_at d rs (working d o)))) (sum (sizes (others_at d rs (working d o)))) o.size (got o.sequence (fills d rs))
  share-of o m c =
      rw (gots-levels (others_at d rs (working d o)) (λ x n. (at-price d rs s (working d o) x n).0), got-levels o m) (run-near d rs s o m c _ _ _ (levels d rs) the-run)

  covered_of : (o : Response) → In o rs → o.customer ≡ false → got o.sequence (fills d rs) < o.size → got 0 (fills d rs) ≤ max (guarantee d rs) (got_below 0 (working d o) (fills d rs))
  covered_of o m c h =
      let b : got 0 (flat (levels d rs)) ≤ max (guarantee d rs) (got_below 0 (working d o) (flat (levels d rs))) =
      omega (arith, run-covered d rs s o m c _ _ _ (levels d rs) the-run (omega arith) (rw (got-levels o m) at h)) in
      omega (arith, got-contra-levels, below-levels (working d o))

  guaranteed-of : (o : Response) → In o rs → o.customer ≡ false → entry d ≤ working d o → sold_above (working d o) (fills d rs) ≡ 0 → 0 < got o.sequence (fills d rs)
      → guarantee d rs ≤ got 0 (fills d rs)
  guaranteed-of o m c e a t =
      rw got-contra-levels (omega (arith, run-guaranteed d rs s o m c _ _ _ (levels d rs) the-run (omega arith) e (above-all (working d o) a) (rw (got-levels o m) at t)))

  -- ---- price by price

  module _ (l : Level) (n : In l (levels d rs)) where
    there : (o : Response) → In o rs → (working d o ≡ l.price → In o l.here) × Distinct l.here
    there o m =
        run-each d rs s (λ l. (working d o ≡ l.price → In o l.here) × Distinct l.here)
        (λ from left held l g. (is-here d rs s o m from left held l g, here-distinct d rs s o m from left held l g)) _ _ _ (levels d rs) the-run l n

    planned-of : plan_on l ≡ plan_of d.mode (working_stop d) d.initiating (guarantee d rs) l.price l.left l.held (size_here l)
    planned-of =
        run-each d rs s (λ x. plan_on x ≡ plan_of d.mode (working_stop d) d.initiating (guarantee d rs) x.price x.left x.held (size_here x)) (λ from left held x g. g.planned) _ _ _ (levels d rs) the-run l n

    none-held : d.mode ≡ 1 → l.held ≡ 0
    unfolding entry top
    none-held m =
        let e : entry d ≡ working_stop d = ap (λ (k : ℕ). cond (eqb k 2) 0 (working_stop d)) m in
        let t : top d ≡ working_stop d = ap (λ (k : ℕ). cond (eqb k 1) (working_stop d) d.initiating) m in
        let h : l.price ≤ top d = run-each d rs s (λ x. x.price ≤ top d) (λ from left held x g. g.in_top) _ _ _ (levels d rs) the-run l n in
        run-early d rs s _ _ _ (levels d rs) the-run l n (omega arith)

    filled_of : (o : Response) → In o rs → o.customer ≡ false → working d o ≡ l.price → sum (sizes (others l)) ≤ shared l → got o.sequence (fills d rs) ≡ o.size
    filled_of o m c w h = at_level l n o m w ∙ level-covered l o (positive_of o m) (there o m).1 ((there o m).0 w) c h

    short-of : (o : Response) → In o rs → o.customer ≡ false → working d o ≡ l.price → shared l < sum (sizes (others l))
        → Near (shared l) (sum (sizes (others l))) o.size (got o.sequence (fills d rs))
    short-of o m c w h = rw (at_level l n o m w) (level-near l o (positive_of o m) (there o m).1 ((there o m).0 w) c h)

    has-guarantee-of : (o : Response) → In o rs → o.customer ≡ false → working d o ≡ l.price → l.final ≡ true → 0 < got o.sequence (fills d rs) → guarantee d rs ≤ got 0 (fills d rs)
    has-guarantee-of o m c w e t =
        let k = level-first l o (positive_of o m) (there o m).1 ((there o m).0 w) c (rw (at_level l n o m w) at t) in
        rw got-contra-levels (omega (arith, run-guarantee d rs s _ _ _ (levels d rs) the-run l n e k))

-- ---- of a board

module _ (d : Deal) (b : Board) (s : Tradable d b) where
  pub fit : Walkable d (offers b)
  fit =
      record {
        bound-below = s.bound-below;
        stop-below = s.stop-below;
        parties = all-sequence (λ r. 0 < r.sequence) (live_of b) s.parties;
        distinct = distinct-sequence (live_of b) s.distinct;
        market-apart = λ h. ((s.market-apart h).0, all-sequence (λ r. r.sequence ≢ d.market) (live_of b) (s.market-apart h).1);
      }

  into : (r : Response) → In r (live_of b) → In r (offers b)
  into r m = in-sequence r (live_of b) m

  known : Every (λ r. Party d b r.sequence) (offers b)
  known = all-sequence (λ r. Party d b r.sequence) (live_of b) (each (live_of b) (λ r m. m))
    where
      each : (os : List Response) → ((r : Response) → In r os → In r (live_of b)) → Every (λ r. Party d b r.sequence) os
      each [] f = tt
      each (o ∷ os) f = (a_response o (f o (inl refl)) refl, each os (λ x m. f x (inr m)))

  at-market : MarketAt d b (market_price d (offers b))
  unfolding in_sequence
  at-market =
      record {
        matched = λ m q k. price-matched d (offers b) fit m k.response (into k.response k.live) (below k.response k.live) (from_lowest q k) ∙ k.works;
        midpoint = λ m e. price-midpoint d (offers b) fit m (ap length (none e));
        lower = λ m q k. price-lower d (offers b) fit m k.response (into k.response k.live) (from_lowest q k) ∙ ap (λ (p : ℕ). min p (working_stop d)) k.works;
        alone = λ m e. price-alone d (offers b) fit m (none e);
      }
    where
      below : (r : Response) → In r (live_of b) → working d r ≤ d.initiating
      below r m = omega (arith, s.bound-below, every_in (λ x. x.price ≤ d.initiating) (live_of b) r s.prices m)

      from_lowest : (q : ℕ) (k : Lowest d b q) → Every (λ x. working d k.response ≤ working d x) (offers b)
      from_lowest q k = subst (λ (p : ℕ). Every (λ x. p ≤ working d x) (offers b)) (sym k.works) (all-sequence (λ x. q ≤ working d x) (live_of b) k.least)

      none : live_of b ≡ [] → offers b ≡ []
      none e = ap in_sequence e

  level : (l : Level) → In l (levels d (offers b)) → ByLevel d b (fills d (offers b)) l
  level l n =
      record {
        arrives = rw (walked-levels d (offers b) fit) (omega (arith, run-left d (offers b) fit _ _ _ (levels d (offers b)) (the-run d (offers b) fit) l n));
        holds = omega (arith, run-held d (offers b) fit _ _ _ (levels d (offers b)) (the-run d (offers b) fit) l n, below-levels d (offers b) fit l.price);
        planned = planned-of d (offers b) fit l n;
        comes-with-none = none-held d (offers b) fit l n;
        trades = rw (walked-levels d (offers b) fit) (run-sold d (offers b) fit _ _ _ (levels d (offers b)) (the-run d (offers b) fit) l n ∙ traded-is l);
        filled = λ r m. filled_of d (offers b) fit l n r (into r m);
        short = λ r m. short-of d (offers b) fit l n r (into r m);
        has-guarantee = λ r m. has-guarantee-of d (offers b) fit l n r (into r m);
      }

  clauses : Demand3 d b (fills d (offers b))
  clauses =
      record {
        adds-up = adds-up-of d (offers b) fit;
        in-range = in-range-of d (offers b) fit;
        nobody-else = by_parts d (offers b) fit (λ f. Party d b f.party)
            (all-fill (λ f. Party d b f.party) d.market (market_price d (offers b)) (market_takes d (offers b)) (λ h. the_market refl (omega arith)))
            (run-who d (offers b) fit (Party d b) (the_contra refl) known _ _ _ (levels d (offers b)) (the-run d (offers b) fit));
        once = λ k p. rw (all_of d (offers b) fit) (once-all d (offers b) fit k p);
        market-trades = market-trades-of d (offers b) fit;
        market-price = market-price-of d (offers b) fit (MarketAt d b) at-market;
        walked-prices = rw (walked-levels d (offers b) fit) (run-prices d (offers b) fit _ _ _ (levels d (offers b)) (the-run d (offers b) fit));
        market-fits = market-of d (offers b) fit;
        response-fits = λ r m. rw (got-levels d (offers b) fit r (into r m)) (run_fits d (offers b) fit r (into r m) _ _ _ (levels d (offers b)) (the-run d (offers b) fit));
        own-limit = λ r m. own-limit-of d (offers b) fit r (into r m);
        works_at = λ r m. works-at-of d (offers b) fit r (into r m);
        contra-limit = contra-limit-of d (offers b) fit;
        top-price = top-price-of d (offers b) fit;
        higher-none = λ r m. higher-none-of d (offers b) fit r (into r m);
        priority = λ r m. priority-of d (offers b) fit r (into r m);
        customers-first = λ r k m n c j q t.
            got-levels d (offers b) fit k (into k n)
            ∙ run-customers d (offers b) fit r (into r m) c k (into k n) j q _ _ _ (levels d (offers b)) (the-run d (offers b) fit) (rw (got-levels d (offers b) fit r (into r m)) at t);
        customers-before-contra = λ k n e t.
            got-levels d (offers b) fit k (into k n)
            ∙ run-before d (offers b) fit k (into k n) e _ _ _ (levels d (offers b)) (the-run d (offers b) fit) (at_of d (offers b) fit (working d k) t);
        by-sequence = λ r k m n c e q h t.
            got-levels d (offers b) fit k (into k n)
            ∙ run-earlier d (offers b) fit (sequence-rises (live_of b)) r k (into r m) (into k n) c e q h _ _ _ (levels d (offers b)) (the-run d (offers b) fit) (rw (got-levels d (offers b) fit r (into r m)) at t);
        share = λ r m. share-of d (offers b) fit r (into r m);
        covered = λ r m. covered_of d (offers b) fit r (into r m);
        guaranteed = λ r m. guaranteed-of d (offers b) fit r (into r m);
        by_level = level;
      }

pub demand3 : Demands
demand3 d b s = clauses d b s

pub few : Few
few d b g = fills-short d (offers b) (omega (arith, shuffles-length (sequence-shuffles (live_of b)), live-short b.live b.places, g.places-are))
