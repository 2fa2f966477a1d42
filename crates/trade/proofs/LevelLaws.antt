-- What the code finds and writes of a level is the level's.
use mathlib.Core.Path.{◌≡◌, refl, sym, ap, ap₂, ◌∙◌}
use mathlib.Core.Bool.{Bool, true, false, cond}
use mathlib.Core.List.{List, [], ◌∷◌, ◌++◌}
use mathlib.Core.Logic.{◌⊎◌, inl, inr}
use Prim.Native.Nat.{ℕ, suc, ◌+◌, ◌-◌, ◌^◌, ◌≤◌, ◌<◌, min}
use native.Mathlib.Omega.{arith}
use borrow.Author.Tests.{le-leb}
use lib.Dec.{leb, ltb}
use lib.ListN.{length}
use Rattle.board.specs.declared.Response.{Response}
use Rattle.base.specs.Lists.{keep, filter, sum}
use Rattle.board.specs.rules.Board.{live_in, in_sequence}
use Rattle.board.specs.inside.Places.{word_of}
use Rattle.board.proofs.LiveLaws.{word-filters}
use Rattle.board.proofs.SequenceLaws.{sequence-filter}
use Rattle.share.specs.rules.Share.{in_turn}
use Rattle.share.specs.rules.Fills.{Fill, fill_of, fills_by, sizes}
use Rattle.trade.specs.declared.Deal.{Deal}
use Rattle.trade.specs.declared.Found.{Found}
use Rattle.trade.specs.declared.Price.{Price}
use Rattle.trade.specs.declared.Walked.{Walked}
use Rattle.trade.specs.rules.Plan.{Plan}
use Rattle.trade.specs.rules.Trade.{from_customer, from_other, Level, customers, others, shared, given, first, contra, level_fills, traded, flat, working, top, entry, next, guarantee, size_here}
use Rattle.trade.specs.rules.Write.{reported_price, reported}
use Rattle.trade.specs.inside.Code.{shared_of, contra_of, left_of, in_turn_of, plan_by, works_at, customer_at, other_at, rank_of, least_of, Stands, each_fills, dealt, share_fills, place_fills, level_of, priced_of, walk_from}
use Rattle.trade.proofs.Lists.{sizes-split}
use Rattle.trade.proofs.Levels.{given-sum, traded-is}
use Rattle.trade.proofs.WriteLaws.{sizes-sequence}
use Rattle.trade.proofs.CodeLaws.{shared-le}
use Rattle.trade.proofs.StepLaws.{word-parts, word-le, ahead, least-next, walk_turn, from-none, from_past}
use Rattle.base.proofs.ListLaws.{filter-filter}
use Rattle.trade.proofs.Walk.{next-above, next-top}

-- ---- the numbers of any level

pub shared-numbers : (l : Level) → shared l ≡ shared_of l.left (sum (sizes (customers l))) l.want
unfolding shared_of
shared-numbers l = refl

pub contra-numbers : (l : Level) → contra l ≡ contra_of l.left (sum (sizes (customers l))) (sum (sizes (others l))) l.want l.final
unfolding contra_of shared_of
contra-numbers l = go l.final
  where
    go : (b : Bool) → first l + cond b (shared l - sum (given l)) 0 ≡ first l + cond b (shared l - sum (sizes (others l))) 0
    go true = omega (arith, given-sum l)
    go false = refl

pub left-numbers : (l : Level) → l.left - traded (level_fills l) ≡ left_of l.left (sum (sizes (customers l))) (sum (sizes (others l))) l.want l.final
unfolding left_of
left-numbers l = ap (λ (n : ℕ). l.left - n) (traded-is l) ∙ go l.final
  where
    go : (b : Bool) → l.left - cond b l.left (min l.left (size_here l + l.want)) ≡ cond b 0 (l.left - (sum (sizes (customers l)) + sum (sizes (others l)) + l.want))
    go true = omega arith
    go false = omega (arith, sizes-split l.here)

pub contra-within : (left C T want : ℕ) (f : Bool) → contra_of left C T want f + left_of left C T want f ≤ left
unfolding contra_of left_of shared_of
contra-within left C T want true = let k : min (left - C) want ≤ left - C = omega arith in omega arith
contra-within left C T want false = let k : min (left - C) want ≤ want = omega arith in let j : min (left - C) want ≤ left - C = omega arith in omega arith

-- ---- prices mirrored back

pub reported-append : (sell : Bool) (fs gs : List Fill) → reported sell (fs ++ gs) ≡ reported sell fs ++ reported sell gs
reported-append sell [] gs = refl
reported-append sell (f ∷ fs) gs = ap {B = List Fill} (λ r. record { party = f.party; price = reported_price sell f.price; quantity = f.quantity } ∷ r) (reported-append sell fs gs)

pub reported-length : (sell : Bool) (fs : List Fill) → length (reported sell fs) ≡ length fs
reported-length sell [] = refl
reported-length sell (f ∷ fs) = ap suc (reported-length sell fs)

pub reported-fill : (sell : Bool) (k p q : ℕ) → reported sell (fill_of k p q) ≡ fill_of k (reported_price sell p) q
reported-fill sell k p q = go (ltb 0 q)
  where
    go : (b : Bool) → reported sell (keep b (record { party = k; price = p; quantity = q }) []) ≡ keep b (record { party = k; price = reported_price sell p; quantity = q }) []
    go true = refl
    go false = refl

pub reported-by : (sell : Bool) (p : ℕ) (rs : List Response) (qs : List ℕ) → reported sell (fills_by p rs qs) ≡ fills_by (reported_price sell p) rs qs
reported-by sell p [] qs = refl
reported-by sell p (r ∷ rs) [] = refl
reported-by sell p (r ∷ rs) (q ∷ qs) =
    reported-append sell (fill_of r.sequence p q) (fills_by p rs qs) ∙ ap₂ {C = List Fill} (λ x y. x ++ y) (reported-fill sell r.sequence p q) (reported-by sell p rs qs)

pub reported-level : (sell : Bool) (l : Level) → reported sell (level_fills l) ≡ place_fills (reported_price sell l.price) l.left (customers l) (contra l) (shared l) (others l)
unfolding level_fills place_fills each_fills dealt share_fills
reported-level sell l =
    let a = fills_by l.price (customers l) (in_turn l.left (sizes (customers l))) in
    let b = fill_of 0 l.price (contra l) in
    let c = fills_by l.price (others l) (given l) in
    reported-append sell a (b ++ c)
    ∙ ap₂ {C = List Fill} (λ x y. x ++ y) (reported-by sell l.price (customers l) (in_turn l.left (sizes (customers l))))
    (reported-append sell b c ∙ ap₂ {C = List Fill} (λ x y. x ++ y) (reported-fill sell 0 l.price (contra l)) (reported-by sell l.price (others l) (given l)))

-- ---- what is made of what was found

-- what is known of a price of the walk
pub record Priced (d : Deal) (ps : List Response) (G : ℕ) (s : Walked) (l : Price) : Type 0 where
  pub price-is : l.price ≡ (level_of d ps G s).price
  pub left_is : l.left ≡ s.left
  pub customers-rank : l.customer ≡ rank_of 0 (live_in l.customers ps)
  pub others-rank : l.other ≡ rank_of 0 (live_in l.others ps)
  pub total-is : l.total ≡ sum (sizes (live_in l.others ps))
  pub total-low : l.total ≤ 274877906880
  pub in-turn : l.turns ≡ in_turn_of l.total l.shared l.others
  pub shared-low : l.shared ≤ s.left
  pub contra-low : l.contra + l.after ≤ s.left
  pub contra-is : l.contra ≡ contra (level_of d ps G s)
  pub after_is : l.after ≡ s.left - traded (level_fills (level_of d ps G s))
  -- its places are places of the walk's word
  pub gone : l.customers + l.others ≡ word_of (works_at d.bound (level_of d ps G s).price) s.rest ps
  pub fits : l.customers + l.others ≤ s.rest
  pub fills : place_fills l.reported l.left (in_sequence (live_in l.customers ps)) l.contra l.shared (in_sequence (live_in l.others ps)) ≡ reported d.sell (level_fills (level_of d ps G s))

pub priced-price : (d : Deal) (G : ℕ) (s : Walked) (f : Found) (l : Price) → l ≡ priced_of d G s f → l.price ≡ f.price
unfolding priced_of
priced-price d G s f l e = ap (λ (x : Price). x.price) e

module _ (d : Deal) (ps : List Response) (G : ℕ) (s : Walked) (e : length ps ≡ 64) (fit : s.rest < 2 ^ 64) (f : Found) (st : Stands d.bound (top d) ps s.rest f) where
  abbrev level : Level
  level = level_of d ps G s

  abbrev here : List Response
  here = filter (works_at d.bound f.price) (live_in s.rest ps)

  price-found : f.price ≡ level.price
  unfolding level_of
  price-found = st.price-is

  here_found : level.here ≡ in_sequence here
  unfolding level_of
  here_found = ap (λ (n : ℕ). in_sequence (filter (works_at d.bound n) (live_in s.rest ps))) (sym st.price-is)

  customers-here : filter (customer_at d.bound f.price) (live_in s.rest ps) ≡ filter from_customer here
  customers-here = sym (filter-filter from_customer (works_at d.bound f.price) (customer_at d.bound f.price) (live_in s.rest ps) (λ x m. refl))

  others-here : filter (other_at d.bound f.price) (live_in s.rest ps) ≡ filter from_other here
  others-here = sym (filter-filter from_other (works_at d.bound f.price) (other_at d.bound f.price) (live_in s.rest ps) (λ x m. refl))

  customers-live : live_in f.customers ps ≡ filter (customer_at d.bound f.price) (live_in s.rest ps)
  customers-live = ap (λ (n : ℕ). live_in n ps) st.found.customers ∙ word-filters (customer_at d.bound f.price) s.rest ps

  others-live : live_in f.others ps ≡ filter (other_at d.bound f.price) (live_in s.rest ps)
  others-live = ap (λ (n : ℕ). live_in n ps) st.found.others ∙ word-filters (other_at d.bound f.price) s.rest ps

  customers-are : in_sequence (live_in f.customers ps) ≡ customers level
  customers-are = ap in_sequence (customers-live ∙ customers-here) ∙ sym (sequence-filter from_customer here) ∙ ap (filter from_customer) (sym here_found)

  others-are : in_sequence (live_in f.others ps) ≡ others level
  others-are = ap in_sequence (others-live ∙ others-here) ∙ sym (sequence-filter from_other here) ∙ ap (filter from_other) (sym here_found)

  others-sum : f.total ≡ sum (sizes (live_in f.others ps))
  others-sum = st.found.total ∙ ap (λ (x : List Response). sum (sizes x)) (sym others-live)

  served-all : f.served ≡ sum (sizes (customers level))
  served-all = st.found.served ∙ ap (λ (x : List Response). sum (sizes x)) (sym customers-live) ∙ sym (sizes-sequence (live_in f.customers ps)) ∙ ap (λ (x : List Response). sum (sizes x)) customers-are

  total-all : f.total ≡ sum (sizes (others level))
  total-all = others-sum ∙ sym (sizes-sequence (live_in f.others ps)) ∙ ap (λ (x : List Response). sum (sizes x)) others-are

  abbrev plan : ℕ → ℕ → Plan
  plan p A = plan_by d.mode (entry d) (top d) G p s.left s.held A

  plan-found : plan f.price (f.served + f.total) ≡ plan level.price (sum (sizes level.here))
  plan-found =
      let A : f.served + f.total ≡ sum (sizes level.here) = omega (arith, served-all, total-all, sizes-split level.here) in
      ap₂ {C = Plan} (λ (p n : ℕ). plan p n) price-found A

  want-found : (plan f.price (f.served + f.total)).want ≡ level.want
  unfolding level_of
  want-found = ap (λ (p : Plan). p.want) plan-found

  final-found : (plan f.price (f.served + f.total)).final ≡ level.final
  unfolding level_of
  final-found = ap (λ (p : Plan). p.final) plan-found

  contra-found : contra_of s.left f.served f.total (plan f.price (f.served + f.total)).want (plan f.price (f.served + f.total)).final ≡ contra level
  unfolding level_of
  contra-found = rw (want-found, final-found, served-all, total-all) (sym (contra-numbers level))

  after-found : left_of s.left f.served f.total (plan f.price (f.served + f.total)).want (plan f.price (f.served + f.total)).final ≡ s.left - traded (level_fills level)
  unfolding level_of
  after-found = rw (want-found, final-found, served-all, total-all) (sym (left-numbers level))

  shared-found : shared_of s.left f.served (plan f.price (f.served + f.total)).want ≡ shared level
  unfolding level_of
  shared-found = rw (want-found, served-all) (sym (shared-numbers level))

  pub priced : (l : Price) → l ≡ priced_of d G s f → Priced d ps G s l
  unfolding priced_of level_of
  priced l el =
      let gone : f.customers + f.others ≡ word_of (works_at d.bound f.price) s.rest ps =
      ap₂ (λ (x y : ℕ). x + y) st.found.customers st.found.others ∙ word-parts (works_at d.bound f.price) from_customer s.rest ps in
      rw el
      (record {
        price-is = price-found;
        left_is = refl;
        customers-rank = st.found.customer ∙ ap (rank_of 0) (sym customers-live);
        others-rank = st.found.other ∙ ap (rank_of 0) (sym others-live);
        total-is = others-sum;
        total-low = omega (arith, st.found.small);
        in-turn = refl;
        shared-low = shared-le s.left f.served (plan f.price (f.served + f.total)).want;
        contra-low = contra-within s.left f.served f.total (plan f.price (f.served + f.total)).want (plan f.price (f.served + f.total)).final;
        contra-is = contra-found;
        after_is = after-found;
        gone = gone ∙ ap (λ (n : ℕ). word_of (works_at d.bound n) s.rest ps) price-found;
        fits = rw gone (word-le (works_at d.bound f.price) s.rest ps (rw e fit));
        fills =
            ap (λ (n : ℕ). place_fills (reported_price d.sell n) s.left (in_sequence (live_in f.customers ps)) (contra_of s.left f.served f.total (plan f.price (f.served + f.total)).want (plan f.price (f.served + f.total)).final) (shared_of s.left f.served (plan f.price (f.served + f.total)).want) (in_sequence (live_in f.others ps))) price-found
            ∙ rw (contra-found, shared-found, customers-are, others-are) (sym (reported-level d.sell level));
      })

-- ---- the loop of the walk

pub ahead-all : (d : Deal) (xs : List Response) → filter (ahead d 0) xs ≡ xs
unfolding filter
ahead-all d [] = refl
ahead-all d (x ∷ xs) =
    let e : leb 0 (working d x) ≡ true = le-leb 0 (working d x) (omega arith) in
    rw (e, ahead-all d xs)

module _ (d : Deal) (ps : List Response) (live G : ℕ) (s : Walked) (g : G ≡ guarantee d (in_sequence (live_in live ps)))
    (r : live_in s.rest ps ≡ filter (ahead d s.from) (live_in live ps)) (h : s.from ≤ top d) (z : 0 < s.left) where
  -- what is to be written: this level's fills, and those of the rest of the walk
  pub walk-fills : (from left held : ℕ) → from ≡ (level_of d ps G s).price + 1 → left ≡ s.left - traded (level_fills (level_of d ps G s)) → held ≡ s.held + contra (level_of d ps G s)
      → reported d.sell (flat (walk_from d (in_sequence (live_in live ps)) s.from s.left s.held))
      ≡ reported d.sell (level_fills (level_of d ps G s)) ++ reported d.sell (flat (walk_from d (in_sequence (live_in live ps)) from left held))
  walk-fills from left held a b c =
      ap (λ (ls : List Level). reported d.sell (flat ls)) (walk_turn d ps live G s g r h z)
      ∙ reported-append d.sell (level_fills (level_of d ps G s)) _
      ∙ rw (a, b, c)

pub walk-done : (d : Deal) (rs : List Response) (from left held : ℕ) → (left ≡ 0) ⊎ (top d < from) → reported d.sell (flat (walk_from d rs from left held)) ≡ []
walk-done d rs from left held (inl e) = rw (from-none d rs from left held e)
walk-done d rs from left held (inr e) = rw (from_past d rs from left held e)

-- the next price is from here on
pub level-above : (d : Deal) (ps : List Response) (live G : ℕ) (s : Walked) → live_in s.rest ps ≡ filter (ahead d s.from) (live_in live ps) → s.from ≤ top d
    → (s.from ≤ (level_of d ps G s).price) × ((level_of d ps G s).price ≤ top d)
unfolding level_of
level-above d ps live G s r h =
    let e : least_of d.bound (top d) (live_in s.rest ps) ≡ next d s.from (live_in live ps) = rw r (least-next d s.from (live_in live ps)) in
    (rw e (next-above d s.from h (live_in live ps)), rw e (next-top d s.from (live_in live ps)))
