-- What the others at a price share, in real prices. Assumes nothing.
use mathlib.Core.Path.{◌≡◌, refl, sym, ap, ap₂, ◌∙◌, subst}
use mathlib.Core.Bool.{Bool, true, false, ◌&&◌}
use mathlib.Core.List.{List, [], ◌∷◌, map}
use mathlib.Core.Logic.{inl, ◌≢◌}
use Prim.Native.Nat.{ℕ, ◌-◌, ◌≤◌, ◌<◌, min, max}
use native.Mathlib.Omega.{arith}
use lib.Dec.{ltb, eqb}
use lib.ListN.{length, length-map}
use borrow.Author.Tests.{ltb-false, eqb-true, eqb-false}
use Rattle.base.specs.Lists.{In, Every, filter, sum}
use Rattle.base.proofs.ListLaws.{every_any, every_map, every-filter, filter-in, filter-test, shuffles-length}
use Rattle.board.specs.declared.Response.{Response}
use Rattle.board.specs.declared.Board.{Board}
use Rattle.board.specs.rules.Board.{live_of, in_sequence}
use Rattle.base.proofs.Bools.{by}
use Rattle.board.proofs.Theorems.{ordering}
use Rattle.board.proofs.SequenceLaws.{sequence-filter, sequence-shuffles}
use Rattle.share.specs.rules.Share.{shares}
use Rattle.share.specs.promises.Share.{Near}
use Rattle.share.specs.rules.Fills.{Fill, sizes}
use Rattle.tape.specs.declared.order.Order.{Order}
use Rattle.tape.specs.declared.event.Event.{Event}
use Rattle.trade.specs.declared.Deal.{Deal}
use Rattle.trade.specs.rules.Plan.{Plan, plan_of}
use Rattle.trade.specs.rules.Trade as trade
use Rattle.trade.specs.rules.Trade.{from_customer, from_other, offers, offers_at, working, working_stop, entry, guarantee_of}
use Rattle.trade.specs.rules.Write.{reported_price}
use Rattle.share.proofs.ShareLaws.{shares-nobody}
use Rattle.trade.proofs.WriteLaws.{sizes-sequence}
use Rattle.demand.proofs.Lists.{tally-none}
use Rattle.demand.specs.promises.Demands as demands
use Rattle.demand.specs.promises.Demands.{Tradable, tally, got, gots, got_below, sold_below, sold_above}
use Rattle.auction.specs.rules.Accept.{Accepts}
use Rattle.fills.specs.rules.Fills.{deal_of}
use Rattle.tape.proofs.FormLaws.{order-bounds}
use Rattle.auction.proofs.Accepted.{opened}
use Rattle.run.proofs.SoundLaws.{sound-deal}
use Rattle.promise.specs.rules.Sides.{is_sell, better, sent, sold_better, got_better, at_end, written_fills, live_at_end, walked_fills, working_price, all_at_price, customers_at_price, others_at_price, guarantee_at_end, left_at_price, plan_at_price, left_to_others_at_price}
use Rattle.promise.proofs.RealLaws.{better-shown, same-shown, shown-twice, tally-shown, filter-sent, sequence-sent, sizes-sent, deal, dealt, sound, demand, mode-is, size_is, written_is, there-is, initiating-fits, stop-fits, prices-fit, working-fits, works-is, walked-is, got-is, was-live}
use Rattle.promise.proofs.Real.{stop_is}
use Rattle.promise.proofs.BuyShares as buy

-- a plan by equal numbers, and what is left by them
same-plan : (w i : ℕ) {m n g k p q l j u v a c : ℕ} → m ≡ n → g ≡ k → p ≡ q → l ≡ j → u ≡ v → a ≡ c → plan_of m w i g p l u a ≡ plan_of n w i k q j v c
same-plan w i e1 e2 e3 e4 e5 e6 = rw (e1, e2, e3, e4, e5, e6)

same_left : {l j c k w v : ℕ} → l ≡ j → c ≡ k → w ≡ v → (l - c) - min (l - c) w ≡ (j - k) - min (j - k) v
same_left e1 e2 e3 = rw (e1, e2, e3)

-- what responses trade, as they were sent, and in order of sequence
gots-sent : (s : Bool) (fs gs : List Fill) → ((k : ℕ) → got k fs ≡ got k gs) → (rs : List Response) → gots fs (map (sent s) rs) ≡ gots gs rs
gots-sent s fs gs e [] = refl
gots-sent s fs gs e (r ∷ rs) = ap (λ (n : ℕ). n ∷ gots fs (map (sent s) rs)) (e r.sequence) ∙ ap (λ (ns : List ℕ). got r.sequence gs ∷ ns) (gots-sent s fs gs e rs)

gots-map : (fs : List Fill) (rs : List Response) → gots fs rs ≡ map (λ r. got r.sequence fs) rs
gots-map fs [] = refl
gots-map fs (r ∷ rs) = ap (λ (ns : List ℕ). got r.sequence fs ∷ ns) (gots-map fs rs)

gots-sequence : (fs : List Fill) (rs : List Response) → sum (gots fs (in_sequence rs)) ≡ sum (gots fs rs)
gots-sequence fs rs = ap sum (gots-map fs (in_sequence rs)) ∙ ordering.sums-stay (λ r. got r.sequence fs) rs ∙ ap sum (sym (gots-map fs rs))

module _ (o : Order) (es : List Event) (h : Accepts o) where
  abbrev sell : Bool
  sell = is_sell o

  abbrev board : Board
  board = (at_end o es).board

  -- the buy that the order is or mirrors
  abbrev d : Deal
  d = deal o es h

  can-trade : Tradable d board
  can-trade = sound-deal (at_end o es) (sound o es h)

  -- 40%, or 50%
  guarantee-is : guarantee_at_end o es ≡ trade.guarantee d (offers board)
  unfolding deal_of
  guarantee-is =
      ap (λ (n : ℕ). guarantee_of n (length (live_at_end o es))) (sym (size_is o es h))
      ∙ ap (guarantee_of d.size) (ap length (there-is o es h) ∙ length-map (live_of board) (sent sell) ∙ sym (shuffles-length (sequence-shuffles (live_of board))))

  -- ---- at a price of the buy, and its real price

  module _ (q : ℕ) (fits : q ≤ 1000000) where
    abbrev real : ℕ
    real = reported_price sell q

    abbrev walks : List Fill
    walks = demands.walked d (dealt o es h)

    walks-fit : Every (λ f. f.price ≤ 1000000) walks
    walks-fit = every-filter (λ f. f.price ≤ 1000000) _ (dealt o es h) (prices-fit o es h)

    -- what trades at better prices
    better-is : sold_better sell real (walked_fills o es) ≡ sold_below q walks
    better-is =
        ap (sold_better sell real) (walked-is o es h)
        ∙ tally-shown sell (λ f. better sell f.price real) (λ f. ltb f.price q) walks
        (every_map (λ f. f.price ≤ 1000000) (λ f. better sell (reported_price sell f.price) real ≡ ltb f.price q) walks (λ f z. better-shown sell f.price q z fits) walks-fit)

    held-is : got_better sell 0 real (written_fills o es) ≡ got_below 0 q (dealt o es h)
    held-is =
        ap (got_better sell 0 real) (written_is o es h)
        ∙ tally-shown sell (λ f. eqb f.party 0 && better sell f.price real) (λ f. eqb f.party 0 && ltb f.price q) (dealt o es h)
        (every_map (λ f. f.price ≤ 1000000) (λ f. (eqb f.party 0 && better sell (reported_price sell f.price) real) ≡ (eqb f.party 0 && ltb f.price q)) (dealt o es h)
        (λ f z. ap (λ (b : Bool). eqb f.party 0 && b) (better-shown sell f.price q z fits)) (prices-fit o es h))

    left_is : left_at_price o es real ≡ buy.left_at d board q
    unfolding deal_of
    left_is = omega (arith, size_is o es h, better-is)

    -- the responses there
    abbrev here : List Response
    here = filter (λ r. eqb (working d r) q) (live_of board)

    all-is : all_at_price o es real ≡ map (sent sell) here
    all-is =
        ap (filter (λ r. eqb (working_price o es r) real)) (there-is o es h)
        ∙ filter-sent sell (λ r. eqb (working_price o es r) real) (λ r. eqb (working d r) q) (live_of board)
        (every_map (λ r. r.price ≤ d.initiating) (λ r. eqb (working_price o es (sent sell r)) real ≡ eqb (working d r) q) (live_of board)
        (λ r z. ap (λ (p : ℕ). eqb p real) (works-is o es h r) ∙ same-shown sell (working d r) q (omega (arith, can-trade.bound-below, initiating-fits o es h)) fits)
        can-trade.prices)

    offers-are : offers_at d (offers board) q ≡ in_sequence here
    unfolding offers_at
    offers-are = sequence-filter (λ r. eqb (working d r) q) (live_of board)

    all-sizes : sum (sizes (all_at_price o es real)) ≡ sum (sizes (offers_at d (offers board) q))
    all-sizes =
        ap (λ (rs : List Response). sum (sizes rs)) all-is
        ∙ ap sum (sizes-sent sell here)
        ∙ sym (ap (λ (rs : List Response). sum (sizes rs)) offers-are ∙ sizes-sequence here)

    -- the Customers' or the others'
    some-sizes : (c : Response → Bool) → ((r : Response) → c (sent sell r) ≡ c r) → sum (sizes (filter c (all_at_price o es real))) ≡ sum (sizes (filter c (offers_at d (offers board) q)))
    some-sizes c same =
        ap (λ (rs : List Response). sum (sizes (filter c rs))) all-is
        ∙ ap (λ (rs : List Response). sum (sizes rs)) (filter-sent sell c c here (every_any (λ r. c (sent sell r) ≡ c r) here same))
        ∙ ap sum (sizes-sent sell (filter c here))
        ∙ sym (ap (λ (rs : List Response). sum (sizes (filter c rs))) offers-are ∙ ap (λ (rs : List Response). sum (sizes rs)) (sequence-filter c here) ∙ sizes-sequence (filter c here))

    customers-are : sum (sizes (customers_at_price o es real)) ≡ sum (sizes (filter from_customer (offers_at d (offers board) q)))
    customers-are = some-sizes from_customer (λ r. refl)

    others-are : sum (sizes (others_at_price o es real)) ≡ sum (sizes (demands.others_at d (offers board) q))
    others-are = some-sizes from_other (λ r. refl)

    -- what the others trade together
    together-are : sum (gots (written_fills o es) (others_at_price o es real)) ≡ sum (gots (dealt o es h) (demands.others_at d (offers board) q))
    together-are =
        ap (λ (rs : List Response). sum (gots (written_fills o es) (filter from_other rs))) all-is
        ∙ ap (λ (rs : List Response). sum (gots (written_fills o es) rs)) (filter-sent sell from_other from_other here (every_any (λ r. from_other (sent sell r) ≡ from_other r) here (λ r. refl)))
        ∙ ap sum (gots-sent sell (written_fills o es) (dealt o es h) (got-is o es h) (filter from_other here))
        ∙ sym (ap (λ (rs : List Response). sum (gots (dealt o es h) (filter from_other rs))) offers-are ∙ ap (λ (rs : List Response). sum (gots (dealt o es h) rs)) (sequence-filter from_other here) ∙ gots-sequence (dealt o es h) (filter from_other here))

    -- the others themselves, by sequence
    others_by : in_sequence (others_at_price o es real) ≡ map (sent sell) (demands.others_at d (offers board) q)
    others_by =
        ap in_sequence (ap (filter from_other) all-is ∙ filter-sent sell from_other from_other here (every_any (λ r. from_other (sent sell r) ≡ from_other r) here (λ r. refl)))
        ∙ sequence-sent sell (filter from_other here)
        ∙ ap (map (sent sell)) (sym (ap (filter from_other) offers-are ∙ sequence-filter from_other here))

    -- nothing trades at a higher price of the buy where nothing trades at a worse real one
    none_above : Every (λ f. better sell real f.price ≡ false) (written_fills o es) → sold_above q (dealt o es h) ≡ 0
    none_above n =
        sym (tally-shown sell (λ f. better sell real f.price) (λ f. ltb q f.price) (dealt o es h)
        (every_map (λ f. f.price ≤ 1000000) (λ f. better sell real (reported_price sell f.price) ≡ ltb q f.price) (dealt o es h) (λ f z. better-shown sell q f.price fits z) (prices-fit o es h)))
        ∙ sym (ap (tally (λ f. better sell real f.price)) (written_is o es h))
        ∙ tally-none (λ f. better sell real f.price) (written_fills o es) n

    -- the Contra Order takes part from the stop or limit on
    from-entry : d.bound ≤ q → (o.mode ≢ 2 → better sell real o.stop ≡ false) → entry d ≤ q
    unfolding entry deal_of
    from-entry b s =
        by (λ (n : ℕ). n ≤ q) (eqb (at_end o es).head.terms.mode 2) _ _ (λ _. omega arith)
        (λ z. let m : o.mode ≢ 2 = λ e. eqb-false _ _ z (mode-is o es h ∙ e) in omega (arith, b, stop-below m (s m)))
      where
        stop-below : o.mode ≢ 2 → better sell real o.stop ≡ false → d.stop ≤ q
        stop-below m n =
            let k : o.stop ≤ 1000000 = omega (arith, (order-bounds o (opened o h).formed).stop) in
            let e : o.stop ≡ reported_price sell d.stop = sym (shown-twice sell o.stop k) ∙ ap (reported_price sell) (sym (stop_is o es h m)) in
            ltb-false q d.stop (sym (better-shown sell q d.stop fits (omega (arith, stop-fits o es h, initiating-fits o es h))) ∙ sym (ap (better sell real) e) ∙ n)

    -- the plan, and what it leaves
    plan-is : plan_at_price o es real ≡ buy.plan_at d board q
    unfolding deal_of
    plan-is = same-plan (working_stop d) d.initiating (sym (mode-is o es h)) guarantee-is (shown-twice sell q fits) left_is held-is all-sizes

    left-to-is : left_to_others_at_price o es real ≡ buy.left_to_others d board q
    left-to-is = same_left left_is customers-are (ap (λ (x : Plan). x.want) plan-is)

  -- ---- a response that is no Customer's, at its working price

  abbrev Filled : Response → ℕ → Type 0
  Filled r p = sum (sizes (others_at_price o es p)) ≤ left_to_others_at_price o es p → got r.sequence (written_fills o es) ≡ r.size

  abbrev Short : Response → ℕ → Type 0
  Short r p = left_to_others_at_price o es p < sum (sizes (others_at_price o es p)) → Near (left_to_others_at_price o es p) (sum (sizes (others_at_price o es p))) r.size (got r.sequence (written_fills o es))

  abbrev SharedOut : Response → ℕ → Type 0
  SharedOut r p = gots (written_fills o es) (in_sequence (others_at_price o es p)) ≡ shares (left_to_others_at_price o es p) (sizes (in_sequence (others_at_price o es p)))

  abbrev Guaranteed : Response → ℕ → Type 0
  Guaranteed r p = (plan_at_price o es p).final ≡ true → 0 < got r.sequence (written_fills o es) → guarantee_at_end o es ≤ got 0 (written_fills o es)

  -- what holds of each live response at the real price of its working price holds of each as it was sent
  as-sent : (P : Response → ℕ → Type 0) → ((x : Response) → In x (live_of board) → x.customer ≡ false → working d x ≤ 1000000 → P (sent sell x) (reported_price sell (working d x)))
      → (r : Response) → In r (live_at_end o es) → r.customer ≡ false → P r (working_price o es r)
  as-sent P f r i =
      let k = was-live o es h r i in
      subst (λ (y : Response). y.customer ≡ false → P y (working_price o es y)) (sym k.is)
      (λ c. subst (P (sent sell k.response)) (sym (works-is o es h k.response)) (f k.response k.live c (omega (arith, working-fits o es h k.response k.live))))

  pub filled : (r : Response) → In r (live_at_end o es) → r.customer ≡ false → Filled r (working_price o es r)
  filled =
      as-sent Filled
      (λ x m c z e.
      got-is o es h x.sequence
      ∙ buy.filled_at d board can-trade x m c (omega (arith, others-are (working d x) z, left-to-is (working d x) z)))

  pub short : (r : Response) → In r (live_at_end o es) → r.customer ≡ false → Short r (working_price o es r)
  short =
      as-sent Short
      (λ x m c z e.
      buy.near x.size (sym (left-to-is (working d x) z)) (sym (others-are (working d x) z)) (sym (got-is o es h x.sequence))
      (buy.short-at d board can-trade x m c (omega (arith, others-are (working d x) z, left-to-is (working d x) z))))

  shared-by : (r : Response) → In r (live_at_end o es) → r.customer ≡ false → SharedOut r (working_price o es r)
  shared-by =
      as-sent SharedOut
      (λ x m c z.
      let os = demands.others_at d (offers board) (working d x) in
      let by = others_by (working d x) z in
      ap (gots (written_fills o es)) by
      ∙ gots-sent sell (written_fills o es) (dealt o es h) (got-is o es h) os
      ∙ buy.shares_at d board can-trade (working d x)
      ∙ sym (ap₂ shares (left-to-is (working d x) z) (ap sizes by ∙ sizes-sent sell os)))

  -- where there are others at a price, it is the working price of one
  pub shared-out : (p : ℕ) → gots (written_fills o es) (in_sequence (others_at_price o es p)) ≡ shares (left_to_others_at_price o es p) (sizes (in_sequence (others_at_price o es p)))
  unfolding in_sequence
  shared-out p = go (others_at_price o es p) refl
    where
      go : (os : List Response) → others_at_price o es p ≡ os → gots (written_fills o es) (in_sequence (others_at_price o es p)) ≡ shares (left_to_others_at_price o es p) (sizes (in_sequence (others_at_price o es p)))
      go [] e = rw e (sym (shares-nobody (left_to_others_at_price o es p)))
      go (r ∷ os) e =
          let m : In r (others_at_price o es p) = subst (In r) (sym e) (inl refl) in
          let n : In r (all_at_price o es p) = filter-in from_other (all_at_price o es p) r m in
          subst (SharedOut r) (eqb-true (working_price o es r) p (filter-test (λ x. eqb (working_price o es x) p) (live_at_end o es) r n))
          (shared-by r (filter-in (λ x. eqb (working_price o es x) p) (live_at_end o es) r n) (buy.not-customer r (all_at_price o es p) m))

  pub guaranteed : (r : Response) → In r (live_at_end o es) → r.customer ≡ false → Guaranteed r (working_price o es r)
  guaranteed =
      as-sent Guaranteed
      (λ x m c z f t.
      let g = buy.guaranteed-at d board can-trade x m c (sym (ap (λ (y : Plan). y.final) (plan-is (working d x) z)) ∙ f) (subst (λ (n : ℕ). 0 < n) (got-is o es h x.sequence) t) in
      omega (arith, g, guarantee-is, got-is o es h 0))

  -- ---- whatever the plan

  abbrev Shares : Response → ℕ → Type 0
  Shares r p = Near (sum (gots (written_fills o es) (others_at_price o es p))) (sum (sizes (others_at_price o es p))) r.size (got r.sequence (written_fills o es))

  abbrev Covered : Response → ℕ → Type 0
  Covered r p = got r.sequence (written_fills o es) < r.size → got 0 (written_fills o es) ≤ max (guarantee_at_end o es) (got_better sell 0 p (written_fills o es))

  abbrev Last : Response → ℕ → Type 0
  Last r p = (o.mode ≢ 2 → better sell p o.stop ≡ false) → Every (λ f. better sell p f.price ≡ false) (written_fills o es) → 0 < got r.sequence (written_fills o es) → guarantee_at_end o es ≤ got 0 (written_fills o es)

  pub share : (r : Response) → In r (live_at_end o es) → r.customer ≡ false → Shares r (working_price o es r)
  share =
      as-sent Shares
      (λ x m c z. buy.near x.size (sym (together-are (working d x) z)) (sym (others-are (working d x) z)) (sym (got-is o es h x.sequence)) ((demand o es h).share x m c))

  pub covered : (r : Response) → In r (live_at_end o es) → r.customer ≡ false → Covered r (working_price o es r)
  covered =
      as-sent Covered
      (λ x m c z t.
      let g = (demand o es h).covered x m c (subst (λ (n : ℕ). n < x.size) (got-is o es h x.sequence) t) in
      omega (arith, g, guarantee-is, held-is (working d x) z, got-is o es h 0))

  pub guaranteed-last : (r : Response) → In r (live_at_end o es) → r.customer ≡ false → Last r (working_price o es r)
  guaranteed-last =
      as-sent Last
      (λ x m c z s n t.
      let g = (demand o es h).guaranteed x m c (from-entry (working d x) z (omega arith) s) (none_above (working d x) z n) (subst (λ (n : ℕ). 0 < n) (got-is o es h x.sequence) t) in
      omega (arith, g, guarantee-is, got-is o es h 0))
