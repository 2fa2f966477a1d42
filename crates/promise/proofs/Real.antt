-- Demand 3 in real prices: from the clauses of the buy that the engine works with. Assumes nothing.
use mathlib.Core.Path.{◌≡◌, refl, sym, ap, subst, ◌∙◌}
use mathlib.Core.Bool.{Bool, true, false, cond}
use mathlib.Core.List.{List, [], ◌∷◌, map}
use mathlib.Core.Logic.{inl, inr, ◌≢◌}
use Prim.Native.Nat.{ℕ, ◌-◌, ◌≤◌, ◌<◌, max}
use native.Mathlib.Omega.{arith}
use lib.Dec.{eqb}
use borrow.Author.Tests.{ltb-true, le-ltb, eq-eqb, ne_eqb}
use Rattle.base.specs.Lists.{In, Every}
use Rattle.base.specs.Price.{mirrored}
use Rattle.base.proofs.ListLaws.{every_in}
use Rattle.board.specs.declared.Board.{Board}
use Rattle.board.specs.declared.Response.{Response}
use Rattle.board.specs.rules.Board.{live_of}
use Rattle.share.specs.rules.Fills.{Fill}
use Rattle.tape.specs.declared.order.Order.{Order}
use Rattle.tape.specs.declared.event.Event.{Event}
use Rattle.tape.proofs.FormLaws.{order-bounds}
use Rattle.trade.specs.rules.Trade.{working, entry}
use Rattle.trade.specs.rules.Write.{reported_price}
use Rattle.demand.specs.promises.Demands.{got, sold_at}
use Rattle.demand.specs.promises.Demands as demands
use Rattle.demand.specs.promises.Demands.Party.{the_contra as is_contra, the_market as is_market, a_response as is_response}
use Rattle.mirror.specs.rules.Mirror.{mirrored_order, buy_order}
use Rattle.auction.specs.rules.Accept.{initiating_of, terms_of, Accepts}
use Rattle.auction.specs.declared.Terms.{Terms}
use Rattle.fills.specs.rules.Fills.{deal_of}
use Rattle.auction.proofs.Accepted.{opened, below-limit}
use Rattle.promise.specs.rules.Sides.{is_sell, better, sent, at_end, written_fills, live_at_end, market_order, working_price}
use Rattle.promise.specs.promises.Parts.{Trader, OneRecord, auction_after}
use Rattle.promise.specs.promises.Parts.Trader.{the_contra, a_response, the_market}
use Rattle.promise.proofs.RealLaws.{better-shown, shown, Shows, in-shown, sent-in, close-terms, close-board, deal, live, dealt, demand, terms-are, mode-is, written_is, there-is, sent-fits, initiating-fits, price-fits, working-fits, works-is, got-is, was-live, every-written}
use Rattle.promise.proofs.Resent.{ended_by, MarketRecord}
use Rattle.promise.proofs.Standing.{given}
use Rattle.promise.proofs.Counted.{one-record}

-- ---- a price against a field of the order

-- the limit is not better than a price up to the buy's
not-below : (s : Bool) (limit p : ℕ) → limit ≤ 1000000 → p ≤ reported_price s limit → better s limit (reported_price s p) ≡ false
unfolding mirrored
not-below true limit p h k = le-ltb (1000000 - p) limit (omega arith)
not-below false limit p h k = le-ltb limit p k

-- a price from the buy's stop on is not better than the stop
not_beyond : (s : Bool) (stop p : ℕ) → reported_price s stop ≤ p → better s (reported_price s p) stop ≡ false
unfolding mirrored
not_beyond true stop p h = le-ltb stop (1000000 - p) (omega arith)
not_beyond false stop p h = le-ltb p stop h

-- what trades at the price of a fill is at least that fill
sold-here : (f : Fill) (fs : List Fill) → In f fs → f.quantity ≤ sold_at f.price fs
sold-here f [] i = absurd i
sold-here f (x ∷ fs) (inl e) =
    let q : cond (eqb x.price f.price) x.quantity 0 ≡ x.quantity = simp (eq-eqb x.price f.price (ap (λ (y : Fill). y.price) (sym e))) in
    let z : f.quantity ≡ x.quantity = ap (λ (y : Fill). y.quantity) e in
    omega (arith, q, z)
sold-here f (x ∷ fs) (inr i) = omega (arith, sold-here f fs i)

-- the buy's limit and its stop, in real prices
buy-limit : (o : Order) → (buy_order o).limit ≡ reported_price (is_sell o) o.limit
unfolding buy_order mirrored_order
buy-limit o = go (is_sell o)
  where
    go : (s : Bool) → (cond {A = Order} s (mirrored_order o) o).limit ≡ reported_price s o.limit
    go true = refl
    go false = refl

buy-stop : (o : Order) → o.mode ≢ 2 → (buy_order o).stop ≡ reported_price (is_sell o) o.stop
unfolding buy_order mirrored_order
buy-stop o n = go (is_sell o)
  where
    go : (s : Bool) → (cond {A = Order} s (mirrored_order o) o).stop ≡ reported_price s o.stop
    go true = simp (ne_eqb o.mode 2 n)
    go false = refl

-- ---- what needs no level of the walk

module _ (o : Order) (es : List Event) (h : Accepts o) where
  abbrev dealing : demands.Demand3 (deal o es h) (at_end o es).board (dealt o es h)
  dealing = demand o es h

  -- the initiating price is not above the buy's limit, and the stop is the buy's
  in-limit : (deal o es h).initiating ≤ reported_price (is_sell o) o.limit
  unfolding deal_of terms_of
  in-limit =
      let i : (at_end o es).head.terms.initiating ≡ initiating_of (buy_order o) = ap (λ (t : Terms). t.initiating) (terms-are o es h) in
      omega (arith, i, below-limit (buy_order o), buy-limit o)

  pub stop_is : o.mode ≢ 2 → (deal o es h).stop ≡ reported_price (is_sell o) o.stop
  unfolding deal_of terms_of
  stop_is n = ap (λ (t : Terms). t.stop) (terms-are o es h) ∙ buy-stop o n

  from-stop : o.mode ≢ 2 → reported_price (is_sell o) o.stop ≤ entry (deal o es h)
  unfolding deal_of entry
  from-stop n =
      let m : eqb (at_end o es).head.terms.mode 2 ≡ false = ap (λ (k : ℕ). eqb k 2) (mode-is o es h) ∙ ne_eqb o.mode 2 n in
      let e : entry (deal o es h) ≡ max (deal o es h).stop (deal o es h).bound = simp m in
      omega (arith, e, stop_is n)

  pub own-limit : Every (λ f. better (is_sell o) o.limit f.price ≡ false) (written_fills o es)
  own-limit =
      every-written o es h (demands.InRange (deal o es h)) (λ f. better (is_sell o) o.limit f.price ≡ false)
      (λ f _ k. not-below (is_sell o) o.limit f.price (omega (arith, (order-bounds o (opened o h).formed).limit)) (omega (arith, k.high, in-limit))) dealing.in-range

  pub some : Every (λ f. 1 ≤ f.quantity) (written_fills o es)
  some = every-written o es h (demands.InRange (deal o es h)) (λ f. 1 ≤ f.quantity) (λ f _ k. k.some) dealing.in-range

  pub contra-limit : o.mode ≢ 2 → Every (λ f. f.party ≡ 0 → better (is_sell o) f.price o.stop ≡ false) (written_fills o es)
  contra-limit n =
      every-written o es h (λ f. f.party ≡ 0 → entry (deal o es h) ≤ f.price) (λ f. f.party ≡ 0 → better (is_sell o) f.price o.stop ≡ false)
      (λ f _ k z. not_beyond (is_sell o) o.stop f.price (omega (arith, k z, from-stop n))) dealing.contra-limit

  -- ---- a response that was live

  -- what holds of each live response, as it was sent, holds of each that was there
  each-there : (P : Response → Type 0) → ((r : Response) → In r (live o es h) → P (sent (is_sell o) r)) → (r : Response) → In r (live_at_end o es) → P r
  each-there P g r i = let k = was-live o es h r i in subst P (sym k.is) (g k.response k.live)

  pub works : (r : Response) → In r (live_at_end o es) → Every (λ f. f.party ≡ r.sequence → f.price ≡ working_price o es r) (written_fills o es)
  works =
      each-there (λ r. Every (λ f. f.party ≡ r.sequence → f.price ≡ working_price o es r) (written_fills o es))
      (λ r i. every-written o es h (λ f. f.party ≡ r.sequence → f.price ≡ working (deal o es h) r) (λ f. f.party ≡ r.sequence → f.price ≡ working_price o es (sent (is_sell o) r))
      (λ f _ k z. ap (reported_price (is_sell o)) (k z) ∙ sym (works-is o es h r)) (dealing.works_at r i))

  pub fits : (r : Response) → In r (live_at_end o es) → got r.sequence (written_fills o es) ≤ r.size
  fits = each-there (λ r. got r.sequence (written_fills o es) ≤ r.size) (λ r i. omega (arith, got-is o es h r.sequence, dealing.response-fits r i))

  pub priority : (r : Response) → In r (live_at_end o es) → (f : Fill) → In f (written_fills o es) → better (is_sell o) (working_price o es r) f.price ≡ true → got r.sequence (written_fills o es) ≡ r.size
  priority =
      each-there (λ r. (f : Fill) → In f (written_fills o es) → better (is_sell o) (working_price o es r) f.price ≡ true → got r.sequence (written_fills o es) ≡ r.size)
      (λ r i f j z.
      let k : Shows (is_sell o) (dealt o es h) f = in-shown (is_sell o) (dealt o es h) f (subst (In f) (written_is o es h) j) in
      let g : Fill = k.fill in
      let b : better (is_sell o) (reported_price (is_sell o) (working (deal o es h) r)) (reported_price (is_sell o) g.price) ≡ true =
      sym (ap (λ (p : ℕ). better (is_sell o) p (reported_price (is_sell o) g.price)) (works-is o es h r)) ∙ sym (ap (λ (x : Fill). better (is_sell o) (working_price o es (sent (is_sell o) r)) x.price) k.is) ∙ z in
      let l : working (deal o es h) r < g.price =
      ltb-true _ _ (sym (better-shown (is_sell o) (working (deal o es h) r) g.price (omega (arith, working-fits o es h r i)) (omega (arith, price-fits o es h g k.one_of))) ∙ b) in
      let q : 1 ≤ g.quantity = (every_in (demands.InRange (deal o es h)) (dealt o es h) g dealing.in-range k.one_of).some in
      got-is o es h r.sequence ∙ dealing.priority r i g.price (omega (arith, q, sold-here g (dealt o es h) k.one_of)) l)

  -- ---- who trades

  -- the records of the responses live at the ending
  still : Every (OneRecord o es) (live_at_end o es)
  still =
      subst (λ (rs : List Response). Every (OneRecord o es) rs)
      (sym (ap (λ (s : Bool). map (sent s) (live_of (at_end o es).board)) (ap (λ (t : Terms). t.sell) (close-terms (auction_after o es)))
      ∙ ap (λ (b : Board). map (sent (auction_after o es).head.terms.sell) (live_of b)) (close-board (auction_after o es)))) (one-record o es h)

  party-of : (f : Fill) → In f (dealt o es h) → demands.Party (deal o es h) (at_end o es).board f.party → Trader o es (shown (is_sell o) f)
  unfolding deal_of
  party-of f i (is_contra z) = the_contra z
  party-of f i (is_market z n) =
      let k : MarketRecord o es = ended_by o es h n in
      let e : Event = k.record_of in
      let s : (market_order o es).sequence ≡ e.sequence = k.ends.sequence in
      let g : got e.sequence (written_fills o es) ≡ got (market_order o es).sequence (dealt o es h) = ap (λ (m : ℕ). got m (written_fills o es)) (sym s) ∙ got-is o es h (market_order o es).sequence in
      the_market e k.ends (z ∙ s) (omega (arith, g, dealing.market-fits n, k.ends.size))
  party-of f i (is_response r j z) =
      let t : In (sent (is_sell o) r) (live_at_end o es) = subst (In (sent (is_sell o) r)) (sym (there-is o es h)) (sent-in (is_sell o) (live o es h) r j) in
      let k : OneRecord o es (sent (is_sell o) r) = every_in (OneRecord o es) (live_at_end o es) (sent (is_sell o) r) still t in
      let e : Event = k.record_of in
      let is = given o es k.sends in
      let s : r.sequence ≡ e.sequence = is.0 in
      let g : got e.sequence (written_fills o es) ≡ got r.sequence (dealt o es h) = ap (λ (m : ℕ). got m (written_fills o es)) (sym s) ∙ got-is o es h r.sequence in
      let p : r.price ≤ f.price = every_in (λ x. x.party ≡ r.sequence → r.price ≤ x.price) (dealt o es h) f (dealing.own-limit r j) i (sym z) in
      let b : better (is_sell o) (reported_price (is_sell o) f.price) (reported_price (is_sell o) r.price) ≡ false =
      better-shown (is_sell o) f.price r.price (omega (arith, price-fits o es h f i)) (omega (arith, sent-fits o es h r j, initiating-fits o es h)) ∙ le-ltb _ _ p in
      a_response e (sent (is_sell o) r) t k.sends (sym z ∙ s)
      (omega (arith, g, dealing.response-fits r j, is.1))
      (sym (ap (λ (q : ℕ). better (is_sell o) (reported_price (is_sell o) f.price) q) is.2) ∙ b)

  pub parties : Every (Trader o es) (written_fills o es)
  parties = every-written o es h (λ f. demands.Party (deal o es h) (at_end o es).board f.party) (Trader o es) party-of dealing.nobody-else
