-- A market order of the other side that is taken ends the auction, and trades as far as sizes go. Assumes nothing.
use mathlib.Core.Path.{◌≡◌, refl, sym, ap, ◌∙◌}
use mathlib.Core.Bool.{Bool, true, false, cond, not, ◌&&◌}
use mathlib.Core.List.{List, [], ◌∷◌, ◌++◌}
use mathlib.Core.Logic.{inr}
use Prim.Native.Nat.{ℕ, ◌<◌, min}
use native.Mathlib.Omega.{arith}
use lib.Dec.{ltb, eqb}
use borrow.Author.Tests.{lt-ltb}
use Rattle.base.specs.Lists.{In, keep, filter}
use Rattle.base.proofs.Bools.{no}
use Rattle.base.proofs.ListLaws.{every_in}
use Rattle.share.specs.rules.Fills.{Fill}
use Rattle.tape.specs.declared.order.Order.{Order}
use Rattle.tape.specs.declared.event.Event.{Event}
use Rattle.tape.specs.rules.Form.{event_formed}
use Rattle.tape.specs.rules.Fields.{size_of}
use Rattle.trade.specs.declared.Deal.{Deal}
use Rattle.trade.specs.rules.Trade.{offers, market_price, market_fill}
use Rattle.demand.specs.promises.Demands.{got, walked}
use Rattle.demand.proofs.Lists.{tally-append, got-fill}
use Rattle.auction.specs.rules.Accept.{auction_of, Accepts}
use Rattle.fills.specs.rules.Fills.{deal_of}
use Rattle.run.proofs.SoundLaws.{size-of}
use Rattle.promise.specs.rules.Sides.{other_side, taken_records, at_end, written_fills, market_order}
use Rattle.promise.specs.promises.Parts.{Ends}
use Rattle.promise.proofs.RealLaws.{deal, dealt, demand, size_is, got-is}
use Rattle.promise.proofs.Resent.{taken-formed, market-ends}

-- nothing in the walk is the market order's
walk_none : (d : Deal) (fs : List Fill) → 0 < d.selling → got d.market (walked d fs) ≡ 0
unfolding filter
walk_none d [] n = refl
walk_none d (f ∷ fs) n = go (ltb 0 d.selling) (eqb f.party d.market) (lt-ltb 0 d.selling n) refl (walk_none d fs n)
  where
    go : (a b : Bool) → a ≡ true → eqb f.party d.market ≡ b → got d.market (walked d fs) ≡ 0 → got d.market (keep (not (a && b)) f (walked d fs)) ≡ 0
    go true true y z ih = ih
    go true false y z ih = let q : cond (eqb f.party d.market) f.quantity 0 ≡ 0 = ap (λ (t : Bool). cond t f.quantity 0) z in omega (arith, q, ih)
    go false b y z ih = no (sym y)

module _ (o : Order) (es : List Event) (h : Accepts o) where
  -- what the market order trades, where there is one
  market-got : 0 < (market_order o es).size → got (market_order o es).sequence (written_fills o es) ≡ min o.size (market_order o es).size
  unfolding deal_of
  market-got n =
      let d : Deal = deal o es h in
      let k : ℕ = (market_order o es).sequence in
      let fills : got k (dealt o es h) ≡ got k (market_fill d (offers (at_end o es).board) ++ walked d (dealt o es h)) = ap (got k) (demand o es h).market-trades in
      let both = tally-append (λ f. eqb f.party k) (market_fill d (offers (at_end o es).board)) (walked d (dealt o es h)) in
      let first : got k (market_fill d (offers (at_end o es).board)) ≡ min d.size d.selling = got-fill k (market_price d (offers (at_end o es).board)) (min d.size d.selling) in
      omega (arith, got-is o es h k, fills, both, first, walk_none d (dealt o es h) n, size_is o es h)

  pub market-trades : (e : Event) → In e (taken_records o es) → e.kind ≡ 4 → e.side ≡ other_side o → Ends o es e × (got e.sequence (written_fills o es) ≡ min o.size (size_of e))
  market-trades e i k d =
      let f : event_formed e ≡ true = every_in (λ x. event_formed x ≡ true) (taken_records o es) e (taken-formed es (auction_of o)) i in
      let ends : Ends o es e = market-ends o es h e i k d in
      let g = market-got (omega (arith, ends.size, (size-of e (inr (inr k)) f).0)) in
      (ends, ap (λ (n : ℕ). got n (written_fills o es)) (sym ends.sequence) ∙ g ∙ ap (min o.size) ends.size)
