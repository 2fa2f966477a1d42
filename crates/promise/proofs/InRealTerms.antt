-- In real terms: the answers, the ending and the range by the order's fields and the records; the written fills meet the clauses, no other list does, and what follows of any such list. Assumes nothing.
use mathlib.Core.Path.{◌≡◌, sym, ap, ap₂, subst, ◌∙◌}
use mathlib.Core.Bool.{Bool, true, false, cond}
use mathlib.Core.List.{List, ◌++◌, map}
use mathlib.Core.Logic.{◌≢◌}
use Prim.Native.Nat.{ℕ, ◌≤◌, ◌<◌}
use native.Mathlib.Omega.{arith}
use borrow.Author.Tests.{ltb-false, le-ltb}
use Rattle.std.specs.Prelude.{Ok}
use Rattle.base.proofs.ListLaws.{every-with, every_map}
use Rattle.board.specs.declared.Response.{Response}
use Rattle.demand.proofs.Order.{all-sequence}
use Rattle.share.specs.rules.Fills.{Fill}
use Rattle.tape.specs.declared.order.Order.{Order}
use Rattle.tape.specs.declared.event.Event.{Event}
use Rattle.trade.specs.declared.Deal.{Deal}
use Rattle.trade.specs.rules.Trade.{offers, traded}
use Rattle.trade.specs.rules.Write.{reported, reported_price}
use Rattle.auction.specs.rules.Accept.{terms_of, auction_of, Accepts}
use Rattle.auction.specs.declared.Terms.{Terms}
use Rattle.fills.specs.rules.Fills.{deal_of}
use Rattle.run.proofs.SoundLaws.{sound-deal}
use Rattle.tape.proofs.FormLaws.{order-bounds}
use Rattle.auction.proofs.Accepted.{opened, below-limit}
use Rattle.promise.specs.rules.Sides.{is_sell, better, sent, buy_range, sell_range, initiating_price, at_end, range_at_end, written_fills}
use Rattle.promise.proofs.RealLaws.{shown-twice, deal, live, dealt, sound, terms-are, mode-is, size_is, written_is, there-is, low-is, high_is, initiating-fits, bound-fits, stop-fits, sent-fits, sequence-sent}
use Rattle.exact.specs.rules.WhoTrades.{WhoTrades}
use Rattle.exact.specs.promises.Fair.{Apart}
use Rattle.exact.proofs.Only.{alike}
use Rattle.exact.proofs.Fair.{fair}
use Rattle.exact.proofs.Holds as exact
use Rattle.promise.specs.promises.Parts.{deal_at_end, RealPrices, InRealTerms}
use Rattle.promise.proofs.Turned.{shown_deal, turned}
use Rattle.listing.specs.rules.Listing.{field, side_text, range_text, auction_line, event_lines, end_text, end_line, fill_lines, total_line, end_lines, lines_of, listing_of}
use Rattle.run.specs.rules.Run.{run_entry, run_of}
use Rattle.promise.specs.rules.Tapes.{Carries, watch_in, watch_of}
use Rattle.promise.proofs.Answered.{run-carries}
use Rattle.promise.proofs.Opening.{opens}
use Rattle.promise.proofs.Sent.{every-sent, terms-sell, terms-size}
use Rattle.promise.proofs.Counted.{distinct-sent}
use Rattle.promise.proofs.Bound.{bound-real, buy-stop}
use Rattle.promise.proofs.Events.{Follows, answers-are, watch-is, taken-are, last-is}
use Rattle.promise.proofs.Standing.{stand}
use Rattle.promise.proofs.Carried.{records-at}
use Rattle.board.specs.rules.Board.{in_sequence}
use Rattle.promise.specs.rules.Events.{bound_at, lastly, last_range, first_line, last_lines, lines_with, watch_with}
use Rattle.base.specs.Price.{mirrored}
use Rattle.auction.specs.rules.Range.{word, bound_by, bound_now}

-- the initiating price is not beyond the limit
in-limit : (o : Order) (f : Fill) → better (is_sell o) (initiating_price o) f.price ≡ false → better (is_sell o) o.limit f.price ≡ false
in-limit o f h = go (is_sell o) h
  where
    go : (s : Bool) → better s (cond s (sell_range o).low (buy_range o).high) f.price ≡ false → better s o.limit f.price ≡ false
    go true k = le-ltb f.price o.limit (omega (arith, ltb-false f.price (sell_range o).low k))
    go false k = le-ltb o.limit f.price (omega (arith, ltb-false (buy_range o).high f.price k, below-limit o))

module _ (o : Order) (es : List Event) (h : Accepts o) where
  -- the auction at its end is what the records leave
  last : Follows o (at_end o es) (lastly o es)
  last = last-is o h es

  bound-is : reported_price (is_sell o) (bound_now (at_end o es).head) ≡ bound_at o (lastly o es).quoted
  unfolding bound_now
  bound-is =
      let x : ℕ = bound_by (at_end o es).head.terms (at_end o es).head.quotes in
      let small : word x ≡ x = omega (arith, (sound o es h).bound-below, (sound o es h).price) in
      ap (reported_price (is_sell o)) small ∙ bound-real o (at_end o es).head.terms last.priced (lastly o es).quoted (at_end o es).head.quotes last.reads

  start_is : reported_price (is_sell o) (at_end o es).head.terms.initiating ≡ initiating_price o
  start_is = sym last.priced.start_is

  range-is : range_at_end o es ≡ last_range o es
  unfolding deal_of
  range-is = λ i. record { low = (low-is o es h ∙ low (is_sell o) start_is bound-is) i; high = (high_is o es h ∙ high (is_sell o) start_is bound-is) i }
    where
      low : (s : Bool) → reported_price s (at_end o es).head.terms.initiating ≡ initiating_price o → reported_price s (bound_now (at_end o es).head) ≡ bound_at o (lastly o es).quoted
          → cond s (mirrored (at_end o es).head.terms.initiating) (bound_now (at_end o es).head) ≡ cond s (initiating_price o) (bound_at o (lastly o es).quoted)
      low true a b = a
      low false a b = b

      high : (s : Bool) → reported_price s (at_end o es).head.terms.initiating ≡ initiating_price o → reported_price s (bound_now (at_end o es).head) ≡ bound_at o (lastly o es).quoted
          → cond s (mirrored (bound_now (at_end o es).head)) (at_end o es).head.terms.initiating ≡ cond s (bound_at o (lastly o es).quoted) (initiating_price o)
      high true a b = b
      high false a b = a

  -- the deal of the buy, in the order's own prices
  deal-is : shown_deal (is_sell o) (deal o es h) o.stop ≡ deal_at_end o es
  unfolding deal_of
  deal-is =
      λ i. record {
        sell = is_sell o;
        mode = mode-is o es h i;
        size = size_is o es h i;
        initiating = start_is i;
        bound = bound-is i;
        stop = o.stop;
        market = (last.market-is i).sequence;
        selling = (last.market-is i).size;
      }

  responses-are : map (sent (is_sell o)) (offers (at_end o es).board) ≡ (lastly o es).standing
  responses-are = sym (sequence-sent (is_sell o) (live o es h)) ∙ last.stands

  stop_is : o.mode ≢ 2 → (deal o es h).stop ≡ reported_price (is_sell o) o.stop
  unfolding deal_of terms_of
  stop_is n = ap (λ (t : Terms). t.stop) (terms-are o es h) ∙ buy-stop o n

  stop-of : (deal o es h).mode ≢ 2 → o.stop ≡ reported_price (is_sell o) (deal o es h).stop
  unfolding deal_of
  stop-of n =
      sym (ap (reported_price (is_sell o)) (stop_is (λ z. n (mode-is o es h ∙ z))) ∙ shown-twice (is_sell o) o.stop (omega (arith, (order-bounds o (opened o h).formed).stop)))

  buy : WhoTrades false (deal o es h) (offers (at_end o es).board) (dealt o es h)
  buy = exact.holds (deal o es h) (at_end o es).board (sound-deal (at_end o es) (sound o es h))

  pub meets : RealPrices o es (written_fills o es)
  meets =
      subst (RealPrices o es) (sym (written_is o es h))
      (subst (λ (rs : List Response). WhoTrades (is_sell o) (deal_at_end o es) rs (reported (is_sell o) (dealt o es h))) responses-are
      (subst (λ (d : Deal). WhoTrades (is_sell o) d (map (sent (is_sell o)) (offers (at_end o es).board)) (reported (is_sell o) (dealt o es h))) deal-is
      (turned (is_sell o) (deal o es h) (offers (at_end o es).board) o.stop
      (omega (arith, initiating-fits o es h)) (omega (arith, bound-fits o es h, initiating-fits o es h)) (omega (arith, stop-fits o es h, initiating-fits o es h))
      (all-sequence (λ r. r.price ≤ 1000000) (live o es h) (every-with (λ r. r.price ≤ 1000000) (live o es h) (λ r i. omega (arith, sent-fits o es h r i, initiating-fits o es h))))
      stop-of (dealt o es h) buy)))

  apart : Apart (deal_at_end o es) (lastly o es).standing
  apart =
      let t : Apart (deal o es h) (offers (at_end o es).board) = exact.apart (deal o es h) (at_end o es).board (sound-deal (at_end o es) (sound o es h)) in
      subst (Apart (deal_at_end o es)) responses-are
      (subst (λ (d : Deal). Apart d (map (sent (is_sell o)) (offers (at_end o es).board))) deal-is
      (record {
        parties = every-sent (λ r. 0 < r.sequence) (is_sell o) (offers (at_end o es).board) t.parties;
        distinct = distinct-sent (is_sell o) (offers (at_end o es).board) t.distinct;
        market-apart = λ z. ((t.market-apart z).0, every-sent (λ r. r.sequence ≢ (deal o es h).market) (is_sell o) (offers (at_end o es).board) (t.market-apart z).1);
      }))

  pub alone : (fs : List Fill) → RealPrices o es fs → fs ≡ written_fills o es
  alone fs e = alike (is_sell o) (deal_at_end o es) (lastly o es).standing fs (written_fills o es) apart e meets

  pub terms : InRealTerms o es
  terms =
      record {
        holds = meets;
        only = alone;
        answers = answers-are o h es;
        taken = taken-are o h es;
        ending = last.ending-is;
        range = range-is;
        watch = watch-is o h es;
        standing = sym last.stands ∙ sym (ap in_sequence (there-is o es h)) ∙ stand o es h;
        fair = λ fs e. fair (is_sell o) (deal_at_end o es) (lastly o es).standing fs apart e;
        own-limit = λ fs e. every_map (λ f. (better (is_sell o) f.price (deal_at_end o es).bound ≡ false) × (better (is_sell o) (initiating_price o) f.price ≡ false)) (λ f. better (is_sell o) o.limit f.price ≡ false) fs (λ f k. in-limit o f k.1) e.in-range;
      }

  -- the listing and the watch, line by line
  ran : (s : List ℕ) → Carries s o es → run_of s ≡ run_entry es (Ok (auction_of o))
  ran s c = run-carries s o es c ∙ ap (run_entry es) h

  first-line : auction_line (auction_of o).head ≡ first_line o
  unfolding auction_line
  first-line = λ i. side_text (terms-sell o h i) ++ (field " size " (terms-size o h i) ++ range_text (opens o h i))

  last-lines : (fs : List Fill) → RealPrices o es fs → end_lines (at_end o es) ≡ last_lines o es fs
  unfolding end_lines end_line
  last-lines fs e = λ i. (end_text (last.ending-is i) ++ range_text (range-is i)) ++ (fill_lines (sym (alone fs e) i) ++ total_line (traded (sym (alone fs e) i)))

  pub printed : (s : List ℕ) (fs : List Fill) → Carries s o es → RealPrices o es fs → listing_of s ≡ lines_with o es fs
  unfolding listing_of
  printed s fs c e = ap lines_of (ran s c) ∙ (λ i. first-line i ++ (event_lines (answers-are o h es i) ++ last-lines fs e i))

  pub watch-printed : (s : List ℕ) (fs : List Fill) → Carries s o es → RealPrices o es fs → watch_of s ≡ watch_with o es fs
  watch-printed s fs c e = ap₂ watch_in (records-at c) (ran s c) ∙ (λ i. first-line i ++ (watch-is o h es i ++ last-lines fs e i))
