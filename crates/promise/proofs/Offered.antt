-- The contracts on offer, by the records: the sum of the sizes of what they leave standing; and their mirror. Assumes nothing.
use mathlib.Core.Path.{◌≡◌, refl, sym, ap, ap₂, ◌∙◌}
use mathlib.Core.Bool.{Bool, true, false, cond, not, ◌&&◌}
use mathlib.Core.List.{List, [], ◌∷◌, ◌++◌}
use Prim.Native.Nat.{ℕ, ◌+◌}
use native.Mathlib.Omega.{arith}
use lib.Dec.{leb, eqb}
use borrow.Author.Tests.{eq-eqb, ne_eqb}
use Rattle.base.specs.Lists.{sum}
use Rattle.board.specs.declared.Response.{Response}
use Rattle.board.specs.rules.Board.{live_of}
use Rattle.share.specs.rules.Fills.{sizes}
use Rattle.trade.proofs.WriteLaws.{sizes-sequence}
use Rattle.tape.specs.declared.order.Order.{Order}
use Rattle.tape.specs.declared.event.Event.{Event}
use Rattle.tape.specs.rules.Form.{event_formed}
use Rattle.tape.specs.rules.Fields.{size_of, price_of}
use Rattle.mirror.specs.rules.Mirror.{mirrored_order, buy_event}
use Rattle.auction.specs.declared.Auction.{Auction}
use Rattle.auction.specs.rules.Accept.{auction_of, Accepts}
use Rattle.auction.specs.rules.Offer.{on_offer}
use Rattle.decision.specs.declared.Sight.{Sight}
use Rattle.events.specs.rules.Step.{sight_of, step_of}
use Rattle.run.specs.rules.Run.{Said, said, run, is_taken}
use Rattle.run.specs.promises.Demands.{Sound, brings, takes_away, flipped, mirrored_records}
use Rattle.run.proofs.Mirrors.{mirrors, same_name, steps}
use Rattle.run.proofs.BoardSteps.{sees}
use Rattle.run.proofs.Resend.{keeps}
use Rattle.run.proofs.SoundLaws.{sound-opened, sound-run, closed-ended}
use Rattle.run.proofs.OnOffer.{on-offer}
use Rattle.listing.specs.rules.Listing.{event_line_with}
use Rattle.listing.specs.rules.Watch.{watch_lines}
use Rattle.promise.specs.rules.Sides.{responses, takes_place, taken_records, standing_of, at_end}
use Rattle.promise.specs.promises.Parts.{auction_after, Offered}
use Rattle.promise.proofs.RealLaws.{sizes-sent}
use Rattle.promise.proofs.Standing.{by-records, takes-is, ours-after}

-- an auction's responses have the sizes that stand on its board
sizes-are : (a : Auction) → sum (sizes (live_of a.board)) ≡ sum (sizes (responses a))
sizes-are a = ap sum (sym (sizes-sent a.head.terms.sell (live_of a.board)))

-- records one after the other
run-append : (es fs : List Event) (a : Auction) → run a (es ++ fs) ≡ run (run a es) fs
run-append [] fs a = refl
run-append (e ∷ es) fs a = run-append es fs (step_of a e).auction

module _ (o : Order) where
  -- the auction after one record more
  after : (es : List Event) (e : Event) → on_offer (auction_after o (es ++ (e ∷ []))) ≡ on_offer (step_of (auction_after o es) e).auction
  after es e = ap on_offer (run-append es (e ∷ []) (auction_of o))

  sums : (es : List Event) → Accepts o → on_offer (auction_after o es) ≡ sum (sizes (responses (auction_after o es)))
  sums es h = on-offer.sums o es h ∙ sizes-are (auction_after o es)

  stood : (es : List Event) → Accepts o → on_offer (auction_after o es) ≡ sum (sizes (standing_of o (taken_records o es)))
  stood es h = sums es h ∙ sym (sizes-sequence (responses (auction_after o es))) ∙ ap (λ (rs : List Response). sum (sizes rs)) (by-records o es h)

  -- a limit order that is taken brings its size where it takes a place, and nothing where it takes none
  limit-moves : (b : Bool) (es : List Event) (e : Event) → Accepts o → e.kind ≡ 3 → takes_place o e ≡ b → is_taken (step_of (auction_after o es) e).answer ≡ true → on_offer (step_of (auction_after o es) e).auction ≡ on_offer (auction_after o es) + cond b (size_of e) 0
  limit-moves b es e h k t z =
      let a : Auction = auction_after o es in
      let v : Sight = sight_of a.board e in
      let s : Sound a = sound-run es (auction_of o) (sound-opened o h) in
      let formed : event_formed e ≡ true = (keeps.taken v a e z).0.ordinary.formed in
      let placed : (not (eqb (buy_event a.head.terms.sell e).side 1) && leb (price_of (buy_event a.head.terms.sell e)) a.head.terms.initiating) ≡ b = sym (takes-is o a e s (ours-after o es h) _ refl k formed) ∙ t in
      let away : takes_away v e ≡ 0 = simp (ne_eqb e.kind 2 (λ z. omega arith), ne_eqb e.kind 6 (λ z. omega arith)) in
      let brought : brings a.head.terms e ≡ cond b (size_of e) 0 = simp (ne_eqb e.kind 1 (λ z. omega arith), eq-eqb e.kind 3 k, placed, ne_eqb e.kind 6 (λ z. omega arith)) in
      omega (arith, on-offer.moves v a e (sees a.board e s.board) s z, away, brought)

  limit-not : (es : List Event) (e : Event) → Accepts o → e.kind ≡ 3 → takes_place o e ≡ false → on_offer (step_of (auction_after o es) e).auction ≡ on_offer (auction_after o es)
  limit-not es e h k t = go (is_taken (step_of (auction_after o es) e).answer) refl
    where
      go : (b : Bool) → is_taken (step_of (auction_after o es) e).answer ≡ b → on_offer (step_of (auction_after o es) e).auction ≡ on_offer (auction_after o es)
      go true z = omega (arith, limit-moves false es e h k t z)
      go false z = on-offer.leaves (sight_of (auction_after o es).board e) (auction_after o es) e z

  pub offered : Offered o
  unfolding event_line_with
  offered =
      record {
        sums = λ es h. sums es h;
        sums-end = λ es h. on-offer.sums-end o es h ∙ sizes-are (at_end o es);
        by-records = λ es h. stood es h;
        limit-counts = λ es e h k t z. after es e ∙ limit-moves true es e h k t z;
        limit-not = λ es e h k t. after es e ∙ limit-not es e h k t;
        market-or-quotes = λ es e k. after es e ∙ on-offer.market-or-quotes (sight_of (auction_after o es).board e) (auction_after o es) e k;
        leaves = λ es e z. after es e ∙ on-offer.leaves (sight_of (auction_after o es).board e) (auction_after o es) e z;
        stands = λ es fs z. ap on_offer (run-append es fs (auction_of o)) ∙ (on-offer.stands (auction_after o es) fs z).0;
        closing = λ es fs. (on-offer.stands (at_end o es) fs (closed-ended (auction_after o es))).0 ∙ on-offer.closing (auction_after o es);
        watched = λ es e h. ap (event_line_with (said e.sequence (step_of (auction_after o es) e).answer)) (sym (after es e) ∙ stood (es ++ (e ∷ [])) h);
      }

-- ---- the mirror

watch-flipped : (es : List Event) (a : Auction) → watch_lines (flipped a) (mirrored_records es) ≡ watch_lines a es
watch-flipped [] a = refl
watch-flipped (e ∷ es) a =
    ap₂ {C = List ℕ} (λ (x y : List ℕ). x ++ y)
    (ap₂ {C = List ℕ} (λ (x : Said) (n : ℕ). event_line_with x n) (ap₂ said (same_name e) (steps a e).0) (ap on_offer (steps a e).1))
    (ap (λ (x : Auction). watch_lines x (mirrored_records es)) (steps a e).1 ∙ watch-flipped es (step_of a e).auction)

pub mirrors-watch : (o : Order) (es : List Event) → Accepts o → watch_lines (auction_of (mirrored_order o)) (mirrored_records es) ≡ watch_lines (auction_of o) es
mirrors-watch o es h = ap (λ (a : Auction). watch_lines a (mirrored_records es)) (mirrors.opens o h) ∙ watch-flipped es (auction_of o)
