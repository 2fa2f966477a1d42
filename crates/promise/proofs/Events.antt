-- What an event does in the order's own prices is what the engine does: its answer, and what it leaves. Assumes nothing.
use mathlib.Core.Path.{◌≡◌, refl, sym, ap, ap₂, subst, ◌∙◌}
use mathlib.Core.Bool.{Bool, true, false, cond, not, ◌&&◌}
use mathlib.Core.List.{List, [], ◌∷◌, ◌++◌, map}
use mathlib.Core.Logic.{◌⊎◌, inl, inr}
use Prim.Native.Nat.{ℕ}
use native.Mathlib.Omega.{arith}
use borrow.Author.Tests.{ltb-true, lt-ltb, eqb-true, eq-eqb, ne_eqb}
use lib.Dec.{leb, ltb, eqb}
use lib.ListN.{length, length-map}
use Rattle.std.specs.Prelude.{Result, Ok, Err}
use Rattle.base.specs.Lists.{keep, sum}
use Rattle.base.specs.declared.refusal.Refusal.{Refusal}
use Rattle.base.specs.declared.refusal.Refusal.TheVariants.{AuctionEnded, EventOutOfForm, SequenceTaken, BeforeClock, OwnSide, AboveInitiating, NoSuchResponse, BoardFull}
use Rattle.base.proofs.Bools.{no as impossible, by, same_test, and_left, and_right, and_both, and-no-left, and-no-right}
use Rattle.base.proofs.ListLaws.{shuffles-length}
use Rattle.board.specs.declared.Response.{Response}
use Rattle.board.specs.rules.Board.{live_of, live_count, first_free, in_sequence}
use Rattle.board.proofs.Theorems.{seen}
use Rattle.board.proofs.SequenceLaws.{sequence-shuffles}
use Rattle.share.specs.rules.Fills.{sizes}
use Rattle.trade.proofs.WriteLaws.{sizes-sequence}
use Rattle.tape.specs.declared.order.Order.{Order}
use Rattle.tape.specs.declared.event.Event.{Event}
use Rattle.tape.specs.rules.Fields.{size_of, price_of, name_of, new_price_of}
use Rattle.tape.specs.rules.Form.{event_formed, shape_of, shape_tests}
use Rattle.tape.proofs.FormLaws.{each, within-ge, within-le}
use Rattle.mirror.specs.rules.Mirror.{mirrored_order, mirrored_priced, mirrored_market, buy_order, buy_event}
use Rattle.mirror.proofs.EventLaws.{buy-kind, mirror-one, mirror-four}
use Rattle.mirror.proofs.MirrorForm.{event-bounds}
use Rattle.auction.specs.rules.Accept.{terms_of, opened_by, auction_of, Accepts}
use Rattle.auction.specs.rules.Range.{is_open, bound_by}
use Rattle.auction.specs.rules.Offer.{on_offer}
use Rattle.auction.specs.declared.Auction.{Auction}
use Rattle.auction.specs.declared.Head.{Head}
use Rattle.auction.specs.declared.Terms.{Terms}
use Rattle.auction.specs.declared.Quotes.{Quotes}
use Rattle.auction.specs.declared.Market.{Market}
use Rattle.auction.specs.declared.Ending.{Ending}
use Rattle.auction.specs.declared.Ending.TheVariants.{Open, Same, Opposite, Improve}
use Rattle.decision.specs.rules.Decide.{is_customer, is_non_routable, moves, bid_quotes, new_quotes, gtx_outcome, cancel_outcome, amend_outcome, sell_limit_outcome, buy_limit_outcome, limit_outcome, market_outcome, quotes_outcome, Outcome, does, outcome_of, free_place, old_place}
use Rattle.decision.specs.declared.Sight.{Sight}
use Rattle.decision.specs.declared.Change.{Change}
use Rattle.decision.specs.declared.Change.TheVariants.{Nothing, Quote}
use Rattle.events.proofs.SightLaws.{sight-free}
use Rattle.events.specs.rules.Step.{event_refusal, sight_of, quotes_after, stays, ended_by_time, head_after, unless_refused, carried, turn_of, close_turn, seated_on, step_of}
use Rattle.events.specs.declared.Answer.{Answer}
use Rattle.events.specs.declared.Answer.TheVariants.{Late, Refused}
use Rattle.events.specs.declared.Turn.{Turn}
use Rattle.run.specs.rules.Run.{Said, said, run, heard, closed, is_taken, taken_of}
use Rattle.run.specs.promises.Demands.{Sound, Names}
use Rattle.run.proofs.Resend.{taken-any}
use Rattle.run.proofs.SoundLaws.{sound-opened, sound-step, sound-close}
use Rattle.run.proofs.Amends.{found-is}
use Rattle.run.proofs.MarketFrom as market
use Rattle.run.proofs.MarketFrom.{buy-form, terms-stay, Sells, MarketStep, market-step}
use Rattle.listing.specs.rules.Listing.{event_line_with}
use Rattle.listing.specs.rules.Watch.{watch_lines}
use Rattle.promise.specs.rules.Sides.{is_sell, other_side, better, initiating_price, takes_place, has_named, sent, taken_records, at_end}
use Rattle.promise.specs.rules.Events.{Quoted, Now, own_side, brought, outbid, quoted_after, market_after, opening, refusal_of, decided, answer_of, leaves, by_time, answer_by, answer_to, after_by, after, answers_from, taken_from, after_all, lastly, watch_from}
use Rattle.promise.proofs.Sent.{sent-price, new-price, market-side, side-market}
use Rattle.promise.proofs.RealLaws.{better-shown, sizes-sent}
use Rattle.promise.proofs.Standing.{Ours, ours, on_board, none-live, named-is, takes-is, stands-step}
use Rattle.promise.proofs.Bound.{Reads, Priced, side-shown, limit-side, passes-is, as-brought, crosses-is, meets-is, as-bid, tests-bid, ours-of, at_first}

-- of no kind but 5
five : (e : Event) → event_formed e ≡ true → eqb e.kind 1 ≡ false → eqb e.kind 2 ≡ false → eqb e.kind 3 ≡ false → eqb e.kind 4 ≡ false → eqb e.kind 6 ≡ false → eqb e.kind 5 ≡ true
unfolding event_formed shape_tests shape_of
five e f a b c d g = go (eqb e.kind 5) refl
  where
    go : (t : Bool) → eqb e.kind 5 ≡ t → t ≡ true
    go true z = refl
    go false z =
        let h = rw (a, b, c, d, z, g) at (each (shape_tests (shape_of e.kind) e) true f 1) in
        absurd (omega (arith, within-ge e.marks 1 0 h, within-le e.marks 1 0 h))

-- an event that none of 31 to 34 refuses is in form
formed : (h : Head) (e : Event) (u : Unit {0}) → event_refusal h e ≡ Ok u → event_formed e ≡ true
unfolding event_refusal
formed h e u =
    by If (not (is_open h.ending)) _ _ (λ _ z. cc) (λ _.
    by If (not (event_formed e)) _ _ (λ _ z. cc) (λ f z. not-no (event_formed e) f))
  where
    If : Result (Unit {0}) Refusal → Type 0
    If q = q ≡ Ok u → event_formed e ≡ true

    not-no : (t : Bool) → not t ≡ false → t ≡ true
    not-no true z = refl
    not-no false z = impossible z

-- what is decided, without its change
abbrev no : Refusal → Result Ending Refusal
no r = Err r

abbrev yes : Ending → Result Ending Refusal
yes g = Ok g

changeless : Outcome → Result Ending Refusal
changeless (Err r) = no r
changeless (Ok d) = yes d.ending

abbrev refuses : Refusal → Outcome
refuses r = Err r

-- the auction a is what n says
pub record Follows (o : Order) (a : Auction) (n : Now) : Type 0 where
  pub sound : Sound a
  pub ours : Ours o a.head.terms
  pub priced : Priced o a.head.terms
  pub interval-is : a.head.terms.interval ≡ o.interval
  pub sequence-is : a.head.sequence ≡ n.sequence
  pub clock-is : a.head.clock ≡ n.clock
  pub ending-is : a.head.ending ≡ n.ending
  pub market-is : a.head.market ≡ n.market
  pub stands : in_sequence (on_board (is_sell o) a.board) ≡ n.standing
  pub reads : Reads (is_sell o) n.quoted a.head.quotes

-- ---- what is decided, kind by kind

module _ (o : Order) (a : Auction) (n : Now) (F : Follows o a n) (e : Event) (f : event_formed e ≡ true) where
  abbrev t : Terms
  t = a.head.terms

  abbrev q : Quotes
  q = a.head.quotes

  abbrev v : Sight
  v = sight_of a.board e

  abbrev m : Event
  m = buy_event (is_sell o) e

  -- the tests of the two are one
  beyond-is : (e.kind ≡ 1) ⊎ (e.kind ≡ 3) → ltb t.initiating (price_of m) ≡ better (is_sell o) (initiating_price o) (price_of e)
  beyond-is k =
      sym (better-shown (is_sell o) t.initiating (price_of m) F.priced.start-low (omega (arith, (event-bounds m (buy-form (is_sell o) e f)).price)))
      ∙ ap₂ (λ (x y : ℕ). better (is_sell o) x y) (sym F.priced.start_is) (sent-price (is_sell o) e k f)

  new-beyond-is : e.kind ≡ 6 → ltb t.initiating (new_price_of m) ≡ better (is_sell o) (initiating_price o) (new_price_of e)
  new-beyond-is k =
      sym (better-shown (is_sell o) t.initiating (new_price_of m) F.priced.start-low (omega (arith, (event-bounds m (buy-form (is_sell o) e f)).bb)))
      ∙ ap₂ (λ (x y : ℕ). better (is_sell o) x y) (sym F.priced.start_is) (new-price (is_sell o) e k f)

  room-is : ltb (free_place v) 64 ≡ ltb (length n.standing) 64
  room-is =
      let c : live_count a.board ≡ length n.standing =
      omega (arith, seen.count a.board F.sound.board, length-map (live_of a.board) (sent (is_sell o)), shuffles-length (sequence-shuffles (on_board (is_sell o) a.board)), ap length F.stands) in
      ap (λ (i : ℕ). ltb i 64) (sight-free a.board e)
      ∙ same_test (ltb (first_free a.board) 64) (ltb (length n.standing) 64)
      (λ z. lt-ltb (length n.standing) 64 (omega (arith, c, seen.no_room a.board (ltb-true (first_free a.board) 64 z))))
      (λ z. lt-ltb (first_free a.board) 64 (seen.room a.board (omega (arith, c, ltb-true (length n.standing) 64 z))))

  found-named : Names e → ltb (old_place v) 64 ≡ has_named (name_of e) n.standing
  found-named k = ap (λ (i : ℕ). ltb i 64) (found-is a.board e k) ∙ named-is (is_sell o) a.board (name_of e) F.sound.board F.sound.distinct ∙ ap (has_named (name_of e)) F.stands

  abbrev P : Outcome → Type 0
  P u = changeless u ≡ decided o n e

  gtx : e.kind ≡ 1 → P (gtx_outcome t v m)
  unfolding gtx_outcome mirrored_priced changeless
  gtx k =
      push (eqb m.side 1) (ltb t.initiating (price_of m)) (ltb (free_place v) 64) _
      ∙ (λ i. cond (side-shown (is_sell o) e (ap (λ (x : Event). x.side) (mirror-one e k)) i) (no OwnSide) (cond (beyond-is (inl k) i) (no AboveInitiating) (cond (room-is i) (yes Open) (no BoardFull))))
      ∙ sym (simp (eq-eqb e.kind 1 k))
    where
      push : (x y z : Bool) (c : Change) → changeless (cond x (refuses OwnSide) (cond y (refuses AboveInitiating) (cond z (does c Open) (refuses BoardFull)))) ≡ cond x (no OwnSide) (cond y (no AboveInitiating) (cond z (yes Open) (no BoardFull)))
      push true y z c = refl
      push false true z c = refl
      push false false true c = refl
      push false false false c = refl

  found-or : (x : Bool) (c : Change) → changeless (cond x (does c Open) (refuses NoSuchResponse)) ≡ cond x (yes Open) (no NoSuchResponse)
  unfolding changeless
  found-or true c = refl
  found-or false c = refl

  cancel : e.kind ≡ 2 → P (cancel_outcome v)
  unfolding cancel_outcome
  cancel k =
      found-or (ltb (old_place v) 64) _ ∙ ap (λ (x : Bool). cond x (yes Open) (no NoSuchResponse)) (found-named (inl k))
      ∙ sym (simp (ne_eqb e.kind 1 (λ z. omega arith), eq-eqb e.kind 2 k))

  amend : e.kind ≡ 6 → P (amend_outcome t v m)
  unfolding amend_outcome changeless
  amend k =
      push (ltb t.initiating (new_price_of m)) (ltb (old_place v) 64) _
      ∙ (λ i. cond (new-beyond-is k i) (no AboveInitiating) (cond (found-named (inr k) i) (yes Open) (no NoSuchResponse)))
      ∙ sym (simp (ne_eqb e.kind 1 (λ z. omega arith), ne_eqb e.kind 2 (λ z. omega arith), ne_eqb e.kind 3 (λ z. omega arith), ne_eqb e.kind 4 (λ z. omega arith), eq-eqb e.kind 6 k))
    where
      push : (x y : Bool) (c : Change) → changeless (cond x (refuses AboveInitiating) (cond y (does c Open) (refuses NoSuchResponse))) ≡ cond x (no AboveInitiating) (cond y (yes Open) (no NoSuchResponse))
      push true y c = refl
      push false true c = refl
      push false false c = refl

  own-limit : e.kind ≡ 3 → eqb e.side (own_side o) ≡ true → P (buy_limit_outcome t q m)
  unfolding buy_limit_outcome changeless
  own-limit k d =
      push (leb (cond (is_non_routable m) q.bo q.nbo) (price_of m)) (moves q (price_of m) (is_customer m) && ltb t.initiating (bound_by t (bid_quotes q (price_of m) (is_customer m)))) (Quote (bid_quotes q (price_of m) (is_customer m)))
      ∙ (λ i. cond (crosses-is o t F.priced e f n.quoted q F.reads k d i) (yes Same) (cond (tests-bid o t F.priced e f n.quoted q F.reads k i) (yes Improve) (yes Open)))
      ∙ sym (simp (ne_eqb e.kind 1 (λ z. omega arith), ne_eqb e.kind 2 (λ z. omega arith), eq-eqb e.kind 3 k, d))
    where
      push : (x y : Bool) (c : Change) → changeless (cond x (does Nothing Same) (cond y (does Nothing Improve) (does c Open))) ≡ cond x (yes Same) (cond y (yes Improve) (yes Open))
      push true y c = refl
      push false true c = refl
      push false false c = refl

  other-limit : e.kind ≡ 3 → eqb e.side (own_side o) ≡ false → P (sell_limit_outcome t q v m)
  unfolding sell_limit_outcome changeless
  other-limit k d =
      push (leb (price_of m) t.initiating) (ltb (free_place v) 64) (leb (price_of m) (cond (is_non_routable m) q.bb q.nbb)) _
      ∙ (λ i. cond (sym place_is i && not (room-is i)) (no BoardFull) (cond (meets-is o t F.priced e f n.quoted q F.reads k d i) (yes Opposite) (yes Open)))
      ∙ sym (simp (ne_eqb e.kind 1 (λ z. omega arith), ne_eqb e.kind 2 (λ z. omega arith), eq-eqb e.kind 3 k, d))
    where
      place_is : takes_place o e ≡ leb (price_of m) t.initiating
      place_is =
          takes-is o a e F.sound F.ours n.standing F.stands k f
          ∙ ap (λ (x : Bool). not (eqb (buy_event x e).side 1) && leb (price_of (buy_event x e)) t.initiating) F.ours.sell
          ∙ ap (λ (x : Bool). not x && leb (price_of m) t.initiating) (limit-side (is_sell o) e k ∙ d)

      push : (p r w : Bool) (c : Change) → changeless (cond p (cond r (does c (cond w Opposite Open)) (refuses BoardFull)) (does Nothing (cond w Opposite Open))) ≡ cond (p && not r) (no BoardFull) (cond w (yes Opposite) (yes Open))
      push true true true c = refl
      push true true false c = refl
      push true false w c = refl
      push false r true c = refl
      push false r false c = refl

  limit : e.kind ≡ 3 → P (limit_outcome t q v m)
  unfolding limit_outcome
  limit k = by P (eqb m.side 1) _ _ (λ d. own-limit k (sym (limit-side (is_sell o) e k) ∙ d)) (λ d. other-limit k (sym (limit-side (is_sell o) e k) ∙ d))

  market-order : e.kind ≡ 4 → P (market_outcome m)
  unfolding market_outcome mirrored_market changeless
  market-order k =
      push (eqb m.side 1) _ ∙ ap (λ (x : Bool). cond x (yes Same) (yes Opposite)) (side-shown (is_sell o) e (ap (λ (x : Event). x.side) (mirror-four e k)))
      ∙ sym (simp (ne_eqb e.kind 1 (λ z. omega arith), ne_eqb e.kind 2 (λ z. omega arith), ne_eqb e.kind 3 (λ z. omega arith), eq-eqb e.kind 4 k))
    where
      push : (x : Bool) (c : Change) → changeless (cond x (does Nothing Same) (does c Opposite)) ≡ cond x (yes Same) (yes Opposite)
      push true c = refl
      push false c = refl

  quotes : e.kind ≡ 5 → P (quotes_outcome t m)
  unfolding quotes_outcome changeless
  quotes k =
      push (ltb t.initiating (bound_by t (new_quotes m))) (Quote (new_quotes m)) ∙ ap (λ (x : Bool). cond x (yes Improve) (yes Open)) (passes-is o t F.priced (brought o e) (new_quotes m) (as-brought o t F.priced e f n.quoted q F.reads k))
      ∙ sym (simp (ne_eqb e.kind 1 (λ z. omega arith), ne_eqb e.kind 2 (λ z. omega arith), ne_eqb e.kind 3 (λ z. omega arith), ne_eqb e.kind 4 (λ z. omega arith), ne_eqb e.kind 6 (λ z. omega arith)))
    where
      push : (x : Bool) (c : Change) → changeless (cond x (does Nothing Improve) (does c Open)) ≡ cond x (yes Improve) (yes Open)
      push true c = refl
      push false c = refl

  -- ---- the quotes, kind by kind

  abbrev Moves : Outcome → Type 0
  Moves (Err r) = Unit {0}
  Moves (Ok d) = Reads (is_sell o) (cond (is_open d.ending) (quoted_after o n.quoted e) n.quoted) (quotes_after a.head.quotes d.change)

  -- a record that does not move them
  kept : (g : Ending) → eqb e.kind 5 ≡ false → (eqb e.kind 3 && eqb e.side (own_side o)) ≡ false → Reads (is_sell o) (cond (is_open g) (quoted_after o n.quoted e) n.quoted) a.head.quotes
  kept g x y =
      let z : quoted_after o n.quoted e ≡ n.quoted = ap₂ (λ (b c : Bool). cond b (brought o e) (cond c (outbid o n.quoted e) n.quoted)) x y in
      go (is_open g) z
    where
      go : (b : Bool) → quoted_after o n.quoted e ≡ n.quoted → Reads (is_sell o) (cond b (quoted_after o n.quoted e) n.quoted) a.head.quotes
      go true z = subst (λ (r : Quoted). Reads (is_sell o) r a.head.quotes) (sym z) F.reads
      go false z = F.reads

  of-kind : (k : ℕ) → e.kind ≡ k → eqb k 5 ≡ false → eqb k 3 ≡ false → (g : Ending) → Reads (is_sell o) (cond (is_open g) (quoted_after o n.quoted e) n.quoted) a.head.quotes
  of-kind k z x y g = kept g (ap (λ (j : ℕ). eqb j 5) z ∙ x) (and-no-left (eqb e.side (own_side o)) (ap (λ (j : ℕ). eqb j 3) z ∙ y))

  gtx-moves : e.kind ≡ 1 → Moves (gtx_outcome t v m)
  unfolding gtx_outcome
  gtx-moves k =
      by Moves (eqb m.side 1) _ _ (λ _. tt) (λ _.
      by Moves (ltb t.initiating (price_of m)) _ _ (λ _. tt) (λ _.
      by Moves (ltb (free_place v) 64) _ _ (λ _. of-kind 1 k refl refl Open) (λ _. tt)))

  cancel-moves : e.kind ≡ 2 → Moves (cancel_outcome v)
  unfolding cancel_outcome
  cancel-moves k = by Moves (ltb (old_place v) 64) _ _ (λ _. of-kind 2 k refl refl Open) (λ _. tt)

  amend-moves : e.kind ≡ 6 → Moves (amend_outcome t v m)
  unfolding amend_outcome
  amend-moves k =
      by Moves (ltb t.initiating (new_price_of m)) _ _ (λ _. tt) (λ _.
      by Moves (ltb (old_place v) 64) _ _ (λ _. of-kind 6 k refl refl Open) (λ _. tt))

  own-moves : e.kind ≡ 3 → eqb e.side (own_side o) ≡ true → Moves (buy_limit_outcome t q m)
  unfolding buy_limit_outcome
  own-moves k d =
      by Moves (leb (cond (is_non_routable m) q.bo q.nbo) (price_of m)) _ _ (λ _. F.reads) (λ _.
      by Moves (moves q (price_of m) (is_customer m) && ltb t.initiating (bound_by t (bid_quotes q (price_of m) (is_customer m)))) _ _ (λ _. F.reads) (λ _.
      subst (λ (r : Quoted). Reads (is_sell o) r (bid_quotes q (price_of m) (is_customer m)))
      (sym (ap₂ (λ (b c : Bool). cond b (brought o e) (cond c (outbid o n.quoted e) n.quoted)) (ap (λ (j : ℕ). eqb j 5) k) (and_both (ap (λ (j : ℕ). eqb j 3) k) d)))
      (as-bid o t F.priced e f n.quoted q F.reads k)))

  other-moves : e.kind ≡ 3 → eqb e.side (own_side o) ≡ false → Moves (sell_limit_outcome t q v m)
  unfolding sell_limit_outcome
  other-moves k d =
      let g : Ending = cond (leb (price_of m) (cond (is_non_routable m) q.bb q.nbb)) Opposite Open in
      let z = kept g (ap (λ (j : ℕ). eqb j 5) k) (and-no-right (eqb e.kind 3) d) in
      by Moves (leb (price_of m) t.initiating) _ _ (λ _. by Moves (ltb (free_place v) 64) _ _ (λ _. z) (λ _. tt)) (λ _. z)

  limit-moves : e.kind ≡ 3 → Moves (limit_outcome t q v m)
  unfolding limit_outcome
  limit-moves k = by Moves (eqb m.side 1) _ _ (λ d. own-moves k (sym (limit-side (is_sell o) e k) ∙ d)) (λ d. other-moves k (sym (limit-side (is_sell o) e k) ∙ d))

  market-moves : e.kind ≡ 4 → Moves (market_outcome m)
  unfolding market_outcome
  market-moves k = by Moves (eqb m.side 1) _ _ (λ _. of-kind 4 k refl refl Same) (λ _. of-kind 4 k refl refl Opposite)

  quotes-moves : e.kind ≡ 5 → Moves (quotes_outcome t m)
  unfolding quotes_outcome
  quotes-moves k =
      by Moves (ltb t.initiating (bound_by t (new_quotes m))) _ _ (λ _. F.reads) (λ _.
      subst (λ (r : Quoted). Reads (is_sell o) r (new_quotes m)) (sym (ap (λ (b : Bool). cond b (brought o e) (cond (eqb e.kind 3 && eqb e.side (own_side o)) (outbid o n.quoted e) n.quoted)) (eq-eqb e.kind 5 k)))
      (as-brought o t F.priced e f n.quoted q F.reads k))

  -- ---- both

  Both : Outcome → Type 0
  Both u = (changeless u ≡ decided o n e) × Moves u

  decided-is : Both (outcome_of t q v m)
  unfolding outcome_of Both
  decided-is =
      by Both (eqb m.kind 1) _ _ (λ k. (gtx (was 1 k), gtx-moves (was 1 k))) (λ a.
      by Both (eqb m.kind 2) _ _ (λ k. (cancel (was 2 k), cancel-moves (was 2 k))) (λ b.
      by Both (eqb m.kind 3) _ _ (λ k. (limit (was 3 k), limit-moves (was 3 k))) (λ c.
      by Both (eqb m.kind 4) _ _ (λ k. (market-order (was 4 k), market-moves (was 4 k))) (λ d.
      by Both (eqb m.kind 6) _ _ (λ k. (amend (was 6 k), amend-moves (was 6 k))) (λ g.
      let k : e.kind ≡ 5 = eqb-true e.kind 5 (five e f (not-was 1 a) (not-was 2 b) (not-was 3 c) (not-was 4 d) (not-was 6 g)) in
      (quotes k, quotes-moves k))))))
    where
      was : (k : ℕ) → eqb (buy_event (is_sell o) e).kind k ≡ true → e.kind ≡ k
      was k z = sym (buy-kind e (is_sell o)) ∙ eqb-true _ _ z

      not-was : (k : ℕ) → eqb (buy_event (is_sell o) e).kind k ≡ false → eqb e.kind k ≡ false
      not-was k z = sym (ap (λ (x : ℕ). eqb x k) (buy-kind e (is_sell o))) ∙ z

-- ---- a step

-- the auction that ends by time
timed : (o : Order) (a : Auction) (n : Now) → Follows o a n → Sound (record { head = ended_by_time a.head; board = a.board }) → Follows o (record { head = ended_by_time a.head; board = a.board }) (by_time n)
unfolding ended_by_time
timed o a n F s =
    record {
      sound = s;
      ours = F.ours;
      priced = F.priced;
      interval-is = F.interval-is;
      sequence-is = F.sequence-is;
      clock-is = F.clock-is;
      ending-is = refl;
      market-is = F.market-is;
      stands = F.stands;
      reads = F.reads;
    }

-- the market order after a record that is taken
market-after : (o : Order) (a : Auction) (e : Event) → a.head.terms.sell ≡ is_sell o → is_taken (step_of a e).answer ≡ true → (step_of a e).auction.head.market ≡ market_after o a.head.market e
market-after o a e w z = go (market-step a e)
  where
    not-it : (Sells a.head.terms.sell e → ⊥) → (eqb e.kind 4 && eqb e.side (other_side o)) ≡ false
    not-it n = test (eqb e.kind 4 && eqb e.side (other_side o)) refl
      where
        test : (t : Bool) → (eqb e.kind 4 && eqb e.side (other_side o)) ≡ t → t ≡ false
        test true z =
            let k : e.kind ≡ 4 = eqb-true e.kind 4 (and_left (eqb e.kind 4) (eqb e.side (other_side o)) z) in
            let d : e.side ≡ other_side o = eqb-true e.side (other_side o) (and_right (eqb e.kind 4) (eqb e.side (other_side o)) z) in
            absurd (n (k, ap (λ (s : Bool). (buy_event s e).side) w ∙ side-market (is_sell o) e k d))
        test false z = refl

    go : MarketStep a e (step_of a e) → (step_of a e).auction.head.market ≡ market_after o a.head.market e
    go (market.stays p n) = p ∙ sym (ap (λ (t : Bool). cond t (record { sequence = e.sequence; size = size_of e }) a.head.market) (not-it (n z)))
    go (market.sold t s) =
        let it : (eqb e.kind 4 && eqb e.side (other_side o)) ≡ true =
        and_both (eq-eqb e.kind 4 s.kind) (eq-eqb e.side (other_side o) (market-side (is_sell o) e s.kind (ap (λ (x : Bool). (buy_event x e).side) (sym w) ∙ s.side))) in
        let p : (step_of a e).auction.head.market ≡ record { sequence = e.sequence; size = size_of e } = λ i. record { sequence = s.sequence i; size = s.size i } in
        p ∙ sym (ap (λ (t : Bool). cond t (record { sequence = e.sequence; size = size_of e }) a.head.market) it)

module _ (o : Order) (a : Auction) (n : Now) (F : Follows o a n) (e : Event) where
  record Goes : Type 0 where
    answer : (step_of a e).answer ≡ answer_to o n e
    follows : Follows o (step_of a e).auction (after o n e)

  refusal_is : event_refusal a.head e ≡ refusal_of o n e
  unfolding event_refusal
  refusal_is =
      λ i. cond (not (is_open (F.ending-is i))) (Err AuctionEnded) (cond (not (event_formed e)) (Err EventOutOfForm) (cond (leb e.sequence (F.sequence-is i)) (Err SequenceTaken) (cond (ltb e.time (F.clock-is i)) (Err BeforeClock) (Ok tt))))

  -- what the engine's turn and the paper's answer are, by the two tests
  turns : Result (Unit {0}) Refusal → Bool → Turn
  turns q y =
      unless_refused a.head q
      (cond y (stays Late (ended_by_time a.head)) (carried a.head e (outcome_of a.head.terms a.head.quotes (sight_of a.board e) (buy_event a.head.terms.sell e))))

  turn_is : (q : Result (Unit {0}) Refusal) (y : Bool) → event_refusal a.head e ≡ q → leb a.head.terms.interval e.time ≡ y → turn_of a.head (sight_of a.board e) e ≡ turns q y
  unfolding turn_of turns
  turn_is q y p r = ap₂ turns p r

  late-is : (y : Bool) → leb a.head.terms.interval e.time ≡ y → leb o.interval e.time ≡ y
  late-is y r = sym (ap (λ (k : ℕ). leb k e.time) F.interval-is) ∙ r

  refused-answer : (x : Refusal) → event_refusal a.head e ≡ Err x → answer_to o n e ≡ Refused x
  refused-answer x p = ap (answer_by o n e) (sym refusal_is ∙ p)

  refused-after : (x : Refusal) → event_refusal a.head e ≡ Err x → after o n e ≡ n
  refused-after x p = ap (after_by o n e) (sym refusal_is ∙ p)

  served-answer : (u : Unit {0}) (y : Bool) → event_refusal a.head e ≡ Ok u → leb a.head.terms.interval e.time ≡ y → answer_to o n e ≡ cond y Late (answer_of (decided o n e))
  served-answer u y p r = ap (answer_by o n e) (sym refusal_is ∙ p) ∙ ap (λ (d : Bool). cond d Late (answer_of (decided o n e))) (late-is y r)

  served-after : (u : Unit {0}) (y : Bool) → event_refusal a.head e ≡ Ok u → leb a.head.terms.interval e.time ≡ y → after o n e ≡ cond y (by_time n) (leaves o n e (decided o n e))
  served-after u y p r = ap (after_by o n e) (sym refusal_is ∙ p) ∙ ap (λ (d : Bool). cond d (by_time n) (leaves o n e (decided o n e))) (late-is y r)

  -- from the turn and what the paper leaves
  goes : (u : Turn) (x : Answer) (k : Now) → turn_of a.head (sight_of a.board e) e ≡ u → answer_to o n e ≡ x → after o n e ≡ k → u.answer ≡ x → Follows o (seated_on a.board u).auction k → Goes
  goes u x k p r s z f =
      record {
        answer = ap (λ (w : Turn). w.answer) p ∙ z ∙ sym r;
        follows = subst (λ (w : Turn). Follows o (seated_on a.board w).auction (after o n e)) (sym p) (subst (Follows o (seated_on a.board u).auction) (sym s) f);
      }

  sound-turn : (u : Turn) → turn_of a.head (sight_of a.board e) e ≡ u → Sound (seated_on a.board u).auction
  sound-turn u p = subst (λ (w : Turn). Sound (seated_on a.board w).auction) p (sound-step a e F.sound)

  -- what is decided, carried out
  done : (f : event_formed e ≡ true) (u : Outcome) → turn_of a.head (sight_of a.board e) e ≡ carried a.head e u → changeless u ≡ decided o n e → Moves o a n F e f u
      → answer_to o n e ≡ answer_of (decided o n e) → after o n e ≡ leaves o n e (decided o n e) → Goes
  unfolding changeless head_after
  done f (Err k) p d b r s = goes (stays (Refused k) a.head) (Refused k) n p (r ∙ ap answer_of (sym d)) (s ∙ ap (leaves o n e) (sym d)) refl F
  done f (Ok x) p d b r s =
      record {
        answer = ap (λ (w : Turn). w.answer) p ∙ ap answer_of d ∙ sym r;
        follows = subst (Follows o (step_of a e).auction) (sym (s ∙ ap (leaves o n e) (sym d))) next;
      }
    where
      g : Ending
      g = x.ending

      taken : is_taken (step_of a e).answer ≡ true
      taken = ap (λ (w : Turn). is_taken w.answer) p ∙ taken-any (is_open g)

      next : Follows o (step_of a e).auction (leaves o n e (yes g))
      next =
          record {
            sound = sound-step a e F.sound;
            ours = subst (Ours o) (sym (terms-stay a e)) F.ours;
            priced = subst (Priced o) (sym (terms-stay a e)) F.priced;
            interval-is = ap (λ (x : Terms). x.interval) (terms-stay a e) ∙ F.interval-is;
            sequence-is = ap (λ (w : Turn). w.head.sequence) p;
            clock-is = ap (λ (w : Turn). w.head.clock) p;
            ending-is = ap (λ (w : Turn). w.head.ending) p;
            market-is = market-after o a e F.ours.sell taken ∙ ap (λ (x : Market). market_after o x e) F.market-is;
            stands = stands-step o a e F.sound F.ours n.standing F.stands taken;
            reads = subst (Reads (is_sell o) (cond (is_open g) (quoted_after o n.quoted e) n.quoted)) (sym (ap (λ (w : Turn). w.head.quotes) p)) b;
          }

  step : Goes
  unfolding turns Both
  step = go (event_refusal a.head e) refl (leb a.head.terms.interval e.time) refl
    where
      go : (q : Result (Unit {0}) Refusal) → event_refusal a.head e ≡ q → (y : Bool) → leb a.head.terms.interval e.time ≡ y → Goes
      go (Err x) p y r = goes (stays (Refused x) a.head) (Refused x) n (turn_is (Err x) y p r) (refused-answer x p) (refused-after x p) refl F
      go (Ok u) p true r =
          goes (stays Late (ended_by_time a.head)) Late (by_time n) (turn_is (Ok u) true p r) (served-answer u true p r) (served-after u true p r) refl
          (timed o a n F (sound-turn (stays Late (ended_by_time a.head)) (turn_is (Ok u) true p r)))
      go (Ok u) p false r =
          let f : event_formed e ≡ true = formed a.head e u p in
          let b = decided-is o a n F e f in
          let same = ap (λ (s : Bool). carried a.head e (outcome_of a.head.terms a.head.quotes (sight_of a.board e) (buy_event s e))) F.ours.sell in
          done f (outcome_of a.head.terms a.head.quotes (sight_of a.board e) (buy_event (is_sell o) e)) (turn_is (Ok u) false p r ∙ same) b.0 b.1
          (served-answer u false p r) (served-after u false p r)

-- ---- a run, from its opening to its end

follows-run : (o : Order) (es : List Event) (a : Auction) (n : Now) → Follows o a n → (heard a es ≡ answers_from o n es) × (taken_of a es ≡ taken_from o n es) × Follows o (run a es) (after_all o n es)
follows-run o [] a n F = (refl, refl, F)
follows-run o (e ∷ es) a n F =
    let g = step o a n F e in
    let r = follows-run o es (step_of a e).auction (after o n e) g.follows in (
      ap₂ {C = List Said} (λ (x : Answer) (xs : List Said). said e.sequence x ∷ xs) g.answer r.0,
      ap₂ {C = List Event} (λ (x : Answer) (xs : List Event). keep (is_taken x) e xs) g.answer r.1,
      r.2,
    )

-- the contracts on offer are the sum of the sizes that stand, and so each line of a watch
offer-is : (o : Order) (a : Auction) (n : Now) → Follows o a n → on_offer a ≡ sum (sizes n.standing)
offer-is o a n F =
    F.sound.offered ∙ ap sum (sym (sizes-sent (is_sell o) (live_of a.board))) ∙ sym (sizes-sequence (on_board (is_sell o) a.board))
    ∙ ap (λ (rs : List Response). sum (sizes rs)) F.stands

follows-watch : (o : Order) (es : List Event) (a : Auction) (n : Now) → Follows o a n → watch_lines a es ≡ watch_from o n es
follows-watch o [] a n F = refl
follows-watch o (e ∷ es) a n F =
    let g = step o a n F e in
    ap₂ {C = List ℕ} (λ (x y : List ℕ). x ++ y)
    (ap₂ {C = List ℕ} (λ (x : Answer) (k : ℕ). event_line_with (said e.sequence x) k) g.answer (offer-is o (step_of a e).auction (after o n e) g.follows))
    (follows-watch o es (step_of a e).auction (after o n e) g.follows)

-- closing by hand
close-turn : (h : Head) (b : Bool) → is_open h.ending ≡ b → close_turn h ≡ cond b (stays Late (ended_by_time h)) (stays (Refused AuctionEnded) h)
unfolding close_turn
close-turn h b z = ap (λ (x : Bool). cond x (stays Late (ended_by_time h)) (stays (Refused AuctionEnded) h)) z

follows-close : (o : Order) (a : Auction) (n : Now) → Follows o a n → Follows o (closed a) (cond (is_open n.ending) (by_time n) n)
follows-close o a n F = go (is_open a.head.ending) refl
  where
    base : (b : Bool) → is_open a.head.ending ≡ b → Follows o (seated_on a.board (cond b (stays Late (ended_by_time a.head)) (stays (Refused AuctionEnded) a.head))).auction (cond b (by_time n) n)
    base true z = timed o a n F (subst (λ (w : Turn). Sound (seated_on a.board w).auction) (close-turn a.head true z) (sound-close a F.sound))
    base false z = F

    go : (b : Bool) → is_open a.head.ending ≡ b → Follows o (closed a) (cond (is_open n.ending) (by_time n) n)
    go b z =
        subst (Follows o (closed a)) (sym (ap (λ (x : Bool). cond x (by_time n) n) (sym (ap is_open F.ending-is) ∙ z)))
        (subst (λ (w : Turn). Follows o (seated_on a.board w).auction (cond b (by_time n) n)) (sym (close-turn a.head b z)) (base b z))

module _ (o : Order) (h : Accepts o) where
  first : Follows o (auction_of o) (opening o)
  unfolding opened_by terms_of buy_order mirrored_order in_sequence
  first =
      record {
        sound = sound-opened o h;
        ours = ours o h;
        priced = ours-of o h;
        interval-is = by (λ (b : Order). b.interval ≡ o.interval) (is_sell o) _ _ (λ _. refl) (λ _. refl);
        sequence-is = refl;
        clock-is = refl;
        ending-is = refl;
        market-is = refl;
        stands = ap (λ (rs : List Response). in_sequence (map (sent (is_sell o)) rs)) (none-live (is_sell o) (buy_order o));
        reads = at_first o h;
      }

  pub answers-are : (es : List Event) → heard (auction_of o) es ≡ answers_from o (opening o) es
  answers-are es = (follows-run o es (auction_of o) (opening o) first).0

  pub watch-is : (es : List Event) → watch_lines (auction_of o) es ≡ watch_from o (opening o) es
  watch-is es = follows-watch o es (auction_of o) (opening o) first

  pub taken-are : (es : List Event) → taken_records o es ≡ taken_from o (opening o) es
  taken-are es = (follows-run o es (auction_of o) (opening o) first).1

  pub last-is : (es : List Event) → Follows o (at_end o es) (lastly o es)
  last-is es = follows-close o (run (auction_of o) es) (after_all o (opening o) es) (follows-run o es (auction_of o) (opening o) first).2
