-- What is live on the board is what the records taken leave standing. Assumes nothing.
use mathlib.Core.Path.{◌≡◌, refl, sym, ap, subst, ◌∙◌}
use mathlib.Core.Bool.{Bool, true, false, cond, not, ◌&&◌}
use mathlib.Core.List.{List, [], ◌∷◌, ◌++◌, map}
use mathlib.Core.Logic.{◌⊎◌, inl, inr, ◌≢◌}
use Prim.Native.Nat.{ℕ, ◌≤◌, ◌<◌, min}
use native.Mathlib.Nat.{le_refl, le_of_lt}
use native.Mathlib.Omega.{arith}
use lib.Dec.{leb, ltb, eqb}
use lib.ListN.{length}
use borrow.Author.Tests.{eq-eqb, ne_eqb, eqb-true, ltb-true, ltb-false, le-leb, lt-leb}
use Rattle.base.specs.Lists.{In, Every, keep, filter, Inserts}
use Rattle.base.proofs.Bools.{by, no, and_left, and_right, and_both, and-no-left, and-no-right}
use Rattle.base.proofs.ListLaws.{every-inserts, inserts-fail, inserts-only, inserts-map, in-shuffles, every_append, every_map, every_in, every-with, every-filter, filter-test, filter-all, filter_none}
use Rattle.board.specs.declared.Board.{Board}
use Rattle.board.specs.declared.Response.{Response}
use Rattle.board.specs.rules.Board.{no_response, response_at, is_live, live_of, seated_at, cleared, find_gtx, is_gtx, inserted, in_sequence}
use Rattle.board.specs.promises.Board.{Good, GtxAt, Amending}
use Rattle.board.proofs.BoardLaws.{seating, amending, clearing, find-named, named-found, empty-live}
use Rattle.board.proofs.LiveLaws.{live-every}
use Rattle.board.proofs.SequenceLaws.{sequence-shuffles, sequence-filter, sequence-last}
use Rattle.tape.specs.declared.order.Order.{Order}
use Rattle.tape.specs.declared.event.Event.{Event}
use Rattle.tape.specs.rules.Form.{event_formed}
use Rattle.tape.specs.rules.Fields.{size_of, price_of, name_of}
use Rattle.mirror.specs.rules.Mirror.{mirrored_side, mirrored_priced, buy_order, buy_event}
use Rattle.mirror.proofs.EventLaws.{buy-kind, mirror-three}
use Rattle.mirror.proofs.MirrorForm.{event-bounds}
use Rattle.trade.specs.rules.Trade.{offers, fills}
use Rattle.trade.specs.rules.Write.{reported_price, reported}
use Rattle.fills.specs.rules.Fills.{deal_of}
use Rattle.demand.specs.promises.Demands.{Absent, Distinct}
use Rattle.auction.specs.declared.Auction.{Auction}
use Rattle.auction.specs.declared.Terms.{Terms}
use Rattle.auction.specs.rules.Accept.{opened_by, auction_of, Accepts}
use Rattle.decision.specs.declared.Sight.{Sight}
use Rattle.decision.specs.rules.Decide.{is_amend, amended_by, free_place, old_place}
use Rattle.events.specs.rules.Step.{sight_of, board_after, carried, step_of}
use Rattle.run.specs.rules.Run.{run, is_taken, taken_of}
use Rattle.run.specs.promises.Demands.{InTime, Stands, Sound, Rising}
use Rattle.run.proofs.StepLaws.{Leaves, Outcomes, cases}
use Rattle.run.proofs.BoardSteps.{sees}
use Rattle.run.proofs.SoundLaws.{sound-opened, sound-step}
use Rattle.run.proofs.MarketFrom.{side-in, sided, buy-form, other-side, terms-stay, run-terms, untaken}
use Rattle.run.proofs.Amends.{found-is, others_apart}
use Rattle.run.proofs.Resend.{rising}
use Rattle.promise.specs.rules.Sides.{is_sell, other_side, better, initiating_price, sent, responses, sent_by, sent_instead, takes_place, stands_after, standing_from, standing_of, has_named, given_size, given_price, taken_records, at_end, written_fills, live_at_end}
use Rattle.promise.specs.promises.Parts.{Sends, auction_after}
use Rattle.promise.specs.promises.Parts.Sends.{places, amends}
use Rattle.promise.proofs.Opening.{initiating-is}
use Rattle.promise.proofs.RealLaws.{better-shown, shown-twice, sequence-sent, board-is, there-is, written_is, sound}
use Rattle.promise.proofs.Sent.{terms-sell, terms-size, priced-side, sent-price, sent-gtx, sent-limit, sent-amend, every-sent}

-- ---- a limit order takes a place where the buy's event does

not-ltb : (i p : ℕ) → not (ltb i p) ≡ leb p i
not-ltb i p = go (ltb i p) refl
  where
    go : (b : Bool) → ltb i p ≡ b → not b ≡ leb p i
    go true z = sym (lt-leb p i (ltb-true i p z))
    go false z = sym (le-leb p i (ltb-false i p z))

-- a side is 1 or 2
one-or-two : (n : ℕ) → 1 ≤ n → n ≤ 2 → (n ≡ 1) ⊎ (n ≡ 2)
one-or-two n a b = go (eqb n 1) refl
  where
    go : (t : Bool) → eqb n 1 ≡ t → (n ≡ 1) ⊎ (n ≡ 2)
    go true z = inl (eqb-true n 1 z)
    go false z = let q : n ≡ 1 → ⊥ = λ e. no (sym (eq-eqb n 1 e) ∙ z) in inr (omega (arith, q))

buy-side : (n : ℕ) → (n ≡ 1) ⊎ (n ≡ 2) → eqb n 2 ≡ not (eqb n 1)
buy-side n (inl z) = ap (λ (k : ℕ). eqb k 2) z ∙ sym (ap (λ (k : ℕ). not (eqb k 1)) z)
buy-side n (inr z) = ap (λ (k : ℕ). eqb k 2) z ∙ sym (ap (λ (k : ℕ). not (eqb k 1)) z)

sell-side : (n : ℕ) → (n ≡ 1) ⊎ (n ≡ 2) → eqb n 1 ≡ not (eqb (mirrored_side n) 1)
unfolding mirrored_side
sell-side n (inl z) = ap (λ (k : ℕ). eqb k 1) z ∙ sym (ap (λ (k : ℕ). not (eqb (mirrored_side k) 1)) z)
sell-side n (inr z) = ap (λ (k : ℕ). eqb k 1) z ∙ sym (ap (λ (k : ℕ). not (eqb (mirrored_side k) 1)) z)

place-side : (sell : Bool) (e : Event) → e.kind ≡ 3 → event_formed e ≡ true → eqb e.side (cond sell 1 2) ≡ not (eqb (buy_event sell e).side 1)
unfolding buy_event mirrored_priced
place-side sell e k f = go sell
  where
    two : (e.side ≡ 1) ⊎ (e.side ≡ 2)
    two = let s = side-in e (sided e.kind (inr (inl k))) f in one-or-two e.side s.0 s.1

    go : (sell : Bool) → eqb e.side (cond sell 1 2) ≡ not (eqb (buy_event sell e).side 1)
    go true = sell-side e.side two ∙ sym (ap (λ (x : Event). not (eqb x.side 1)) (mirror-three e k))
    go false = buy-side e.side two

place-price : (sell : Bool) (e : Event) (i : ℕ) → i ≤ 999999 → e.kind ≡ 3 → event_formed e ≡ true → not (better sell (reported_price sell i) (price_of e)) ≡ leb (price_of (buy_event sell e)) i
place-price sell e i l k f =
    let p : ℕ = price_of (buy_event sell e) in
    ap (λ (q : ℕ). not (better sell (reported_price sell i) q)) (sym (sent-price sell e (inr k) f))
    ∙ ap not (better-shown sell i p (omega arith) (omega (arith, (event-bounds (buy_event sell e) (buy-form sell e f)).price)))
    ∙ not-ltb i p

-- ---- what a record that is taken leaves standing, by its kind

module _ (o : Order) (e : Event) (rs : List Response) where
  -- those that are no GTX response of the record's name
  abbrev others : List Response
  others = filter (λ r. not (is_gtx (name_of e) r)) rs

  stands-gtx : e.kind ≡ 1 → stands_after o rs e ≡ rs ++ (sent_by o e ∷ [])
  stands-gtx k = simp (eq-eqb e.kind 1 k)

  stands-cancel : e.kind ≡ 2 → stands_after o rs e ≡ others
  stands-cancel k = simp (ne_eqb e.kind 1 (λ z. omega arith), eq-eqb e.kind 2 k)

  stands-amend : e.kind ≡ 6 → stands_after o rs e ≡ others ++ map (sent_instead o e) (filter (is_gtx (name_of e)) rs)
  stands-amend k = simp (ne_eqb e.kind 1 (λ z. omega arith), ne_eqb e.kind 2 (λ z. omega arith), ne_eqb e.kind 3 (λ z. omega arith), eq-eqb e.kind 6 k)

  -- any other record: by whether it is a limit order that takes a place
  stands-else : eqb e.kind 1 ≡ false → eqb e.kind 2 ≡ false → eqb e.kind 6 ≡ false → (b : Bool) → (eqb e.kind 3 && takes_place o e) ≡ b → stands_after o rs e ≡ cond b (rs ++ (sent_by o e ∷ [])) rs
  stands-else k l n b z = simp (k, l, n, z)

-- ---- the board

-- its live responses, as they were sent
abbrev pub on_board : Bool → Board → List Response
on_board sell b = map (sent sell) (live_of b)

-- the others of one with a sequence of its own are no GTX response of that sequence
not_named : (sell : Bool) (k : ℕ) (rs : List Response) → Absent k rs → Every (λ r. is_gtx k r ≡ false) (map (sent sell) rs)
not_named sell k rs a = every-sent (λ r. is_gtx k r ≡ false) sell rs (every_map (λ r. r.sequence ≢ k) (λ r. is_gtx k r ≡ false) rs (λ r n. and-no-right r.gtx (ne_eqb r.sequence k n)) a)

-- the place of the GTX response that is named
module _ (sell : Bool) (b : Board) (k : ℕ) (g : Good b) (d : Distinct (live_of b)) (l : find_gtx b k < 64) where
  abbrev i : ℕ
  i = find_gtx b k

  abbrev named : Response → Bool
  named = is_gtx k

  abbrev old : Response
  old = sent sell (response_at b.places i)

  at : GtxAt b k i
  at = find-named false b k g l

  takes : Inserts old (on_board sell (cleared b i)) (on_board sell b)
  takes = inserts-map (sent sell) (clearing b i g at.live).takes

  is-named : named old ≡ true
  is-named = and_both at.gtx (eq-eqb _ _ at.sequence)

  rest : Every (λ r. named r ≡ false) (on_board sell (cleared b i))
  rest = not_named sell k (live_of (cleared b i)) (subst (λ (n : ℕ). Absent n (live_of (cleared b i))) at.sequence (others_apart (clearing b i g at.live).takes d))

  -- without it, those that are not named are left
  freed : in_sequence (on_board sell (cleared b i)) ≡ filter (λ r. not (named r)) (in_sequence (on_board sell b))
  freed =
      let t : Response → Bool = λ r. not (named r) in
      let all : filter t (on_board sell (cleared b i)) ≡ on_board sell (cleared b i) = filter-all t (on_board sell (cleared b i)) (every_map (λ r. named r ≡ false) (λ r. t r ≡ true) (on_board sell (cleared b i)) (λ r z. ap not z) rest) in
      sym (sequence-filter t (on_board sell b) ∙ ap in_sequence (inserts-fail t (ap not is-named) takes ∙ all))

  -- it is the one that is named
  only_one : filter named (in_sequence (on_board sell b)) ≡ old ∷ []
  unfolding in_sequence inserted
  only_one = sequence-filter named (on_board sell b) ∙ ap in_sequence (inserts-only named is-named rest takes)

-- a GTX response is found where one of that name is among them
pub named-is : (sell : Bool) (b : Board) (k : ℕ) → Good b → Distinct (live_of b) → ltb (find_gtx b k) 64 ≡ has_named k (in_sequence (on_board sell b))
unfolding in_sequence
named-is sell b k g d = go (ltb (find_gtx b k) 64) refl
  where
    go : (t : Bool) → ltb (find_gtx b k) 64 ≡ t → t ≡ has_named k (in_sequence (on_board sell b))
    go true z = ap (λ (rs : List Response). not (eqb (length rs) 0)) (sym (only_one sell b k g d (ltb-true _ _ z)))
    go false z =
        let none : Every (λ r. is_gtx k r ≡ false) (live_of b) = live-every (λ r. is_gtx k r ≡ false) b.live b.places no_response (λ j l t. not-gtx j l t (is_gtx k (response_at b.places j)) refl) in
        sym (ap (λ (rs : List Response). not (eqb (length rs) 0)) (sequence-filter (is_gtx k) (on_board sell b) ∙ ap in_sequence (filter_none (is_gtx k) (on_board sell b) (every-sent (λ r. is_gtx k r ≡ false) sell (live_of b) none))))
      where
        not-gtx : (j : ℕ) → j < length b.places → is_live b j ≡ true → (t : Bool) → is_gtx k (response_at b.places j) ≡ t → t ≡ false
        not-gtx j l live true q =
            let r : Response = response_at b.places j in
            let at : GtxAt b k j = record { live = live; gtx = and_left r.gtx _ q; sequence = eqb-true _ _ (and_right r.gtx _ q) } in
            absurd (omega (arith, ltb-false (find_gtx b k) 64 z, named-found false b k g j at, l, g.places-are))
        not-gtx j l live false q = refl

-- ---- a step

-- the terms of an auction are those of the order
pub record Ours (o : Order) (t : Terms) : Type 0 where
  pub sell : t.sell ≡ is_sell o
  pub size : t.size ≡ o.size
  pub initiating : initiating_price o ≡ reported_price (is_sell o) t.initiating

module _ (o : Order) (a : Auction) (e : Event) (s : Sound a) (w : Ours o a.head.terms) (rs : List Response) (now : in_sequence (on_board (is_sell o) a.board) ≡ rs) where
  abbrev terms : Terms
  terms = a.head.terms

  abbrev view : Sight
  view = sight_of a.board e

  abbrev m : Event
  m = buy_event terms.sell e

  -- a limit order takes a place by the order's own fields where it does by the auction's
  pub takes-is : e.kind ≡ 3 → event_formed e ≡ true → takes_place o e ≡ (not (eqb m.side 1) && leb (price_of m) terms.initiating)
  takes-is k f =
      let z : eqb e.side (other_side o) ≡ not (eqb m.side 1) = place-side (is_sell o) e k f ∙ ap (λ (b : Bool). not (eqb (buy_event b e).side 1)) (sym w.sell) in
      let p : not (better (is_sell o) (initiating_price o) (price_of e)) ≡ leb (price_of m) terms.initiating =
      ap (λ (x : ℕ). not (better (is_sell o) x (price_of e))) w.initiating ∙ place-price (is_sell o) e terms.initiating s.price k f ∙ ap (λ (b : Bool). leb (price_of (buy_event b e)) terms.initiating) (sym w.sell) in
      ap (λ (b : Bool). b && not (better (is_sell o) (initiating_price o) (price_of e))) z ∙ ap (λ (b : Bool). not (eqb m.side 1) && b) p

  -- a record that takes no place, frees none and amends none
  leaves_all : event_formed e ≡ true → Leaves terms m → stands_after o rs e ≡ rs
  leaves_all f l = stands-else o e rs (sym (same 1) ∙ l.no-gtx) (sym (same 2) ∙ l.no-cancel) (sym (same 6) ∙ l.no-amend) false (go (eqb e.kind 3) refl)
    where
      same : (n : ℕ) → eqb m.kind n ≡ eqb e.kind n
      same n = ap (λ (k : ℕ). eqb k n) (buy-kind e terms.sell)

      go : (b : Bool) → eqb e.kind 3 ≡ b → (b && takes_place o e) ≡ false
      go true z = takes-is (eqb-true _ _ z) f ∙ l.no_place (same 3 ∙ z)
      go false z = refl

  abbrev Stood : Board → Type 0
  Stood b = in_sequence (on_board (is_sell o) b) ≡ stands_after o rs e

  -- all that were live have lower sequences
  lower : a.head.sequence < e.sequence → (x : Response) → x.sequence ≡ e.sequence → Every (λ r. r.sequence < x.sequence) (on_board (is_sell o) a.board)
  lower n x q =
      every-sent (λ r. r.sequence < x.sequence) (is_sell o) (live_of a.board)
      (every_map (Stands a.head.sequence terms.initiating) (λ r. r.sequence < x.sequence) (live_of a.board) (λ r h. omega (arith, h.1, n, q)) s.live)

  -- a record's response is seated: it comes last
  placed : (r : Response) → free_place view < 64 → a.head.sequence < e.sequence → sent (is_sell o) r ≡ sent_by o e → stands_after o rs e ≡ rs ++ (sent_by o e ∷ []) → Stood (seated_at a.board (free_place view) r)
  placed r l n q z =
      let x : Response = sent_by o e in
      let adds : Inserts x (on_board (is_sell o) a.board) (on_board (is_sell o) (seated_at a.board (free_place view) r)) =
      subst (λ (y : Response). Inserts y (on_board (is_sell o) a.board) (on_board (is_sell o) (seated_at a.board (free_place view) r))) q
      (inserts-map (sent (is_sell o)) (seating a.board (free_place view) r s.board l ((sees a.board e s.board).free l)).adds) in
      sequence-last adds (lower n x refl) ∙ ap (λ (xs : List Response). xs ++ (x ∷ [])) now ∙ sym z

  -- the place of the GTX response that is named
  abbrev place : ℕ
  place = find_gtx a.board (name_of e)

  -- an amend's response is seated there: the old one goes, and the new one comes last
  amended : place < 64 → a.head.sequence < e.sequence → e.kind ≡ 6 → event_formed e ≡ true → Stood (seated_at a.board place (amended_by terms (response_at a.board.places place) m))
  amended l n k f =
      let was : Response = response_at a.board.places place in
      let r : Response = amended_by terms was m in
      let x : Response = sent_instead o e (sent (is_sell o) was) in
      let got : GtxAt a.board (name_of e) place = find-named false a.board (name_of e) s.board l in
      let made : Amending a.board place r = amending a.board place r s.board got.live in
      let left : List Response = on_board (is_sell o) (cleared a.board place) in
      let adds : Inserts x left (on_board (is_sell o) (seated_at a.board place r)) =
      subst (λ (y : Response). Inserts y left (on_board (is_sell o) (seated_at a.board place r))) (sent-amend o terms e w.sell w.size f was k) (inserts-map (sent (is_sell o)) made.adds) in
      let low : Every (λ y. y.sequence < x.sequence) left = (every-inserts (λ y. y.sequence < x.sequence) (inserts-map (sent (is_sell o)) made.takes) (lower n x refl)).1 in
      let away : in_sequence left ≡ others o e rs = freed (is_sell o) a.board (name_of e) s.board s.distinct l ∙ ap (filter (λ y. not (is_gtx (name_of e) y))) now in
      let one : filter (is_gtx (name_of e)) rs ≡ sent (is_sell o) was ∷ [] = sym (ap (filter (is_gtx (name_of e))) now) ∙ only_one (is_sell o) a.board (name_of e) s.board s.distinct l in
      sequence-last adds low ∙ ap (λ (xs : List Response). xs ++ (x ∷ [])) away ∙ sym (ap (λ (xs : List Response). others o e rs ++ map (sent_instead o e) xs) one) ∙ sym (stands-amend o e rs k)

  does : InTime a.head e → Outcomes terms a.head.quotes view m (λ u. is_taken (carried a.head e u).answer ≡ true → Stood (board_after a.board (carried a.head e u).change))
  does ok =
      record {
        refuses = λ _ _ z. no (sym z);
        nothing = λ _ l _. stays l;
        gtx = λ k _ f _ _. let k1 : e.kind ≡ 1 = sym (buy-kind e terms.sell) ∙ k in placed _ f ok.ordinary.newer (sent-gtx o terms e w.sell w.size ok.ordinary.formed k1) (stands-gtx o e rs k1);
        limit = λ _ k d f p _.
            let k3 : e.kind ≡ 3 = sym (buy-kind e terms.sell) ∙ k in
            let here : takes_place o e ≡ true = takes-is k3 ok.ordinary.formed ∙ and_both (ap not d) (le-leb _ _ p) in
            placed _ f ok.ordinary.newer (sent-limit o terms e w.sell w.size ok.ordinary.formed k3)
            (stands-else o e rs (ne_eqb e.kind 1 (λ z. omega arith)) (ne_eqb e.kind 2 (λ z. omega arith)) (ne_eqb e.kind 6 (λ z. omega arith)) true (and_both (eq-eqb _ _ k3) here));
        clear = λ k f _.
            let k2 : e.kind ≡ 2 = sym (buy-kind e terms.sell) ∙ k in
            let found : old_place view ≡ place = found-is a.board e (inl k2) in
            subst (λ (i : ℕ). Stood (cleared a.board i)) (sym found)
            (freed (is_sell o) a.board (name_of e) s.board s.distinct (omega (arith, f, found)) ∙ ap (filter (λ r. not (is_gtx (name_of e) r))) now ∙ sym (stands-cancel o e rs k2));
        amend = λ k f _ _.
            let k6 : e.kind ≡ 6 = sym (buy-kind e terms.sell) ∙ k in
            let found : old_place view ≡ place = found-is a.board e (inr k6) in
            let at_place : Stood (seated_at a.board (old_place view) (amended_by terms (response_at a.board.places (old_place view)) m)) =
            subst (λ (i : ℕ). Stood (seated_at a.board i (amended_by terms (response_at a.board.places i) m))) (sym found) (amended (omega (arith, f, found)) ok.ordinary.newer k6 ok.ordinary.formed) in
            subst (λ (x : Response). Stood (seated_at a.board (old_place view) (amended_by terms x m))) (sym (sees a.board e s.board).old) at_place;
        quote = λ _ _ l _. stays l;
        sell = λ k _ _.
            let k4 : e.kind ≡ 4 = sym (buy-kind e terms.sell) ∙ k in
            kept (stands-else o e rs (ne_eqb e.kind 1 (λ z. omega arith)) (ne_eqb e.kind 2 (λ z. omega arith)) (ne_eqb e.kind 6 (λ z. omega arith)) false (and-no-left (takes_place o e) (ne_eqb e.kind 3 (λ z. omega arith))));
      }
    where
      kept : stands_after o rs e ≡ rs → Stood a.board
      kept z = now ∙ sym z

      stays : Leaves terms m → Stood a.board
      stays l = kept (leaves_all ok.ordinary.formed l)

  -- a record that is taken
  pub stands-step : is_taken (step_of a e).answer ≡ true → Stood (step_of a e).auction.board
  stands-step = cases a.head e view (λ t. is_taken t.answer ≡ true → Stood (board_after a.board t.change)) (record { refused = λ _ _ z. no (sym z); late = λ _ z. no (sym z); does = does })

-- ---- a run

stands-run : (o : Order) (es : List Event) (a : Auction) (rs : List Response) → Sound a → Ours o a.head.terms → in_sequence (on_board (is_sell o) a.board) ≡ rs → in_sequence (on_board (is_sell o) (run a es).board) ≡ standing_from o rs (taken_of a es)
stands-run o [] a rs s w now = now
stands-run o (e ∷ es) a rs s w now =
    go (is_taken (step_of a e).answer) refl (λ xs k. stands-run o es b xs (sound-step a e s) (subst (Ours o) (sym (terms-stay a e)) w) k)
  where
    b : Auction
    b = (step_of a e).auction

    go : (t : Bool) → is_taken (step_of a e).answer ≡ t → ((xs : List Response) → in_sequence (on_board (is_sell o) b.board) ≡ xs → in_sequence (on_board (is_sell o) (run b es).board) ≡ standing_from o xs (taken_of b es))
        → in_sequence (on_board (is_sell o) (run b es).board) ≡ standing_from o rs (keep t e (taken_of b es))
    go true z ih = ih (stands_after o rs e) (stands-step o a e s w rs now z)
    go false z ih = ih rs (ap (λ (c : Board). in_sequence (on_board (is_sell o) c)) (untaken a e z) ∙ now)

-- a board that was just opened has no response
pub none-live : (s : Bool) (b : Order) → live_of (opened_by s b).board ≡ []
unfolding opened_by
none-live s b = empty-live

-- an order's auction has its terms, at its opening and after any records
pub ours : (o : Order) → Accepts o → Ours o (auction_of o).head.terms
ours o h = record { sell = terms-sell o h; size = terms-size o h; initiating = initiating-is o h }

pub ours-after : (o : Order) (es : List Event) → Accepts o → Ours o (auction_after o es).head.terms
ours-after o es h = subst (Ours o) (sym (run-terms es (auction_of o))) (ours o h)

stood : (o : Order) (es : List Event) → Accepts o → in_sequence (on_board (is_sell o) (auction_after o es).board) ≡ standing_of o (taken_records o es)
unfolding in_sequence
stood o es h =
    let a : Auction = (auction_of o) in
    let nobody : live_of a.board ≡ [] = none-live (is_sell o) (buy_order o) in
    stands-run o es a [] (sound-opened o h) (ours o h) (ap (λ (rs : List Response). in_sequence (map (sent (is_sell o)) rs)) nobody)

pub by-records : (o : Order) (es : List Event) → Accepts o → in_sequence (responses (auction_after o es)) ≡ standing_of o (taken_records o es)
by-records o es h =
    ap (λ (s : Bool). in_sequence (on_board s (auction_after o es).board)) (ap (λ (t : Terms). t.sell) (run-terms es (auction_of o)) ∙ terms-sell o h) ∙ stood o es h

pub stand : (o : Order) (es : List Event) → Accepts o → in_sequence (live_at_end o es) ≡ standing_of o (taken_records o es)
stand o es h = ap in_sequence (there-is o es h ∙ ap (on_board (is_sell o)) (board-is o es h)) ∙ stood o es h

-- the fills are those of what stands: for the buy, the prices are mirrored back
sent-twice : (sell : Bool) (rs : List Response) → Every (λ r. r.price ≤ 1000000) rs → map (sent sell) (map (sent sell) rs) ≡ rs
sent-twice sell [] h = refl
sent-twice sell (r ∷ rs) h =
    ap (λ (p : ℕ). record { sequence = r.sequence; size = r.size; price = p; participant = r.participant; customer = r.customer; gtx = r.gtx } ∷ map (sent sell) (map (sent sell) rs)) (shown-twice sell r.price h.0)
    ∙ ap (λ (xs : List Response). r ∷ xs) (sent-twice sell rs h.1)

pub by-fold : (o : Order) (es : List Event) → Accepts o → written_fills o es ≡ reported (is_sell o) (fills (deal_of (at_end o es).head) (map (sent (is_sell o)) (standing_of o (taken_records o es))))
by-fold o es h =
    let a : Auction = at_end o es in
    let s : Sound a = sound o es h in
    let prices : Every (λ r. r.price ≤ 1000000) (live_of a.board) =
    every_map (Stands a.head.sequence a.head.terms.initiating) (λ r. r.price ≤ 1000000) (live_of a.board) (λ r k. omega (arith, k.4, s.price)) s.live in
    let back : offers a.board ≡ map (sent (is_sell o)) (standing_of o (taken_records o es)) =
    ap in_sequence (sym (sent-twice (is_sell o) (live_of a.board) prices)) ∙ sequence-sent (is_sell o) (map (sent (is_sell o)) (live_of a.board))
    ∙ ap (map (sent (is_sell o))) (ap in_sequence (sym (there-is o es h)) ∙ stand o es h) in
    written_is o es h ∙ ap (λ (rs : List Response). reported (is_sell o) (fills (deal_of a.head) rs)) back

-- ---- where each response comes from

-- a GTX response that is taken is of the other side
gtx-side : (a : Auction) (e : Event) → is_taken (step_of a e).answer ≡ true → e.kind ≡ 1 → (buy_event a.head.terms.sell e).side ≡ 2
gtx-side a e =
    cases a.head e (sight_of a.board e) (λ t. is_taken t.answer ≡ true → e.kind ≡ 1 → (buy_event sell e).side ≡ 2)
    (record {
      refused = λ _ _ z. no (sym z);
      late = λ _ z. no (sym z);
      does = λ o. record {
        refuses = λ _ _ z. no (sym z);
        nothing = λ _ l _ k. no (sym (is_one k) ∙ l.no-gtx);
        gtx = λ k d _ _ _ _. other-side sell e (inl k) o.ordinary.formed d;
        limit = λ _ k _ _ _ _ z. absurd (omega (arith, k, buy-kind e sell));
        clear = λ k _ _ z. absurd (omega (arith, k, buy-kind e sell));
        amend = λ k _ _ _ z. absurd (omega (arith, k, buy-kind e sell));
        quote = λ _ _ l _ k. no (sym (is_one k) ∙ l.no-gtx);
        sell = λ k _ _ z. absurd (omega (arith, k, buy-kind e sell));
      };
    })
  where
    sell : Bool
    sell = a.head.terms.sell

    is_one : e.kind ≡ 1 → eqb (buy_event sell e).kind 1 ≡ true
    is_one k = eq-eqb _ _ (buy-kind e sell ∙ k)

taken-side : (o : Order) (es : List Event) (a : Auction) → a.head.terms.sell ≡ is_sell o → Every (λ e. e.kind ≡ 1 → e.side ≡ other_side o) (taken_of a es)
taken-side o [] a w = tt
taken-side o (e ∷ es) a w = go (is_taken (step_of a e).answer) refl (taken-side o es (step_of a e).auction (ap (λ (t : Terms). t.sell) (terms-stay a e) ∙ w))
  where
    P : Event → Type 0
    P e = e.kind ≡ 1 → e.side ≡ other_side o

    go : (t : Bool) → is_taken (step_of a e).answer ≡ t → Every P (taken_of (step_of a e).auction es) → Every P (keep t e (taken_of (step_of a e).auction es))
    go true z rest = (λ k. priced-side (is_sell o) e (inl k) (ap (λ (s : Bool). (buy_event s e).side) (sym w) ∙ gtx-side a e z k), rest)
    go false z rest = rest

module _ (o : Order) (es : List Event) where
  -- a response with the record that made it
  pub record Comes (r : Response) : Type 0 where
    pub record_of : Event
    pub sends : Sends o es record_of r
    pub named : r.sequence ≡ record_of.sequence

  -- up to a sequence
  abbrev UpTo : ℕ → Response → Type 0
  UpTo n r = Comes r × (r.sequence ≤ n)

  -- a record of those that were taken
  abbrev Known : Event → Type 0
  Known e = In e (taken_records o es) × (e.kind ≡ 1 → e.side ≡ other_side o)

  later : (n k : ℕ) (rs : List Response) → n ≤ k → Every (UpTo n) rs → Every (UpTo k) rs
  later n k rs l h = every_map (UpTo n) (UpTo k) rs (λ r c. (c.0, omega (arith, c.1))) h

  -- a record adds its response
  one_more : (e : Event) (n : ℕ) (rs : List Response) → Known e → n ≤ e.sequence → ((e.kind ≡ 1) × (e.side ≡ other_side o)) ⊎ ((e.kind ≡ 3) × (takes_place o e ≡ true)) → Every (UpTo n) rs → Every (UpTo e.sequence) (rs ++ (sent_by o e ∷ []))
  one_more e n rs i l k h =
      every_append (UpTo e.sequence) rs (sent_by o e ∷ []) (later n e.sequence rs l h) ((record { record_of = e; sends = places e i.0 k; named = refl }, le_refl _), tt)

  -- an amend's response comes from that of an earlier record
  instead : (e : Event) (n : ℕ) → Known e → n < e.sequence → e.kind ≡ 6 → (rs : List Response) → Every (UpTo n) rs → Every (λ r. is_gtx (name_of e) r ≡ true) rs → Every (UpTo e.sequence) (map (sent_instead o e) rs)
  instead e n i l k [] h t = tt
  instead e n i l k (r ∷ rs) h t =
      let c : Comes r = h.0.0 in
      let g : r.gtx ≡ true = and_left r.gtx _ t.0 in
      let q : r.sequence ≡ name_of e = eqb-true r.sequence (name_of e) (and_right r.gtx _ t.0) in (
        (record { record_of = e; sends = amends e c.record_of r i.0 k c.sends g (sym q ∙ c.named) (omega (arith, c.named, h.0.1)); named = refl }, le_refl _),
        instead e n i l k rs h.1 t.1,
      )

  after_one : (e : Event) (n : ℕ) (rs : List Response) → Known e → n < e.sequence → Every (UpTo n) rs → Every (UpTo e.sequence) (stands_after o rs e)
  after_one e n rs i l h =
      by P (eqb e.kind 1) _ _ (λ z. let k : e.kind ≡ 1 = eqb-true _ _ z in one_more e n rs i (le_of_lt l) (inl (k, i.1 k)) h) (λ _.
      by P (eqb e.kind 2) _ _ (λ _. rest) (λ _.
      by P (eqb e.kind 3 && takes_place o e) _ _ (λ z.
      one_more e n rs i (le_of_lt l) (inr (eqb-true _ _ (and_left _ _ z), and_right (eqb e.kind 3) (takes_place o e) z)) h) (λ _.
      by P (is_amend e) _ _ (λ z.
      every_append (UpTo e.sequence) (others o e rs) (map (sent_instead o e) (filter (is_gtx (name_of e)) rs)) rest (instead e n i l (eqb-true _ _ z) (filter (is_gtx (name_of e)) rs) (every-filter (UpTo n) (is_gtx (name_of e)) rs h) (every-with (λ r. is_gtx (name_of e) r ≡ true) (filter (is_gtx (name_of e)) rs) (filter-test (is_gtx (name_of e)) rs)))) (λ _. stay))))
    where
      P : List Response → Type 0
      P = Every (UpTo e.sequence)

      stay : Every (UpTo e.sequence) rs
      stay = later n e.sequence rs (le_of_lt l) h

      rest : Every (UpTo e.sequence) (others o e rs)
      rest = every-filter (UpTo e.sequence) (λ r. not (is_gtx (name_of e) r)) rs stay

  after-all : (ts : List Event) (n : ℕ) (rs : List Response) → Every Known ts → Rising n ts → Every (UpTo n) rs → Every Comes (standing_from o rs ts)
  after-all [] n rs k u h = every_map (UpTo n) Comes rs (λ r c. c.0) h
  after-all (e ∷ ts) n rs k u h = after-all ts e.sequence (stands_after o rs e) k.1 u.1 (after_one e n rs k.0 u.0 h)

  pub come-from : Accepts o → Every Comes (responses (auction_after o es))
  come-from h =
      let a : Auction = (auction_of o) in
      let known : Every Known (taken_records o es) = every-with Known (taken_records o es) (λ e i. (i, every_in (λ e. e.kind ≡ 1 → e.side ≡ other_side o) (taken_records o es) e (taken-side o es a (terms-sell o h)) i)) in
      let all : Every Comes (in_sequence (responses (auction_after o es))) = subst (Every Comes) (sym (by-records o es h)) (after-all (taken_records o es) a.head.sequence [] known (rising es a) tt) in
      every-with Comes (responses (auction_after o es)) (λ r i. every_in Comes (in_sequence (responses (auction_after o es))) r all (in-shuffles r (sequence-shuffles (responses (auction_after o es))) i))

-- the record was taken
pub sender : (o : Order) (es : List Event) {e : Event} {r : Response} → Sends o es e r → In e (taken_records o es)
sender o es (places e i _) = i
sender o es (amends e _ _ i _ _ _ _ _) = i

-- what a response's record gives it
pub given : (o : Order) (es : List Event) {e : Event} {r : Response} → Sends o es e r → (r.sequence ≡ e.sequence) × (r.size ≤ given_size e) × (r.price ≡ given_price e)
given o es (places e _ k) = let n : is_amend e ≡ false = ne_eqb e.kind 6 (not-six k) in (refl, simp n (capped (eqb e.kind 1)), simp n)
  where
    not-six : ((e.kind ≡ 1) × (e.side ≡ other_side o)) ⊎ ((e.kind ≡ 3) × (takes_place o e ≡ true)) → e.kind ≡ 6 → ⊥
    not-six (inl k) z = omega (arith, k.0)
    not-six (inr k) z = omega (arith, k.0)

    capped : (b : Bool) → cond b (min (size_of e) o.size) (size_of e) ≤ size_of e
    capped true = omega arith
    capped false = le_refl _
given o es (amends e _ old _ k _ _ _ _) = let n : is_amend e ≡ true = eq-eqb e.kind 6 k in (refl, simp n (omega arith), simp n)
