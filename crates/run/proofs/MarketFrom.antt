-- A market order that ended the auction comes from one event taken. Assumes nothing.
use mathlib.Core.Path.{◌≡◌, refl, sym, ap, subst, ◌∙◌}
use mathlib.Core.Bool.{Bool, true, false}
use mathlib.Core.List.{List, [], ◌∷◌}
use mathlib.Core.Logic.{◌⊎◌, inl, inr}
use Prim.Native.Nat.{ℕ, ◌≤◌, ◌<◌}
use lib.Dec.{eqb}
use native.Mathlib.Omega.{arith}
use borrow.Author.Tests.{eq-eqb, eqb-true, eqb-false}
use Rattle.base.specs.Lists.{In, keep}
use Rattle.base.proofs.Bools.{no}
use Rattle.tape.specs.declared.order.Order.{Order}
use Rattle.tape.specs.declared.event.Event.{Event}
use Rattle.mirror.specs.rules.Mirror.{mirrored_market, buy_order, buy_event}
use Rattle.auction.specs.rules.Accept.{opened_by, auction_of, Accepts}
use Rattle.auction.specs.rules.Range.{is_open}
use Rattle.tape.specs.rules.Form.{within, sides, event_formed, shape_of, shape_tests}
use Rattle.tape.specs.rules.Fields.{size_of}
use Rattle.tape.proofs.FormLaws.{each, within-ge, within-le}
use Rattle.events.specs.rules.Step.{sight_of, board_after, head_after, ended_by_time, seated_on, step_of}
use Rattle.run.specs.rules.Run.{run, is_taken, taken_of}
use Rattle.run.specs.promises.Demands.{MarketFrom, Resend}
use Rattle.auction.specs.declared.Auction.{Auction}
use Rattle.auction.specs.declared.Terms.{Terms}
use Rattle.auction.specs.declared.Market.{Market}
use Rattle.auction.specs.declared.Ending.TheVariants.{Opposite}
use Rattle.events.specs.declared.Stepped.{Stepped}
use Rattle.run.proofs.StepLaws.{Leaves, cases}
use Rattle.mirror.proofs.EventLaws.{buy-sequence, buy-kind, mirror-four}
use Rattle.mirror.proofs.MirrorForm.{event-form}
use Rattle.run.proofs.Resend.{any-change, taken-any, keeps, older, again, rising, one}
use Rattle.run.proofs.SoundLaws.{sound-opened, sound-run}

-- an event in form that has a side is of side 1 or 2
pub side-in : (e : Event) → (shape_of e.kind).side ≡ sides → event_formed e ≡ true → (1 ≤ e.side) × (e.side ≤ 2)
unfolding event_formed shape_tests
side-in e s f = let h : within e.side 1 2 ≡ true = rw s at (each (shape_tests (shape_of e.kind) e) true f 3) in (within-ge e.side 1 2 h, within-le e.side 1 2 h)

side-two : (e : Event) → (shape_of e.kind).side ≡ sides → event_formed e ≡ true → eqb e.side 1 ≡ false → e.side ≡ 2
side-two e s f n =
    let h = side-in e s f in
    let k : e.side ≡ 1 → ⊥ = eqb-false e.side 1 n in
    omega (arith, h.0, h.1, k)

-- the kinds that have sides
pub sided : (k : ℕ) → (k ≡ 1) ⊎ ((k ≡ 3) ⊎ (k ≡ 4)) → (shape_of k).side ≡ sides
unfolding shape_of
sided k (inl z) = ap (λ (n : ℕ). (shape_of n).side) z
sided k (inr (inl z)) = ap (λ (n : ℕ). (shape_of n).side) z
sided k (inr (inr z)) = ap (λ (n : ℕ). (shape_of n).side) z

-- what the engine works with is in form
pub buy-form : (s : Bool) (e : Event) → event_formed e ≡ true → event_formed (buy_event s e) ≡ true
unfolding buy_event
buy-form true e f = event-form e f
buy-form false e f = f

pub other-side : (s : Bool) (e : Event) → ((buy_event s e).kind ≡ 1) ⊎ (((buy_event s e).kind ≡ 3) ⊎ ((buy_event s e).kind ≡ 4)) → event_formed e ≡ true → eqb (buy_event s e).side 1 ≡ false → (buy_event s e).side ≡ 2
other-side s e k f n = side-two (buy_event s e) (sided (buy_event s e).kind k) (buy-form s e f) n

-- the terms never change
pub terms-stay : (a : Auction) (e : Event) → (step_of a e).auction.head.terms ≡ a.head.terms
unfolding head_after ended_by_time
terms-stay a e = cases a.head e (sight_of a.board e) (λ t. t.head.terms ≡ a.head.terms) (record { refused = λ _ _. refl; late = λ _. refl; does = λ _. any-change _ _ _ _ _ (λ _ _. refl) (λ _ _. refl) })

pub run-terms : (es : List Event) (a : Auction) → (run a es).head.terms ≡ a.head.terms
run-terms [] a = refl
run-terms (e ∷ es) a = run-terms es (step_of a e).auction ∙ terms-stay a e

-- a step that takes no event leaves the board
pub untaken : (a : Auction) (e : Event) → is_taken (step_of a e).answer ≡ false → (step_of a e).auction.board ≡ a.board
untaken a e =
    cases a.head e (sight_of a.board e) (λ t. is_taken t.answer ≡ false → board_after a.board t.change ≡ a.board)
    (record { refused = λ _ _ _. refl; late = λ _ _. refl; does = λ _. any-change _ _ _ _ _ (λ _ _ _. refl) (λ c g z. no (sym (taken-any (is_open g)) ∙ z)) })

-- what is taken later is taken
in-later : (t : Bool) (e f : Event) (es : List Event) → In f es → In f (keep t e es)
in-later true e f es i = inr i
in-later false e f es i = i

in-first : (t : Bool) (e : Event) (es : List Event) → t ≡ true → In e (keep t e es)
in-first t e es z = subst (λ (t : Bool). In e (keep t e es)) (sym z) (inl refl)

-- ---- the market order

-- the event e ended an auction as a market order, and b is the auction then
pub record Sold (sell : Bool) (e : Event) (b : Auction) : Type 0 where
  pub kind : e.kind ≡ 4
  pub side : (buy_event sell e).side ≡ 2
  pub sequence : b.head.market.sequence ≡ e.sequence
  pub size : b.head.market.size ≡ size_of e
  pub ending : b.head.ending ≡ Opposite
  pub latest : b.head.sequence ≡ e.sequence

market-size : (s : Bool) (e : Event) → e.kind ≡ 4 → size_of (buy_event s e) ≡ size_of e
unfolding buy_event mirrored_market
market-size true e k = ap (λ (x : Event). size_of x) (mirror-four e k)
market-size false e k = refl

-- the event is a market order of the other side
abbrev pub Sells : Bool → Event → Type 0
Sells sell e = (e.kind ≡ 4) × ((buy_event sell e).side ≡ 2)

-- the market order stays as it was, and the event is none that was taken; or the event is it
pub data MarketStep (a : Auction) (e : Event) (p : Stepped) : Type 0 where
  stays : p.auction.head.market ≡ a.head.market → (is_taken p.answer ≡ true → Sells a.head.terms.sell e → ⊥) → MarketStep a e p
  sold : is_taken p.answer ≡ true → Sold a.head.terms.sell e p.auction → MarketStep a e p

pub market-step : (a : Auction) (e : Event) → MarketStep a e (step_of a e)
unfolding head_after ended_by_time
market-step a e =
    cases a.head e (sight_of a.board e) (λ t. MarketStep a e (seated_on a.board t))
    (record {
      refused = λ _ _. stays refl (λ z _. no (sym z));
      late = λ _. stays refl (λ z _. no (sym z));
      does = λ o. record {
        refuses = λ _ _. stays refl (λ z _. no (sym z));
        nothing = λ _ l. stays refl (λ _ z. leaves l z);
        gtx = λ k _ _ _. stays refl (λ _ z. omega (arith, z.0, buy-kind e sell));
        limit = λ _ k _ _ _. stays refl (λ _ z. omega (arith, z.0, buy-kind e sell));
        clear = λ k _. stays refl (λ _ z. omega (arith, z.0, buy-kind e sell));
        amend = λ k _ _. stays refl (λ _ z. omega (arith, z.0, buy-kind e sell));
        quote = λ _ _ l. stays refl (λ _ z. leaves l z);
        sell = λ k d.
            let k4 : e.kind ≡ 4 = sym (buy-kind e sell) ∙ k in
            sold refl (record { kind = k4; side = other-side sell e (inr (inr k)) o.ordinary.formed d; sequence = buy-sequence e sell; size = market-size sell e k4; ending = refl; latest = refl });
      };
    })
  where
    sell : Bool
    sell = a.head.terms.sell

    leaves : Leaves a.head.terms (buy_event sell e) → Sells sell e → ⊥
    leaves l z =
        let one : (buy_event sell e).side ≡ 1 = eqb-true (buy_event sell e).side 1 (l.no-sell (eq-eqb (buy_event sell e).kind 4 (buy-kind e sell ∙ z.0))) in
        omega (arith, one, z.1)

-- an auction that has ended stays
pub ended-run : (es : List Event) (a : Auction) → is_open a.head.ending ≡ false → run a es ≡ a
ended-run [] a z = refl
ended-run (e ∷ es) a z =
    let s : (step_of a e).auction ≡ a = ap (λ (p : Stepped). p.auction) (keeps.ended (sight_of a.board e) a e z) in
    ap (λ (b : Auction). run b es) s ∙ ended-run es a z

market-run : (es : List Event) (a : Auction) → a.head.market.size ≡ 0 → 0 < (run a es).head.market.size → MarketFrom a es (run a es)
market-run [] a z h = absurd (omega arith)
market-run (e ∷ es) a z h = go (market-step a e) (market-run es (step_of a e).auction)
  where
    b : Auction
    b = (step_of a e).auction

    go : MarketStep a e (step_of a e) → (b.head.market.size ≡ 0 → 0 < (run b es).head.market.size → MarketFrom b es (run b es)) → MarketFrom a (e ∷ es) (run b es)
    go (stays s _) ih =
        let m : MarketFrom b es (run b es) = ih (ap (λ (x : Market). x.size) s ∙ z) h in
        record {
          event = m.event;
          taken = in-later (is_taken (step_of a e).answer) e m.event (taken_of b es) m.taken;
          kind = m.kind;
          side = subst (λ (t : Terms). (buy_event t.sell m.event).side ≡ 2) (terms-stay a e) m.side;
          sequence = m.sequence;
          size = m.size;
          ending = m.ending;
          latest = m.latest;
        }
    go (sold t s) ih =
        let stay : run b es ≡ b = ended-run es b (ap is_open s.ending) in
        subst (MarketFrom a (e ∷ es)) (sym stay)
        (record {
          event = e;
          taken = in-first (is_taken (step_of a e).answer) e (taken_of b es) t;
          kind = s.kind;
          side = s.side;
          sequence = s.sequence;
          size = s.size;
          ending = s.ending;
          latest = s.latest;
        })

-- a market order of the other side that was taken ended the auction
pub market-taken : (es : List Event) (a : Auction) (e : Event) → In e (taken_of a es) → Sells a.head.terms.sell e → Sold a.head.terms.sell e (run a es)
market-taken [] a e i z = absurd i
market-taken (x ∷ es) a e i z = go (is_taken (step_of a x).answer) refl i (λ j. subst (λ (t : Terms). Sold t.sell e (run b es)) (terms-stay a x) (market-taken es b e j (subst (λ (t : Terms). Sells t.sell e) (sym (terms-stay a x)) z)))
  where
    b : Auction
    b = (step_of a x).auction

    sell : Bool
    sell = a.head.terms.sell

    ends : is_taken (step_of a x).answer ≡ true → Sells sell x → MarketStep a x (step_of a x) → Sold sell x (run b es)
    ends t y (stays _ n) = absurd (n t y)
    ends t y (sold _ s) = subst (Sold sell x) (sym (ended-run es b (ap is_open s.ending))) s

    go : (t : Bool) → is_taken (step_of a x).answer ≡ t → In e (keep t x (taken_of b es)) → (In e (taken_of b es) → Sold sell e (run b es)) → Sold sell e (run b es)
    go true t (inl q) ih = subst (λ (y : Event). Sold sell y (run b es)) (sym q) (ends t (subst (Sells sell) q z) (market-step a x))
    go true t (inr j) ih = ih j
    go false t j ih = ih j

none-opened : (s : Bool) (b : Order) → (opened_by s b).head.market.size ≡ 0
unfolding opened_by
none-opened s b = refl

pub market-from : (o : Order) (es : List Event) → Accepts o → 0 < (run (auction_of o) es).head.market.size → MarketFrom (auction_of o) es (run (auction_of o) es)
market-from o es h = market-run es (auction_of o) (none-opened (eqb o.side 2) (buy_order o))

pub resend : Resend
resend = record { older = older; again = again; apart = λ o es h. (sound-run es (auction_of o) (sound-opened o h)).distinct; rising = λ a es. rising es a; market-from = market-from; one = one }
