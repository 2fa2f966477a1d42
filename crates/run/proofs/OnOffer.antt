-- The contracts on offer: the sum of the sizes over the live places, moved by what an event brings and takes away. Assumes nothing.
use mathlib.Core.Path.{◌≡◌, refl, sym, ap, ap₂, ◌∙◌}
use mathlib.Core.Bool.{Bool, true, false, cond, not, ◌&&◌}
use mathlib.Core.Logic.{◌⊎◌, inl, inr}
use Prim.Native.Nat.{ℕ, ◌+◌, ◌-◌, ◌≤◌, ◌<◌, min}
use native.Mathlib.Omega.{arith}
use lib.Dec.{leb, eqb}
use borrow.Author.Tests.{eq-eqb, ne_eqb, le-leb}
use Rattle.base.proofs.Bools.{by, no}
use Rattle.tape.specs.declared.event.Event.{Event}
use Rattle.tape.specs.rules.Fields.{size_of, price_of, new_size_of}
use Rattle.mirror.specs.rules.Mirror.{buy_event}
use Rattle.mirror.proofs.EventLaws.{buy-kind, mirror-one, mirror-three, priced-size, amend-size}
use Rattle.auction.specs.declared.Auction.{Auction}
use Rattle.auction.specs.rules.Accept.{auction_of}
use Rattle.auction.specs.rules.Range.{is_open, word}
use Rattle.auction.specs.rules.Offer.{on_offer, moved_offer}
use Rattle.decision.specs.declared.Sight.{Sight}
use Rattle.decision.specs.rules.Decide.{old_place, old_response}
use Rattle.decision.specs.declared.Change.{Change}
use Rattle.decision.specs.declared.Change.TheVariants.{Nothing, Seat, Free, Quote, Sell}
use Rattle.events.specs.declared.Answer.TheVariants.{Taken, Ended}
use Rattle.events.specs.declared.Turn.{Turn}
use Rattle.events.specs.rules.Step.{carried, offered_after, head_after, ended_by_time, close_turn, step_by, close_of}
use Rattle.run.specs.rules.Run.{run, is_taken}
use Rattle.run.specs.promises.Demands.{InTime, Fits, Sound, brings, takes_away, OnOffer}
use Rattle.run.proofs.StepLaws.{Leaves, Outcomes, cases}
use Rattle.run.proofs.Resend.{any-change}
use Rattle.run.proofs.MarketFrom.{ended-run}
use Rattle.run.proofs.SoundLaws.{sound-opened, sound-run, sound-close, sum_fits, old-size, size-of, new-size-of}

-- ---- what leaves it

-- an event that did something was taken, or ended the auction
was-taken : {X : Type 0} (b : Bool) → is_taken (cond b Taken Ended) ≡ false → X
was-taken true z = no z
was-taken false z = no z

leaves : (s : Sight) (a : Auction) (e : Event) → is_taken (step_by s a e).answer ≡ false → on_offer (step_by s a e).auction ≡ on_offer a
unfolding ended_by_time
leaves s a e =
    cases a.head e s (λ t. is_taken t.answer ≡ false → t.head.offered ≡ on_offer a)
    (record {
      refused = λ _ _ _. refl;
      late = λ _ _. refl;
      does = λ _. any-change a.head.terms a.head.quotes s (buy_event a.head.terms.sell e) (λ o. is_taken (carried a.head e o).answer ≡ false → (carried a.head e o).head.offered ≡ on_offer a) (λ _ _ _. refl) (λ _ g z. was-taken (is_open g) z);
    })

closing : (a : Auction) → on_offer (close_of a).auction ≡ on_offer a
unfolding close_turn ended_by_time
closing a = by (λ (t : Turn). t.head.offered ≡ on_offer a) (is_open a.head.ending) _ _ (λ _. refl) (λ _. refl)

market-or-quotes : (s : Sight) (a : Auction) (e : Event) → (e.kind ≡ 4) ⊎ (e.kind ≡ 5) → on_offer (step_by s a e).auction ≡ on_offer a
unfolding ended_by_time head_after
market-or-quotes s a e k =
    cases a.head e s (λ t. t.head.offered ≡ on_offer a)
    (record {
      refused = λ _ _. refl;
      late = λ _. refl;
      does = λ _. record {
        refuses = λ _ _. refl;
        nothing = λ _ _. refl;
        gtx = λ z _ _ _. other k z (omega arith) (omega arith);
        limit = λ _ z _ _ _. other k z (omega arith) (omega arith);
        clear = λ z _. other k z (omega arith) (omega arith);
        amend = λ z _ _. other k z (omega arith) (omega arith);
        quote = λ _ _ _. refl;
        sell = λ _ _. refl;
      };
    })
  where
    other : {X : Type 0} {n : ℕ} → (e.kind ≡ 4) ⊎ (e.kind ≡ 5) → (buy_event a.head.terms.sell e).kind ≡ n → (n ≡ 4 → ⊥) → (n ≡ 5 → ⊥) → X
    other (inl q) z p r = absurd (p (sym z ∙ buy-kind e a.head.terms.sell ∙ q))
    other (inr q) z p r = absurd (r (sym z ∙ buy-kind e a.head.terms.sell ∙ q))

-- ---- what moves it

module _ (s : Sight) (a : Auction) (e : Event) where
  abbrev sell : Bool
  sell = a.head.terms.sell

  abbrev m : Event
  m = buy_event sell e

  -- what a kind brings and takes away
  module _ {n : ℕ} (k : m.kind ≡ n) where
    is-kind : e.kind ≡ n
    is-kind = sym (buy-kind e sell) ∙ k

    is : eqb e.kind n ≡ true
    is = eq-eqb _ _ is-kind

    not_is : (j : ℕ) → (n ≡ j → ⊥) → eqb e.kind j ≡ false
    not_is j z = ne_eqb _ _ (λ q. z (sym is-kind ∙ q))

  -- an event that leaves the board brings nothing, and takes nothing away
  left : Leaves a.head.terms m → (takes_away s e ≡ 0) × (brings a.head.terms e ≡ 0)
  left l =
      let one : eqb e.kind 1 ≡ false = ap (λ (k : ℕ). eqb k 1) (sym (buy-kind e sell)) ∙ l.no-gtx in
      let two : eqb e.kind 2 ≡ false = ap (λ (k : ℕ). eqb k 2) (sym (buy-kind e sell)) ∙ l.no-cancel in
      let six : eqb e.kind 6 ≡ false = ap (λ (k : ℕ). eqb k 6) (sym (buy-kind e sell)) ∙ l.no-amend in
      (simp (two, six), simp (one, placed (eqb e.kind 3) refl, six))
    where
      placed : (b : Bool) → eqb e.kind 3 ≡ b → (b && (not (eqb m.side 1) && leb (price_of m) a.head.terms.initiating)) ≡ false
      placed true z = l.no_place (ap (λ (k : ℕ). eqb k 3) (buy-kind e sell) ∙ z)
      placed false z = refl

  -- of what a turn that is taken makes n: what any auction has, and what a sound one has
  record Moved (n : ℕ) : Type 0 where
    any : on_offer a ≤ 4294967295 → n ≡ word (on_offer a - takes_away s e + brings a.head.terms e)
    away-fits : Fits a.board s → Sound a → takes_away s e ≤ on_offer a
    brings-size : brings a.head.terms e ≤ 100000

  none : (n : ℕ) → n ≡ on_offer a → (takes_away s e ≡ 0) × (brings a.head.terms e ≡ 0) → Moved n
  none n z h = record { any = λ l. omega (arith, l, z, h.0, h.1); away-fits = λ _ _. omega (arith, h.0); brings-size = omega (arith, h.1) }

  -- a response is placed
  placed : (size : ℕ) → takes_away s e ≡ 0 → brings a.head.terms e ≡ size → size ≤ 100000 → Moved (moved_offer (on_offer a) 0 size)
  placed size away brought fits = record { any = λ _. ap₂ (λ (x y : ℕ). word (on_offer a - x + y)) (sym away) (sym brought); away-fits = λ _ _. omega (arith, away); brings-size = omega (arith, brought, fits) }

  -- what was found is gone, and a size may come
  gone : (size : ℕ) → old_place s < 64 → takes_away s e ≡ (old_response s).size → brings a.head.terms e ≡ size → size ≤ 100000 → Moved (moved_offer (on_offer a) (old_response s).size size)
  gone size f away brought fits =
      record {
        any = λ _. ap₂ (λ (x y : ℕ). word (on_offer a - x + y)) (sym away) (sym brought);
        away-fits = λ g w. omega (arith, away, w.offered, old-size s a g w f);
        brings-size = omega (arith, brought, fits);
      }

  does : InTime a.head e → Outcomes a.head.terms a.head.quotes s m (λ o. is_taken (carried a.head e o).answer ≡ true → Moved (carried a.head e o).head.offered)
  unfolding head_after
  does o =
      record {
        refuses = λ _ _ z. no (sym z);
        nothing = λ _ l _. none _ refl (left l);
        gtx = λ k _ _ _ _.
            let k1 : e.kind ≡ 1 = is-kind k in
            let same : size_of m ≡ size_of e = priced-size e sell (mirror-one e k1) in
            placed (min (size_of m) a.head.terms.size) (simp (not_is k 2 (omega arith), not_is k 6 (omega arith))) (simp (is k, same)) (omega (arith, same, (size-of e (inl k1) o.ordinary.formed).1));
        limit = λ _ k d _ p _.
            let k3 : e.kind ≡ 3 = is-kind k in
            let same : size_of m ≡ size_of e = priced-size e sell (mirror-three e k3) in
            placed (size_of m) (simp (not_is k 2 (omega arith), not_is k 6 (omega arith))) (simp (not_is k 1 (omega arith), is k, d, le-leb _ _ p, same)) (omega (arith, same, (size-of e (inr (inl k3)) o.ordinary.formed).1));
        clear = λ k f _. gone 0 f (simp (is k)) (simp (not_is k 1 (omega arith), not_is k 3 (omega arith), not_is k 6 (omega arith))) (omega arith);
        amend = λ k f _ _.
            let k6 : e.kind ≡ 6 = is-kind k in
            let same : new_size_of m ≡ new_size_of e = amend-size e sell k6 in
            gone (min (new_size_of m) a.head.terms.size) f (simp (not_is k 2 (omega arith), is k)) (simp (not_is k 1 (omega arith), not_is k 3 (omega arith), is k, same)) (omega (arith, same, (new-size-of e k6 o.ordinary.formed).1));
        quote = λ _ _ l _. none _ refl (left l);
        sell = λ k _ _. none _ refl (simp (not_is k 2 (omega arith), not_is k 6 (omega arith)), simp (not_is k 1 (omega arith), not_is k 3 (omega arith), not_is k 6 (omega arith)));
      }

  moved : is_taken (step_by s a e).answer ≡ true → Moved (on_offer (step_by s a e).auction)
  moved = cases a.head e s (λ t. is_taken t.answer ≡ true → Moved t.head.offered) (record { refused = λ _ _ z. no (sym z); late = λ _ z. no (sym z); does = does })

  moves : Fits a.board s → Sound a → is_taken (step_by s a e).answer ≡ true → on_offer (step_by s a e).auction + takes_away s e ≡ on_offer a + brings a.head.terms e
  moves fits w z =
      let h = moved z in
      let small : on_offer a ≤ 6400000 = omega (arith, w.offered, sum_fits a w) in
      omega (arith, h.any (omega (arith, small)), h.away-fits fits w, h.brings-size, small)

-- never above the largest word
change-word : (n : ℕ) (c : Change) → n ≤ 4294967295 → offered_after n c ≤ 4294967295
change-word n Nothing h = h
change-word n (Seat i r gone) h = omega arith
change-word n (Free i gone) h = omega arith
change-word n (Quote q) h = h
change-word n (Sell m) h = h

word-stays : (s : Sight) (a : Auction) (e : Event) → on_offer a ≤ 4294967295 → on_offer (step_by s a e).auction ≤ 4294967295
unfolding ended_by_time head_after
word-stays s a e h =
    cases a.head e s (λ t. t.head.offered ≤ 4294967295)
    (record {
      refused = λ _ _. h;
      late = λ _. h;
      does = λ _. any-change a.head.terms a.head.quotes s (buy_event a.head.terms.sell e) (λ o. (carried a.head e o).head.offered ≤ 4294967295) (λ _ _. h) (λ c _. change-word (on_offer a) c h);
    })

pub on-offer : OnOffer
on-offer =
    record {
      sums = λ o es h. (sound-run es (auction_of o) (sound-opened o h)).offered;
      sums-end = λ o es h. (sound-close (run (auction_of o) es) (sound-run es (auction_of o) (sound-opened o h))).offered;
      fits = λ o es h. let s = sound-run es (auction_of o) (sound-opened o h) in omega (arith, s.offered, sum_fits (run (auction_of o) es) s);
      kept = λ h b c. refl;
      moves = λ s a e f w z. moves s a e f w z;
      moves-any = λ s a e h z. (moved s a e z).any h;
      word-stays = word-stays;
      leaves = leaves;
      closing = closing;
      market-or-quotes = market-or-quotes;
      stands = λ a es z. (ap on_offer (ended-run es a z), closing (run a es) ∙ ap on_offer (ended-run es a z));
    }
