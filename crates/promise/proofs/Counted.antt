-- A response is counted once: one that was cancelled or amended never comes back, its name is found no more, and no fill bears it. Assumes nothing.
use mathlib.Core.Path.{◌≡◌, refl, sym, ap, subst, ◌∙◌}
use mathlib.Core.Bool.{Bool, true, false, cond, ◌&&◌}
use mathlib.Core.List.{List, [], ◌∷◌, map}
use mathlib.Core.Logic.{inl, inr, ◌≢◌}
use Prim.Native.Nat.{ℕ, ◌≤◌, ◌<◌}
use native.Mathlib.Omega.{arith}
use Rattle.base.specs.declared.refusal.Refusal.TheVariants.{AuctionEnded, EventOutOfForm, SequenceTaken, AboveInitiating, NoSuchResponse}
use Rattle.base.specs.Lists.{Inserts, In, Every, keep}
use Rattle.base.proofs.Bools.{no, by}
use Rattle.base.proofs.ListLaws.{every-inserts, inserts-every, every_in, every-with, every_map}
use Rattle.board.specs.declared.Response.{Response}
use Rattle.board.specs.rules.Board.{live_of, cleared, find_gtx, response_at, is_live}
use Rattle.board.proofs.BoardLaws.{clearing, find-named, amending, no-named}
use Rattle.tape.specs.declared.order.Order.{Order}
use Rattle.tape.specs.declared.event.Event.{Event}
use Rattle.tape.specs.rules.Form.{event_formed}
use Rattle.tape.specs.rules.Fields.{name_of, new_price_of}
use Rattle.mirror.specs.rules.Mirror.{buy_event}
use Rattle.mirror.proofs.EventLaws.{buy-sequence, buy-kind}
use Rattle.mirror.proofs.MirrorForm.{event-bounds}
use Rattle.trade.specs.rules.Write.{reported_price}
use Rattle.demand.specs.promises.Demands.{Absent, Distinct, Party, got}
use Rattle.auction.specs.declared.Auction.{Auction}
use Rattle.auction.specs.declared.Terms.{Terms}
use Rattle.auction.specs.rules.Accept.{auction_of, Accepts}
use Rattle.events.specs.declared.Answer.TheVariants.{Taken, Refused}
use Rattle.decision.specs.declared.Sight.{Sight}
use Rattle.events.specs.declared.Stepped.{Stepped}
use Rattle.events.specs.rules.Step.{sight_of, board_after, carried, step_of, head_after, ended_by_time, seated_on, close_turn}
use Rattle.run.specs.rules.Run.{run, is_taken, closed, taken_of}
use Rattle.run.proofs.StepLaws.{Outcomes, cases, Leaves}
use Rattle.run.proofs.Resend.{rises, keeps, one}
use Rattle.run.proofs.BoardSteps.{sees, seat-every, clear-every, amend-every}
use Rattle.run.proofs.SoundLaws.{sound-opened, sound-step, sound-run}
use Rattle.promise.specs.rules.Sides.{is_sell, sent, responses, better, initiating_price, taken_records, at_end, written_fills, standing_of, has_named}
use Rattle.promise.specs.promises.Parts.{auction_after, OneRecord, CountedOnce}
use Rattle.promise.specs.rules.Answers.{answer_is, no as no_number, Paper, yes}
use lib.Dec.{ltb, eqb}
use borrow.Author.Tests.{eqb-false, le-ltb, ne_eqb, eq-eqb}
use Rattle.decision.specs.rules.Decide.{is_amend, free_place, old_place}
use Rattle.run.specs.promises.Demands.{Stands, Sound, Names, InTime, is_above, named_place}
use Rattle.run.proofs.Amends.{found-is, live_at, others_apart, amends}
use Rattle.run.proofs.MarketFrom.{buy-form, run-terms, resend}
use Rattle.promise.proofs.Opening.{initiating-is}
use Rattle.promise.proofs.RealLaws.{better-shown, deal, dealt, demand, got-is, board-is}
use Rattle.promise.proofs.Sent.{terms-sell, new-price, every-sent}
use Rattle.promise.proofs.Resent.{refused, ended_by, MarketRecord}
use Rattle.board.specs.declared.Board.{Board}
use Rattle.share.specs.rules.Fills.{Fill}
use Rattle.demand.specs.promises.Demands.Party.{the_contra, the_market, a_response}
use Rattle.demand.proofs.Lists.{tally-none}
use Rattle.auction.specs.rules.Range.{is_open}
use Rattle.events.specs.declared.Turn.{Turn}
use Rattle.fills.specs.rules.Fills.{deal_of}
use Prim.Native.String.{String}
use Rattle.promise.proofs.Standing.{named-is, by-records, Comes, come-from, sender}

-- k is a sequence that was taken before the last; no live response bears it, and none ever will
abbrev Gone : ℕ → Auction → Type 0
Gone k a = (0 < k) × (k < a.head.sequence) × Absent k (live_of a.board)

-- a cancel or an amend that is taken
taken-away : (a : Auction) (e : Event) → Sound a → Names e → is_taken (step_of a e).answer ≡ true → Gone (name_of e) (step_of a e).auction
unfolding head_after
taken-away a e s names =
    cases a.head e v (λ t. is_taken t.answer ≡ true → Gone (name_of e) (seated_on a.board t).auction)
    (record {
      refused = λ _ _ z. no (sym z);
      late = λ _ z. no (sym z);
      does = λ o. record {
        refuses = λ _ _ z. no (sym z);
        nothing = λ _ l _. absurd (not_left names l);
        gtx = λ k _ _ _ _. absurd (not-kind names 1 k (λ z. omega arith) (λ z. omega arith));
        limit = λ _ k _ _ _ _. absurd (not-kind names 3 k (λ z. omega arith) (λ z. omega arith));
        clear = λ _ f _. ((known f).0, omega (arith, (known f).1, o.ordinary.newer), away f);
        amend = λ _ f _ _. (
          (known f).0,
          omega (arith, (known f).1, o.ordinary.newer),
          inserts-every (λ r. r.sequence ≢ name_of e) (amending a.board (old_place v) _ s.board (live f)).adds (λ z. omega (arith, (known f).1, o.ordinary.newer, buy-sequence e sell)) (away f),
        );
        quote = λ _ _ l _. absurd (not_left names l);
        sell = λ k _ _. absurd (not-kind names 4 k (λ z. omega arith) (λ z. omega arith));
      };
    })
  where
    v : Sight
    v = sight_of a.board e

    sell : Bool
    sell = a.head.terms.sell

    not-kind : Names e → (n : ℕ) → (buy_event sell e).kind ≡ n → (n ≡ 2 → ⊥) → (n ≡ 6 → ⊥) → ⊥
    not-kind (inl k) n q p r = p (sym q ∙ buy-kind e sell ∙ k)
    not-kind (inr k) n q p r = r (sym q ∙ buy-kind e sell ∙ k)

    not_left : Names e → Leaves a.head.terms (buy_event sell e) → ⊥
    not_left (inl k) l = eqb-false _ _ l.no-cancel (buy-kind e sell ∙ k)
    not_left (inr k) l = eqb-false _ _ l.no-amend (buy-kind e sell ∙ k)

    -- the place that was found: what stands there is named, and is taken away
    live : old_place v < 64 → is_live a.board (old_place v) ≡ true
    live f = (sees a.board e s.board).found f

    named : old_place v < 64 → (response_at a.board.places (old_place v)).sequence ≡ name_of e
    named f =
        let i : old_place v ≡ find_gtx a.board (name_of e) = found-is a.board e names in
        ap (λ (j : ℕ). (response_at a.board.places j).sequence) i ∙ (find-named false a.board (name_of e) s.board (omega (arith, f, i))).sequence

    takes : (f : old_place v < 64) → Inserts (response_at a.board.places (old_place v)) (live_of (cleared a.board (old_place v))) (live_of a.board)
    takes f = (clearing a.board (old_place v) s.board (live f)).takes

    known : old_place v < 64 → (0 < name_of e) × (name_of e ≤ a.head.sequence)
    known f = let h = (every-inserts (Stands a.head.sequence a.head.terms.initiating) (takes f) s.live).0 in (omega (arith, named f, h.0), omega (arith, named f, h.1))

    away : old_place v < 64 → Absent (name_of e) (live_of (cleared a.board (old_place v)))
    away f = subst (λ (k : ℕ). Absent k (live_of (cleared a.board (old_place v)))) (named f) (others_apart (takes f) s.distinct)

stays-gone : (k : ℕ) (a : Auction) (e : Event) → Sound a → Gone k a → Gone k (step_of a e).auction
stays-gone k a e s (p, l, g) = (p, omega (arith, rises v a e), cases a.head e v (λ t. Absent k (live_of (board_after a.board t.change))) (record { refused = λ _ _. g; late = λ _. g; does = does }))
  where
    v : Sight
    v = sight_of a.board e

    sell : Bool
    sell = a.head.terms.sell

    does : InTime a.head e → Outcomes a.head.terms a.head.quotes v (buy_event sell e) (λ u. Absent k (live_of (board_after a.board (carried a.head e u).change)))
    does o =
        let fresh : (buy_event sell e).sequence ≢ k = λ z. omega (arith, o.ordinary.newer, buy-sequence e sell) in
        record {
          refuses = λ _ _. g;
          nothing = λ _ _. g;
          gtx = λ _ _ f _. seat-every a.board s.board (λ r. r.sequence ≢ k) (free_place v) _ f ((sees a.board e s.board).free f) fresh g;
          limit = λ _ _ _ f _. seat-every a.board s.board (λ r. r.sequence ≢ k) (free_place v) _ f ((sees a.board e s.board).free f) fresh g;
          clear = λ _ _. clear-every a.board s.board (λ r. r.sequence ≢ k) (old_place v) g;
          amend = λ _ f _. amend-every a.board s.board (λ r. r.sequence ≢ k) (old_place v) _ ((sees a.board e s.board).found f) fresh g;
          quote = λ _ _ _. g;
          sell = λ _ _. g;
        }

run-gone : (k : ℕ) (es : List Event) (a : Auction) → Sound a → Gone k a → Gone k (run a es)
run-gone k [] a s g = g
run-gone k (e ∷ es) a s g = run-gone k es (step_of a e).auction (sound-step a e s) (stays-gone k a e s g)

-- all that were cancelled or amended are gone
all-gone : (es : List Event) (a : Auction) → Sound a → Every (λ e. Names e → Gone (name_of e) (run a es)) (taken_of a es)
all-gone [] a s = tt
all-gone (e ∷ es) a s = go (is_taken (step_of a e).answer) refl (all-gone es b (sound-step a e s))
  where
    b : Auction
    b = (step_of a e).auction

    P : Event → Type 0
    P e = Names e → Gone (name_of e) (run b es)

    go : (t : Bool) → is_taken (step_of a e).answer ≡ t → Every P (taken_of b es) → Every P (keep t e (taken_of b es))
    go true z rest = (λ n. run-gone (name_of e) es b (sound-step a e s) (taken-away a e s n z), rest)
    go false z rest = rest

-- a name that no live response bears is not found
not_found : (a : Auction) (k : ℕ) → Sound a → Absent k (live_of a.board) → find_gtx a.board k ≡ 64
not_found a k s g = no-named false a.board k s.board (λ i at. live_at (λ r. r.sequence ≢ k) a.board i s.board at.live g at.sequence)

-- so what names it is not taken
not_taken : (a : Auction) (e : Event) → Sound a → Names e → Absent (name_of e) (live_of a.board) → is_taken (step_of a e).answer ≡ true → ⊥
not_taken a e s names g z = go names
  where
    t : InTime a.head e
    t = (keeps.taken (sight_of a.board e) a e z).0

    none : ltb (named_place a e) 64 ≡ false
    none = le-ltb (named_place a e) 64 (omega (arith, not_found a (name_of e) s g))

    go : Names e → ⊥
    go (inl k) = no (sym z ∙ ap is_taken (amends.cancel-answers (sight_of a.board e) a e k (amends.sees_named a e names) t ∙ ap (λ (b : Bool). cond b Taken (Refused NoSuchResponse)) none))
    go (inr k) =
        no (sym z ∙ ap is_taken (amends.answers (sight_of a.board e) a e k (amends.sees_named a e names) t ∙ ap (λ (b : Bool). cond (is_above a e) (Refused AboveInitiating) (cond b Taken (Refused NoSuchResponse))) none) ∙ untaken (is_above a e))
      where
        untaken : (x : Bool) → is_taken (cond x (Refused AboveInitiating) (Refused NoSuchResponse)) ≡ false
        untaken true = refl
        untaken false = refl

-- what is gone is named by no event that is taken
not-again : (k : ℕ) (es : List Event) (a : Auction) → Sound a → Gone k a → Every (λ g. Names g → name_of g ≢ k) (taken_of a es)
not-again k [] a s g = tt
not-again k (e ∷ es) a s g = go (is_taken (step_of a e).answer) refl (not-again k es (step_of a e).auction (sound-step a e s) (stays-gone k a e s g))
  where
    P : Event → Type 0
    P x = Names x → name_of x ≢ k

    go : (t : Bool) → is_taken (step_of a e).answer ≡ t → Every P (taken_of (step_of a e).auction es) → Every P (keep t e (taken_of (step_of a e).auction es))
    go true z rest = (λ n q. not_taken a e s n (subst (λ (j : ℕ). Absent j (live_of a.board)) (sym q) g.2) z, rest)
    go false z rest = rest

once : (es : List Event) (a : Auction) → Sound a → (e g : Event) → In e (taken_of a es) → In g (taken_of a es) → Names e → Names g → name_of e ≡ name_of g → e ≡ g
once [] a s e g i j n m q = absurd i
once (x ∷ es) a s e g i j n m q = go (is_taken (step_of a x).answer) refl i j (λ i j. once es b (sound-step a x s) e g i j n m q)
  where
    b : Auction
    b = (step_of a x).auction

    later : is_taken (step_of a x).answer ≡ true → Names x → (y : Event) → In y (taken_of b es) → Names y → name_of y ≢ name_of x
    later z k y l = every_in (λ y. Names y → name_of y ≢ name_of x) (taken_of b es) y (not-again (name_of x) es b (sound-step a x s) (taken-away a x s k z)) l

    go : (t : Bool) → is_taken (step_of a x).answer ≡ t → In e (keep t x (taken_of b es)) → In g (keep t x (taken_of b es)) → (In e (taken_of b es) → In g (taken_of b es) → e ≡ g) → e ≡ g
    go false z i j ih = ih i j
    go true z (inl p) (inl r) ih = p ∙ sym r
    go true z (inl p) (inr j) ih = absurd (later z (subst Names p n) g j m (sym q ∙ ap name_of p))
    go true z (inr i) (inl r) ih = absurd (later z (subst Names r m) e i n (q ∙ ap name_of r))
    go true z (inr i) (inr j) ih = ih i j

module _ (o : Order) (es : List Event) (h : Accepts o) where
  -- the auction after the records
  abbrev then : Auction
  then = auction_after o es

  sound : Sound then
  sound = sound-run es (auction_of o) (sound-opened o h)

  gone : (e : Event) → In e (taken_records o es) → Names e → Gone (name_of e) then
  gone e i = every_in (λ e. Names e → Gone (name_of e) then) (taken_records o es) e (all-gone es (auction_of o) (sound-opened o h)) i

  never_back : (e : Event) → In e (taken_records o es) → Names e → Absent (name_of e) (responses then)
  never_back e i n = every-sent (λ r. r.sequence ≢ name_of e) then.head.terms.sell (live_of then.board) (gone e i n).2

  pub one-record : Every (OneRecord o es) (responses then)
  one-record =
      every-with (OneRecord o es) (responses then) (λ r i.
      let c : Comes o es r = every_in (Comes o es) (responses then) r (come-from o es h) i in
      record {
        record_of = c.record_of;
        sends = c.sends;
        only = λ g j q. one (auction_of o) es g c.record_of j (sender o es c.sends) (q ∙ c.named);
        latest = λ g j n q. every_in (λ r. r.sequence ≢ name_of g) (responses then) r (never_back g j n) i (sym q);
      })

  -- the auction's own words for what stands, and for a price that is worse than the initiating price
  stands-is : (k : ℕ) → ltb (find_gtx then.board k) 64 ≡ has_named k (standing_of o (taken_records o es))
  stands-is k = named-is then.head.terms.sell then.board k sound.board sound.distinct ∙ ap (has_named k) (by-records o es h)

  terms-then : then.head.terms ≡ (auction_of o).head.terms
  terms-then = run-terms es (auction_of o)

  above-is : (g : Event) → event_formed g ≡ true → g.kind ≡ 6 → is_above then g ≡ better (is_sell o) (initiating_price o) (new_price_of g)
  above-is g f k =
      let t : Terms = (auction_of o).head.terms in
      let p : ℕ = new_price_of (buy_event (is_sell o) g) in
      ap (λ (t : Terms). ltb t.initiating (new_price_of (buy_event t.sell g))) terms-then
      ∙ ap (λ (s : Bool). ltb t.initiating (new_price_of (buy_event s g))) (terms-sell o h)
      ∙ sym (better-shown (is_sell o) t.initiating p (omega (arith, (sound-opened o h).price)) (omega (arith, (event-bounds (buy_event (is_sell o) g) (buy-form (is_sell o) g f)).bb)))
      ∙ ap (better (is_sell o) (reported_price (is_sell o) t.initiating)) (new-price (is_sell o) g k f)
      ∙ sym (ap (λ (x : ℕ). better (is_sell o) x (new_price_of g)) (initiating-is o h))

  said-by : (x y : Bool) → answer_is (cond x (Refused AboveInitiating) (cond y Taken (Refused NoSuchResponse))) ≡ cond x (no_number 36) (cond y (yes "taken") (no_number 37))
  said-by true y = refl
  said-by false true = refl
  said-by false false = refl

  amend-answers : (e : Event) → e.kind ≡ 6 → InTime then.head e
      → answer_is (step_of then e).answer ≡ cond (better (is_sell o) (initiating_price o) (new_price_of e)) (no_number 36) (cond (has_named (name_of e) (standing_of o (taken_records o es))) (yes "taken") (no_number 37))
  amend-answers e k t =
      ap answer_is (amends.answers (sight_of then.board e) then e k (amends.sees_named then e (inr k)) t) ∙ said-by (is_above then e) (ltb (named_place then e) 64)
      ∙ ap (λ (x : Bool). cond x (no_number 36) (cond (ltb (named_place then e) 64) (yes "taken") (no_number 37))) (above-is e t.ordinary.formed k)
      ∙ ap (λ (y : Bool). cond (better (is_sell o) (initiating_price o) (new_price_of e)) (no_number 36) (cond y (yes "taken") (no_number 37))) (stands-is (name_of e))

  cancel-answers : (e : Event) → e.kind ≡ 2 → InTime then.head e → answer_is (step_of then e).answer ≡ cond (has_named (name_of e) (standing_of o (taken_records o es))) (yes "taken") (no_number 37)
  cancel-answers e k t =
      ap answer_is (amends.cancel-answers (sight_of then.board e) then e k (amends.sees_named then e (inl k)) t) ∙ said-by false (ltb (named_place then e) 64) ∙ ap (λ (y : Bool). cond y (yes "taken") (no_number 37)) (stands-is (name_of e))

  named-no-more : (e g : Event) → In e (taken_records o es) → Names e → Names g → name_of g ≡ name_of e → InTime then.head g
      → answer_is (step_of then g).answer ≡ no_number (cond (is_amend g && better (is_sell o) (initiating_price o) (new_price_of g)) 36 37)
  named-no-more e g i n m q t = go m
    where
      none : has_named (name_of g) (standing_of o (taken_records o es)) ≡ false
      none = sym (stands-is (name_of g)) ∙ le-ltb (find_gtx then.board (name_of g)) 64 (omega (arith, not_found then (name_of g) sound (subst (λ (k : ℕ). Absent k (live_of then.board)) (sym q) (gone e i n).2)))

      number_by : (x : Bool) → cond {A = Paper String} x (no_number 36) (no_number 37) ≡ no_number (cond x 36 37)
      number_by true = refl
      number_by false = refl

      go : Names g → answer_is (step_of then g).answer ≡ no_number (cond (is_amend g && better (is_sell o) (initiating_price o) (new_price_of g)) 36 37)
      go (inl k) =
          cancel-answers g k t ∙ ap (λ (y : Bool). cond y (yes "taken") (no_number 37)) none
          ∙ ap (λ (b : Bool). no_number (cond (b && better (is_sell o) (initiating_price o) (new_price_of g)) 36 37)) (sym (ne_eqb g.kind 6 (λ z. omega arith)))
      go (inr k) =
          amend-answers g k t ∙ ap (λ (y : Bool). cond (better (is_sell o) (initiating_price o) (new_price_of g)) (no_number 36) (cond y (yes "taken") (no_number 37))) none ∙ number_by (better (is_sell o) (initiating_price o) (new_price_of g))
          ∙ ap (λ (b : Bool). no_number (cond (b && better (is_sell o) (initiating_price o) (new_price_of g)) 36 37)) (sym (eq-eqb g.kind 6 k))

-- sent, they bear the sequences that they have
pub distinct-sent : (sell : Bool) (rs : List Response) → Distinct rs → Distinct (map (sent sell) rs)
distinct-sent sell [] d = tt
distinct-sent sell (r ∷ rs) d = (every-sent (λ x. x.sequence ≢ r.sequence) sell rs d.0, distinct-sent sell rs d.1)

apart : (o : Order) (es : List Event) → Accepts o → Distinct (responses (auction_after o es))
apart o es h = distinct-sent (auction_after o es).head.terms.sell (live_of (auction_after o es).board) (resend.apart o es h)

old-number : (still formed : Bool) → answer_is (Refused (cond still (cond formed SequenceTaken EventOutOfForm) AuctionEnded)) ≡ no_number (cond still (cond formed 33 32) 31)
old-number true true = refl
old-number true false = refl
old-number false formed = refl

pub counted : (o : Order) → CountedOnce o
counted o =
    record {
      refused = λ before e g i h. (
        ap (λ (p : Stepped). answer_is p.answer) (refused (auction_of o) before e g i h) ∙ old-number (is_open (run (auction_of o) before).head.ending) (event_formed g),
        ap (λ (p : Stepped). p.auction) (refused (auction_of o) before e g i h),
      );
      by-records = λ es h. by-records o es h;
      one-record = λ es h. one-record o es h;
      apart = λ es h. apart o es h;
      named-once = λ es e g h i j n m q. once es (auction_of o) (sound-opened o h) e g i j n m q;
      never_back = λ es e h. never_back o es h e;
      amend-answers = λ es e h. amend-answers o es h e;
      cancel-answers = λ es e h. cancel-answers o es h e;
      named-no-more = λ es e g h. named-no-more o es h e g;
    }

-- ---- no fill bears a name that is gone

closed-sequence : (a : Auction) → (closed a).head.sequence ≡ a.head.sequence
unfolding close_turn ended_by_time
closed-sequence a = by (λ (t : Turn). t.head.sequence ≡ a.head.sequence) (is_open a.head.ending) _ _ (λ _. refl) (λ _. refl)

pub gone-none : (o : Order) (es : List Event) → Accepts o → (e : Event) → In e (taken_records o es) → Names e → got (name_of e) (written_fills o es) ≡ 0
unfolding deal_of
gone-none o es h e i n = got-is o es h (name_of e) ∙ tally-none (λ f. eqb f.party (name_of e)) (dealt o es h) (every_map (λ f. Party (deal o es h) (at_end o es).board f.party) (λ f. eqb f.party (name_of e) ≡ false) (dealt o es h) (λ f p. ne_eqb _ _ (nobody f p)) (demand o es h).nobody-else)
  where
    away : Gone (name_of e) (auction_after o es)
    away = gone o es h e i n

    still : Absent (name_of e) (live_of (at_end o es).board)
    still = subst (λ (b : Board). Absent (name_of e) (live_of b)) (sym (board-is o es h)) away.2

    nobody : (f : Fill) → Party (deal o es h) (at_end o es).board f.party → f.party ≡ name_of e → ⊥
    nobody f (the_contra z) q = omega (arith, away.0, z, q)
    nobody f (the_market z m) q =
        let k : MarketRecord o es = ended_by o es h m in
        omega (arith, away.1, closed-sequence (auction_after o es), k.ends.latest, k.ends.sequence, z, q)
    nobody f (a_response r j z) q = every_in (λ r. r.sequence ≢ name_of e) (live_of (at_end o es).board) r still j (z ∙ q)
