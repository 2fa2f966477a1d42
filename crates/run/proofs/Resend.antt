-- A refusal changes nothing; an event that was taken, met again, is refused. Assumes nothing.
use mathlib.Core.Path.{◌≡◌, refl, sym, ap, subst, ◌∙◌}
use mathlib.Core.Bool.{Bool, true, false, cond}
use mathlib.Core.List.{List, [], ◌∷◌}
use mathlib.Core.Logic.{inl, inr}
use Rattle.std.specs.Prelude.{Err}
use Prim.Native.Nat.{ℕ, ◌≤◌, ◌<◌}
use native.Mathlib.Nat.{le_refl, le_trans, le_of_lt}
use native.Mathlib.Omega.{arith}
use borrow.Author.Tests.{le-leb, lt-leb, le-ltb, lt-ltb}
use Rattle.std.specs.Prelude.{Result, Err, IfErr}
use Rattle.base.specs.Refusal.{number_of}
use Rattle.base.specs.declared.refusal.Refusal.{Refusal}
use Rattle.base.specs.Lists.{In, Every, keep}
use Rattle.base.specs.declared.refusal.Refusal.TheVariants.{AuctionEnded, EventOutOfForm, SequenceTaken, BeforeClock}
use Rattle.tape.specs.declared.event.Event.{Event}
use Rattle.tape.specs.declared.order.Order.{Order}
use Rattle.tape.specs.rules.Form.{event_formed}
use Rattle.base.proofs.Bools.{by, no}
use Rattle.base.proofs.ListLaws.{every_in, every_map}
use Rattle.auction.specs.rules.Accept.{accept_of}
use Rattle.auction.proofs.Accepted.{OrderNumber, order-numbered, refusal_is}
use Rattle.auction.specs.rules.Range.{is_open}
use Rattle.events.specs.rules.Step.{sight_of, event_refusal, head_after, ended_by_time, turn_of, close_turn, gives, seated_on, step_by, step_of, close_of}
use Rattle.run.specs.rules.Run.{run, is_taken, taken_of}
use Rattle.run.specs.promises.Demands.{Ordinary, InTime, timed, Rising, RefusedAgain, Keeps}
use Rattle.auction.specs.declared.Auction.{Auction}
use Rattle.auction.specs.declared.Terms.{Terms}
use Rattle.auction.specs.declared.Quotes.{Quotes}
use Rattle.auction.specs.declared.Ending.{Ending}
use Rattle.events.specs.declared.Answer.TheVariants.{Taken, Ended, Late, Refused}
use Rattle.events.specs.declared.Stepped.{Stepped}
use Rattle.decision.specs.declared.Sight.{Sight}
use Rattle.events.specs.declared.Turn.{Turn}
use Rattle.decision.specs.declared.Change.{Change}
use Rattle.decision.specs.declared.Change.TheVariants.{Nothing, Seat, Free, Quote, Sell}
use Rattle.decision.specs.rules.Decide.{Outcome, does}
use Rattle.run.proofs.StepLaws.{OfKind, Outcomes, Cases, cases}

-- where only refusing or not matters: any change, any ending
pub any-change : (t : Terms) (q : Quotes) (s : Sight) (m : Event) (P : Outcome → Type 0) → ((r : Refusal) → OfKind r → P (Err r)) → ((c : Change) (g : Ending) → P (does c g)) → Outcomes t q s m P
any-change t q s m P r d =
    record {
      refuses = r;
      nothing = λ g _. d Nothing g;
      gtx = λ _ _ _ _. d (Seat _ _ _) _;
      limit = λ g _ _ _ _. d (Seat _ _ _) g;
      clear = λ _ _. d (Free _ _) _;
      amend = λ _ _ _. d (Seat _ _ _) _;
      quote = λ n _ _. d (Quote n) _;
      sell = λ _ _. d (Sell _) _;
    }

-- an event that was taken or ended the auction was not refused, and not late
not-refused : {X : Type 0} (b : Bool) (r : Refusal) → cond b Taken Ended ≡ Refused r → X
not-refused true r z = no cc
not-refused false r z = no cc

not_late : {X : Type 0} (b : Bool) → cond b Taken Ended ≡ Late → X
not_late true z = no cc
not_late false z = no cc

pub taken-any : (b : Bool) → is_taken (cond b Taken Ended) ≡ true
taken-any true = refl
taken-any false = refl

module _ (s : Sight) (a : Auction) (e : Event) where
  -- P of the step, by cases of the turn
  abbrev by_cases : (P : Stepped → Type 0) → Cases a.head e s (λ t. P (seated_on a.board t)) → P (step_by s a e)
  by_cases P k = cases a.head e s (λ t. P (seated_on a.board t)) k

  refused-stays : (r : Refusal) → (step_by s a e).answer ≡ Refused r → (step_by s a e).auction ≡ a
  refused-stays r =
      by_cases (λ p. p.answer ≡ Refused r → p.auction ≡ a)
      (record {
        refused = λ k _ z. refl;
        late = λ o z. no cc;
        does = λ o. any-change _ _ _ _ _ (λ k _ z. refl) (λ c g z. not-refused (is_open g) r z);
      })

  late-ends : (step_by s a e).answer ≡ Late → (step_by s a e).auction ≡ timed a
  late-ends =
      by_cases (λ p. p.answer ≡ Late → p.auction ≡ timed a)
      (record {
        refused = λ k _ z. no cc;
        late = λ o z. refl;
        does = λ o. any-change _ _ _ _ _ (λ k _ z. no cc) (λ c g z. not_late (is_open g) z);
      })

  module _ (opened : is_open a.head.ending ≡ true) where
    formless : event_formed e ≡ false → step_by s a e ≡ gives (Refused EventOutOfForm) a
    unfolding turn_of event_refusal
    formless f = simp (opened, f)

    before : event_formed e ≡ true → a.head.sequence < e.sequence → e.time < a.head.clock → step_by s a e ≡ gives (Refused BeforeClock) a
    unfolding turn_of event_refusal
    before formed newer t = simp (opened, formed, lt-leb _ _ newer, lt-ltb _ _ t)

  when-late : Ordinary a.head e → a.head.terms.interval ≤ e.time → step_by s a e ≡ gives Late (timed a)
  unfolding turn_of event_refusal
  when-late o l = simp (o.opened, o.formed, lt-leb _ _ o.newer, le-ltb _ _ o.later, le-leb _ _ l)

  pub rises : a.head.sequence ≤ (step_by s a e).auction.head.sequence
  unfolding head_after ended_by_time
  rises =
      by_cases (λ p. a.head.sequence ≤ p.auction.head.sequence)
      (record {
        refused = λ k _. le_refl _;
        late = λ o. le_refl _;
        does = λ o. any-change _ _ _ _ _ (λ k _. le_refl _) (λ c g. le_of_lt o.ordinary.newer);
      })

  ended-refuses : is_open a.head.ending ≡ false → step_by s a e ≡ gives (Refused AuctionEnded) a
  unfolding turn_of event_refusal
  ended-refuses z = simp z

  -- what is known of an event that was taken
  pub taken_is : is_taken (step_by s a e).answer ≡ true → (event_formed e ≡ true) × (a.head.sequence < e.sequence) × ((step_by s a e).auction.head.sequence ≡ e.sequence)
  unfolding head_after
  taken_is =
      by_cases (λ p. is_taken p.answer ≡ true → (event_formed e ≡ true) × (a.head.sequence < e.sequence) × (p.auction.head.sequence ≡ e.sequence))
      (record {
        refused = λ k _ z. no (sym z);
        late = λ o z. no (sym z);
        does = λ o. any-change _ _ _ _ _ (λ k _ z. no (sym z)) (λ c g z. (o.ordinary.formed, o.ordinary.newer, refl));
      })

  taken-in-time : is_taken (step_by s a e).answer ≡ true → InTime a.head e
  taken-in-time =
      by_cases (λ p. is_taken p.answer ≡ true → InTime a.head e)
      (record { refused = λ k _ z. no (sym z); late = λ o z. no (sym z); does = λ o. any-change _ _ _ _ _ (λ k _ z. no (sym z)) (λ c g z. o) })

  by_kind : (r : Refusal) → (step_by s a e).answer ≡ Refused r → 35 ≤ number_of r → InTime a.head e
  by_kind r =
      by_cases (λ p. p.answer ≡ Refused r → 35 ≤ number_of r → InTime a.head e)
      (record {
        refused = λ k h z l. let q : k ≡ r = cc in absurd (omega (arith, h.1, ap number_of q, l));
        late = λ o z. no cc;
        does = λ o. any-change _ _ _ _ _ (λ k _ z l. o) (λ c g z. not-refused (is_open g) r z);
      })

  -- an event whose sequence is not above the highest taken is refused, whatever else it says: 31 once ended; else 32 where it is out of form, and 33
  pub old-refused : e.sequence ≤ a.head.sequence → step_by s a e ≡ gives (Refused (cond (is_open a.head.ending) (cond (event_formed e) SequenceTaken EventOutOfForm) AuctionEnded)) a
  unfolding turn_of event_refusal
  old-refused h = go (is_open a.head.ending) (event_formed e) refl refl
    where
      go : (x y : Bool) → is_open a.head.ending ≡ x → event_formed e ≡ y → step_by s a e ≡ gives (Refused (cond (is_open a.head.ending) (cond (event_formed e) SequenceTaken EventOutOfForm) AuctionEnded)) a
      go true true p q = simp (p, q, le-leb _ _ h)
      go true false p q = simp (p, q)
      go false y p q = simp p

  -- only 31 to 38 refuse an event
  event-numbers : (r : Refusal) → (step_by s a e).answer ≡ Refused r → (31 ≤ number_of r) × (number_of r ≤ 38)
  event-numbers r =
      by_cases (λ p. p.answer ≡ Refused r → (31 ≤ number_of r) × (number_of r ≤ 38))
      (record {
        refused = λ k h z. let q : k ≡ r = cc in (omega (arith, h.0, ap number_of q), omega (arith, h.1, ap number_of q));
        late = λ o z. no cc;
        does = λ o. any-change _ _ _ _ _ (λ k h z. let q : k ≡ r = cc in (omega (arith, h.0, ap number_of q), omega (arith, h.1, ap number_of q))) (λ c g z. not-refused (is_open g) r z);
      })

-- what the auction itself sees
abbrev seen : Auction → Event → Sight
seen a e = sight_of a.board e

pub run-rises : (es : List Event) (a : Auction) → a.head.sequence ≤ (run a es).head.sequence
run-rises [] a = le_refl _
run-rises (e ∷ es) a = le_trans (rises (seen a e) a e) (run-rises es (step_of a e).auction)

pub older : (a : Auction) (e f : Event) (es : List Event) → is_taken (step_of a e).answer ≡ true → event_formed f ≡ true → f.sequence ≤ e.sequence → RefusedAgain (run (step_of a e).auction es) f
older a e f es z formed h =
    let k = taken_is (seen a e) a e z in
    let b : Auction = run (step_of a e).auction es in
    let n : (step_of a e).auction.head.sequence ≤ b.head.sequence = run-rises es (step_of a e).auction in
    old-refused (seen b f) b f (omega (arith, k.2)) ∙ ap (λ (t : Bool). gives (Refused (cond (is_open b.head.ending) (cond t SequenceTaken EventOutOfForm) AuctionEnded)) b) formed

pub again : (a : Auction) (e : Event) (es : List Event) → is_taken (step_of a e).answer ≡ true → RefusedAgain (run (step_of a e).auction es) e
again a e es z = older a e e es z (taken_is (seen a e) a e z).0 (le_refl _)

closed-stays : (a : Auction) (r : Refusal) → (close_of a).answer ≡ Refused r → (close_of a).auction ≡ a
unfolding close_turn
closed-stays a r = by (λ (t : Turn). t.answer ≡ Refused r → (seated_on a.board t).auction ≡ a) (is_open a.head.ending) _ _ (λ _ z. no cc) (λ _ z. refl)

closed-late : (a : Auction) → is_open a.head.ending ≡ true → close_of a ≡ gives Late (timed a)
unfolding close_turn
closed-late a z = simp z

ended-stays : (a : Auction) → is_open a.head.ending ≡ false → close_of a ≡ gives (Refused AuctionEnded) a
unfolding close_turn
ended-stays a z = simp z

-- ---- orders

order-numbers : (o : Order) (r : Refusal) → accept_of o ≡ Err r → (1 ≤ number_of r) × (number_of r ≤ 13)
order-numbers o r z = subst (λ (x : Result (Unit {0}) Refusal). IfErr x OrderNumber) (refusal_is o r z) (order-numbered o)

pub keeps : Keeps
keeps = record { refused = refused-stays; not-closed = closed-stays; order-numbers = order-numbers; event-numbers = event-numbers; taken = λ s a e z. (taken-in-time s a e z, (taken_is s a e z).2); by_kind = by_kind; formless = formless; old = old-refused; before = before; rises = rises; when-late = when-late; late = late-ends; when-closed = closed-late; ended = ended-refuses; ended-close = ended-stays }

-- ---- the sequences of the events taken rise, so no two are the same

pub above : (es : List Event) (a : Auction) → Every (λ e. a.head.sequence < e.sequence) (taken_of a es)
above [] a = tt
above (e ∷ es) a =
    go (is_taken (step_of a e).answer) refl
    (every_map (λ f. (step_of a e).auction.head.sequence < f.sequence) (λ f. a.head.sequence < f.sequence) (taken_of (step_of a e).auction es) (λ f h. omega (arith, rises (seen a e) a e)) (above es (step_of a e).auction))
  where
    go : (b : Bool) → is_taken (step_of a e).answer ≡ b → Every (λ f. a.head.sequence < f.sequence) (taken_of (step_of a e).auction es) → Every (λ f. a.head.sequence < f.sequence) (keep b e (taken_of (step_of a e).auction es))
    go true z rest = ((taken_is (seen a e) a e z).1, rest)
    go false z rest = rest

-- what rises above m rises above all below it
rising-from : (m k : ℕ) (es : List Event) → k ≤ m → Rising m es → Rising k es
rising-from m k [] h r = tt
rising-from m k (e ∷ es) h r = (omega (arith, r.0), r.1)

pub rising : (es : List Event) (a : Auction) → Rising a.head.sequence (taken_of a es)
rising [] a = tt
rising (e ∷ es) a = go (is_taken (step_of a e).answer) refl (rising es (step_of a e).auction)
  where
    go : (b : Bool) → is_taken (step_of a e).answer ≡ b → Rising (step_of a e).auction.head.sequence (taken_of (step_of a e).auction es) → Rising a.head.sequence (keep b e (taken_of (step_of a e).auction es))
    go true z r = ((taken_is (seen a e) a e z).1, subst (λ (m : ℕ). Rising m (taken_of (step_of a e).auction es)) (taken_is (seen a e) a e z).2 r)
    go false z r = rising-from (step_of a e).auction.head.sequence a.head.sequence (taken_of (step_of a e).auction es) (rises (seen a e) a e) r

pub one : (a : Auction) (es : List Event) (e f : Event) → In e (taken_of a es) → In f (taken_of a es) → e.sequence ≡ f.sequence → e ≡ f
one a [] e f i j h = absurd i
one a (x ∷ es) e f i j h = go (is_taken (step_of a x).answer) refl i j (λ i j. one (step_of a x).auction es e f i j h)
  where
    later : (g : Event) → is_taken (step_of a x).answer ≡ true → In g (taken_of (step_of a x).auction es) → x.sequence < g.sequence
    later g z k = omega (arith, every_in (λ f. (step_of a x).auction.head.sequence < f.sequence) (taken_of (step_of a x).auction es) g (above es (step_of a x).auction) k, (taken_is (seen a x) a x z).2)

    go : (b : Bool) → is_taken (step_of a x).answer ≡ b → In e (keep b x (taken_of (step_of a x).auction es)) → In f (keep b x (taken_of (step_of a x).auction es))
        → (In e (taken_of (step_of a x).auction es) → In f (taken_of (step_of a x).auction es) → e ≡ f) → e ≡ f
    go false z i j ih = ih i j
    go true z (inl p) (inl q) ih = p ∙ sym q
    go true z (inl p) (inr j) ih = absurd (omega (arith, later f z j, ap (λ (k : Event). k.sequence) p))
    go true z (inr i) (inl q) ih = absurd (omega (arith, later e z i, ap (λ (k : Event). k.sequence) q))
    go true z (inr i) (inr j) ih = ih i j
