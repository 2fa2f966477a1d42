-- The records that are taken: a record met again is refused, and the market order that ended an auction is one of them. Assumes nothing.
use mathlib.Core.Path.{◌≡◌, refl, sym, ap, subst, ◌∙◌}
use mathlib.Core.Bool.{Bool, true, false, cond, not}
use mathlib.Core.List.{List, [], ◌∷◌, ◌++◌}
use Prim.Native.Nat.{ℕ, ◌≤◌, ◌<◌}
use native.Mathlib.Nat.{le_trans}
use native.Mathlib.Omega.{arith}
use Rattle.base.specs.declared.refusal.Refusal.{Refusal}
use Rattle.base.specs.declared.refusal.Refusal.TheVariants.{AuctionEnded, EventOutOfForm, SequenceTaken}
use Rattle.base.specs.Lists.{In, Every, keep, filter}
use Rattle.base.proofs.Bools.{by}
use Rattle.base.proofs.ListLaws.{every_in}
use Rattle.tape.specs.declared.order.Order.{Order}
use Rattle.tape.specs.declared.event.Event.{Event}
use Rattle.tape.specs.rules.Form.{event_formed}
use Rattle.mirror.specs.rules.Mirror.{buy_event}
use Rattle.auction.specs.declared.Auction.{Auction}
use Rattle.auction.specs.declared.Market.{Market}
use Rattle.auction.specs.rules.Accept.{auction_of, Accepts}
use Rattle.auction.specs.rules.Range.{is_open}
use Rattle.events.specs.declared.Answer.TheVariants.{Refused}
use Rattle.events.specs.declared.Turn.{Turn}
use Rattle.events.specs.declared.Stepped.{Stepped}
use Rattle.events.specs.rules.Step.{sight_of, ended_by_time, close_turn, gives, step_of}
use Rattle.run.specs.rules.Run.{Said, said, run, heard, closed, is_taken, taken_of}
use Rattle.run.proofs.Resend.{taken_is, old-refused, run-rises, keeps}
use Rattle.run.proofs.SoundLaws.{demanded}
use Rattle.promise.specs.rules.Tapes.{Carries, end_of, is_refused, not_refused, not_refused_said, WithResent}
use Rattle.promise.specs.rules.Tapes.WithResent.{none, more, past_end}
use Rattle.promise.specs.rules.Sides.{is_sell, other_side, taken_records, at_end, market_order}
use Rattle.promise.specs.promises.Parts.{Ends}
use Rattle.promise.specs.rules.Answers.{ending_is}
use Rattle.promise.proofs.Answered.{refused-stays, without, ends-alike}
use Rattle.run.specs.promises.Demands.{MarketFrom}
use Rattle.run.proofs.MarketFrom.{Sold, market-taken, resend}
use Rattle.promise.proofs.Sent.{terms-sell, market-side, side-market}

-- ---- the records taken

-- what holds of each event at its taking holds of all that are taken
taken-every : (P : Event → Type 0) → ((a : Auction) (e : Event) → is_taken (step_of a e).answer ≡ true → P e) → (es : List Event) (a : Auction) → Every P (taken_of a es)
taken-every P p [] a = tt
taken-every P p (e ∷ es) a = go (is_taken (step_of a e).answer) refl (taken-every P p es (step_of a e).auction)
  where
    go : (b : Bool) → is_taken (step_of a e).answer ≡ b → Every P (taken_of (step_of a e).auction es) → Every P (keep b e (taken_of (step_of a e).auction es))
    go true z rest = (p a e z, rest)
    go false z rest = rest

pub taken-formed : (es : List Event) (a : Auction) → Every (λ e. event_formed e ≡ true) (taken_of a es)
taken-formed es a = taken-every (λ e. event_formed e ≡ true) (λ b e z. (taken_is (sight_of b.board e) b e z).0) es a

-- none is above the highest sequence
taken-below : (es : List Event) (a : Auction) → Every (λ e. e.sequence ≤ (run a es).head.sequence) (taken_of a es)
taken-below [] a = tt
taken-below (e ∷ es) a = go (is_taken (step_of a e).answer) refl (taken-below es (step_of a e).auction)
  where
    b : Auction
    b = (step_of a e).auction

    go : (t : Bool) → is_taken (step_of a e).answer ≡ t → Every (λ f. f.sequence ≤ (run b es).head.sequence) (taken_of b es) → Every (λ f. f.sequence ≤ (run b es).head.sequence) (keep t e (taken_of b es))
    go true z rest = (omega (arith, (taken_is (sight_of a.board e) a e z).2, run-rises es b), rest)
    go false z rest = rest

-- ---- a record with the sequence of one that was taken, or a lower one

pub refused : (a : Auction) (before : List Event) (e f : Event) → In e (taken_of a before) → f.sequence ≤ e.sequence
    → step_of (run a before) f ≡ gives (Refused (cond (is_open (run a before).head.ending) (cond (event_formed f) SequenceTaken EventOutOfForm) AuctionEnded)) (run a before)
refused a before e f i h = old-refused (sight_of (run a before).board f) (run a before) f (le_trans h (every_in (λ e. e.sequence ≤ (run a before).head.sequence) (taken_of a before) e (taken-below before a) i))

-- a record that is refused where it is put in is not among those that are not
refused-out : (before : List Event) (f : Event) (rest : List Event) (a : Auction) (r : Refusal) → step_of (run a before) f ≡ gives (Refused r) (run a before) → not_refused a (before ++ (f ∷ rest)) ≡ not_refused a (before ++ rest)
refused-out [] f rest a r z = ap (λ (p : Stepped). keep (not (is_refused p.answer)) f (not_refused p.auction rest)) z
refused-out (e ∷ before) f rest a r z = ap (keep (not (is_refused (step_of a e).answer)) e) (refused-out before f rest (step_of a e).auction r z)

pub same-records : (a : Auction) (es fs : List Event) → WithResent a es fs → not_refused a fs ≡ not_refused a es
same-records a es fs none = refl
same-records a es fs (more before e f rest i h r) = refused-out before f rest a _ (refused a before e f i h) ∙ same-records a es (before ++ rest) r
same-records a es fs (past_end before f rest z r) = refused-out before f rest a AuctionEnded (keeps.ended (sight_of (run a before).board f) (run a before) f z) ∙ same-records a es (before ++ rest) r

-- so the auction comes out the same
pub resends : (s t : List ℕ) (o : Order) (es fs : List Event) → Carries s o es → Carries t o fs → WithResent (auction_of o) es fs → end_of t ≡ end_of s
resends s t o es fs c d r =
    let a : Auction = (auction_of o) in
    ends-alike s t o es fs c d (sym (without fs a) ∙ ap (run a) (same-records a es fs r) ∙ without es a)

-- the records that are not refused are answered as they were among the others
pub answered-alike : (a : Auction) (es : List Event) → heard a (not_refused a es) ≡ not_refused_said (heard a es)
unfolding filter
answered-alike a [] = refl
answered-alike a (e ∷ es) = go (is_refused (step_of a e).answer) refl (answered-alike (step_of a e).auction es)
  where
    b : Auction
    b = (step_of a e).auction

    go : (r : Bool) → is_refused (step_of a e).answer ≡ r → heard b (not_refused b es) ≡ not_refused_said (heard b es)
        → heard a (keep (not r) e (not_refused b es)) ≡ keep (not r) (said e.sequence (step_of a e).answer) (not_refused_said (heard b es))
    go true z ih = ap (λ (c : Auction). heard c (not_refused b es)) (sym (refused-stays a e z)) ∙ ih
    go false z ih = ap {B = List Said} (λ xs. said e.sequence (step_of a e).answer ∷ xs) ih

-- ---- the market order that ended an auction

closed-market : (a : Auction) → (closed a).head.market ≡ a.head.market
unfolding close_turn ended_by_time
closed-market a = by (λ (t : Turn). t.head.market ≡ a.head.market) (is_open a.head.ending) _ _ (λ _. refl) (λ _. refl)

-- a record that ended the auction as a market order
ends_by : (o : Order) (es : List Event) → Accepts o → (e : Event) → In e (taken_records o es) → Sold (is_sell o) e (run (auction_of o) es) → Ends o es e
ends_by o es h e i s =
    let same : run (auction_of o) es ≡ at_end o es = sym (demanded.by-event o es (ap is_open s.ending)) in
    record {
      taken = i;
      side = market-side (is_sell o) e s.kind s.side;
      kind = s.kind;
      sequence = ap (λ (b : Auction). b.head.market.sequence) (sym same) ∙ s.sequence;
      size = ap (λ (b : Auction). b.head.market.size) (sym same) ∙ s.size;
      ending = ap ending_is (ap (λ (b : Auction). b.head.ending) (sym same) ∙ s.ending);
      latest = ap (λ (b : Auction). b.head.sequence) (sym same) ∙ s.latest;
    }

-- the market order that ended it is one of the records
pub record MarketRecord (o : Order) (es : List Event) : Type 0 where
  pub record_of : Event
  pub ends : Ends o es record_of

pub ended_by : (o : Order) (es : List Event) → Accepts o → 0 < (market_order o es).size → MarketRecord o es
ended_by o es h n =
    let a : Auction = run (auction_of o) es in
    let size : (market_order o es).size ≡ a.head.market.size = ap (λ (m : Market). m.size) (closed-market a) in
    let f : MarketFrom (auction_of o) es a = resend.market-from o es h (omega (arith, size, n)) in
    let side : (buy_event (is_sell o) f.event).side ≡ 2 = ap (λ (s : Bool). (buy_event s f.event).side) (sym (terms-sell o h)) ∙ f.side in
    record { record_of = f.event; ends = ends_by o es h f.event f.taken (record { kind = f.kind; side = side; sequence = f.sequence; size = f.size; ending = f.ending; latest = f.latest }) }

-- every market order of the other side that was taken ended it
pub market-ends : (o : Order) (es : List Event) → Accepts o → (e : Event) → In e (taken_records o es) → e.kind ≡ 4 → e.side ≡ other_side o → Ends o es e
market-ends o es h e i k d =
    let a : Auction = (auction_of o) in
    let side : (buy_event a.head.terms.sell e).side ≡ 2 = ap (λ (s : Bool). (buy_event s e).side) (terms-sell o h) ∙ side-market (is_sell o) e k d in
    ends_by o es h e i (subst (λ (s : Bool). Sold s e (run a es)) (terms-sell o h) (market-taken es a e i (k, side)))
