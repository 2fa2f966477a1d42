-- What an amend does, what it is answered, and that the old name is found no more. Assumes nothing.
use mathlib.Core.Path.{◌≡◌, refl, sym, ap, subst, ◌∙◌}
use mathlib.Core.Bool.{Bool, true, false, cond, ◌||◌}
use mathlib.Core.List.{List}
use mathlib.Core.Logic.{◌⊎◌, inl, inr, ⊎_elim, ◌≢◌}
use Prim.Native.Nat.{ℕ, ◌+◌, ◌<◌, min}
use native.Mathlib.Omega.{arith}
use lib.Dec.{ltb, eqb}
use borrow.Author.Tests.{eq-eqb, ne_eqb, eqb-true, eqb-false, le-ltb, lt-leb}
use Rattle.words.specs.rules.Bits.{bit_at}
use Rattle.words.proofs.BitLaws.{without_other}
use Rattle.base.specs.Lists.{Every, Inserts}
use Rattle.base.specs.Refusal.{number_of}
use Rattle.base.specs.declared.refusal.Refusal.{Refusal}
use Rattle.base.specs.declared.refusal.Refusal.TheVariants.{OwnSide, AboveInitiating, NoSuchResponse, BoardFull}
use Rattle.base.specs.Lists.Inserts.{here, there}
use Rattle.base.proofs.Bools.{by, no}
use Rattle.base.proofs.ListLaws.{every-inserts}
use Rattle.board.specs.rules.Board.{response_at, is_live, live_of, seated_at, cleared, find_gtx, found_at, found_place, found_response}
use Rattle.board.specs.promises.Board.{Good, GtxAt, Amending}
use Rattle.board.specs.declared.Board.{Board}
use Rattle.board.specs.declared.Response.{Response}
use Rattle.board.proofs.PlaceLaws.{found-back, some-response}
use Rattle.board.proofs.BoardLaws.{amending, seated-good, clearing, cleared-good, find-named, named-found, no-named}
use Rattle.tape.specs.declared.event.Event.{Event}
use Rattle.tape.specs.rules.Fields.{name_of, new_size_of}
use Rattle.mirror.specs.rules.Mirror.{buy_event}
use Rattle.mirror.proofs.EventLaws.{buy-sequence, buy-participant, buy-kind, amend-size}
use Rattle.demand.specs.promises.Demands.{Absent, Distinct}
use Rattle.auction.specs.declared.Auction.{Auction}
use Rattle.auction.specs.rules.Offer.{on_offer, moved_offer}
use Rattle.auction.specs.declared.Ending.TheVariants.{Open}
use Rattle.events.specs.declared.Answer.{Answer}
use Rattle.events.specs.declared.Answer.TheVariants.{Taken, Ended, Refused}
use Rattle.decision.specs.declared.Change.TheVariants.{Seat}
use Rattle.decision.specs.declared.Sight.{Sight}
use Rattle.events.specs.declared.Stepped.{Stepped}
use Rattle.decision.specs.rules.Decide.{is_amend, amended_by, amend_outcome, cancel_outcome, Outcome, does as outcome, outcome_of, old_place, old_response}
use Rattle.events.specs.rules.Step.{found_for, sight_of, event_refusal, head_after, carried, turn_of, seated_on, step_by}
use Rattle.run.specs.rules.Run.{is_taken}
use Rattle.run.specs.promises.Demands.{Stands, Sound, Ordinary, InTime, Names, named_place, is_above, SeesNamed, NewFor, Amended, Amends}
use Rattle.events.proofs.SightLaws.{sight-old}
use Rattle.run.proofs.StepLaws.{cases}
use Rattle.run.proofs.Resend.{any-change}
use Rattle.run.proofs.BoardSteps.{clear-sizes}
use Rattle.run.proofs.SoundLaws.{new-size-of, sum_fits}

-- ---- what is seen

-- a cancel and an amend look the name up
for-names : (b : Board) (e : Event) → Names e → found_for b e ≡ find_gtx b (name_of e)
for-names b e (inl k) = ap (λ (t : Bool). cond (t || is_amend e) (find_gtx b (name_of e)) 64) (eq-eqb e.kind 2 k)
for-names b e (inr k) = simp (ne_eqb e.kind 2 (λ z. omega arith), eq-eqb e.kind 6 k)

pub found-is : (b : Board) (e : Event) → Names e → old_place (sight_of b e) ≡ find_gtx b (name_of e)
found-is b e k = sight-old b e ∙ for-names b e k

pub sees_named : (a : Auction) (e : Event) → Names e → SeesNamed (sight_of a.board e) a e
unfolding sight_of
sees_named a e k = record { named = ap (found_at a.board) (for-names a.board e k) }

-- the place that it tells, and what stands there
named-is : (s : Sight) (a : Auction) (e : Event) → SeesNamed s a e → old_place s ≡ named_place a e
named-is s a e sees = ap found_place sees.named ∙ found-back a.board (named_place a e)

old-is : (s : Sight) (a : Auction) (e : Event) → SeesNamed s a e → named_place a e < 64 → old_response s ≡ response_at a.board.places (named_place a e)
old-is s a e sees l = ap found_response sees.named ∙ some-response a.board (named_place a e) l

-- ---- the turn of an event in time

-- not 35, not 38, and not ended
abbrev None : Answer → Type 0
None x = (x ≡ Refused OwnSide → ⊥) × (x ≡ Refused BoardFull → ⊥) × (x ≡ Ended → ⊥)

none : (r : Refusal) → (number_of r ≡ 35 → ⊥) → (number_of r ≡ 38 → ⊥) → None (Refused r)
none r p q = (λ z. let k : r ≡ OwnSide = cc in p (ap number_of k), λ z. let k : r ≡ BoardFull = cc in q (ap number_of k), λ z. no cc)

module _ (s : Sight) (a : Auction) (e : Event) where
  abbrev m : Event
  m = buy_event a.head.terms.sell e

  in-time : InTime a.head e → step_by s a e ≡ seated_on a.board (carried a.head e (outcome_of a.head.terms a.head.quotes s m))
  unfolding turn_of event_refusal
  in-time t = let o = t.ordinary in simp (o.opened, o.formed, lt-leb _ _ o.newer, le-ltb _ _ o.later, lt-leb _ _ t.early)

  amend-is : e.kind ≡ 6 → outcome_of a.head.terms a.head.quotes s m ≡ amend_outcome a.head.terms s m
  unfolding outcome_of
  amend-is k =
      let k6 : m.kind ≡ 6 = buy-kind e a.head.terms.sell ∙ k in
      simp (ne_eqb m.kind 1 (λ z. omega arith), ne_eqb m.kind 2 (λ z. omega arith), ne_eqb m.kind 3 (λ z. omega arith), ne_eqb m.kind 4 (λ z. omega arith), eq-eqb m.kind 6 k6)

  cancel-is : e.kind ≡ 2 → outcome_of a.head.terms a.head.quotes s m ≡ cancel_outcome s
  unfolding outcome_of
  cancel-is k =
      let k2 : m.kind ≡ 2 = buy-kind e a.head.terms.sell ∙ k in
      simp (ne_eqb m.kind 1 (λ z. omega arith), eq-eqb m.kind 2 k2)

  -- ---- what an amend is answered

  amend-step : e.kind ≡ 6 → InTime a.head e → (step_by s a e).answer ≡ cond (is_above a e) (Refused AboveInitiating) (cond (ltb (old_place s) 64) Taken (Refused NoSuchResponse))
  unfolding amend_outcome
  amend-step k t = ap (λ (p : Stepped). p.answer) (in-time t) ∙ ap (λ (u : Outcome). (carried a.head e u).answer) (amend-is k) ∙ go (is_above a e) (ltb (old_place s) 64) refl refl
    where
      go : (x y : Bool) → is_above a e ≡ x → ltb (old_place s) 64 ≡ y → (carried a.head e (amend_outcome a.head.terms s m)).answer ≡ cond x (Refused AboveInitiating) (cond y Taken (Refused NoSuchResponse))
      go true y p q = simp p
      go false true p q = simp (p, q)
      go false false p q = simp (p, q)

  cancel-step : e.kind ≡ 2 → InTime a.head e → (step_by s a e).answer ≡ cond (ltb (old_place s) 64) Taken (Refused NoSuchResponse)
  unfolding cancel_outcome
  cancel-step k t = ap (λ (p : Stepped). p.answer) (in-time t) ∙ ap (λ (u : Outcome). (carried a.head e u).answer) (cancel-is k) ∙ go (ltb (old_place s) 64) refl
    where
      go : (y : Bool) → ltb (old_place s) 64 ≡ y → (carried a.head e (cancel_outcome s)).answer ≡ cond y Taken (Refused NoSuchResponse)
      go true q = simp q
      go false q = simp q

  -- 31 to 34, late, 36, 37 or taken
  never : e.kind ≡ 6 → None (step_by s a e).answer
  never k =
      ⊎_elim (λ x. x) in-time-none
      (cases a.head e s (λ t. None t.answer ⊎ InTime a.head e)
      (record { refused = λ n h. inl (none n (λ z. omega (arith, h.1)) (λ z. omega (arith, h.1))); late = λ _. inl (λ z. no cc, λ z. no cc, λ z. no cc); does = λ t. any-change _ _ _ _ _ (λ _ _. inr t) (λ _ _. inr t) }))
    where
      in-time-none : InTime a.head e → None (step_by s a e).answer
      in-time-none t =
          subst None (sym (amend-step k t))
          (by None (is_above a e) _ _ (λ _. none AboveInitiating (λ z. omega arith) (λ z. omega arith)) (λ _.
          by None (ltb (old_place s) 64) _ _ (λ _. (λ z. no cc, λ z. no cc, λ z. no cc)) (λ _. none NoSuchResponse (λ z. omega arith) (λ z. omega arith))))

-- ---- an amend that is taken

-- what holds of each live response holds of what stands at a live place
pub live_at : (P : Response → Type 0) (b : Board) (j : ℕ) → Good b → is_live b j ≡ true → Every P (live_of b) → P (response_at b.places j)
live_at P b j g l h = (every-inserts P (clearing b j g l).takes h).0

-- the others of one of a list whose sequences are apart do not bear its sequence
pub others_apart : {r : Response} {xs ys : List Response} → Inserts r xs ys → Distinct ys → Absent r.sequence xs
others_apart here d = d.0
others_apart {r} (there {x} i) d = (λ z. (every-inserts (λ y. y.sequence ≢ x.sequence) i d.0).0 (sym z), others_apart i d.1)

module _ (a : Auction) (e : Event) (s : Sound a) (newer : a.head.sequence < e.sequence) (found : named_place a e < 64) (r : Response) (name : r.sequence ≡ e.sequence) (gtx : r.gtx ≡ true) where
  abbrev i : ℕ
  i = named_place a e

  at : GtxAt a.board (name_of e) i
  at = find-named false a.board (name_of e) s.board found

  made : Amending a.board i r
  made = amending a.board i r s.board at.live

  abbrev new : Board
  new = seated_at a.board i r

  new-good : Good new
  new-good = seated-good a.board i r s.board

  -- a place of the new board is live where it was
  was-live : (j : ℕ) → is_live new j ≡ true → is_live a.board j ≡ true
  was-live j l = sym (ap (λ (w : ℕ). bit_at w j) made.word) ∙ l

  -- what stood on the board has a lower sequence
  older : (j : ℕ) → is_live a.board j ≡ true → (response_at a.board.places j).sequence < e.sequence
  older j l = omega (arith, newer, (live_at (Stands a.head.sequence a.head.terms.initiating) a.board j s.board l s.live).1)

  -- at another place no response bears the old name
  apart : (j : ℕ) → (j ≡ i → ⊥) → is_live a.board j ≡ true → (response_at a.board.places j).sequence ≡ name_of e → ⊥
  apart j n l z =
      live_at (λ x. x.sequence ≢ name_of e) (cleared a.board i) j (cleared-good a.board i s.board) (without_other a.board.live i j n ∙ l)
      (subst (λ (k : ℕ). Absent k (live_of (cleared a.board i))) at.sequence (others_apart made.takes s.distinct)) z

  gone : find_gtx new (name_of e) ≡ 64
  gone = no-named false new (name_of e) new-good nobody
    where
      nobody : (j : ℕ) → GtxAt new (name_of e) j → ⊥
      nobody j g = go (eqb j i) refl
        where
          go : (b : Bool) → eqb j i ≡ b → ⊥
          go true z =
              let here : (response_at new.places j).sequence ≡ e.sequence = ap (λ (k : ℕ). (response_at new.places k).sequence) (eqb-true j i z) ∙ ap (λ (x : Response). x.sequence) made.stands ∙ name in
              omega (arith, here, g.sequence, at.sequence, older i at.live)
          go false z = let n : j ≡ i → ⊥ = eqb-false j i z in apart j n (was-live j g.live) (ap (λ (x : Response). x.sequence) (sym (made.others j n)) ∙ g.sequence)

  new-found : find_gtx new e.sequence ≡ i
  new-found = go (eqb f i) refl
    where
      f : ℕ
      f = find_gtx new e.sequence

      stands : GtxAt new e.sequence i
      stands = record { live = ap (λ (w : ℕ). bit_at w i) made.word ∙ at.live; gtx = ap (λ (x : Response). x.gtx) made.stands ∙ gtx; sequence = ap (λ (x : Response). x.sequence) made.stands ∙ name }

      first : GtxAt new e.sequence f
      first = find-named false new e.sequence new-good (omega (arith, named-found false new e.sequence new-good i stands, found))

      go : (b : Bool) → eqb f i ≡ b → f ≡ i
      go true z = eqb-true f i z
      go false z =
          let n : f ≡ i → ⊥ = eqb-false f i z in
          absurd (omega (arith, older f (was-live f first.live), ap (λ (x : Response). x.sequence) (sym (made.others f n)) ∙ first.sequence))

does : (s : Sight) (a : Auction) (e : Event) → Sound a → e.kind ≡ 6 → SeesNamed s a e → is_taken (step_by s a e).answer ≡ true → Amended a e (step_by s a e).auction
unfolding head_after
does v a e s k6 sees =
    cases a.head e v (λ t. is_taken t.answer ≡ true → Amended a e (seated_on a.board t).auction)
    (record {
      refused = λ _ _ z. no (sym z);
      late = λ _ z. no (sym z);
      does = λ o. record {
        refuses = λ _ _ z. no (sym z);
        nothing = λ _ l _. no_other l.no-amend;
        gtx = λ k _ _ _ _. absurd (omega (arith, is6, k));
        limit = λ _ k _ _ _ _. absurd (omega (arith, is6, k));
        clear = λ k _ _. absurd (omega (arith, is6, k));
        amend = λ _ f _ _. amended o.ordinary f;
        quote = λ _ _ l _. no_other l.no-amend;
        sell = λ k _ _. absurd (omega (arith, is6, k));
      };
    })
  where
    sell : Bool
    sell = a.head.terms.sell

    is6 : (buy_event sell e).kind ≡ 6
    is6 = buy-kind e sell ∙ k6

    no_other : {X : Type 0} → eqb (buy_event sell e).kind 6 ≡ false → X
    no_other z = no (sym (eq-eqb _ _ is6) ∙ z)

    -- the new response
    r : Response
    r = amended_by a.head.terms (response_at a.board.places (named_place a e)) (buy_event sell e)

    made-for : NewFor a.head.terms (response_at a.board.places (named_place a e)) e r
    made-for = record { sequence = buy-sequence e sell; size = ap (λ (n : ℕ). min n a.head.terms.size) (amend-size e sell k6); price = refl; participant = buy-participant e sell; customer = refl; gtx = refl }

    amended : Ordinary a.head e → old_place v < 64 → Amended a e (seated_on a.board (carried a.head e (outcome (Seat (old_place v) (amended_by a.head.terms (old_response v) (buy_event sell e)) (old_response v).size) Open))).auction
    amended o f =
        subst (λ (i : ℕ). Amended a e (seated_on a.board (carried a.head e (outcome (Seat i (amended_by a.head.terms (old_response v) (buy_event sell e)) (old_response v).size) Open))).auction) (sym (named-is v a e sees))
        (subst (λ (x : Response). Amended a e (seated_on a.board (carried a.head e (outcome (Seat (named_place a e) (amended_by a.head.terms x (buy_event sell e)) x.size) Open))).auction) (sym (old-is v a e sees found))
        (record {
          named = at a e s newer found r made-for.sequence refl;
          stands = subst (NewFor a.head.terms (response_at a.board.places (named_place a e)) e) (sym (made a e s newer found r made-for.sequence refl).stands) made-for;
          others = (made a e s newer found r made-for.sequence refl).others;
          word = (made a e s newer found r made-for.sequence refl).word;
          count = (made a e s newer found r made-for.sequence refl).count;
          offered = offered;
          gone = gone a e s newer found r made-for.sequence refl;
          found = new-found a e s newer found r made-for.sequence refl;
          terms = refl;
          quotes = refl;
          market = refl;
          ending = refl;
        }))
      where
        newer : a.head.sequence < e.sequence
        newer = o.newer

        found : named_place a e < 64
        found = omega (arith, f, named-is v a e sees)

        old : ℕ
        old = (response_at a.board.places (named_place a e)).size

        offered : moved_offer (on_offer a) old r.size + old ≡ on_offer a + min (new_size_of e) a.head.terms.size
        offered = omega (arith, clear-sizes a.board s.board (named_place a e) (find-named false a.board (name_of e) s.board found).live, made-for.size, s.offered, sum_fits a s, (new-size-of e k6 o.formed).1)

pub amends : Amends
amends =
    record {
      sees_named = sees_named;
      does = does;
      answers = λ s a e k n t. amend-step s a e k t ∙ ap (λ (i : ℕ). cond (is_above a e) (Refused AboveInitiating) (cond (ltb i 64) Taken (Refused NoSuchResponse))) (named-is s a e n);
      never = never;
      cancel-answers = λ s a e k n t. cancel-step s a e k t ∙ ap (λ (i : ℕ). cond (ltb i 64) Taken (Refused NoSuchResponse)) (named-is s a e n);
    }
