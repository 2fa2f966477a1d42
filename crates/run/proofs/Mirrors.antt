-- A sell auction is the mirror of the buy auction on mirrored input, fills and all. Assumes nothing.
use mathlib.Core.Path.{◌≡◌, refl, sym, ap, ap₂, subst, ◌∙◌}
use mathlib.Core.Bool.{Bool, true, false, cond, not, ◌||◌}
use mathlib.Core.List.{List, [], ◌∷◌, ◌++◌}
use Prim.Native.Nat.{ℕ, zero, suc, ◌+◌, ◌-◌, ◌≤◌, min, max}
use native.Mathlib.Omega.{arith}
use lib.Dec.{leb, ltb, eqb}
use Rattle.std.specs.Prelude.{Result, Ok, Err}
use Rattle.std.specs.Result.{result_and, result_map_both}
use Rattle.base.specs.declared.refusal.Refusal.{Refusal}
use Rattle.base.specs.Lists.{Every}
use Rattle.base.specs.declared.refusal.Refusal.TheVariants.{AuctionEnded, EventOutOfForm}
use Rattle.base.proofs.Bools.{by, no}
use Rattle.base.proofs.Numbers.{mirror-twice}
use Rattle.board.specs.rules.Board.{first_free, place_at, find_gtx, found_at}
use Rattle.board.specs.declared.Board.{Board}
use Rattle.board.specs.declared.Response.{Response}
use Rattle.share.specs.rules.Fills.{Fill, fill, fill_of}
use Rattle.tape.specs.declared.order.Order.{Order}
use Rattle.tape.specs.declared.event.Event.{Event}
use Rattle.tape.specs.rules.Form.{order_formed, event_formed}
use Rattle.trade.specs.declared.Deal.{Deal}
use Rattle.trade.specs.rules.Trade.{Level, offers, fills, top, entry, next, offers_at, level_at, walk, market_price, levels, flat, traded, level_fills, contra}
use Rattle.trade.specs.rules.Plan.{mode1, mode2, mode3}
use Rattle.trade.specs.rules.Write.{reported, fills_of}
use Rattle.demand.specs.promises.Demands.{InRange}
use Rattle.demand.proofs.Theorems.{demand3}
use Rattle.base.specs.Price.{mirrored}
use Rattle.mirror.specs.rules.Mirror.{mirrored_order, mirrored_event, buy_order, buy_event}
use Rattle.auction.specs.rules.Accept.{order_refusal, terms_of, opened_by, auction_of, accept_of, Accepts}
use Rattle.auction.specs.rules.Range.{is_open, bound_now, range_of}
use Rattle.events.specs.rules.Step.{found_for, sight_of, event_refusal, stays, ended_by_time, head_after, board_after, unless_refused, carried, turn_of, close_turn, seated_on, step_by, step_of, close_of}
use Rattle.decision.specs.rules.Decide.{is_cancel, is_amend, gtx_outcome, cancel_outcome, amend_outcome, sell_limit_outcome, buy_limit_outcome, limit_outcome, market_outcome, quotes_outcome, Outcome, outcome_of}
use Rattle.fills.specs.rules.Fills.{deal_of, auction_fills}
use Rattle.run.specs.rules.Run.{run, Said, said, heard, closed, played}
use Rattle.run.specs.promises.Demands.{flipped_terms, flipped_head, flipped, mirrored_record, mirrored_records, mirrored_fills, mirrored_range, Sound, Mirrors}
use Rattle.auction.specs.declared.Auction.{Auction}
use Rattle.auction.specs.declared.Head.{Head}
use Rattle.auction.specs.declared.Terms.{Terms}
use Rattle.auction.specs.declared.Range.{Range}
use Rattle.auction.specs.declared.Quotes.{Quotes}
use Rattle.events.specs.declared.Answer.TheVariants.{Late, Refused as No}
use Rattle.events.specs.declared.Answer.{Answer}
use Rattle.decision.specs.declared.Sight.{Sight}
use Rattle.events.specs.declared.Turn.{Turn}
use Rattle.decision.specs.declared.Change.{Change}
use Rattle.mirror.proofs.EventLaws.{mirror-sequence, mirror-time, mirror-kind, mirror-name}
use Rattle.run.proofs.StepLaws.{names-is}
use Rattle.tape.specs.rules.Fields.{name_of}
use Rattle.auction.proofs.Accepted.{opened}
use Rattle.run.proofs.SoundLaws.{sound-deal}
use Rattle.mirror.proofs.MirrorForm.{order-form, buy-mirrored, other-side, event-twice, event-form}

-- ---- orders

refusal-same : (o : Order) → order_formed o ≡ true → order_refusal (mirrored_order o) ≡ order_refusal o
unfolding order_refusal
refusal-same o f = simp (f, order-form o f, buy-mirrored o f)

flipped-opened : (s : Bool) (b : Order) → opened_by (cond s false true) b ≡ flipped (opened_by s b)
unfolding opened_by terms_of
flipped-opened s b = refl

opens-formed : (o : Order) → order_formed o ≡ true → auction_of (mirrored_order o) ≡ flipped (auction_of o)
opens-formed o f =
    ap (λ (s : Bool). opened_by s (buy_order (mirrored_order o))) (other-side o f)
    ∙ ap (opened_by (cond (eqb o.side 2) false true)) (buy-mirrored o f)
    ∙ flipped-opened (eqb o.side 2) (buy_order o)

order-answers : (o : Order) → order_formed o ≡ true → accept_of (mirrored_order o) ≡ result_map_both flipped (λ r. r) (accept_of o)
unfolding accept_of
order-answers o f =
    ap₂ (λ (x : Result (Unit {0}) Refusal) (a : Auction). result_and x (Ok a)) (refusal-same o f) (opens-formed o f)
    ∙ go (order_refusal o)
  where
    go : (x : Result (Unit {0}) Refusal) → result_and x (Ok (flipped (auction_of o))) ≡ result_map_both flipped (λ r. r) (result_and x (Ok (auction_of o)))
    go (Ok u) = refl
    go (Err r) = refl

opens : (o : Order) → Accepts o → auction_of (mirrored_order o) ≡ flipped (auction_of o)
opens o h = opens-formed o (opened o h).formed

-- ---- events

-- the decision does not look at the side that the terms are for
sides-same : (t : Terms) (q : Quotes) (v : Sight) (m : Event) → outcome_of (flipped_terms t) q v m ≡ outcome_of t q v m
unfolding outcome_of gtx_outcome cancel_outcome amend_outcome sell_limit_outcome buy_limit_outcome limit_outcome market_outcome quotes_outcome
sides-same t q v m = refl

-- the same turn, for the other side
record Alike (x y : Turn) : Type 0 where
  answer : x.answer ≡ y.answer
  head : x.head ≡ flipped_head y.head
  change : x.change ≡ y.change

unless-alike : (h : Head) (p q : Result (Unit {0}) Refusal) (t u : Turn) → p ≡ q → Alike t u → Alike (unless_refused (flipped_head h) p t) (unless_refused h q u)
unless-alike h p q t u z k = subst (λ (x : Result (Unit {0}) Refusal). Alike (unless_refused (flipped_head h) x t) (unless_refused h q u)) (sym z) (go q)
  where
    go : (x : Result (Unit {0}) Refusal) → Alike (unless_refused (flipped_head h) x t) (unless_refused h x u)
    go (Err r) = record { answer = refl; head = refl; change = refl }
    go (Ok u) = k

alike-by : (b c : Bool) (x y u v : Turn) → b ≡ c → Alike x u → Alike y v → Alike (cond b x y) (cond c u v)
alike-by true true x y u v h p q = p
alike-by false false x y u v h p q = q
alike-by true false x y u v h p q = no h
alike-by false true x y u v h p q = no (sym h)

stays_same : (r : Answer) (h : Head) → Alike (stays r (flipped_head h)) (stays r h)
stays_same r h = record { answer = refl; head = refl; change = refl }

late-same : (h : Head) → Alike (stays Late (ended_by_time (flipped_head h))) (stays Late (ended_by_time h))
unfolding ended_by_time
late-same h = record { answer = refl; head = refl; change = refl }

-- what is seen of the mirrored event is what is seen of the event
sight-same : (b : Board) (e : Event) → sight_of b (mirrored_event e) ≡ sight_of b e
unfolding sight_of
sight-same b e = ap (λ (i : ℕ). record { free = place_at (first_free b); named = found_at b i }) found
  where
    go : (t : Bool) → (is_cancel e || is_amend e) ≡ t → cond t (find_gtx b (name_of (mirrored_event e))) 64 ≡ cond t (find_gtx b (name_of e)) 64
    go true z = ap (find_gtx b) (mirror-name e (names-is e z))
    go false z = refl

    found : found_for b (mirrored_event e) ≡ found_for b e
    found = ap (λ (k : ℕ). cond (eqb k 2 || eqb k 6) (find_gtx b (name_of (mirrored_event e))) 64) (mirror-kind e) ∙ go (is_cancel e || is_amend e) refl

module _ (h : Head) (v : Sight) (e : Event) where
  abbrev s : Bool
  s = h.terms.sell

  module _ (f : event_formed e ≡ true) where
    -- what the other side's auction hears of the mirrored event is what this one hears of the event
    same-event : buy_event (cond s false true) (mirrored_event e) ≡ buy_event s e
    unfolding buy_event
    same-event = go s
      where
        go : (t : Bool) → cond (cond t false true) (mirrored_event (mirrored_event e)) (mirrored_event e) ≡ cond t (mirrored_event e) e
        go true = refl
        go false = event-twice e f

    decided : Outcome
    decided = outcome_of h.terms h.quotes v (buy_event s e)

    outcome-same : outcome_of (flipped_terms h.terms) h.quotes v (buy_event (cond s false true) (mirrored_event e)) ≡ decided
    unfolding decided
    outcome-same = sides-same h.terms h.quotes v (buy_event (cond s false true) (mirrored_event e)) ∙ ap (outcome_of h.terms h.quotes v) same-event

    carried_same : (u : Outcome) → Alike (carried (flipped_head h) (mirrored_event e) u) (carried h e u)
    unfolding head_after
    carried_same (Err r) = record { answer = refl; head = refl; change = refl }
    carried_same (Ok d) = record { answer = refl; head = simp (mirror-sequence e, mirror-time e); change = refl }

    refusal_same : event_refusal (flipped_head h) (mirrored_event e) ≡ event_refusal h e
    unfolding event_refusal
    refusal_same = simp (f, event-form e f, mirror-sequence e, mirror-time e)

    turn-formed : Alike (turn_of (flipped_head h) v (mirrored_event e)) (turn_of h v e)
    unfolding turn_of decided
    turn-formed =
        unless-alike h _ _ _ _ refusal_same
        (alike-by _ _ _ _ _ _ (ap (leb h.terms.interval) (mirror-time e)) (late-same h)
        (subst (λ (u : Outcome). Alike (carried (flipped_head h) (mirrored_event e) u) (carried h e decided)) (sym outcome-same) (carried_same decided)))

  -- a record out of form is refused, whatever the side
  turn-unformed : event_formed e ≡ false → Alike (turn_of (flipped_head h) v e) (turn_of h v e)
  unfolding turn_of event_refusal
  turn-unformed f = rw f (go (is_open h.ending))
    where
      go : (b : Bool)
          → Alike (unless_refused (flipped_head h) (cond (not b) (Err AuctionEnded) (Err EventOutOfForm)) (cond (leb h.terms.interval e.time) (stays Late (ended_by_time (flipped_head h))) (carried (flipped_head h) e (outcome_of (flipped_terms h.terms) h.quotes v (buy_event (cond s false true) e)))))
          (unless_refused h (cond (not b) (Err AuctionEnded) (Err EventOutOfForm)) (cond (leb h.terms.interval e.time) (stays Late (ended_by_time h)) (carried h e (outcome_of h.terms h.quotes v (buy_event s e)))))
      go true = stays_same (No EventOutOfForm) h
      go false = stays_same (No AuctionEnded) h

  turns : Alike (turn_of (flipped_head h) v (mirrored_record e)) (turn_of h v e)
  turns = go (event_formed e) refl
    where
      go : (b : Bool) → event_formed e ≡ b → Alike (turn_of (flipped_head h) v (cond b (mirrored_event e) e)) (turn_of h v e)
      go true f = turn-formed f
      go false f = turn-unformed f

-- alike turns, seated
seated-alike : (b : Board) (x y : Turn) → Alike x y → ((seated_on b x).answer ≡ (seated_on b y).answer) × ((seated_on b x).auction ≡ flipped (seated_on b y).auction)
seated-alike b x y k = (k.answer, ap (λ (h : Head). record { head = h; board = board_after b x.change }) k.head ∙ ap (λ (c : Change). record { head = flipped_head y.head; board = board_after b c }) k.change)

-- what is seen of a record in the mirror is what is seen of it
record-sight : (b : Board) (e : Event) → sight_of b (mirrored_record e) ≡ sight_of b e
record-sight b e = by (λ (x : Event). sight_of b x ≡ sight_of b e) (event_formed e) _ _ (λ _. sight-same b e) (λ _. refl)

steps-by : (s : Sight) (a : Auction) (e : Event) → ((step_by s (flipped a) (mirrored_record e)).answer ≡ (step_by s a e).answer) × ((step_by s (flipped a) (mirrored_record e)).auction ≡ flipped (step_by s a e).auction)
steps-by s a e = seated-alike a.board (turn_of (flipped_head a.head) s (mirrored_record e)) (turn_of a.head s e) (turns a.head s e)

-- under the auction's own sight
pub steps : (a : Auction) (e : Event) → ((step_of (flipped a) (mirrored_record e)).answer ≡ (step_of a e).answer) × ((step_of (flipped a) (mirrored_record e)).auction ≡ flipped (step_of a e).auction)
steps a e =
    subst (λ (v : Sight). ((step_by v (flipped a) (mirrored_record e)).answer ≡ (step_of a e).answer) × ((step_by v (flipped a) (mirrored_record e)).auction ≡ flipped (step_of a e).auction))
    (sym (record-sight a.board e)) (steps-by (sight_of a.board e) a e)

closes : (a : Auction) → ((close_of (flipped a)).answer ≡ (close_of a).answer) × ((close_of (flipped a)).auction ≡ flipped (close_of a).auction)
unfolding close_turn
closes a =
    seated-alike a.board (close_turn (flipped_head a.head)) (close_turn a.head)
    (alike-by (is_open a.head.ending) (is_open a.head.ending) _ _ _ _ refl (late-same a.head) (stays_same (No AuctionEnded) a.head))

run-same : (es : List Event) (a : Auction) → run (flipped a) (mirrored_records es) ≡ flipped (run a es)
run-same [] a = refl
run-same (e ∷ es) a = ap (λ (b : Auction). run b (mirrored_records es)) (steps a e).1 ∙ run-same es (step_of a e).auction

-- a mirrored record bears the sequence of the record
pub same_name : (e : Event) → (mirrored_record e).sequence ≡ e.sequence
same_name e = by (λ (x : Event). x.sequence ≡ e.sequence) (event_formed e) _ _ (λ _. mirror-sequence e) (λ _. refl)

heard-same : (es : List Event) (a : Auction) → heard (flipped a) (mirrored_records es) ≡ heard a es
heard-same [] a = refl
heard-same (e ∷ es) a =
    let first : said (mirrored_record e).sequence (step_of (flipped a) (mirrored_record e)).answer ≡ said e.sequence (step_of a e).answer = simp (same_name e, (steps a e).0) in
    ap (λ (b : Auction). said (mirrored_record e).sequence (step_of (flipped a) (mirrored_record e)).answer ∷ heard b (mirrored_records es)) (steps a e).1
    ∙ ap (λ (rs : List Said). said (mirrored_record e).sequence (step_of (flipped a) (mirrored_record e)).answer ∷ rs) (heard-same es (step_of a e).auction)
    ∙ ap (λ (r : Said). r ∷ heard (step_of a e).auction es) first

plays : (o : Order) (es : List Event) → Accepts o → played (mirrored_order o) (mirrored_records es) ≡ flipped (played o es)
plays o es h =
    ap (λ (b : Auction). closed (run b (mirrored_records es))) (opens o h)
    ∙ ap closed (run-same es (auction_of o))
    ∙ (closes (run (auction_of o) es)).1

hears : (o : Order) (es : List Event) → Accepts o → heard (auction_of (mirrored_order o)) (mirrored_records es) ≡ heard (auction_of o) es
hears o es h = ap (λ (b : Auction). heard b (mirrored_records es)) (opens o h) ∙ heard-same es (auction_of o)

-- ---- fills: who trades does not look at the side

module _ (d : Deal) (t : Bool) where
  -- the deal for a side
  abbrev on : Deal
  on = record { sell = t; mode = d.mode; size = d.size; initiating = d.initiating; bound = d.bound; stop = d.stop; market = d.market; selling = d.selling }

  next-same : (from : ℕ) (rs : List Response) → next on from rs ≡ next d from rs
  unfolding next top
  next-same from [] = refl
  next-same from (r ∷ rs) = ap (min (cond (leb from (max r.price d.bound)) (max r.price d.bound) (top d))) (next-same from rs)

  module _ (rs : List Response) where
    level-same : (p left held : ℕ) → level_at on rs p left held ≡ level_at d rs p left held
    unfolding level_at offers_at mode3 mode2 mode1 entry top
    level-same p left held = refl

    walk_same : (n from left held : ℕ) → walk on rs n from left held ≡ walk d rs n from left held
    unfolding walk top
    walk_same zero from left held = refl
    walk_same (suc n) from left held = go (eqb left 0 || ltb (top d) from) (level_at on rs (next on from rs) left held) (level_at d rs (next d from rs) left held) same (λ f l h. walk_same n f l h)
      where
        same : level_at on rs (next on from rs) left held ≡ level_at d rs (next d from rs) left held
        same = level-same (next on from rs) left held ∙ ap (λ (p : ℕ). level_at d rs p left held) (next-same from rs)

        go : (b : Bool) (x y : Level) → x ≡ y → ((f l h : ℕ) → walk on rs n f l h ≡ walk d rs n f l h)
            → ◌≡◌ {A = List Level}
            (elim b [ true ↦ [] | false ↦ x ∷ walk on rs n (x.price + 1) (left - traded (level_fills x)) (held + contra x) ])
            (elim b [ true ↦ [] | false ↦ y ∷ walk d rs n (y.price + 1) (left - traded (level_fills y)) (held + contra y) ])
        go true x y h ih = refl
        go false x y h ih =
            ap (λ (ls : List Level). x ∷ ls) (ih (x.price + 1) (left - traded (level_fills x)) (held + contra x))
            ∙ ap (λ (l : Level). l ∷ walk d rs n (l.price + 1) (left - traded (level_fills l)) (held + contra l)) h

    market-same : market_price on rs ≡ market_price d rs
    unfolding market_price
    market-same = rw (next-same 0 rs) refl

    fills_same : fills on rs ≡ fills d rs
    unfolding fills levels top
    fills_same =
        ap (λ (p : ℕ). fill_of d.market p (min d.size d.selling) ++ flat (walk on rs (suc (top d)) 0 (d.size - min d.size d.selling) 0)) market-same
        ∙ ap (λ (ls : List Level). fill_of d.market (market_price d rs) (min d.size d.selling) ++ flat ls) (walk_same (suc (top d)) 0 (d.size - min d.size d.selling) 0)

-- prices mirrored twice are themselves
reported-back : (d : Deal) (fs : List Fill) → d.initiating ≤ 1000000 → Every (InRange d) fs → reported false fs ≡ mirrored_fills (reported true fs)
reported-back d [] h k = refl
reported-back d (f ∷ fs) h k =
    ap (λ (p : ℕ). fill f.party p f.quantity ∷ reported false fs) (sym (mirror-twice f.price (omega (arith, k.0.high))))
    ∙ ap (λ (gs : List Fill). fill f.party (mirrored (mirrored f.price)) f.quantity ∷ gs) (reported-back d fs h k.1)

reported-on : (fs : List Fill) → reported true fs ≡ mirrored_fills (reported false fs)
reported-on [] = refl
reported-on (f ∷ fs) = ap (λ (gs : List Fill). fill f.party (mirrored f.price) f.quantity ∷ gs) (reported-on fs)

trades : (a : Auction) → (a.head.terms.sell ≡ true → Sound a) → auction_fills (flipped a) ≡ mirrored_fills (auction_fills a)
unfolding fills_of deal_of bound_now
trades a k = ap (reported (cond a.head.terms.sell false true)) (fills_same (deal_of a.head) (cond a.head.terms.sell false true) rs) ∙ go a.head.terms.sell k
  where
    rs : List Response
    rs = offers a.board

    go : (t : Bool) → (t ≡ true → Sound a) → reported (cond t false true) (fills (deal_of a.head) rs) ≡ mirrored_fills (reported t (fills (deal_of a.head) rs))
    go false k = reported-on (fills (deal_of a.head) rs)
    go true k = reported-back (deal_of a.head) (fills (deal_of a.head) rs) (omega (arith, (k refl).price)) (demand3 (deal_of a.head) a.board (sound-deal a (k refl))).in-range

ranges : (a : Auction) → (a.head.terms.sell ≡ true → Sound a) → range_of (flipped a).head ≡ mirrored_range (range_of a.head)
unfolding range_of bound_now
ranges a k = go a.head.terms.sell k
  where
    span : ℕ → ℕ → Range
    span low high = record { low = low; high = high }

    high : ℕ
    high = a.head.terms.initiating

    low : ℕ
    low = bound_now a.head

    go : (t : Bool) → (t ≡ true → Sound a) → cond (cond t false true) (span (mirrored high) (mirrored low)) (span low high) ≡ mirrored_range (cond t (span (mirrored high) (mirrored low)) (span low high))
    go false k = refl
    go true k = sym (ap (λ (n : ℕ). span n (mirrored (mirrored high))) (mirror-twice low (omega (arith, (k refl).bound-below, (k refl).price))) ∙ ap (span low) (mirror-twice high (omega (arith, (k refl).price))))

pub mirrors : Mirrors
mirrors =
    record {
      accepts = order-answers;
      opens = opens;
      sees = record-sight;
      steps = steps-by;
      closes = closes;
      plays = plays;
      hears = hears;
      trades = trades;
      ranges = ranges;
    }
