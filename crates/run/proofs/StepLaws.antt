-- The turn by cases: what holds of each outcome holds of the turn, whatever sight it has of the board. Assumes nothing.
use mathlib.Core.Path.{◌≡◌, refl, sym, ap, ◌∙◌}
use mathlib.Core.Bool.{Bool, true, false, cond, not, ◌&&◌, ◌||◌}
use mathlib.Core.Logic.{inl, inr}
use Rattle.std.specs.Prelude.{Result, Ok, Err}
use Prim.Native.Nat.{ℕ, ◌+◌, ◌≤◌, ◌<◌, min, max}
use native.Mathlib.Omega.{arith}
use lib.Dec.{leb, ltb, eqb}
use borrow.Author.Tests.{ltb-true, ltb-false, leb-true, leb-false, eqb-true, ne_eqb, not-false}
use Rattle.base.specs.Refusal.{number_of}
use Rattle.base.specs.declared.refusal.Refusal.{Refusal}
use Rattle.base.specs.declared.refusal.Refusal.TheVariants.{OwnSide, AboveInitiating, NoSuchResponse, BoardFull}
use Rattle.base.proofs.Bools.{by, no, and-no-right}
use Rattle.tape.specs.declared.event.Event.{Event}
use Rattle.tape.specs.rules.Form.{event_formed}
use Rattle.mirror.specs.rules.Mirror.{buy_event}
use Rattle.auction.specs.rules.Accept.{tick_of, bound_of}
use Rattle.auction.specs.rules.Range.{is_open, bound_by}
use Rattle.auction.specs.declared.Head.{Head}
use Rattle.auction.specs.declared.Terms.{Terms}
use Rattle.auction.specs.declared.Quotes.{Quotes}
use Rattle.auction.specs.declared.Ending.{Ending}
use Rattle.auction.specs.declared.Ending.TheVariants.{Open, Same, Opposite, Improve}
use Rattle.events.specs.rules.Step.{event_refusal, stays, ended_by_time, unless_refused, carried, turn_of}
use Rattle.decision.specs.rules.Decide.{is_cancel, is_amend, is_customer, is_non_routable, response_of, gtx_outcome, cancel_outcome, amended_by, amend_outcome, sell_limit_outcome, bid_quotes, moves, buy_limit_outcome, limit_outcome, market_outcome, new_quotes, quotes_outcome, Outcome, does, outcome_of, free_place, old_place, old_response}
use Rattle.tape.specs.rules.Fields.{size_of, price_of, new_price_of}
use Rattle.run.specs.promises.Demands.{Ordinary, InTime, Names}
use Rattle.events.specs.declared.Answer.TheVariants.{Late, Refused}
use Rattle.decision.specs.declared.Sight.{Sight}
use Rattle.events.specs.declared.Turn.{Turn}
use Rattle.decision.specs.declared.Change.TheVariants.{Nothing, Seat, Free, Quote, Sell}

-- ---- the decision

-- a bid that moves nothing leaves the bound
bid-still : (t : Terms) (q : Quotes) (p : ℕ) (c : Bool) → moves q p c ≡ false → bound_by t (bid_quotes q p c) ≡ bound_by t q
unfolding bid_quotes bound_of
bid-still t q p c h = go (ltb q.bb p) (eqb p q.bb) c q.bidmark refl refl h
  where
    same : max q.bb p ≡ q.bb → (b : Bool) → max t.floor (max q.bb p + tick_of t.size b) ≡ max t.floor (q.bb + tick_of t.size b)
    same e b = ap (λ (x : ℕ). max t.floor (x + tick_of t.size b)) e

    go : (l e c b : Bool) → ltb q.bb p ≡ l → eqb p q.bb ≡ e → (l || (e && c && not b)) ≡ false
        → max t.floor (max q.bb p + tick_of t.size (cond l c (b || (e && c)))) ≡ max t.floor (q.bb + tick_of t.size b)
    go true e c b hl he z = no z
    go false true true true hl he z = same (omega (arith, ltb-false q.bb p hl)) true
    go false true true false hl he z = no z
    go false true false true hl he z = same (omega (arith, ltb-false q.bb p hl)) true
    go false true false false hl he z = same (omega (arith, ltb-false q.bb p hl)) false
    go false false c true hl he z = same (omega (arith, ltb-false q.bb p hl)) true
    go false false c false hl he z = same (omega (arith, ltb-false q.bb p hl)) false

-- a refusal of an event by its kind, and one of any event
abbrev pub OfKind : Refusal → Type 0
OfKind r = (35 ≤ number_of r) × (number_of r ≤ 38)

abbrev pub OfAny : Refusal → Type 0
OfAny r = (31 ≤ number_of r) × (number_of r ≤ 34)

-- an event that takes no place, frees none and amends none, and is no sell at the market
pub record Leaves (t : Terms) (m : Event) : Type 0 where
  pub no-gtx : eqb m.kind 1 ≡ false
  pub no-cancel : eqb m.kind 2 ≡ false
  pub no-amend : eqb m.kind 6 ≡ false
  pub no_place : eqb m.kind 3 ≡ true → (not (eqb m.side 1) && leb (price_of m) t.initiating) ≡ false
  pub no-sell : eqb m.kind 4 ≡ true → eqb m.side 1 ≡ true

-- what is known of each outcome of an event m
pub record Outcomes (t : Terms) (q : Quotes) (s : Sight) (m : Event) (P : Outcome → Type 0) : Type 0 where
  pub refuses : (r : Refusal) → OfKind r → P (Err r)
  pub nothing : (g : Ending) → Leaves t m → P (does Nothing g)
  pub gtx : m.kind ≡ 1 → eqb m.side 1 ≡ false → free_place s < 64 → price_of m ≤ t.initiating → P (does (Seat (free_place s) (response_of true (min (size_of m) t.size) m) 0) Open)
  pub limit : (g : Ending) → m.kind ≡ 3 → eqb m.side 1 ≡ false → free_place s < 64 → price_of m ≤ t.initiating → P (does (Seat (free_place s) (response_of false (size_of m) m) 0) g)
  pub clear : m.kind ≡ 2 → old_place s < 64 → P (does (Free (old_place s) (old_response s).size) Open)
  pub amend : m.kind ≡ 6 → old_place s < 64 → new_price_of m ≤ t.initiating → P (does (Seat (old_place s) (amended_by t (old_response s) m) (old_response s).size) Open)
  pub quote : (n : Quotes) → (bound_by t q ≤ t.initiating → bound_by t n ≤ t.initiating) → Leaves t m → P (does (Quote n) Open)
  pub sell : m.kind ≡ 4 → eqb m.side 1 ≡ false → P (does (Sell (record { sequence = m.sequence; size = size_of m })) Opposite)

module _ (t : Terms) (q : Quotes) (s : Sight) (m : Event) (P : Outcome → Type 0) (k : Outcomes t q s m P) where
  -- a limit order that does not take a place, a buy at the market, and what is of no kind up to 4 and not of kind 6
  limit-leaves : m.kind ≡ 3 → (not (eqb m.side 1) && leb (price_of m) t.initiating) ≡ false → Leaves t m
  limit-leaves e h = record { no-gtx = ne_eqb m.kind 1 (λ z. omega arith); no-cancel = ne_eqb m.kind 2 (λ z. omega arith); no-amend = ne_eqb m.kind 6 (λ z. omega arith); no_place = λ _. h; no-sell = λ z. absurd (omega (arith, eqb-true m.kind 4 z)) }

  market-leaves : m.kind ≡ 4 → eqb m.side 1 ≡ true → Leaves t m
  market-leaves e h = record { no-gtx = ne_eqb m.kind 1 (λ z. omega arith); no-cancel = ne_eqb m.kind 2 (λ z. omega arith); no-amend = ne_eqb m.kind 6 (λ z. omega arith); no_place = λ z. absurd (omega (arith, eqb-true m.kind 3 z)); no-sell = λ _. h }

  rest-leaves : eqb m.kind 1 ≡ false → eqb m.kind 2 ≡ false → eqb m.kind 3 ≡ false → eqb m.kind 4 ≡ false → eqb m.kind 6 ≡ false → Leaves t m
  rest-leaves a b c d f = record { no-gtx = a; no-cancel = b; no-amend = f; no_place = λ z. no (sym z ∙ c); no-sell = λ z. no (sym z ∙ d) }

  gtx-case : m.kind ≡ 1 → P (gtx_outcome t s m)
  unfolding gtx_outcome
  gtx-case e =
      by P (eqb m.side 1) _ _ (λ _. k.refuses OwnSide (omega arith, omega arith)) (λ d.
      by P (ltb t.initiating (price_of m)) _ _ (λ _. k.refuses AboveInitiating (omega arith, omega arith)) (λ p.
      by P (ltb (free_place s) 64) _ _ (λ f. k.gtx e d (ltb-true _ _ f) (ltb-false _ _ p)) (λ _. k.refuses BoardFull (omega arith, omega arith))))

  cancel-case : m.kind ≡ 2 → P (cancel_outcome s)
  unfolding cancel_outcome
  cancel-case e = by P (ltb (old_place s) 64) _ _ (λ h. k.clear e (ltb-true _ _ h)) (λ _. k.refuses NoSuchResponse (omega arith, omega arith))

  amend-case : m.kind ≡ 6 → P (amend_outcome t s m)
  unfolding amend_outcome
  amend-case e =
      by P (ltb t.initiating (new_price_of m)) _ _ (λ _. k.refuses AboveInitiating (omega arith, omega arith)) (λ p.
      by P (ltb (old_place s) 64) _ _ (λ h. k.amend e (ltb-true _ _ h) (ltb-false _ _ p)) (λ _. k.refuses NoSuchResponse (omega arith, omega arith)))

  sell-limit-case : m.kind ≡ 3 → eqb m.side 1 ≡ false → P (sell_limit_outcome t q s m)
  unfolding sell_limit_outcome
  sell-limit-case e d =
      by P (leb (price_of m) t.initiating) _ _
      (λ p. by P (ltb (free_place s) 64) _ _ (λ f. k.limit (cond (leb (price_of m) (cond (is_non_routable m) q.bb q.nbb)) Opposite Open) e d (ltb-true _ _ f) (leb-true _ _ p)) (λ _. k.refuses BoardFull (omega arith, omega arith)))
      (λ p. k.nothing (cond (leb (price_of m) (cond (is_non_routable m) q.bb q.nbb)) Opposite Open) (limit-leaves e (and-no-right (not (eqb m.side 1)) p)))

  buy-limit-case : Leaves t m → P (buy_limit_outcome t q m)
  unfolding buy_limit_outcome
  buy-limit-case l =
      by P (leb (cond (is_non_routable m) q.bo q.nbo) (price_of m)) _ _ (λ _. k.nothing Same l) (λ _.
      by P (moves q (price_of m) (is_customer m) && ltb t.initiating (bound_by t (bid_quotes q (price_of m) (is_customer m)))) _ _ (λ _. k.nothing Improve l) (λ h.
      k.quote (bid_quotes q (price_of m) (is_customer m)) (kept (moves q (price_of m) (is_customer m)) (ltb t.initiating (bound_by t (bid_quotes q (price_of m) (is_customer m)))) refl refl h) l))
    where
      kept : (x y : Bool) → moves q (price_of m) (is_customer m) ≡ x → ltb t.initiating (bound_by t (bid_quotes q (price_of m) (is_customer m))) ≡ y → (x && y) ≡ false
          → bound_by t q ≤ t.initiating → bound_by t (bid_quotes q (price_of m) (is_customer m)) ≤ t.initiating
      kept true true hx hy z b = no z
      kept true false hx hy z b = ltb-false _ _ hy
      kept false y hx hy z b = omega (arith, bid-still t q (price_of m) (is_customer m) hx)

  limit-case : m.kind ≡ 3 → P (limit_outcome t q s m)
  unfolding limit_outcome
  limit-case e = by P (eqb m.side 1) _ _ (λ d. buy-limit-case (limit-leaves e (ap (λ (b : Bool). not b && leb (price_of m) t.initiating) d))) (λ d. sell-limit-case e d)

  market-case : m.kind ≡ 4 → P (market_outcome m)
  unfolding market_outcome
  market-case e = by P (eqb m.side 1) _ _ (λ d. k.nothing Same (market-leaves e d)) (λ d. k.sell e d)

  quotes-case : Leaves t m → P (quotes_outcome t m)
  unfolding quotes_outcome
  quotes-case l = by P (ltb t.initiating (bound_by t (new_quotes m))) _ _ (λ _. k.nothing Improve l) (λ h. k.quote (new_quotes m) (λ _. ltb-false _ _ h) l)

  pub outcomes : P (outcome_of t q s m)
  unfolding outcome_of
  outcomes =
      by P (eqb m.kind 1) _ _ (λ e. gtx-case (eqb-true _ _ e)) (λ a.
      by P (eqb m.kind 2) _ _ (λ e. cancel-case (eqb-true _ _ e)) (λ b.
      by P (eqb m.kind 3) _ _ (λ e. limit-case (eqb-true _ _ e)) (λ c.
      by P (eqb m.kind 4) _ _ (λ e. market-case (eqb-true _ _ e)) (λ d.
      by P (eqb m.kind 6) _ _ (λ e. amend-case (eqb-true _ _ e)) (λ f. quotes-case (rest-leaves a b c d f))))))

-- an event that names a GTX response is a cancel or an amend
pub names-is : (m : Event) → (is_cancel m || is_amend m) ≡ true → Names m
names-is m z = go (is_cancel m) (is_amend m) refl refl z
  where
    go : (x y : Bool) → is_cancel m ≡ x → is_amend m ≡ y → (x || y) ≡ true → Names m
    go true y p q h = inl (eqb-true _ _ p)
    go false true p q h = inr (eqb-true _ _ q)
    go false false p q h = no (sym h)

-- ---- the turn

module _ (h : Head) (e : Event) where
  -- what the first tests say of an event: it is ordinary, or refused by 31 to 34
  abbrev Tested : Result (Unit {0}) Refusal → Type 0
  Tested (Ok u) = Ordinary h e
  Tested (Err r) = OfAny r

  tested : Tested (event_refusal h e)
  unfolding event_refusal
  tested =
      by Tested (not (is_open h.ending)) _ _ (λ _. (omega arith, omega arith)) (λ o.
      by Tested (not (event_formed e)) _ _ (λ _. (omega arith, omega arith)) (λ f.
      by Tested (leb e.sequence h.sequence) _ _ (λ _. (omega arith, omega arith)) (λ s.
      by Tested (ltb e.time h.clock) _ _ (λ _. (omega arith, omega arith)) (λ t.
      record { opened = not-false _ o; formed = not-false _ f; newer = leb-false _ _ s; later = ltb-false _ _ t }))))

  module _ (s : Sight) where
    -- P holds of the turn where it holds of each of its outcomes
    pub record Cases (P : Turn → Type 0) : Type 0 where
      pub refused : (r : Refusal) → OfAny r → P (stays (Refused r) h)
      pub late : Ordinary h e → P (stays Late (ended_by_time h))
      pub does : InTime h e → Outcomes h.terms h.quotes s (buy_event h.terms.sell e) (λ o. P (carried h e o))

    pub cases : (P : Turn → Type 0) → Cases P → P (turn_of h s e)
    unfolding turn_of
    cases P k = go (event_refusal h e) tested
      where
        go : (q : Result (Unit {0}) Refusal) → Tested q → P (unless_refused h q (cond (leb h.terms.interval e.time) (stays Late (ended_by_time h)) (carried h e (outcome_of h.terms h.quotes s (buy_event h.terms.sell e)))))
        go (Err r) n = k.refused r n
        go (Ok u) o =
            by P (leb h.terms.interval e.time) _ _ (λ _. k.late o) (λ l.
            outcomes h.terms h.quotes s (buy_event h.terms.sell e) (λ o. P (carried h e o)) (k.does (record { ordinary = o; early = leb-false _ _ l })))
