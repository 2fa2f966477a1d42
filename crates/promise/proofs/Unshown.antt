-- The participants of the records are in no answer, no fill and no line: with all of them erased every definition gives the same. Assumes nothing.
use mathlib.Core.Path.{◌≡◌, refl, sym, ap, ap₂, subst, ◌∙◌}
use mathlib.Core.Bool.{Bool, true, false, cond, ◌&&◌, ◌||◌}
use mathlib.Core.List.{List, [], ◌∷◌, ◌++◌, map}
use Prim.Native.Nat.{ℕ, zero, suc, ◌+◌, ◌-◌, ◌/◌, ◌%◌, min}
use lib.Dec.{leb, ltb, eqb}
use lib.ListN.{length, set, length-map, get_or-map}
use Rattle.auction.proofs.Accepted.{opened}
use Rattle.std.specs.Prelude.{Err, None, Ok, Option, Result, Some}
use Rattle.base.specs.Lists.{keep, filter, sum}
use Rattle.base.specs.declared.refusal.Refusal.{Refusal}
use Rattle.base.specs.declared.refusal.Refusal.TheVariants.{NoSuchResponse, BoardFull}
use Rattle.base.proofs.Bools.{by}
use Rattle.words.specs.rules.Bits.{with_bit}
use Rattle.board.specs.declared.Response.{Response}
use Rattle.board.specs.declared.Board.{Board}
use Rattle.board.specs.rules.Board.{no_response, response_at, empty_board, first_free, live_in, seated_at, find_in, is_named, inserted, in_sequence, place_at, found_at, found_place, found_response}
use Rattle.board.specs.declared.Found.{Found}
use Rattle.share.specs.rules.Fills.{Fill, fill_of, fills_by, sizes}
use Rattle.share.specs.rules.Share.{in_turn, shares}
use Rattle.tape.specs.declared.order.Order.{Order}
use Rattle.tape.specs.declared.event.Event.{Event}
use Rattle.tape.specs.rules.Form.{shape_tests, event_formed}
use Rattle.tape.specs.rules.Fields.{size_of, name_of}
use Rattle.mirror.specs.rules.Mirror.{mirrored_priced, mirrored_market, mirrored_quotes, mirrored_amend, mirrored_event, buy_event}
use Rattle.trade.specs.declared.Deal.{Deal}
use Rattle.trade.specs.rules.Trade.{Level, offers, from_customer, from_other, customers, others, given, contra, level_fills, traded, flat, working, working_stop, top, next, guarantee_of, offers_at, level_at, walk, market_price, levels, fills}
use Rattle.trade.specs.rules.Plan.{plan_of}
use Rattle.trade.specs.rules.Write.{reported, fills_of}
use Rattle.auction.specs.rules.Accept.{opened_by, auction_of, accept_of}
use Rattle.auction.specs.rules.Range.{is_open, bound_by}
use Rattle.auction.specs.declared.Auction.{Auction}
use Rattle.auction.specs.declared.Head.{Head}
use Rattle.auction.specs.declared.Terms.{Terms}
use Rattle.auction.specs.declared.Quotes.{Quotes}
use Rattle.auction.specs.declared.Ending.{Ending}
use Rattle.auction.specs.declared.Ending.TheVariants.{Open}
use Rattle.decision.specs.declared.Sight.{Sight}
use Rattle.decision.specs.declared.Change.{Change}
use Rattle.decision.specs.declared.Change.TheVariants.{Nothing, Seat, Free, Quote, Sell}
use Rattle.decision.specs.rules.Decide.{Outcome, does, is_cancel, is_amend, is_customer, is_non_routable, response_of, seats, amended_by, gtx_outcome, cancel_outcome, amend_outcome, sell_limit_outcome, bid_quotes, moves, buy_limit_outcome, limit_outcome, market_outcome, new_quotes, quotes_outcome, outcome_of, free_place}
use Rattle.events.specs.declared.Turn.{Turn}
use Rattle.events.specs.declared.Stepped.{Stepped}
use Rattle.events.specs.rules.Step.{event_refusal, found_for, sight_of, board_after, head_after, unless_refused, carried, turn_of, close_turn, gives, seated_on, step_of}
use Rattle.fills.specs.rules.Fills.{deal_of, auction_fills}
use Rattle.run.specs.rules.Run.{Said, said, run, heard, closed, played, run_entry}
use Rattle.listing.specs.rules.Listing.{auction_line, event_lines, end_line, fill_lines, total_line, end_lines, lines_of, listing_of}
use Rattle.promise.specs.rules.Tapes.{Carries}
use Rattle.promise.specs.promises.Parts.{unnamed, Unshown}
use Rattle.promise.proofs.Answered.{run-carries}

-- ---- the participants erased, wherever they are

abbrev bare : Response → Response
bare r = record { sequence = r.sequence; size = r.size; price = r.price; participant = 0; customer = r.customer; gtx = r.gtx }

abbrev bare_board : Board → Board
bare_board b = record { places = map bare b.places; live = b.live }

abbrev bare_auction : Auction → Auction
bare_auction a = record { head = a.head; board = bare_board a.board }

abbrev bare_found : Option Found → Option Found
bare_found None = None
bare_found (Some f) = Some (record { place = f.place; response = bare f.response })

abbrev bare_sight : Sight → Sight
bare_sight s = record { free = s.free; named = bare_found s.named }

abbrev bare_change : Change → Change
bare_change Nothing = Nothing
bare_change (Seat i r gone) = Seat i (bare r) gone
bare_change (Free i gone) = Free i gone
bare_change (Quote q) = Quote q
bare_change (Sell m) = Sell m

abbrev bare_outcome : Outcome → Outcome
bare_outcome (Err r) = Err r
bare_outcome (Ok d) = does (bare_change d.change) d.ending

abbrev bare_turn : Turn → Turn
bare_turn t = record { answer = t.answer; head = t.head; change = bare_change t.change }

-- u is x after f: as a type of its own, so that both are found where it is used
record Is {A : Type 0} (f : A → A) (u x : A) : Type 0 where
  same : u ≡ f x

-- a choice by a test, side by side
each : {A : Type 0} {f : A → A} (b : Bool) {x y u v : A} → Is f u x → Is f v y → Is f (cond b u v) (cond b x y)
each true p q = p
each false p q = q

unless-bare : (h : Head) (q : Result (Unit {0}) Refusal) {t u : Turn} → Is bare_turn t u → Is bare_turn (unless_refused h q t) (unless_refused h q u)
unless-bare h (Err r) k = record { same = refl }
unless-bare h (Ok x) k = k

-- ---- the form of an event, and its mirror

form-same : (e : Event) → event_formed (unnamed e) ≡ event_formed e
unfolding event_formed shape_tests
form-same e = refl

mirrored-bare : (e : Event) → Is unnamed (mirrored_event (unnamed e)) (mirrored_event e)
unfolding mirrored_event mirrored_priced mirrored_market mirrored_quotes mirrored_amend
mirrored-bare e =
    each (eqb e.kind 1) (record { same = refl })
    (each (eqb e.kind 3) (record { same = refl })
    (each (eqb e.kind 4) (record { same = refl })
    (each (eqb e.kind 5) (record { same = refl })
    (each (eqb e.kind 6) (record { same = refl })
    (record { same = refl })))))

buy-bare : (sell : Bool) (e : Event) → Is unnamed (buy_event sell (unnamed e)) (buy_event sell e)
unfolding buy_event
buy-bare sell e = each sell (mirrored-bare e) (record { same = refl })

-- ---- what is decided

seats-bare : (place : ℕ) (r : Response) (gone : ℕ) (ending : Ending) (none : Refusal) → Is bare_outcome (seats place (bare r) gone ending none) (seats place r gone ending none)
seats-bare place r gone ending none = each (ltb place 64) (record { same = refl }) (record { same = refl })

module _ (t : Terms) (q : Quotes) (s : Sight) (e : Event) where
  gtx-bare : Is bare_outcome (gtx_outcome t (bare_sight s) (unnamed e)) (gtx_outcome t s e)
  unfolding gtx_outcome
  gtx-bare =
      each (eqb e.side 1) (record { same = refl })
      (each (ltb t.initiating e.f16) (record { same = refl })
      (seats-bare (free_place s) (response_of true (min (size_of e) t.size) e) 0 Open BoardFull))

  cancel-bare : Is bare_outcome (cancel_outcome (bare_sight s)) (cancel_outcome s)
  unfolding cancel_outcome
  cancel-bare = go s.named
    where
      go : (n : Option Found) → Is bare_outcome (cancel_outcome (bare_sight (record { free = s.free; named = n }))) (cancel_outcome (record { free = s.free; named = n }))
      go None = record { same = refl }
      go (Some f) = each (ltb f.place 64) (record { same = refl }) (record { same = refl })

  amend-bare : Is bare_outcome (amend_outcome t (bare_sight s) (unnamed e)) (amend_outcome t s e)
  unfolding amend_outcome
  amend-bare = each (ltb t.initiating e.f20) (record { same = refl }) (go s.named)
    where
      go : (n : Option Found) → Is bare_outcome (seats (found_place (bare_found n)) (amended_by t (found_response (bare_found n)) (unnamed e)) (found_response (bare_found n)).size Open NoSuchResponse) (seats (found_place n) (amended_by t (found_response n) e) (found_response n).size Open NoSuchResponse)
      go None = record { same = refl }
      go (Some f) = seats-bare f.place (amended_by t f.response e) f.response.size Open NoSuchResponse

  sell-bare : Is bare_outcome (sell_limit_outcome t q (bare_sight s) (unnamed e)) (sell_limit_outcome t q s e)
  unfolding sell_limit_outcome
  sell-bare = each (leb e.f16 t.initiating) (seats-bare (free_place s) (response_of false (size_of e) e) 0 _ BoardFull) (record { same = refl })

  buy-limit-bare : Is bare_outcome (buy_limit_outcome t q (unnamed e)) (buy_limit_outcome t q e)
  unfolding buy_limit_outcome
  buy-limit-bare =
      each (leb (cond (is_non_routable e) q.bo q.nbo) e.f16) (record { same = refl })
      (each (moves q e.f16 (is_customer e) && ltb t.initiating (bound_by t (bid_quotes q e.f16 (is_customer e)))) (record { same = refl }) (record { same = refl }))

  limit-bare : Is bare_outcome (limit_outcome t q (bare_sight s) (unnamed e)) (limit_outcome t q s e)
  unfolding limit_outcome
  limit-bare = each (eqb e.side 1) buy-limit-bare sell-bare

  market-bare : Is bare_outcome (market_outcome (unnamed e)) (market_outcome e)
  unfolding market_outcome
  market-bare = each (eqb e.side 1) (record { same = refl }) (record { same = refl })

  quotes-bare : Is bare_outcome (quotes_outcome t (unnamed e)) (quotes_outcome t e)
  unfolding quotes_outcome new_quotes
  quotes-bare = each (ltb t.initiating (bound_by t (new_quotes e))) (record { same = refl }) (record { same = refl })

  outcome-bare : Is bare_outcome (outcome_of t q (bare_sight s) (unnamed e)) (outcome_of t q s e)
  unfolding outcome_of
  outcome-bare =
      each (eqb e.kind 1) gtx-bare
      (each (is_cancel e) cancel-bare
      (each (eqb e.kind 3) limit-bare
      (each (eqb e.kind 4) market-bare
      (each (is_amend e) amend-bare
      quotes-bare))))

-- ---- the turn

module _ (h : Head) (s : Sight) (e : Event) where
  carried-bare : (o : Outcome) → carried h (unnamed e) (bare_outcome o) ≡ bare_turn (carried h e o)
  unfolding head_after
  carried-bare (Err r) = refl
  carried-bare (Ok d) = go d.change d.ending
    where
      go : (c : Change) (g : Ending) → carried h (unnamed e) (does (bare_change c) g) ≡ bare_turn (carried h e (does c g))
      go Nothing g = refl
      go (Seat i r gone) g = refl
      go (Free i gone) g = refl
      go (Quote q) g = refl
      go (Sell m) g = refl

  decided-bare : outcome_of h.terms h.quotes (bare_sight s) (buy_event h.terms.sell (unnamed e)) ≡ bare_outcome (outcome_of h.terms h.quotes s (buy_event h.terms.sell e))
  decided-bare =
      ap (outcome_of h.terms h.quotes (bare_sight s)) (buy-bare h.terms.sell e).same
      ∙ (outcome-bare h.terms h.quotes s (buy_event h.terms.sell e)).same

  taken-bare : Is bare_turn (carried h (unnamed e) (outcome_of h.terms h.quotes (bare_sight s) (buy_event h.terms.sell (unnamed e)))) (carried h e (outcome_of h.terms h.quotes s (buy_event h.terms.sell e)))
  taken-bare = record { same = ap (carried h (unnamed e)) decided-bare ∙ carried-bare (outcome_of h.terms h.quotes s (buy_event h.terms.sell e)) }

  turn-bare : Is bare_turn (turn_of h (bare_sight s) (unnamed e)) (turn_of h s e)
  unfolding turn_of event_refusal event_formed shape_tests
  turn-bare =
      unless-bare h (event_refusal h e) (each (leb h.terms.interval e.time) (record { same = refl }) taken-bare)

-- ---- the board

find-bare : (any : Bool) (n w : ℕ) (ps : List Response) → find_in (is_named any n) w (map bare ps) ≡ find_in (is_named any n) w ps
unfolding find_in
find-bare any n w [] = refl
find-bare any n w (p ∷ ps) = ap (λ (k : ℕ). cond (eqb (w % 2) 1 && is_named any n p) 0 (suc k)) (find-bare any n (w / 2) ps)

set-bare : (ps : List Response) (i : ℕ) (r : Response) → set (map bare ps) i (bare r) ≡ map bare (set ps i r)
set-bare [] i r = refl
set-bare (p ∷ ps) zero r = refl
set-bare (p ∷ ps) (suc i) r = ap (λ (xs : List Response). bare p ∷ xs) (set-bare ps i r)

live-bare : (w : ℕ) (ps : List Response) → live_in w (map bare ps) ≡ map bare (live_in w ps)
unfolding live_in
live-bare w [] = refl
live-bare w (p ∷ ps) = ap (keep (eqb (w % 2) 1) (bare p)) (live-bare (w / 2) ps) ∙ go (eqb (w % 2) 1)
  where
    go : (b : Bool) → keep b (bare p) (map bare (live_in (w / 2) ps)) ≡ map bare (keep b p (live_in (w / 2) ps))
    go true = refl
    go false = refl

found-bare : (b : Board) (e : Event) → found_for (bare_board b) (unnamed e) ≡ found_for b e
found-bare b e = ap (λ (i : ℕ). cond (is_cancel e || is_amend e) i 64) (find-bare false (name_of e) b.live b.places)

at-bare : (b : Board) (i : ℕ) → found_at (bare_board b) i ≡ bare_found (found_at b i)
at-bare b i = go (eqb i 64)
  where
    go : (t : Bool) → cond t None (Some (record { place = i; response = response_at (map bare b.places) i })) ≡ bare_found (cond t None (Some (record { place = i; response = response_at b.places i })))
    go true = refl
    go false = ap (λ (r : Response). Some (record { place = i; response = r })) (get_or-map bare b.places i no_response)

sight-bare : (b : Board) (e : Event) → sight_of (bare_board b) (unnamed e) ≡ bare_sight (sight_of b e)
unfolding sight_of
sight-bare b e =
    ap (λ (i : ℕ). record { free = place_at (first_free b); named = found_at (bare_board b) i }) (found-bare b e)
    ∙ ap (λ (n : Option Found). record { free = place_at (first_free b); named = n }) (at-bare b (found_for b e))

board-bare : (b : Board) (c : Change) → board_after (bare_board b) (bare_change c) ≡ bare_board (board_after b c)
unfolding seated_at
board-bare b Nothing = refl
board-bare b (Seat i r gone) = go (ltb i 64)
  where
    go : (t : Bool) → cond t (record { places = set (map bare b.places) i (bare r); live = with_bit b.live i }) (bare_board b) ≡ bare_board (cond t (record { places = set b.places i r; live = with_bit b.live i }) b)
    go true = ap (λ (ps : List Response). record { places = ps; live = with_bit b.live i }) (set-bare b.places i r)
    go false = refl
board-bare b (Free i gone) = refl
board-bare b (Quote q) = refl
board-bare b (Sell m) = refl

-- ---- the step, the run and its end

step-bare : (a : Auction) (e : Event) → step_of (bare_auction a) (unnamed e) ≡ gives (step_of a e).answer (bare_auction (step_of a e).auction)
step-bare a e =
    let t : Turn = turn_of a.head (sight_of a.board e) e in
    ap (λ (s : Sight). seated_on (bare_board a.board) (turn_of a.head s (unnamed e))) (sight-bare a.board e)
    ∙ ap (seated_on (bare_board a.board)) (turn-bare a.head (sight_of a.board e) e).same
    ∙ ap (λ (b : Board). gives t.answer (record { head = t.head; board = b })) (board-bare a.board t.change)

run-bare : (es : List Event) (a : Auction) → run (bare_auction a) (map unnamed es) ≡ bare_auction (run a es)
run-bare [] a = refl
run-bare (e ∷ es) a = ap (λ (p : Stepped). run p.auction (map unnamed es)) (step-bare a e) ∙ run-bare es (step_of a e).auction

heard-bare : (es : List Event) (a : Auction) → heard (bare_auction a) (map unnamed es) ≡ heard a es
heard-bare [] a = refl
heard-bare (e ∷ es) a =
    ap (λ (p : Stepped). said e.sequence p.answer ∷ heard p.auction (map unnamed es)) (step-bare a e)
    ∙ ap (λ (rs : List Said). said e.sequence (step_of a e).answer ∷ rs) (heard-bare es (step_of a e).auction)

closed-bare : (a : Auction) → closed (bare_auction a) ≡ bare_auction (closed a)
unfolding close_turn
closed-bare a = by (λ (t : Turn). (seated_on (bare_board a.board) t).auction ≡ bare_auction (seated_on a.board t).auction) (is_open a.head.ending) _ _ (λ _. refl) (λ _. refl)

-- an auction opens with no response, and so with no participant
opens-bare : (o : Order) → auction_of o ≡ bare_auction (auction_of o)
unfolding opened_by empty_board
opens-bare o = refl

answers-same : (o : Order) (es : List Event) → heard (auction_of o) (map unnamed es) ≡ heard (auction_of o) es
answers-same o es = ap (λ (a : Auction). heard a (map unnamed es)) (opens-bare o) ∙ heard-bare es (auction_of o)

played-bare : (o : Order) (es : List Event) → played o (map unnamed es) ≡ bare_auction (played o es)
played-bare o es =
    ap (λ (a : Auction). closed (run a (map unnamed es))) (opens-bare o)
    ∙ ap closed (run-bare es (auction_of o))
    ∙ closed-bare (run (auction_of o) es)

-- ---- who trades

filter-bare : (t : Response → Bool) (rs : List Response) → ((r : Response) → t (bare r) ≡ t r) → filter t (map bare rs) ≡ map bare (filter t rs)
unfolding filter
filter-bare t [] h = refl
filter-bare t (r ∷ rs) h = rw (h r) (go (t r) (filter-bare t rs h))
  where
    go : (b : Bool) → filter t (map bare rs) ≡ map bare (filter t rs) → keep b (bare r) (filter t (map bare rs)) ≡ map bare (keep b r (filter t rs))
    go true e = ap (λ (xs : List Response). bare r ∷ xs) e
    go false e = e

inserted-bare : (r : Response) (rs : List Response) → inserted (bare r) (map bare rs) ≡ map bare (inserted r rs)
unfolding inserted
inserted-bare r [] = refl
inserted-bare r (x ∷ rs) = go (leb r.sequence x.sequence) (inserted-bare r rs)
  where
    go : (b : Bool) → inserted (bare r) (map bare rs) ≡ map bare (inserted r rs) → cond b (bare r ∷ bare x ∷ map bare rs) (bare x ∷ inserted (bare r) (map bare rs)) ≡ map bare (cond b (r ∷ x ∷ rs) (x ∷ inserted r rs))
    go true ih = refl
    go false ih = ap (λ (xs : List Response). bare x ∷ xs) ih

sequence-bare : (rs : List Response) → in_sequence (map bare rs) ≡ map bare (in_sequence rs)
unfolding in_sequence
sequence-bare [] = refl
sequence-bare (r ∷ rs) = ap (inserted (bare r)) (sequence-bare rs) ∙ inserted-bare r (in_sequence rs)

offers-bare : (b : Board) → offers (bare_board b) ≡ map bare (offers b)
offers-bare b = ap in_sequence (live-bare b.live b.places) ∙ sequence-bare (live_in b.live b.places)

sizes-bare : (rs : List Response) → sizes (map bare rs) ≡ sizes rs
sizes-bare [] = refl
sizes-bare (r ∷ rs) = ap (λ (ns : List ℕ). r.size ∷ ns) (sizes-bare rs)

fills-by-bare : (p : ℕ) (rs : List Response) (qs : List ℕ) → fills_by p (map bare rs) qs ≡ fills_by p rs qs
fills-by-bare p [] qs = refl
fills-by-bare p (r ∷ rs) [] = refl
fills-by-bare p (r ∷ rs) (q ∷ qs) = ap (λ (fs : List Fill). fill_of r.sequence p q ++ fs) (fills-by-bare p rs qs)

abbrev bare_level : Level → Level
bare_level l = record { price = l.price; left = l.left; held = l.held; want = l.want; final = l.final; here = map bare l.here }

customers-bare : (l : Level) → customers (bare_level l) ≡ map bare (customers l)
customers-bare l = filter-bare from_customer l.here (λ r. refl)

others-bare : (l : Level) → others (bare_level l) ≡ map bare (others l)
others-bare l = filter-bare from_other l.here (λ r. refl)

-- of a level the sizes of its Customers and of the others tell what the Contra Order takes
customer-sizes : (l : Level) → sizes (customers (bare_level l)) ≡ sizes (customers l)
customer-sizes l = ap sizes (customers-bare l) ∙ sizes-bare (customers l)

other-sizes : (l : Level) → sizes (others (bare_level l)) ≡ sizes (others l)
other-sizes l = ap sizes (others-bare l) ∙ sizes-bare (others l)

-- what is left to the others, and what the Contra Order takes, where the Customers and the others have such sizes
abbrev left_by : Level → List ℕ → ℕ
left_by l cs = l.left - sum cs

abbrev shared_by : Level → List ℕ → ℕ
shared_by l cs = left_by l cs - min (left_by l cs) l.want

abbrev contra_by : Level → List ℕ → List ℕ → ℕ
contra_by l cs os = min (left_by l cs) l.want + cond l.final (shared_by l cs - sum (shares (shared_by l cs) os)) 0

contra-bare : (l : Level) → contra (bare_level l) ≡ contra l
contra-bare l = ap₂ (contra_by l) (customer-sizes l) (other-sizes l)

level-fills-bare : (l : Level) → level_fills (bare_level l) ≡ level_fills l
unfolding level_fills
level-fills-bare l =
    ap₂ (λ (cs os : List ℕ). fills_by l.price (customers (bare_level l)) (in_turn l.left cs) ++ (fill_of 0 l.price (contra_by l cs os) ++ fills_by l.price (others (bare_level l)) (shares (shared_by l cs) os))) (customer-sizes l) (other-sizes l)
    ∙ ap₂ (λ (xs ys : List Fill). xs ++ (fill_of 0 l.price (contra l) ++ ys))
    (ap (λ (rs : List Response). fills_by l.price rs (in_turn l.left (sizes (customers l)))) (customers-bare l) ∙ fills-by-bare l.price (customers l) (in_turn l.left (sizes (customers l))))
    (ap (λ (rs : List Response). fills_by l.price rs (given l)) (others-bare l) ∙ fills-by-bare l.price (others l) (given l))

flat-bare : (ls : List Level) → flat (map bare_level ls) ≡ flat ls
flat-bare [] = refl
flat-bare (l ∷ ls) = ap₂ (λ (xs ys : List Fill). xs ++ ys) (level-fills-bare l) (flat-bare ls)

module _ (d : Deal) where
  next-bare : (from : ℕ) (rs : List Response) → next d from (map bare rs) ≡ next d from rs
  unfolding next
  next-bare from [] = refl
  next-bare from (r ∷ rs) = ap (min (cond (leb from (working d r)) (working d r) (top d))) (next-bare from rs)

  module _ (rs : List Response) where
    at_bare : (p : ℕ) → offers_at d (map bare rs) p ≡ map bare (offers_at d rs p)
    unfolding offers_at
    at_bare p = filter-bare (λ r. eqb (working d r) p) rs (λ r. refl)

    -- the level of a price, by the number of responses, their size there, and who they are
    abbrev level_by : ℕ → ℕ → ℕ → ℕ → ℕ → List Response → Level
    level_by p left held n A os =
        let plan = plan_of d.mode (working_stop d) d.initiating (guarantee_of d.size n) p left held A in
        record { price = p; left = left; held = held; want = plan.want; final = plan.final; here = os }

    level-bare : (p left held : ℕ) → level_at d (map bare rs) p left held ≡ bare_level (level_at d rs p left held)
    unfolding level_at
    level-bare p left held =
        ap (λ (os : List Response). level_by p left held (length (map bare rs)) (sum (sizes os)) os) (at_bare p)
        ∙ ap₂ (λ (n : ℕ) (ns : List ℕ). level_by p left held n (sum ns) (map bare (offers_at d rs p))) (length-map rs bare) (sizes-bare (offers_at d rs p))

    walk-bare : (n from left held : ℕ) → walk d (map bare rs) n from left held ≡ map bare_level (walk d rs n from left held)
    unfolding walk
    walk-bare zero from left held = refl
    walk-bare (suc n) from left held = go (eqb left 0 || ltb (top d) from) (level_at d (map bare rs) (next d from (map bare rs)) left held) (level_at d rs (next d from rs) left held) same (λ f l h. walk-bare n f l h)
      where
        same : level_at d (map bare rs) (next d from (map bare rs)) left held ≡ bare_level (level_at d rs (next d from rs) left held)
        same = level-bare (next d from (map bare rs)) left held ∙ ap (λ (p : ℕ). bare_level (level_at d rs p left held)) (next-bare from rs)

        go : (b : Bool) (x y : Level) → x ≡ bare_level y → ((f l h : ℕ) → walk d (map bare rs) n f l h ≡ map bare_level (walk d rs n f l h))
            → ◌≡◌ {A = List Level}
            (elim b [ true ↦ [] | false ↦ x ∷ walk d (map bare rs) n (x.price + 1) (left - traded (level_fills x)) (held + contra x) ])
            (map bare_level (elim b [ true ↦ [] | false ↦ y ∷ walk d rs n (y.price + 1) (left - traded (level_fills y)) (held + contra y) ]))
        go true x y h ih = refl
        go false x y h ih =
            ap (λ (l : Level). l ∷ walk d (map bare rs) n (l.price + 1) (left - traded (level_fills l)) (held + contra l)) h
            ∙ ap₂ (λ (fs : List Fill) (c : ℕ). bare_level y ∷ walk d (map bare rs) n (y.price + 1) (left - traded fs) (held + c)) (level-fills-bare y) (contra-bare y)
            ∙ ap (λ (ls : List Level). bare_level y ∷ ls) (ih (y.price + 1) (left - traded (level_fills y)) (held + contra y))

    market-price-bare : market_price d (map bare rs) ≡ market_price d rs
    unfolding market_price
    market-price-bare = rw (next-bare 0 rs, length-map rs bare) refl

    fills-bare : fills d (map bare rs) ≡ fills d rs
    unfolding fills levels
    fills-bare =
        ap₂ (λ (p : ℕ) (ls : List Level). fill_of d.market p (min d.size d.selling) ++ flat ls) market-price-bare (walk-bare (suc (top d)) 0 (d.size - min d.size d.selling) 0)
        ∙ ap (λ (fs : List Fill). fill_of d.market (market_price d rs) (min d.size d.selling) ++ fs) (flat-bare (levels d rs))

auction-fills-bare : (a : Auction) → auction_fills (bare_auction a) ≡ auction_fills a
unfolding fills_of
auction-fills-bare a =
    let d : Deal = deal_of a.head in
    ap (λ (rs : List Response). reported d.sell (fills d rs)) (offers-bare a.board) ∙ ap (reported d.sell) (fills-bare d (offers a.board))

-- ---- the lines

ending-bare : (a : Auction) → end_lines (bare_auction a) ≡ end_lines a
unfolding end_lines
ending-bare a = ap (λ (fs : List Fill). end_line a.head ++ (fill_lines fs ++ total_line (traded fs))) (auction-fills-bare a)

-- of an order's records the lines are those of the records without participants
lines-bare : (o : Order) (es : List Event) (x : Result Auction Refusal) → accept_of o ≡ x → lines_of (run_entry (map unnamed es) x) ≡ lines_of (run_entry es x)
lines-bare o es (Ok a) h =
    subst (λ (b : Auction). lines_of (run_entry (map unnamed es) (Ok b)) ≡ lines_of (run_entry es (Ok b))) (sym (opened o h).auction)
    (ap₂ (λ (rs : List Said) (end : List ℕ). auction_line (auction_of o).head ++ (event_lines rs ++ end)) (answers-same o es) (ap end_lines (played-bare o es) ∙ ending-bare (played o es)))
lines-bare o es (Err r) h = refl

listed_same : (s t : List ℕ) (o : Order) (es fs : List Event) → Carries s o es → Carries t o fs → map unnamed fs ≡ map unnamed es → listing_of t ≡ listing_of s
unfolding listing_of
listed_same s t o es fs c d z =
    ap lines_of (run-carries t o fs d)
    ∙ sym (lines-bare o fs (accept_of o) refl)
    ∙ ap (λ (gs : List Event). lines_of (run_entry gs (accept_of o))) z
    ∙ lines-bare o es (accept_of o) refl
    ∙ sym (ap lines_of (run-carries s o es c))

pub unshown : Unshown
unshown =
    record {
      form = form-same;
      answers = answers-same;
      fills = λ o es. ap auction_fills (played-bare o es) ∙ auction-fills-bare (played o es);
      listed = listed_same;
    }
