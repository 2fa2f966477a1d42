-- Demand 3: what the fills of an ended auction are, clause by clause. `Tradable` is what the auction proves of itself.
use Rattle.std.specs.Prelude.{◌≡◌, Bool, true, false, cond, not, ◌&&◌, List, [], ◌∷◌, ◌++◌, ◌⊎◌, ◌≢◌, ℕ, ◌+◌, ◌/◌, ◌≤◌, ◌<◌, min, max, ltb, eqb, length}
use Rattle.board.specs.declared.Response.{Response}
use Rattle.board.specs.declared.Board.{Board}
use Rattle.base.specs.Lists.{Every, filter, sum, In}
use Rattle.board.specs.rules.Board.{live_of}
use Rattle.board.specs.promises.Board.{Good}
use Rattle.share.specs.promises.Share.{Near}
use Rattle.share.specs.rules.Fills.{Fill, sizes}
use Rattle.trade.specs.declared.Deal.{Deal}
use Rattle.trade.specs.rules.Plan.{Plan, plan_of}
use Rattle.trade.specs.rules.Trade.{size_here, offers, from_other, Level, others, shared, traded, working, working_stop, top, entry, guarantee, offers_at, market_takes, market_fill, levels, fills}

-- ---- words

-- no response has the sequence k
abbrev pub Absent : ℕ → List Response → Type 0
Absent k rs = Every (λ r. r.sequence ≢ k) rs

-- no two have one sequence
abbrev pub Distinct : List Response → Type 0
Distinct [] = Unit {0}
Distinct (r ∷ rs) = Absent r.sequence rs × Distinct rs

-- the quantities of the fills that pass a test
abbrev pub tally : (Fill → Bool) → List Fill → ℕ
tally t [] = 0
tally t (f ∷ fs) = cond (t f) f.quantity 0 + tally t fs

-- what a party trades: in all, below a price, and at a price
abbrev pub got : ℕ → List Fill → ℕ
got k fs = tally (λ f. eqb f.party k) fs

abbrev pub got_below : ℕ → ℕ → List Fill → ℕ
got_below k p fs = tally (λ f. eqb f.party k && ltb f.price p) fs

abbrev pub got_at : ℕ → ℕ → List Fill → ℕ
got_at k p fs = tally (λ f. eqb f.party k && eqb f.price p) fs

-- what each response of a list trades
abbrev pub gots : List Fill → List Response → List ℕ
gots fs [] = []
gots fs (r ∷ rs) = got r.sequence fs ∷ gots fs rs

-- what trades at a price, below it and above it
abbrev pub sold_at : ℕ → List Fill → ℕ
sold_at p fs = tally (λ f. eqb f.price p) fs

abbrev pub sold_below : ℕ → List Fill → ℕ
sold_below p fs = tally (λ f. ltb f.price p) fs

abbrev pub sold_above : ℕ → List Fill → ℕ
sold_above p fs = tally (λ f. ltb p f.price) fs

-- how often a party is filled at a price
abbrev pub times : ℕ → ℕ → List Fill → ℕ
times k p fs = length (filter (λ f. eqb f.party k && eqb f.price p) fs)

-- the market order's fills, and those of the walk: all but the market order's
abbrev pub is_market : Deal → Fill → Bool
is_market d f = ltb 0 d.selling && eqb f.party d.market

abbrev pub walked : Deal → List Fill → List Fill
walked d fs = filter (λ f. not (is_market d f)) fs

-- the responses at a price that are no Customer's
abbrev pub others_at : Deal → List Response → ℕ → List Response
others_at d rs p = filter from_other (offers_at d rs p)

-- the plan that a level has, and that of its mode by what is left and held on arriving there and the size of all responses at the price
abbrev pub plan_on : Level → Plan
plan_on l = record { want = l.want; final = l.final }

abbrev pub plan_at : Deal → Board → Level → Plan
plan_at d b l = plan_of d.mode (working_stop d) d.initiating (guarantee d (offers b)) l.price l.left l.held (size_here l)

-- ---- what every ended auction has

pub record Tradable (d : Deal) (b : Board) : Type 0 where
  -- the bound has not passed the initiating price, and neither has the stop or limit
  pub bound-below : d.bound ≤ d.initiating
  pub stop-below : d.stop ≤ d.initiating
  -- nor does any response
  pub prices : Every (λ r. r.price ≤ d.initiating) (live_of b)
  -- the mode is one of the three
  pub mode : (1 ≤ d.mode) × (d.mode ≤ 3)
  -- the live responses have sequences of their own, none of them the Contra Order's 0
  pub parties : Every (λ r. 0 < r.sequence) (live_of b)
  pub distinct : Distinct (live_of b)
  -- and so has the market order, where there is one
  pub market-apart : 0 < d.selling → (0 < d.market) × Absent d.market (live_of b)

-- ---- demand 3

pub record InRange (d : Deal) (f : Fill) : Type 0 where
  pub low : d.bound ≤ f.price
  pub high : f.price ≤ d.initiating
  pub some : 1 ≤ f.quantity

-- the parties: the Contra Order, the market order, and the live responses
pub data Party (d : Deal) (b : Board) (k : ℕ) : Type 0 where
  the_contra : k ≡ 0 → Party d b k
  the_market : k ≡ d.market → 0 < d.selling → Party d b k
  a_response : (r : Response) → In r (live_of b) → r.sequence ≡ k → Party d b k

-- p is the lowest working price
pub record Lowest (d : Deal) (b : Board) (p : ℕ) : Type 0 where
  pub response : Response
  pub live : In response (live_of b)
  pub works : working d response ≡ p
  pub least : Every (λ r. p ≤ working d r) (live_of b)

-- the market order trades at p
pub record MarketAt (d : Deal) (b : Board) (p : ℕ) : Type 0 where
  -- in mode 2 at the lowest working price, and without responses at the midpoint of initiating price and bound, half cents up
  pub matched : d.mode ≡ 2 → (q : ℕ) → Lowest d b q → p ≡ q
  pub midpoint : d.mode ≡ 2 → live_of b ≡ [] → p ≡ (d.initiating + d.bound + 1) / 2
  -- in modes 1 and 3 at the lower of that, if there is a response, and the working stop or limit
  pub lower : d.mode ≢ 2 → (q : ℕ) → Lowest d b q → p ≡ min q (working_stop d)
  pub alone : d.mode ≢ 2 → live_of b ≡ [] → p ≡ working_stop d

-- a price of the walk. R, or `shared l`, is what Customers and the Contra Order's first part leave of the size left on arriving there
pub record ByLevel (d : Deal) (b : Board) (fs : List Fill) (l : Level) : Type 0 where
  -- what is left on arriving is what the market order and lower prices leave of the size; what the Contra Order holds is what it got at those
  pub arrives : l.left + (market_takes d (offers b) + sold_below l.price (walked d fs)) ≡ d.size
  pub holds : l.held ≡ got_below 0 l.price fs
  -- its plan is that of its mode; in mode 1 the Contra Order comes with nothing, so that at the stop it takes up to the guarantee
  pub planned : plan_on l ≡ plan_at d b l
  pub comes-with-none : d.mode ≡ 1 → l.held ≡ 0
  -- what trades there: all that is left where the price is final, else the responses there and what the Contra Order wants, as far as the size goes
  pub trades : sold_at l.price (walked d fs) ≡ cond l.final l.left (min l.left (size_here l + l.want))
  -- the others are all filled where R covers them, and otherwise each gets the whole part of R * s / T, or one more
  pub filled : (r : Response) → In r (live_of b) → r.customer ≡ false → working d r ≡ l.price → sum (sizes (others l)) ≤ shared l → got r.sequence fs ≡ r.size
  pub short : (r : Response) → In r (live_of b) → r.customer ≡ false → working d r ≡ l.price → shared l < sum (sizes (others l))
      → Near (shared l) (sum (sizes (others l))) r.size (got r.sequence fs)
  -- where one of the others trades at the final price, which is the guarantee price, the Contra Order has the guarantee
  pub has-guarantee : (r : Response) → In r (live_of b) → r.customer ≡ false → working d r ≡ l.price → l.final ≡ true → 0 < got r.sequence fs
      → guarantee d (offers b) ≤ got 0 fs

-- what fs must be, as the fills of d over b
pub record Demand3 (d : Deal) (b : Board) (fs : List Fill) : Type 0 where
  -- the fills add up to the size
  pub adds-up : traded fs ≡ d.size
  -- each price lies in the range, and none is of zero
  pub in-range : Every (InRange d) fs
  -- nobody else trades, and each party at most once at a price
  pub nobody-else : Every (λ f. Party d b f.party) fs
  pub once : (k p : ℕ) → times k p fs ≤ 1
  -- the market order trades first, and once, as far as sizes go; then come the fills of the walk
  pub market-trades : fs ≡ market_fill d (offers b) ++ walked d fs
  pub market-price : Every (λ f. is_market d f ≡ true → MarketAt d b f.price) fs
  -- each price of the walk is one where a response works, or the last price
  pub walked-prices : Every (λ f. (0 < length (offers_at d (offers b) f.price)) ⊎ (f.price ≡ top d)) (walked d fs)
  -- no market order and no response trades more than its size
  pub market-fits : 0 < d.selling → got d.market fs ≤ d.selling
  pub response-fits : (r : Response) → In r (live_of b) → got r.sequence fs ≤ r.size
  -- or beyond its own limit: it trades at its working price alone, which is never below its own
  pub own-limit : (r : Response) → In r (live_of b) → Every (λ f. f.party ≡ r.sequence → r.price ≤ f.price) fs
  pub works_at : (r : Response) → In r (live_of b) → Every (λ f. f.party ≡ r.sequence → f.price ≡ working d r) fs
  -- nor does the Contra Order: it trades from its stop or limit on, and in mode 2 at any price
  pub contra-limit : Every (λ f. f.party ≡ 0 → entry d ≤ f.price) fs
  -- nothing trades above the last price, which in mode 1 is the stop, and higher responses get nothing
  pub top-price : Every (λ f. f.price ≤ top d) fs
  pub higher-none : (r : Response) → In r (live_of b) → top d < working d r → got r.sequence fs ≡ 0
  -- where anything trades at p, every response with a better working price is filled
  pub priority : (r : Response) → In r (live_of b) → (p : ℕ) → 0 < sold_at p fs → working d r < p → got r.sequence fs ≡ r.size
  -- Customers first: where one of the others or the Contra Order trades at a price, every Customer there is filled
  pub customers-first : (r k : Response) → In r (live_of b) → In k (live_of b) → r.customer ≡ false → k.customer ≡ true → working d k ≡ working d r
      → 0 < got r.sequence fs → got k.sequence fs ≡ k.size
  pub customers-before-contra : (k : Response) → In k (live_of b) → k.customer ≡ true → 0 < got_at 0 (working d k) fs → got k.sequence fs ≡ k.size
  -- and by sequence: where a Customer trades, every earlier one at its price is filled
  pub by-sequence : (r k : Response) → In r (live_of b) → In k (live_of b) → r.customer ≡ true → k.customer ≡ true → working d k ≡ working d r
      → k.sequence < r.sequence → 0 < got r.sequence fs → got k.sequence fs ≡ k.size
  -- the others at a price share pro rata: of the Q that they trade together, each trades the whole part of Q * s / T, or one more
  pub share : (r : Response) → In r (live_of b) → r.customer ≡ false
      → Near (sum (gots fs (others_at d (offers b) (working d r)))) (sum (sizes (others_at d (offers b) (working d r)))) r.size (got r.sequence fs)
  -- and where one of them is not filled, the Contra Order has no more than the guarantee, or than it got at lower prices
  pub covered : (r : Response) → In r (live_of b) → r.customer ≡ false → got r.sequence fs < r.size
      → got 0 fs ≤ max (guarantee d (offers b)) (got_below 0 (working d r) fs)
  -- where one of the others trades at the guarantee price (from the stop or limit on, and nothing trades higher), the Contra Order has the guarantee
  pub guaranteed : (r : Response) → In r (live_of b) → r.customer ≡ false → entry d ≤ working d r → sold_above (working d r) fs ≡ 0 → 0 < got r.sequence fs
      → guarantee d (offers b) ≤ got 0 fs
  -- price by price
  pub by_level : (l : Level) → In l (levels d (offers b)) → ByLevel d b fs l

-- the theorem: the fills of every deal and board that can trade have this
abbrev pub Demands : Type 0
Demands = (d : Deal) (b : Board) → Tradable d b → Demand3 d b (fills d (offers b))

-- and of every deal and board at all, tradable or not, there are at most 130, so that 390 words always do
abbrev pub Few : Type 0
Few = (d : Deal) (b : Board) → Good b → length (fills d (offers b)) ≤ 130
