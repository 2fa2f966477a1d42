-- What the private functions of `trade` give, in numbers and words.
use Rattle.std.specs.Prelude.{◌≡◌, Option, Some, None, Bool, true, false, cond, not, ◌&&◌, ◌||◌, List, [], ◌∷◌, ◌++◌, length, ℕ, suc, ◌+◌, ◌-◌, ◌*◌, ◌/◌, ◌%◌, ◌≤◌, ◌<◌, min, max, leb, ltb, eqb, bit_and}
use Rattle.words.specs.rules.Bits.{with_bit, without_lowest, ones_in}
use Rattle.board.specs.declared.Response.{Response}
use Rattle.base.specs.Lists.{filter, sum}
use Rattle.board.specs.rules.Board.{live_in, in_sequence}
use Rattle.board.specs.inside.Places.{word_of}
use Rattle.share.specs.rules.Share.{floors, fractions, plus, shares, in_turn, leftover_count}
use Rattle.share.specs.rules.Fills.{Fill, fill_of, fills_by, sizes}
use Rattle.share.specs.inside.Cut.{one_by, spare_by, by_cut, Cuts}
use Rattle.trade.specs.declared.Among.{Among}
use Rattle.trade.specs.declared.Deal.{Deal}
use Rattle.trade.specs.declared.Found.{Found}
use Rattle.trade.specs.declared.Given.{Given}
use Rattle.trade.specs.declared.Hand.{Hand}
use Rattle.trade.specs.declared.Price.{Price}
use Rattle.trade.specs.declared.Upper.{Upper}
use Rattle.trade.specs.declared.Walked.{Walked}
use Rattle.trade.specs.rules.Plan.{Plan}
use Rattle.trade.specs.rules.Trade.{Level, top, entry, walk}
use Rattle.trade.specs.rules.Write.{reported_price}

-- ---- the plan of a price, without its mode's cases: entry is the price from which on the Contra Order takes part, top the last price

-- what the Contra Order matches
unfoldable pub match_of : ℕ → ℕ → ℕ → ℕ → ℕ
match_of mode G held A = cond (eqb mode 2) A (cond (leb G held) 0 A)

-- whether p is the last price, or what is left would be used up by filling and matching
unfoldable pub last_of : ℕ → ℕ → ℕ → ℕ → ℕ → Bool
last_of entry top p left need = leb entry p && (eqb p top || leb left need)

unfoldable pub want_of : Bool → ℕ → ℕ → ℕ → ℕ → ℕ → ℕ
want_of last entry p G held m = cond last (G - held) (cond (leb entry p) m 0)

abbrev pub plan_by : ℕ → ℕ → ℕ → ℕ → ℕ → ℕ → ℕ → ℕ → Plan
plan_by mode entry top G p left held A =
    let m = match_of mode G held A in
    let last = last_of entry top p left (A + m) in
    record { want = want_of last entry p G held m; final = last }

-- ---- the numbers of a level, by the sums C and T of the Customers' and the others' sizes

unfoldable pub shared_of : ℕ → ℕ → ℕ → ℕ
shared_of left C want = left - C - min (left - C) want

unfoldable pub contra_of : ℕ → ℕ → ℕ → ℕ → Bool → ℕ
contra_of left C T want last = min (left - C) want + cond last (shared_of left C want - T) 0

unfoldable pub left_of : ℕ → ℕ → ℕ → ℕ → Bool → ℕ
left_of left C T want last = cond last 0 (left - (C + T + want))

-- whether the others are served in turn: T is enough for all, or there is one alone
unfoldable pub in_turn_of : ℕ → ℕ → ℕ → Bool
in_turn_of T R word = leb T R || eqb (without_lowest word) 0

-- the price of the market order, where the lowest working price is given
unfoldable pub market_by : Deal → ℕ → ℕ → ℕ
market_by d live lowest = cond (eqb d.mode 2) (cond (eqb live 0) ((d.initiating + d.bound + 1) / 2) lowest) (min lowest (max d.stop d.bound))

-- ---- responses under a bound

abbrev pub works_at : ℕ → ℕ → Response → Bool
works_at bound p r = eqb (max r.price bound) p

abbrev pub customer_at : ℕ → ℕ → Response → Bool
customer_at bound p r = works_at bound p r && r.customer

abbrev pub other_at : ℕ → ℕ → Response → Bool
other_at bound p r = works_at bound p r && not r.customer

-- the sequence of the last after m, where they rise; 4,294,967,295 or more where they do not
unfoldable pub rank_after : ℕ → ℕ → ℕ
rank_after m n = cond (leb m n) n 4294967295

unfoldable pub rank_of : ℕ → List Response → ℕ
rank_of m [] = m
rank_of m (r ∷ rs) = rank_of (rank_after m r.sequence) rs

-- nothing, at the price p
abbrev pub nothing_at : ℕ → Found
nothing_at p = record { price = p; customers = 0; others = 0; served = 0; total = 0; customer = 0; other = 0 }

-- what was found, with a response at place i
unfoldable pub added_to : Found → Response → ℕ → Found
added_to f r i =
    cond r.customer
    (record { price = f.price; customers = with_bit f.customers i; others = f.others; served = f.served + r.size; total = f.total; customer = rank_after f.customer r.sequence; other = f.other })
    (record { price = f.price; customers = f.customers; others = with_bit f.others i; served = f.served; total = f.total + r.size; customer = f.customer; other = rank_after f.other r.sequence })

-- of what was found, that at the price p, which is at most its price: nothing yet, where p is lower
unfoldable pub found_at : Found → ℕ → Found
found_at f p = cond (ltb p f.price) (nothing_at p) f

-- what is found at the lowest price with one response more, which works at p
unfoldable pub found_with : Found → Response → ℕ → ℕ → Found
found_with f r p i = cond (ltb f.price p) f (added_to (found_at f p) r i)

-- what is found at the lowest price but one, n, with one more that does not work at the lowest, that of f
unfoldable pub later_with : Found → Found → Response → ℕ → ℕ → Found
later_with f n r p i = cond (ltb p f.price) f (found_with n r p i)

-- what is found at the price p among the places of a word
pub record FoundAt (bound p : ℕ) (places : List Response) (word : ℕ) (f : Found) : Type 0 where
  pub customers : f.customers ≡ word_of (customer_at bound p) word places
  pub others : f.others ≡ word_of (other_at bound p) word places
  pub served : f.served ≡ sum (sizes (filter (customer_at bound p) (live_in word places)))
  pub total : f.total ≡ sum (sizes (filter (other_at bound p) (live_in word places)))
  pub customer : f.customer ≡ rank_of 0 (filter (customer_at bound p) (live_in word places))
  pub other : f.other ≡ rank_of 0 (filter (other_at bound p) (live_in word places))
  pub small : f.served + f.total ≤ 274877906880

-- the least working price, but at most the last
unfoldable pub least_of : ℕ → ℕ → List Response → ℕ
least_of bound last [] = last
least_of bound last (r ∷ rs) = min (max r.price bound) (least_of bound last rs)

-- what is found at the least working price of the places of a word
pub record Stands (bound last : ℕ) (places : List Response) (word : ℕ) (f : Found) : Type 0 where
  pub price-is : f.price ≡ least_of bound last (live_in word places)
  pub low : f.price ≤ last
  pub found : FoundAt bound f.price places word f

-- ---- the fills of some responses at a price

-- the quantities: first come, first served out of k, or the whole parts of R * s / T and the leftovers by the cut c, k being spare there
unfoldable pub dealt : Bool → ℕ → ℕ → ℕ → ℕ → List ℕ → List ℕ
dealt true R T c k ss = in_turn k ss
dealt false R T c k ss = plus (floors R T ss) (by_cut c k (fractions R T ss))

unfoldable pub each_fills : ℕ → Bool → ℕ → ℕ → ℕ → ℕ → List Response → List Fill
each_fills p turns R T c k rs = fills_by p rs (dealt turns R T c k (sizes rs))

-- what one of the size s gets, and what is left of k
abbrev pub quantity_of : Bool → ℕ → ℕ → ℕ → ℕ → ℕ → ℕ
quantity_of turns R T c k s = cond turns (min k s) (R * s / T + one_by c k (R * s % T))

abbrev pub remainder_of : Bool → ℕ → ℕ → ℕ → ℕ → ℕ → ℕ
remainder_of turns R T c k s = cond turns (k - min k s) (spare_by c k (R * s % T))

pub record Gives (turns : Bool) (R T c k s : ℕ) (g : Given) : Type 0 where
  pub quantity : g.quantity ≡ quantity_of turns R T c k s
  pub left : g.left ≡ remainder_of turns R T c k s
  pub small : g.quantity ≤ 4294967295

-- ---- the cut

-- the fractions of the responses of a word
abbrev pub fractions_in : ℕ → ℕ → List Response → ℕ → List ℕ
fractions_in R T places word = fractions R T (sizes (live_in word places))

-- R is short of the sizes of the responses of a word, which come to T
pub record Short (places : List Response) (word R T : ℕ) : Type 0 where
  pub short : R < T
  pub low : R ≤ 4294967295
  pub small : T ≤ 1099511627520
  pub total-is : T ≡ sum (sizes (live_in word places))

-- the mean of n numbers, rounded up
unfoldable pub mean_of : ℕ → ℕ → ℕ
mean_of total n = (total + n - 1) / n

unfoldable pub among_of : ℕ → ℕ → ℕ → Among
among_of word total leftovers = record { word = word; sum = total; leftovers = leftovers; mean = mean_of total (ones_in 64 word) }

-- the upper ones where they are enough, else the lower ones, for the rest
unfoldable pub narrowed_of : Among → Upper → Among
narrowed_of a u =
    let n = ones_in 64 u.word in
    cond (leb a.leftovers n) (among_of u.word u.sum a.leftovers) (among_of (a.word - u.word) (a.sum - u.sum) (a.leftovers - n))

-- the places whose fraction is at least a mean
abbrev pub is_upper : ℕ → ℕ → ℕ → Response → Bool
is_upper R T mean r = leb mean (R * r.size % T)

-- u has those of a, and their sum
pub record UpperOf (R T : ℕ) (places : List Response) (a : Among) (u : Upper) : Type 0 where
  pub word-is : u.word ≡ word_of (is_upper R T a.mean) a.word places
  pub sum-is : u.sum ≡ sum (filter (leb a.mean) (fractions_in R T places a.word))

-- no place to look among, and this cut
unfoldable pub no_cut : ℕ → Among
no_cut c = record { word = 0; sum = 0; leftovers = 0; mean = c }

-- the places of a word, whose fractions come to the total: that is T once for each leftover
unfoldable pub counted_of : ℕ → ℕ → ℕ → Among
counted_of word total T = cond (eqb (total / T) 0) (no_cut T) (among_of word total (total / T))

-- pro rata
unfoldable pub share_fills : ℕ → ℕ → List Response → List Fill
share_fills p R rs = fills_by p rs (shares R (sizes rs))

-- Customers in turn, the Contra Order, the others pro rata
unfoldable pub place_fills : ℕ → ℕ → List Response → ℕ → ℕ → List Response → List Fill
place_fills p left cs contra R os = each_fills p true 0 0 0 left cs ++ (fill_of 0 p contra ++ share_fills p R os)

-- the fills of a price, as they are written
abbrev pub fills_at : List Response → Price → List Fill
fills_at places l = place_fills l.reported l.left (in_sequence (live_in l.customers places)) l.contra l.shared (in_sequence (live_in l.others places))

-- what is known of a price whose fills are written, where the cut is c, and so many are spare there
pub record Ready (places : List Response) (l : Price) (c spare : ℕ) : Type 0 where
  pub size : length places ≡ 64
  pub customers-rank : l.customer ≡ rank_of 0 (live_in l.customers places)
  pub others-rank : l.other ≡ rank_of 0 (live_in l.others places)
  pub total-is : l.total ≡ sum (sizes (live_in l.others places))
  pub in-turn : l.turns ≡ in_turn_of l.total l.shared l.others
  pub left-low : l.left ≤ 4294967295
  pub shared-low : l.shared ≤ 4294967295
  pub contra-low : l.contra ≤ 4294967295
  pub cuts : l.turns ≡ false → Cuts (leftover_count l.shared (sizes (live_in l.others places))) (fractions_in l.shared l.total places l.others) c spare

-- ---- the walk over the places of a word

-- the level that is next, where the walk stands at s and G is the guarantee
unfoldable pub level_of : Deal → List Response → ℕ → Walked → Level
level_of d places G s =
    let p = least_of d.bound (top d) (live_in s.rest places) in
    let os = in_sequence (filter (works_at d.bound p) (live_in s.rest places)) in
    let A = sum (sizes os) in
    let plan = plan_by d.mode (entry d) (top d) G p s.left s.held A in
    record {
      price = p;
      left = s.left;
      held = s.held;
      want = plan.want;
      final = plan.final;
      here = os;
    }

-- what the code makes of what it found
unfoldable pub priced_of : Deal → ℕ → Walked → Found → Price
priced_of d G s f =
    let plan = plan_by d.mode (entry d) (top d) G f.price s.left s.held (f.served + f.total) in
    let R = shared_of s.left f.served plan.want in
    record {
      price = f.price;
      customers = f.customers;
      others = f.others;
      total = f.total;
      left = s.left;
      contra = contra_of s.left f.served f.total plan.want plan.final;
      shared = R;
      after = left_of s.left f.served f.total plan.want plan.final;
      customer = f.customer;
      other = f.other;
      reported = reported_price d.sell f.price;
      turns = in_turn_of f.total R f.others;
    }

-- where the walk stands after a price whose fills end before the word `at`, where `found` is what was found of the next
unfoldable pub passed_of : Walked → Price → Option Found → ℕ → Walked
passed_of s l found at =
    record { from = l.price + 1; rest = s.rest - l.customers - l.others; near = s.near; left = l.after; held = s.held + l.contra; at = at; next = found }

-- the places of a word, or all that are left where it has none
abbrev pub or_all : ℕ → ℕ → ℕ
or_all word rest = cond (eqb word 0) rest word

-- those of a walk's near places that are left
abbrev pub close_of : Walked → ℕ
close_of s = bit_and s.near s.rest

-- whether the next price is known to have a place
abbrev pub has_places : Option Found → Bool
has_places None = false
has_places (Some f) = not (eqb f.customers 0) || not (eqb f.others 0)

-- whether near places are to be chosen among all that are left: none of them is left, a price was walked, and the next is not known to have a place
unfoldable pub due_of : Walked → Bool
due_of s = eqb (close_of s) 0 && (not (eqb s.from 0) && (not (has_places s.next) && not (eqb s.rest 0)))

-- the price below which a place is near
abbrev pub limit_of : ℕ → ℕ → ℕ
limit_of from last = from + (last - from) / 4 + 1

-- those that work below a limit
abbrev pub below : ℕ → ℕ → Response → Bool
below bound limit r = ltb (max r.price bound) limit

-- near places chosen: those below the limit, or all where there is none
abbrev pub chosen_of : ℕ → ℕ → List Response → Walked → Walked
chosen_of bound last ps s =
    record { from = s.from; rest = s.rest; near = or_all (word_of (below bound (limit_of s.from last)) s.rest ps) s.rest; left = s.left; held = s.held; at = s.at; next = None }

unfoldable pub sorted_of : ℕ → ℕ → List Response → Walked → Walked
sorted_of bound last ps s = cond (due_of s) (chosen_of bound last ps s) s

-- what stands at the least working price of the places of a word, and at the next
pub record Two (bound last : ℕ) (ps : List Response) (word : ℕ) (f n : Found) : Type 0 where
  pub first : Stands bound last ps word f
  pub second : f.price < last → Stands bound last ps (word_of (λ r. not (works_at bound f.price r)) word ps) n

-- what stands at the next price of the walk, f: it is known, or a look over the near places, or all, finds it, and what is at the one after it
pub record FoundNext (bound last : ℕ) (ps : List Response) (s : Walked) (f : Found) (found : Option Found) : Type 0 where
  pub known : (n : Found) → s.next ≡ Some n → (f ≡ n) × (found ≡ None)
  pub fresh : s.next ≡ None → (n : Found) × (found ≡ Some n) × Two bound last ps (or_all (close_of s) s.rest) f n

-- the walk of the definition from a price on, without fuel
unfoldable pub walk_from : Deal → List Response → ℕ → ℕ → ℕ → List Level
walk_from d rs from left held = walk d rs (suc (top d) - from) from left held

-- ---- the responses of a price that are served

-- the places of a word, to be looked over for the lowest sequence
unfoldable pub hunting_of : Bool → Bool → ℕ → ℕ → ℕ → Hand
hunting_of last turns word k at =
    record { last = last; turns = turns; run = 0; late = 0; unseen = word; edge = 4294967296; first = 4294967296; latest = 0; k = k; at = at }

-- the places of a word in their order, where that is by sequence: n is the sequence of the last then
unfoldable pub hand_of : Bool → Bool → ℕ → ℕ → ℕ → ℕ → Hand
hand_of last turns word n k at =
    cond (ltb n 4294967295)
    (record { last = last; turns = turns; run = word; late = 0; unseen = 0; edge = 4294967296; first = 4294967296; latest = 0; k = k; at = at })
    (hunting_of last turns word k at)

-- the run goes on so, past the place that was looked at
abbrev pub runs_on : Hand → ℕ → ℕ → ℕ → ℕ → ℕ → Hand
runs_on h run late edge first latest =
    record { last = h.last; turns = h.turns; run = run; late = late; unseen = without_lowest h.unseen; edge = edge; first = first; latest = latest; k = h.k; at = h.at }

-- place i is looked at, whose sequence is t
unfoldable pub met_of : Hand → ℕ → ℕ → Hand
met_of h t i =
    cond (ltb t h.first) (runs_on h (with_bit 0 i) (h.run + h.late) h.first t t)
    (cond (leb h.latest t) (runs_on h (with_bit h.run i) h.late h.edge h.first t)
    (runs_on h h.run (with_bit h.late i) (min h.edge (t + 1)) h.first h.latest))

-- what is written, and what comes, where the run is served
unfoldable pub next_fills : Hand → Price → List Fill
next_fills h l = cond (eqb h.late 0) (fill_of 0 l.reported l.contra) []

unfoldable pub next_of : Hand → Price → ℕ → ℕ → Hand
next_of h l spare at =
    cond (eqb h.late 0) (hand_of true l.turns l.others l.other (cond l.turns l.shared spare) at) (hunting_of h.last h.turns h.late h.k h.at)

-- and where the first of the run, r, is served, or all are looked over again
unfoldable pub served_fills : Hand → Price → ℕ → Response → List Fill
served_fills h l c r = cond (leb h.edge r.sequence) [] (fill_of r.sequence l.reported (quantity_of h.turns l.shared l.total c h.k r.size))

unfoldable pub served_of : Hand → Price → ℕ → Response → ℕ → Hand
served_of h l c r at =
    cond (leb h.edge r.sequence) (hunting_of h.last h.turns (h.run + h.late) h.k h.at)
    (record {
      last = h.last;
      turns = h.turns;
      run = without_lowest h.run;
      late = h.late;
      unseen = 0;
      edge = h.edge;
      first = 4294967296;
      latest = 0;
      k = remainder_of h.turns l.shared l.total c h.k r.size;
      at = at;
    })
