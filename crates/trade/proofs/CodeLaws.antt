-- What the private functions' proofs lean on: laws over numbers and words.
use mathlib.Core.Path.{◌≡◌, refl, ap, ◌∙◌}
use mathlib.Core.Bool.{Bool, true, false, cond}
use mathlib.Core.List.{List, [], ◌∷◌}
use Prim.Native.Nat.{ℕ, suc, ◌+◌, ◌*◌, ◌/◌, ◌%◌, ◌^◌, ◌≤◌, ◌<◌, min, max}
use native.Mathlib.Omega.{arith}
use lib.Dec.{eqb}
use lib.ListN.{length, get_or}
use Rattle.std.specs.Prelude.{Some}
use Rattle.words.specs.rules.Bits.{bit_at, with_bit, without_bit, count_trailing_zeros, TakesLowest}
use Rattle.words.proofs.BitLaws.{without-lt, without-lowest, lowest_set}
use Rattle.board.specs.declared.Response.{Response}
use Rattle.base.specs.Lists.{keep, filter, sum}
use Rattle.board.specs.rules.Board.{no_response, live_in}
use Rattle.board.proofs.LiveLaws.{none-live, first_live, Sifted, sift-step}
use Rattle.share.specs.rules.Share.{fractions}
use Rattle.share.specs.rules.Fills.{sizes}
use Rattle.trade.specs.inside.Code.{shared_of, least_of, fractions_in}

-- ---- numbers

pub shared-le : (left C want : ℕ) → shared_of left C want ≤ left
unfolding shared_of
shared-le left C want = omega arith

-- ---- a turn of a loop over the places of a word: i is the lowest of rest

pub record Turn (ps : List Response) (rest i : ℕ) : Type 0 where
  pub low : i < 64
  pub set : bit_at rest i ≡ true
  pub less : without_bit rest i < rest
  pub cons : live_in rest ps ≡ get_or ps i no_response ∷ live_in (without_bit rest i) ps

pub turn-of : (ps : List Response) (rest i : ℕ) → length ps ≡ 64 → 0 < rest → rest < 2 ^ 64 → i ≡ count_trailing_zeros 64 rest → Turn ps rest i
turn-of ps rest i e p h q =
    let t = lowest_set rest i p h q in
    record { low = t.place; set = t.set; less = without-lt rest i t.set; cons = first_live rest i ps no_response (omega (arith, t.place)) t }

-- the same of a loop's iterator: v is what it has left
pub taken : (ps : List Response) (w i v : ℕ) → length ps ≡ 64 → w < 2 ^ 64 → TakesLowest w (Some i) v → Turn ps w i × (v ≡ without_bit w i) × (v < 2 ^ 64)
taken ps w i v e f t =
    let u = turn-of ps w i e t.0 f t.2 in
    let q = t.3 ∙ without-lowest w i t.2 in
    (u, q, omega (arith, u.less))

-- and of a loop that sifts
pub sift-taken : (t : Response → Bool) (ps : List Response) (word kept w i v : ℕ) (b : Bool) → length ps ≡ 64 → w < 2 ^ 64 → TakesLowest w (Some i) v → t (get_or ps i no_response) ≡ b → Sifted t ps word kept w
    → (v < 2 ^ 64) × Sifted t ps word (cond b (with_bit kept i) kept) v
sift-taken t ps word kept w i v b e f k z s =
    let u = taken ps w i v e f k in
    (u.2, rw (u.1, ← z) (sift-step t ps word kept w i no_response (omega (arith, u.0.low)) u.0.low u.0.set s))

-- ---- what a scan has to go

pub least-none : (bound last : ℕ) (ps : List Response) → least_of bound last (live_in 0 ps) ≡ last
unfolding least_of
least-none bound last ps = rw (none-live ps)

pub least-turn : (bound last best : ℕ) (ps : List Response) (rest i : ℕ) → Turn ps rest i
    → min best (least_of bound last (live_in rest ps)) ≡ min (min (max (get_or ps i no_response).price bound) best) (least_of bound last (live_in (without_bit rest i) ps))
unfolding least_of
least-turn bound last best ps rest i t = rw t.cons (omega arith)

pub least-le : (bound last : ℕ) (rs : List Response) → least_of bound last rs ≤ last
unfolding least_of
least-le bound last [] = omega arith
least-le bound last (r ∷ rs) = omega (arith, least-le bound last rs)

pub sizes-turn : (t : Response → Bool) (ps : List Response) (rest i : ℕ) → Turn ps rest i
    → sum (sizes (filter t (live_in rest ps))) ≡ cond (t (get_or ps i no_response)) (get_or ps i no_response).size 0 + sum (sizes (filter t (live_in (without_bit rest i) ps)))
unfolding sum filter
sizes-turn t ps rest i k = rw k.cons (go (t (get_or ps i no_response)))
  where
    go : (b : Bool) → sum (sizes (keep b (get_or ps i no_response) (filter t (live_in (without_bit rest i) ps)))) ≡ cond b (get_or ps i no_response).size 0 + sum (sizes (filter t (live_in (without_bit rest i) ps)))
    go true = refl
    go false = omega arith

pub fractions-turn : (R T : ℕ) (ps : List Response) (rest i : ℕ) → Turn ps rest i → fractions_in R T ps rest ≡ (R * (get_or ps i no_response).size % T) ∷ fractions_in R T ps (without_bit rest i)
fractions-turn R T ps rest i t = ap (λ (rs : List Response). fractions R T (sizes rs)) t.cons

pub sizes-none : (t : Response → Bool) (ps : List Response) → sum (sizes (filter t (live_in 0 ps))) ≡ 0
unfolding sum filter
sizes-none t ps = rw (none-live ps)

pub fractions-none : (R T : ℕ) (ps : List Response) → fractions_in R T ps 0 ≡ []
fractions-none R T ps = rw (none-live ps)

pub fractions-length : (R T : ℕ) (rs : List Response) → length (fractions R T (sizes rs)) ≡ length rs
fractions-length R T [] = refl
fractions-length R T (r ∷ rs) = omega (arith, fractions-length R T rs)

-- one place less to go
pub count_turn : (ps : List Response) (rest i : ℕ) → Turn ps rest i → length (live_in rest ps) ≡ suc (length (live_in (without_bit rest i) ps))
count_turn ps rest i t = rw t.cons

pub live-short : {A : Type 0} (w : ℕ) (ps : List A) → length (live_in w ps) ≤ length ps
unfolding live_in
live-short w [] = omega arith
live-short w (p ∷ ps) = go (eqb (w % 2) 1) (live-short (w / 2) ps)
  where
    go : (t : Bool) → length (live_in (w / 2) ps) ≤ length ps → length (keep t p (live_in (w / 2) ps)) ≤ suc (length ps)
    go true h = omega arith
    go false h = omega arith
