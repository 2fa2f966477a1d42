-- What the writers' proofs lean on: their fills, a response at a time.
use mathlib.Core.Path.{◌≡◌, refl, sym, ap, ◌∙◌}
use mathlib.Core.Bool.{Bool, true, false, cond}
use mathlib.Core.List.{List, [], ◌∷◌, ◌++◌}
use Prim.Native.Nat.{ℕ, ◌+◌, ◌-◌, ◌*◌, ◌/◌, ◌%◌, ◌≤◌, ◌<◌, min}
use native.Mathlib.Omega.{arith}
use borrow.Author.Tests.{le-leb, lt-leb, lt-ltb}
use lib.Dec.{ltb, eqb}
use lib.ListN.{length, get_or}
use Rattle.words.specs.rules.Bits.{without_bit}
use Rattle.board.specs.declared.Response.{Response}
use Rattle.base.specs.Lists.{Inserts, Shuffles, sum}
use Rattle.base.specs.Lists.Inserts.{here, there}
use Rattle.base.specs.Lists.Shuffles.{none, more}
use Rattle.board.specs.rules.Board.{no_response, live_in, in_sequence}
use Rattle.board.proofs.LiveLaws.{none-live}
use Rattle.board.proofs.SequenceLaws.{sequence-shuffles}
use Rattle.share.specs.rules.Share.{floors, fractions, leftover_count, how_many, one_each, shares, in_turn}
use Rattle.share.specs.rules.Fills.{fill_of, sizes}
use Rattle.share.specs.inside.Cut.{by_cut, Cuts}
use Rattle.share.proofs.CutLaws.{many-cons, one-each-cut}
use Rattle.trade.specs.inside.Code.{each_fills, dealt, quantity_of, remainder_of, share_fills}

-- ---- a turn of a loop by sequence: i is the place of the lowest sequence of rest

pub record Pick (ps : List Response) (rest i : ℕ) : Type 0 where
  pub low : i < 64
  pub less : without_bit rest i < rest
  pub cons : in_sequence (live_in rest ps) ≡ get_or ps i no_response ∷ in_sequence (live_in (without_bit rest i) ps)

none_left : (ps : List Response) → in_sequence (live_in 0 ps) ≡ []
unfolding in_sequence
none_left ps = rw (none-live ps)

-- ---- what is left to write

pub each-pick : (p : ℕ) (turns : Bool) (R T c k : ℕ) (ps : List Response) (rest i : ℕ) → Pick ps rest i
    → each_fills p turns R T c k (in_sequence (live_in rest ps))
    ≡ fill_of (get_or ps i no_response).sequence p (quantity_of turns R T c k (get_or ps i no_response).size) ++ each_fills p turns R T c (remainder_of turns R T c k (get_or ps i no_response).size) (in_sequence (live_in (without_bit rest i) ps))
unfolding each_fills dealt
each-pick p true R T c k ps rest i t =
    let s = (get_or ps i no_response).size in
    let f : k - s ≡ k - min k s = omega arith in
    rw (t.cons, f)
each-pick p false R T c k ps rest i t = rw t.cons

pub each_none : (p : ℕ) (turns : Bool) (R T c k : ℕ) (ps : List Response) → each_fills p turns R T c k (in_sequence (live_in 0 ps)) ≡ []
unfolding each_fills
each_none p turns R T c k ps = rw (none_left ps)

pub fill-some : (k p q : ℕ) → 0 < q → length (fill_of k p q) ≡ 1
fill-some k p q h = rw (lt-ltb 0 q h)

-- ---- sums do not go by order

module _ (g : List Response → ℕ) (step : Response → ℕ → ℕ) (cons : (r : Response) (rs : List Response) → g (r ∷ rs) ≡ step r (g rs))
    (swap : (x y : Response) (n : ℕ) → step x (step y n) ≡ step y (step x n)) where
  fold-inserts : {r : Response} {xs ys : List Response} → Inserts r xs ys → g ys ≡ step r (g xs)
  fold-inserts {r} {xs} here = cons r xs
  fold-inserts {r} (there {x = x} {xs = xs} {ys = ys} i) =
      cons x ys ∙ ap (step x) (fold-inserts i) ∙ swap x r (g xs) ∙ ap (step r) (sym (cons x xs))

  fold-shuffles : {xs ys : List Response} → Shuffles xs ys → g ys ≡ g xs
  fold-shuffles none = refl
  fold-shuffles (more {x = x} {xs = xs} s i) = fold-inserts i ∙ ap (step x) (fold-shuffles s) ∙ sym (cons x xs)

  pub fold-sequence : (xs : List Response) → g (in_sequence xs) ≡ g xs
  fold-sequence xs = fold-shuffles (sequence-shuffles xs)

pub sizes-sequence : (xs : List Response) → sum (sizes (in_sequence xs)) ≡ sum (sizes xs)
unfolding sum
sizes-sequence = fold-sequence (λ rs. sum (sizes rs)) (λ r n. r.size + n) (λ r rs. refl) (λ x y n. omega arith)

parts-sequence : (R T : ℕ) (xs : List Response) → sum (floors R T (sizes (in_sequence xs))) ≡ sum (floors R T (sizes xs))
unfolding sum
parts-sequence R T = fold-sequence (λ rs. sum (floors R T (sizes rs))) (λ r n. R * r.size / T + n) (λ r rs. refl) (λ x y n. omega arith)

many-sequence : (R T : ℕ) (t : ℕ → Bool) (xs : List Response) → how_many t (fractions R T (sizes (in_sequence xs))) ≡ how_many t (fractions R T (sizes xs))
many-sequence R T t =
    fold-sequence (λ rs. how_many t (fractions R T (sizes rs))) (λ r n. cond (t (R * r.size % T)) 1 0 + n) (λ r rs. many-cons t (R * r.size % T) (fractions R T (sizes rs))) (λ x y n. omega arith)

-- ---- pro rata: R over responses whose sizes come to T

turns-all : (n : ℕ) (ss : List ℕ) → sum ss ≤ n → in_turn n ss ≡ ss
unfolding sum
turns-all n [] h = refl
turns-all n (s ∷ ss) h =
    let e : min n s ≡ s = omega arith in
    rw (e, turns-all (n - s) ss (omega arith))

pub shares-all : (p R T : ℕ) (xs : List Response) → T ≡ sum (sizes xs) → T ≤ R → share_fills p R (in_sequence xs) ≡ each_fills p true R T 0 R (in_sequence xs)
unfolding share_fills each_fills dealt shares
shares-all p R T xs e h =
    let l : sum (sizes (in_sequence xs)) ≤ R = omega (arith, sizes-sequence xs) in
    rw (le-leb (sum (sizes (in_sequence xs))) R l, turns-all R (sizes (in_sequence xs)) l)

-- the cut of the fractions is that of the fractions by sequence
cuts-sequence : (R T k c s : ℕ) (xs : List Response) → Cuts k (fractions R T (sizes xs)) c s → Cuts k (fractions R T (sizes (in_sequence xs))) c s
cuts-sequence R T k c s xs h = record { counted = omega (arith, h.counted, many-sequence R T (ltb c) xs); enough = omega (arith, h.enough, many-sequence R T (eqb c) xs) }

pub shares_parts : (p R T c s : ℕ) (xs : List Response) → T ≡ sum (sizes xs) → R < T → Cuts (leftover_count R (sizes xs)) (fractions R T (sizes xs)) c s
    → share_fills p R (in_sequence xs) ≡ each_fills p false R T c s (in_sequence xs)
unfolding share_fills each_fills dealt shares
shares_parts p R T c s xs e h cuts =
    let k = leftover_count R (sizes xs) in
    let z : sum (sizes (in_sequence xs)) ≡ T = sizes-sequence xs ∙ sym e in
    let y : leftover_count R (sizes (in_sequence xs)) ≡ k = rw (z, e, parts-sequence R (sum (sizes xs)) xs) in
    let o : one_each k [] (fractions R T (sizes (in_sequence xs))) ≡ by_cut c s (fractions R T (sizes (in_sequence xs))) = one-each-cut k (fractions R T (sizes (in_sequence xs))) c s (cuts-sequence R T k c s xs cuts) in
    rw (lt-leb (sum (sizes (in_sequence xs))) R (omega arith), y, z, o)

-- ---- one number alone

pub only : (qs : List ℕ) (n : ℕ) → length qs ≡ 1 → sum qs ≡ n → qs ≡ n ∷ []
unfolding sum
only [] n l e = absurd (omega arith)
only (q ∷ []) n l e = let f : q ≡ n = omega arith in rw f
only (q ∷ x ∷ qs) n l e = absurd (omega arith)

-- ---- what one is given

pub remainder-le : (turns : Bool) (R T c k s : ℕ) → remainder_of turns R T c k s ≤ k
remainder-le true R T c k s = omega arith
remainder-le false R T c k s = omega arith
