-- The look that finds what stands at the two lowest prices: what was found at each price that may still be one of them.
use mathlib.Core.Path.{◌≡◌, refl, sym, ap, ◌∙◌}
use mathlib.Core.Bool.{Bool, true, false, cond, not, ◌&&◌, and-false}
use mathlib.Core.Logic.{◌≢◌, ⊎_elim}
use mathlib.Core.List.{List, [], ◌∷◌}
use Prim.Native.Nat.{ℕ, ◌+◌, ◌*◌, ◌/◌, ◌%◌, ◌^◌, ◌≤◌, ◌<◌, min, max}
use native.Mathlib.Omega.{arith}
use borrow.Author.Tests.{leb-true, eqb-true, eq-eqb, ne_eqb, lt-ltb, le-ltb, le-leb, lt-leb}
use lib.Dec.{leb, eqb}
use lib.ListN.{length}
use Rattle.words.specs.rules.Bits.{with_bit, without_bit}
use Rattle.base.proofs.Bools.{and_both, and-no-left, and-no-right, by}
use Rattle.base.proofs.Numbers.{le-or-lt}
use Rattle.base.proofs.ListLaws.{filter-pass, filter-fail, filter-all, filter-filter}
use Rattle.base.specs.Lists.{keep, filter, sum, Every}
use Rattle.board.specs.declared.Response.{Response}
use Rattle.board.specs.promises.Board.{RisingFrom}
use Rattle.board.specs.rules.Board.{no_response, response_at, live_in}
use Rattle.board.specs.inside.Places.{word_of}
use Rattle.board.proofs.LiveLaws.{none-live, Sifted, sift-start, sift-end, sift-step}
use Rattle.share.specs.rules.Fills.{sizes}
use Rattle.trade.specs.declared.Found.{Found}
use Rattle.trade.specs.inside.Code.{works_at, customer_at, other_at, rank_after, rank_of, nothing_at, added_to, found_at, found_with, later_with, FoundAt, least_of, Stands, Two}
use Rattle.trade.proofs.CodeLaws.{Turn, least-le, sizes-turn, sizes-none, count_turn, live-short}
use Rattle.trade.proofs.StepLaws.{word_split, word-left, word-rest}

-- ---- the rank: it tells whether sequences rise

pub rank-after : (m n : ℕ) → m ≤ n → n ≡ rank_after m n
unfolding rank_after
rank-after m n h = rw (le-leb m n h)

pub rank-back : (m n : ℕ) → n < m → 4294967295 ≡ rank_after m n
unfolding rank_after
rank-back m n h = rw (lt-leb m n h)

rank-high : (m : ℕ) (xs : List Response) → 4294967295 ≤ m → 4294967295 ≤ rank_of m xs
unfolding rank_of rank_after
rank-high m [] h = h
rank-high m (x ∷ xs) h =
    rank-high (rank_after m x.sequence) xs (by (λ n. 4294967295 ≤ n) (leb m x.sequence) x.sequence 4294967295 (λ e. omega (arith, leb-true m x.sequence e)) (λ e. omega arith))

pub rank_rises : (m : ℕ) (xs : List Response) → rank_of m xs < 4294967295 → RisingFrom m xs
unfolding rank_of
rank_rises m [] h = tt
rank_rises m (x ∷ xs) h = ⊎_elim
    (λ l. (l, rank_rises x.sequence xs (rw (← rank-after m x.sequence l) at h)))
    (λ l. absurd (omega (arith, rank-high 4294967295 xs (omega arith), rw (← rank-back m x.sequence l) at h)))
    (le-or-lt m x.sequence)

rank-turn : (t : Response → Bool) (m : ℕ) (ps : List Response) (rest i : ℕ) → Turn ps rest i
    → rank_of m (filter t (live_in rest ps)) ≡ rank_of (cond (t (response_at ps i)) (rank_after m (response_at ps i).sequence) m) (filter t (live_in (without_bit rest i) ps))
unfolding rank_of filter
rank-turn t m ps rest i k = rw k.cons (go (t (response_at ps i)))
  where
    go : (b : Bool) → rank_of m (keep b (response_at ps i) (filter t (live_in (without_bit rest i) ps)))
        ≡ rank_of (cond b (rank_after m (response_at ps i).sequence) m) (filter t (live_in (without_bit rest i) ps))
    go true = refl
    go false = refl

rank-none : (t : Response → Bool) (m : ℕ) (ps : List Response) → rank_of m (filter t (live_in 0 ps)) ≡ m
unfolding rank_of filter
rank-none t m ps = rw (none-live ps)

-- ---- what is found with one response more

pub found-lower : (f : Found) (p : ℕ) → p < f.price → found_at f p ≡ nothing_at p
unfolding found_at
found-lower f p h = rw (lt-ltb p f.price h)

pub found-not : (f : Found) (p : ℕ) → f.price ≤ p → found_at f p ≡ f
unfolding found_at
found-not f p h = rw (le-ltb p f.price h)

pub with-higher : (f : Found) (r : Response) (p i : ℕ) → f.price < p → found_with f r p i ≡ f
unfolding found_with
with-higher f r p i h = rw (lt-ltb f.price p h)

pub with-not : (f : Found) (r : Response) (p i : ℕ) → p ≤ f.price → found_with f r p i ≡ added_to (found_at f p) r i
unfolding found_with
with-not f r p i h = rw (le-ltb f.price p h)

pub later-lower : (f n : Found) (r : Response) (p i : ℕ) → p < f.price → later_with f n r p i ≡ f
unfolding later_with
later-lower f n r p i h = rw (lt-ltb p f.price h)

pub later-not : (f n : Found) (r : Response) (p i : ℕ) → f.price ≤ p → later_with f n r p i ≡ found_with n r p i
unfolding later_with
later-not f n r p i h = rw (le-ltb p f.price h)

-- the prices
added-price : (f : Found) (r : Response) (i : ℕ) → (added_to f r i).price ≡ f.price
unfolding added_to
added-price f r i = by (λ (n : Found). n.price ≡ f.price) r.customer _ _ (λ e. refl) (λ e. refl)

at-price : (f : Found) (p : ℕ) → p ≤ f.price → (found_at f p).price ≡ p
at-price f p h = ⊎_elim (λ l. rw (found-not f p l) (omega arith)) (λ l. rw (found-lower f p l)) (le-or-lt f.price p)

with-price : (f : Found) (r : Response) (p i : ℕ) → (found_with f r p i).price ≡ min p f.price
with-price f r p i =
    ⊎_elim
    (λ l. rw (with-not f r p i l) (added-price (found_at f p) r i ∙ at-price f p l ∙ omega arith))
    (λ l. rw (with-higher f r p i l) (omega arith))
    (le-or-lt p f.price)

-- one more at the same price
added-same : (f : Found) (r : Response) (p i : ℕ) → p ≡ f.price → added_to f r i ≡ found_with f r p i
added-same f r p i e =
    let l : p ≤ f.price = omega arith in
    let k : f.price ≤ p = omega arith in
    rw (with-not f r p i l, found-not f p k)

-- at a price that is no higher
with_at : (f : Found) (r : Response) (p i : ℕ) → p ≤ f.price → found_at (found_with f r p i) p ≡ added_to (found_at f p) r i
with_at f r p i h =
    let k : (added_to (found_at f p) r i).price ≤ p = omega (arith, added-price (found_at f p) r i, at-price f p h) in
    rw (with-not f r p i h) (found-not (added_to (found_at f p) r i) p k)

with-below : (f : Found) (r : Response) (p i q : ℕ) → q < p → found_at (found_with f r p i) q ≡ found_at f q
with-below f r p i q h =
    ⊎_elim
    (λ l. found-lower (found_with f r p i) q (omega (arith, with-price f r p i)) ∙ sym (found-lower f q (omega arith)))
    (λ l. rw (with-higher f r p i l))
    (le-or-lt p f.price)

-- ---- the responses that work from a price on

module _ (bound : ℕ) where
  abbrev reach : ℕ → Response → Bool
  reach p r = leb p (max r.price bound)

  -- all, where none works below it
  reach-all : (last p : ℕ) (rs : List Response) → p ≤ least_of bound last rs → filter (reach p) rs ≡ rs
  unfolding least_of
  reach-all last p rs h = filter-all (reach p) rs (every rs h)
    where
      every : (xs : List Response) → p ≤ least_of bound last xs → Every (λ r. reach p r ≡ true) xs
      every [] k = tt
      every (x ∷ xs) k = (le-leb p (max x.price bound) (omega arith), every xs (omega arith))

  -- those of them that do not work at p are those from the next price on
  reach-next : (p : ℕ) (rs : List Response) → filter (λ r. not (works_at bound p r)) (filter (reach p) rs) ≡ filter (reach (p + 1)) rs
  reach-next p rs = filter-filter (λ r. not (works_at bound p r)) (reach p) (reach (p + 1)) rs (λ r m. go (max r.price bound))
    where
      go : (w : ℕ) → (leb p w && not (eqb w p)) ≡ leb (p + 1) w
      go w =
          ⊎_elim
          (λ l.
          let k : p ≤ w = omega arith in
          let n : w ≢ p = omega arith in
          rw (le-leb (p + 1) w l, le-leb p w k, ne_eqb w p n))
          (λ l.
          ⊎_elim
          (λ k.
          let z : w ≡ p = omega arith in
          rw (lt-leb (p + 1) w l, eq-eqb w p z) (and-false (leb p w)))
          (λ k. rw (lt-leb (p + 1) w l, lt-leb p w k))
          (le-or-lt p w))
          (le-or-lt (p + 1) w)

-- ---- words: of those that pass u, those that pass t are all that pass it, where t is for none but these
pub word-within : {A : Type 0} (t u : A → Bool) (w : ℕ) (ps : List A) → ((x : A) → (u x && t x) ≡ t x) → word_of t (word_of u w ps) ps ≡ word_of t w ps
unfolding word_of
word-within t u w [] h = refl
word-within t u w (x ∷ ps) h = go (eqb (w % 2) 1) (u x) (t x) (h x) (word-within t u (w / 2) ps h)
  where
    half : (k d : ℕ) (c : Bool) → (k ≡ d + 2 * word_of u (w / 2) ps) → d < 2 → word_of t (word_of u (w / 2) ps) ps ≡ word_of t (w / 2) ps
        → cond (eqb (k % 2) 1 && c) 1 0 + 2 * word_of t (k / 2) ps ≡ cond (eqb d 1 && c) 1 0 + 2 * word_of t (w / 2) ps
    half k d c e l i =
        let a : k % 2 ≡ d = omega arith in
        let b : k / 2 ≡ word_of u (w / 2) ps = omega arith in
        rw (a, b, i)

    go : (a b c : Bool) → (b && c) ≡ c → word_of t (word_of u (w / 2) ps) ps ≡ word_of t (w / 2) ps
        → cond (eqb ((cond (a && b) 1 0 + 2 * word_of u (w / 2) ps) % 2) 1 && c) 1 0 + 2 * word_of t ((cond (a && b) 1 0 + 2 * word_of u (w / 2) ps) / 2) ps
        ≡ cond (a && c) 1 0 + 2 * word_of t (w / 2) ps
    go true true c e i = half (1 + 2 * word_of u (w / 2) ps) 1 c refl (omega arith) i
    go true false c e i = half (0 + 2 * word_of u (w / 2) ps) 0 c refl (omega arith) i ∙ ap (λ (b : Bool). cond b 1 0 + 2 * word_of t (w / 2) ps) e
    go false b c e i = half (0 + 2 * word_of u (w / 2) ps) 0 c refl (omega arith) i

-- ---- the look: of the places of word those of rest are still to come

module _ (bound last : ℕ) (ps : List Response) (word : ℕ) where
  -- of those that pass a test: the word, the sizes and the rank of the others
  record Part (t : Response → Bool) (kept total rank rest : ℕ) : Type 0 where
    kept-are : Sifted t ps word kept rest
    total-is : sum (sizes (filter t (live_in word ps))) ≡ total + sum (sizes (filter t (live_in rest ps)))
    rank_is : rank_of 0 (filter t (live_in word ps)) ≡ rank_of rank (filter t (live_in rest ps))

  -- f is what was found at the price p
  record Seen (p : ℕ) (f : Found) (rest : ℕ) : Type 0 where
    customers : Part (customer_at bound p) f.customers f.served f.customer rest
    others : Part (other_at bound p) f.others f.total f.other rest

  -- f is what was found at the lowest price from p on: this is said of p
  record Known (p : ℕ) (f : Found) (rest : ℕ) : Type 0 where
    seen : Seen p (found_at f p) rest
    least : least_of bound last (filter (reach bound p) (live_in word ps)) ≡ min f.price (least_of bound last (filter (reach bound p) (live_in rest ps)))

  -- and so of each price from `from` to that of f
  abbrev Finds : ℕ → Found → ℕ → Type 0
  Finds from f rest = (p : ℕ) → from ≤ p → p ≤ f.price → Known p f rest

  -- f is what was found at the lowest price, and n at the lowest above it
  pub record Sees (f n : Found) (rest : ℕ) : Type 0 where
    first : Finds 0 f rest
    second : Finds (f.price + 1) n rest
    pub ordered : f.price ≤ n.price
    pub apart : min (f.price + 1) last ≤ n.price
    pub low : n.price ≤ last
    pub small : f.served + f.total + 4294967295 * length (live_in rest ps) ≤ 274877906880
    pub small-second : n.served + n.total + 4294967295 * length (live_in rest ps) ≤ 274877906880

  pub sees-small : (f n : Found) (rest : ℕ) → Sees f n rest → (f.served + f.total ≤ 274877906880) × (n.served + n.total ≤ 274877906880)
  sees-small f n rest s = (omega (arith, s.small), omega (arith, s.small-second))

  -- ---- the start: nothing was found
  part-start : (t : Response → Bool) → Part t 0 0 0 word
  part-start t = record { kept-are = sift-start t ps word; total-is = omega arith; rank_is = refl }

  finds-start : (from : ℕ) → Finds from (nothing_at last) word
  finds-start from p h k =
      record {
        seen = ⊎_elim (λ l. rw (found-not (nothing_at last) p l) start) (λ l. rw (found-lower (nothing_at last) p l) start) (le-or-lt last p);
        least = omega (arith, least-le bound last (filter (reach bound p) (live_in word ps)));
      }
    where
      start : {q : ℕ} → Seen p (nothing_at q) word
      start = record { customers = part-start (customer_at bound p); others = part-start (other_at bound p) }

  pub sees-start : length ps ≡ 64 → Sees (nothing_at last) (nothing_at last) word
  sees-start e =
      let l = live-short word ps in
      record { first = finds-start 0; second = finds-start (last + 1); ordered = omega arith; apart = omega arith; low = omega arith; small = omega arith; small-second = omega arith }

  -- ---- a turn: the place i of rest is looked at
  module _ (e : length ps ≡ 64) (rest i : ℕ) (t : Turn ps rest i) where
    abbrev r : Response
    r = response_at ps i

    abbrev left : ℕ
    left = without_bit rest i

    part-pass : (u : Response → Bool) (kept total rank : ℕ) → u r ≡ true → Part u kept total rank rest → Part u (with_bit kept i) (total + r.size) (rank_after rank r.sequence) left
    part-pass u kept total rank h s =
        record {
          kept-are = rw h at (sift-step u ps word kept rest i no_response (omega (arith, t.low)) t.low t.set s.kept-are);
          total-is = s.total-is ∙ omega (arith, rw h at (sizes-turn u ps rest i t));
          rank_is = s.rank_is ∙ (rw h at (rank-turn u rank ps rest i t));
        }

    part-fail : (u : Response → Bool) (kept total rank : ℕ) → u r ≡ false → Part u kept total rank rest → Part u kept total rank left
    part-fail u kept total rank h s =
        record {
          kept-are = rw h at (sift-step u ps word kept rest i no_response (omega (arith, t.low)) t.low t.set s.kept-are);
          total-is = s.total-is ∙ omega (arith, rw h at (sizes-turn u ps rest i t));
          rank_is = s.rank_is ∙ (rw h at (rank-turn u rank ps rest i t));
        }

    -- at the price that it works at, and at another
    seen_here : (p : ℕ) (f : Found) → max r.price bound ≡ p → Seen p f rest → Seen p (added_to f r i) left
    unfolding added_to
    seen_here p f h s =
        by
        (λ n. Seen p n left)
        r.customer
        _
        _
        (λ c.
        record {
          customers = part-pass (customer_at bound p) f.customers f.served f.customer (and_both w c) s.customers;
          others = part-fail (other_at bound p) f.others f.total f.other (and-no-right (works_at bound p r) (ap not c)) s.others;
        })
        (λ c.
        record {
          customers = part-fail (customer_at bound p) f.customers f.served f.customer (and-no-right (works_at bound p r) c) s.customers;
          others = part-pass (other_at bound p) f.others f.total f.other (and_both w (ap not c)) s.others;
        })
      where
        w : works_at bound p r ≡ true
        w = eq-eqb (max r.price bound) p h

    seen-past : (p : ℕ) (f : Found) → max r.price bound ≢ p → Seen p f rest → Seen p f left
    seen-past p f h s =
        let w : works_at bound p r ≡ false = ne_eqb (max r.price bound) p h in
        record {
          customers = part-fail (customer_at bound p) f.customers f.served f.customer (and-no-left r.customer w) s.customers;
          others = part-fail (other_at bound p) f.others f.total f.other (and-no-left (not r.customer) w) s.others;
        }

    least-pass : (p : ℕ) → p ≤ max r.price bound
        → least_of bound last (filter (reach bound p) (live_in rest ps)) ≡ min (max r.price bound) (least_of bound last (filter (reach bound p) (live_in left ps)))
    unfolding least_of
    least-pass p h = rw (t.cons, filter-pass (reach bound p) r (live_in left ps) (le-leb p (max r.price bound) h))

    least-fail : (p : ℕ) → max r.price bound < p → least_of bound last (filter (reach bound p) (live_in rest ps)) ≡ least_of bound last (filter (reach bound p) (live_in left ps))
    least-fail p h = rw (t.cons, filter-fail (reach bound p) r (live_in left ps) (lt-leb p (max r.price bound) h))

    -- it works at p: what is known of q, which is no higher
    known_step : (f : Found) (p q : ℕ) → p ≡ max r.price bound → q ≤ p → q ≤ f.price → Known q f rest → Known q (found_with f r p i) left
    known_step f p q z h k s =
        record {
          seen =
              ⊎_elim
              (λ l.
              let y : p ≡ q = omega arith in
              let x : max r.price bound ≡ q = omega arith in
              rw (y, with_at f r q i k) (seen_here q (found_at f q) x s.seen))
              (λ l.
              let x : max r.price bound ≢ q = omega arith in
              rw (with-below f r p i q l) (seen-past q (found_at f q) x s.seen))
              (le-or-lt p q);
          least = s.least ∙ omega (arith, with-price f r p i, least-pass q (omega arith));
        }

    finds-step : (from : ℕ) (f : Found) (p : ℕ) → p ≡ max r.price bound → Finds from f rest → Finds from (found_with f r p i) left
    finds-step from f p z s q h k =
        let w = with-price f r p i in
        let l : q ≤ f.price = omega arith in
        known_step f p q z (omega arith) l (s q h l)

    -- it works at a price above: nothing changes
    finds-above : (from : ℕ) (f : Found) (p : ℕ) → p ≡ max r.price bound → f.price < p → Finds from f rest → Finds from f left
    finds-above from f p z h s = rw (with-higher f r p i h) at (finds-step from f p z s)

    -- nor where it works below
    finds-below : (from : ℕ) (f : Found) → max r.price bound < from → Finds from f rest → Finds from f left
    finds-below from f z s q h k =
        let x : max r.price bound ≢ q = omega arith in
        let l : max r.price bound < q = omega arith in
        let o = s q h k in
        record { seen = seen-past q (found_at f q) x o.seen; least = o.least ∙ ap (min f.price) (least-fail q l) }

    -- it works above both
    pub sees-skip : (f n : Found) → n.price < r.price → Sees f n rest → Sees f n left
    sees-skip f n h s =
        let c = count_turn ps rest i t in
        record {
          first = finds-above 0 f (max r.price bound) refl (omega (arith, s.ordered)) s.first;
          second = finds-above (f.price + 1) n (max r.price bound) refl (omega arith) s.second;
          ordered = s.ordered;
          apart = s.apart;
          low = s.low;
          small = omega (arith, s.small);
          small-second = omega (arith, s.small-second);
        }

    -- it works at the lowest price
    pub sees-same : (f n m : Found) (p : ℕ) → m ≡ added_to f r i → m.served + m.total ≤ f.served + f.total + 4294967295 → p ≡ max r.price bound → p ≡ f.price → Sees f n rest → Sees m n left
    sees-same f n m p g l z y s =
        let c = count_turn ps rest i t in
        let x : m.price ≡ f.price = ap (λ (k : Found). k.price) g ∙ added-price f r i in
        record {
          first = rw (g ∙ added-same f r p i y) (finds-step 0 f p z s.first);
          second = rw x (finds-below (f.price + 1) n (omega arith) s.second);
          ordered = omega (arith, s.ordered);
          apart = omega (arith, s.apart);
          low = s.low;
          small = omega (arith, s.small);
          small-second = omega (arith, s.small-second);
        }

    -- it works below the lowest price: what stood there stands at the next
    sees-lower : (f n g : Found) (p : ℕ) → g ≡ found_with f r p i → g.served + g.total ≤ f.served + f.total + 4294967295 → p ≡ max r.price bound → p < f.price → Sees f n rest → Sees g f left
    sees-lower f n g p a l z h s =
        let c = count_turn ps rest i t in
        let w = with-price f r p i in
        let x : g.price ≡ p = ap (λ (k : Found). k.price) a ∙ omega arith in
        record {
          first = rw a (finds-step 0 f p z s.first);
          second = rw x (finds-below (p + 1) f (omega arith) (λ q j. s.first q (omega arith)));
          ordered = omega arith;
          apart = omega arith;
          low = omega (arith, s.ordered, s.low);
          small = omega (arith, s.small);
          small-second = omega (arith, s.small);
        }

    -- it works above it
    sees-higher : (f n m : Found) (p : ℕ) → m ≡ found_with n r p i → m.served + m.total ≤ max (f.served + f.total) (n.served + n.total) + 4294967295
        → p ≡ max r.price bound → f.price < p → Sees f n rest → Sees f m left
    sees-higher f n m p a l z h s =
        let c = count_turn ps rest i t in
        let x : m.price ≡ min p n.price = ap (λ (k : Found). k.price) a ∙ with-price n r p i in
        record {
          first = finds-above 0 f p z h s.first;
          second = rw a (finds-step (f.price + 1) n p z s.second);
          ordered = omega (arith, s.ordered);
          apart = omega (arith, s.apart);
          low = omega (arith, s.low);
          small = omega (arith, s.small);
          small-second = omega (arith, s.small, s.small-second);
        }

    pub sees-other : (f n g m : Found) (p : ℕ) → g ≡ found_with f r p i → g.served + g.total ≤ f.served + f.total + 4294967295
        → m ≡ later_with f n r p i → m.served + m.total ≤ max (f.served + f.total) (n.served + n.total) + 4294967295 → p ≡ max r.price bound → p ≢ f.price
        → Sees f n rest → Sees g m left
    sees-other f n g m p a k b l z y s =
        ⊎_elim
        (λ h.
        let j : f.price < p = omega arith in
        rw (a ∙ with-higher f r p i j) (sees-higher f n m p (b ∙ later-not f n r p i h) l z j s))
        (λ h. rw (b ∙ later-lower f n r p i h) (sees-lower f n g p a k z h s))
        (le-or-lt f.price p)

  -- ---- the end: no place is to come
  finds-end : (from : ℕ) (f : Found) → from ≤ f.price → f.served + f.total ≤ 274877906880 → Finds from f 0 → FoundAt bound f.price ps word f
  finds-end from f h small s =
      let l : f.price ≤ f.price = omega arith in
      let k : Seen f.price f 0 = rw (found-not f f.price l) at (s f.price h l).seen in
      let c = k.customers in
      let o = k.others in
      record {
        customers = sift-end (customer_at bound f.price) ps word f.customers c.kept-are;
        others = sift-end (other_at bound f.price) ps word f.others o.kept-are;
        served = omega (arith, c.total-is, sizes-none (customer_at bound f.price) ps);
        total = omega (arith, o.total-is, sizes-none (other_at bound f.price) ps);
        customer = sym (c.rank_is ∙ rank-none (customer_at bound f.price) f.customer ps);
        other = sym (o.rank_is ∙ rank-none (other_at bound f.price) f.other ps);
        small = small;
      }

  finds-price : (from : ℕ) (f : Found) → from ≤ f.price → f.price ≤ last → Finds from f 0 → f.price ≡ least_of bound last (filter (reach bound from) (live_in word ps))
  unfolding least_of filter
  finds-price from f h low s = omega (arith, rw (none-live ps) at (s from (omega arith) h).least)

  sees-first : (f n : Found) → Sees f n 0 → Stands bound last ps word f
  sees-first f n s =
      let l : f.price ≤ last = omega (arith, s.ordered, s.low) in
      record {
        price-is = finds-price 0 f (omega arith) l s.first ∙ ap (least_of bound last) (reach-all bound last 0 (live_in word ps) (omega arith));
        low = l;
        found = finds-end 0 f (omega arith) (sees-small f n 0 s).0 s.first;
      }

  -- ---- m has the places of word without those at the price p
  module _ (fits : word < 2 ^ length ps) (p m : ℕ) (rest : m + word_of (works_at bound p) word ps ≡ word) where
    rest_live : live_in m ps ≡ filter (λ r. not (works_at bound p r)) (live_in word ps)
    rest_live = word-rest (works_at bound p) word m ps fits rest

    -- a test that none passes of those at p
    abbrev Spares : (Response → Bool) → Type 0
    Spares t = (r : Response) → (not (works_at bound p r) && t r) ≡ t r

    rest-filter : (t : Response → Bool) → Spares t → filter t (live_in m ps) ≡ filter t (live_in word ps)
    rest-filter t h = rw rest_live (filter-filter t (λ r. not (works_at bound p r)) t (live_in word ps) (λ r k. h r))

    rest-word : (t : Response → Bool) → Spares t → word_of t m ps ≡ word_of t word ps
    rest-word t h =
        ap (λ (n : ℕ). word_of t n ps) (word-left (works_at bound p) word m ps fits rest) ∙ word-within t (λ r. not (works_at bound p r)) word ps h

    works-other : (q : ℕ) (r : Response) (c : Bool) → q ≢ p → (not (works_at bound p r) && (works_at bound q r && c)) ≡ (works_at bound q r && c)
    works-other q r c n = go (works_at bound q r) refl
      where
        go : (b : Bool) → works_at bound q r ≡ b → (not (works_at bound p r) && (b && c)) ≡ (b && c)
        go true x =
            let y : max r.price bound ≢ p = λ j. n (sym (eqb-true (max r.price bound) q x) ∙ j) in
            rw (ne_eqb (max r.price bound) p y)
        go false x = and-false (not (works_at bound p r))

    -- at any other price the same is found
    rest-found : (q : ℕ) (f : Found) → q ≢ p → FoundAt bound q ps word f → FoundAt bound q ps m f
    rest-found q f n s =
        let c : Spares (customer_at bound q) = λ r. works-other q r r.customer n in
        let o : Spares (other_at bound q) = λ r. works-other q r (not r.customer) n in
        record {
          customers = rw (rest-word (customer_at bound q) c) s.customers;
          others = rw (rest-word (other_at bound q) o) s.others;
          served = rw (rest-filter (customer_at bound q) c) s.served;
          total = rw (rest-filter (other_at bound q) o) s.total;
          customer = rw (rest-filter (customer_at bound q) c) s.customer;
          other = rw (rest-filter (other_at bound q) o) s.other;
          small = s.small;
        }

    -- and where p is the lowest price, all of m work from the next on
    rest-reach : p ≤ least_of bound last (live_in word ps) → live_in m ps ≡ filter (reach bound (p + 1)) (live_in word ps)
    rest-reach h = rest_live ∙ ap (filter (λ r. not (works_at bound p r))) (sym (reach-all bound last p (live_in word ps) h)) ∙ reach-next bound p (live_in word ps)

  sees-second : (f n : Found) → Sees f n 0 → length ps ≡ 64 → word < 2 ^ 64 → (m : ℕ) → m + word_of (works_at bound f.price) word ps ≡ word → f.price < last → Stands bound last ps m n
  sees-second f n s e b m rest h =
      let fits : word < 2 ^ length ps = rw e b in
      let l : f.price + 1 ≤ n.price = omega (arith, s.apart) in
      let k : f.price ≤ least_of bound last (live_in word ps) = omega (arith, (sees-first f n s).price-is) in
      let y : n.price ≢ f.price = omega arith in
      record {
        price-is = finds-price (f.price + 1) n l s.low s.second ∙ ap (least_of bound last) (sym (rest-reach fits f.price m rest k));
        low = s.low;
        found = rest-found fits f.price m rest n.price n y (finds-end (f.price + 1) n l (sees-small f n 0 s).1 s.second);
      }

-- what a look finds
pub two-found : (bound last : ℕ) (ps : List Response) (word : ℕ) (f n : Found) → length ps ≡ 64 → word < 2 ^ 64 → Sees bound last ps word f n 0 → Two bound last ps word f n
two-found bound last ps word f n e h s =
    record {
      first = sees-first bound last ps word f n s;
      second = λ l.
          sees-second bound last ps word f n s e h (word_of (λ r. not (works_at bound f.price r)) word ps)
          (omega (arith, word_split (works_at bound f.price) word ps (rw e h))) l;
    }
