-- The near places: what stands at the lowest price among them stands there among all that are left.
use mathlib.Core.Path.{◌≡◌, refl, sym, ap, subst, ◌∙◌}
use mathlib.Core.Bool.{Bool, true, false, cond, not, ◌&&◌, false≢true}
use mathlib.Core.List.{List, [], ◌∷◌}
use mathlib.Core.Logic.{◌⊎◌, ◌≢◌, inl, inr, ⊎_elim}
use Rattle.std.specs.Prelude.{Option, Some, None, unwrap_or}
use Prim.Native.Nat.{ℕ, zero, suc, ◌+◌, ◌*◌, ◌/◌, ◌%◌, ◌^◌, ◌≤◌, ◌<◌, min, max}
use native.Mathlib.Omega.{arith}
use Rattle.std.proofs.lemmas.Option.{none-some}
use borrow.Author.Tests.{not-false, eqb-true, eq-eqb, ne_eqb, ltb-true, ltb-false}
use lib.Bits.{bit_and, and_step, and_zero_l, and_zero_r, and_comm, and_self, and_le_r}
use lib.Dec.{eqb}
use lib.ListN.{length}
use Rattle.words.specs.rules.Bits.{count_trailing_zeros}
use Rattle.base.proofs.Bools.{by}
use Rattle.base.proofs.ListLaws.{filter-filter, filter-test}
use Rattle.base.specs.Lists.{keep, filter, In}
use Rattle.board.specs.declared.Response.{Response}
use Rattle.board.specs.rules.Board.{response_at, live_in}
use Rattle.board.specs.inside.Places.{word_of}
use Rattle.board.proofs.LiveLaws.{word-filters}
use Rattle.trade.specs.declared.Deal.{Deal}
use Rattle.trade.specs.declared.Found.{Found}
use Rattle.trade.specs.declared.Walked.{Walked}
use Rattle.trade.specs.inside.Code.{works_at, customer_at, other_at, least_of, Stands, Two, or_all, close_of, due_of, limit_of, below, chosen_of, sorted_of, FoundNext, walk_from}
use Rattle.trade.proofs.CodeLaws.{Turn, turn-of}
use Rattle.trade.proofs.FoundLaws.{word-within}
use Rattle.trade.proofs.StepLaws.{word_split, word-all, word-le, word-left}

-- ---- words and `bit_and`

and-digit : (a b : ℕ) (c : Bool) → a < 2 → b < 2 → min a (cond (eqb b 1 && c) 1 0) ≡ cond (eqb (min a b) 1 && c) 1 0
and-digit zero zero c h l = refl
and-digit zero (suc zero) true h l = refl
and-digit zero (suc zero) false h l = refl
and-digit zero (suc (suc b)) c h l = absurd (omega arith)
and-digit (suc zero) zero c h l = refl
and-digit (suc zero) (suc zero) true h l = refl
and-digit (suc zero) (suc zero) false h l = refl
and-digit (suc zero) (suc (suc b)) c h l = absurd (omega arith)
and-digit (suc (suc a)) b c h l = absurd (omega arith)

low_digit : (b : Bool) (n : ℕ) → (cond b 1 0 + 2 * n) % 2 ≡ cond b 1 0
low_digit true n = omega arith
low_digit false n = omega arith

high-digits : (b : Bool) (n : ℕ) → (cond b 1 0 + 2 * n) / 2 ≡ n
high-digits true n = omega arith
high-digits false n = omega arith

module _ {A : Type 0} (t : A → Bool) where
  -- those of another word that pass are those that pass of both
  word_and : (n w : ℕ) (ps : List A) → bit_and n (word_of t w ps) ≡ word_of t (bit_and n w) ps
  unfolding word_of
  word_and n w [] = and_zero_r n
  word_and n w (x ∷ ps) =
      let b = eqb (w % 2) 1 && t x in
      let k = word_of t (w / 2) ps in
      let ih = word_and (n / 2) (w / 2) ps in
      let l : bit_and n w % 2 ≡ min (n % 2) (w % 2) = omega (arith, and_step n w) in
      let h : bit_and n w / 2 ≡ bit_and (n / 2) (w / 2) = omega (arith, and_step n w) in
      and_step n (cond b 1 0 + 2 * k)
      ∙ rw (high-digits b k, low_digit b k, ih, l, h) (omega (arith, and-digit (n % 2) (w % 2) (t x) (omega arith) (omega arith)))

  -- those that pass are of the word
  word_in : (w : ℕ) (ps : List A) → bit_and (word_of t w ps) w ≡ word_of t w ps
  word_in w ps = and_comm (word_of t w ps) w ∙ word_and w w ps ∙ ap (λ (n : ℕ). word_of t n ps) (and_self w)

-- two tests in either order
word-swap : {A : Type 0} (t u : A → Bool) (w : ℕ) (ps : List A) → word_of t (word_of u w ps) ps ≡ word_of u (word_of t w ps) ps
word-swap t u w ps =
    ap (λ (n : ℕ). word_of t n ps) (sym (word_in u w ps))
    ∙ sym (word_and t (word_of u w ps) w ps)
    ∙ and_comm (word_of u w ps) (word_of t w ps)
    ∙ word_and u (word_of t w ps) w ps
    ∙ ap (λ (n : ℕ). word_of u n ps) (word_in t w ps)

-- none, where none passes
word-nothing : {A : Type 0} (w : ℕ) (ps : List A) → w < 2 ^ length ps → word_of (λ (x : A). false) w ps ≡ 0
word-nothing {A} w ps h = omega (arith, word_split (λ (x : A). true) w ps h, word-all (λ (x : A). true) (λ x. refl) w ps h)

none_or : (n : ℕ) → (n ≡ 0) ⊎ (n ≢ 0)
none_or zero = inl refl
none_or (suc n) = inr (λ z. omega arith)

module _ (bound : ℕ) (ps : List Response) where
  -- of the places of rest, those of near work below all others
  pub record Near (near rest : ℕ) : Type 0 where
    lower : Response → Bool
    first : (x y : Response) → lower x ≡ true → lower y ≡ false → max x.price bound < max y.price bound
    close-are : bit_and near rest ≡ word_of lower rest ps

  pub near_none : (rest : ℕ) → rest < 2 ^ length ps → Near 0 rest
  near_none rest h = record { lower = λ r. false; first = λ x y k. absurd (false≢true k); close-are = and_zero_l rest ∙ sym (word-nothing rest ps h) }

  near-all : (rest : ℕ) → rest < 2 ^ length ps → Near rest rest
  near-all rest h = record { lower = λ r. true; first = λ x y j k. absurd (false≢true (sym k)); close-are = and_self rest ∙ sym (word-all (λ r. true) (λ r. refl) rest ps h) }

  near-below : (limit rest : ℕ) → Near (word_of (below bound limit) rest ps) rest
  near-below limit rest =
      record {
        lower = below bound limit;
        first = λ x y j k. omega (arith, ltb-true (max x.price bound) limit j, ltb-false (max y.price bound) limit k);
        close-are = word_in (below bound limit) rest ps;
      }

  -- near ones are chosen: those below a limit, or all where there is none
  near-chosen : (limit rest : ℕ) → rest < 2 ^ length ps → Near (or_all (word_of (below bound limit) rest ps) rest) rest
  near-chosen limit rest h =
      by (λ near. Near near rest) (eqb (word_of (below bound limit) rest ps) 0) rest (word_of (below bound limit) rest ps)
      (λ e. near-all rest h) (λ e. near-below limit rest)

  -- they stay near where some of rest are gone
  pub near-left : (t : Response → Bool) (near rest m : ℕ) → rest < 2 ^ length ps → m + word_of t rest ps ≡ rest → Near near rest → Near near m
  near-left t near rest m h e s =
      let u : Response → Bool = λ r. not (t r) in
      let z : m ≡ word_of u rest ps = word-left t rest m ps h e in
      record {
        lower = s.lower;
        first = s.first;
        close-are = rw z (word_and u near rest ps ∙ ap (λ (n : ℕ). word_of u n ps) s.close-are ∙ word-swap u s.lower rest ps);
      }

  -- of the near ones the same are gone
  close-left : (t : Response → Bool) (near rest m k : ℕ) → rest < 2 ^ length ps → m + word_of t rest ps ≡ rest → k + word_of t (bit_and near rest) ps ≡ bit_and near rest → bit_and near m ≡ k
  close-left t near rest m k h e f =
      let u : Response → Bool = λ r. not (t r) in
      let z : m ≡ word_of u rest ps = word-left t rest m ps h e in
      let y : k ≡ word_of u (bit_and near rest) ps = word-left t (bit_and near rest) k ps (omega (arith, and_le_r near rest)) f in
      rw (z, y) (word_and u near rest ps)

  -- ---- the least price of those that pass, where all others work from m on
  least-passing : (last m : ℕ) (t : Response → Bool) (rs : List Response) → ((y : Response) → t y ≡ false → m ≤ max y.price bound)
      → min m (least_of bound last (filter t rs)) ≡ min m (least_of bound last rs)
  unfolding least_of filter
  least-passing last m t [] h = refl
  least-passing last m t (y ∷ rs) h = go (t y) refl (least-passing last m t rs h)
    where
      go : (b : Bool) → t y ≡ b → min m (least_of bound last (filter t rs)) ≡ min m (least_of bound last rs)
          → min m (least_of bound last (keep b y (filter t rs))) ≡ min m (min (max y.price bound) (least_of bound last rs))
      go true e ih = take-least m (max y.price bound) (least_of bound last (filter t rs)) (least_of bound last rs) ih
        where
          take-least : (m w a b : ℕ) → min m a ≡ min m b → min m (min w a) ≡ min m (min w b)
          take-least m w a b i = omega arith
      go false e ih = ih ∙ past m (max y.price bound) (least_of bound last rs) (h y e)
        where
          past : (m w b : ℕ) → m ≤ w → min m b ≡ min m (min w b)
          past m w b i = omega arith

  module _ (e : length ps ≡ 64) (near rest : ℕ) (h : rest < 2 ^ 64) where
    -- what stands among the near ones stands among all
    near-stands : (last : ℕ) (f : Found) → Near near rest → bit_and near rest ≢ 0 → Stands bound last ps (bit_and near rest) f → Stands bound last ps rest f
    unfolding least_of
    near-stands last f s n k =
        record {
          price-is = price;
          low = k.low;
          found = record {
            customers = k.found.customers ∙ words (customer_at bound f.price) (λ r. spares r r.customer);
            others = k.found.others ∙ words (other_at bound f.price) (λ r. spares r (not r.customer));
            served = rw (lists (customer_at bound f.price) (λ r. spares r r.customer)) at k.found.served;
            total = rw (lists (other_at bound f.price) (λ r. spares r (not r.customer))) at k.found.total;
            customer = rw (lists (customer_at bound f.price) (λ r. spares r r.customer)) at k.found.customer;
            other = rw (lists (other_at bound f.price) (λ r. spares r (not r.customer))) at k.found.other;
            small = k.found.small;
          };
        }
      where
        close : ℕ
        close = bit_and near rest

        i : ℕ
        i = count_trailing_zeros 64 close

        x : Response
        x = response_at ps i

        turn : Turn ps close i
        turn = turn-of ps close i e (omega arith) (omega (arith, and_le_r near rest)) refl

        live : live_in close ps ≡ filter s.lower (live_in rest ps)
        live = ap (λ (w : ℕ). live_in w ps) s.close-are ∙ word-filters s.lower rest ps

        passes : s.lower x ≡ true
        passes = filter-test s.lower (live_in rest ps) x (subst (In x) (sym turn.cons ∙ live) (inl refl))

        others-above : (y : Response) → s.lower y ≡ false → max x.price bound + 1 ≤ max y.price bound
        others-above y z = omega (arith, s.first x y passes z)

        low : f.price ≤ max x.price bound
        low = omega (arith, k.price-is ∙ ap (least_of bound last) turn.cons)

        price : f.price ≡ least_of bound last (live_in rest ps)
        price = omega (arith, low, k.price-is ∙ ap (least_of bound last) live, least-passing last (max x.price bound + 1) s.lower (live_in rest ps) others-above)

        spares : (y : Response) (c : Bool) → (s.lower y && (works_at bound f.price y && c)) ≡ (works_at bound f.price y && c)
        spares y c = go (s.lower y) refl
          where
            go : (b : Bool) → s.lower y ≡ b → (b && (works_at bound f.price y && c)) ≡ (works_at bound f.price y && c)
            go true z = refl
            go false z =
                let v : max y.price bound ≢ f.price = omega (arith, low, others-above y z) in
                rw (ne_eqb (max y.price bound) f.price v)

        words : (t : Response → Bool) → ((y : Response) → (s.lower y && t y) ≡ t y) → word_of t close ps ≡ word_of t rest ps
        words t z = ap (λ (w : ℕ). word_of t w ps) s.close-are ∙ word-within t s.lower rest ps z

        lists : (t : Response → Bool) → ((y : Response) → (s.lower y && t y) ≡ t y) → filter t (live_in close ps) ≡ filter t (live_in rest ps)
        lists t z = ap (filter t) live ∙ filter-filter t s.lower t (live_in rest ps) (λ y m. z y)

    -- a look goes over the near ones, or over all where none is left
    abbrev over : ℕ
    over = or_all (bit_and near rest) rest

    over-all : bit_and near rest ≡ 0 → over ≡ rest
    over-all z = ap (λ (b : Bool). cond b rest (bit_and near rest)) (eq-eqb (bit_and near rest) 0 z)

    over-close : bit_and near rest ≢ 0 → over ≡ bit_and near rest
    over-close z = ap (λ (b : Bool). cond b rest (bit_and near rest)) (ne_eqb (bit_and near rest) 0 z)

    -- the lowest price
    pub look-first : (last : ℕ) (f : Found) → Near near rest → Stands bound last ps over f → Stands bound last ps rest f
    look-first last f s k =
        ⊎_elim
        (λ z. rw (over-all z) at k)
        (λ z. near-stands last f s z (rw (over-close z) at k))
        (none_or (bit_and near rest))

-- ---- near ones are chosen anew where that is due

-- where it is not, though none of them is left and the next price is known to have no place, no place is left
due-none : (s : Walked) (n : Found) → s.next ≡ Some n → close_of s ≡ 0 → s.from ≢ 0 → n.customers ≡ 0 → n.others ≡ 0 → due_of s ≡ false → s.rest ≡ 0
unfolding due_of
due-none s n k z f c o e =
    eqb-true s.rest 0 (not-false (eqb s.rest 0) (rw (eq-eqb (close_of s) 0 z, ne_eqb s.from 0 f, k, eq-eqb n.customers 0 c, eq-eqb n.others 0 o) at e))

-- what holds of a walk after that
pub record Sorted (bound last : ℕ) (ps : List Response) (s n : Walked) : Type 0 where
  pub from : n.from ≡ s.from
  pub rest : n.rest ≡ s.rest
  pub left : n.left ≡ s.left
  pub held : n.held ≡ s.held
  pub at : n.at ≡ s.at
  pub near : Near bound ps n.near n.rest
  pub known : (f : Found) → n.next ≡ Some f → (s.next ≡ Some f) × (due_of s ≡ false)

pub sorts : (bound last : ℕ) (ps : List Response) (s : Walked) → s.rest < 2 ^ length ps → Near bound ps s.near s.rest → Sorted bound last ps s (sorted_of bound last ps s)
unfolding sorted_of
sorts bound last ps s h k =
    by (Sorted bound last ps s) (due_of s) (chosen_of bound last ps s) s
    (λ e. record { from = refl; rest = refl; left = refl; held = refl; at = refl; near = near-chosen bound ps (limit_of s.from last) s.rest h; known = λ f q. absurd (none-some f q) })
    (λ e. record { from = refl; rest = refl; left = refl; held = refl; at = refl; near = k; known = λ f q. (q, e) })

-- what is to come is the same
pub sorted-walk : (d : Deal) (rs : List Response) (bound last : ℕ) (ps : List Response) (s n : Walked) → Sorted bound last ps s n → walk_from d rs s.from s.left s.held ≡ walk_from d rs n.from n.left n.held
sorted-walk d rs bound last ps s n k = rw (k.from, k.left, k.held)

-- what stands at the next price
pub arrives : (bound last : ℕ) (ps : List Response) → length ps ≡ 64 → (s : Walked) → s.rest < 2 ^ 64 → Near bound ps s.near s.rest → ((n : Found) → s.next ≡ Some n → Stands bound last ps s.rest n)
    → (f : Found) (found : Option Found) → FoundNext bound last ps s f found → Stands bound last ps s.rest f
arrives bound last ps e s h a known f found k = go s.next refl
  where
    go : (next : Option Found) → s.next ≡ next → Stands bound last ps s.rest f
    go None q = look-first bound ps e s.near s.rest h last f a (k.fresh q).2.first
    go (Some n) q = rw (k.known n q).0 (known n q)

-- and at the one after it
pub found-two : (bound last : ℕ) (ps : List Response) (s : Walked) (f : Found) (found : Option Found) → FoundNext bound last ps s f found → (n : Found) → found ≡ Some n → Two bound last ps (or_all (close_of s) s.rest) f n
found-two bound last ps s f found k n q = go s.next refl
  where
    go : (next : Option Found) → s.next ≡ next → Two bound last ps (or_all (close_of s) s.rest) f n
    go None z =
        let m = k.fresh z in
        let same : m.0 ≡ n = ap (λ (o : Option Found). unwrap_or o f) (sym m.1 ∙ q) in
        rw same at m.2
    go (Some m) z = absurd (none-some n (sym (k.known m z).1 ∙ q))

-- the next price, where near ones are not to be chosen first: a look found f at the lowest price, and those of rest that do not work there are left
pub look-next : (bound last : ℕ) (ps : List Response) → length ps ≡ 64 → (s : Walked) (rest : ℕ) → rest < 2 ^ 64 → Near bound ps s.near rest → (f n : Found) → Two bound last ps (or_all (bit_and s.near rest) rest) f n → f.price < last
    → s.rest + word_of (works_at bound f.price) rest ps ≡ rest → s.next ≡ Some n → s.from ≢ 0 → due_of s ≡ false → Stands bound last ps s.rest n
look-next bound last ps e s rest h a f n k l g r z d = ⊎_elim all some (none_or (bit_and s.near rest))
  where
    t : Response → Bool
    t = works_at bound f.price

    fit : rest < 2 ^ length ps
    fit = rw e h

    -- those of a word that are left
    second : (w m : ℕ) → w < 2 ^ length ps → Two bound last ps w f n → m + word_of t w ps ≡ w → Stands bound last ps m n
    second w m b two q = rw (word-left t w m ps b q) (two.second l)

    all : bit_and s.near rest ≡ 0 → Stands bound last ps s.rest n
    all y = second rest s.rest fit (rw (over-all bound ps e s.near rest h y) at k) g

    some : bit_and s.near rest ≢ 0 → Stands bound last ps s.rest n
    some y = ⊎_elim none more (none_or (close_of s))
      where
        close : ℕ
        close = word_of (λ r. not (t r)) (bit_and s.near rest) ps

        close-fit : bit_and s.near rest < 2 ^ length ps
        close-fit = omega (arith, and_le_r s.near rest, fit)

        left : close + word_of t (bit_and s.near rest) ps ≡ bit_and s.near rest
        left = omega (arith, word_split t (bit_and s.near rest) ps close-fit)

        stands : Stands bound last ps (close_of s) n
        stands = rw (close-left bound ps t s.near rest s.rest close fit g left) (second (bit_and s.near rest) close close-fit (rw (over-close bound ps e s.near rest h y) at k) left)

        more : close_of s ≢ 0 → Stands bound last ps s.rest n
        more x = near-stands bound ps e s.near s.rest (omega arith) last n (near-left bound ps t s.near rest s.rest fit g a) x stands

        none : close_of s ≡ 0 → Stands bound last ps s.rest n
        none x =
            let c : n.customers ≡ 0 = omega (arith, ap (λ (w : ℕ). word_of (customer_at bound n.price) w ps) x, stands.found.customers, word-le (customer_at bound n.price) 0 ps (omega (arith, fit))) in
            let o : n.others ≡ 0 = omega (arith, ap (λ (w : ℕ). word_of (other_at bound n.price) w ps) x, stands.found.others, word-le (other_at bound n.price) 0 ps (omega (arith, fit))) in
            let y : close_of s ≡ s.rest = x ∙ sym (due-none s n r x z c o d) in
            rw y at stands
