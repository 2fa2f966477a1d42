-- How the code follows the walk: a turn of its loop is a level of the definition. for any deal.
use mathlib.Core.Path.{◌≡◌, refl, sym, ap, ◌∙◌}
use mathlib.Core.Bool.{Bool, true, false, cond, not, ◌&&◌, and-false, false≢true, true≢false}
use mathlib.Core.List.{List, [], ◌∷◌}
use mathlib.Core.Logic.{◌⊎◌, inl, inr, ◌≢◌}
use Prim.Native.Nat.{ℕ, zero, suc, ◌+◌, ◌-◌, ◌*◌, ◌/◌, ◌%◌, ◌^◌, ◌≤◌, ◌<◌, min}
use native.Mathlib.Nat.{pow-suc}
use native.Mathlib.Omega.{arith}
use borrow.Author.Tests.{leb-true, leb-false, ltb-true, ltb-false, eqb-true, eqb-false, le-leb}
use lib.Dec.{leb, ltb, eqb}
use lib.ListN.{length}
use Rattle.board.specs.declared.Response.{Response}
use Rattle.base.proofs.ListLaws.{filter-filter}
use Rattle.base.specs.Lists.{keep, filter, sum, In}
use Rattle.board.specs.rules.Board.{live_in, in_sequence}
use Rattle.board.specs.inside.Places.{word_of}
use Rattle.board.proofs.LiveLaws.{word-filters}
use Rattle.board.proofs.SequenceLaws.{sequence-filter}
use Rattle.share.specs.rules.Fills.{sizes}
use Rattle.trade.specs.declared.Deal.{Deal}
use Rattle.trade.specs.declared.Walked.{Walked}
use Rattle.trade.specs.rules.Plan.{Plan}
use Rattle.trade.specs.rules.Trade.{Level, contra, level_fills, traded, working, top, next, guarantee, offers_at, level_at, walk, market_takes, levels}
use Rattle.trade.specs.inside.Code.{works_at, least_of, level_of, walk_from}
use Rattle.trade.proofs.PlanLaws.{plan-is}
use Rattle.trade.proofs.Walk.{next-above, next-top, next-least, walk_none, walk-past, walk-some, price-at}
use Rattle.trade.proofs.WriteLaws.{fold-sequence}

-- ---- the walk without fuel

module _ (d : Deal) (rs : List Response) where
  fuel : (n m from left held : ℕ) → top d < from + n → top d < from + m → walk d rs n from left held ≡ walk d rs m from left held
  fuel zero m from left held h k = walk-past d rs 0 from left held (omega arith) ∙ sym (walk-past d rs m from left held (omega arith))
  fuel (suc n) zero from left held h k = walk-past d rs (suc n) from left held (omega arith) ∙ sym (walk-past d rs 0 from left held (omega arith))
  fuel (suc n) (suc m) from left held h k = go (eqb left 0) (leb from (top d)) refl refl (λ from left held a b. fuel n m from left held a b)
    where
      go : (b c : Bool) → eqb left 0 ≡ b → leb from (top d) ≡ c
          → ((from left held : ℕ) → top d < from + n → top d < from + m → walk d rs n from left held ≡ walk d rs m from left held)
          → walk d rs (suc n) from left held ≡ walk d rs (suc m) from left held
      go true c e f ih = walk_none d rs (suc n) from left held (eqb-true left 0 e) ∙ sym (walk_none d rs (suc m) from left held (eqb-true left 0 e))
      go false false e f ih =
          let z : top d < from = leb-false from (top d) f in
          walk-past d rs (suc n) from left held z ∙ sym (walk-past d rs (suc m) from left held z)
      go false true e f ih =
          let z : left ≢ 0 = eqb-false left 0 e in
          let y : from ≤ top d = leb-true from (top d) f in
          let l = level_at d rs (next d from rs) left held in
          let q : from ≤ l.price = rw (price-at d rs (next d from rs) left held) (next-above d from y rs) in
          walk-some d rs n from left held (omega arith) y
          ∙ ap {B = List Level} (λ ls. l ∷ ls) (ih (l.price + 1) (left - traded (level_fills l)) (held + contra l) (omega arith) (omega arith))
          ∙ sym (walk-some d rs m from left held (omega arith) y)

  -- a turn, and the end
  pub from_step : (from left held : ℕ) → 0 < left → from ≤ top d
      → walk_from d rs from left held
      ≡ level_at d rs (next d from rs) left held
      ∷ walk_from d rs (next d from rs + 1) (left - traded (level_fills (level_at d rs (next d from rs) left held))) (held + contra (level_at d rs (next d from rs) left held))
  unfolding walk_from
  from_step from left held z h =
      let l = level_at d rs (next d from rs) left held in
      let p = next d from rs in
      let q : from ≤ p = next-above d from h rs in
      let e : suc (top d) - from ≡ suc (top d - from) = omega arith in
      let x : l.price ≡ p = price-at d rs p left held in
      ap (λ n. walk d rs n from left held) e
      ∙ walk-some d rs (top d - from) from left held z h
      ∙ ap {B = List Level} (λ ls. l ∷ ls)
      (ap (λ n. walk d rs (top d - from) (n + 1) (left - traded (level_fills l)) (held + contra l)) x
      ∙ fuel (top d - from) (suc (top d) - (p + 1)) (p + 1) (left - traded (level_fills l)) (held + contra l) (omega arith) (omega arith))

  pub from-none : (from left held : ℕ) → left ≡ 0 → walk_from d rs from left held ≡ []
  unfolding walk_from
  from-none from left held e = walk_none d rs (suc (top d) - from) from left held e

  pub from_past : (from left held : ℕ) → top d < from → walk_from d rs from left held ≡ []
  unfolding walk_from
  from_past from left held e = walk-past d rs (suc (top d) - from) from left held e

  pub from_start : levels d rs ≡ walk_from d rs 0 (d.size - market_takes d rs) 0
  unfolding walk_from levels
  from_start = let e : suc (top d) - 0 ≡ suc (top d) = omega arith in rw e

-- ---- words

-- those that pass a test and those that do not are all of a word
pub word_split : {A : Type 0} (t : A → Bool) (w : ℕ) (ps : List A) → w < 2 ^ length ps → word_of t w ps + word_of (λ x. not (t x)) w ps ≡ w
unfolding word_of
word_split t w [] h = omega arith
word_split t w (x ∷ ps) h =
    let ih = word_split t (w / 2) ps (omega (arith, pow-suc 2 (length ps))) in
    go (eqb (w % 2) 1) (t x) refl ih
  where
    go : (b c : Bool) → eqb (w % 2) 1 ≡ b → word_of t (w / 2) ps + word_of (λ y. not (t y)) (w / 2) ps ≡ w / 2
        → cond (b && c) 1 0 + 2 * word_of t (w / 2) ps + (cond (b && not c) 1 0 + 2 * word_of (λ y. not (t y)) (w / 2) ps) ≡ w
    go true true e ih = omega (arith, eqb-true (w % 2) 1 e)
    go true false e ih = omega (arith, eqb-true (w % 2) 1 e)
    go false c e ih =
        let n : w % 2 ≢ 1 = eqb-false (w % 2) 1 e in
        omega arith

-- all of a word, where all pass
pub word-all : {A : Type 0} (t : A → Bool) → ((x : A) → t x ≡ true) → (w : ℕ) (ps : List A) → w < 2 ^ length ps → word_of t w ps ≡ w
unfolding word_of
word-all t h w [] l = omega arith
word-all t h w (x ∷ ps) l = rw (h x) (go (eqb (w % 2) 1) refl (word-all t h (w / 2) ps (omega (arith, pow-suc 2 (length ps)))))
  where
    go : (b : Bool) → eqb (w % 2) 1 ≡ b → word_of t (w / 2) ps ≡ w / 2 → cond (b && true) 1 0 + 2 * word_of t (w / 2) ps ≡ w
    go true e i = omega (arith, eqb-true (w % 2) 1 e)
    go false e i =
        let n : w % 2 ≢ 1 = eqb-false (w % 2) 1 e in
        omega arith

pub word-le : {A : Type 0} (t : A → Bool) (w : ℕ) (ps : List A) → w < 2 ^ length ps → word_of t w ps ≤ w
word-le t w ps h = omega (arith, word_split t w ps h)

-- what is left of a word without those that pass
pub word-left : {A : Type 0} (t : A → Bool) (w rest : ℕ) (ps : List A) → w < 2 ^ length ps → rest + word_of t w ps ≡ w → rest ≡ word_of (λ x. not (t x)) w ps
word-left t w rest ps h e = omega (arith, word_split t w ps h)

pub word-rest : {A : Type 0} (t : A → Bool) (w rest : ℕ) (ps : List A) → w < 2 ^ length ps → rest + word_of t w ps ≡ w → live_in rest ps ≡ filter (λ x. not (t x)) (live_in w ps)
word-rest t w rest ps h e = ap (λ (n : ℕ). live_in n ps) (word-left t w rest ps h e) ∙ word-filters (λ x. not (t x)) w ps

-- of those that pass t, those that pass u and those that do not
pub word-parts : {A : Type 0} (t u : A → Bool) (w : ℕ) (ps : List A) → word_of (λ x. t x && u x) w ps + word_of (λ x. t x && not (u x)) w ps ≡ word_of t w ps
unfolding word_of
word-parts t u w [] = refl
word-parts t u w (x ∷ ps) = go (eqb (w % 2) 1) (t x) (u x) (word-parts t u (w / 2) ps)
  where
    go : (a b c : Bool) → word_of (λ y. t y && u y) (w / 2) ps + word_of (λ y. t y && not (u y)) (w / 2) ps ≡ word_of t (w / 2) ps
        → cond (a && (b && c)) 1 0 + 2 * word_of (λ y. t y && u y) (w / 2) ps + (cond (a && (b && not c)) 1 0 + 2 * word_of (λ y. t y && not (u y)) (w / 2) ps)
        ≡ cond (a && b) 1 0 + 2 * word_of t (w / 2) ps
    go true true true h = omega arith
    go true true false h = omega arith
    go true false c h = omega arith
    go false b c h = omega arith

-- ---- filters

module _ (d : Deal) (from : ℕ) where
  -- the responses that work from a price on
  abbrev pub ahead : Response → Bool
  ahead r = leb from (working d r)

  -- those at a price from there on
  ahead-at : (p : ℕ) (xs : List Response) → from ≤ p → filter (works_at d.bound p) (filter ahead xs) ≡ filter (works_at d.bound p) xs
  ahead-at p xs h = filter-filter (works_at d.bound p) ahead (works_at d.bound p) xs (λ x m. go x (eqb (working d x) p) refl)
    where
      go : (x : Response) (b : Bool) → eqb (working d x) p ≡ b → (ahead x && b) ≡ b
      go x true e = rw (le-leb from (working d x) (omega (arith, eqb-true (working d x) p e)))
      go x false e = and-false (ahead x)

  -- and those after the least of them
  ahead_past : (p : ℕ) (xs : List Response) → from ≤ p → ((x : Response) → In x xs → from ≤ working d x → p ≤ working d x)
      → filter (λ x. not (works_at d.bound p x)) (filter ahead xs) ≡ filter (λ r. leb (p + 1) (working d r)) xs
  ahead_past p xs h least =
      filter-filter (λ x. not (works_at d.bound p x)) ahead (λ r. leb (p + 1) (working d r)) xs (λ x m. go x (leb from (working d x)) (eqb (working d x) p) (leb (p + 1) (working d x)) refl refl refl (least x m))
    where
      go : (x : Response) (a b c : Bool) → leb from (working d x) ≡ a → eqb (working d x) p ≡ b → leb (p + 1) (working d x) ≡ c → (from ≤ working d x → p ≤ working d x) → (a && not b) ≡ c
      go x true true true e f g l = absurd (omega (arith, eqb-true (working d x) p f, leb-true (p + 1) (working d x) g))
      go x true true false e f g l = refl
      go x true false true e f g l = refl
      go x true false false e f g l =
          let n : working d x ≢ p = eqb-false (working d x) p f in
          absurd (omega (arith, l (leb-true from (working d x) e), leb-false (p + 1) (working d x) g))
      go x false b true e f g l = absurd (omega (arith, leb-false from (working d x) e, leb-true (p + 1) (working d x) g))
      go x false b false e f g l = refl

  -- their least working price is the next
  pub least-next : (xs : List Response) → least_of d.bound (top d) (filter ahead xs) ≡ next d from xs
  unfolding least_of filter next
  least-next [] = refl
  least-next (x ∷ xs) = go (leb from (working d x)) (least-next xs)
    where
      go : (b : Bool) → least_of d.bound (top d) (filter ahead xs) ≡ next d from xs
          → least_of d.bound (top d) (keep b x (filter ahead xs)) ≡ min (cond b (working d x) (top d)) (next d from xs)
      go true e = rw e
      go false e = e ∙ omega (arith, next-top d from xs)

  -- in any order
  pub next-sequence : (xs : List Response) → next d from (in_sequence xs) ≡ next d from xs
  unfolding next
  next-sequence = fold-sequence (next d from) (λ r n. min (cond (leb from (working d r)) (working d r) (top d)) n) (λ r rs. refl) (λ x y n. omega arith)

-- ---- the level that the code is at

module _ (d : Deal) (ps : List Response) (live G : ℕ) (s : Walked) (g : G ≡ guarantee d (in_sequence (live_in live ps)))
    (r : live_in s.rest ps ≡ filter (ahead d s.from) (live_in live ps)) (h : s.from ≤ top d) where
  price-next : least_of d.bound (top d) (live_in s.rest ps) ≡ next d s.from (in_sequence (live_in live ps))
  price-next = rw r (least-next d s.from (live_in live ps)) ∙ sym (next-sequence d s.from (live_in live ps))

  here-next : in_sequence (filter (works_at d.bound (next d s.from (in_sequence (live_in live ps)))) (live_in s.rest ps))
      ≡ offers_at d (in_sequence (live_in live ps)) (next d s.from (in_sequence (live_in live ps)))
  unfolding offers_at
  here-next =
      let p = next d s.from (in_sequence (live_in live ps)) in
      ap in_sequence (rw r (ahead-at d s.from p (live_in live ps) (next-above d s.from h (in_sequence (live_in live ps)))))
      ∙ sym (sequence-filter (works_at d.bound p) (live_in live ps))

  pub level-is : level_of d ps G s ≡ level_at d (in_sequence (live_in live ps)) (next d s.from (in_sequence (live_in live ps))) s.left s.held
  unfolding level_of level_at
  level-is =
      let rs = in_sequence (live_in live ps) in
      let p = next d s.from rs in
      let os = offers_at d rs p in
      rw (price-next, here-next, g)
      (ap (λ (q : Plan). record { price = p; left = s.left; held = s.held; want = q.want; final = q.final; here = os })
      (plan-is d (guarantee d rs) p s.left s.held (sum (sizes os)) (next-top d s.from rs)))

  price-is : (level_of d ps G s).price ≡ next d s.from (in_sequence (live_in live ps))
  unfolding level_of
  price-is = price-next

  -- the words' invariant, a turn on
  pub rest-is : (n : ℕ) → length ps ≡ 64 → s.rest < 2 ^ 64 → n + word_of (works_at d.bound (level_of d ps G s).price) s.rest ps ≡ s.rest
      → live_in n ps ≡ filter (ahead d ((level_of d ps G s).price + 1)) (live_in live ps)
  rest-is n e l q =
      let p = (level_of d ps G s).price in
      let a : s.from ≤ p = rw price-is (next-above d s.from h (in_sequence (live_in live ps))) in
      word-rest (works_at d.bound p) s.rest n ps (rw e l) q
      ∙ rw r (ahead_past d s.from p (live_in live ps) a (λ x m f. rw (price-is ∙ next-sequence d s.from (live_in live ps)) (next-least d s.from (live_in live ps) x m f)))

  -- a turn of the walk
  pub walk_turn : 0 < s.left
      → walk_from d (in_sequence (live_in live ps)) s.from s.left s.held
      ≡ level_of d ps G s ∷ walk_from d (in_sequence (live_in live ps)) ((level_of d ps G s).price + 1) (s.left - traded (level_fills (level_of d ps G s))) (s.held + contra (level_of d ps G s))
  unfolding level_at
  walk_turn z = rw (price-is, level-is) (from_step d (in_sequence (live_in live ps)) s.from s.left s.held z h)

-- ---- the loop's test

pub goes : (left from last : ℕ) → (ltb 0 left && leb from last) ≡ true → (0 < left) × (from ≤ last)
goes left from last e = go (ltb 0 left) (leb from last) refl refl e
  where
    go : (a b : Bool) → ltb 0 left ≡ a → leb from last ≡ b → (a && b) ≡ true → (0 < left) × (from ≤ last)
    go true true p q e = (ltb-true 0 left p, leb-true from last q)
    go true false p q e = absurd (false≢true e)
    go false b p q e = absurd (false≢true e)

pub stays : (left from last : ℕ) → (ltb 0 left && leb from last) ≡ false → (left ≡ 0) ⊎ (last < from)
stays left from last e = go (ltb 0 left) (leb from last) refl refl e
  where
    go : (a b : Bool) → ltb 0 left ≡ a → leb from last ≡ b → (a && b) ≡ false → (left ≡ 0) ⊎ (last < from)
    go true true p q e = absurd (true≢false e)
    go true false p q e = inr (leb-false from last q)
    go false b p q e = let z : left ≤ 0 = ltb-false 0 left p in inl (omega arith)
