-- Customers at a price come by sequence: where one trades, every earlier one is filled.
use mathlib.Core.Path.{◌≡◌, refl, sym, ap, ◌∙◌, subst}
use mathlib.Core.Bool.{Bool, true, false, cond, ◌&&◌, and-false}
use mathlib.Core.List.{List, [], ◌∷◌, ◌++◌}
use mathlib.Core.Logic.{inl, inr, ◌≢◌}
use Prim.Native.Nat.{ℕ, ◌+◌, ◌-◌, ◌≤◌, ◌<◌, min}
use native.Mathlib.Omega.{arith}
use borrow.Author.Tests.{eqb-true, eqb-false, ne_eqb}
use lib.Dec.{eqb}
use Rattle.board.specs.declared.Response.{Response}
use Rattle.base.specs.Lists.{Every, sum, In}
use Rattle.share.specs.rules.Share.{in_turn}
use Rattle.share.specs.rules.Fills.{Fill, fill_of, fills_by, sizes}
use Rattle.share.proofs.ShareLaws.{turn-sum, turn-length}
use Rattle.trade.specs.declared.Deal.{Deal}
use Rattle.trade.specs.rules.Trade.{from_customer, Level, customers, shared, given, first, contra, level_fills, flat, working, offers_at, traded}
use Rattle.demand.specs.promises.Demands.{Distinct, got, got_at}
use Rattle.base.proofs.ListLaws.{every_map, every_in, in-filter}
use Rattle.demand.proofs.Lists.{all-fill, distinct-keep, got-none, got-fill, tally-append, tally-none, tally-le, tally-and, absent_by}
use Rattle.trade.proofs.Lists.{total-by}
use Rattle.board.specs.promises.Board.{RisingFrom}
use Rattle.board.proofs.SequenceLaws.{rising-from, rising-filter}
use Rattle.demand.proofs.Levels.{by_customers, customer-is, all-level, got-contra, level-served}
use Rattle.demand.proofs.Walk.{Walkable, Good, Run}
use Rattle.demand.proofs.Runs.{run-from, no-contra, got-append, positive, here-distinct, is-here, got-elsewhere, run-passed}

turn_fills : ℕ → ℕ → List Response → List Fill
turn_fills p left cs = fills_by p cs (in_turn left (sizes cs))

turn-earlier : (p left low : ℕ) (cs : List Response) (r k : Response) → RisingFrom low cs → Distinct cs → In r cs → In k cs → k.sequence < r.sequence
    → 0 < got r.sequence (turn_fills p left cs) → got k.sequence (turn_fills p left cs) ≡ k.size
unfolding turn_fills
turn-earlier p left low [] r k up d m n h t = absurd m
turn-earlier p left low (x ∷ xs) r k up d m n h t = go m n (λ i j s. turn-earlier p (left - x.size) x.sequence xs r k up.1 d.1 i j h s)
  where
    q : ℕ
    q = min left x.size

    fs : List Fill
    fs = fills_by p xs (in_turn (left - x.size) (sizes xs))

    both : (j : ℕ) → got j (fill_of x.sequence p q ++ fs) ≡ got j (fill_of x.sequence p q) + got j fs
    both j = tally-append (λ f. eqb f.party j) (fill_of x.sequence p q) fs

    -- another's part of the first fill
    none : (j : ℕ) → x.sequence ≢ j → got j (fill_of x.sequence p q) ≡ 0
    none j e = got-none j (fill_of x.sequence p q) (all-fill (λ f. f.party ≢ j) x.sequence p q (λ z. e))

    later : (y : Response) → In y xs → x.sequence ≢ y.sequence
    later y i e = every_in (λ z. z.sequence ≢ x.sequence) xs y d.0 i (sym e)

    go : In r (x ∷ xs) → In k (x ∷ xs) → (In r xs → In k xs → 0 < got r.sequence fs → got k.sequence fs ≡ k.size) → got k.sequence (fill_of x.sequence p q ++ fs) ≡ k.size
    go (inl e) (inl f) ih = absurd (omega (arith, ap (λ (y : Response). y.sequence) e, ap (λ (y : Response). y.sequence) f))
    go (inl e) (inr j) ih = absurd (omega (arith, ap (λ (y : Response). y.sequence) e, every_in (λ z. x.sequence ≤ z.sequence) xs k (rising-from x.sequence xs up.1) j))
    go (inr i) (inl f) ih =
        let s : 0 < got r.sequence fs = omega (arith, both r.sequence, none r.sequence (later r i)) in
        let u : got r.sequence fs ≤ sum (in_turn (left - x.size) (sizes xs)) =
        omega (arith, tally-le (λ f. eqb f.party r.sequence) fs, total-by p xs (in_turn (left - x.size) (sizes xs)) (turn-length (left - x.size) (sizes xs))) in
        let w : x.size < left = omega (arith, turn-sum (left - x.size) (sizes xs)) in
        let g : got x.sequence (fill_of x.sequence p q ++ fs) ≡ x.size =
        omega (arith, both x.sequence, got-fill x.sequence p q, got-none x.sequence fs (absent_by x.sequence p xs (in_turn (left - x.size) (sizes xs)) d.0)) in
        subst (λ (y : Response). got y.sequence (fill_of x.sequence p q ++ fs) ≡ y.size) (sym f) g
    go (inr i) (inr j) ih =
        let s : 0 < got r.sequence fs = omega (arith, both r.sequence, none r.sequence (later r i)) in
        omega (arith, both k.sequence, none k.sequence (later k j), ih i j s)

level-earlier : (l : Level) (r k : Response) → 0 < r.sequence → 0 < k.sequence → RisingFrom 0 l.here → Distinct l.here → In r l.here → In k l.here
    → r.customer ≡ true → k.customer ≡ true → k.sequence < r.sequence → 0 < got r.sequence (level_fills l) → got k.sequence (level_fills l) ≡ k.size
unfolding turn_fills by_customers
level-earlier l r k pr pk up d m n c e h t =
    customer-is l k pk d n e
    ∙ turn-earlier l.price l.left 0 (customers l) r k (rising-filter from_customer 0 l.here up) (distinct-keep from_customer l.here d) (in-filter from_customer l.here r m c)
    (in-filter from_customer l.here k n e) h (rw (customer-is l r pr d m c) at t)

module _ (d : Deal) (rs : List Response) (s : Walkable d rs) (up : RisingFrom 0 rs) (r k : Response) (m : In r rs) (n : In k rs) (c : r.customer ≡ true) (e : k.customer ≡ true)
    (q : working d k ≡ working d r) (h : k.sequence < r.sequence) where
  rising-here : (from left held : ℕ) (l : Level) → Good d rs from left held l → RisingFrom 0 l.here
  unfolding offers_at
  rising-here from left held l g = subst (RisingFrom 0) (sym g.here-are) (rising-filter (λ x. eqb (working d x) l.price) 0 rs up)

  pub run-earlier : (from left held : ℕ) (ls : List Level) → Run d rs from left held ls → 0 < got r.sequence (flat ls) → got k.sequence (flat ls) ≡ k.size
  run-earlier from left held [] run t = absurd (omega arith)
  run-earlier from left held (l ∷ ls) run t = go (eqb (working d r) l.price) refl (λ t. run-earlier (l.price + 1) (left - traded (level_fills l)) (held + contra l) ls run.1 t)
    where
      go : (b : Bool) → eqb (working d r) l.price ≡ b → (0 < got r.sequence (flat ls) → got k.sequence (flat ls) ≡ k.size) → got k.sequence (level_fills l ++ flat ls) ≡ k.size
      go true w ih =
          let v : working d r ≡ l.price = eqb-true (working d r) l.price w in
          let u : 0 < got r.sequence (level_fills l) = omega (arith, got-append r.sequence (level_fills l) (flat ls), run-passed d rs s r m (l.price + 1) (left - traded (level_fills l)) (held + contra l) ls run.1 (omega arith)) in
          omega (
            arith,
            got-append k.sequence (level_fills l) (flat ls),
            run-passed d rs s k n (l.price + 1) (left - traded (level_fills l)) (held + contra l) ls run.1 (omega arith),
            level-earlier l r k (positive d rs s r m) (positive d rs s k n) (rising-here from left held l run.0) (here-distinct d rs s r m from left held l run.0)
                (is-here d rs s r m from left held l run.0 v) (is-here d rs s k n from left held l run.0 (q ∙ v)) c e h u,
          )
      go false w ih =
          let z : working d r ≢ l.price = eqb-false (working d r) l.price w in
          omega (
            arith,
            got-append k.sequence (level_fills l) (flat ls),
            got-elsewhere d rs s k n from left held l run.0 (λ y. z (sym q ∙ y)),
            ih (omega (arith, got-append r.sequence (level_fills l) (flat ls), got-elsewhere d rs s r m from left held l run.0 z)),
          )

-- ---- and before the Contra Order

got_at-append : (p : ℕ) (fs gs : List Fill) → got_at 0 p (fs ++ gs) ≡ got_at 0 p fs + got_at 0 p gs
got_at-append p fs gs = tally-append (λ f. eqb f.party 0 && eqb f.price p) fs gs

-- at another price it gets nothing
got_at-none : (p : ℕ) (fs : List Fill) → Every (λ f. (eqb f.party 0 && eqb f.price p) ≡ false) fs → got_at 0 p fs ≡ 0
got_at-none p fs a = tally-none (λ f. eqb f.party 0 && eqb f.price p) fs a

-- where it gets anything, something was left after Customers
contra-after : (l : Level) → 0 < contra l → sum (sizes (customers l)) ≤ l.left
contra-after l h = go l.final h
  where
    go : (b : Bool) → 0 < first l + cond b (shared l - sum (given l)) 0 → sum (sizes (customers l)) ≤ l.left
    go true h = omega arith
    go false h = omega arith

module _ (d : Deal) (rs : List Response) (s : Walkable d rs) (k : Response) (n : In k rs) (e : k.customer ≡ true) where
  elsewhere : (l : Level) → l.price ≢ working d k → got_at 0 (working d k) (level_fills l) ≡ 0
  elsewhere l z =
      got_at-none (working d k) (level_fills l)
      (all-level l (λ f. (eqb f.party 0 && eqb f.price (working d k)) ≡ false) (λ j q h. rw (ne_eqb l.price (working d k) z) (and-false (eqb j 0))))

  pub run-before : (from left held : ℕ) (ls : List Level) → Run d rs from left held ls → 0 < got_at 0 (working d k) (flat ls) → got k.sequence (flat ls) ≡ k.size
  run-before from left held [] run t = absurd (omega arith)
  run-before from left held (l ∷ ls) run t = go (eqb (working d k) l.price) refl (λ t. run-before (l.price + 1) (left - traded (level_fills l)) (held + contra l) ls run.1 t)
    where
      later : working d k ≡ l.price → got_at 0 (working d k) (flat ls) ≡ 0
      later w =
          got_at-none (working d k) (flat ls)
          (every_map (λ f. l.price + 1 ≤ f.price) (λ f. (eqb f.party 0 && eqb f.price (working d k)) ≡ false) (flat ls)
          (λ f h. rw (ne_eqb f.price (working d k) (omega arith)) (and-false (eqb f.party 0))) (run-from d rs s (l.price + 1) (left - traded (level_fills l)) (held + contra l) ls run.1))

      go : (b : Bool) → eqb (working d k) l.price ≡ b → (0 < got_at 0 (working d k) (flat ls) → got k.sequence (flat ls) ≡ k.size) → got k.sequence (level_fills l ++ flat ls) ≡ k.size
      go true w ih =
          let v : working d k ≡ l.price = eqb-true (working d k) l.price w in
          let c : 0 < contra l =
          omega (arith, got_at-append (working d k) (level_fills l) (flat ls), later v, tally-and (λ f. eqb f.party 0) (λ f. eqb f.price (working d k)) (level_fills l), got-contra l (no-contra d rs s from left held l run.0)) in
          omega (
            arith,
            got-append k.sequence (level_fills l) (flat ls),
            run-passed d rs s k n (l.price + 1) (left - traded (level_fills l)) (held + contra l) ls run.1 (omega arith),
            level-served l k (positive d rs s k n) (here-distinct d rs s k n from left held l run.0) (is-here d rs s k n from left held l run.0 v) e (contra-after l c),
          )
      go false w ih =
          let z : working d k ≢ l.price = eqb-false (working d k) l.price w in
          omega (
            arith,
            got-append k.sequence (level_fills l) (flat ls),
            got-elsewhere d rs s k n from left held l run.0 z,
            ih (omega (arith, got_at-append (working d k) (level_fills l) (flat ls), elsewhere l (λ y. z (sym y)))),
          )
