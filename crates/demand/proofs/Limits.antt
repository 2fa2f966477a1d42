-- Within what prices a walk trades, and how much at each.
use mathlib.Core.Path.{◌≡◌, refl, sym, ap, ◌∙◌, subst}
use mathlib.Core.Bool.{Bool, true, false, cond}
use mathlib.Core.List.{List, [], ◌∷◌}
use mathlib.Core.Logic.{◌⊎◌, inl, inr, ◌≢◌}
use Prim.Native.Nat.{ℕ, ◌+◌, ◌-◌, ◌≤◌, ◌<◌}
use native.Mathlib.Omega.{arith}
use borrow.Author.Tests.{leb-true, leb-false, ltb-true, ltb-false, eq-eqb}
use lib.Dec.{leb, ltb, eqb}
use lib.ListN.{length}
use Rattle.board.specs.declared.Response.{Response}
use Rattle.base.specs.Lists.{Every, sum, In}
use Rattle.trade.specs.declared.Deal.{Deal}
use Rattle.trade.specs.rules.Trade.{Level, shared, given, rest, contra, level_fills, traded, flat, top, entry, offers_at}
use Rattle.demand.specs.promises.Demands.{sold_at}
use Rattle.base.proofs.ListLaws.{every_append, every_map}
use Rattle.demand.proofs.Lists.{tally-all, got-zero, sold_at-none}
use Rattle.demand.proofs.Levels.{all-level, got-contra}
use Rattle.demand.proofs.Walk.{Walkable, Good, Run}
use Rattle.demand.proofs.Runs.{sold-append, run-from, run-above, no-contra}

module _ (d : Deal) (rs : List Response) (s : Walkable d rs) where
  -- below its entry price the Contra Order gets nothing
  pub none-early : (from left held : ℕ) (l : Level) → Good d rs from left held l → l.price < entry d → contra l ≡ 0
  none-early from left held l g h =
      let w = g.below-entry h in
      let r : rest l ≡ 0 = ap (λ b. cond b (shared l - sum (given l)) 0) w.1 in
      omega (arith, w.0)

  -- so on arriving at its entry price, and before, it holds what it held at first
  pub run-early : (from left held : ℕ) (ls : List Level) → Run d rs from left held ls → (l : Level) → In l ls → l.price ≤ entry d → l.held ≡ held
  run-early from left held [] r l m h = absurd m
  run-early from left held (x ∷ xs) r l (inl e) h = ap (λ (y : Level). y.held) e ∙ r.0.held-is
  run-early from left held (x ∷ xs) r l (inr m) h =
      let k : x.price + 1 ≤ l.price = run-above d rs s (x.price + 1) (left - traded (level_fills x)) (held + contra x) xs r.1 l m in
      omega (arith, run-early (x.price + 1) (left - traded (level_fills x)) (held + contra x) xs r.1 l m h, none-early from left held x r.0 (omega arith))

  pub run-entry : (from left held : ℕ) (ls : List Level) → Run d rs from left held ls → Every (λ f. f.party ≡ 0 → entry d ≤ f.price) (flat ls)
  run-entry from left held [] r = tt
  run-entry from left held (l ∷ ls) r =
      every_append (λ f. f.party ≡ 0 → entry d ≤ f.price) (level_fills l) (flat ls) (go (leb (entry d) l.price) refl) (run-entry (l.price + 1) (left - traded (level_fills l)) (held + contra l) ls r.1)
    where
      go : (b : Bool) → leb (entry d) l.price ≡ b → Every (λ f. f.party ≡ 0 → entry d ≤ f.price) (level_fills l)
      go true e = all-level l (λ f. f.party ≡ 0 → entry d ≤ f.price) (λ k q h z. leb-true (entry d) l.price e)
      go false e =
          every_map (λ f. f.party ≢ 0) (λ f. f.party ≡ 0 → entry d ≤ f.price) (level_fills l) (λ f h z. absurd (h z))
          (got-zero 0 (level_fills l) (all-level l (λ f. 0 < f.quantity) (λ k q h. h))
          (got-contra l (no-contra d rs s from left held l r.0) ∙ none-early from left held l r.0 (leb-false (entry d) l.price e)))

  -- no level lies above the last price
  pub run-top : (from left held : ℕ) (ls : List Level) → Run d rs from left held ls → Every (λ f. f.price ≤ top d) (flat ls)
  run-top from left held [] r = tt
  run-top from left held (l ∷ ls) r = every_append (λ f. f.price ≤ top d) (level_fills l) (flat ls) (all-level l (λ f. f.price ≤ top d) (λ k q h. r.0.in_top)) (run-top (l.price + 1) (left - traded (level_fills l)) (held + contra l) ls r.1)

  -- each level but that of the last price has responses
  pub run-prices : (from left held : ℕ) (ls : List Level) → Run d rs from left held ls → Every (λ f. (0 < length (offers_at d rs f.price)) ⊎ (f.price ≡ top d)) (flat ls)
  run-prices from left held [] r = tt
  run-prices from left held (l ∷ ls) r =
      every_append (λ f. (0 < length (offers_at d rs f.price)) ⊎ (f.price ≡ top d)) (level_fills l) (flat ls)
      (all-level l (λ f. (0 < length (offers_at d rs f.price)) ⊎ (f.price ≡ top d)) (λ k q h. go (ltb l.price (top d)) refl)) (run-prices (l.price + 1) (left - traded (level_fills l)) (held + contra l) ls r.1)
    where
      go : (b : Bool) → ltb l.price (top d) ≡ b → (0 < length (offers_at d rs l.price)) ⊎ (l.price ≡ top d)
      go true e = inl (subst (λ (os : List Response). 0 < length os) r.0.here-are (r.0.peopled (ltb-true l.price (top d) e)))
      go false e = inr (omega (arith, ltb-false l.price (top d) e, r.0.in_top))

  -- what trades at a level's price trades at that level
  pub run-sold : (from left held : ℕ) (ls : List Level) → Run d rs from left held ls → (l : Level) → In l ls → sold_at l.price (flat ls) ≡ traded (level_fills l)
  run-sold from left held [] r l n = absurd n
  run-sold from left held (x ∷ xs) r l (inl q) =
      let here : sold_at x.price (level_fills x) ≡ traded (level_fills x) =
      tally-all (λ f. eqb f.price x.price) (level_fills x) (all-level x (λ f. eqb f.price x.price ≡ true) (λ k w h. eq-eqb x.price x.price refl)) in
      let later : sold_at x.price (flat xs) ≡ 0 =
      sold_at-none x.price (flat xs) (every_map (λ f. x.price + 1 ≤ f.price) (λ f. f.price ≢ x.price) (flat xs) (λ f h. omega arith) (run-from d rs s (x.price + 1) (left - traded (level_fills x)) (held + contra x) xs r.1)) in
      subst (λ (y : Level). sold_at y.price (flat (x ∷ xs)) ≡ traded (level_fills y)) (sym q) (omega (arith, sold-append x.price (level_fills x) (flat xs)))
  run-sold from left held (x ∷ xs) r l (inr n) =
      let h : x.price + 1 ≤ l.price = run-above d rs s (x.price + 1) (left - traded (level_fills x)) (held + contra x) xs r.1 l n in
      omega (
        arith,
        sold-append l.price (level_fills x) (flat xs),
        sold_at-none l.price (level_fills x) (all-level x (λ f. f.price ≢ l.price) (λ k w z. omega arith)),
        run-sold (x.price + 1) (left - traded (level_fills x)) (held + contra x) xs r.1 l n,
      )
