-- The others' shares, price by price, said of the fills. Assumes nothing.
use mathlib.Core.Path.{◌≡◌, sym, subst, ◌∙◌}
use mathlib.Core.List.{List}
use mathlib.Core.Logic.{◌≢◌}
use Prim.Native.Nat.{ℕ}
use native.Mathlib.Omega.{arith}
use lib.Dec.{eqb}
use Rattle.base.specs.Lists.{filter, In}
use Rattle.base.proofs.ListLaws.{every_in}
use Rattle.board.specs.declared.Response.{Response}
use Rattle.trade.specs.declared.Deal.{Deal}
use Rattle.trade.specs.rules.Trade.{Level, from_other, offers, offers_at, others, level_fills, flat, working, market_price, market_takes, market_fill, levels, fills}
use Rattle.demand.specs.promises.Demands.{Absent, Distinct, got}
use Rattle.demand.specs.promises.Shares.{SharedOut}
use Rattle.demand.proofs.Lists.{gots-same, got-none, all-fill, distinct-keep}
use Rattle.demand.proofs.Levels.{gots-level}
use Rattle.demand.proofs.Walk.{Walkable, Good}
use Rattle.demand.proofs.Runs.{got-append, no-contra, run-each, run-level}
use Rattle.demand.proofs.Fair.{at-price}
use Rattle.demand.proofs.Theorems.{fit, the-run, all_of}

-- what is known of the responses of a level
record There (d : Deal) (rs : List Response) (l : Level) : Type 0 where
  here-are : l.here ≡ offers_at d rs l.price
  no-contra : Absent 0 l.here
  distinct : Distinct l.here

module _ (d : Deal) (rs : List Response) (s : Walkable d rs) where
  -- a response trades in the walk alone
  pub got-walk : (x : Response) → In x rs → got x.sequence (fills d rs) ≡ got x.sequence (flat (levels d rs))
  got-walk x m =
      rw (all_of d rs s)
      (omega (
        arith,
        got-append x.sequence (market_fill d rs) (flat (levels d rs)),
        got-none x.sequence (market_fill d rs)
            (all-fill (λ f. f.party ≢ x.sequence) d.market (market_price d rs) (market_takes d rs) (λ h e. every_in (λ y. y.sequence ≢ d.market) rs x (s.market-apart (omega arith)).1 m (sym e))),
      ))

  there : (l : Level) → In l (levels d rs) → There d rs l
  unfolding offers_at
  there =
      run-each d rs s (There d rs)
      (λ from left held l g. record { here-are = g.here-are; no-contra = no-contra d rs s from left held l g; distinct = apart from left held l g })
      _ _ _ (levels d rs) (the-run d rs s)
    where
      apart : (from left held : ℕ) (l : Level) → Good d rs from left held l → Distinct l.here
      apart from left held l g = subst Distinct (sym g.here-are) (distinct-keep (λ x. eqb (working d x) l.price) rs s.distinct)

pub shared-out : SharedOut
shared-out d b s l n =
    let rs = offers b in
    let w = fit d b s in
    let t = there d rs w l n in
    gots-same (fills d rs) (level_fills l) (others l)
    (λ x m.
    let a = at-price d rs w l.price x (subst (λ (ys : List Response). In x (filter from_other ys)) t.here-are m) in
    got-walk d rs w x a.0 ∙ run-level d rs w x a.0 _ _ _ (levels d rs) (the-run d rs w) l n a.1)
    ∙ gots-level l t.no-contra t.distinct
