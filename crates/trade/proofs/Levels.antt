-- Laws of one price: of any level, however it was made.
use mathlib.Core.Path.{◌≡◌, refl}
use mathlib.Core.Bool.{Bool, true, false, cond}
use mathlib.Core.List.{◌++◌}
use Prim.Native.Nat.{◌+◌, ◌-◌, min}
use native.Mathlib.Omega.{arith}
use Rattle.base.specs.Lists.{sum}
use Rattle.share.specs.rules.Share.{in_turn}
use Rattle.share.proofs.ShareLaws.{shares_sum, turn-sum, turn-length, shares-length}
use Rattle.share.specs.rules.Fills.{fill_of, fills_by, sizes}
use Rattle.trade.specs.rules.Trade.{Level, customers, others, shared, given, rest, contra, level_fills, traded, size_here}
use Rattle.trade.proofs.Lists.{sizes-split, total-append, total-fill, total-by}

module _ (l : Level) where
  -- ---- how much trades

  pub given-sum : sum (given l) ≡ min (shared l) (sum (sizes (others l)))
  given-sum = shares_sum (shared l) (sizes (others l))

  parts : traded (level_fills l) ≡ min l.left (sum (sizes (customers l))) + (contra l + sum (given l))
  unfolding level_fills
  parts =
      let a = fills_by l.price (customers l) (in_turn l.left (sizes (customers l))) in
      let b = fill_of 0 l.price (contra l) in
      let c = fills_by l.price (others l) (given l) in
      omega (
        arith,
        total-append a (b ++ c),
        total-append b c,
        total-by l.price (customers l) (in_turn l.left (sizes (customers l))) (turn-length l.left (sizes (customers l))),
        turn-sum l.left (sizes (customers l)),
        total-fill 0 l.price (contra l),
        total-by l.price (others l) (given l) (shares-length (shared l) (sizes (others l))),
      )

  -- what trades at a price: all that is left where it is final, else the responses and what the Contra Order wants
  pub traded-is : traded (level_fills l) ≡ cond l.final l.left (min l.left (size_here l + l.want))
  traded-is = go l.final refl
    where
      go : (b : Bool) → l.final ≡ b → traded (level_fills l) ≡ cond b l.left (min l.left (size_here l + l.want))
      go true e =
          let r : rest l ≡ shared l - sum (given l) = rw e in
          omega (arith, parts, given-sum, sizes-split l.here)
      go false e =
          let r : rest l ≡ 0 = rw e in
          omega (arith, parts, given-sum, sizes-split l.here)
