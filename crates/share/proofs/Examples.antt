-- Worked examples of pro rata, by computation.
use mathlib.Core.Path.{◌≡◌, refl}
use mathlib.Core.List.{List, [], ◌∷◌, map}
use Prim.Native.Nat.{ℕ}
use Rattle.base.specs.Lists.{filter, sum}
use Rattle.share.specs.rules.Share.{shares}

pub record Case : Type 0 where
  pub count : ℕ
  pub sizes : List ℕ
  pub want : List ℕ

abbrev cases : List Case
cases =
    -- case b as W-203 has it: 60 over 31, 30 and 30; whole parts 20, 19 and 19, fractions 40, 71 and 71 of 91
    record { count = 60; sizes = 31 ∷ 30 ∷ 30 ∷ []; want = 20 ∷ 20 ∷ 20 ∷ [] }
    -- R covers all
    ∷ record { count = 100; sizes = 31 ∷ 30 ∷ 30 ∷ []; want = 31 ∷ 30 ∷ 30 ∷ [] }
    -- the larger fraction is the smaller size's: 5 over 4, 2, 4, 2 and 4, fractions 4, 10, 4, 10 and 4 of 16
    ∷ record { count = 5; sizes = 4 ∷ 2 ∷ 4 ∷ 2 ∷ 4 ∷ []; want = 1 ∷ 1 ∷ 1 ∷ 1 ∷ 1 ∷ [] }
    -- equal fractions, and not one for each: the earlier have it
    ∷ record { count = 7; sizes = 3 ∷ 3 ∷ 3 ∷ 3 ∷ []; want = 2 ∷ 2 ∷ 2 ∷ 1 ∷ [] }
    -- a larger fraction after smaller ones: 4 over 2, 2, 1 and 2, fractions 1, 1, 4 and 1 of 7
    ∷ record { count = 4; sizes = 2 ∷ 2 ∷ 1 ∷ 2 ∷ []; want = 1 ∷ 1 ∷ 1 ∷ 1 ∷ [] }
    -- a fraction of 0 beside leftovers: 5 over 2, 1, 1 and 6, fractions 0, 5, 5 and 0 of 10
    ∷ record { count = 5; sizes = 2 ∷ 1 ∷ 1 ∷ 6 ∷ []; want = 1 ∷ 1 ∷ 0 ∷ 3 ∷ [] }
    -- one short of all: the smaller sizes have the larger fractions
    ∷ record { count = 9; sizes = 4 ∷ 3 ∷ 2 ∷ 1 ∷ []; want = 3 ∷ 3 ∷ 2 ∷ 1 ∷ [] }
    -- the larger fraction is the larger size's: 3 over 1 and 7, fractions 3 and 5 of 8
    ∷ record { count = 3; sizes = 1 ∷ 7 ∷ []; want = 0 ∷ 3 ∷ [] }
    -- fractions close together: 1000, 1001 and 999 of 3000
    ∷ record { count = 1; sizes = 1000 ∷ 1001 ∷ 999 ∷ []; want = 0 ∷ 1 ∷ 0 ∷ [] }
    -- a size of 0
    ∷ record { count = 1; sizes = 0 ∷ 5 ∷ 5 ∷ []; want = 0 ∷ 1 ∷ 0 ∷ [] }
    -- the largest sizes, a tie and none
    ∷ record { count = 4294967295; sizes = 4294967295 ∷ 4294967295 ∷ []; want = 2147483648 ∷ 2147483647 ∷ [] }
    ∷ record { count = 4294967295; sizes = 4294967294 ∷ 4294967295 ∷ []; want = 2147483647 ∷ 2147483648 ∷ [] }
    -- nothing to share, and nobody
    ∷ record { count = 0; sizes = 3 ∷ 2 ∷ []; want = 0 ∷ 0 ∷ [] }
    ∷ record { count = 0; sizes = []; want = [] }
    ∷ []

pub table : map (λ (c : Case). shares c.count c.sizes) cases ≡ map (λ (c : Case). c.want) cases
unfolding sum filter shares
table = refl
