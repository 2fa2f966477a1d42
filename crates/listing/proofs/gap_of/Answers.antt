use native.Mathlib.Omega.{arith}
use borrow.Author.Rules.{rules}
use Rattle.words.proofs.BitLaws.{LowestBit, lowest_set}
use Rattle.listing.proofs.LookLaws.{gap-some}
use Rattle.listing.proofs.gap_of.Goals as goal
use Rattle.listing.proofs.gap_of.Goals.{After-first_set-i}

low : (c : goal.After-first_set-i) → LowestBit c.args.word c.first_set-i.result
low c = lowest_set _ _ c.requires.0 (search rules) c.first_set-i.ensures

pub overflow_cast-i : goal.overflow_cast-i
overflow_cast-i c = omega (arith, (low c).place)

pub overflow_mul-result : goal.overflow_mul-result
overflow_mul-result c = omega (arith, (low c).place)

pub returns : goal.returns
returns c =
    let n = c.first_set-i.result in (
      gap-some c.args.word n (low c) c.requires.1,
      omega (arith, (low c).place),
      omega arith,
      omega (arith, c.first_set-i.ensures),
    )
