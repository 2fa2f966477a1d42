-- The range that holds in an auction (document 01, "Range and guarantee"), and whether it is open.
use Rattle.std.specs.Prelude.{Bool, true, false, cond, ℕ, min}
use Rattle.base.specs.Price.{mirrored}
use Rattle.auction.specs.rules.Accept.{bound_of}
use Rattle.auction.specs.declared.Head.{Head}
use Rattle.auction.specs.declared.Terms.{Terms}
use Rattle.auction.specs.declared.Quotes.{Quotes}
use Rattle.auction.specs.declared.Range.{Range}
use Rattle.auction.specs.declared.Ending.{Ending}
use Rattle.auction.specs.declared.Ending.TheVariants.{Open, Time, Same, Opposite, Improve}

abbrev pub is_open : Ending → Bool
is_open Open = true
is_open Time = false
is_open Same = false
is_open Opposite = false
is_open Improve = false

-- the bound that quotes make: only BB and its mark move it
abbrev pub bound_by : Terms → Quotes → ℕ
bound_by t q = bound_of t.size t.floor q.bb q.bidmark

-- x, but at most the largest word of 32 bits; the bound and the contracts on offer of an auction that was opened are never above it
abbrev pub word : ℕ → ℕ
word x = min x 4294967295

unfoldable pub bound_now : Head → ℕ
bound_now h = word (bound_by h.terms h.quotes)

-- the range, low to high: a sell's is mirrored back
unfoldable pub range_of : Head → Range
range_of h =
    cond h.terms.sell
    (record { low = mirrored h.terms.initiating; high = mirrored (bound_now h) })
    (record { low = bound_now h; high = h.terms.initiating })
