-- The contracts on offer (W-202 of document 02): the total size of the live responses, kept in the auction.
use Rattle.std.specs.Prelude.{ℕ, ◌+◌, ◌-◌}
use Rattle.auction.specs.rules.Range.{word}
use Rattle.auction.specs.declared.Auction.{Auction}

-- as it is kept, with no look at the board
abbrev pub on_offer : Auction → ℕ
on_offer a = a.head.offered

-- n contracts, less a size that is gone, with a size that has come: never below 0, at most the largest word of 32 bits; in an auction that was opened neither limit takes effect
abbrev pub moved_offer : ℕ → ℕ → ℕ → ℕ
moved_offer n gone come = word (n - gone + come)
