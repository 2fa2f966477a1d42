-- A price's mirror: what it is for the other side.
use Rattle.std.specs.Prelude.{ℕ, ◌-◌}

unfoldable pub mirrored : ℕ → ℕ
mirrored p = 1000000 - p
