-- The kinds of events (document 01, "The tape", and W-201 for amends), and the byte of a record that names each.
use Rattle.std.specs.Prelude.{◌≡◌, ℕ, ◌<◌, ◌⊎◌, Result, Ok, Err}
use Rattle.tape.specs.declared.kind.Kind.{Kind}
use Rattle.tape.specs.declared.kind.Kind.TheVariants.{Gtx, Cancel, Limit, Market, Quotes, Amend}
use Rattle.tape.specs.declared.kind.UnknownKind.{UnknownKind}

abbrev pub byte_of : Kind → ℕ
byte_of Gtx = 1
byte_of Cancel = 2
byte_of Limit = 3
byte_of Market = 4
byte_of Quotes = 5
byte_of Amend = 6

-- the byte names that kind, or none: 0, and all above 6
abbrev pub Names : ℕ → Result Kind UnknownKind → Type 0
Names byte (Ok k) = byte ≡ byte_of k
Names byte (Err e) = (e.0 ≡ byte) × ((byte ≡ 0) ⊎ (6 < byte))
