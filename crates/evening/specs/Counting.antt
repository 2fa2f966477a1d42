-- What the counters give: each begins at 0; the number of tapes, or of what came of a tape, goes up by one, and no other.
use Rattle.std.specs.Prelude.{ℕ, ◌+◌, ◌%◌, ◌^◌}
use Rattle.auction.specs.declared.Ending.{Ending}
use Rattle.auction.specs.declared.Ending.TheVariants.{Open, Time, Same, Opposite, Improve}
use Rattle.listing.specs.declared.Listed.{Listed}
use Rattle.std.specs.Prelude.{Result, Ok, Err}
use Rattle.base.specs.declared.refusal.Refusal.{Refusal}
use Rattle.evening.specs.declared.tally.Tally.{Tally}

-- past the greatest number of 64 bits comes 0
abbrev pub one_more : ℕ → ℕ
one_more n = (n + 1) % 2 ^ 64

-- the tally at the start
abbrev pub no_tapes : Tally
no_tapes =
    record {
      tapes = 0;
      refused = 0;
      time = 0;
      same = 0;
      opposite = 0;
      improve = 0;
      unreadable = 0;
    }

abbrev pub counted_tape : Tally → Tally
counted_tape t = record t { tapes = one_more t.tapes }

abbrev pub counted_unreadable : Tally → Tally
counted_unreadable t = record t { unreadable = one_more t.unreadable }

abbrev pub counted_ending : Tally → Ending → Tally
counted_ending t Time = record t { time = one_more t.time }
counted_ending t Same = record t { same = one_more t.same }
counted_ending t Opposite = record t { opposite = one_more t.opposite }
counted_ending t Improve = record t { improve = one_more t.improve }
counted_ending t Open = t

abbrev pub counted_outcome : Tally → Result Ending Refusal → Tally
counted_outcome t (Err refusal) = record t { refused = one_more t.refused }
counted_outcome t (Ok ending) = counted_ending t ending

abbrev pub counted_listed : Tally → Listed → Tally
counted_listed t listed = counted_outcome t listed.outcome
