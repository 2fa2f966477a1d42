-- What is promised of a tape that opens, and of its records, old or new (`wide`).
use Rattle.std.specs.Prelude.{◌≡◌, Bool, cond, List, ℕ, ◌+◌, ◌≤◌, ◌<◌, length, Ok, Err}
use Rattle.base.specs.declared.refusal.Refusal.TheVariants.{EventOutOfForm}
use Rattle.tape.specs.rules.Form.{event_formed}
use Rattle.tape.specs.rules.Records.{width_of, read_event, record_at}
use Rattle.tape.specs.rules.Tape.{event_place}
use Rattle.words.specs.rules.Bytes.{word_at}
use Rattle.tape.specs.declared.trailer.Trailer.{Trailer}

-- an opened tape holds its order and each of its events before its trailer
pub record Holds (s : List ℕ) (t : Trailer) : Type 0 where
  pub short : length s ≤ 65536
  pub order : t.order + 64 + 16 ≤ length s
  pub event : (k : ℕ) → k < t.events → event_place t.wide t.order k + width_of t.wide + 16 ≤ length s

-- of a record that has its bytes, what is read is the event that stands there where that is in form, and else it is refused as out of form; the event bears the record's first word
pub record Recorded (wide : Bool) (s : List ℕ) : Type 0 where
  pub reads : width_of wide ≤ length s → read_event wide s ≡ cond (event_formed (record_at wide s)) (Ok (record_at wide s)) (Err EventOutOfForm)
  pub sequence : (record_at wide s).sequence ≡ word_at s 0
