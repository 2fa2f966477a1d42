-- Of `forms::play::play_events`: the current event is that of the place, and the events run out.
use Rattle.std.proofs.Common.{◌-◌, ◌≡◌}
use Rattle.reader.specs.rules.Reader.{current_of}
use Rattle.forms.proofs.play.play_events.Given as goal

abbrev pub invariant-loop-current : goal.invariant-loop-current
invariant-loop-current g l = l.current ≡ current_of l.bytes l.trailer l.place

abbrev pub decreases-loop-current : goal.decreases-loop-current
decreases-loop-current g l = l.trailer.events - l.place
