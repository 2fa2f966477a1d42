-- Of `forms::results::print_fills`: each fill adds no more than 32 bits hold.
use Rattle.std.proofs.Common.{◌*◌, ◌≤◌}
use Rattle.forms.proofs.results.print_fills.Given as goal

abbrev pub invariant-loop-party : goal.invariant-loop-party
invariant-loop-party g l = l.sum ≤ 4294967295 * l.party-index
