-- Of `Names::next`: the bytes kept so far lie within the lent ones.
use Rattle.std.proofs.Common.{length, ◌≤◌}
use Rattle.evening.proofs.names.Names.next.Given as goal

abbrev pub invariant-loop : goal.invariant-loop
invariant-loop g l = l.k ≤ length l.room
