use mathlib.Core.Path.{◌≡◌}
use mathlib.Core.Logic.{◌⊎◌}
use Prim.Native.Nat.{◌^◌, ◌<◌}
use Rattle.run.specs.rules.Run.{run, heard}
use Rattle.events.specs.rules.Step.{found_for}
use Rattle.board.specs.rules.Board.{found_at}
use Rattle.board.specs.promises.Board.{Good}
use Rattle.listing.specs.rules.Listing.{event_lines}
use Rattle.listing.proofs.WriterLaws.{LeftToWrite}
use Rattle.listing.proofs.LookLaws.{Seeks, Sought, looked}
use Rattle.listing.proofs.RunLaws.{whole, rest}
use Rattle.listing.proofs.put_events.Given as goal

-- the response that the event names: at no place before i, or found, or to be looked for one place at a time
abbrev pub invariant-loop-rest : goal.invariant-loop-rest
invariant-loop-rest l =
    Seeks l.b l.e.f12 l.initial.rest l.named l.rest l.i l.slow ⊎ Sought l.b l.e.f12 l.initial.rest l.named l.rest l.slow

abbrev pub decreases-loop-rest : goal.decreases-loop-rest
decreases-loop-rest l = l.rest

-- it is what was found so far, or among the places still to come
abbrev pub invariant-loop-slow : goal.invariant-loop-slow
invariant-loop-slow l =
    (l.slow < 2 ^ 64) × (looked l.b l.e.f12 l.named l.slow ≡ found_at l.b (found_for l.b l.e))

abbrev pub decreases-loop-slow : goal.decreases-loop-slow
decreases-loop-slow l = l.slow

abbrev pub invariant-loop-k : goal.invariant-loop-k
invariant-loop-k l =
    record {
      lines : LeftToWrite l.initial.w l.w (event_lines (heard (whole l.initial.h l.initial.b) (rest l.tape l.t 0))) (event_lines (heard (whole l.h l.b) (rest l.tape l.t l.k)));
      auction : run (whole l.h l.b) (rest l.tape l.t l.k) ≡ run (whole l.initial.h l.initial.b) (rest l.tape l.t 0);
      good : Good l.b;
    }
