use mathlib.Core.Path.{sym, ap, ◌∙◌}
use Rattle.std.specs.Prelude.{Ok}
use Rattle.run.specs.rules.Run.{refused, run_tape, run_of}
use Rattle.listing.proofs.RunLaws.{tape-fits}
use Rattle.listing.proofs.ListsLaws.{lists-same, too_small, lists-whole}
use Rattle.listing.proofs.listing.Goals as goal

pub returns-then-out-lt-ROOM : goal.returns-then-out-lt-ROOM
returns-then-out-lt-ROOM c =
    let both = let a = c.args in too_small a.tape.now a.out.now c.if-out-lt-ROOM.true in
    record { value = both.0; out_after = both.1 }

pub list_tape-requires : goal.list_tape-requires
list_tape-requires c =
    let a = c.args in
    (tape-fits a.tape.now c.in-Ok.t (sym c.open_tape.ensures ∙ c.in-Ok.is), c.if-out-lt-ROOM.false)

pub returns-in-Ok : goal.returns-in-Ok
unfolding run_of
returns-in-Ok c =
    let both = let a = c.args in
    lists-whole a.tape.now a.out.now c.if-out-lt-ROOM.false (lists-same (run_tape a.tape.now (Ok c.in-Ok.t)) c.list_tape.ensures (ap (run_tape a.tape.now) (sym c.in-Ok.is ∙ c.open_tape.ensures))) in
    record { value = both.0; out_after = both.1 }

pub returns-in-Err : goal.returns-in-Err
unfolding run_of
returns-in-Err c =
    let both = let a = c.args in
    lists-whole a.tape.now a.out.now c.if-out-lt-ROOM.false (lists-same (refused c.in-Err.refusal) c.list_refused.ensures (ap (run_tape a.tape.now) (sym c.in-Err.is ∙ c.open_tape.ensures))) in
    record { value = both.0; out_after = both.1 }
