use mathlib.Core.Path.{sym, ap, ◌∙◌}
use Rattle.std.specs.Prelude.{Ok}
use Rattle.tape.specs.rules.Tape.{records_of}
use Rattle.run.specs.rules.Run.{refused, run_order}
use Rattle.listing.proofs.ListsLaws.{lists-same}
use Rattle.listing.proofs.list_tape.Goals as goal

pub returns-in-Ok : goal.returns-in-Ok
returns-in-Ok c =
    let a = c.args in
    lists-same (run_order (records_of a.tape.now a.t) (Ok c.in-Ok.o)) c.list_order.ensures (ap (run_order (records_of a.tape.now a.t)) (sym c.in-Ok.is ∙ c.order_in.ensures))

pub returns-in-Err : goal.returns-in-Err
returns-in-Err c =
    let a = c.args in
    lists-same (refused c.in-Err.refusal) c.list_refused.ensures (ap (run_order (records_of a.tape.now a.t)) (sym c.in-Err.is ∙ c.order_in.ensures))
