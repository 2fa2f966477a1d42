use mathlib.Core.Path.{sym, ap, ◌∙◌}
use Rattle.std.specs.Prelude.{Ok}
use Rattle.tape.specs.rules.Tape.{records_of}
use Rattle.run.specs.rules.Run.{refused, run_entry}
use Rattle.listing.proofs.LengthLaws.{accept-empty}
use Rattle.listing.proofs.ListsLaws.{lists-same}
use Rattle.listing.proofs.list_order.Goals as goal

pub list_auction-requires : goal.list_auction-requires
list_auction-requires c = record { events_bound = c.requires; board_value = accept-empty c.args.o (sym c.accept.ensures ∙ c.in-Ok.is) }

pub returns-in-Ok : goal.returns-in-Ok
returns-in-Ok c =
    let a = c.args in
    let s = records_of a.tape.now a.t in
    lists-same (run_entry s (Ok c.in-Ok.a)) c.list_auction.ensures (ap (run_entry s) (sym c.in-Ok.is ∙ c.accept.ensures))

pub returns-in-Err : goal.returns-in-Err
returns-in-Err c =
    let a = c.args in
    let s = records_of a.tape.now a.t in
    lists-same (refused c.in-Err.refusal) c.list_refused.ensures (ap (run_entry s) (sym c.in-Err.is ∙ c.accept.ensures))
