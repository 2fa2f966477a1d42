use mathlib.Core.Path.{sym, ap, subst, ◌∙◌}
use mathlib.Core.List.{◌++◌}
use native.Mathlib.Omega.{arith}
use borrow.Author.Rules.{rules}
use Rattle.tape.specs.rules.Tape.{records_of}
use Rattle.auction.specs.declared.Auction.{Auction}
use Rattle.fills.specs.rules.Fills.{has_ended}
use Rattle.run.specs.rules.Run.{run, heard, closed, ended}
use Rattle.listing.specs.rules.Listing.{auction_line, event_lines, end_lines}
use Rattle.listing.specs.inside.Writes.{Fits}
use Rattle.listing.proofs.RunLaws.{closed-ended}
use Rattle.listing.proofs.LengthLaws.{auction-fits}
use Rattle.listing.proofs.WriterLaws.{writes-append, writes-same, writes-start, fits-first, fits-rest, fits-start}
use Rattle.listing.proofs.ListsLaws.{wrote-lists}
use Rattle.listing.proofs.list_auction.Goals as goal
use Rattle.listing.proofs.list_auction.Goals.{After-w-1}

abbrev last : goal.After-w-1 → Auction
last c = let a = c.args in closed (run a.a (records_of a.tape.now a.t))

room : (c : goal.After-w-1) → Fits c.new-w.result (auction_line c.args.a.head ++ (event_lines (heard c.args.a (records_of c.args.tape.now c.args.t)) ++ end_lines (last c)))
room c =
    let a = c.args in
    let w = c.new-w.ensures in
    fits-start c.new-w.result _ _ w.bytes w.place (omega (arith, auction-fits a.tape.now a.t a.a c.requires.events_bound.0 c.requires.board_value, c.requires.events_bound.1))

pub auction-requires : goal.auction-requires
auction-requires c = fits-first c.new-w.result _ _ (room c)

pub put_events-end-requires-clause-room : goal.put_events-end-requires-clause-room
put_events-end-requires-clause-room c =
    fits-first c.auction.new.self _ _ (fits-rest _ c.auction.ensures (room (goal.at.put_events-end-requires-clause-room c).After-w-1))

pub results-requires : goal.results-requires
results-requires c =
    let r = room (goal.at.results-requires c).After-w-1 in
    let e = c.put_events-end.ensures in
    let v = e.auction_value in
    record {
      ended = (ap (λ (a : Auction). has_ended a.head) v.0 ∙ closed-ended (run c.args.a (records_of c.args.tape.now c.args.t)), v.1);
      room = subst (λ (a : Auction). Fits c.put_events-end.new.w (end_lines a)) (sym v.0) (fits-rest _ e.lines (fits-rest _ c.auction.ensures r));
    }

pub returns : goal.returns
returns c =
    let a = c.args in
    let w = c.new-w.ensures in
    let e = c.put_events-end.ensures in
    let v = e.auction_value.0 in
    let es = heard a.a (records_of a.tape.now a.t) in
    let b = closed (run a.a (records_of a.tape.now a.t)) in
    rw (ap (λ (x : Auction). x.head.ending) v)
    (wrote-lists (ended a.a es b) (writes-start w.bytes w.place (writes-append c.auction.ensures (writes-append e.lines (writes-same c.results.ensures (ap end_lines v)))) (search rules)))
