use mathlib.Core.Path.{ap, ◌∙◌}
use native.Mathlib.Omega.{arith}
use Rattle.auction.specs.rules.Offer.{on_offer}
use Rattle.events.specs.declared.Stepped.{Stepped}
use Rattle.events.specs.rules.Step.{step_of}
use Rattle.run.specs.rules.Run.{said}
use Rattle.listing.specs.rules.Listing.{event_line_with}
use Rattle.listing.specs.rules.Watch.{watch_line}
use Rattle.listing.proofs.LengthLaws.{watched-short}
use borrow.Author.Rules.{rules}
use Rattle.listing.proofs.WriterLaws.{writes-same, writes-start, fits-start}
use Rattle.listing.proofs.WatchLaws.{unshown, shown, unwatched, watched}
use Rattle.listing.proofs.watch.event.Goals as goal

pub returns-then-out-lt-LINES : goal.returns-then-out-lt-LINES
returns-then-out-lt-LINES c = let a = c.args in record { value = unwatched a.a a.e a.out.now c.if-out-lt-LINES.true; out_after = (unshown (watch_line a.a a.e) a.out.now c.if-out-lt-LINES.true).1 }

pub watched-requires : goal.watched-requires
watched-requires c =
    let w = c.new-w.ensures in
    fits-start c.new-w.result _ _ w.bytes w.place (omega (arith, c.if-out-lt-LINES.false, watched-short (said c.args.e.sequence c.step-s.result.answer) c.on_offer.result))

pub returns : goal.returns
returns c =
    let a = c.args in
    let s = c.step-s in
    let v = c.new-w.ensures in
    let room = c.if-out-lt-LINES.false in
    let w = shown (watch_line a.a a.e) a.out.now room (omega (arith, watched-short (said a.e.sequence (step_of a.a a.e).answer) (on_offer (step_of a.a a.e).auction)))
    (writes-start v.bytes v.place (writes-same c.watched.ensures
    (ap (event_line_with (said a.e.sequence s.result.answer)) c.on_offer.ensures
    ∙ ap (λ (v : Stepped). event_line_with (said a.e.sequence v.answer) (on_offer v.auction)) s.ensures)) (search rules)) in
    record { value = watched a.a a.e a.out.now s.result _ room s.ensures w.0; out_after = w.1 }
