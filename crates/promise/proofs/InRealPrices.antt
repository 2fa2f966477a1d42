-- Demand 3 of every accepted order and every list of records, in real prices: its parts put together. Assumes nothing.
use mathlib.Core.Path.{◌∙◌}
use mathlib.Core.List.{List}
use Prim.Native.Nat.{◌<◌}
use native.Mathlib.Omega.{arith}
use Rattle.base.proofs.ListLaws.{every_in}
use Rattle.tape.specs.declared.order.Order.{Order}
use Rattle.tape.specs.declared.event.Event.{Event}
use Rattle.auction.specs.rules.Accept.{auction_of, Accepts}
use Rattle.run.proofs.Resend.{one, above}
use Rattle.promise.specs.rules.Sides.{taken_records}
use Rattle.promise.specs.promises.Parts.{InRealPrices}
use Rattle.promise.proofs.RealLaws.{ended-well, size_is, written_is}
use Rattle.promise.proofs.Real.{own-limit, some, parties, contra-limit, works, fits, priority}
use Rattle.promise.proofs.Standing.{stand, by-fold}
use Rattle.promise.proofs.Counted.{gone-none}
use Rattle.promise.proofs.MarketTrades.{market-trades}
use Rattle.promise.proofs.Shared.{filled, short, shared-out, share, covered, guaranteed, guaranteed-last}

pub trades : (o : Order) (es : List Event) → Accepts o → InRealPrices o es
trades o es h =
    record {
      ended = (ended-well o es h).ended;
      adds-up = (ended-well o es h).adds-up ∙ size_is o es h;
      in-range = (ended-well o es h).in-range;
      own-limit = own-limit o es h;
      some = some o es h;
      clauses = ended-well o es h;
      link = written_is o es h;
      stand = stand o es h;
      by-fold = by-fold o es h;
      gone-none = gone-none o es h;
      parties = parties o es h;
      told-apart = one (auction_of o) es;
      not-contra = λ e i. omega (arith, every_in (λ x. (auction_of o).head.sequence < x.sequence) (taken_records o es) e (above es (auction_of o)) i);
      market-trades = market-trades o es h;
      contra-limit = contra-limit o es h;
      works = works o es h;
      fits = fits o es h;
      priority = priority o es h;
      filled = filled o es h;
      short = short o es h;
      shared-out = shared-out o es h;
      share = share o es h;
      covered = covered o es h;
      guaranteed = guaranteed o es h;
      guaranteed-last = guaranteed-last o es h;
    }
