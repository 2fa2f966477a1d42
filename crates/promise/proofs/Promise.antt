-- The promise is kept.
use mathlib.Core.Path.{sym, ap, ◌∙◌}
use native.Mathlib.Omega.{arith}
use Rattle.std.specs.Prelude.{Err}
use Rattle.base.specs.declared.refusal.Refusal.TheVariants.{NoRange}
use Rattle.base.proofs.RefusalLaws.{distinct}
use Rattle.auction.specs.rules.Accept.{accept_of}
use Rattle.roundtrip.proofs.TapeBack.{demands}
use Rattle.run.proofs.Resend.{keeps}
use Rattle.promise.specs.promises.Promise.{Promise}
use Rattle.promise.proofs.Answered.{answered, roomed, filling, numbered, event-numbers, without-refused, none-refused}
use Rattle.promise.proofs.Resent.{same-records, resends, answered-alike}
use Rattle.promise.proofs.Counted.{counted}
use Rattle.promise.proofs.Offered.{offered, mirrors-watch}
use Rattle.promise.proofs.Tapes.{can-lack, can-mirror}
use Rattle.promise.proofs.Carried.{refused-by}
use Rattle.promise.proofs.Opening.{opens, some-range, no-range, only-13}
use Rattle.promise.proofs.InRealPrices.{trades}
use Rattle.promise.proofs.InRealTerms.{terms, printed, watch-printed}
use Rattle.promise.proofs.Orders.{order-number}
use Rattle.promise.proofs.Mirrored.{mirrors}
use Rattle.promise.proofs.Firms.{firms}
use Rattle.promise.proofs.Unshown.{unshown}
use Rattle.promise.proofs.Moved.{moved}
use Rattle.promise.proofs.Below.{below}

pub promise : Promise
promise =
    record {
      answered = answered;
      order-number = order-number;
      roomed = roomed;
      filling = filling;
      numbered = numbered;
      event-numbers = event-numbers;
      keeps = keeps;
      can-lack = λ s o es a b c. can-lack s o es b c a;
      without-refused = without-refused;
      none-refused = none-refused;
      answered-alike = answered-alike;
      read_back = demands;
      first_range = opens;
      some-range = some-range;
      no-range = λ o h. let r = refused-by (accept_of o) 13 h in no-range o (r.1 ∙ ap Err (distinct r.0 NoRange r.2));
      only-13 = λ o n h l e. let r = refused-by (accept_of o) n h in sym r.2 ∙ only-13 o r.0 r.1 (omega (arith, l, r.2)) e;
      trades = trades;
      real-terms = terms;
      printed = λ s o es fs c h e. printed o es h s fs c e;
      watch-printed = λ s o es fs c h e. watch-printed o es h s fs c e;
      counted = counted;
      same-records = same-records;
      resends = resends;
      on-offer = offered;
      can-mirror = can-mirror;
      mirrors = mirrors;
      mirrors-watch = mirrors-watch;
      firms = firms;
      unshown = unshown;
      moved = moved;
      below = below;
    }
