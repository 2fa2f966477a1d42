-- Of `evening::show`: what is shown is within the lent bytes.
use Rattle.std.proofs.Common.{sym, ap, arith, length-take-le}
use Rattle.listing.specs.rules.Listing.{length_in}
use Rattle.listing.proofs.Theorems.{within}
use Rattle.evening.proofs.show.Goals as goal

pub slice_bounds-write_all-end : goal.slice_bounds-write_all-end
slice_bounds-write_all-end g c = omega (arith, c.length_of-n.ensures, ap length_in c.listing-listed.ensures.value, within c.args.tape.now c.args.out.now)

pub slice_bounds-write_all-end-2 : goal.slice_bounds-write_all-end-2
slice_bounds-write_all-end-2 g c =
    sym (length-take-le c.length_of-n.result c.listing-listed.new.out (omega (arith, c.length_of-n.ensures, ap length_in c.listing-listed.ensures.value, within c.args.tape.now c.args.out.now)))
