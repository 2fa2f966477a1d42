-- Of `runner::answer`: the listing and its length, which is within the lent bytes.
use Rattle.std.proofs.Common.{ap, ◌∙◌, arith}
use Rattle.io.proofs.Counting.{prefix_len_of_le}
use Rattle.listing.specs.rules.Listing.{length_in}
use Rattle.listing.proofs.Theorems.{within}
use Rattle.runner.proofs.answer.Goals as goal

pub returns : goal.returns
returns c =
    let n = c.length_of.ensures ∙ ap length_in c.listing.ensures.value in
    record {
      value = n;
      out_after = c.listing.ensures.out_after;
      prefix_len = prefix_len_of_le _ _ (omega (arith, n, within c.args.tape.now c.args.out.now));
    }
