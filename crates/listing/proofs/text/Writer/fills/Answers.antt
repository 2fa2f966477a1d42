use borrow.Author.Rules.{rules}
use mathlib.Core.Path.{◌≡◌, ap, ◌∙◌}
use native.Mathlib.Omega.{arith}
use Prim.Native.Nat.{◌≤◌}
use lib.ListN.{length}
use Rattle.trade.specs.rules.Trade.{traded}
use Rattle.listing.specs.rules.Listing.{fill_lines}
use Rattle.listing.specs.inside.Code.{fills_in}
use Rattle.listing.proofs.WriterLaws.{left-turn, left-start}
use Rattle.listing.proofs.FillLaws.{fills-more, fills-few-words}
use Rattle.listing.proofs.text.Writer.fills.Goals as goal
use Rattle.listing.proofs.text.Writer.fills.Goals.{After-from-sum}

word : (c : goal.After-from-sum) → c.from-sum.result ≤ 4294967295
word c = omega (arith, c.from-sum.ensures, c.type_inv.fill 2)

pub loop-fill-preserved : goal.loop-fill-preserved
loop-fill-preserved c =
    let l = c.loop-fill in
    let i = l.invariant in
    let rest = c.next.new.self.rest.now in
    let step = c.in-Some.ensures.steps in
    let more = fills-more l.fill-iterator.rest.now c.in-Some.fill.now rest step.1.0 (step.1.1 ∙ i.threes) in
    record {
      can_next = search rules;
      is_finite = search rules;
      threes = step.0 ∙ i.threes;
      lines = left-turn (fill_lines (fills_in rest)) i.lines c.fill.ensures (ap fill_lines more);
      total = omega (arith, i.total, c.from-sum.ensures, ap traded more);
      small = omega (arith, i.small, word (goal.at.loop-fill-preserved c).After-from-sum, ap length more);
    }

pub loop-fill-init : goal.loop-fill-init
loop-fill-init c =
    let ws = c.args.words.now in
    let all : c.into_iter-fill-iterator.result.rest.now ≡ ws = cc in
    record {
      can_next = search rules;
      is_finite = search rules;
      threes = cc;
      lines = rw all (left-start c.requires.room);
      total = omega (arith, ap (λ xs. traded (fills_in xs)) all);
      small = rw all (omega (arith, fills-few-words ws, c.requires.few));
    }
