use mathlib.Core.Path.{◌∙◌}
use Prim.Native.Nat.{◌-◌, ◌≤◌}
use native.Mathlib.Omega.{arith}
use lib.ListN.{length}
use Rattle.trade.proofs.WholeLaws.{fills-few, words_back, not-ended, too-short, counted, words-after}
use Rattle.trade.specs.rules.Write.{fills_of}
use Rattle.trade.proofs.write_lent.Goals as goal

pub returns-then-not-ended : goal.returns-then-not-ended
returns-then-not-ended c =
    let both = let a = c.args in not-ended a.ended a.d a.b.now a.out.now a.start c.if-not-ended.true in
    record { value = both.0; out_after = both.1 }

pub returns-then-saturating_sub-lt390 : goal.returns-then-saturating_sub-lt390
returns-then-saturating_sub-lt390 c =
    let both = let a = c.args in too-short a.ended a.d a.b.now a.out.now a.start c.if-not-ended.false (omega arith) in
    record { value = both.0; out_after = both.1 }

pub overflow_cast-result : goal.overflow_cast-result
overflow_cast-result c =
    let a = c.args in
    omega (arith, c.write_all-words.ensures.place, fills-few a.d a.b.now c.live_of-live.ensures.1)

pub returns : goal.returns
returns c =
    let a = c.args in
    let w = c.write_all-words in
    let e = c.if-not-ended.false in
    let k : 390 ≤ length a.out.now - a.start = omega arith in record {
      value = counted a.ended a.d a.b.now a.out.now a.start e k _ (omega (arith, w.ensures.place));
      out_after = words_back a.start a.out.now w.new.out (fills_of a.d a.b.now) (omega (arith, fills-few a.d a.b.now c.live_of-live.ensures.1)) w.ensures.words
          ∙ words-after a.ended a.d a.b.now a.out.now a.start e k;
    }
