use Rattle.std.proofs.Common.{arith, sym, ◌∙◌}
use Rattle.words.proofs.ByteLaws.{word_more, row_out, row_wrote}
use Rattle.words.proofs.bytes.write_words.Goals as goal

pub returns-then-saturating_sub-ws : goal.returns-then-saturating_sub-ws
returns-then-saturating_sub-ws c = sym (row_out _ _ _ (omega arith))

pub loop-i-preserved : goal.loop-i-preserved
loop-i-preserved c =
    let a = c.args in
    word_more a.out.now c.loop-i.out a.ws.now a.at c.loop-i.i c.loop-i.invariant (omega arith) (omega arith) (rw (c.copy_from_slice.ensures.after, c.to_le_bytes-word.ensures))

pub returns : goal.returns
returns c =
    let a = c.args in
    c.loop-i.invariant ∙ row_wrote a.out.now a.at c.loop-i.i a.ws.now (omega arith) (omega arith)
