use native.Mathlib.Omega.{arith}
use Rattle.mirror.proofs.MarkLaws.{marks-made, marks-below}
use borrow.Author.Rules.{rules}
use Rattle.mirror.proofs.mirror_marks.Goals as goal

pub overflow_cast-result : goal.overflow_cast-result
overflow_cast-result c =
    let m = c.args.m in
    omega (arith, marks-made m c.with_mark.result c.with_mark-2.result c.test.result c.test-2.result c.test.ensures c.with_mark.ensures c.test-2.ensures c.with_mark-2.ensures, (marks-below m).0 (search rules))

pub returns : goal.returns
returns c = marks-made c.args.m c.with_mark.result c.with_mark-2.result c.test.result c.test-2.result c.test.ensures c.with_mark.ensures c.test-2.ensures c.with_mark-2.ensures
