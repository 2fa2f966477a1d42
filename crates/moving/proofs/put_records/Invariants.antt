use Rattle.moving.proofs.CodeLaws.{Moving}
use Rattle.moving.proofs.put_records.Given as goal

abbrev pub invariant-loop-r : goal.invariant-loop-r
invariant-loop-r l = Moving l.wide l.whole.bytes.now l.whole.trailer l.r-iterator l.initial.out l.start l.out l.w
