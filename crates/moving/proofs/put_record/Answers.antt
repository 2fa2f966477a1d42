use mathlib.Core.Path.{sym}
use mathlib.Core.List.{append-nil}
use native.Mathlib.Omega.{arith}
use lib.ListN.{take}
use lib.Seq.{length-take-le}
use Rattle.words.proofs.WroteLaws.{wrote-append, wrote-same}
use Rattle.tape.specs.rules.Records.{width_of}
use Rattle.tape.proofs.RecordLaws.{width-ge}
use Rattle.moving.specs.rules.Moving.{moved_record}
use Rattle.moving.proofs.put_record.Goals as goal

pub put_bytes-w-requires : goal.put_bytes-w-requires
put_bytes-w-requires c = omega (arith, length-take-le 32 c.args.r.now c.requires.0, width-ge c.args.wide)

pub put_bytes-requires : goal.put_bytes-requires
unfolding width_of
put_bytes-requires c = omega (arith, length-take-le 32 c.args.r.now c.requires.0, rw c.if-wide.true at c.requires.1)

pub returns-then-wide : goal.returns-then-wide
unfolding moved_record
returns-then-wide c = wrote-same (wrote-append c.put_bytes-w.ensures c.put_bytes.ensures) (simp c.if-wide.true)

pub returns-else-wide : goal.returns-else-wide
unfolding moved_record
returns-else-wide c = wrote-same c.put_bytes-w.ensures (simp c.if-wide.false (sym (append-nil (take 32 c.args.r.now))))
