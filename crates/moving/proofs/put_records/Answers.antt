use Rattle.std.proofs.Common.{◌∙◌}
use Rattle.words.proofs.WroteLaws.{left-start}
use Rattle.tape.specs.rules.Whole.{records_bytes}
use Rattle.moving.proofs.CodeLaws.{over-tape, long-record, record-room, record-turn, records-done}
use Rattle.moving.proofs.put_records.Goals as goal

pub loop-r-init : goal.loop-r-init
loop-r-init c =
    let t = c.args.whole in
    let it = c.chunks_exact-r-items.ensures in
    let z = it.size ∙ c.event_bytes.ensures.0 in
    rw c.into_iter-r-iterator.ensures.into_iter_gives
    (record { records = records_bytes t.bytes.now t.trailer; over = over-tape t.bytes.now t.trailer t.adds_up z (it.rest ∙ c.records.ensures); width = z; left = left-start c.args.out.now c.args.start _ })

pub put_record-w-requires : goal.put_record-w-requires
put_record-w-requires c =
    let m = c.loop-r.invariant in
    let r = c.in-Some.r.now in
    let it = c.next.new.self in
    let step = c.in-Some.ensures.steps.1 in
    (long-record it r m step.0 step.1, record-room it r m step.0 step.1 c.args.whole.adds_up c.requires c.loop-r.auto.out)

pub loop-r-preserved : goal.loop-r-preserved
loop-r-preserved c =
    let steps = c.in-Some.ensures.steps in
    record-turn c.next.new.self c.in-Some.r.now c.loop-r.invariant steps.1.0 steps.1.1 steps.0 c.put_record-w.ensures

pub returns : goal.returns
returns c = records-done c.loop-r.invariant c.in-None.ensures.steps.1.0
