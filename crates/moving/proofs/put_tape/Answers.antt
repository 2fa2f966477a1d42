use Rattle.std.proofs.Common.{arith}
use Rattle.moving.proofs.CodeLaws.{trailer-room, wrote-tape}
use Rattle.moving.proofs.put_tape.Goals as goal

pub slice_bounds-write_trailer-count : goal.slice_bounds-write_trailer-count
slice_bounds-write_trailer-count c =
    let t = c.args.whole in
    trailer-room c.args.wide t.bytes.now t.trailer t.adds_up c.requires (rw c.front.ensures at c.put_bytes-start.ensures) c.put_records-end.ensures

pub slice_bounds-write_trailer-start : goal.slice_bounds-write_trailer-start
slice_bounds-write_trailer-start c =
    let t = c.args.whole in
    let room = trailer-room c.args.wide t.bytes.now t.trailer t.adds_up c.requires (rw c.front.ensures at c.put_bytes-start.ensures) c.put_records-end.ensures in
    omega (arith, room)

pub returns : goal.returns
returns c =
    let t = c.args.whole in
    wrote-tape c.args.wide t.bytes.now t.trailer t.adds_up c.requires (rw c.front.ensures at c.put_bytes-start.ensures) c.put_records-end.ensures (rw c.moved_trailer.ensures at c.write_trailer.ensures.out_after)
