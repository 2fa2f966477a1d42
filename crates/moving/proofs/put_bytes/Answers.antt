use Rattle.std.proofs.Common.{refl}
use Rattle.base.proofs.SetsLaws.{put-over}
use Rattle.moving.proofs.put_bytes.Goals as goal

pub returns : goal.returns
returns c =
    let a = c.args in
    record { words = put-over a.out.now a.s.now c.copy_from_slice.new.self a.at c.requires c.copy_from_slice.ensures.after; place = refl }
