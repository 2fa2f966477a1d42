use mathlib.Core.Path.{refl}
use native.Mathlib.Omega.{arith}
use Rattle.base.specs.declared.refusal.Refusal.TheVariants.{RoomTooShort}
use Rattle.tape.specs.rules.Records.{trailer_words, trailer_answer, trailer_wrote}
use Rattle.tape.proofs.RecordLaws.{wrote-short, wrote-done}
use Rattle.tape.proofs.trailer.write_trailer.Goals as goal

pub returns-then-out-lt16 : goal.returns-then-out-lt16
unfolding trailer_answer trailer_wrote trailer_words
returns-then-out-lt16 c =
    let both = let a = c.args in
    wrote-short RoomTooShort (trailer_words a.t) a.out.now refl (omega arith) in
    record { value = both.0; out_after = both.1 }

pub returns : goal.returns
unfolding trailer_answer trailer_wrote trailer_words
returns c =
    let both = let a = c.args in
    wrote-done RoomTooShort (trailer_words a.t) a.out.now refl (omega arith) (cc) in
    record { value = both.0; out_after = both.1 }
