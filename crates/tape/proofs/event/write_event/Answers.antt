use mathlib.Core.Path.{sym, ap, ◌∙◌}
use native.Mathlib.Omega.{arith}
use lib.Seq.{length-take-le}
use Rattle.base.specs.declared.refusal.Refusal.TheVariants.{EventOutOfForm}
use Rattle.words.specs.rules.Bytes.{with_words}
use Rattle.tape.specs.rules.Records.{event_words, event_answer, event_wrote}
use Rattle.tape.proofs.RecordLaws.{wrote-formless, wrote-short, wrote-done, words_long, words-held}
use Rattle.tape.proofs.event.write_event.Goals as goal

pub returns-then-not-event_held : goal.returns-then-not-event_held
unfolding event_answer event_wrote
returns-then-not-event_held c =
    let both = let a = c.args in
    wrote-formless EventOutOfForm (event_words a.wide a.e) a.out.now (sym c.event_held.ensures ∙ c.if-not-event_held.true) in
    record { value = both.0; out_after = both.1 }

pub returns-then-out-n : goal.returns-then-out-n
unfolding event_answer event_wrote
returns-then-out-n c =
    let both = let a = c.args in
    wrote-short EventOutOfForm (event_words a.wide a.e) a.out.now (sym c.event_held.ensures ∙ c.if-not-event_held.false) (omega (arith, words_long a.wide a.e, c.event_bytes-n.ensures.0)) in
    record { value = both.0; out_after = both.1 }

pub slice_bounds-write_words-end : goal.slice_bounds-write_words-end
slice_bounds-write_words-end c = sym (length-take-le _ _ (omega arith))

pub returns : goal.returns
unfolding event_answer event_wrote
returns c =
    let both = let a = c.args in
    let n = c.event_bytes-n.ensures.0 in
    wrote-done EventOutOfForm (event_words a.wide a.e) a.out.now (sym c.event_held.ensures ∙ c.if-not-event_held.false) (omega (arith, words_long a.wide a.e, n))
    (c.write_words.ensures ∙ ap (with_words a.out.now 0) (words-held a.wide a.e n c.join.ensures)) in
    record { value = both.0; out_after = both.1 }
