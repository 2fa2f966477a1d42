use mathlib.Core.Path.{sym, ◌∙◌}
use native.Mathlib.Omega.{arith}
use Rattle.base.specs.declared.refusal.Refusal.TheVariants.{OrderOutOfForm}
use Rattle.tape.specs.rules.Records.{order_words, order_answer, order_wrote}
use Rattle.tape.proofs.RecordLaws.{wrote-formless, wrote-short, wrote-done}
use Rattle.tape.proofs.order.write_order.Goals as goal

pub returns-then-not-order_form : goal.returns-then-not-order_form
unfolding order_answer order_wrote
returns-then-not-order_form c =
    let both = let a = c.args in
    wrote-formless OrderOutOfForm (order_words a.o) a.out.now (sym c.order_form.ensures ∙ c.if-not-order_form.true) in
    record { value = both.0; out_after = both.1 }

pub returns-then-out-lt-ORDER_BYTES : goal.returns-then-out-lt-ORDER_BYTES
unfolding order_answer order_wrote order_words
returns-then-out-lt-ORDER_BYTES c =
    let both = let a = c.args in
    wrote-short OrderOutOfForm (order_words a.o) a.out.now (sym c.order_form.ensures ∙ c.if-not-order_form.false) (omega arith) in
    record { value = both.0; out_after = both.1 }

pub returns : goal.returns
unfolding order_answer order_wrote order_words
returns c =
    let both = let a = c.args in
    wrote-done OrderOutOfForm (order_words a.o) a.out.now (sym c.order_form.ensures ∙ c.if-not-order_form.false) (omega arith) (cc) in
    record { value = both.0; out_after = both.1 }
