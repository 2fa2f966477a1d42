-- Of `forms::play::play_events`: where an event stands the end has not come, so the events run out.
use mathlib.Core.Path.{◌≡◌, sym, ap, ◌∙◌}
use mathlib.Core.Bool.{true≢false}
use mathlib.Core.List.{List}
use mathlib.Core.Logic.{⊎_elim}
use Prim.Native.Nat.{ℕ, ◌^◌, ◌<◌}
use native.Mathlib.Omega.{arith}
use borrow.Author.Rules.{rules}
use Rattle.std.specs.Prelude.{Option, Some}
use Rattle.base.proofs.Numbers.{le-or-lt}
use Rattle.tape.specs.declared.trailer.Trailer.{Trailer}
use Rattle.tape.specs.declared.event.Event.{Event}
use Rattle.reader.specs.rules.Reader.{current_of}
use Rattle.reader.proofs.ReaderLaws.{goes_on, end-there, not_end}
use Rattle.forms.proofs.play.play_events.Goals as goal

below : (s : List ℕ) (t : Trailer) (k : ℕ) (x : Option Event) (e : Event) → x ≡ current_of s t k → x ≡ Some e → k < t.events
below s t k x e is there = ⊎_elim (λ l. absurd (true≢false (not_end e (sym there ∙ is ∙ end-there s t k l)))) (λ l. l) (le-or-lt t.events k)

pub overflow_add-place : goal.overflow_add-place
overflow_add-place g c =
    let there = below c.args.bytes.now c.args.trailer c.loop-current.place c.loop-current.current c.in-Some.event c.loop-current.invariant c.in-Some.is in
    let few : c.args.trailer.events < 2 ^ 32 = search rules in
    omega (arith, there, few)

pub loop-current-smaller : goal.loop-current-smaller
loop-current-smaller g c = omega (arith, below c.args.bytes.now c.args.trailer c.loop-current.place c.loop-current.current c.in-Some.event c.loop-current.invariant c.in-Some.is)

pub loop-current-preserved : goal.loop-current-preserved
loop-current-preserved g c =
    let there = below c.args.bytes.now c.args.trailer c.loop-current.place c.loop-current.current c.in-Some.event c.loop-current.invariant c.in-Some.is in
    c.tape_next-current.ensures ∙ ap (current_of c.args.bytes.now c.args.trailer) (goes_on c.args.trailer c.loop-current.place there)
