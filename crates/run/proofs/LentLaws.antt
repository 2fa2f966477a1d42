-- Events in place are the run by value; a cancel by its numbers is in form. Assumes nothing.
use mathlib.Core.Path.{◌≡◌, refl, ap, ◌∙◌}
use mathlib.Core.Bool.{Bool, true, false}
use mathlib.Core.List.{List, [], ◌∷◌}
use Prim.Native.Nat.{ℕ, ◌<◌, ◌^◌}
use native.Mathlib.Omega.{arith}
use lib.Dec.{leb}
use borrow.Author.Tests.{le-leb}
use Rattle.tape.specs.rules.Form.{event_formed, shape_tests, shape_of, all_from, inside, any_number}
use Rattle.tape.specs.declared.event.Event.{Event}
use Rattle.auction.specs.declared.Auction.{Auction}
use Rattle.events.specs.rules.Step.{step_of}
use Rattle.steps.specs.rules.Lent.{cancel_event}
use Rattle.events.specs.declared.Answer.{Answer}
use Rattle.run.specs.rules.Run.{run, Said, said, heard}
use Rattle.run.specs.promises.InPlace.{Applies, none, more, InPlace}

applied : {a b : Auction} {es : List Event} {rs : List Said} → Applies a es rs b → (rs ≡ heard a es) × (b ≡ run a es)
applied none = (refl, refl)
applied (more {a} {b} {c} {e} {r} {es} {rs} one rest) =
    let ih = applied rest in
    (ap (λ (x : Answer). said e.sequence x ∷ rs) one.0 ∙ ap (λ (xs : List Said). said e.sequence (step_of a e).answer ∷ xs) (ih.0 ∙ ap (λ (x : Auction). heard x es) one.1), ih.1 ∙ ap (λ (x : Auction). run x es) one.1)

-- the field of a cancel may hold any number
any-number : (n : ℕ) → n < 2 ^ 32 → inside n any_number ≡ true
any-number n h = simp (le-leb 0 n (omega arith), le-leb n 4294967295 (omega arith))

-- tests that hold leave the first
first : (b c : Bool) → c ≡ true → all_from true (b ∷ true ∷ true ∷ true ∷ c ∷ true ∷ true ∷ true ∷ []) ≡ b
first true c e = simp e
first false c e = refl

formed : (sequence time named : ℕ) → named < 2 ^ 32 → event_formed (cancel_event sequence time named) ≡ leb time 86400000
unfolding event_formed shape_tests shape_of cancel_event
formed sequence time named h = first (leb time 86400000) (inside named any_number) (any-number named h)

pub in_place : InPlace
in_place = record { runs = λ a es rs b h. applied h; formed = formed }
