-- What many events in place come to: the auction lent and updated by each.
use Rattle.std.specs.Prelude.{◌≡◌, List, [], ◌∷◌, ℕ, ◌<◌, ◌^◌, leb}
use Rattle.tape.specs.rules.Form.{event_formed}
use Rattle.tape.specs.declared.event.Event.{Event}
use Rattle.auction.specs.declared.Auction.{Auction}
use Rattle.events.specs.rules.Step.{step_of}
use Rattle.steps.specs.rules.Lent.{cancel_event}
use Rattle.events.specs.declared.Answer.{Answer}
use Rattle.run.specs.rules.Run.{run, Said, said, heard}

-- events that are applied to a lent auction one after the other, each as `apply` promises: the auction before, what is said of each, the auction after
pub data Applies : Auction → List Event → List Said → Auction → Type 0 where
  none : {a : Auction} → Applies a [] [] a
  more : {a b c : Auction} {e : Event} {r : Answer} {es : List Event} {rs : List Said} → (r ≡ (step_of a e).answer) × (b ≡ (step_of a e).auction) → Applies b es rs c → Applies a (e ∷ es) (said e.sequence r ∷ rs) c

pub record InPlace : Type 0 where
  -- in place or by value, the same auction and the same answers
  pub runs : (a : Auction) (es : List Event) (rs : List Said) (b : Auction) → Applies a es rs b → (rs ≡ heard a es) × (b ≡ run a es)
  -- a cancel by its numbers is in form wherever its time is
  pub formed : (sequence time named : ℕ) → named < 2 ^ 32 → event_formed (cancel_event sequence time named) ≡ leb time 86400000
