-- What is promised of mirrored orders and events.
use Rattle.std.specs.Prelude.{◌≡◌, true, false, cond, ℕ, eqb}
use Rattle.words.specs.rules.Bits.{bit_at}
use Rattle.base.specs.Price.{mirrored}
use Rattle.tape.specs.rules.Form.{collar_result, order_formed, event_formed}
use Rattle.tape.specs.declared.order.Order.{Order}
use Rattle.tape.specs.declared.event.Event.{Event}
use Rattle.mirror.specs.rules.Mirror.{mirrored_marks, mirrored_order, mirrored_event, buy_order}

-- of the marks, bits 2 and 3 change places, and every other bit stays
pub record MarksMirror (m : ℕ) : Type 0 where
  pub two : bit_at (mirrored_marks m) 2 ≡ bit_at m 3
  pub three : bit_at (mirrored_marks m) 3 ≡ bit_at m 2
  pub other : (j : ℕ) → (j ≡ 2 → ⊥) → (j ≡ 3 → ⊥) → bit_at (mirrored_marks m) j ≡ bit_at m j

pub record RecordsMirror : Type 0 where
  pub marks : (m : ℕ) → MarksMirror m
  -- mirrored twice is itself
  pub marks-twice : (m : ℕ) → mirrored_marks (mirrored_marks m) ≡ m
  pub order-twice : (o : Order) → order_formed o ≡ true → mirrored_order (mirrored_order o) ≡ o
  pub event-twice : (e : Event) → event_formed e ≡ true → mirrored_event (mirrored_event e) ≡ e
  -- what is in form stays so
  pub order-form : (o : Order) → order_formed o ≡ true → order_formed (mirrored_order o) ≡ true
  pub event-form : (e : Event) → event_formed e ≡ true → event_formed (mirrored_event e) ≡ true
  -- the participant stays
  pub participant : (e : Event) → (mirrored_event e).participant ≡ e.participant
  -- a collared order counts at the mirrored price: the displayed price is mirrored, and the collar, a difference, stays
  pub collared : (o : Order) → order_formed o ≡ true → (o.displayed ≡ 0 → ⊥)
      → collar_result (mirrored_order o).side (mirrored_order o).displayed (mirrored_order o).collar ≡ mirrored (collar_result o.side o.displayed o.collar)
  -- the mirrored order is of the other side, and the same buy
  pub other-side : (o : Order) → order_formed o ≡ true → eqb (mirrored_order o).side 2 ≡ cond (eqb o.side 2) false true
  pub same-buy : (o : Order) → order_formed o ≡ true → buy_order (mirrored_order o) ≡ buy_order o
