-- What answers are, from what the paper has for them. Assumes nothing.
use mathlib.Core.Path.{◌≡◌, refl, ap, ◌∙◌}
use mathlib.Core.List.{List}
use Prim.Native.Nat.{ℕ}
use Prim.Native.Char.{code}
use Prim.Native.String.{String, char_at}
use native.Mathlib.Omega.{arith}
use Rattle.std.specs.Prelude.{Result, Ok, Err}
use Rattle.base.specs.Refusal.{number_of}
use Rattle.base.specs.declared.refusal.Refusal.{Refusal}
use Rattle.tape.specs.declared.order.Order.{Order}
use Rattle.tape.specs.declared.event.Event.{Event}
use Rattle.tape.specs.declared.trailer.Trailer.{Trailer}
use Rattle.tape.specs.rules.Tape.{open_tape, order_in, records_of}
use Rattle.events.specs.declared.Answer.{Answer}
use Rattle.events.specs.declared.Answer.TheVariants.{Taken, Ended, Late, Refused}
use Rattle.promise.specs.rules.Answers.{Paper, no, yes, paper_of, answer_is}
use Rattle.promise.specs.rules.Tapes.{Carries, records_in}

pub result-is : {A : Type 0} (x : Result A Refusal) (v : A) → paper_of x ≡ yes v → x ≡ Ok v
result-is (Ok u) v z = let q : u ≡ v = cc in ap Ok q
result-is (Err r) v z = cc

-- a result with a number is a refusal that has it
pub refused-by : {A : Type 0} (x : Result A Refusal) (n : ℕ) → paper_of x ≡ no n → (r : Refusal) × (x ≡ Err r) × (number_of r ≡ n)
refused-by (Ok a) n z = absurd cc
refused-by (Err r) n z = let q : number_of r ≡ n = cc in (r, refl, q)

-- the words are told by their first letters
abbrev first : Paper String → ℕ
first (no n) = 0
first (yes w) = code (char_at w 0)

pub taken_is : (x : Answer) → answer_is x ≡ yes "taken" → x ≡ Taken
taken_is Taken z = refl
taken_is Ended z = absurd (omega (arith, ap first z))
taken_is Late z = absurd (omega (arith, ap first z))
taken_is (Refused r) z = cc

-- a tape that carries an order and records
pub tape-at : {s : List ℕ} {o : Order} {es : List Event} (c : Carries s o es) → open_tape s ≡ Ok c.trailer
tape-at {s} c = result-is (open_tape s) c.trailer c.opened

pub order-at : {s : List ℕ} {o : Order} {es : List Event} (c : Carries s o es) → order_in s c.trailer ≡ Ok o
order-at {s} {o} c = result-is (order_in s c.trailer) o c.order

pub records-at : {s : List ℕ} {o : Order} {es : List Event} (c : Carries s o es) → records_in s (open_tape s) ≡ es
records-at {s} c = ap (records_in s) (tape-at c) ∙ c.records

abbrev pub carry : (s : List ℕ) (o : Order) (es : List Event) (t : Trailer) → open_tape s ≡ Ok t → order_in s t ≡ Ok o → records_of s t ≡ es → Carries s o es
carry s o es t p q r = record { trailer = t; opened = ap paper_of p; order = ap paper_of q; records = r }
