-- What the private functions of `moving` say.
use Rattle.std.specs.Prelude.{◌≡◌, Bool, List, ℕ, Result, Ok}
use Rattle.base.specs.declared.refusal.Refusal.{Refusal}
use Rattle.tape.specs.declared.trailer.Trailer.{Trailer}
use Rattle.moving.specs.rules.Moving.{move_opened, bytes_with}

-- what moving a tape says whose trailer was read: xs are the lent bytes, r the answer, ys what is there then
pub record MovesOpened (wide : Bool) (s : List ℕ) (t : Trailer) (xs : List ℕ) (r : Result ℕ Refusal) (ys : List ℕ) : Type 0 where
  pub answer : r ≡ move_opened wide s t xs
  pub bytes : ys ≡ bytes_with wide s xs (Ok t) r
