-- The responses in rising order of sequence are the same responses.
use mathlib.Core.Path.{◌≡◌, sym}
use mathlib.Core.List.{List, ◌∷◌}
use Rattle.board.specs.declared.Response.{Response}
use Rattle.base.specs.Lists.{Every, Inserts, Shuffles, In}
use Rattle.base.specs.Lists.Inserts.{here, there}
use Rattle.base.specs.Lists.Shuffles.{none, more}
use Rattle.board.specs.rules.Board.{in_sequence}
use Rattle.base.proofs.ListLaws.{in-shuffles, inserts-every, shuffles-every}
use Rattle.board.proofs.SequenceLaws.{sequence-shuffles}
use Rattle.demand.specs.promises.Demands.{Distinct}

-- ---- one more at some place

distinct-inserts : {r : Response} {xs ys : List Response} → Inserts r xs ys → Distinct (r ∷ xs) → Distinct ys
distinct-inserts here d = d
distinct-inserts {r} (there {x = x} i) d =
    (inserts-every (λ y. y.sequence ≡ x.sequence → ⊥) i (λ e. d.0.0 (sym e)) d.1.0, distinct-inserts i (d.0.1, d.1.1))

-- ---- in some order

distinct-shuffles : {xs ys : List Response} → Shuffles xs ys → Distinct xs → Distinct ys
distinct-shuffles none d = d
distinct-shuffles (more {x = x} s i) d = distinct-inserts i (shuffles-every (λ y. y.sequence ≡ x.sequence → ⊥) s d.0, distinct-shuffles s d.1)

-- ---- by sequence

pub in-sequence : (a : Response) (xs : List Response) → In a xs → In a (in_sequence xs)
in-sequence a xs m = in-shuffles a (sequence-shuffles xs) m

pub all-sequence : (P : Response → Type 0) (xs : List Response) → Every P xs → Every P (in_sequence xs)
all-sequence P xs a = shuffles-every P (sequence-shuffles xs) a

pub distinct-sequence : (xs : List Response) → Distinct xs → Distinct (in_sequence xs)
distinct-sequence xs d = distinct-shuffles (sequence-shuffles xs) d
