-- A tape in the other form has the same listing. Assumes nothing.
use mathlib.Core.Path.{◌≡◌, refl, ap, sym, subst, ◌∙◌}
use mathlib.Core.Bool.{Bool}
use mathlib.Core.List.{List, [], ◌∷◌}
use Prim.Native.Nat.{ℕ}
use Rattle.std.specs.Prelude.{Result, Ok, Err}
use Rattle.base.specs.Lists.{In}
use Rattle.base.specs.Refusal.{number_of}
use Rattle.base.specs.declared.refusal.Refusal.{Refusal}
use Rattle.tape.specs.declared.event.Event.{Event}
use Rattle.tape.specs.rules.Tape.{order_in, records_of}
use Rattle.moving.specs.rules.Moving.{moved_trailer, move_answer, move_wrote}
use Rattle.moving.specs.promises.Moves.{moved_to, HasMoved}
use Rattle.moving.proofs.Theorems.{all-moves}
use Rattle.run.specs.rules.Run.{run_of, run_tape, run_order}
use Rattle.listing.specs.rules.Listing.{lines_of, listing_of}
use Rattle.promise.specs.rules.Answers.{no, yes, paper_of}
use Rattle.promise.specs.promises.Parts.{MovedTape}
use Rattle.promise.proofs.Carried.{result-is}

-- the run goes by the order and the events
same-run : (wide : Bool) (s out : List ℕ) (n : ℕ) → HasMoved wide s out n → run_of (moved_to wide s out n) ≡ run_of s
unfolding run_of
same-run wide s out n d =
    let m : List ℕ = moved_to wide s out n in
    ap (run_tape m) d.opens
    ∙ ap (λ (es : List Event). run_order es (order_in m (moved_trailer wide d.trailer))) d.records
    ∙ ap (run_order (records_of s d.trailer)) d.order
    ∙ sym (ap (run_tape s) d.opened)

pub moved : (wide : Bool) (s out : List ℕ) → MovedTape wide s out
unfolding listing_of
moved wide s out =
    record {
      refused = λ n. not-moved n (move_answer wide s out) refl;
      stays = λ n z. (done n z).stays;
      listed = λ n z. ap lines_of (same-run wide s out n (done n z));
      back = λ n z b out' room. let k = (done n z).back b out' room in (ap paper_of k.0, k.1);
    }
  where
    done : (n : ℕ) → paper_of (move_answer wide s out) ≡ yes n → HasMoved wide s out n
    done n z = all-moves.done wide s out n (result-is (move_answer wide s out) n z)

    not-moved : (n : ℕ) (x : Result ℕ Refusal) → move_answer wide s out ≡ x → paper_of x ≡ no n → In n (21 ∷ 22 ∷ 23 ∷ 25 ∷ 26 ∷ 24 ∷ []) × (move_wrote wide s out ≡ out)
    not-moved n (Ok k) h z = cc
    not-moved n (Err r) h z =
        let q : number_of r ≡ n = cc in
        (subst (λ (m : ℕ). In m (21 ∷ 22 ∷ 23 ∷ 25 ∷ 26 ∷ 24 ∷ [])) q (all-moves.numbers wide s out r h), all-moves.keeps wide s out r h)
