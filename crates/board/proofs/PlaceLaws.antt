-- A place, and a place as an option, in which 64 is none. Assumes nothing.
use mathlib.Core.Path.{◌≡◌, refl, sym, ap, ◌∙◌}
use mathlib.Core.Bool.{Bool, cond}
use Prim.Native.Nat.{ℕ, ◌<◌}
use native.Mathlib.Omega.{arith}
use lib.Dec.{eqb}
use lib.ListN.{get_or-eq_default}
use borrow.Author.Tests.{eqb-true, eq-eqb, ne_eqb}
use Rattle.std.specs.Prelude.{Option, Some, None}
use Rattle.base.proofs.Bools.{by, no}
use Rattle.board.specs.declared.Board.{Board}
use Rattle.board.specs.declared.Found.{Found}
use Rattle.board.specs.promises.Board.{Good}
use Rattle.board.specs.rules.Board.{no_response, response_at, place_at, place_in, found_at, found_place, found_response}

pub place-back : (i : ℕ) → place_in (place_at i) ≡ i
place-back i = by (λ (o : Option ℕ). place_in o ≡ i) (eqb i 64) _ _ (λ z. sym (eqb-true i 64 z)) (λ _. refl)

module _ (b : Board) (i : ℕ) where
  pub found-back : found_place (found_at b i) ≡ i
  found-back = by (λ (o : Option Found). found_place o ≡ i) (eqb i 64) _ _ (λ z. sym (eqb-true i 64 z)) (λ _. refl)

  -- below 64 it is found
  pub found-some : i < 64 → found_at b i ≡ Some (record { place = i; response = response_at b.places i })
  found-some l = ap (λ (t : Bool). cond t None (Some (record { place = i; response = response_at b.places i }))) (ne_eqb i 64 (λ z. omega arith))

  pub some-response : i < 64 → found_response (found_at b i) ≡ response_at b.places i
  some-response l = ap found_response (found-some l)

  -- of a board nothing stands past the last place
  pub response-back : Good b → found_response (found_at b i) ≡ response_at b.places i
  response-back g =
      by (λ (o : Option Found). found_response o ≡ response_at b.places i) (eqb i 64) _ _
      (λ z. sym (get_or-eq_default b.places no_response (omega (arith, g.places-are, eqb-true i 64 z)))) (λ _. refl)

-- what is found is at no place 64, and what stands at its place
pub found-gives : (b : Board) (i : ℕ) (f : Found) → found_at b i ≡ Some f → (i ≡ 64 → ⊥) × (response_at b.places i ≡ f.response)
found-gives b i f e = (past, there)
  where
    past : i ≡ 64 → ⊥
    past z = let n : None ≡ Some f = sym (ap (λ (t : Bool). cond t None (Some (record { place = i; response = response_at b.places i }))) (eq-eqb i 64 z)) ∙ e in no cc

    there : response_at b.places i ≡ f.response
    there = sym (ap (λ (t : Bool). found_response (cond t None (Some (record { place = i; response = response_at b.places i })))) (ne_eqb i 64 past)) ∙ ap found_response e

-- and nothing is found at 64 alone
pub none-gives : (b : Board) (i : ℕ) → found_at b i ≡ None → i ≡ 64
none-gives b i e = sym (found-back b i) ∙ ap found_place e
