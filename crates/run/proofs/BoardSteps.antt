-- What seating and clearing keep of the live responses, what becomes of the sum of their sizes, and what an event sees of a board. Assumes nothing.
use mathlib.Core.Path.{◌≡◌, refl, sym, ap, subst, ◌∙◌}
use mathlib.Core.Bool.{Bool, true, false, ◌||◌}
use mathlib.Core.List.{List, [], ◌∷◌, map}
use mathlib.Core.Logic.{◌≢◌}
use Prim.Native.Nat.{ℕ, ◌+◌, ◌*◌, ◌≤◌, ◌<◌}
use native.Mathlib.Omega.{arith}
use lib.ListN.{length}
use Rattle.base.specs.Lists.{Every, Inserts, sum}
use Rattle.base.specs.Lists.Inserts.{here, there}
use Rattle.base.proofs.ListLaws.{inserts-every, every-inserts}
use Rattle.base.proofs.Bools.{by}
use Rattle.board.specs.rules.Board.{response_at, is_live, first_free, live_of, seated_at, cleared, find_gtx}
use Rattle.board.specs.promises.Board.{Good}
use Rattle.board.specs.declared.Board.{Board}
use Rattle.board.specs.declared.Response.{Response}
use Rattle.board.proofs.BoardLaws.{seating, amending, clearing, cleared-dead, find-named}
use Rattle.words.proofs.BitLaws.{clear-is}
use Rattle.share.specs.rules.Fills.{sizes}
use Rattle.trade.proofs.CodeLaws.{live-short}
use Rattle.tape.specs.declared.event.Event.{Event}
use Rattle.demand.specs.promises.Demands.{Absent, Distinct}
use Rattle.tape.specs.rules.Fields.{name_of}
use Rattle.decision.specs.rules.Decide.{is_cancel, is_amend}
use Rattle.events.specs.rules.Step.{found_for, sight_of}
use Rattle.board.proofs.PlaceLaws.{place-back, found-back, response-back}
use Rattle.run.specs.promises.Demands.{Fits}

-- what an event sees of a board fits it
pub sees : (b : Board) (e : Event) → Good b → Fits b (sight_of b e)
unfolding sight_of
sees b e g =
    record {
      free = subst (λ (i : ℕ). i < 64 → is_live b i ≡ false) (sym (place-back (first_free b))) (λ h. clear-is 64 b.live h);
      found = subst (λ (i : ℕ). i < 64 → is_live b i ≡ true) (sym (found-back b (found_for b e)))
          (by (λ (i : ℕ). i < 64 → is_live b i ≡ true) (is_cancel e || is_amend e) (find_gtx b (name_of e)) 64 (λ _ h. (find-named false b (name_of e) g h).live) (λ _ h. absurd (omega arith)));
      old = response-back b (found_for b e) g ∙ ap (response_at b.places) (sym (found-back b (found_for b e)));
    }

module _ (b : Board) (g : Good b) where
  pub seat-every : (P : Response → Type 0) (i : ℕ) (r : Response) → i < 64 → is_live b i ≡ false → P r → Every P (live_of b) → Every P (live_of (seated_at b i r))
  seat-every P i r l z p h = inserts-every P (seating b i r g l z).adds p h

  -- at a live place
  pub amend-every : (P : Response → Type 0) (i : ℕ) (r : Response) → is_live b i ≡ true → P r → Every P (live_of b) → Every P (live_of (seated_at b i r))
  amend-every P i r z p h = let m = amending b i r g z in inserts-every P m.adds p (every-inserts P m.takes h).1

  pub clear-every : (P : Response → Type 0) (i : ℕ) → Every P (live_of b) → Every P (live_of (cleared b i))
  clear-every P i h = go (is_live b i) refl
    where
      go : (l : Bool) → is_live b i ≡ l → Every P (live_of (cleared b i))
      go true z = (every-inserts P (clearing b i g z).takes h).1
      go false z = subst (λ (c : Board). Every P (live_of c)) (sym (cleared-dead b i z)) h

distinct_more : {r : Response} {xs ys : List Response} → Inserts r xs ys → Absent r.sequence xs → Distinct xs → Distinct ys
distinct_more here a d = (a, d)
distinct_more {r} (there {x} i) a d = (inserts-every (λ y. y.sequence ≢ x.sequence) i (λ z. a.0 (sym z)) d.0, distinct_more i a.1 d.1)

distinct-less : {r : Response} {xs ys : List Response} → Inserts r xs ys → Distinct ys → Distinct xs
distinct-less here d = d.1
distinct-less (there {x} i) d = ((every-inserts (λ y. y.sequence ≢ x.sequence) i d.0).1, distinct-less i d.1)

module _ (b : Board) (g : Good b) where
  pub seat-distinct : (i : ℕ) (r : Response) → i < 64 → is_live b i ≡ false → Absent r.sequence (live_of b) → Distinct (live_of b) → Distinct (live_of (seated_at b i r))
  seat-distinct i r l z a d = distinct_more (seating b i r g l z).adds a d

  pub amend-distinct : (i : ℕ) (r : Response) → is_live b i ≡ true → Absent r.sequence (live_of b) → Distinct (live_of b) → Distinct (live_of (seated_at b i r))
  amend-distinct i r z a d = let m = amending b i r g z in distinct_more m.adds (every-inserts (λ x. x.sequence ≢ r.sequence) m.takes a).1 (distinct-less m.takes d)

  pub clear-distinct : (i : ℕ) → Distinct (live_of b) → Distinct (live_of (cleared b i))
  clear-distinct i d = go (is_live b i) refl
    where
      go : (l : Bool) → is_live b i ≡ l → Distinct (live_of (cleared b i))
      go true z = distinct-less (clearing b i g z).takes d
      go false z = subst (λ (c : Board). Distinct (live_of c)) (sym (cleared-dead b i z)) d

-- ---- the sum of the sizes

pub sizes-map : (rs : List Response) → sizes rs ≡ map (λ (r : Response). r.size) rs
sizes-map [] = refl
sizes-map (r ∷ rs) = ap {B = List ℕ} (λ zs. r.size ∷ zs) (sizes-map rs)

pub sum-map : (rs : List Response) → sum (sizes rs) ≡ sum (map (λ (r : Response). r.size) rs)
sum-map rs = ap sum (sizes-map rs)

sizes-few : (rs : List Response) → Every (λ r. r.size ≤ 100000) rs → sum (sizes rs) ≤ 100000 * length rs
unfolding sum
sizes-few [] h = omega arith
sizes-few (r ∷ rs) h = omega (arith, h.0, sizes-few rs h.1)

module _ (b : Board) (g : Good b) where
  pub seat-sizes : (i : ℕ) (r : Response) → i < 64 → is_live b i ≡ false → sum (sizes (live_of (seated_at b i r))) ≡ r.size + sum (sizes (live_of b))
  seat-sizes i r l z = omega (arith, sum-map (live_of (seated_at b i r)), sum-map (live_of b), (seating b i r g l z).sums (λ r. r.size))

  pub clear-sizes : (i : ℕ) → is_live b i ≡ true → sum (sizes (live_of b)) ≡ (response_at b.places i).size + sum (sizes (live_of (cleared b i)))
  clear-sizes i z = omega (arith, sum-map (live_of b), sum-map (live_of (cleared b i)), (clearing b i g z).sums (λ r. r.size))

  pub amend-sizes : (i : ℕ) (r : Response) → is_live b i ≡ true → (response_at b.places i).size + sum (sizes (live_of (seated_at b i r))) ≡ r.size + sum (sizes (live_of b))
  amend-sizes i r z = omega (arith, sum-map (live_of b), sum-map (live_of (seated_at b i r)), (amending b i r g z).sums (λ r. r.size))

  -- 64 places, of 100,000 each at most
  pub live-sizes : Every (λ r. r.size ≤ 100000) (live_of b) → sum (sizes (live_of b)) ≤ 6400000
  live-sizes h = omega (arith, sizes-few (live_of b) h, live-short b.live b.places, g.places-are)
