-- Laws of the rising order of sequence. Assumes nothing.
use mathlib.Core.Path.{◌≡◌, refl, sym, ap, ◌∙◌}
use mathlib.Core.Bool.{Bool, true}
use mathlib.Core.List.{List, [], ◌∷◌, ◌++◌}
use mathlib.Core.Logic.{⊎_elim}
use Prim.Native.Nat.{ℕ, ◌≤◌, ◌<◌}
use native.Mathlib.Omega.{arith}
use borrow.Author.Tests.{le-leb, lt-leb, eqb-true}
use Rattle.base.proofs.Bools.{bool-or}
use Rattle.base.proofs.Numbers.{le-or-lt}
use Rattle.base.specs.Lists.{filter, Every, Inserts, Shuffles}
use Rattle.base.specs.Lists.Inserts.{here, there}
use Rattle.base.specs.Lists.Shuffles.{none, more}
use Rattle.board.specs.rules.Board.{inserted, in_sequence}
use Rattle.board.specs.inside.Places.{bears}
use Rattle.board.specs.promises.Board.{RisingFrom}
use Rattle.board.specs.declared.Response.{Response}
use Rattle.base.proofs.ListLaws.{filter-pass, filter-fail, inserts-fail, shuffles-every}

-- ---- one response in front of the first that has no lower sequence
pub inserted-low : (r x : Response) (xs : List Response) → r.sequence ≤ x.sequence → inserted r (x ∷ xs) ≡ r ∷ x ∷ xs
unfolding inserted
inserted-low r x xs h = rw (le-leb r.sequence x.sequence h)

pub inserted-high : (r x : Response) (xs : List Response) → x.sequence < r.sequence → inserted r (x ∷ xs) ≡ x ∷ inserted r xs
unfolding inserted
inserted-high r x xs h = rw (lt-leb r.sequence x.sequence h)

inserted-is : (r : Response) (xs : List Response) → Inserts r xs (inserted r xs)
unfolding inserted
inserted-is r [] = here
inserted-is r (x ∷ xs) =
    let ih = inserted-is r xs in
    ⊎_elim
    (λ h. rw (inserted-low r x xs h) here)
    (λ h. rw (inserted-high r x xs h) (there ih))
    (le-or-lt r.sequence x.sequence)

-- none of a list has a lower sequence than m
abbrev pub From : ℕ → List Response → Type 0
From m xs = Every (λ (x : Response). m ≤ x.sequence) xs

inserted-front : (r : Response) (xs : List Response) → From r.sequence xs → inserted r xs ≡ r ∷ xs
unfolding inserted
inserted-front r [] h = refl
inserted-front r (x ∷ xs) h = inserted-low r x xs h.0

-- ---- a list that rises
rising-less : (m n : ℕ) (xs : List Response) → m ≤ n → RisingFrom n xs → RisingFrom m xs
rising-less m n [] h r = tt
rising-less m n (x ∷ xs) h r = (omega (arith, r.0), r.1)

pub rising-from : (m : ℕ) (xs : List Response) → RisingFrom m xs → From m xs
rising-from m [] r = tt
rising-from m (x ∷ xs) r = (r.0, rising-from m xs (rising-less m x.sequence xs r.0 r.1))

pub rising-filter : (t : Response → Bool) (m : ℕ) (xs : List Response) → RisingFrom m xs → RisingFrom m (filter t xs)
unfolding filter
rising-filter t m [] r = tt
rising-filter t m (x ∷ xs) r =
    ⊎_elim
    (λ e. rw (filter-pass t x xs e) (r.0, rising-filter t x.sequence xs r.1))
    (λ e. rw (filter-fail t x xs e) (rising-less m x.sequence (filter t xs) r.0 (rising-filter t x.sequence xs r.1)))
    (bool-or (t x))

inserted_rising : (r : Response) (m : ℕ) (xs : List Response) → m ≤ r.sequence → RisingFrom m xs → RisingFrom m (inserted r xs)
unfolding inserted
inserted_rising r m [] h s = (h, tt)
inserted_rising r m (x ∷ xs) h s =
    ⊎_elim
    (λ l. rw (inserted-low r x xs l) (h, (l, s.1)))
    (λ l. rw (inserted-high r x xs l) (s.0, inserted_rising r x.sequence xs (omega arith) s.1))
    (le-or-lt r.sequence x.sequence)

-- ---- the list in rising order of sequence
-- it rises
pub sequence-rises : (xs : List Response) → RisingFrom 0 (in_sequence xs)
unfolding in_sequence
sequence-rises [] = tt
sequence-rises (x ∷ xs) = inserted_rising x 0 (in_sequence xs) (omega arith) (sequence-rises xs)

-- it has the same responses
pub sequence-shuffles : (xs : List Response) → Shuffles xs (in_sequence xs)
unfolding in_sequence
sequence-shuffles [] = none
sequence-shuffles (x ∷ xs) = more (sequence-shuffles xs) (inserted-is x (in_sequence xs))

-- a list that rises stays
rising_stays : (m : ℕ) (xs : List Response) → RisingFrom m xs → in_sequence xs ≡ xs
unfolding in_sequence
rising_stays m [] r = refl
rising_stays m (x ∷ xs) r =
    ap (inserted x) (rising_stays x.sequence xs r.1) ∙ inserted-front x xs (rising-from x.sequence xs r.1)

-- any filter goes through it
inserted-pass : (t : Response → Bool) (r : Response) (m : ℕ) (xs : List Response) → RisingFrom m xs → t r ≡ true → filter t (inserted r xs) ≡ inserted r (filter t xs)
unfolding inserted filter
inserted-pass t r m [] s e = rw e
inserted-pass t r m (x ∷ xs) s e =
    let ih = inserted-pass t r x.sequence xs s.1 e in
    ⊎_elim
    (λ l.
    let up : RisingFrom r.sequence (x ∷ xs) = (l, s.1) in
    rw (inserted-low r x xs l, filter-pass t r (x ∷ xs) e)
    (sym (inserted-front r (filter t (x ∷ xs)) (rising-from r.sequence (filter t (x ∷ xs)) (rising-filter t r.sequence (x ∷ xs) up)))))
    (λ l.
    rw (inserted-high r x xs l)
    (⊎_elim
    (λ f. rw (filter-pass t x (inserted r xs) f, filter-pass t x xs f, inserted-high r x (filter t xs) l, ih))
    (λ f. rw (filter-fail t x (inserted r xs) f, filter-fail t x xs f) ih)
    (bool-or (t x))))
    (le-or-lt r.sequence x.sequence)

pub sequence-filter : (t : Response → Bool) (xs : List Response) → filter t (in_sequence xs) ≡ in_sequence (filter t xs)
unfolding in_sequence filter
sequence-filter t [] = refl
sequence-filter t (x ∷ xs) =
    let ih = sequence-filter t xs in
    ⊎_elim
    (λ e. inserted-pass t x 0 (in_sequence xs) (sequence-rises xs) e ∙ rw (filter-pass t x xs e, ih))
    (λ e. inserts-fail t e (inserted-is x (in_sequence xs)) ∙ rw (filter-fail t x xs e) ih)
    (bool-or (t x))

-- one of a higher sequence than all others comes last
inserted-last : (r : Response) (xs : List Response) → Every (λ (x : Response). x.sequence < r.sequence) xs → inserted r xs ≡ xs ++ (r ∷ [])
unfolding inserted
inserted-last r [] h = refl
inserted-last r (x ∷ xs) h = inserted-high r x xs h.0 ∙ ap (λ (ys : List Response). x ∷ ys) (inserted-last r xs h.1)

inserted-before : (x r : Response) (xs : List Response) → x.sequence < r.sequence → inserted x (xs ++ (r ∷ [])) ≡ inserted x xs ++ (r ∷ [])
unfolding inserted
inserted-before x r [] h = inserted-low x r [] (omega arith)
inserted-before x r (y ∷ xs) h =
    ⊎_elim
    (λ l. inserted-low x y (xs ++ (r ∷ [])) l ∙ sym (ap (λ (ys : List Response). ys ++ (r ∷ [])) (inserted-low x y xs l)))
    (λ l. inserted-high x y (xs ++ (r ∷ [])) l ∙ ap (λ (ys : List Response). y ∷ ys) (inserted-before x r xs h) ∙ sym (ap (λ (ys : List Response). ys ++ (r ∷ [])) (inserted-high x y xs l)))
    (le-or-lt x.sequence y.sequence)

pub sequence-last : {r : Response} {xs ys : List Response} → Inserts r xs ys → Every (λ (x : Response). x.sequence < r.sequence) xs → in_sequence ys ≡ in_sequence xs ++ (r ∷ [])
unfolding in_sequence
sequence-last {r} {xs} here h = inserted-last r (in_sequence xs) (shuffles-every (λ (x : Response). x.sequence < r.sequence) (sequence-shuffles xs) h)
sequence-last {r} (there {x} {xs} i) h = ap (inserted x) (sequence-last i h.1) ∙ inserted-before x r (in_sequence xs) h.0

-- responses of one sequence stay in their order
pub sequence-stable : (s : ℕ) (xs : List Response) → filter (bears s) (in_sequence xs) ≡ filter (bears s) xs
unfolding filter
sequence-stable s xs = sequence-filter (bears s) xs ∙ rising_stays s (filter (bears s) xs) (same xs)
  where
    same : (xs : List Response) → RisingFrom s (filter (bears s) xs)
    same [] = tt
    same (x ∷ xs) =
        ⊎_elim
        (λ e. rw (filter-pass (bears s) x xs e) (omega (arith, eqb-true x.sequence s e), rw (eqb-true x.sequence s e) (same xs)))
        (λ e. rw (filter-fail (bears s) x xs e) (same xs))
        (bool-or (bears s x))

-- ---- one that comes first: those before it have higher sequences, and those after it no lower ones
pub data Leads (m : Response) : List Response → List Response → Type 0 where
  first : {xs : List Response} → From m.sequence xs → Leads m xs (m ∷ xs)
  later : {x : Response} {xs ys : List Response} → m.sequence < x.sequence → Leads m xs ys → Leads m (x ∷ xs) (x ∷ ys)

pub leads-sequence : {m : Response} {xs ys : List Response} → Leads m xs ys → in_sequence ys ≡ m ∷ in_sequence xs
unfolding in_sequence
leads-sequence {m} {xs} (first e) =
    inserted-front m (in_sequence xs) (shuffles-every (λ (x : Response). m.sequence ≤ x.sequence) (sequence-shuffles xs) e)
leads-sequence {m} (later {x = x} {xs = xs} h l) = ap (inserted x) (leads-sequence l) ∙ inserted-high x m (in_sequence xs) h
