-- What is still to be written at a price: the responses that are served, and after Customers the Contra Order and the others.
use mathlib.Core.Path.{◌≡◌, refl, sym, ap, ap₂, ◌∙◌}
use mathlib.Core.Bool.{Bool, true, false, cond, ◌||◌, true≢false}
use mathlib.Core.List.{List, [], ◌∷◌, ◌++◌, append_assoc, append-nil}
use mathlib.Core.Logic.{◌⊎◌, inl, inr, ⊎_elim}
use Prim.Native.Nat.{ℕ, ◌+◌, ◌^◌, ◌≤◌, ◌<◌, min}
use native.Mathlib.Omega.{arith}
use borrow.Author.Tests.{leb-true, leb-false, eqb-true, le-leb, lt-leb}
use lib.Dec.{leb, ltb, eqb}
use lib.ListN.{length, get_or}
use Rattle.words.specs.rules.Bits.{without_bit, without_lowest, count_trailing_zeros}
use Rattle.base.specs.Lists.{sum}
use Rattle.base.proofs.Bools.{by, or_left}
use Rattle.base.proofs.ListLaws.{filter-length}
use Rattle.base.proofs.Numbers.{le-or-lt, eq-or}
use Rattle.board.specs.declared.Response.{Response}
use Rattle.board.specs.rules.Board.{no_response, live_in, inserted, in_sequence}
use Rattle.board.proofs.LiveLaws.{none-live}
use Rattle.share.specs.rules.Share.{leftover_count, shares}
use Rattle.share.specs.rules.Fills.{Fill, fill_of, sizes}
use Rattle.share.specs.inside.Cut.{Cuts}
use Rattle.share.proofs.ShareLaws.{shares_sum, shares-length}
use Rattle.trade.specs.declared.Hand.{Hand}
use Rattle.trade.specs.declared.Price.{Price}
use Rattle.trade.specs.inside.Code.{in_turn_of, rank_of, quantity_of, remainder_of, dealt, each_fills, share_fills, place_fills, fractions_in, Short, hunting_of, hand_of, met_of, next_fills, next_of, served_fills, served_of, Ready}
use Rattle.trade.proofs.CodeLaws.{turn-of, fractions-length, live-short}
use Rattle.trade.proofs.WriteLaws.{Pick, each-pick, each_none, shares-all, shares_parts, only, remainder-le}
use Rattle.trade.proofs.RunLaws.{Kept, hunting-kept, hand-kept, late_is, others-is, rest_of, Serves, serves-hand, serves-met, serves-pick, serves-served, serves-again, serves-next, serves-others}

-- ---- one response alone

module _ (p R T c : ℕ) (ps : List Response) (word : ℕ) (e : length ps ≡ 64) (some : 0 < word) (h : word < 2 ^ 64) (z : without_lowest word ≡ 0) where
  abbrev it : Response
  it = get_or ps (count_trailing_zeros 64 word) no_response

  it-alone : live_in word ps ≡ it ∷ []
  unfolding without_lowest
  it-alone = (turn-of ps word (count_trailing_zeros 64 word) e some h refl).cons ∙ ap {B = List Response} (λ rs. it ∷ rs) (rw z (none-live ps))

  -- it gets what there is, up to its size
  shares-one : share_fills p R (in_sequence (live_in word ps)) ≡ each_fills p true R T c R (in_sequence (live_in word ps))
  unfolding share_fills each_fills dealt in_sequence inserted sum
  shares-one =
      let q : shares R (it.size ∷ []) ≡ min R it.size ∷ [] = only (shares R (it.size ∷ [])) (min R it.size) (shares-length R (it.size ∷ [])) (shares_sum R (it.size ∷ []) ∙ omega arith) in
      rw (it-alone, q) refl

-- ---- the others, in turn or pro rata

-- where they are not served in turn, there is too little for all
pub turns-not : (T R word : ℕ) → in_turn_of T R word ≡ false → R < T
unfolding in_turn_of
turns-not T R word e = leb-false T R (or_left (leb T R) (eqb (without_lowest word) 0) e)

turns-are : (T R word : ℕ) → in_turn_of T R word ≡ true → (T ≤ R) ⊎ ((R < T) × (without_lowest word ≡ 0))
unfolding in_turn_of
turns-are T R word e = go (leb T R) refl e
  where
    go : (b : Bool) → leb T R ≡ b → (b || eqb (without_lowest word) 0) ≡ true → (T ≤ R) ⊎ ((R < T) × (without_lowest word ≡ 0))
    go true q e = inl (leb-true T R q)
    go false q e = inr (leb-false T R q, eqb-true (without_lowest word) 0 e)

pub short-of : (ps : List Response) (word R T : ℕ) → in_turn_of T R word ≡ false → R ≤ 4294967295 → T ≤ 274877906880 → T ≡ sum (sizes (live_in word ps)) → Short ps word R T
short-of ps word R T e l s t = record { short = turns-not T R word e; low = l; small = omega arith; total-is = t }

module _ (l : Price) (c : ℕ) (ps : List Response) where
  -- of a hand with so much to give and these places still to be served
  abbrev pub serve_fills : Bool → Bool → ℕ → ℕ → List Fill
  serve_fills last turns k rest =
      each_fills l.reported turns l.shared l.total c k (in_sequence (live_in rest ps))
      ++ cond last [] (fill_of 0 l.reported l.contra ++ share_fills l.reported l.shared (in_sequence (live_in l.others ps)))

  pub serve-start : place_fills l.reported l.left (in_sequence (live_in l.customers ps)) l.contra l.shared (in_sequence (live_in l.others ps)) ≡ serve_fills false true l.left l.customers
  unfolding place_fills each_fills dealt
  serve-start = refl

  -- one is served
  pub serve-fill : (last turns : Bool) (k rest i : ℕ) → Pick ps rest i
      → serve_fills last turns k rest
      ≡ fill_of (get_or ps i no_response).sequence l.reported (quantity_of turns l.shared l.total c k (get_or ps i no_response).size)
      ++ serve_fills last turns (remainder_of turns l.shared l.total c k (get_or ps i no_response).size) (without_bit rest i)
  serve-fill last turns k rest i t =
      ap {B = List Fill} (λ fs. fs ++ cond last [] (fill_of 0 l.reported l.contra ++ share_fills l.reported l.shared (in_sequence (live_in l.others ps)))) (each-pick l.reported turns l.shared l.total c k ps rest i t)
      ∙ append_assoc (fill_of (get_or ps i no_response).sequence l.reported (quantity_of turns l.shared l.total c k (get_or ps i no_response).size)) _ _

  -- nothing is left
  pub serve-done : (turns : Bool) (k : ℕ) → serve_fills true turns k 0 ≡ []
  serve-done turns k = rw (each_none l.reported turns l.shared l.total c k ps)

  -- the Contra Order, and the others
  module _ (e : length ps ≡ 64) (fits : l.others < 2 ^ 64) (total : l.total ≡ sum (sizes (live_in l.others ps))) (turns-is : l.turns ≡ in_turn_of l.total l.shared l.others) (spare : ℕ)
      (cuts : l.turns ≡ false → Cuts (leftover_count l.shared (sizes (live_in l.others ps))) (fractions_in l.shared l.total ps l.others) c spare) where
    others-some : l.shared < l.total → 0 < l.others
    unfolding sum
    others-some h =
        ⊎_elim (λ g. g)
        (λ g.
        let z : l.others ≡ 0 = omega arith in
        absurd (omega (arith, total, ap (λ (n : ℕ). sum (sizes (live_in n ps))) z, ap (λ (rs : List Response). sum (sizes rs)) (none-live ps))))
        (le-or-lt 1 l.others)

    others-each : (b : Bool) → l.turns ≡ b
        → share_fills l.reported l.shared (in_sequence (live_in l.others ps)) ≡ each_fills l.reported b l.shared l.total c (cond b l.shared spare) (in_sequence (live_in l.others ps))
    unfolding each_fills dealt
    others-each true q =
        ⊎_elim
        (λ h. shares-all l.reported l.shared l.total (live_in l.others ps) total h)
        (λ h. shares-one l.reported l.shared l.total c ps l.others e (others-some h.0) fits h.1)
        (turns-are l.total l.shared l.others (sym turns-is ∙ q))
    others-each false q =
        shares_parts l.reported l.shared l.total c spare (live_in l.others ps) total (turns-not l.total l.shared l.others (sym turns-is ∙ q)) (cuts q)

    pub serve-others : (turns : Bool) (k : ℕ) → serve_fills false turns k 0 ≡ fill_of 0 l.reported l.contra ++ serve_fills true l.turns (cond l.turns l.shared spare) l.others
    serve-others turns k =
        rw (each_none l.reported turns l.shared l.total c k ps)
        (ap {B = List Fill} (λ fs. fill_of 0 l.reported l.contra ++ fs) (others-each l.turns refl ∙ sym (append-nil _)))

    -- what is given to them is a word
    pub given-low : l.shared ≤ 4294967295 → cond l.turns l.shared spare ≤ 4294967295
    given-low h = go l.turns refl
      where
        go : (b : Bool) → l.turns ≡ b → cond b l.shared spare ≤ 4294967295
        go true q = h
        go false q = omega (arith, (cuts q).enough, filter-length (eqb c) (fractions_in l.shared l.total ps l.others), fractions-length l.shared l.total (live_in l.others ps), live-short l.others ps)

-- ---- the turns of the loop that serves

met-kept : (h : Hand) (t i : ℕ) → Kept h.last h.turns h.k h.at (met_of h t i)
unfolding met_of
met-kept h t i =
    by (Kept h.last h.turns h.k h.at) (ltb t h.first) _ _ (λ _. (refl, refl, refl, refl))
    (λ _. by (Kept h.last h.turns h.k h.at) (leb h.latest t) _ _ (λ _. (refl, refl, refl, refl)) (λ _. (refl, refl, refl, refl)))

module _ (l : Price) (c : ℕ) (ps : List Response) where
  -- what a hand has still to write
  abbrev pub to_serve : Hand → List Fill
  to_serve h = serve_fills l c ps h.last h.turns h.k (rest_of h)

  -- what holds of a hand in the loop
  pub record Hands (h : Hand) : Type 0 where
    pub serves : Serves ps h
    pub low : h.k ≤ 4294967295
    pub short : h.turns ≡ false → l.shared < l.total

  to-serve : (n : Hand) (last turns : Bool) (k at rest : ℕ) → Kept last turns k at n → rest_of n ≡ rest → to_serve n ≡ serve_fills l c ps last turns k rest
  to-serve n last turns k at rest e r = rw (e.0, e.1, e.2, r) refl

  hands-of : (n : Hand) (last turns : Bool) (k at : ℕ) → Kept last turns k at n → Serves ps n → k ≤ 4294967295 → (turns ≡ false → l.shared < l.total) → Hands n
  hands-of n last turns k at e v low short =
      record { serves = v; low = omega (arith, e.2); short = λ f. short (sym e.1 ∙ f) }

  -- the others come last: where none of them is left, nothing is left to write
  pub to-serve-done : (h : Hand) → h.last ≡ true → rest_of h ≡ 0 → to_serve h ≡ []
  to-serve-done h q n = ap₂ {C = List Fill} (λ (b : Bool) (r : ℕ). serve_fills l c ps b h.turns h.k r) q n ∙ serve-done l c ps h.turns h.k

  -- Customers come first
  pub hands_start : length ps ≡ 64 → l.customers < 2 ^ 64 → l.customer ≡ rank_of 0 (live_in l.customers ps) → l.left ≤ 4294967295 → (at : ℕ)
      → Hands (hand_of false true l.customers l.customer l.left at)
      × (place_fills l.reported l.left (in_sequence (live_in l.customers ps)) l.contra l.shared (in_sequence (live_in l.others ps)) ≡ to_serve (hand_of false true l.customers l.customer l.left at))
      × ((hand_of false true l.customers l.customer l.left at).at ≡ at)
  hands_start e fits rank low at =
      let v = serves-hand ps e false true l.customers l.customer l.left at fits rank in
      let k = hand-kept false true l.customers l.customer l.left at in
      (hands-of _ false true l.left at k v.0 low (λ f. absurd (true≢false f)), serve-start l c ps ∙ sym (to-serve (hand_of false true l.customers l.customer l.left at) false true l.left at l.customers k v.1), k.3)

  module _ (h : Hand) (e : length ps ≡ 64) (g : Hands h) where
    -- a place is looked at
    pub hands-met : (i t : ℕ) → 0 < h.unseen → i ≡ count_trailing_zeros 64 h.unseen → t ≡ (get_or ps i no_response).sequence → t < 4294967296
        → Hands (met_of h t i) × (to_serve (met_of h t i) ≡ to_serve h) × ((met_of h t i).at ≡ h.at)
    hands-met i t some q p small =
        let v = serves-met ps h i t g.serves some q p small in
        let k = met-kept h t i in
        (hands-of _ h.last h.turns h.k h.at k v.0 g.low g.short, to-serve (met_of h t i) h.last h.turns h.k h.at (rest_of h) k v.1, k.3)

    -- the first of the run is served, or all are looked over again
    pub hands-served : (i : ℕ) → h.unseen ≡ 0 → 0 < h.run → i ≡ count_trailing_zeros 64 h.run → (at : ℕ)
        → Hands (served_of h l c (get_or ps i no_response) at) × (to_serve h ≡ served_fills h l c (get_or ps i no_response) ++ to_serve (served_of h l c (get_or ps i no_response) at))
    unfolding served_of served_fills
    hands-served i z some q at =
        let r = get_or ps i no_response in
        ⊎_elim
        (λ again.
        let b : leb h.edge r.sequence ≡ true = le-leb h.edge r.sequence again in
        let v = serves-again ps h e g.serves l c r at z again in
        let k = hunting-kept h.last h.turns (h.run + h.late) h.k h.at in
        rw b (
          hands-of _ h.last h.turns h.k h.at k (rw b at v.0) g.low g.short,
          sym (to-serve (hunting_of h.last h.turns (h.run + h.late) h.k h.at) h.last h.turns h.k h.at (rest_of h) k (rw b at v.1)),
        ))
        (λ below.
        let b : leb h.edge r.sequence ≡ false = lt-leb h.edge r.sequence below in
        let v = serves-served ps h e g.serves i z some q below l c r at refl in
        let m = remainder_of h.turns l.shared l.total c h.k r.size in
        rw b (
          hands-of _ h.last h.turns m at (refl, refl, refl, refl) (rw b at v.0) (omega (arith, g.low, remainder-le h.turns l.shared l.total c h.k r.size)) g.short,
          serve-fill l c ps h.last h.turns h.k (rest_of h) i (serves-pick ps h e g.serves i z some q below)
              ∙ ap {B = List Fill} (λ fs. fill_of r.sequence l.reported (quantity_of h.turns l.shared l.total c h.k r.size) ++ fs) (sym (to-serve (record { last = h.last; turns = h.turns; run = without_lowest h.run; late = h.late; unseen = 0; edge = h.edge; first = 4294967296; latest = 0; k = m; at = at }) h.last h.turns m at (without_bit (rest_of h) i) (refl, refl, refl, refl) (rw b at v.1))),
        ))
        (le-or-lt h.edge r.sequence)

    -- the run is served: those that come late, or the Contra Order and the others
    module _ (z : h.unseen ≡ 0) (y : h.run ≡ 0) (first : h.late ≡ 0 → h.last ≡ false) (fits : l.others < 2 ^ 64) (spare : ℕ) (ready : Ready ps l c spare) (at : ℕ) where
      rest-late : rest_of h ≡ h.late
      rest-late = omega arith

      pub hands_next : Hands (next_of h l spare at) × (to_serve h ≡ next_fills h l ++ to_serve (next_of h l spare at))
      hands_next = ⊎_elim others late (eq-or h.late 0)
        where
          late : (h.late ≡ 0 → ⊥) → Hands (next_of h l spare at) × (to_serve h ≡ next_fills h l ++ to_serve (next_of h l spare at))
          late p =
              let v = serves-next ps h e g.serves l spare at z y p in
              let x = late_is h l spare at p in
              let k = hunting-kept h.last h.turns h.late h.k h.at in
              rw (x.0, x.1) (hands-of _ h.last h.turns h.k h.at k (rw x.0 at v.0) g.low g.short, sym (to-serve (hunting_of h.last h.turns h.late h.k h.at) h.last h.turns h.k h.at (rest_of h) k (rw x.0 at v.1)))

          others : h.late ≡ 0 → Hands (next_of h l spare at) × (to_serve h ≡ next_fills h l ++ to_serve (next_of h l spare at))
          others p =
              let v = serves-others ps h l spare at e p fits ready.others-rank in
              let x = others-is h l spare at p in
              let n : rest_of h ≡ 0 = rest-late ∙ p in
              let m = cond l.turns l.shared spare in
              let k = hand-kept true l.turns l.others l.other m at in
              rw (x.0, x.1) (
                hands-of _ true l.turns m at k (rw x.0 at v.0) (given-low l c ps e fits ready.total-is ready.in-turn spare ready.cuts ready.shared-low) (λ f. turns-not l.total l.shared l.others (sym ready.in-turn ∙ f)),
                ap₂ {C = List Fill} (λ (b : Bool) (r : ℕ). serve_fills l c ps b h.turns h.k r) (first p) n ∙ serve-others l c ps e fits ready.total-is ready.in-turn spare ready.cuts h.turns h.k
                    ∙ ap {B = List Fill} (λ fs. fill_of 0 l.reported l.contra ++ fs) (sym (to-serve (hand_of true l.turns l.others l.other m at) true l.turns m at l.others k (rw x.0 at v.1))),
              )
