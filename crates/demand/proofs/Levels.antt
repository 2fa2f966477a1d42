-- Laws of one price: of any level, however it was made.
use mathlib.Core.Path.{◌≡◌, refl, sym, ap, ◌∙◌, subst}
use mathlib.Core.Bool.{Bool, true, false, cond, not}
use mathlib.Core.List.{List, [], ◌∷◌, ◌++◌}
use mathlib.Core.Logic.{◌≢◌}
use Prim.Native.Nat.{ℕ, ◌+◌, ◌≤◌, ◌<◌, min}
use native.Mathlib.Omega.{arith}
use borrow.Author.Tests.{not-true}
use lib.Dec.{eqb}
use lib.ListN.{length}
use Rattle.board.specs.declared.Response.{Response}
use Rattle.base.specs.Lists.{Every, sum, In}
use Rattle.share.specs.rules.Share.{in_turn}
use Rattle.share.specs.promises.Share.{Each, Near}
use Rattle.share.proofs.ShareLaws.{shares-fit, shares-near, each-flip, turn-fit, turn-full, shares-full, shares-length}
use Rattle.share.specs.rules.Fills.{Fill, fill_of, fills_by, sizes}
use Rattle.trade.specs.rules.Trade.{from_customer, from_other, Level, customers, others, first, shared, given, contra, level_fills, traded, size_here}
use Rattle.demand.specs.promises.Demands.{Absent, Distinct, got, gots}
use Rattle.trade.proofs.Levels.{given-sum, traded-is}
use Rattle.base.proofs.ListLaws.{every_append, every_any, every_in, every-filter, in-filter, filter-in, filter-test}
use Rattle.demand.proofs.Lists.{distinct-keep, absent-keep, tally-append, got-none, got-fill, all-fill, all-by, absent_by, got-by, gots-same, gots-by, pairs_of}
use Rattle.trade.proofs.Lists.{sizes-split}

module _ (l : Level) where
  unfoldable pub by_customers : List Fill
  by_customers = fills_by l.price (customers l) (in_turn l.left (sizes (customers l)))

  by_contra : List Fill
  by_contra = fill_of 0 l.price (contra l)

  by_others : List Fill
  by_others = fills_by l.price (others l) (given l)

  three : level_fills l ≡ by_customers ++ (by_contra ++ by_others)
  unfolding level_fills by_customers by_contra by_others
  three = refl

  -- ---- how much trades

  pub traded-final : l.final ≡ true → traded (level_fills l) ≡ l.left
  traded-final e = traded-is l ∙ ap (λ b. cond b l.left (min l.left (size_here l + l.want))) e

  pub traded-open : l.final ≡ false → traded (level_fills l) ≡ min l.left (size_here l + l.want)
  traded-open e = traded-is l ∙ ap (λ b. cond b l.left (min l.left (size_here l + l.want))) e

  pub traded-fits : traded (level_fills l) ≤ l.left
  traded-fits = go l.final refl
    where
      go : (b : Bool) → l.final ≡ b → traded (level_fills l) ≤ l.left
      go true e = omega (arith, traded-final e)
      go false e = omega (arith, traded-open e)

  -- ---- what every fill here has

  all_three : (P : Fill → Type 0) → Every P by_customers → Every P by_contra → Every P by_others → Every P (level_fills l)
  all_three P a b c = rw three (every_append P by_customers (by_contra ++ by_others) a (every_append P by_contra by_others b c))

  pub all-level : (P : Fill → Type 0) → ((k q : ℕ) → 0 < q → P (record { party = k; price = l.price; quantity = q })) → Every P (level_fills l)
  unfolding by_customers by_contra by_others
  all-level P f =
      all_three P
      (all-by P (λ o. Unit {0}) l.price (λ o q u h. f o.sequence q h) (customers l) (in_turn l.left (sizes (customers l))) (every_any (λ o. Unit {0}) (customers l) (λ o. tt)))
      (all-fill P 0 l.price (contra l) (λ h. f 0 (contra l) h))
      (all-by P (λ o. Unit {0}) l.price (λ o q u h. f o.sequence q h) (others l) (given l) (every_any (λ o. Unit {0}) (others l) (λ o. tt)))

  -- ---- who trades here

  -- every party here is the Contra Order or a response's
  pub all-who : (Q : ℕ → Type 0) → Q 0 → Every (λ o. Q o.sequence) l.here → Every (λ f. Q f.party) (level_fills l)
  unfolding by_customers by_contra by_others
  all-who Q z a =
      all_three (λ f. Q f.party)
      (all-by (λ f. Q f.party) (λ o. Q o.sequence) l.price (λ o q u h. u) (customers l) (in_turn l.left (sizes (customers l))) (every-filter (λ o. Q o.sequence) from_customer l.here a))
      (all-fill (λ f. Q f.party) 0 l.price (contra l) (λ h. z))
      (all-by (λ f. Q f.party) (λ o. Q o.sequence) l.price (λ o q u h. u) (others l) (given l) (every-filter (λ o. Q o.sequence) from_other l.here a))

  absent-customers : (k : ℕ) → Absent k (customers l) → Every (λ f. f.party ≢ k) by_customers
  unfolding by_customers
  absent-customers k a = absent_by k l.price (customers l) (in_turn l.left (sizes (customers l))) a

  absent-others : (k : ℕ) → Absent k (others l) → Every (λ f. f.party ≢ k) by_others
  unfolding by_others
  absent-others k a = absent_by k l.price (others l) (given l) a

  absent-contra : (k : ℕ) → 0 < k → Every (λ f. f.party ≢ k) by_contra
  unfolding by_contra
  absent-contra k z = all-fill (λ f. f.party ≢ k) 0 l.price (contra l) (λ h. omega arith)

  pub absent-level : (k : ℕ) → 0 < k → Absent k l.here → Every (λ f. f.party ≢ k) (level_fills l)
  absent-level k z a =
      all_three (λ f. f.party ≢ k)
      (absent-customers k (every-filter (λ o. o.sequence ≢ k) from_customer l.here a))
      (absent-contra k z)
      (absent-others k (every-filter (λ o. o.sequence ≢ k) from_other l.here a))

  got-parts : (k : ℕ) → got k (level_fills l) ≡ got k by_customers + (got k by_contra + got k by_others)
  got-parts k = rw three (omega (arith, tally-append (λ f. eqb f.party k) by_customers (by_contra ++ by_others), tally-append (λ f. eqb f.party k) by_contra by_others))

  pub got-contra : Absent 0 l.here → got 0 (level_fills l) ≡ contra l
  unfolding by_contra
  got-contra a =
      omega (
        arith,
        got-parts 0,
        got-fill 0 l.price (contra l),
        got-none 0 by_customers (absent-customers 0 (every-filter (λ o. o.sequence ≢ 0) from_customer l.here a)),
        got-none 0 by_others (absent-others 0 (every-filter (λ o. o.sequence ≢ 0) from_other l.here a)),
      )

  -- what the others get
  pub gots-level : Absent 0 l.here → Distinct l.here → gots (level_fills l) (others l) ≡ given l
  unfolding by_others
  gots-level z d =
      gots-same (level_fills l) by_others (others l) (λ x m. same x m)
      ∙ gots-by l.price (others l) (given l) (distinct-keep from_other l.here d) (shares-length (shared l) (sizes (others l)))
    where
      same : (x : Response) → In x (others l) → got x.sequence (level_fills l) ≡ got x.sequence by_others
      same x m =
          let n : In x l.here = filter-in from_other l.here x m in
          let c : x.customer ≡ false = not-true x.customer (filter-test from_other l.here x m) in
          let k : x.sequence ≢ 0 = every_in (λ o. o.sequence ≢ 0) l.here x z n in
          omega (
            arith,
            got-parts x.sequence,
            got-none x.sequence by_contra (absent-contra x.sequence (omega arith)),
            got-none x.sequence by_customers (absent-customers x.sequence (absent-keep from_customer l.here x d n c)),
          )

  module _ (o : Response) (positive : 0 < o.sequence) (d : Distinct l.here) (m : In o l.here) where
    not-contra : got o.sequence by_contra ≡ 0
    not-contra = got-none o.sequence by_contra (absent-contra o.sequence positive)

    -- what a Customer gets
    pub customer-is : o.customer ≡ true → got o.sequence (level_fills l) ≡ got o.sequence by_customers
    customer-is c = omega (arith, got-parts o.sequence, not-contra, got-none o.sequence by_others (absent-others o.sequence (absent-keep from_other l.here o d m (ap not c))))

    -- a Customer gets its turn's quantity
    customer-got : (P : ℕ → ℕ → Type 0) → o.customer ≡ true → Each P (sizes (customers l)) (in_turn l.left (sizes (customers l))) → P o.size (got o.sequence (level_fills l))
    unfolding by_customers
    customer-got P c e =
        let g = customer-is c in
        let qs = in_turn l.left (sizes (customers l)) in
        subst (λ n. P o.size n) (sym g)
        (got-by (λ x q. P x.size q) l.price (customers l) qs o (distinct-keep from_customer l.here d) (in-filter from_customer l.here o m c) (pairs_of P (customers l) qs e))

    -- another gets its share
    pub other-got : (P : ℕ → ℕ → Type 0) → o.customer ≡ false → Each P (sizes (others l)) (given l) → P o.size (got o.sequence (level_fills l))
    unfolding by_others
    other-got P c e =
        let z : got o.sequence by_customers ≡ 0 = got-none o.sequence by_customers (absent-customers o.sequence (absent-keep from_customer l.here o d m c)) in
        let g : got o.sequence (level_fills l) ≡ got o.sequence by_others = omega (arith, got-parts o.sequence, not-contra) in
        subst (λ n. P o.size n) (sym g)
        (got-by (λ x q. P x.size q) l.price (others l) (given l) o (distinct-keep from_other l.here d) (in-filter from_other l.here o m (ap not c)) (pairs_of P (others l) (given l) e))

    -- no more than its size
    pub level-fits : got o.sequence (level_fills l) ≤ o.size
    level-fits = go o.customer refl
      where
        go : (b : Bool) → o.customer ≡ b → got o.sequence (level_fills l) ≤ o.size
        go true c = customer-got (λ s q. q ≤ s) c (turn-fit l.left (sizes (customers l)))
        go false c = other-got (λ s q. q ≤ s) c (each-flip ◌≤◌ (given l) (sizes (others l)) (shares-fit (shared l) (sizes (others l))))

    -- all of it, where the size left covers the responses here and what the Contra Order wants
    pub level-full : size_here l + l.want ≤ l.left → got o.sequence (level_fills l) ≡ o.size
    level-full h = go o.customer refl
      where
        go : (b : Bool) → o.customer ≡ b → got o.sequence (level_fills l) ≡ o.size
        go true c = customer-got (λ s q. q ≡ s) c (turn-full l.left (sizes (customers l)) (omega (arith, sizes-split l.here)))
        go false c = other-got (λ s q. q ≡ s) c (shares-full (shared l) (sizes (others l)) (omega (arith, sizes-split l.here)))

    -- another's share: all of it where R covers all others, else the whole part of R * s / T or one more
    pub level-covered : o.customer ≡ false → sum (sizes (others l)) ≤ shared l → got o.sequence (level_fills l) ≡ o.size
    level-covered c h = other-got (λ s q. q ≡ s) c (shares-full (shared l) (sizes (others l)) h)

    pub level-near : o.customer ≡ false → shared l < sum (sizes (others l)) → Near (shared l) (sum (sizes (others l))) o.size (got o.sequence (level_fills l))
    level-near c h = other-got (Near (shared l) (sum (sizes (others l)))) c (shares-near (shared l) (sizes (others l)) h)

    -- where another gets anything, something was left to the others
    pub level-some : o.customer ≡ false → 0 < got o.sequence (level_fills l) → 0 < shared l
    unfolding sum
    level-some c h =
        let q : got o.sequence (level_fills l) ≤ sum (given l) = other-got (λ s n. n ≤ sum (given l)) c (each-sum (given l) (sizes (others l)) (shares-length (shared l) (sizes (others l)))) in
        omega (arith, given-sum l)
      where
        below : (b : ℕ) (qs ss : List ℕ) → length qs ≡ length ss → sum qs ≤ b → Each (λ s n. n ≤ b) ss qs
        below b [] [] e r = tt
        below b [] (s ∷ ss) e r = let f : ⊥ = omega arith in absurd f
        below b (q ∷ qs) [] e r = let f : ⊥ = omega arith in absurd f
        below b (q ∷ qs) (s ∷ ss) e r = (omega arith, below b qs ss (omega arith) (omega arith))

        each-sum : (qs ss : List ℕ) → length qs ≡ length ss → Each (λ s n. n ≤ sum qs) ss qs
        each-sum qs ss e = below (sum qs) qs ss e (omega arith)

    -- then the Contra Order took what it wanted
    pub level-first : o.customer ≡ false → 0 < got o.sequence (level_fills l) → first l ≡ l.want
    level-first c h = omega (arith, level-some c h)

    -- every Customer is filled, where the size left covers them
    pub level-served : o.customer ≡ true → sum (sizes (customers l)) ≤ l.left → got o.sequence (level_fills l) ≡ o.size
    level-served c h = customer-got (λ s q. q ≡ s) c (turn-full l.left (sizes (customers l)) h)

    pub level-customer : o.customer ≡ true → 0 < shared l → got o.sequence (level_fills l) ≡ o.size
    level-customer c h = level-served c (omega arith)
