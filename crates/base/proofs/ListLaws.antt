-- Laws of lists: what holds of all, what is kept, what is one of them, one more, in some order. Assumes nothing.
use mathlib.Core.Path.{◌≡◌, refl, sym, ap, subst, ◌∙◌}
use mathlib.Core.Bool.{Bool, true, false, ◌&&◌}
use mathlib.Core.List.{List, [], ◌∷◌, ◌++◌, map}
use mathlib.Core.Logic.{inl, inr}
use Prim.Native.Nat.{ℕ, suc, ◌+◌, ◌≤◌}
use native.Mathlib.Omega.{arith}
use lib.ListN.{length, length-map}
use Rattle.base.specs.Lists.{keep, filter, sum, Every, In, Inserts, Shuffles}
use Rattle.base.specs.Lists.Inserts.{here, there}
use Rattle.base.specs.Lists.Shuffles.{none, more}

module _ {A : Type 0} where
  -- ---- what a filter keeps
  pub filter-keep : (p : A → Bool) (t : Bool) (x : A) (xs : List A) → filter p (keep t x xs) ≡ keep (t && p x) x (filter p xs)
  unfolding filter
  filter-keep p true x xs = refl
  filter-keep p false x xs = refl

  pub filter-pass : (p : A → Bool) (x : A) (xs : List A) → p x ≡ true → filter p (x ∷ xs) ≡ x ∷ filter p xs
  unfolding filter
  filter-pass p x xs e = rw e

  pub filter-fail : (p : A → Bool) (x : A) (xs : List A) → p x ≡ false → filter p (x ∷ xs) ≡ filter p xs
  unfolding filter
  filter-fail p x xs e = rw e

  -- ---- one more
  pub inserts-length : {r : A} {xs ys : List A} → Inserts r xs ys → length ys ≡ suc (length xs)
  inserts-length here = refl
  inserts-length (there i) = ap suc (inserts-length i)

  pub inserts-sum : (f : A → ℕ) {r : A} {xs ys : List A} → Inserts r xs ys → sum (map f ys) ≡ f r + sum (map f xs)
  unfolding sum
  inserts-sum f here = refl
  inserts-sum f (there i) = omega (arith, inserts-sum f i)

  -- a filter that r fails stays
  pub inserts-fail : (p : A → Bool) {r : A} {xs ys : List A} → p r ≡ false → Inserts r xs ys → filter p ys ≡ filter p xs
  unfolding filter
  inserts-fail p e here = rw e
  inserts-fail p e (there {x = x} i) = ap (keep (p x) x) (inserts-fail p e i)

  pub inserts-every : (P : A → Type 0) {r : A} {xs ys : List A} → Inserts r xs ys → P r → Every P xs → Every P ys
  inserts-every P here h e = (h, e)
  inserts-every P (there i) h e = (e.0, inserts-every P i h e.1)

  pub every-inserts : (P : A → Type 0) {r : A} {xs ys : List A} → Inserts r xs ys → Every P ys → P r × Every P xs
  every-inserts P here e = e
  every-inserts P (there i) e = let t = every-inserts P i e.1 in (t.0, (e.0, t.1))

  -- ---- in some order
  pub shuffles-length : {xs ys : List A} → Shuffles xs ys → length ys ≡ length xs
  shuffles-length none = refl
  shuffles-length (more s i) = inserts-length i ∙ ap suc (shuffles-length s)

  pub shuffles-sum : (f : A → ℕ) {xs ys : List A} → Shuffles xs ys → sum (map f ys) ≡ sum (map f xs)
  unfolding sum
  shuffles-sum f none = refl
  shuffles-sum f (more s i) = omega (arith, inserts-sum f i, shuffles-sum f s)

  pub shuffles-every : (P : A → Type 0) {xs ys : List A} → Shuffles xs ys → Every P xs → Every P ys
  shuffles-every P none e = e
  shuffles-every P (more s i) e = inserts-every P i e.0 (shuffles-every P s e.1)

  pub in-inserts : (a : A) {r : A} {xs ys : List A} → Inserts r xs ys → In a (r ∷ xs) → In a ys
  in-inserts a here m = m
  in-inserts a (there i) (inl e) = inr (in-inserts a i (inl e))
  in-inserts a (there i) (inr (inl e)) = inl e
  in-inserts a (there i) (inr (inr m)) = inr (in-inserts a i (inr m))

  pub in-shuffles : (a : A) {xs ys : List A} → Shuffles xs ys → In a xs → In a ys
  in-shuffles a none m = m
  in-shuffles a (more s i) (inl e) = in-inserts a i (inl e)
  in-shuffles a (more s i) (inr m) = in-inserts a i (inr (in-shuffles a s m))

  -- ---- what holds of all
  pub every_append : (P : A → Type 0) (xs ys : List A) → Every P xs → Every P ys → Every P (xs ++ ys)
  every_append P [] ys a b = b
  every_append P (x ∷ xs) ys a b = (a.0, every_append P xs ys a.1 b)

  pub every_map : (P Q : A → Type 0) (xs : List A) → ((x : A) → P x → Q x) → Every P xs → Every Q xs
  every_map P Q [] f a = tt
  every_map P Q (x ∷ xs) f a = (f x a.0, every_map P Q xs f a.1)

  pub every_any : (P : A → Type 0) (xs : List A) → ((x : A) → P x) → Every P xs
  every_any P [] f = tt
  every_any P (x ∷ xs) f = (f x, every_any P xs f)

  pub every_in : (P : A → Type 0) (xs : List A) (a : A) → Every P xs → In a xs → P a
  every_in P [] a h m = absurd m
  every_in P (x ∷ xs) a h (inl e) = subst P (sym e) h.0
  every_in P (x ∷ xs) a h (inr m) = every_in P xs a h.1 m

  pub every-with : (P : A → Type 0) (xs : List A) → ((x : A) → In x xs → P x) → Every P xs
  every-with P [] h = tt
  every-with P (x ∷ xs) h = (h x (inl refl), every-with P xs (λ y i. h y (inr i)))

  pub every-filter : (P : A → Type 0) (t : A → Bool) (xs : List A) → Every P xs → Every P (filter t xs)
  unfolding filter
  every-filter P t [] a = tt
  every-filter P t (x ∷ xs) a = go (t x) (every-filter P t xs a.1)
    where
      go : (b : Bool) → Every P (filter t xs) → Every P (keep b x (filter t xs))
      go true r = (a.0, r)
      go false r = r

  -- ---- what a filter keeps of a list
  pub in-filter : (t : A → Bool) (xs : List A) (a : A) → In a xs → t a ≡ true → In a (filter t xs)
  unfolding filter
  in-filter t [] a m e = absurd m
  in-filter t (x ∷ xs) a (inl p) e = rw (ap t (sym p) ∙ e) (inl p)
  in-filter t (x ∷ xs) a (inr m) e = go (t x) (in-filter t xs a m e)
    where
      go : (b : Bool) → In a (filter t xs) → In a (keep b x (filter t xs))
      go true r = inr r
      go false r = r

  pub filter-in : (t : A → Bool) (xs : List A) (a : A) → In a (filter t xs) → In a xs
  unfolding filter
  filter-in t [] a m = m
  filter-in t (x ∷ xs) a m = go (t x) m (filter-in t xs a)
    where
      go : (b : Bool) → In a (keep b x (filter t xs)) → (In a (filter t xs) → In a xs) → In a (x ∷ xs)
      go true (inl e) f = inl e
      go true (inr n) f = inr (f n)
      go false n f = inr (f n)

  pub filter-test : (t : A → Bool) (xs : List A) (a : A) → In a (filter t xs) → t a ≡ true
  unfolding filter
  filter-test t [] a m = absurd m
  filter-test t (x ∷ xs) a m = go (t x) refl m (filter-test t xs a)
    where
      go : (b : Bool) → t x ≡ b → In a (keep b x (filter t xs)) → (In a (filter t xs) → t a ≡ true) → t a ≡ true
      go true e (inl q) f = ap t q ∙ e
      go true e (inr n) f = f n
      go false e n f = f n

  pub filter-all : (t : A → Bool) (xs : List A) → Every (λ x. t x ≡ true) xs → filter t xs ≡ xs
  unfolding filter
  filter-all t [] a = refl
  filter-all t (x ∷ xs) a = rw a.0 (ap {B = List A} (λ ys. x ∷ ys) (filter-all t xs a.1))

  pub filter_none : (t : A → Bool) (xs : List A) → Every (λ x. t x ≡ false) xs → filter t xs ≡ []
  unfolding filter
  filter_none t [] a = refl
  filter_none t (x ∷ xs) a = rw a.0 (filter_none t xs a.1)

  -- a filter that r alone passes keeps it alone
  pub inserts-only : (t : A → Bool) {r : A} {xs ys : List A} → t r ≡ true → Every (λ x. t x ≡ false) xs → Inserts r xs ys → filter t ys ≡ r ∷ []
  inserts-only t {r} {xs} z h here = filter-pass t r xs z ∙ ap (λ (rest : List A). r ∷ rest) (filter_none t xs h)
  inserts-only t z h (there {x} {ys = ys} i) = filter-fail t x ys h.0 ∙ inserts-only t z h.1 i

  pub filter-append : (t : A → Bool) (xs ys : List A) → filter t (xs ++ ys) ≡ filter t xs ++ filter t ys
  unfolding filter
  filter-append t [] ys = refl
  filter-append t (x ∷ xs) ys = go (t x) (filter-append t xs ys)
    where
      go : (b : Bool) → filter t (xs ++ ys) ≡ filter t xs ++ filter t ys → keep b x (filter t (xs ++ ys)) ≡ keep b x (filter t xs) ++ filter t ys
      go true e = ap {B = List A} (λ zs. x ∷ zs) e
      go false e = e

  pub filter-length : (t : A → Bool) (xs : List A) → length (filter t xs) ≤ length xs
  unfolding filter
  filter-length t [] = omega arith
  filter-length t (x ∷ xs) = go (t x) (filter-length t xs)
    where
      go : (b : Bool) → length (filter t xs) ≤ length xs → length (keep b x (filter t xs)) ≤ suc (length xs)
      go true h = omega arith
      go false h = omega arith

  -- two filters are one, where their tests together are its test
  pub filter-filter : (p q r : A → Bool) (xs : List A) → ((x : A) → In x xs → (q x && p x) ≡ r x) → filter p (filter q xs) ≡ filter r xs
  unfolding filter
  filter-filter p q r [] h = refl
  filter-filter p q r (x ∷ xs) h =
      filter-keep p (q x) x (filter q xs) ∙ ap (λ (b : Bool). keep b x (filter p (filter q xs))) (h x (inl refl))
      ∙ ap (keep (r x) x) (filter-filter p q r xs (λ y m. h y (inr m)))

-- an array of structs in a struct has its length at the list of the elements' parts
pub length-mapped : (X Y : Type 0) (f : X → Y) (l : List X) (n : ℕ) → length (map f l) ≡ n → length l ≡ n
length-mapped X Y f l n e = sym (length-map l f) ∙ e

-- ---- lists in some order, mapped and filtered

pub inserts-map : {A B : Type 0} (f : A → B) {r : A} {xs ys : List A} → Inserts r xs ys → Inserts (f r) (map f xs) (map f ys)
inserts-map f here = here
inserts-map f (there i) = there (inserts-map f i)

-- a filter that r passes
inserts-pass : {A : Type 0} (t : A → Bool) {r : A} {xs ys : List A} → t r ≡ true → Inserts r xs ys → Inserts r (filter t xs) (filter t ys)
unfolding filter
inserts-pass t e here = rw e here
inserts-pass {A} t {r} e (there {x = x} {xs = xs} {ys = ys} i) = go (t x) (inserts-pass t e i)
  where
    go : (b : Bool) → Inserts r (filter t xs) (filter t ys) → Inserts r (keep b x (filter t xs)) (keep b x (filter t ys))
    go true j = there j
    go false j = j

pub shuffles-filter : {A : Type 0} (t : A → Bool) {xs ys : List A} → Shuffles xs ys → Shuffles (filter t xs) (filter t ys)
unfolding filter
shuffles-filter t none = none
shuffles-filter {A} t (more {x = x} {xs = xs} {ys = ys} {zs = zs} s i) = go (t x) refl (shuffles-filter t s)
  where
    go : (b : Bool) → t x ≡ b → Shuffles (filter t xs) (filter t ys) → Shuffles (keep b x (filter t xs)) (filter t zs)
    go true z ih = more ih (inserts-pass t z i)
    go false z ih = subst (Shuffles (filter t xs)) (sym (inserts-fail t z i)) ih
