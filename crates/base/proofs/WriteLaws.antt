-- Laws of writers, of anything whose writing is one after the other: to write two lists together is to write the first, then the second. Assumes nothing.
use mathlib.Core.Path.{◌≡◌, refl, subst}
use mathlib.Core.List.{List, [], ◌++◌}
use Prim.Native.Nat.{ℕ, ◌+◌}
use native.Mathlib.Omega.{arith}
use Rattle.base.specs.Writing.{Wrote, Left}

module _ {A : Type 0} {written : List ℕ → ℕ → List A → List ℕ} {long : List A → ℕ} where
  pub wrote-same : {xs ys : List ℕ} {at next : ℕ} {fs gs : List A} → Wrote written long xs at fs next ys → fs ≡ gs → Wrote written long xs at gs next ys
  wrote-same {xs} {ys} {at} {next} a e = subst (λ u. Wrote written long xs at u next ys) e a

  pub left-start : (xs : List ℕ) (at : ℕ) (fs : List A) → Left written long xs at fs xs at fs
  left-start xs at fs = record { words = refl; place = refl }

  pub left-same : {xs ys : List ℕ} {at w : ℕ} {fs gs hs : List A} → Left written long xs at fs ys w gs → gs ≡ hs → Left written long xs at fs ys w hs
  left-same {xs} {ys} {at} {w} {fs} l e = subst (λ v. Left written long xs at fs ys w v) e l

  module _
      (parts : (xs : List ℕ) (at : ℕ) (fs gs : List A) → written xs at (fs ++ gs) ≡ written (written xs at fs) (at + long fs) gs)
      (adds : (fs gs : List A) → long (fs ++ gs) ≡ long fs + long gs) where
    -- one writer after another
    pub wrote-append : {xs ys zs : List ℕ} {at next last : ℕ} {fs gs : List A} → Wrote written long xs at fs next ys → Wrote written long ys next gs last zs
        → Wrote written long xs at (fs ++ gs) last zs
    wrote-append {xs} {ys} {zs} {at} {next} {last} {fs} {gs} a b =
        record {
          words = cc (parts xs at fs gs, a.words, a.place, b.words);
          place = omega (arith, adds fs gs, a.place, b.place);
        }

    -- after a writer of the first part of what is left
    pub left-turn : {xs ys zs : List ℕ} {at w next : ℕ} {fs gs hs : List A} → Left written long xs at fs ys w (gs ++ hs) → Wrote written long ys w gs next zs
        → Left written long xs at fs zs next hs
    left-turn {xs} {ys} {zs} {at} {w} {next} {fs} {gs} {hs} l a =
        record {
          words = cc (parts ys w gs hs, l.words, a.words, a.place);
          place = omega (arith, adds gs hs, l.place, a.place);
        }

  -- where nothing is left, all is written
  module _ (nothing : (xs : List ℕ) (at : ℕ) → written xs at [] ≡ xs) (short : long [] ≡ 0) where
    pub left-done : {xs ys : List ℕ} {at w : ℕ} {fs : List A} → Left written long xs at fs ys w [] → Wrote written long xs at fs w ys
    left-done {xs} {ys} {at} {w} {fs} l = record { words = cc (nothing ys w, l.words); place = omega (arith, l.place, short) }
