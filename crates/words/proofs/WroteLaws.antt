-- Laws of writing bytes, one text after the other.
use mathlib.Core.Path.{◌≡◌, refl}
use mathlib.Core.List.{List, [], ◌++◌}
use Prim.Native.Nat.{ℕ}
use lib.ListN.{length-append}
use Rattle.base.proofs.SetsLaws.{sets-append}
use Rattle.base.proofs.WriteLaws as Writers
use Rattle.words.specs.inside.Writing.{WroteBytes, LeftBytes}

pub wrote-append : {xs ys zs : List ℕ} {at next last : ℕ} {s t : List ℕ} → WroteBytes xs at s next ys → WroteBytes ys next t last zs → WroteBytes xs at (s ++ t) last zs
wrote-append a b = Writers.wrote-append sets-append length-append a b

pub wrote-same : {xs ys : List ℕ} {at next : ℕ} {s t : List ℕ} → WroteBytes xs at s next ys → s ≡ t → WroteBytes xs at t next ys
wrote-same a e = Writers.wrote-same a e

pub left-start : (xs : List ℕ) (at : ℕ) (s : List ℕ) → LeftBytes xs at s xs at s
left-start xs at s = Writers.left-start xs at s

-- after a writer of the first part of what is left
pub left-wrote : {xs ys zs : List ℕ} {at w next : ℕ} {s t u : List ℕ} → LeftBytes xs at s ys w (t ++ u) → WroteBytes ys w t next zs → LeftBytes xs at s zs next u
left-wrote l a = Writers.left-turn sets-append length-append l a

pub left-same : {xs ys : List ℕ} {at w : ℕ} {s t u : List ℕ} → LeftBytes xs at s ys w t → t ≡ u → LeftBytes xs at s ys w u
left-same l e = Writers.left-same l e

pub left-done : {xs ys : List ℕ} {at w : ℕ} {s : List ℕ} → LeftBytes xs at s ys w [] → WroteBytes xs at s w ys
left-done l = Writers.left-done (λ xs at. refl) refl l
