-- Laws of the fills' words.
use mathlib.Core.Path.{◌≡◌, refl, ◌∙◌}
use mathlib.Core.List.{List, [], ◌∷◌, ◌++◌}
use Prim.Native.Nat.{ℕ, suc, ◌+◌, ◌*◌, ◌≤◌}
use native.Mathlib.Numerals.{towards_suc}
use native.Mathlib.Omega.{arith}
use lib.ListN.{length, take, drop, length-append}
use lib.Seq.{sets, sets-eq}
use Rattle.share.specs.rules.Fills.{Fill, words}
use Rattle.base.proofs.WriteLaws as write
use Rattle.share.specs.inside.Fills.{put, written, words_of, WroteFills, LeftFills}

-- ---- what is written: the laws of any writer, for fills

-- a chain of writers: holds with room or without
written-append : (xs : List ℕ) (at : ℕ) (fs gs : List Fill) → written xs at (fs ++ gs) ≡ written (written xs at fs) (at + 3 * length fs) gs
unfolding written
written-append xs at [] gs = let e : at + 3 * 0 ≡ at = omega arith in rw e
written-append xs at (f ∷ fs) gs =
    let e : at + 3 * suc (length fs) ≡ at + 3 + 3 * length fs = omega arith in
    rw e (written-append (put xs at f) (at + 3) fs gs)

adds : (fs gs : List Fill) → words_of (fs ++ gs) ≡ words_of fs + words_of gs
adds fs gs = omega (arith, length-append fs gs)

nothing : (xs : List ℕ) (at : ℕ) → written xs at [] ≡ xs
unfolding written
nothing xs at = refl

pub wrote-append : {xs ys zs : List ℕ} {at next last : ℕ} {fs gs : List Fill} → WroteFills xs at fs next ys → WroteFills ys next gs last zs → WroteFills xs at (fs ++ gs) last zs
wrote-append = write.wrote-append written-append adds

pub left-start : (xs : List ℕ) (at : ℕ) (fs : List Fill) → LeftFills xs at fs xs at fs
left-start = write.left-start

pub left-turn : {xs ys zs : List ℕ} {at w next : ℕ} {fs gs hs : List Fill} → LeftFills xs at fs ys w (gs ++ hs) → WroteFills ys w gs next zs → LeftFills xs at fs zs next hs
left-turn = write.left-turn written-append adds

pub left-done : {xs ys : List ℕ} {at w : ℕ} {fs : List Fill} → LeftFills xs at fs ys w [] → WroteFills xs at fs w ys
left-done = write.left-done nothing refl

-- ---- the same by the words: with room, what is before and after stays

pub length-words : (fs : List Fill) → length (words fs) ≡ 3 * length fs
length-words [] = refl
length-words (f ∷ fs) = omega (arith, length-words fs)

written-sets : (xs : List ℕ) (at : ℕ) (fs : List Fill) → written xs at fs ≡ sets xs at (words fs)
unfolding written
written-sets xs at [] = refl
written-sets xs at (f ∷ fs) = written-sets (put xs at f) (at + 3) fs ∙ simp towards_suc

pub written-words : (xs : List ℕ) (at : ℕ) (fs : List Fill) → at + 3 * length fs ≤ length xs
    → written xs at fs ≡ take at xs ++ words fs ++ drop (at + 3 * length fs) xs
written-words xs at fs h =
    written-sets xs at fs ∙ (rw (length-words fs) at (sets-eq (words fs) xs at (rw (length-words fs) h)))
