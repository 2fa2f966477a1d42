-- All that is promised.
use mathlib.Core.Path.{◌≡◌, refl}
use mathlib.Core.Bool.{Bool, true, false, cond}
use mathlib.Core.List.{List, ◌++◌}
use Prim.Native.Nat.{ℕ, ◌≤◌, ◌<◌}
use native.Mathlib.Omega.{arith}
use borrow.Author.Tests.{lt-ltb, le-ltb, ltb-false}
use lib.Dec.{ltb}
use lib.ListN.{length, drop}
use Rattle.std.specs.Prelude.{Err}
use Rattle.base.specs.declared.refusal.Refusal.TheVariants.{RoomTooShort}
use Rattle.run.specs.rules.Run.{Run, run_of}
use Rattle.listing.specs.rules.Listing.{listing_of, room_of, answer_of, length_in, listed_of, bytes_of}
use Rattle.listing.specs.promises.Demands.{Demands}
use Rattle.listing.proofs.DecimalLaws.{decimal-value}
use Rattle.listing.proofs.LengthLaws.{listing-fits}
use Rattle.listing.proofs.Examples.{case-c, case-e, no_bytes}

pub length-answer : (n : ℕ) (run : Run) → length_in (answer_of n run) ≡ n
length-answer n run = refl

pub within : (s out : List ℕ) → length_in (listed_of s out) ≤ length out
unfolding listed_of
within s out = go (ltb (length out) room_of) refl
  where
    go : (b : Bool) → ltb (length out) room_of ≡ b → length_in (cond b (record { outcome = Err RoomTooShort; length = 0 }) (answer_of (length (listing_of s)) (run_of s))) ≤ length out
    go true e = omega arith
    go false e = omega (arith, length-answer (length (listing_of s)) (run_of s), listing-fits s, ltb-false (length out) room_of e)

kept : (s out : List ℕ) → length out < room_of → bytes_of s out ≡ out
unfolding bytes_of
kept s out h = rw (lt-ltb (length out) room_of h)

stands : (s out : List ℕ) → room_of ≤ length out → bytes_of s out ≡ listing_of s ++ drop (length (listing_of s)) out
unfolding bytes_of
stands s out h = rw (le-ltb (length out) room_of h)

pub demands : Demands
demands =
    record { case-c = case-c; case-e = case-e; no_bytes = no_bytes; fits = listing-fits; within = within; kept = kept; stands = stands; spoken = decimal-value }
