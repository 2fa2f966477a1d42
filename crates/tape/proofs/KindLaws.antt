-- A byte names one kind, or none; an event whose byte names none is in no form. Assumes nothing.
use mathlib.Core.Path.{◌≡◌, refl, sym, ap, ◌∙◌}
use mathlib.Core.Bool.{Bool, true, false, cond}
use mathlib.Core.Logic.{◌⊎◌}
use Prim.Native.Nat.{ℕ, ◌<◌}
use native.Mathlib.Omega.{arith}
use lib.Dec.{eqb}
use borrow.Author.Tests.{eq-eqb, ne_eqb, eqb-true}
use Rattle.std.specs.Prelude.{Result, Ok, Err}
use Rattle.tape.specs.declared.event.Event.{Event}
use Rattle.tape.specs.declared.kind.Kind.{Kind}
use Rattle.tape.specs.declared.kind.Kind.TheVariants.{Gtx, Cancel, Limit, Market, Quotes, Amend}
use Rattle.tape.specs.declared.kind.UnknownKind.{UnknownKind}
use Rattle.tape.specs.rules.Form.{shape_of, shape_tests, event_formed}
use Rattle.tape.specs.rules.Kind.{byte_of, Names}
use Rattle.tape.proofs.FormLaws.{each, within-ge, within-le}

-- what a byte names, by tests
abbrev kind_at : ℕ → Result Kind UnknownKind
kind_at n =
    cond (eqb n 1) (Ok Gtx)
    (cond (eqb n 2) (Ok Cancel)
    (cond (eqb n 3) (Ok Limit)
    (cond (eqb n 4) (Ok Market)
    (cond (eqb n 5) (Ok Quotes)
    (cond (eqb n 6) (Ok Amend)
    (Err (record { 0 = n })))))))

kind-its : (k : Kind) → Ok k ≡ kind_at (byte_of k)
kind-its Gtx = refl
kind-its Cancel = refl
kind-its Limit = refl
kind-its Market = refl
kind-its Quotes = refl
kind-its Amend = refl

-- the byte of no kind
abbrev Unknown : ℕ → Type 0
Unknown n = (n ≡ 0) ⊎ (6 < n)

-- passes none of the rules' tests
not-its : (n : ℕ) (k : Kind) → Unknown n → eqb n (byte_of k) ≡ false
not-its n k u = ne_eqb n (byte_of k) (λ z. outside k u z)
  where
    outside : (k : Kind) → Unknown n → n ≡ byte_of k → ⊥
    outside Gtx u z = omega arith
    outside Cancel u z = omega arith
    outside Limit u z = omega arith
    outside Market u z = omega arith
    outside Quotes u z = omega arith
    outside Amend u z = omega arith

at-byte : (n : ℕ) (r : Result Kind UnknownKind) → Names n r → r ≡ kind_at n
at-byte n (Ok k) e = kind-its k ∙ ap kind_at (sym e)
at-byte n (Err x) (e, u) =
    simp (not-its n Gtx u, not-its n Cancel u, not-its n Limit u, not-its n Market u, not-its n Quotes u, not-its n Amend u)
    (ap (λ (m : ℕ). Err (record { 0 = m })) e)

pub one-kind : (n : ℕ) (r s : Result Kind UnknownKind) → Names n r → Names n s → r ≡ s
one-kind n r s p q = at-byte n r p ∙ sym (at-byte n s q)

-- the rules' test for a kind's number holds of the byte that names it, and of no other
pub is-kind : (n : ℕ) (k : Kind) → Names n (Ok k) → eqb n (byte_of k) ≡ true
is-kind n k e = eq-eqb n (byte_of k) e

pub names-kind : (n : ℕ) (k : Kind) → eqb n (byte_of k) ≡ true → Names n (Ok k)
names-kind n k e = eqb-true n (byte_of k) e

pub unknown_unformed : (e : Event) → Unknown e.kind → event_formed e ≡ false
unfolding event_formed shape_tests shape_of
unknown_unformed e u = go (event_formed e) refl
  where
    go : (t : Bool) → event_formed e ≡ t → t ≡ false
    go false z = refl
    go true z =
        let h = rw (not-its e.kind Gtx u, not-its e.kind Cancel u, not-its e.kind Limit u, not-its e.kind Market u, not-its e.kind Quotes u, not-its e.kind Amend u) at (each (shape_tests (shape_of e.kind) e) true z 1) in
        absurd (omega (arith, within-ge e.marks 1 0 h, within-le e.marks 1 0 h))
