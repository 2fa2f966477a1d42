-- What the mirror leaves of an event. Assumes nothing.
use mathlib.Core.Path.{◌≡◌, refl, sym, ap, ◌∙◌}
use mathlib.Core.Bool.{Bool, true, false}
use Prim.Native.Nat.{ℕ}
use native.Mathlib.Omega.{arith}
use lib.Dec.{eqb}
use borrow.Author.Tests.{eq-eqb, ne_eqb, eqb-true}
use mathlib.Core.Logic.{◌⊎◌, inl, inr}
use Rattle.tape.specs.declared.event.Event.{Event}
use Rattle.tape.specs.rules.Fields.{name_of}
use Rattle.mirror.specs.rules.Mirror.{mirrored_priced, mirrored_market, mirrored_quotes, mirrored_amend, mirrored_event, buy_event}
use Rattle.base.proofs.Bools.{by}

-- what each kind's mirror keeps, the mirror keeps
mirror-keeps : {A : Type 0} (f : Event → A) (e : Event) → f (mirrored_priced e) ≡ f e → f (mirrored_market e) ≡ f e → f (mirrored_quotes e) ≡ f e → f (mirrored_amend e) ≡ f e → f (mirrored_event e) ≡ f e
unfolding mirrored_event
mirror-keeps f e p m q n =
    let P : Event → Type 0 = λ x. f x ≡ f e in
    by P (eqb e.kind 1) _ _ (λ _. p) (λ _.
    by P (eqb e.kind 3) _ _ (λ _. p) (λ _.
    by P (eqb e.kind 4) _ _ (λ _. m) (λ _.
    by P (eqb e.kind 5) _ _ (λ _. q) (λ _.
    by P (eqb e.kind 6) _ _ (λ _. n) (λ _. refl)))))

buy-keeps : {A : Type 0} (f : Event → A) (s : Bool) (e : Event) → f (mirrored_event e) ≡ f e → f (buy_event s e) ≡ f e
unfolding buy_event
buy-keeps f true e h = h
buy-keeps f false e h = refl

module _ (e : Event) where
  pub mirror-sequence : (mirrored_event e).sequence ≡ e.sequence
  unfolding mirrored_priced mirrored_market mirrored_quotes mirrored_amend
  mirror-sequence = mirror-keeps (λ x. x.sequence) e refl refl refl refl

  pub mirror-time : (mirrored_event e).time ≡ e.time
  unfolding mirrored_priced mirrored_market mirrored_quotes mirrored_amend
  mirror-time = mirror-keeps (λ x. x.time) e refl refl refl refl

  pub mirror-kind : (mirrored_event e).kind ≡ e.kind
  unfolding mirrored_priced mirrored_market mirrored_quotes mirrored_amend
  mirror-kind = mirror-keeps (λ x. x.kind) e refl refl refl refl

  pub mirror-participant : (mirrored_event e).participant ≡ e.participant
  unfolding mirrored_priced mirrored_market mirrored_quotes mirrored_amend
  mirror-participant = mirror-keeps (λ x. x.participant) e refl refl refl refl

  pub buy-participant : (s : Bool) → (buy_event s e).participant ≡ e.participant
  buy-participant s = buy-keeps (λ x. x.participant) s e mirror-participant

  pub buy-sequence : (s : Bool) → (buy_event s e).sequence ≡ e.sequence
  buy-sequence s = buy-keeps (λ x. x.sequence) s e mirror-sequence

  pub buy-kind : (s : Bool) → (buy_event s e).kind ≡ e.kind
  buy-kind s = buy-keeps (λ x. x.kind) s e mirror-kind

  -- a mirrored GTX response and a mirrored limit order keep their sizes
  pub mirror-one : e.kind ≡ 1 → mirrored_event e ≡ mirrored_priced e
  unfolding mirrored_event
  mirror-one h = simp (eq-eqb _ _ h)

  pub mirror-three : e.kind ≡ 3 → mirrored_event e ≡ mirrored_priced e
  unfolding mirrored_event
  mirror-three h = let n : e.kind ≡ 1 → ⊥ = λ z. no-three (sym h ∙ z) in simp (ne_eqb _ _ n, eq-eqb _ _ h)
    where
      no-three : ◌≡◌ {A = ℕ} 3 1 → ⊥
      no-three z = omega arith

  pub priced-size : (s : Bool) → mirrored_event e ≡ mirrored_priced e → (buy_event s e).f12 ≡ e.f12
  unfolding mirrored_priced
  priced-size s h = buy-keeps (λ x. x.f12) s e (ap (λ (x : Event). x.f12) h)

  pub mirror-four : e.kind ≡ 4 → mirrored_event e ≡ mirrored_market e
  unfolding mirrored_event
  mirror-four h = simp (ne_eqb e.kind 1 (λ z. omega arith), ne_eqb e.kind 3 (λ z. omega arith), eq-eqb _ _ h)

  pub mirror-five : e.kind ≡ 5 → mirrored_event e ≡ mirrored_quotes e
  unfolding mirrored_event
  mirror-five h = simp (ne_eqb e.kind 1 (λ z. omega arith), ne_eqb e.kind 3 (λ z. omega arith), ne_eqb e.kind 4 (λ z. omega arith), eq-eqb _ _ h)

  pub mirror-six : e.kind ≡ 6 → mirrored_event e ≡ mirrored_amend e
  unfolding mirrored_event
  mirror-six h = simp (ne_eqb e.kind 1 (λ z. omega arith), ne_eqb e.kind 3 (λ z. omega arith), ne_eqb e.kind 4 (λ z. omega arith), ne_eqb e.kind 5 (λ z. omega arith), eq-eqb _ _ h)

  -- a mirrored amend keeps its new size
  pub amend-size : (s : Bool) → e.kind ≡ 6 → (buy_event s e).f16 ≡ e.f16
  unfolding mirrored_amend
  amend-size s h = buy-keeps (λ x. x.f16) s e (ap (λ (x : Event). x.f16) (mirror-six h))

  pub mirror-rest : eqb e.kind 1 ≡ false → eqb e.kind 3 ≡ false → eqb e.kind 4 ≡ false → eqb e.kind 5 ≡ false → eqb e.kind 6 ≡ false → mirrored_event e ≡ e
  unfolding mirrored_event
  mirror-rest a b c d g = simp (a, b, c, d, g)

-- what holds of each kind's mirror holds of the mirror
pub mirror-by : (P : Event → Type 0) (e : Event) → (e.kind ≡ 1 → P (mirrored_priced e)) → (e.kind ≡ 3 → P (mirrored_priced e)) → (e.kind ≡ 4 → P (mirrored_market e)) → (e.kind ≡ 5 → P (mirrored_quotes e)) → (e.kind ≡ 6 → P (mirrored_amend e))
    → (eqb e.kind 1 ≡ false → eqb e.kind 3 ≡ false → eqb e.kind 4 ≡ false → eqb e.kind 5 ≡ false → eqb e.kind 6 ≡ false → P e) → P (mirrored_event e)
unfolding mirrored_event
mirror-by P e p1 p3 p4 p5 p6 p =
    by P (eqb e.kind 1) _ _ (λ z. p1 (eqb-true _ _ z)) (λ a.
    by P (eqb e.kind 3) _ _ (λ z. p3 (eqb-true _ _ z)) (λ b.
    by P (eqb e.kind 4) _ _ (λ z. p4 (eqb-true _ _ z)) (λ c.
    by P (eqb e.kind 5) _ _ (λ z. p5 (eqb-true _ _ z)) (λ d.
    by P (eqb e.kind 6) _ _ (λ z. p6 (eqb-true _ _ z)) (λ g. p a b c d g)))))

-- a cancel and an amend keep the name that they have
pub mirror-name : (e : Event) → (e.kind ≡ 2) ⊎ (e.kind ≡ 6) → name_of (mirrored_event e) ≡ name_of e
unfolding mirrored_priced mirrored_market mirrored_amend
mirror-name e k = mirror-by (λ x. name_of x ≡ name_of e) e (λ _. refl) (λ _. refl) (λ _. refl) (λ z. absurd (no-quotes k z)) (λ _. refl) (λ _ _ _ _ _. refl)
  where
    no-quotes : (e.kind ≡ 2) ⊎ (e.kind ≡ 6) → e.kind ≡ 5 → ⊥
    no-quotes (inl k) z = omega arith
    no-quotes (inr k) z = omega arith
