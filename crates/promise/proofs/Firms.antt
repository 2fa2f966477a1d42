-- Which firm stands behind a live response. Assumes nothing.
use mathlib.Core.Path.{◌≡◌, refl, sym, ap, subst, ◌∙◌}
use mathlib.Core.Bool.{Bool, true}
use mathlib.Core.List.{List, [], ◌∷◌, map}
use mathlib.Core.Logic.{⊎_elim, inl, inr}
use Prim.Native.Nat.{ℕ, ◌≤◌, ◌<◌}
use native.Mathlib.Omega.{arith}
use lib.Dec.{eqb}
use borrow.Author.Tests.{lt-ltb, le-ltb, eq-eqb, ne_eqb}
use Rattle.std.specs.Option.{option_to_list}
use Rattle.std.specs.Prelude.{None, Some}
use Rattle.base.specs.Lists.{In, Every, keep, filter}
use Rattle.base.proofs.ListLaws.{every_in, every-with}
use Rattle.base.proofs.Numbers.{le-or-lt, eq-or}
use Rattle.board.specs.declared.Response.{Response}
use Rattle.board.specs.rules.Board.{no_response, response_at, live_of, find_named, in_sequence}
use Rattle.board.specs.promises.Board.{NamedAt}
use Rattle.board.proofs.Theorems.{ordering}
use Rattle.board.proofs.LiveLaws.{live-every}
use Rattle.board.proofs.BoardLaws.{find-named, named-found, no-named}
use Rattle.tape.specs.declared.order.Order.{Order}
use Rattle.tape.specs.declared.event.Event.{Event}
use Rattle.demand.specs.promises.Demands.{Absent, Distinct}
use Rattle.auction.specs.declared.Auction.{Auction}
use Rattle.auction.specs.rules.Accept.{auction_of, Accepts}
use Rattle.auction.specs.rules.Firm.{participant_of}
use Rattle.run.specs.promises.Demands.{Sound}
use Rattle.run.proofs.SoundLaws.{sound-opened, sound-run}
use Rattle.run.proofs.Amends.{live_at}
use Rattle.promise.specs.rules.Sides.{sent, responses, at_end}
use Rattle.promise.specs.promises.Parts.{Sends, places, amends, auction_after, Told, Firms}
use Rattle.promise.proofs.RealLaws.{in-sent, sound}
use Rattle.promise.proofs.Standing.{by-records, stand}
use Rattle.promise.proofs.Counted.{distinct-sent}

-- the record that sent a response
of-record : {o : Order} {es : List Event} {e : Event} {r : Response} → Sends o es e r → r.participant ≡ e.participant
of-record (places e i k) = refl
of-record (amends e g old i k s gtx n b) = refl

-- of responses whose sequences are apart, one of a sequence is the only one
same_name : (rs : List Response) (x y : Response) → Distinct rs → In x rs → In y rs → x.sequence ≡ y.sequence → x ≡ y
same_name [] x y d i j e = absurd i
same_name (r ∷ rs) x y d (inl p) (inl q) e = p ∙ sym q
same_name (r ∷ rs) x y d (inl p) (inr j) e = absurd (every_in (λ z. z.sequence ≡ r.sequence → ⊥) rs y d.0 j (sym e ∙ ap (λ (z : Response). z.sequence) p))
same_name (r ∷ rs) x y d (inr i) (inl q) e = absurd (every_in (λ z. z.sequence ≡ r.sequence → ⊥) rs x d.0 i (e ∙ ap (λ (z : Response). z.sequence) q))
same_name (r ∷ rs) x y d (inr i) (inr j) e = same_name rs x y d.1 i j e

module _ (a : Auction) (s : Sound a) where
  -- a live response is found by its sequence
  found : (r : Response) → In r (live_of a.board) → participant_of a r.sequence ≡ Some r.participant
  unfolding participant_of
  found r i = ⊎_elim absent there (le-or-lt 64 j)
    where
      j : ℕ
      j = find_named true a.board r.sequence

      absent : 64 ≤ j → participant_of a r.sequence ≡ Some r.participant
      absent h = absurd (every_in (λ x. x.sequence ≡ r.sequence → ⊥) (live_of a.board) r others i refl)
        where
          others : Every (λ x. x.sequence ≡ r.sequence → ⊥) (live_of a.board)
          others = live-every (λ x. x.sequence ≡ r.sequence → ⊥) a.board.live a.board.places no_response (λ k l t e. omega (arith, h, s.board.places-are, named-found true a.board r.sequence s.board k (record { live = t; gtx = refl; sequence = e })))

      there : j < 64 → participant_of a r.sequence ≡ Some r.participant
      there h =
          let at : NamedAt true a.board r.sequence j = find-named true a.board r.sequence s.board h in
          let x : Response = response_at a.board.places j in
          let here : In x (live_of a.board) = live_at (λ y. In y (live_of a.board)) a.board j s.board at.live (every-with (λ y. In y (live_of a.board)) (live_of a.board) (λ y k. k)) in
          let same : x ≡ r = same_name (live_of a.board) x r s.distinct here i at.sequence in
          simp (lt-ltb j 64 h) (ap (λ (y : Response). Some y.participant) same)

  -- and no other sequence is
  unfound : (k : ℕ) → Absent k (live_of a.board) → participant_of a k ≡ None
  unfolding participant_of
  unfound k g =
      let none : find_named true a.board k ≡ 64 = no-named true a.board k s.board (λ i at. live_at (λ r. r.sequence ≡ k → ⊥) a.board i s.board at.live g at.sequence) in
      simp (le-ltb (find_named true a.board k) 64 (omega (arith, none)))

  absent-sent : (k : ℕ) (sell : Bool) (rs : List Response) → Absent k (map (sent sell) rs) → Absent k rs
  absent-sent k sell [] g = tt
  absent-sent k sell (r ∷ rs) g = (g.0, absent-sent k sell rs g.1)

  told : Told a
  told =
      record {
        answers = λ r i. let x = in-sent a.head.terms.sell (live_of a.board) r i in
            ap (λ (y : Response). participant_of a y.sequence) x.is ∙ found x.response x.live ∙ ap (λ (y : Response). Some y.participant) (sym x.is);
        nobody = λ k g. unfound k (absent-sent k a.head.terms.sell (live_of a.board) g);
      }

-- of responses whose sequences are apart, those with one sequence are one, or none
data OneOrNone (k : ℕ) (rs : List Response) : Type 0 where
  one : (r : Response) → In r rs → r.sequence ≡ k → filter (λ x. eqb x.sequence k) rs ≡ r ∷ [] → OneOrNone k rs
  none : Absent k rs → filter (λ x. eqb x.sequence k) rs ≡ [] → OneOrNone k rs

none_left : (k : ℕ) (rs : List Response) → Absent k rs → filter (λ x. eqb x.sequence k) rs ≡ []
unfolding filter
none_left k [] g = refl
none_left k (r ∷ rs) g = ap (λ (b : Bool). keep b r (filter (λ x. eqb x.sequence k) rs)) (ne_eqb r.sequence k g.0) ∙ none_left k rs g.1

one-or-none : (k : ℕ) (rs : List Response) → Distinct rs → OneOrNone k rs
unfolding filter
one-or-none k [] d = none tt refl
one-or-none k (r ∷ rs) d = let rest = one-or-none k rs d.1 in ⊎_elim here (λ n. there n rest) (eq-or r.sequence k)
  where
    here : r.sequence ≡ k → OneOrNone k (r ∷ rs)
    here e =
        one r (inl refl) e
        (ap (λ (b : Bool). keep b r (filter (λ x. eqb x.sequence k) rs)) (eq-eqb r.sequence k e) ∙ ap (λ (xs : List Response). r ∷ xs) (none_left k rs (subst (λ (n : ℕ). Absent n rs) e d.0)))

    pass : (r.sequence ≡ k → ⊥) → filter (λ x. eqb x.sequence k) (r ∷ rs) ≡ filter (λ x. eqb x.sequence k) rs
    pass n = ap (λ (b : Bool). keep b r (filter (λ x. eqb x.sequence k) rs)) (ne_eqb r.sequence k n)

    there : (r.sequence ≡ k → ⊥) → OneOrNone k rs → OneOrNone k (r ∷ rs)
    there n (one x i e f) = one x (inr i) e (pass n ∙ f)
    there n (none g f) = none (n, g) (pass n ∙ f)

by-responses : (a : Auction) (k : ℕ) → Told a → Distinct (responses a) → option_to_list (participant_of a k) ≡ map (λ r. r.participant) (filter (λ r. eqb r.sequence k) (responses a))
by-responses a k t d = go (one-or-none k (responses a) d)
  where
    go : OneOrNone k (responses a) → option_to_list (participant_of a k) ≡ map (λ r. r.participant) (filter (λ r. eqb r.sequence k) (responses a))
    go (one r i e f) = ap (λ (n : ℕ). option_to_list (participant_of a n)) (sym e) ∙ ap option_to_list (t.answers r i) ∙ sym (ap (map (λ r. r.participant)) f)
    go (none g f) = ap option_to_list (t.nobody k g) ∙ sym (ap (map (λ r. r.participant)) f)

-- by sequence they are those that the records leave standing, and the order is of no matter
by-standing : (a : Auction) (k : ℕ) (rs : List Response) → Sound a → in_sequence (responses a) ≡ rs → option_to_list (participant_of a k) ≡ map (λ r. r.participant) (filter (λ r. eqb r.sequence k) rs)
by-standing a k rs s e =
    by-responses a k (told a s) (distinct-sent a.head.terms.sell (live_of a.board) s.distinct)
    ∙ ap (map (λ r. r.participant)) (sym (ordering.stable k (responses a)) ∙ ap (filter (λ r. eqb r.sequence k)) e)

pub firms : (o : Order) → Firms o
firms o =
    record {
      of-record = λ es e r. of-record;
      told = λ es h. told (auction_after o es) (after es h);
      told-end = λ es h. told (at_end o es) (sound o es h);
      by-records = λ es k h. by-standing (auction_after o es) k _ (after es h) (by-records o es h);
      by-records-end = λ es k h. by-standing (at_end o es) k _ (sound o es h) (stand o es h);
    }
  where
    after : (es : List Event) → Accepts o → Sound (auction_after o es)
    after es h = sound-run es (auction_of o) (sound-opened o h)
