-- Every tape is answered, whatever room is lent for it, and by which numbers. Assumes nothing.
use mathlib.Core.Path.{subst, ◌≡◌, refl, sym, ap, ◌∙◌}
use mathlib.Core.Bool.{Bool, true, false, cond, not, ◌&&◌, ◌||◌}
use mathlib.Core.List.{List, [], ◌∷◌, ◌++◌}
use mathlib.Core.Logic.{◌⊎◌, inl, inr, ⊎_elim}
use Prim.Native.Nat.{ℕ, zero, suc, ◌+◌, ◌-◌, ◌≤◌, ◌<◌}
use Prim.Native.String.{String}
use native.Mathlib.Omega.{arith}
use lib.Dec.{leb, ltb, eqb}
use lib.ListN.{length, drop, length-drop}
use borrow.Author.Tests.{lt-ltb, le-ltb, ltb-false, le-leb, lt-leb, leb-true}
use Rattle.std.specs.Prelude.{IfErr, Result, Ok, Err, ⊤}
use Rattle.base.specs.Lists.{In, Every, keep}
use Rattle.base.specs.Refusal.{number_of}
use Rattle.base.specs.declared.refusal.Refusal.{Refusal}
use Rattle.base.specs.declared.refusal.Refusal.TheVariants.{OrderOutOfForm, TapeLength, TrailerOutOfForm, LengthsDisagree, RoomTooShort, EventOutOfForm}
use Rattle.base.proofs.Bools.{by, no as never, and_both, and_right, or_left}
use Rattle.base.proofs.Numbers.{eq-or}
use Rattle.words.specs.rules.Bytes.{word_at}
use Rattle.tape.specs.declared.order.Order.{Order}
use Rattle.tape.specs.declared.event.Event.{Event}
use Rattle.tape.specs.declared.trailer.Trailer.{Trailer}
use Rattle.tape.specs.rules.Form.{order_formed, event_formed}
use Rattle.tape.specs.rules.Records.{cubt, cub2, order_words, order_of, order_spare, read_order, order_answer, width_of, event_of, event_spare, read_event, event_held, event_answer, trailer_words, trailer_of, read_trailer, trailer_answer}
use Rattle.tape.proofs.RecordLaws.{words_long}
use Rattle.tape.specs.rules.Tape.{length_of, opened_with, last_trailer, open_tape, order_in, records_of}
use Rattle.tape.proofs.HoldsLaws.{holds}
use Rattle.mirror.specs.rules.Mirror.{buy_order}
use Rattle.trade.specs.rules.Trade.{offers, fills}
use Rattle.trade.specs.rules.Write.{roomy, fills_of, fill_answer, fill_words}
use Rattle.trade.proofs.LevelLaws.{reported-length}
use Rattle.demand.proofs.Theorems.{few}
use Rattle.auction.specs.declared.Auction.{Auction}
use Rattle.auction.specs.declared.Ending.{Ending}
use Rattle.auction.specs.declared.Ending.TheVariants.{Open, Time, Same, Opposite, Improve}
use Rattle.auction.specs.rules.Accept.{buy_refusal, auction_of, accept_of}
use Rattle.auction.proofs.Accepted.{accepts, opened, range-by, refusal-by, formed-refusal, refusal_is}
use Rattle.events.specs.declared.Answer.{Answer}
use Rattle.events.specs.declared.Answer.TheVariants.{Taken, Ended, Late, Refused}
use Rattle.events.specs.rules.Step.{sight_of, step_of}
use Rattle.fills.specs.rules.Fills.{deal_of}
use Rattle.run.specs.rules.Run.{Run, refused, ended, run, closed, heard, run_entry, run_order, run_tape, run_of}
use Rattle.run.proofs.Resend.{keeps}
use Rattle.listing.specs.rules.Text.{text}
use Rattle.listing.specs.rules.Listing.{field, answer_text, end_text, end_lines, lines_of, listing_of, room_of, listed_of, length_in, answer_of}
use Rattle.listing.specs.declared.Listed.{Listed}
use Rattle.listing.proofs.Theorems.{length-answer, demands}
use Rattle.promise.specs.rules.Answers.{no, yes, paper_of, answer_is, ending_is, run_is, listed_is}
use Rattle.promise.specs.rules.Tapes.{Carries, end_in, end_of, is_refused, not_refused}
use Rattle.promise.proofs.Carried.{tape-at, order-at, carry}
use Rattle.promise.specs.promises.Parts.{Answered, Roomed, Filling, Numbered, EventNumber}
use Rattle.promise.specs.promises.Parts.Answered.{no-tape, no-order, not-accepted, auction}

-- ---- numbers one after the other

abbrev numbers : ℕ → ℕ → List ℕ
numbers low zero = []
numbers low (suc k) = low ∷ numbers (suc low) k

numbers-in : (n low k : ℕ) → low ≤ n → n < low + k → In n (numbers low k)
numbers-in n low zero h l = absurd (omega arith)
numbers-in n low (suc k) h l = ⊎_elim (λ e. inl e) (λ d. inr (numbers-in n (suc low) k (omega (arith, d)) (omega (arith, d)))) (eq-or n low)

-- ---- a tape

-- the trailer of a tape of 16 bytes or more is read, or out of form
trailer-refused : (s : List ℕ) (q : Refusal) → 16 ≤ length s → read_trailer s ≡ Err q → q ≡ TrailerOutOfForm
unfolding read_trailer
trailer-refused s q h =
    rw (le-ltb (length s) 16 h) (by (λ (r : Result Trailer Refusal). r ≡ Err q → q ≡ TrailerOutOfForm) ((eqb (word_at s 0) cubt || eqb (word_at s 0) cub2) && eqb (word_at s 12) 0) (Ok (trailer_of s)) (Err TrailerOutOfForm) (λ _ z. cc) (λ _ z. cc))

-- 21, 22 or 23
tape-number : (s : List ℕ) (q : Refusal) → open_tape s ≡ Err q → In (number_of q) (21 ∷ 22 ∷ 23 ∷ [])
unfolding open_tape last_trailer
tape-number s q =
    by (λ (r : Result Trailer Refusal). opened_with (length s) r ≡ Err q → In (number_of q) (21 ∷ 22 ∷ 23 ∷ [])) (ltb (length s) 16 || ltb 65536 (length s)) (Err TapeLength) (read_trailer (drop (length s - 16) s))
    (λ _ z. let e : q ≡ TapeLength = cc in inl (ap number_of e))
    (λ h. go (read_trailer (drop (length s - 16) s)) refl (ltb-false (length s) 16 (or_left (ltb (length s) 16) (ltb 65536 (length s)) h)))
  where
    go : (r : Result Trailer Refusal) → read_trailer (drop (length s - 16) s) ≡ r → 16 ≤ length s → opened_with (length s) r ≡ Err q → In (number_of q) (21 ∷ 22 ∷ 23 ∷ [])
    go (Err k) e l = λ z.
        let same : k ≡ q = cc in
        let m : 16 ≤ length (drop (length s - 16) s) = omega (arith, length-drop (length s - 16) s) in
        inr (inl (ap number_of (sym same ∙ trailer-refused (drop (length s - 16) s) k m e)))
    go (Ok t) e l =
        by (λ (p : Result Trailer Refusal). p ≡ Err q → In (number_of q) (21 ∷ 22 ∷ 23 ∷ [])) (eqb (length_of t) (length s)) (Ok t) (Err LengthsDisagree) (λ _ z. cc) (λ _ z. let e : q ≡ LengthsDisagree = cc in inr (inr (inl (ap number_of e))))

-- the order of a tape that opens is read where it is in form, and else it is out of form
read-order : (s : List ℕ) → 64 ≤ length s → (r : Result Order Refusal) → read_order s ≡ r → (r ≡ Err OrderOutOfForm) ⊎ ((r ≡ Ok (order_of s)) × (order_formed (order_of s) ≡ true))
unfolding read_order
read-order s h r =
    rw (le-ltb (length s) 64 h)
    (by (λ (x : Result Order Refusal). x ≡ r → (r ≡ Err OrderOutOfForm) ⊎ ((r ≡ Ok (order_of s)) × (order_formed (order_of s) ≡ true))) (order_spare s && order_formed (order_of s)) (Ok (order_of s)) (Err OrderOutOfForm)
    (λ f z. inr (sym z, and_right (order_spare s) (order_formed (order_of s)) f))
    (λ _ z. inl (sym z)))

order-read : (s : List ℕ) (t : Trailer) → open_tape s ≡ Ok t → (r : Result Order Refusal) → order_in s t ≡ r → (r ≡ Err OrderOutOfForm) ⊎ ((r ≡ Ok (order_of (drop t.order s))) × (order_formed (order_of (drop t.order s)) ≡ true))
unfolding order_in
order-read s t h r = read-order (drop t.order s) (omega (arith, length-drop t.order s, (holds s t h).order)) r

-- a buy in form is not refused by 1
abbrev Not1 : Result (Unit {0}) Refusal → Type 0
Not1 x = IfErr x (λ r. 1 < number_of r)

buy-not : (b : Order) → Not1 (buy_refusal b)
buy-not b =
    refusal-by b Not1 (λ r l _. omega (arith, l))
    (λ _. range-by b Not1 (λ _. omega arith) (λ _ _. omega arith) (λ _. omega arith) (λ _. omega arith) (λ _ _. tt))

formed-not : (o : Order) (r : Refusal) → order_formed o ≡ true → accept_of o ≡ Err r → 1 < number_of r
formed-not o r f h = subst Not1 (sym (formed-refusal o f) ∙ refusal_is o r h) (buy-not (buy_order o))

order-number : (o : Order) (r : Refusal) → order_formed o ≡ true → accept_of o ≡ Err r → In (number_of r) (2 ∷ 3 ∷ 4 ∷ 5 ∷ 6 ∷ 7 ∷ 8 ∷ 9 ∷ 10 ∷ 11 ∷ 12 ∷ 13 ∷ [])
order-number o r f h = numbers-in (number_of r) 2 12 (omega (arith, formed-not o r f h)) (omega (arith, (keeps.order-numbers o r h).1))

-- ---- its run

opened-run : (s : List ℕ) (p : Result Trailer Refusal) → open_tape s ≡ p → run_of s ≡ run_tape s p
unfolding run_of
opened-run s p e = ap (run_tape s) e

ordered-run : (s : List ℕ) (t : Trailer) (r : Result Order Refusal) → open_tape s ≡ Ok t → order_in s t ≡ r → run_of s ≡ run_order (records_of s t) r
ordered-run s t r h e = opened-run s (Ok t) h ∙ ap (run_order (records_of s t)) e

pub run-carries : (s : List ℕ) (o : Order) (es : List Event) → Carries s o es → run_of s ≡ run_entry es (accept_of o)
run-carries s o es c = ordered-run s c.trailer (Ok o) (tape-at c) (order-at c) ∙ ap (λ (fs : List Event). run_entry fs (accept_of o)) c.records

lines-run : (s : List ℕ) → listing_of s ≡ lines_of (run_of s)
unfolding listing_of
lines-run s = refl

pub answered : (s : List ℕ) → Answered s
answered s = open_by (open_tape s) refl
  where
    entry-by : (t : Trailer) (o : Order) → open_tape s ≡ Ok t → order_in s t ≡ Ok o → order_formed o ≡ true → (x : Result Auction Refusal) → accept_of o ≡ x → Answered s
    entry-by t o h e f (Ok a) z =
        let c : Carries s o (records_of s t) = carry s o (records_of s t) t h e refl in
        auction o (records_of s t) c (accepts o z) (lines-run s ∙ ap lines_of (run-carries s o (records_of s t) c ∙ ap (run_entry (records_of s t)) (accepts o z)))
    entry-by t o h e f (Err r) z =
        let c : Carries s o (records_of s t) = carry s o (records_of s t) t h e refl in
        not-accepted o (records_of s t) (number_of r) c (ap paper_of z) (order-number o r f z) (lines-run s ∙ ap lines_of (run-carries s o (records_of s t) c ∙ ap (run_entry (records_of s t)) z))

    order-by : (t : Trailer) → open_tape s ≡ Ok t → (r : Result Order Refusal) → order_in s t ≡ r → (r ≡ Err OrderOutOfForm) ⊎ ((r ≡ Ok (order_of (drop t.order s))) × (order_formed (order_of (drop t.order s)) ≡ true)) → Answered s
    order-by t h r e (inl z) = no-order t (ap paper_of h) (ap paper_of (e ∙ z)) (lines-run s ∙ ap lines_of (ordered-run s t (Err OrderOutOfForm) h (e ∙ z)))
    order-by t h r e (inr (z, f)) = entry-by t (order_of (drop t.order s)) h (e ∙ z) f (accept_of (order_of (drop t.order s))) refl

    open_by : (p : Result Trailer Refusal) → open_tape s ≡ p → Answered s
    open_by (Err r) e = no-tape (number_of r) (ap paper_of e) (tape-number s r e) (lines-run s ∙ ap lines_of (opened-run s (Err r) e))
    open_by (Ok t) e = order-by t e (order_in s t) refl (order-read s t e (order_in s t) refl)

-- ---- the room

is-run : (n : ℕ) (u : Run) → listed_is (answer_of n u) ≡ run_is u
is-run n (refused r) = refl
is-run n (ended first said last) = refl

pub roomed : (s out : List ℕ) → Roomed s out
unfolding listed_of
roomed s out =
    record {
      small = λ h. (listed_by true (lt-ltb (length out) room_of h), length-by true (lt-ltb (length out) room_of h), demands.kept s out h);
      answers = λ h. (
        listed_by false (le-ltb (length out) room_of h) ∙ is-run (length (listing_of s)) (run_of s),
        length-by false (le-ltb (length out) room_of h) ∙ length-answer (length (listing_of s)) (run_of s),
      );
      stands = demands.stands s out;
      fits = demands.fits s;
    }
  where
    listed : Bool → Listed
    listed b = cond b (record { outcome = Err RoomTooShort; length = 0 }) (answer_of (length (listing_of s)) (run_of s))

    listed_by : (b : Bool) → ltb (length out) room_of ≡ b → listed_is (listed (ltb (length out) room_of)) ≡ listed_is (listed b)
    listed_by b z = ap (λ (t : Bool). listed_is (listed t)) z

    length-by : (b : Bool) → ltb (length out) room_of ≡ b → length_in (listed (ltb (length out) room_of)) ≡ length_in (listed b)
    length-by b z = ap (λ (t : Bool). length_in (listed t)) z

-- ---- the fills

not-roomy : (xs : List ℕ) (start : ℕ) → length xs < start + 390 → roomy xs start ≡ false
unfolding roomy
not-roomy xs start h = go (leb start (length xs)) refl
  where
    go : (b : Bool) → leb start (length xs) ≡ b → (b && leb 390 (length xs - start)) ≡ false
    go true z = let k : start ≤ length xs = leb-true _ _ z in lt-leb 390 (length xs - start) (omega (arith, k))
    go false z = refl

is-roomy : (xs : List ℕ) (start : ℕ) → start + 390 ≤ length xs → roomy xs start ≡ true
unfolding roomy
is-roomy xs start h = and_both (le-leb start (length xs) (omega arith)) (le-leb 390 (length xs - start) (omega arith))

pub filling : (a : Auction) (xs : List ℕ) (start : ℕ) → Filling a xs start
unfolding fill_answer fill_words fills_of
filling a xs start =
    record {
      early = λ z. rw z (refl, refl);
      small = λ z h. rw (z, not-roomy xs start h) (refl, refl);
      counted = λ z h. rw (z, is-roomy xs start h) (refl, refl);
      room = λ g. omega (arith, reported-length (deal_of a.head).sell (fills (deal_of a.head) (offers a.board)), few (deal_of a.head) a.board g);
    }

-- ---- the numbers of readers and writers, and the words of the lines

pub numbered : Numbered
unfolding read_order read_event read_trailer order_answer event_held event_answer trailer_answer order_words trailer_words answer_text end_text
numbered =
    record {
      reads-order = λ s. read-by _ _ (ltb (length s) 64) (order_spare s && order_formed (order_of s)) (order_of s);
      reads-event = λ wide s. read-by _ _ (ltb (length s) (width_of wide)) (event_spare wide s && event_formed (event_of wide s)) (event_of wide s);
      reads-trailer = λ s. read-by _ _ (ltb (length s) 16) ((eqb (word_at s 0) cubt || eqb (word_at s 0) cub2) && eqb (word_at s 12) 0) (trailer_of s);
      writes-order = λ o out. written-by tt (order_formed o) (ltb (length out) 64) OrderOutOfForm;
      writes-event = λ wide e out. rw (words_long wide e) (written-by tt (event_held wide e) (ltb (length out) (width_of wide)) EventOutOfForm);
      writes-trailer = λ t out. written-by tt true (ltb (length out) 16) RoomTooShort;
      event-words = said-by;
      event-number = number_by;
      end-words = end_by;
    }
  where
    read-by : {A : Type 0} (short formless : Refusal) (a b : Bool) (x : A) → paper_of (cond a (Err short) (cond b (Ok x) (Err formless))) ≡ cond a (no (number_of short)) (cond b (yes x) (no (number_of formless)))
    read-by short formless true b x = refl
    read-by short formless false true x = refl
    read-by short formless false false x = refl

    written-by : (done : ⊤) (formed short : Bool) (r : Refusal) → paper_of (cond formed (cond short (Err RoomTooShort) (Ok done)) (Err r)) ≡ cond formed (cond short (no 24) (yes done)) (no (number_of r))
    written-by done true true r = refl
    written-by done true false r = refl
    written-by done false short r = refl

    said-by : (a : Answer) (w : String) → answer_is a ≡ yes w → answer_text a ≡ text " " ++ text w
    said-by Taken w z = let q : w ≡ "taken" = cc in ap (λ (v : String). text " " ++ text v) (sym q)
    said-by Ended w z = let q : w ≡ "ended" = cc in ap (λ (v : String). text " " ++ text v) (sym q)
    said-by Late w z = let q : w ≡ "late" = cc in ap (λ (v : String). text " " ++ text v) (sym q)
    said-by (Refused r) w z = cc

    number_by : (a : Answer) (n : ℕ) → answer_is a ≡ no n → answer_text a ≡ field " refused " n
    number_by Taken n z = cc
    number_by Ended n z = cc
    number_by Late n z = cc
    number_by (Refused r) n z = let q : number_of r ≡ n = cc in ap (λ (m : ℕ). field " refused " m) q

    end_by : (g : Ending) → end_text g ≡ text "END " ++ text (ending_is g)
    end_by Open = refl
    end_by Time = refl
    end_by Same = refl
    end_by Opposite = refl
    end_by Improve = refl

-- ---- events

-- an answer with a number is a refusal with that number
record RefusedBy (n : ℕ) (x : Answer) : Type 0 where
  refusal : Refusal
  number : number_of refusal ≡ n
  same : x ≡ Refused refusal

answer-number : (x : Answer) (n : ℕ) → answer_is x ≡ no n → RefusedBy n x
answer-number Taken n z = cc
answer-number Ended n z = cc
answer-number Late n z = cc
answer-number (Refused r) n z = record { refusal = r; number = cc; same = refl }

pub event-numbers : (a : Auction) (es : List Event) → Every EventNumber (heard a es)
event-numbers a [] = tt
event-numbers a (e ∷ es) = (
  λ n z.
      let k = answer-number (step_of a e).answer n z in
      let b = keeps.event-numbers (sight_of a.board e) a e k.refusal k.same in
      numbers-in n 31 8 (omega (arith, b.0, k.number)) (omega (arith, b.1, k.number)),
  event-numbers (step_of a e).auction es,
)

-- ---- a refusal changes nothing

pub refused-stays : (a : Auction) (e : Event) → is_refused (step_of a e).answer ≡ true → (step_of a e).auction ≡ a
refused-stays a e z = go (step_of a e).answer refl z
  where
    go : (x : Answer) → (step_of a e).answer ≡ x → is_refused x ≡ true → (step_of a e).auction ≡ a
    go Taken q r = never (sym r)
    go Ended q r = never (sym r)
    go Late q r = never (sym r)
    go (Refused x) q r = keeps.refused (sight_of a.board e) a e x q

pub without : (es : List Event) (a : Auction) → run a (not_refused a es) ≡ run a es
without [] a = refl
without (e ∷ es) a = go (is_refused (step_of a e).answer) refl (without es (step_of a e).auction)
  where
    b : Auction
    b = (step_of a e).auction

    go : (r : Bool) → is_refused (step_of a e).answer ≡ r → run b (not_refused b es) ≡ run b es → run a (keep (not r) e (not_refused b es)) ≡ run b es
    go true z ih = ap (λ (c : Auction). run c (not_refused b es)) (sym (refused-stays a e z)) ∙ ih
    go false z ih = ih

-- two tapes of one order, whose records make the same auction, end alike
pub ends-alike : (s t : List ℕ) (o : Order) (es fs : List Event) → Carries s o es → Carries t o fs → run (auction_of o) fs ≡ run (auction_of o) es → end_of t ≡ end_of s
ends-alike s t o es fs c d z = ap end_in (run-carries t o fs d) ∙ go (accept_of o) refl ∙ sym (ap end_in (run-carries s o es c))
  where
    go : (x : Result Auction Refusal) → accept_of o ≡ x → end_in (run_entry fs x) ≡ end_in (run_entry es x)
    go (Ok a) h = subst (λ (b : Auction). end_lines (closed (run b fs)) ≡ end_lines (closed (run b es))) (sym (opened o h).auction) (ap (λ (b : Auction). end_lines (closed b)) z)
    go (Err r) h = refl

pub none-refused : (s : List ℕ) (o : Order) (es : List Event) (r : Refusal) → Carries s o es → accept_of o ≡ Err r → end_of s ≡ []
none-refused s o es r c h = ap end_in (run-carries s o es c ∙ ap (run_entry es) h)

pub without-refused : (s t : List ℕ) (o : Order) (es : List Event) → Carries s o es → Carries t o (not_refused (auction_of o) es) → end_of t ≡ end_of s
without-refused s t o es c d = ends-alike s t o es (not_refused (auction_of o) es) c d (without es (auction_of o))
