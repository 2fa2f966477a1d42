-- Reading what was written gives the value back; writing what was read gives the bytes back. The substance is that of a row of words, of any length. Assumes nothing.
use mathlib.Core.Path.{◌≡◌, refl, ap, sym, ◌∙◌}
use mathlib.Core.Bool.{Bool, true, false, cond, ◌&&◌, ◌||◌, or-false}
use mathlib.Core.List.{List, [], ◌∷◌, ◌++◌}
use Prim.Native.Nat.{ℕ, zero, suc, ◌+◌, ◌*◌, ◌-◌, ◌≤◌, ◌<◌}
use native.Mathlib.Omega.{arith}
use lib.ListN.{length, get_or, take, drop, length-append, length-drop}
use lib.Seq.{take_at, drop_at, drop-drop, get_or-drop}
use lib.Dec.{ltb, eqb}
use borrow.Author.Tests.{le-ltb, ltb-false, leb-true, eqb-true}
use Rattle.std.specs.Prelude.{Ok, Err, ⊤}
use Rattle.base.specs.declared.refusal.Refusal.{Refusal}
use Rattle.base.specs.declared.refusal.Refusal.TheVariants.{OrderOutOfForm, RoomTooShort, EventOutOfForm}
use Rattle.words.specs.rules.Bytes.{AllBytes, joined, u32_bytes, word_bytes, word_at}
use Rattle.words.specs.inside.Row.{words_from}
use Rattle.words.proofs.ByteLaws.{Fit, bytes-joined, length-word_bytes, row-past, row_read, row_back, word_in, word-alone}
use Rattle.tape.specs.declared.order.Order.{Order}
use Rattle.tape.specs.declared.event.Event.{Event}
use Rattle.tape.specs.declared.trailer.Trailer.{Trailer}
use Rattle.tape.specs.rules.Form.{order_formed, shape_of, shape_tests, event_formed}
use Rattle.tape.specs.rules.Records.{with_record, wrote_bytes, order_words, order_of, order_spare, read_order, order_answer, order_wrote, width_of, new_word, event_words, event_of, event_spare, read_event, event_held, event_answer, event_wrote, cubt, cub2, first_word, trailer_words, trailer_of, read_trailer, trailer_answer, trailer_wrote}
use Rattle.roundtrip.specs.promises.Demands.{Word, ValuesBack, BytesBack, RefusalsKeep}
use Rattle.base.proofs.Bools.{and_left, and_right}
use Rattle.tape.proofs.FormLaws.{each, within-le, OrderBounds, order-bounds, row-bounds}
use Rattle.tape.proofs.RecordLaws.{width-ge, words_long}
use Rattle.tape.proofs.HoldsLaws.{took, event-took, held-formed, event-held}

-- ---- the words of what is in form fit 32 bits

four-fit : (a b c : ℕ) → a < 256 → b < 256 → c < 256 → Word (joined a b c 0)
four-fit a b c ha hb hc = omega arith

order-fit : (o : Order) → OrderBounds o → Fit (order_words o)
unfolding order_words
order-fit o b =
    (four-fit o.side o.mode o.marks (omega arith) (omega arith) (omega arith), (omega arith, (omega arith, (omega arith, (omega arith, (omega arith, (omega arith, (omega arith, (omega arith, (omega arith, (omega arith, (omega arith, (omega arith, (omega arith, (omega arith, (omega arith, tt))))))))))))))))

-- an event's, but for its sequence
event-fit : (wide : Bool) (e : Event) → Word e.participant → event_formed e ≡ true → Fit (drop 1 (event_words wide e)) × (e.kind < 256) × (e.marks < 256) × (e.side < 256)
unfolding event_formed shape_tests event_words
event-fit wide e p h =
    let s = shape_of e.kind in
    let b = row-bounds e.kind in
    let t : (i : ℕ) → get_or (shape_tests s e) i true ≡ true = each (shape_tests s e) true h in
    let time : e.time ≤ 86400000 = leb-true e.time 86400000 (t 0) in
    let kind : e.kind ≤ 255 = b.kind e.marks (t 1) in
    let marks : e.marks ≤ s.marks.high = within-le e.marks s.marks.low s.marks.high (t 1) in
    let side : e.side ≤ s.side.high = within-le e.side s.side.low s.side.high (t 3) in
    let f12 : e.f12 ≤ s.f12.high = within-le e.f12 s.f12.low s.f12.high (t 4) in
    let f16 : e.f16 ≤ s.f16.high = within-le e.f16 s.f16.low s.f16.high (t 5) in
    let f20 : e.f20 ≤ s.f20.high = within-le e.f20 s.f20.low s.f20.high (t 6) in
    let f24 : e.f24 ≤ s.f24.high = within-le e.f24 s.f24.low s.f24.high (t 7) in
    let words : Fit (drop 1 (event_words wide e)) = (omega arith, (four-fit e.kind e.marks e.side (omega arith) (omega arith) (omega arith), (omega arith, (omega arith, (omega arith, (omega arith, (omega arith, last wide))))))) in
    (words, omega arith, omega arith, omega arith)
  where
    last : (wide : Bool) → Fit (cond wide (e.participant ∷ 0 ∷ []) [])
    last true = (p, (omega arith, tt))
    last false = tt

-- ---- any record: a row of words `ws`

-- what a writer leaves where it takes the value
pub wrote-is : {formed : Bool} (ws out : List ℕ) → formed ≡ true → length ws * 4 ≤ length out → wrote_bytes formed ws out ≡ with_record ws out
wrote-is ws out e h = simp (e, le-ltb (length out) (length ws * 4) h)

-- a record that was written is as long as it was, or longer
record-long : (ws l : List ℕ) (n : ℕ) → length ws * 4 ≡ n → n ≤ length (word_bytes ws ++ l)
record-long ws l n e = omega (arith, length-append (word_bytes ws) l, length-word_bytes ws)

-- the bytes of n words that were read
record-back : (s : List ℕ) (n : ℕ) → AllBytes s → n * 4 ≤ length s → word_bytes (words_from s 0 n) ≡ take (n * 4) s
record-back s n b h =
    let z : n * 4 ≡ 0 + n * 4 = omega arith in
    let same : word_bytes (words_from s 0 n) ++ drop (n * 4) s ≡ s = ap (λ (k : ℕ). word_bytes (words_from s 0 n) ++ drop k s) z ∙ row_back s n 0 b (omega arith) in
    let long : length (word_bytes (words_from s 0 n)) ≡ n * 4 = length-word_bytes (words_from s 0 n) ∙ ap (λ (k : ℕ). k * 4) (count s n 0) in
    sym (take_at (word_bytes (words_from s 0 n)) (drop (n * 4) s) (n * 4) long) ∙ ap (take (n * 4)) same
  where
    count : (s : List ℕ) (n at : ℕ) → length (words_from s at n) ≡ n
    count s zero at = refl
    count s (suc n) at = ap suc (count s n (at + 4))

-- where a writer refuses, the bytes stay
refused-keeps : (done : ⊤) (a b : Bool) (r q : Refusal) (x y : List ℕ) → cond a (cond b (Err RoomTooShort) (Ok done)) (Err r) ≡ Err q → cond a (cond b x y) x ≡ x
refused-keeps done true true r q x y h = refl
refused-keeps done true false r q x y h = cc
refused-keeps done false b r q x y h = refl

pub refusals-keep : RefusalsKeep
unfolding order_answer order_wrote event_answer event_wrote trailer_answer trailer_wrote
refusals-keep =
    record {
      order = λ o out r h. refused-keeps tt (order_formed o) (ltb (length out) (length (order_words o) * 4)) OrderOutOfForm r out (with_record (order_words o) out) h;
      event = λ wide e out r h. refused-keeps tt (event_held wide e) (ltb (length out) (length (event_words wide e) * 4)) EventOutOfForm r out (with_record (event_words wide e) out) h;
      trailer = λ t out r h. refused-keeps tt true (ltb (length out) (length (trailer_words t) * 4)) RoomTooShort r out (with_record (trailer_words t) out) h;
    }

-- four bytes in front make a word, where the last is zero
four-word : (s : List ℕ) (at : ℕ) → at + 4 ≤ length s → get_or s (at + 3) 0 ≡ 0 → joined (get_or s at 0) (get_or s (at + 1) 0) (get_or s (at + 2) 0) 0 ≡ word_at s at
four-word s at h z = ap (λ (d : ℕ). joined (get_or s at 0) (get_or s (at + 1) 0) (get_or s (at + 2) 0) d) (sym z) ∙ sym (word_in s at h)

-- ---- the order

pub order-length : (o : Order) → length (order_words o) ≡ 16
unfolding order_words
order-length o = refl

-- an order from its words and its first bytes
order_from : (s : List ℕ) (o : Order) → get_or s 0 0 ≡ o.side → get_or s 1 0 ≡ o.mode → get_or s 2 0 ≡ o.marks → words_from s 0 16 ≡ order_words o → order_of s ≡ o
unfolding order_of order_words
order_from s o b0 b1 b2 w =
    let at : (k : ℕ) → get_or (words_from s 0 16) k 0 ≡ get_or (order_words o) k 0 = λ k. ap (λ (l : List ℕ). get_or l k 0) w in
    simp (b0, b1, b2, at 1, at 2, at 3, at 4, at 5, at 6, at 7, at 8, at 9, at 10, at 11, at 12, at 13)

-- the words of an order that stands in bytes whose spare ones are zero
order-words : (s : List ℕ) → 64 ≤ length s → order_spare s ≡ true → order_words (order_of s) ≡ words_from s 0 16
unfolding order_of order_words order_spare
order-words s h z =
    let z1 : (eqb (get_or s 3 0) 0 && eqb (word_at s 56) 0) ≡ true = and_left _ (eqb (word_at s 60) 0) z in
    let b3 : get_or s 3 0 ≡ 0 = eqb-true (get_or s 3 0) 0 (and_left _ (eqb (word_at s 56) 0) z1) in
    let w56 : word_at s 56 ≡ 0 = eqb-true (word_at s 56) 0 (and_right (eqb (get_or s 3 0) 0) _ z1) in
    let w60 : word_at s 60 ≡ 0 = eqb-true (word_at s 60) 0 (and_right (eqb (get_or s 3 0) 0 && eqb (word_at s 56) 0) _ z) in
    simp (four-word s 0 (omega arith) b3, w56, w60)

-- the first four bytes of an order that was written
order-front : (o : Order) (l : List ℕ) → OrderBounds o → word_bytes (order_words o) ++ l ≡ (o.side ∷ o.mode ∷ o.marks ∷ 0 ∷ []) ++ drop 4 (word_bytes (order_words o) ++ l)
unfolding order_words
order-front o l b = ap (λ (f : List ℕ). f ++ drop 4 (word_bytes (order_words o) ++ l)) (bytes-joined o.side o.mode o.marks 0 (omega arith) (omega arith) (omega arith) (omega arith))

order-spares : (s : List ℕ) (o : Order) → get_or s 3 0 ≡ 0 → words_from s 0 16 ≡ order_words o → order_spare s ≡ true
unfolding order_spare order_words
order-spares s o b3 w =
    let at : (k : ℕ) → get_or (words_from s 0 16) k 0 ≡ get_or (order_words o) k 0 = λ k. ap (λ (l : List ℕ). get_or l k 0) w in
    simp (b3, at 14, at 15)

-- an order that was written is read
pub order-written : (o : Order) (l : List ℕ) → order_formed o ≡ true → read_order (word_bytes (order_words o) ++ l) ≡ Ok o
unfolding read_order
order-written o l ok =
    let b : OrderBounds o = order-bounds o ok in
    let s : List ℕ = word_bytes (order_words o) ++ l in
    let w : words_from s 0 16 ≡ order_words o = ap (words_from s 0) (sym (order-length o)) ∙ row_read (order_words o) l (order-fit o b) in
    let f : s ≡ (o.side ∷ o.mode ∷ o.marks ∷ 0 ∷ []) ++ drop 4 s = order-front o l b in
    let back : order_of s ≡ o = order_from s o (ap (λ (x : List ℕ). get_or x 0 0) f) (ap (λ (x : List ℕ). get_or x 1 0) f) (ap (λ (x : List ℕ). get_or x 2 0) f) w in
    let spare : order_spare s ≡ true = order-spares s o (ap (λ (x : List ℕ). get_or x 3 0) f) w in
    let n : 64 ≤ length s = record-long (order_words o) l 64 (ap (λ (k : ℕ). k * 4) (order-length o)) in
    simp (le-ltb (length s) 64 n, spare, back, ok)

-- what an order that was read says of its bytes
order-tests : (s : List ℕ) (o : Order) → read_order s ≡ Ok o → (ltb (length s) 64 ≡ false) × ((order_spare s && order_formed (order_of s)) ≡ true) × (order_of s ≡ o)
unfolding read_order
order-tests s o h = took _ _ (ltb (length s) 64) (order_spare s && order_formed (order_of s)) (order_of s) o h

pub order-formed : (s : List ℕ) (o : Order) → read_order s ≡ Ok o → order_formed o ≡ true
order-formed s o h = let t = order-tests s o h in ap order_formed (sym t.2) ∙ and_right (order_spare s) (order_formed (order_of s)) t.1

pub order-read : (s : List ℕ) (o : Order) → AllBytes s → read_order s ≡ Ok o → word_bytes (order_words o) ≡ take 64 s
order-read s o b h =
    let t = order-tests s o h in
    let n : 64 ≤ length s = ltb-false (length s) 64 t.0 in
    ap (λ (x : Order). word_bytes (order_words x)) (sym t.2) ∙ ap word_bytes (order-words s n (and_left (order_spare s) (order_formed (order_of s)) t.1)) ∙ record-back s 16 b n

-- ---- the event, of either form

-- how many words its record has
abbrev words_in : Bool → ℕ
words_in wide = cond wide 10 8

event-length : (wide : Bool) (e : Event) → length (event_words wide e) ≡ words_in wide
unfolding event_words
event-length true e = refl
event-length false e = refl

event-width : (wide : Bool) → words_in wide * 4 ≡ width_of wide
unfolding width_of
event-width true = refl
event-width false = refl

module _ (s : List ℕ) (e : Event) where
  event-from : (wide : Bool) → get_or s 8 0 ≡ e.kind → get_or s 9 0 ≡ e.marks → get_or s 10 0 ≡ e.side → event_held wide e ≡ true → words_from s 0 (words_in wide) ≡ event_words wide e → event_of wide s ≡ e
  unfolding event_of event_words event_held
  event-from true b8 b9 b10 ok w =
      let at : (k : ℕ) → get_or (words_from s 0 10) k 0 ≡ get_or (event_words true e) k 0 = λ k. ap (λ (l : List ℕ). get_or l k 0) w in
      λ i. record { sequence = at 0 i; time = at 1 i; kind = b8 i; marks = b9 i; side = b10 i; f12 = at 3 i; f16 = at 4 i; f20 = at 5 i; f24 = at 6 i; participant = at 8 i }
  event-from false b8 b9 b10 ok w =
      let at : (k : ℕ) → get_or (words_from s 0 8) k 0 ≡ get_or (event_words false e) k 0 = λ k. ap (λ (l : List ℕ). get_or l k 0) w in
      let nobody : e.participant ≡ 0 = eqb-true e.participant 0 (and_right (event_formed e) _ ok) in
      λ i. record { sequence = at 0 i; time = at 1 i; kind = b8 i; marks = b9 i; side = b10 i; f12 = at 3 i; f16 = at 4 i; f20 = at 5 i; f24 = at 6 i; participant = sym nobody i }

  event-spares : (wide : Bool) → get_or s 11 0 ≡ 0 → words_from s 0 (words_in wide) ≡ event_words wide e → event_spare wide s ≡ true
  unfolding event_spare event_words
  event-spares true b11 w =
      let z : word_at s 28 ≡ 0 = ap (λ (l : List ℕ). get_or l 7 0) w in
      let y : word_at s 36 ≡ 0 = ap (λ (l : List ℕ). get_or l 9 0) w in
      simp (b11, z, y)
  event-spares false b11 w = let z : word_at s 28 ≡ 0 = ap (λ (l : List ℕ). get_or l 7 0) w in simp (b11, z)

  event-row : (wide : Bool) (n : ℕ) → words_in wide ≡ suc n → word_at s 0 ≡ e.sequence → words_from s 4 n ≡ drop 1 (event_words wide e) → words_from s 0 (words_in wide) ≡ event_words wide e
  unfolding event_words
  event-row wide n k q w = ap (words_from s 0) k ∙ ap (λ (x : ℕ). x ∷ words_from s 4 n) q ∙ ap (λ (r : List ℕ). e.sequence ∷ r) w

-- the words of an event that stands in bytes whose spare ones are zero
event-words : (wide : Bool) (s : List ℕ) → 12 ≤ length s → event_spare wide s ≡ true → event_words wide (event_of wide s) ≡ words_from s 0 (words_in wide)
unfolding event_of event_words event_spare
event-words wide s h z =
    let two = and_left (eqb (get_or s 11 0) 0 && eqb (word_at s 28) 0) _ z in
    let b11 : get_or s 11 0 ≡ 0 = eqb-true (get_or s 11 0) 0 (and_left _ (eqb (word_at s 28) 0) two) in
    let w28 : word_at s 28 ≡ 0 = eqb-true (word_at s 28) 0 (and_right (eqb (get_or s 11 0) 0) _ two) in
    let last : new_word wide s 36 ≡ 0 = eqb-true (new_word wide s 36) 0 (and_right (eqb (get_or s 11 0) 0 && eqb (word_at s 28) 0) _ z) in
    all wide (four-word s 8 h b11) w28 last
  where
    all : (wide : Bool) → joined (get_or s 8 0) (get_or s 9 0) (get_or s 10 0) 0 ≡ word_at s 8 → word_at s 28 ≡ 0 → new_word wide s 36 ≡ 0 → event_words wide (event_of wide s) ≡ words_from s 0 (words_in wide)
    all true w8 w28 w36 = simp (w8, w28, w36)
    all false w8 w28 _ = simp (w8, w28)

event-front : (wide : Bool) (e : Event) (l : List ℕ) → e.kind < 256 → e.marks < 256 → e.side < 256
    → drop 4 (word_bytes (drop 1 (event_words wide e)) ++ l) ≡ (e.kind ∷ e.marks ∷ e.side ∷ 0 ∷ []) ++ drop 8 (word_bytes (drop 1 (event_words wide e)) ++ l)
unfolding event_words
event-front wide e l hk hm hs = ap (λ (f : List ℕ). f ++ drop 8 (word_bytes (drop 1 (event_words wide e)) ++ l)) (bytes-joined e.kind e.marks e.side 0 hk hm hs (omega arith))

-- one word less than a record has
event-rest : (wide : Bool) → words_in wide ≡ suc (words_in wide - 1)
event-rest true = refl
event-rest false = refl

-- an event is read where four bytes that say its sequence stand before the words of its other fields
pub event-said : (wide : Bool) (e : Event) (said l : List ℕ) → length said ≡ 4 → word_at said 0 ≡ e.sequence → Word e.participant → event_held wide e ≡ true → read_event wide (said ++ (word_bytes (drop 1 (event_words wide e)) ++ l)) ≡ Ok e
unfolding read_event
event-said wide e said l n q p ok =
    let formed : event_formed e ≡ true = held-formed wide e ok in
    let b = event-fit wide e p formed in
    let ws : List ℕ = drop 1 (event_words wide e) in
    let x : List ℕ = word_bytes ws ++ l in
    let s : List ℕ = said ++ x in
    let rest : length ws ≡ words_in wide - 1 = omega (arith, length-drop 1 (event_words wide e), event-length wide e) in
    let later : words_from s 4 (words_in wide - 1) ≡ ws = row-past said x 4 (words_in wide - 1) 0 n ∙ ap (words_from x 0) (sym rest) ∙ row_read ws l b.0 in
    let w : words_from s 0 (words_in wide) ≡ event_words wide e = event-row s e wide (words_in wide - 1) (event-rest wide) (word-alone said x 0 (omega arith) ∙ q) later in
    let f : drop 8 s ≡ (e.kind ∷ e.marks ∷ e.side ∷ 0 ∷ []) ++ drop 8 x = sym (drop-drop 4 4 s) ∙ ap (drop 4) (drop_at said x 4 n) ∙ event-front wide e l b.1 b.2 b.3 in
    let g : (k : ℕ) → get_or s (8 + k) 0 ≡ get_or ((e.kind ∷ e.marks ∷ e.side ∷ 0 ∷ []) ++ drop 8 x) k 0 = λ k. sym (get_or-drop 8 s k 0) ∙ ap (λ (y : List ℕ). get_or y k 0) f in
    let back : event_of wide s ≡ e = event-from s e wide (g 0) (g 1) (g 2) ok w in
    let spare : event_spare wide s ≡ true = event-spares s e wide (g 3) w in
    let long : width_of wide ≤ length s = omega (arith, length-append said x, length-append (word_bytes ws) l, length-word_bytes ws, rest, event-width wide, event-rest wide) in
    simp (le-ltb (length s) (width_of wide) long, spare, back, formed)

-- an event that was written is read
pub event-written : (wide : Bool) (e : Event) (l : List ℕ) → Word e.sequence → Word e.participant → event_held wide e ≡ true → read_event wide (word_bytes (event_words wide e) ++ l) ≡ Ok e
unfolding event_words
event-written wide e l q p ok = event-said wide e (u32_bytes e.sequence) l refl (ap (λ (ws : List ℕ). get_or ws 0 0) (row_read (e.sequence ∷ []) [] (q, tt))) p ok

pub event-read : (wide : Bool) (s : List ℕ) (e : Event) → AllBytes s → read_event wide s ≡ Ok e → word_bytes (event_words wide e) ≡ take (width_of wide) s
event-read wide s e b h =
    let t = event-took wide s e h in
    let n : width_of wide ≤ length s = ltb-false (length s) (width_of wide) t.0 in
    let m : words_in wide * 4 ≡ width_of wide = event-width wide in
    ap (λ (x : Event). word_bytes (event_words wide x)) (sym t.2) ∙ ap word_bytes (event-words wide s (omega (arith, width-ge wide)) (and_left (event_spare wide s) (event_formed (event_of wide s)) t.1))
    ∙ record-back s (words_in wide) b (omega arith) ∙ ap (λ (k : ℕ). take k s) m

-- ---- the trailer

trailer-from : (s : List ℕ) (t : Trailer) → 16 ≤ length s → words_from s 0 4 ≡ trailer_words t → read_trailer s ≡ Ok t
unfolding read_trailer trailer_of trailer_words
trailer-from s t n w =
    let at : (k : ℕ) → get_or (words_from s 0 4) k 0 ≡ get_or (trailer_words t) k 0 = λ k. ap (λ (l : List ℕ). get_or l k 0) w in
    let known : (eqb (word_at s 0) cubt || t.wide) ≡ true = ap (λ (w : ℕ). eqb w cubt || t.wide) (at 0) ∙ (named t.wide).0 in
    let told : eqb (word_at s 0) cub2 ≡ t.wide = ap (λ (w : ℕ). eqb w cub2) (at 0) ∙ (named t.wide).1 in
    simp (le-ltb (length s) 16 n, told, known, at 1, at 2, at 3)
  where
    -- the form's word is one of the two, and tells the form
    named : (wide : Bool) → ((eqb (first_word wide) cubt || wide) ≡ true) × (eqb (first_word wide) cub2 ≡ wide)
    named true = (refl, refl)
    named false = (refl, refl)

pub trailer-length : (t : Trailer) → length (trailer_words t) ≡ 4
unfolding trailer_words
trailer-length t = refl

pub trailer-written : (t : Trailer) (l : List ℕ) → Word t.order → Word t.events → read_trailer (word_bytes (trailer_words t) ++ l) ≡ Ok t
unfolding trailer_words
trailer-written t l ho he =
    let s : List ℕ = word_bytes (trailer_words t) ++ l in
    let w : words_from s 0 4 ≡ trailer_words t = row_read (trailer_words t) l (name-fits t.wide, (ho, (he, (omega arith, tt)))) in
    let n : 16 ≤ length s = record-long (trailer_words t) l 16 refl in
    trailer-from s t n w
  where
    name-fits : (wide : Bool) → Word (first_word wide)
    name-fits true = omega arith
    name-fits false = omega arith

-- a word that is one of the two names is the one of the form that it tells
name_back : (w : ℕ) → (eqb w cubt || eqb w cub2) ≡ true → first_word (eqb w cub2) ≡ w
name_back w h = go (eqb w cub2) refl h
  where
    go : (b : Bool) → eqb w cub2 ≡ b → (eqb w cubt || b) ≡ true → first_word b ≡ w
    go true e h = sym (eqb-true w cub2 e)
    go false e h = sym (eqb-true w cubt (sym (or-false (eqb w cubt)) ∙ h))

pub trailer-read : (s : List ℕ) (t : Trailer) → AllBytes s → read_trailer s ≡ Ok t → word_bytes (trailer_words t) ≡ take 16 s
unfolding read_trailer trailer_of trailer_words
trailer-read s t b h =
    let name : Bool = eqb (word_at s 0) cubt || eqb (word_at s 0) cub2 in
    let k : (ltb (length s) 16 ≡ false) × ((name && eqb (word_at s 12) 0) ≡ true) × (trailer_of s ≡ t) = took _ _ (ltb (length s) 16) (name && eqb (word_at s 12) 0) (trailer_of s) t h in
    let n : 16 ≤ length s = ltb-false (length s) 16 k.0 in
    let w0 : first_word (eqb (word_at s 0) cub2) ≡ word_at s 0 = name_back (word_at s 0) (and_left name (eqb (word_at s 12) 0) k.1) in
    let w3 : word_at s 12 ≡ 0 = eqb-true (word_at s 12) 0 (and_right name _ k.1) in
    let same : trailer_words (trailer_of s) ≡ words_from s 0 4 = simp (w0, w3) in
    ap (λ (x : Trailer). word_bytes (trailer_words x)) (sym k.2) ∙ ap word_bytes same ∙ record-back s 4 b n

-- ---- the promises

pub values-back : ValuesBack
unfolding order_wrote event_wrote trailer_wrote
values-back =
    record {
      order = λ o out ok room. ap read_order (wrote-is (order_words o) out ok (omega (arith, order-length o))) ∙ order-written o (drop (length (order_words o) * 4) out) ok;
      event = λ wide e out q p ok room. ap (read_event wide) (wrote-is (event_words wide e) out ok (omega (arith, words_long wide e))) ∙ event-written wide e (drop (length (event_words wide e) * 4) out) q p ok;
      trailer = λ t out ho he room. ap read_trailer (wrote-is (trailer_words t) out refl (omega (arith, trailer-length t))) ∙ trailer-written t (drop (length (trailer_words t) * 4) out) ho he;
    }

pub bytes_back : BytesBack
unfolding order_wrote event_wrote trailer_wrote
bytes_back =
    record {
      order = λ s out o b h room.
          wrote-is (order_words o) out (order-formed s o h) (omega (arith, order-length o))
          ∙ cut (order_words o) (take 64 s) out (ap (λ (k : ℕ). k * 4) (order-length o)) (order-read s o b h);
      event = λ wide s out e b h room.
          wrote-is (event_words wide e) out (event-held wide s e h) (omega (arith, words_long wide e))
          ∙ cut (event_words wide e) (take (width_of wide) s) out (words_long wide e) (event-read wide s e b h);
      trailer = λ s out t b h room.
          wrote-is (trailer_words t) out refl (omega (arith, trailer-length t))
          ∙ cut (trailer_words t) (take 16 s) out (ap (λ (k : ℕ). k * 4) (trailer-length t)) (trailer-read s t b h);
    }
  where
    cut : {n : ℕ} (ws front out : List ℕ) → length ws * 4 ≡ n → word_bytes ws ≡ front → with_record ws out ≡ front ++ drop n out
    cut {n} ws front out e f = ap (λ (k : ℕ). word_bytes ws ++ drop k out) e ∙ ap (λ (l : List ℕ). l ++ drop n out) f
