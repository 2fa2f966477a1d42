-- The market order, all the fills together, and the lent part.
use mathlib.Core.Path.{◌≡◌, refl, sym, ap, ap₂, ◌∙◌}
use mathlib.Core.Bool.{Bool, true, false, cond, ◌&&◌}
use mathlib.Core.List.{List, ◌++◌}
use mathlib.Core.Logic.{◌≢◌}
use Prim.Native.Nat.{ℕ, ◌+◌, ◌-◌, ◌*◌, ◌/◌, ◌^◌, ◌≤◌, ◌<◌, min, max}
use native.Mathlib.Nat.{zero-add}
use native.Mathlib.Omega.{arith}
use borrow.Author.Tests.{eq-eqb, ne_eqb, eqb-true, eqb-false, le-leb, lt-leb}
use lib.Dec.{eqb, leb}
use borrow.Rule.Slice.PartMut.{put_mid}
use lib.ListN.{length, take, drop, length-drop}
use lib.Seq.{drop-drop}
use Rattle.base.proofs.SetsLaws.{part-back, rest-is}
use Rattle.words.specs.rules.Bits.{count_trailing_zeros, ones_in}
use Rattle.board.specs.declared.Response.{Response}
use Rattle.board.specs.declared.Board.{Board}
use Rattle.board.specs.rules.Board.{live_in, live_of, in_sequence}
use Rattle.base.proofs.ListLaws.{shuffles-length}
use Rattle.board.proofs.LiveLaws.{none-live, count-live}
use Rattle.board.proofs.SequenceLaws.{sequence-shuffles}
use Rattle.share.specs.rules.Fills.{Fill, fill_of, words}
use Rattle.share.specs.inside.Fills.{written}
use Rattle.share.proofs.FillsLaws.{written-words}
use Rattle.trade.specs.declared.Deal.{Deal}
use Rattle.base.specs.declared.refusal.Refusal.TheVariants.{FewWords, AuctionOpen}
use Rattle.std.specs.Prelude.{Ok, Err}
use Rattle.trade.specs.rules.Trade.{offers, Level, flat, working_stop, top, next, guarantee_of, guarantee, market_price, market_takes, market_fill, levels, fills}
use Rattle.trade.specs.rules.Write.{reported_price, reported, fills_of, roomy, fill_answer, fill_words}
use Rattle.trade.specs.inside.Code.{least_of, market_by, walk_from}
use Rattle.trade.proofs.CodeLaws.{turn-of, count_turn, live-short}
use Rattle.trade.proofs.StepLaws.{least-next, next-sequence, from_start}
use Rattle.trade.proofs.LevelLaws.{ahead-all, reported-append, reported-length, reported-fill}
use Rattle.trade.proofs.Counts.{fills-short}

length-sequence : (xs : List Response) → length (in_sequence xs) ≡ length xs
length-sequence xs = shuffles-length (sequence-shuffles xs)

-- ---- the market order's price

module _ (d : Deal) (ps : List Response) (live low : ℕ) (e : low ≡ least_of d.bound (top d) (live_in live ps)) where
  lowest : low ≡ next d 0 (in_sequence (live_in live ps))
  lowest = e ∙ ap (least_of d.bound (top d)) (sym (ahead-all d (live_in live ps))) ∙ least-next d 0 (live_in live ps) ∙ sym (next-sequence d 0 (live_in live ps))

  market-mid : d.mode ≡ 2 → live ≡ 0 → (d.initiating + d.bound + 1) / 2 ≡ market_price d (in_sequence (live_in live ps))
  unfolding market_price
  market-mid m z =
      let n : length (in_sequence (live_in live ps)) ≡ 0 = length-sequence (live_in live ps) ∙ rw (z, none-live ps) in
      rw (eq-eqb d.mode 2 m, eq-eqb (length (in_sequence (live_in live ps))) 0 n)

  market-low : d.mode ≡ 2 → length ps ≡ 64 → 0 < live → live < 2 ^ 64 → low ≡ market_price d (in_sequence (live_in live ps))
  unfolding market_price
  market-low m l z f =
      let c = count_turn ps live (count_trailing_zeros 64 live) (turn-of ps live (count_trailing_zeros 64 live) l z f refl) in
      let n : length (in_sequence (live_in live ps)) ≢ 0 = λ q. omega (arith, length-sequence (live_in live ps)) in
      rw (eq-eqb d.mode 2 m, ne_eqb (length (in_sequence (live_in live ps))) 0 n) lowest

  market-stop : d.mode ≢ 2 → (w : ℕ) → w ≡ working_stop d → min low w ≡ market_price d (in_sequence (live_in live ps))
  unfolding market_price
  market-stop m w f = rw (ne_eqb d.mode 2 m, f, lowest)

  market-by : length ps ≡ 64 → live < 2 ^ 64 → market_by d live low ≡ market_price d (in_sequence (live_in live ps))
  unfolding market_by
  market-by l f = go (eqb d.mode 2) (eqb live 0) refl refl
    where
      go : (a b : Bool) → eqb d.mode 2 ≡ a → eqb live 0 ≡ b → cond a (cond b ((d.initiating + d.bound + 1) / 2) low) (min low (max d.stop d.bound)) ≡ market_price d (in_sequence (live_in live ps))
      go true true m z = market-mid (eqb-true d.mode 2 m) (eqb-true live 0 z)
      go true false m z = let n : live ≢ 0 = eqb-false live 0 z in market-low (eqb-true d.mode 2 m) l (omega arith) f
      go false b m z = market-stop (eqb-false d.mode 2 m) (max d.stop d.bound) refl

-- its fill
pub market-fill : (d : Deal) (b : Board) (last takes : ℕ) → length b.places ≡ 64 → b.live < 2 ^ 64 → last ≡ top d
    → fill_of d.market (reported_price d.sell (market_by d b.live (least_of d.bound last (live_of b)))) takes ≡ fill_of d.market (reported_price d.sell (market_price d (offers b))) takes
market-fill d b last takes l f e =
    rw e (ap {B = List Fill} (λ (p : ℕ). fill_of d.market (reported_price d.sell p) takes) (market-by d b.places b.live (least_of d.bound (top d) (live_of b)) refl l f))

-- ---- all the fills

pub guarantee-found : (d : Deal) (ps : List Response) (live size n g : ℕ) → length ps ≡ 64 → size ≡ d.size → n ≡ ones_in 64 live → g ≡ guarantee_of size n
    → g ≡ guarantee d (in_sequence (live_in live ps))
guarantee-found d ps live size n g l z e f =
    let c : ones_in 64 live ≡ length (live_in live ps) = ap (λ (k : ℕ). ones_in k live) (sym l) ∙ count-live live ps in
    f ∙ ap₂ guarantee_of z (e ∙ c ∙ sym (length-sequence (live_in live ps)))

pub all-fills : (d : Deal) (b : Board) (takes left : ℕ) → takes ≡ min d.size d.selling → left ≡ d.size - takes
    → fills_of d b ≡ fill_of d.market (reported_price d.sell (market_price d (offers b))) takes ++ reported d.sell (flat (walk_from d (offers b) 0 left 0))
unfolding fills_of fills
all-fills d b takes left f g =
    reported-append d.sell (market_fill d (offers b)) (flat (levels d (offers b)))
    ∙ ap₂ {C = List Fill} (λ x y. x ++ y) (reported-fill d.sell d.market (market_price d (offers b)) (market_takes d (offers b)) ∙ ap {B = List Fill} (λ (q : ℕ). fill_of d.market (reported_price d.sell (market_price d (offers b))) q) (sym f))
    (ap (λ (ls : List Level). reported d.sell (flat ls)) (from_start d (offers b) ∙ ap (λ (n : ℕ). walk_from d (offers b) 0 n 0) (ap (λ (n : ℕ). d.size - n) (sym f) ∙ sym g)))

pub fills-few : (d : Deal) (b : Board) → length b.places ≡ 64 → length (fills_of d b) ≤ 130
unfolding fills_of
fills-few d b l =
    omega (arith, reported-length d.sell (fills d (offers b)), fills-short d (offers b) (omega (arith, length-sequence (live_of b), live-short b.live b.places)))

-- ---- a part that was lent from a start place on

-- once it is back, the words stand before it as they were, and after the fills as they were
pub words_back : (a : ℕ) (xs ys : List ℕ) (fs : List Fill) → 3 * length fs ≤ length xs - a → ys ≡ written (take (length xs - a) (drop a xs)) 0 fs
    → put_mid a (length xs - a) xs ys ≡ take a xs ++ (words fs ++ drop (a + 3 * length fs) xs)
words_back a xs ys fs h e =
    let w : ys ≡ words fs ++ drop (a + 3 * length fs) xs =
    e ∙ ap (λ (l : List ℕ). written l 0 fs) (rest-is xs a)
    ∙ written-words (drop a xs) 0 fs (omega (arith, length-drop a xs))
    ∙ rw (zero-add (3 * length fs), drop-drop (3 * length fs) a xs) in
    part-back a xs ys ∙ ap (λ (r : List ℕ). take a xs ++ r) w

-- ---- the answers

not-roomy : (xs : List ℕ) (start : ℕ) → length xs - start < 390 → roomy xs start ≡ false
unfolding roomy
not-roomy xs start h = go (leb start (length xs))
  where
    go : (a : Bool) → a && leb 390 (length xs - start) ≡ false
    go true = lt-leb 390 (length xs - start) h
    go false = refl

is-roomy : (xs : List ℕ) (start : ℕ) → 390 ≤ length xs - start → roomy xs start ≡ true
unfolding roomy
is-roomy xs start h =
    let s : start ≤ length xs = omega arith in
    rw (le-leb start (length xs) s, le-leb 390 (length xs - start) h) refl

module _ (ended : Bool) (d : Deal) (b : Board) (xs : List ℕ) (start : ℕ) where
  pub not-ended : ended ≡ false → (Err AuctionOpen ≡ fill_answer ended d b xs start) × (xs ≡ fill_words ended d b xs start)
  unfolding fill_answer fill_words
  not-ended e = rw e (refl, refl)

  pub too-short : ended ≡ true → length xs - start < 390 → (Err FewWords ≡ fill_answer ended d b xs start) × (xs ≡ fill_words ended d b xs start)
  unfolding fill_answer fill_words
  too-short e h = rw (e, not-roomy xs start h) (refl, refl)

  pub counted : ended ≡ true → 390 ≤ length xs - start → (n : ℕ) → n ≡ length (fills_of d b) → Ok n ≡ fill_answer ended d b xs start
  unfolding fill_answer
  counted e h n f = rw (e, is-roomy xs start h, f)

  pub words-after : ended ≡ true → 390 ≤ length xs - start
      → take start xs ++ (words (fills_of d b) ++ drop (start + 3 * length (fills_of d b)) xs) ≡ fill_words ended d b xs start
  unfolding fill_words
  words-after e h = rw (e, is-roomy xs start h)
