use Rattle.std.proofs.Common.{arith, refl, sym, ap, ap₂, ◌≡◌, ◌∙◌, ◌+◌, ◌-◌, ◌*◌, ◌≤◌, ◌<◌, ◌^◌, ◌++◌, ℕ, false, List, length}
use mathlib.Core.Logic.{inl, inr, ⊎_elim}
use Prim.Native.Nat.{min}
use Rattle.std.proofs.lemmas.Option.{none-some}
use lib.ListN.{length-append}
use Rattle.base.specs.Lists.{filter}
use Rattle.board.specs.rules.Board.{live_in, live_of}
use Rattle.share.specs.rules.Fills.{Fill, fill_of}
use Rattle.share.proofs.FillsLaws.{wrote-append, left-start, left-turn, left-done}
use Rattle.trade.specs.rules.Trade.{offers, level_fills, flat, market_price}
use Rattle.trade.specs.rules.Trade as trade
use Rattle.trade.specs.rules.Write.{reported_price, reported, fills_of}
use Rattle.trade.specs.inside.Code.{Stands, Short, fills_at, least_of, level_of, works_at, passed_of, market_by, walk_from}
use Rattle.trade.proofs.NearLaws.{Sorted, sorts, sorted-walk, near_none, near-left, arrives, found-two, look-next}
use Rattle.trade.proofs.StepLaws.{ahead, rest-is, goes, stays}
use Rattle.trade.proofs.LevelLaws.{Priced, priced, priced-price, ahead-all, walk-fills, walk-done, level-above}
use Rattle.trade.proofs.ServeLaws.{short-of}
use Rattle.trade.proofs.WholeLaws.{guarantee-found, market-fill, all-fills, fills-few}
use Rattle.trade.proofs.write_all.Goals as goal
use Rattle.trade.proofs.write_all.Goals.{After-looked-found, After-price_of-l, After-sorted-s, At-loop-d}

-- ---- all the fills: the market order's, and those of the walk

fills-are : (c : goal.At-loop-d) → fills_of c.args.d c.args.b.now ≡ fill_of c.args.d.market (reported_price c.args.d.sell (market_price c.args.d (offers c.args.b.now))) c.min-takes.result ++ reported c.args.d.sell (flat (walk_from c.args.d (offers c.args.b.now) 0 (c.from-size.result - c.min-takes.result) 0))
fills-are c = all-fills c.args.d c.args.b.now _ _ (c.min-takes.ensures ∙ ap₂ (λ (x y : ℕ). min x y) c.from-size.ensures c.from.ensures) (ap (λ (n : ℕ). n - c.min-takes.result) c.from-size.ensures)

market : (c : goal.At-loop-d) → fill_of c.args.d.market (reported_price c.args.d.sell (market_by c.args.d c.args.b.now.live (least_of c.args.d.bound c.top_of-top.result (live_of c.args.b.now)))) c.min-takes.result ≡ fill_of c.args.d.market (reported_price c.args.d.sell (market_price c.args.d (offers c.args.b.now))) c.min-takes.result
market c = market-fill c.args.d c.args.b.now c.top_of-top.result c.min-takes.result c.requires.fits.0 c.requires.fits.1 c.top_of-top.ensures.0

-- what is still to be written fits

walk-room : (c : goal.At-loop-d) → c.loop-d.s.at + 3 * length (reported c.args.d.sell (flat (walk_from c.args.d (offers c.args.b.now) c.loop-d.s.from c.loop-d.s.left c.loop-d.s.held))) ≤ 390
walk-room c = omega (arith, c.loop-d.invariant.5.place, c.write_market-at.ensures.place, ap length (market c), simp length-append at (ap length (fills-are c)), fills-few c.args.d c.args.b.now c.requires.fits.0)

pub loop-d-init : goal.loop-d-init
loop-d-init c =
    let a = c.args in (
      omega arith,
      omega arith,
      refl,
      c.requires.fits.1,
      sym (ahead-all a.d (live_of a.b.now)),
      left-start _ _ _,
      near_none a.d.bound a.b.now.places a.b.now.live (rw c.requires.fits.0 c.requires.fits.1),
      λ n k. absurd (none-some n k),
    )

-- ---- a turn: the near places are chosen anew where that is due, and the rest stays

sort : (c : goal.After-sorted-s) → Sorted c.args.d.bound c.top_of-top.result c.args.b.now.places c.loop-d.s c.sorted-s.result
sort c = rw c.sorted-s.ensures (sorts c.args.d.bound c.top_of-top.result c.args.b.now.places c.loop-d.s (rw c.requires.fits.0 c.loop-d.invariant.3) c.loop-d.invariant.6)

fit : (c : goal.After-sorted-s) → c.sorted-s.result.rest < 2 ^ 64
fit c = omega (arith, (sort c).rest, c.loop-d.invariant.3)

-- something is left, and the last price is not passed

on : (c : goal.After-sorted-s) → (0 < c.sorted-s.result.left) × (c.sorted-s.result.from ≤ trade.top c.args.d) × (c.sorted-s.result.from ≤ c.top_of-top.result)
on c =
    let k = sort c in
    let g = goes c.loop-d.s.left c.loop-d.s.from c.top_of-top.result (sym c.going.ensures ∙ c.loop-d-test.true) in
    (omega (arith, g.0, k.left), omega (arith, g.1, k.from, c.top_of-top.ensures.0), omega (arith, g.1, k.from))

ahead-is : (c : goal.After-sorted-s) → live_in c.sorted-s.result.rest c.args.b.now.places ≡ filter (ahead c.args.d c.sorted-s.result.from) (live_of c.args.b.now)
ahead-is c = let k = sort c in rw (k.rest, k.from) c.loop-d.invariant.4

above : (c : goal.After-sorted-s) → (c.sorted-s.result.from ≤ (level_of c.args.d c.args.b.now.places c.guarantee_of-g.result c.sorted-s.result).price) × ((level_of c.args.d c.args.b.now.places c.guarantee_of-g.result c.sorted-s.result).price ≤ trade.top c.args.d)
above c = level-above c.args.d c.args.b.now.places c.args.b.now.live c.guarantee_of-g.result c.sorted-s.result (ahead-is c) (on c).1

-- ---- the price

stands : (c : goal.After-looked-found) → Stands c.args.d.bound c.top_of-top.result c.args.b.now.places c.sorted-s.result.rest c.looked-found.result.0
stands c = arrives c.args.d.bound c.top_of-top.result c.args.b.now.places c.requires.fits.0 c.sorted-s.result (fit c.before) (sort c.before).near (λ n q. let k = (sort c.before).known n q in rw (sort c.before).rest (c.loop-d.invariant.7 n k.0 (omega (arith, (on c.before).2, (sort c.before).from)) k.1)) c.looked-found.result.0 c.looked-found.result.1 c.looked-found.ensures

stands-top : (c : goal.After-looked-found) → Stands c.args.d.bound (trade.top c.args.d) c.args.b.now.places c.sorted-s.result.rest c.looked-found.result.0
stands-top c = rw c.top_of-top.ensures.0 at (stands c)

pub price_of-l-requires : goal.price_of-l-requires
price_of-l-requires c =
    let k = stands (goal.at.price_of-l-requires c).After-looked-found in
    (c.guarantee_of-g.ensures.1, omega (arith, k.low, c.top_of-top.ensures.1), k.found.small)

guaranteed : (c : goal.After-price_of-l) → c.guarantee_of-g.result ≡ trade.guarantee c.args.d (offers c.args.b.now)
guaranteed c = guarantee-found c.args.d c.args.b.now.places c.args.b.now.live _ _ _ c.requires.fits.0 c.from-size.ensures c.ones.ensures c.guarantee_of-g.ensures.0

-- the steps before the price

abbrev looking : goal.After-price_of-l → goal.After-looked-found
looking c = c.before.before

abbrev sorting : goal.After-price_of-l → goal.After-sorted-s
sorting c = (looking c).before

price : (c : goal.After-price_of-l) → Priced c.args.d c.args.b.now.places c.guarantee_of-g.result c.sorted-s.result c.price_of-l.result
price c = priced c.args.d c.args.b.now.places c.guarantee_of-g.result c.sorted-s.result c.requires.fits.0 (fit (sorting c)) c.looked-found.result.0 (stands-top (looking c)) _ c.price_of-l.ensures

-- the size left is a word, and so are its parts
left-low : (c : goal.After-price_of-l) → c.sorted-s.result.held + c.sorted-s.result.left ≤ 4294967295
left-low c = let k = sort (sorting c) in omega (arith, k.held, k.left, c.loop-d.invariant.1)

short : (c : goal.After-price_of-l) → c.price_of-l.result.turns ≡ false → Short c.args.b.now.places c.price_of-l.result.others c.price_of-l.result.shared c.price_of-l.result.total
short c = λ k. let p = price c in short-of c.args.b.now.places _ _ _ (sym p.in-turn ∙ k) (omega (arith, p.shared-low, left-low c)) p.total-low p.total-is

pub cut-requires : goal.cut-requires
cut-requires c = (c.requires.fits.0, short (goal.at.cut-requires c).After-price_of-l)

-- what is to be written: this price's fills, and those of the rest of the walk

level-fills : (c : goal.After-price_of-l) → reported c.args.d.sell (flat (walk_from c.args.d (offers c.args.b.now) c.loop-d.s.from c.loop-d.s.left c.loop-d.s.held))
    ≡ fills_at c.args.b.now.places c.price_of-l.result ++ reported c.args.d.sell (flat (walk_from c.args.d (offers c.args.b.now) (c.price_of-l.result.price + 1) c.price_of-l.result.after (c.sorted-s.result.held + c.price_of-l.result.contra)))
level-fills c =
    let p = price c in
    let d = c.args.d in
    let o = offers c.args.b.now in
    let t = on (sorting c) in
    ap (λ ls. reported d.sell (flat ls)) (sorted-walk d o d.bound c.top_of-top.result c.args.b.now.places c.loop-d.s c.sorted-s.result (sort (sorting c)))
    ∙ walk-fills d c.args.b.now.places c.args.b.now.live c.guarantee_of-g.result c.sorted-s.result (guaranteed c) (ahead-is (sorting c)) t.1 t.0 _ _ _ (ap (λ (n : ℕ). n + 1) p.price-is) p.after_is (ap (λ (n : ℕ). c.sorted-s.result.held + n) p.contra-is)
    ∙ ap {B = List Fill} (λ fs. fs ++ reported d.sell (flat (walk_from d o (c.price_of-l.result.price + 1) c.price_of-l.result.after (c.sorted-s.result.held + c.price_of-l.result.contra)))) (sym p.fills)

pub write_price-at-requires-clause-price : goal.write_price-at-requires-clause-price
write_price-at-requires-clause-price c =
    let s = (goal.at.write_price-at-requires-clause-price c).After-price_of-l in
    let p = price s in
    let l = left-low s in
    record { size = c.requires.fits.0; customers-rank = p.customers-rank; others-rank = p.others-rank; total-is = p.total-is; in-turn = p.in-turn; left-low = omega (arith, p.left_is, l); shared-low = omega (arith, p.shared-low, l); contra-low = omega (arith, p.contra-low, l); cuts = c.cut.ensures }

pub write_price-at-requires-clause-room : goal.write_price-at-requires-clause-room
write_price-at-requires-clause-room c =
    let s = (goal.at.write_price-at-requires-clause-room c).After-price_of-l in
    omega (arith, (sort (sorting s)).at, walk-room (goal.at.write_price-at-requires-clause-room c).At-loop-d, ap length (level-fills s) ∙ length-append (fills_at c.args.b.now.places c.price_of-l.result) _, c.loop-d.invariant.2, c.write_market-at.auto.out, c.requires.room)

-- ---- the walk stands after the price
pub passed-s-requires : goal.passed-s-requires
passed-s-requires c =
    let s = (goal.at.passed-s-requires c).After-price_of-l in
    let p = price s in
    let u = above (sorting s) in
    (p.fits, omega (arith, p.contra-low, left-low s), omega (arith, p.price-is, u.1, c.top_of-top.ensures.0, c.top_of-top.ensures.1))

pub loop-d-smaller : goal.loop-d-smaller
unfolding passed_of
loop-d-smaller c =
    let s = (goal.at.loop-d-smaller c).After-price_of-l in
    let p = price s in
    let u = above (sorting s) in
    rw c.passed-s.ensures (omega (arith, p.price-is, u.0, u.1, (sort (sorting s)).from, c.top_of-top.ensures.0))

pub loop-d-preserved : goal.loop-d-preserved
unfolding passed_of
loop-d-preserved c =
    let a = c.args in
    let ps = a.b.now.places in
    let s = c.sorted-s.result in
    let l = c.price_of-l.result in
    let after = (goal.at.loop-d-preserved c).After-price_of-l in
    let k = sort (sorting after) in
    let p = price after in
    let u = above (sorting after) in
    let fits = fit (sorting after) in
    rw c.passed-s.ensures (
      omega (arith, p.price-is, u.1, c.top_of-top.ensures.0),
      omega (arith, p.contra-low, left-low after),
      omega (arith, c.write_price-at.auto.out, c.loop-d.invariant.2),
      omega arith,
      rw p.price-is (rest-is a.d ps a.b.now.live c.guarantee_of-g.result s (guaranteed after) (ahead-is (sorting after)) (on (sorting after)).1 (s.rest - l.customers - l.others) c.requires.fits.0 fits (omega (arith, p.gone, p.fits))),
      left-turn (rw (level-fills after, ← k.at) at c.loop-d.invariant.5) c.write_price-at.ensures,
      near-left a.d.bound ps (works_at a.d.bound (level_of a.d ps c.guarantee_of-g.result s).price) s.near s.rest _ (rw c.requires.fits.0 fits) (omega (arith, p.gone, p.fits)) k.near,
      λ n q h e.
          let z : c.looked-found.result.0.price ≡ (level_of a.d ps c.guarantee_of-g.result s).price = sym (priced-price a.d c.guarantee_of-g.result s c.looked-found.result.0 l c.price_of-l.ensures) ∙ p.price-is in
          look-next a.d.bound c.top_of-top.result ps c.requires.fits.0 (passed_of s l c.looked-found.result.1 c.write_price-at.result) s.rest fits k.near c.looked-found.result.0 n
          (found-two a.d.bound c.top_of-top.result ps s c.looked-found.result.0 c.looked-found.result.1 c.looked-found.ensures n q)
          (omega (arith, z, p.price-is, h)) (rw z (omega (arith, p.gone, p.fits))) q (λ y. omega arith) e,
    )

-- ---- the end
pub returns : goal.returns
returns c =
    let a = c.args in
    let e = stays c.loop-d.s.left c.loop-d.s.from c.top_of-top.result (sym c.going.ensures ∙ c.loop-d-test.false) in
    let w = left-done (rw (walk-done a.d (offers a.b.now) c.loop-d.s.from c.loop-d.s.left c.loop-d.s.held (⊎_elim (λ z. inl z) (λ z. inr (omega (arith, c.top_of-top.ensures.0))) e)) at c.loop-d.invariant.5) in
    rw (fills-are (goal.at.returns c).At-loop-d) (wrote-append (rw (market (goal.at.returns c).At-loop-d) at c.write_market-at.ensures) w)
