use Rattle.std.proofs.Common.{arith, refl}
use Rattle.board.specs.rules.Board.{live_of}
use Rattle.trade.proofs.CodeLaws.{least-le}
use Rattle.trade.proofs.RunLaws.{wrote_none}
use Rattle.trade.proofs.write_market.Goals as goal

pub returns-then-takes-eq0 : goal.returns-then-takes-eq0
returns-then-takes-eq0 c = rw c.if-takes-eq0.true (wrote_none c.args.out.now 0 0 refl)

pub market_price-requires : goal.market_price-requires
market_price-requires c = let a = c.args in omega (arith, c.lowest-lowest.ensures, least-le a.d.bound a.top (live_of a.b.now), c.requires.fits.1)
