-- Pro rata of the fills: who of the others at a price has how much (document 01, "Pro rata"; document 02, W-203).
use Rattle.std.specs.Prelude.{◌≡◌}
use Rattle.base.specs.Lists.{In}
use Rattle.board.specs.declared.Board.{Board}
use Rattle.share.specs.rules.Share.{shares}
use Rattle.share.specs.rules.Fills.{sizes}
use Rattle.trade.specs.declared.Deal.{Deal}
use Rattle.trade.specs.rules.Trade.{Level, offers, others, shared, levels, fills}
use Rattle.demand.specs.promises.Demands.{Tradable, gots}

-- at each price of the walk the others, by sequence, have their shares of what is left to them
abbrev pub SharedOut : Type 0
SharedOut = (d : Deal) (b : Board) → Tradable d b → (l : Level) → In l (levels d (offers b)) → gots (fills d (offers b)) (others l) ≡ shares (shared l) (sizes (others l))
