-- The firm behind a live response (W-206 of document 02): the participant that the auction keeps with it.
use Rattle.std.specs.Prelude.{true, cond, ℕ, ltb, Option, Some, None}
use Rattle.board.specs.rules.Board.{response_at, find_named}
use Rattle.auction.specs.declared.Auction.{Auction}

-- that of the live response with this sequence, a GTX response or a limit order (0 where its record was an old one); none where there is no such response
unfoldable pub participant_of : Auction → ℕ → Option ℕ
participant_of a s =
    let place = find_named true a.board s in
    cond (ltb place 64) (Some (response_at a.board.places place).participant) None
