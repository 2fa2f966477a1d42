-- The theorems that the crates below the promise state. One that goes missing is missed here.
use Rattle.std.specs.Prelude.{List, ℕ}
use Rattle.std.specs.Borrow.{Bor}
use Rattle.words.specs.promises.Bits.{BitsMean}
use Rattle.tape.specs.declared.trailer.Trailer.{Trailer}
use Rattle.reader.specs.promises.Reading.{Reading}
use Rattle.roundtrip.specs.promises.Demands.{Demands as RoundTrips}
use Rattle.moving.specs.promises.Moves.{Moves}
use Rattle.mirror.specs.promises.Records.{RecordsMirror}
use Rattle.auction.specs.promises.Collared.{Collared}
use Rattle.board.specs.promises.Board.{Changes, Seen, Finding, Ordering}
use Rattle.share.specs.promises.Share.{ProRata}
use Rattle.demand.specs.promises.Demands.{Demands as Demands3, Few}
use Rattle.demand.specs.promises.Shares.{SharedOut}
use Rattle.run.specs.promises.Demands.{Keeps, Resend, Amends, OnOffer, Demanded, Mirrors}
use Rattle.run.specs.promises.InPlace.{InPlace}
use Rattle.run.specs.promises.Figures.{Figures, FirmFigures}
use Rattle.listing.specs.promises.Demands.{Demands as Listings}
use Rattle.listing.specs.promises.Watching.{Watching}

pub record Below : Type 0 where
  -- bits of a word
  pub bits : BitsMean
  -- a held tape, read from place to place; records of both forms read and written back
  pub reading : (bytes : Bor (List ℕ)) (t : Trailer) → Reading bytes t
  pub round-trips : RoundTrips
  -- a tape moved from one form to the other
  pub moves : Moves
  -- mirrored orders and events
  pub records-mirror : RecordsMirror
  -- a collared order on the other side: what it moves, and what it leaves
  pub collared : Collared
  -- the board: what is seated, amended, freed, seen, found, and its order by sequence
  pub changes : Changes
  pub seen : Seen
  pub finding : Finding
  pub ordering : Ordering
  -- pro rata over any number of responses; demand 3 of every deal, and the others' shares at each price; at most 130 fills
  pub pro-rata : ProRata
  pub demand-3 : Demands3
  pub shared-out : SharedOut
  pub few : Few
  -- every run: refusals, resends, amends, the contracts on offer, demand 3 of every list of events, sells, events in place
  pub keeps : Keeps
  pub resend : Resend
  pub amends : Amends
  pub on-offer : OnOffer
  pub demanded : Demanded
  pub mirrors : Mirrors
  pub in_place : InPlace
  -- cases a to k with W-203's and W-205's, the listing of document 01, and the watch
  pub figures : Figures
  pub firm-figures : FirmFigures
  pub listings : Listings
  pub watching : Watching
