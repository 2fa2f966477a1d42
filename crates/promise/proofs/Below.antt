-- The theorems below the promise.
use Rattle.words.proofs.BitTheorems.{bits-mean}
use Rattle.reader.proofs.ReaderLaws.{reading}
use Rattle.roundtrip.proofs.TapeBack.{demands as round-trips}
use Rattle.moving.proofs.Theorems.{all-moves}
use Rattle.mirror.proofs.MirrorForm.{records-mirror}
use Rattle.auction.proofs.CollaredLaws.{collared}
use Rattle.board.proofs.Theorems.{changes, seen, finding, ordering}
use Rattle.share.proofs.ShareLaws.{pro-rata}
use Rattle.demand.proofs.Theorems.{demand3, few}
use Rattle.demand.proofs.Shares.{shared-out}
use Rattle.run.proofs.Resend.{keeps}
use Rattle.run.proofs.MarketFrom.{resend}
use Rattle.run.proofs.Amends.{amends}
use Rattle.run.proofs.OnOffer.{on-offer}
use Rattle.run.proofs.SoundLaws.{demanded}
use Rattle.run.proofs.Mirrors.{mirrors}
use Rattle.run.proofs.LentLaws.{in_place}
use Rattle.run.proofs.Figures.{figures, firm-figures}
use Rattle.listing.proofs.Theorems.{demands as listings}
use Rattle.listing.proofs.WatchLaws.{watching}
use Rattle.promise.specs.promises.Below.{Below}

pub below : Below
below =
    record {
      bits = bits-mean;
      reading = λ bytes t. reading bytes t;
      round-trips = round-trips;
      moves = all-moves;
      records-mirror = records-mirror;
      collared = collared;
      changes = changes;
      seen = seen;
      finding = finding;
      ordering = ordering;
      pro-rata = pro-rata;
      demand-3 = demand3;
      shared-out = shared-out;
      few = few;
      keeps = keeps;
      resend = resend;
      amends = amends;
      on-offer = on-offer;
      demanded = demanded;
      mirrors = mirrors;
      in_place = in_place;
      figures = figures;
      firm-figures = firm-figures;
      listings = listings;
      watching = watching;
    }
