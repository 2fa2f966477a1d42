-- The statements of specs/promises/Bits.antt, proved. Assumes nothing.
use lib.Count.{trailing_le, trailing_of_zero}
use Rattle.words.specs.promises.Bits.{BitsMean}
use Rattle.words.proofs.BitLaws as law

pub bits-mean : BitsMean
bits-mean = record {
  past = law.past-bit;
  set_same = law.with-same;
  set_other = law.with-other;
  clear-same = law.without-same;
  clear-other = law.without_other;
  set-counts = law.with-ones;
  clear-counts = law.without-ones;
  clear-at-most = law.clear-le 64;
  clear-is = law.clear-is 64;
  clear-lowest = law.clear-least 64;
  clear-some = law.some-clear 64;
  clear_room = law.ones-clear 64;
  clear-full = law.clear-ones 64;
  set-at-most = trailing_le 64;
  set_is = law.set_is 64;
  set-lowest = law.set-least 64;
  set-some = law.some-set 64;
  set-none = trailing_of_zero 64;
}
