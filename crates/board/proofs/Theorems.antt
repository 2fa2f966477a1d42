-- The statements of specs/promises/Board.antt, and that of specs/inside/Places.antt, proved. Assumes nothing.
use Rattle.words.proofs.BitLaws.{without_other, ones-clear, clear-ones}
use Rattle.board.specs.promises.Board.{Changes, Seen, Finding, Ordering}
use Rattle.board.specs.inside.Places.{Walking}
use Rattle.board.proofs.BoardLaws.{seating, amending, seated-past, seated-good, lowest-free, clearing, cleared-dead, cleared-good, empty-good, empty-live, live-count, unseen-live, unseen-find, find-named, named-found, no-named}
use Rattle.base.proofs.ListLaws.{shuffles-length, shuffles-sum}
use Rattle.board.proofs.LiveLaws.{word-filters}
use Rattle.board.proofs.SequenceLaws.{sequence-shuffles, sequence-rises, sequence-stable, sequence-last, sequence-filter}
use Rattle.board.proofs.FirstLaws.{first-earliest, earliest-first, some_first, none_first, first-takes}

pub changes : Changes
changes = record {
  seats = seating;
  amends = amending;
  lowest = lowest-free;
  clears = clearing;
  past = seated-past;
  dead = cleared-dead;
  others = λ b i j n. without_other b.live i j n;
  good-empty = empty-good;
  good-seated = seated-good;
  good-cleared = cleared-good;
}

pub seen : Seen
seen = record {
  empty = empty-live;
  count = live-count;
  room = λ b h. ones-clear 64 b.live h;
  no_room = λ b h. clear-ones 64 b.live h;
  live = unseen-live;
  find = λ any b c s g k e same. unseen-find b c g k e same any s;
}

pub finding : Finding
finding = record { found = find-named; some = λ any b s i g a. named-found any b s g i a; none = no-named }

pub ordering : Ordering
ordering = record {
  shuffles = sequence-shuffles;
  rises = sequence-rises;
  stable = sequence-stable;
  length-stays = λ xs. shuffles-length (sequence-shuffles xs);
  sums-stay = λ f xs. shuffles-sum f (sequence-shuffles xs);
  last = λ r xs ys i h. sequence-last i h;
  filters = sequence-filter;
}

pub walking : Walking
walking = record {
  earliest = first-earliest;
  only = earliest-first;
  some = some_first;
  none = none_first;
  takes = first-takes;
  word = λ t w ps. word-filters t w ps;
}
