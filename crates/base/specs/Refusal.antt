-- The number of each refusal (document 01, "Numbers for no", and W-206 for 25 and 26). An order: 1 to 13; a tape and its records: 21 to 26; an event: 31 to 38; fills: 39 and 40.
use Rattle.std.specs.Prelude.{ℕ}
use Rattle.base.specs.declared.refusal.Refusal.{Refusal}
use Rattle.base.specs.declared.refusal.Refusal.TheVariants.{OrderOutOfForm, BetterThanNational, NoSize, BeforeOpen, NearClose, Halted, AnotherOpen, NationalCrossed, ExchangeCentWide, LimitBelowRange, StopAboveRange, NationalCentWide, NoRange}
use Rattle.base.specs.declared.refusal.Refusal.TheVariants.{TapeLength, TrailerOutOfForm, LengthsDisagree, RoomTooShort, FirmLost, MovedTooLong}
use Rattle.base.specs.declared.refusal.Refusal.TheVariants.{AuctionEnded, EventOutOfForm, SequenceTaken, BeforeClock, OwnSide, AboveInitiating, NoSuchResponse, BoardFull, FewWords, AuctionOpen}

abbrev pub number_of : Refusal → ℕ
number_of OrderOutOfForm = 1
number_of BetterThanNational = 2
number_of NoSize = 3
number_of BeforeOpen = 4
number_of NearClose = 5
number_of Halted = 6
number_of AnotherOpen = 7
number_of NationalCrossed = 8
number_of ExchangeCentWide = 9
number_of LimitBelowRange = 10
number_of StopAboveRange = 11
number_of NationalCentWide = 12
number_of NoRange = 13
number_of TapeLength = 21
number_of TrailerOutOfForm = 22
number_of LengthsDisagree = 23
number_of RoomTooShort = 24
number_of FirmLost = 25
number_of MovedTooLong = 26
number_of AuctionEnded = 31
number_of EventOutOfForm = 32
number_of SequenceTaken = 33
number_of BeforeClock = 34
number_of OwnSide = 35
number_of AboveInitiating = 36
number_of NoSuchResponse = 37
number_of BoardFull = 38
number_of FewWords = 39
number_of AuctionOpen = 40
