-- No two refusals have the same number. Assumes nothing.
use Rattle.std.specs.Prelude.{◌≡◌, ℕ, cond, eqb}
use mathlib.Core.Path.{refl, sym, ap, ◌∙◌}
use Rattle.base.specs.Refusal.{number_of}
use Rattle.base.specs.declared.refusal.Refusal.{Refusal}
use Rattle.base.specs.declared.refusal.Refusal.TheVariants.{OrderOutOfForm, BetterThanNational, NoSize, BeforeOpen, NearClose, Halted, AnotherOpen, NationalCrossed, ExchangeCentWide, LimitBelowRange, StopAboveRange, NationalCentWide, NoRange, TapeLength, TrailerOutOfForm, LengthsDisagree, RoomTooShort, FirmLost, MovedTooLong, AuctionEnded, EventOutOfForm, SequenceTaken, BeforeClock, OwnSide, AboveInitiating, NoSuchResponse, BoardFull, FewWords, AuctionOpen}

-- the refusal that has a number
abbrev having : ℕ → Refusal
having n =
    cond (eqb n 1) OrderOutOfForm
    (cond (eqb n 2) BetterThanNational
    (cond (eqb n 3) NoSize
    (cond (eqb n 4) BeforeOpen
    (cond (eqb n 5) NearClose
    (cond (eqb n 6) Halted
    (cond (eqb n 7) AnotherOpen
    (cond (eqb n 8) NationalCrossed
    (cond (eqb n 9) ExchangeCentWide
    (cond (eqb n 10) LimitBelowRange
    (cond (eqb n 11) StopAboveRange
    (cond (eqb n 12) NationalCentWide
    (cond (eqb n 13) NoRange
    (cond (eqb n 21) TapeLength
    (cond (eqb n 22) TrailerOutOfForm
    (cond (eqb n 23) LengthsDisagree
    (cond (eqb n 24) RoomTooShort
    (cond (eqb n 25) FirmLost
    (cond (eqb n 26) MovedTooLong
    (cond (eqb n 31) AuctionEnded
    (cond (eqb n 32) EventOutOfForm
    (cond (eqb n 33) SequenceTaken
    (cond (eqb n 34) BeforeClock
    (cond (eqb n 35) OwnSide
    (cond (eqb n 36) AboveInitiating
    (cond (eqb n 37) NoSuchResponse
    (cond (eqb n 38) BoardFull
    (cond (eqb n 39) FewWords
    AuctionOpen)))))))))))))))))))))))))))

having-its : (r : Refusal) → having (number_of r) ≡ r
having-its OrderOutOfForm = refl
having-its BetterThanNational = refl
having-its NoSize = refl
having-its BeforeOpen = refl
having-its NearClose = refl
having-its Halted = refl
having-its AnotherOpen = refl
having-its NationalCrossed = refl
having-its ExchangeCentWide = refl
having-its LimitBelowRange = refl
having-its StopAboveRange = refl
having-its NationalCentWide = refl
having-its NoRange = refl
having-its TapeLength = refl
having-its TrailerOutOfForm = refl
having-its LengthsDisagree = refl
having-its RoomTooShort = refl
having-its FirmLost = refl
having-its MovedTooLong = refl
having-its AuctionEnded = refl
having-its EventOutOfForm = refl
having-its SequenceTaken = refl
having-its BeforeClock = refl
having-its OwnSide = refl
having-its AboveInitiating = refl
having-its NoSuchResponse = refl
having-its BoardFull = refl
having-its FewWords = refl
having-its AuctionOpen = refl

pub distinct : (r s : Refusal) → number_of r ≡ number_of s → r ≡ s
distinct r s e = sym (having-its r) ∙ ap having e ∙ having-its s
