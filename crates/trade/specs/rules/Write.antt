-- What the fill writer answers, and the words after it.
use Rattle.std.specs.Prelude.{Result, Ok, Err, Bool, cond, ◌&&◌, List, [], ◌∷◌, ◌++◌, ℕ, ◌+◌, ◌-◌, ◌*◌, leb, length, take, drop}
use Rattle.base.specs.Price.{mirrored}
use Rattle.base.specs.declared.refusal.Refusal.{Refusal}
use Rattle.base.specs.declared.refusal.Refusal.TheVariants.{FewWords, AuctionOpen}
use Rattle.board.specs.declared.Board.{Board}
use Rattle.share.specs.rules.Fills.{Fill, fill, words}
use Rattle.trade.specs.declared.Deal.{Deal}
use Rattle.trade.specs.rules.Trade.{offers, fills}

-- a sell's prices are mirrored back
abbrev pub reported_price : Bool → ℕ → ℕ
reported_price sell p = cond sell (mirrored p) p

abbrev pub reported : Bool → List Fill → List Fill
reported sell [] = []
reported sell (f ∷ fs) = fill f.party (reported_price sell f.price) f.quantity ∷ reported sell fs

-- the fills of an ended auction, as they are written
unfoldable pub fills_of : Deal → Board → List Fill
fills_of d b = reported d.sell (fills d (offers b))

-- whether 390 words stand from the start place on
unfoldable pub roomy : List ℕ → ℕ → Bool
roomy xs start = leb start (length xs) && leb 390 (length xs - start)

unfoldable pub fill_answer : Bool → Deal → Board → List ℕ → ℕ → Result ℕ Refusal
fill_answer ended d b xs start = cond ended (cond (roomy xs start) (Ok (length (fills_of d b))) (Err FewWords)) (Err AuctionOpen)

-- the fills' words from the start place on; all other words stay
unfoldable pub fill_words : Bool → Deal → Board → List ℕ → ℕ → List ℕ
fill_words ended d b xs start =
    cond (ended && roomy xs start)
    (take start xs ++ (words (fills_of d b) ++ drop (start + 3 * length (fills_of d b)) xs))
    xs
