-- Laws of the fills as the writer of fills leaves them.
use mathlib.Core.Path.{◌≡◌, refl, sym, ap, ◌∙◌}
use mathlib.Core.Bool.{true}
use mathlib.Core.List.{List, [], ◌∷◌, ◌++◌}
use Prim.Native.Nat.{ℕ, ◌+◌, ◌*◌, ◌≤◌, ◌<◌}
use native.Mathlib.Omega.{arith}
use lib.ListN.{length, get_or, take, drop, length-append, length-drop}
use Rattle.std.specs.Prelude.{Result, Ok}
use Rattle.std.specs.Result.{result_unwrap_or}
use Rattle.std.proofs.lemmas.List.{take_at}
use Rattle.base.specs.declared.refusal.Refusal.{Refusal}
use Rattle.share.specs.rules.Fills.{Fill, fill, words}
use Rattle.share.proofs.FillsLaws.{length-words}
use Rattle.trade.proofs.WholeLaws.{fills-few, counted, words-after}
use Rattle.auction.specs.declared.Auction.{Auction}
use Rattle.fills.specs.rules.Fills.{has_ended, deal_of, auction_fills, fills_answer, fills_after}
use Rattle.listing.specs.inside.Code.{fills_in}

-- the fills of the words are the fills
fills-back : (fs : List Fill) → fills_in (words fs) ≡ fs
fills-back [] = refl
fills-back (f ∷ fs) = ap {B = List Fill} (λ r. f ∷ r) (fills-back fs)

-- three words, and those after them
pub fills-more : (ws xs rest : List ℕ) → ws ≡ xs ++ rest → length xs ≡ 3 → fills_in ws ≡ fill (get_or xs 0 0) (get_or xs 1 0) (get_or xs 2 0) ∷ fills_in rest
fills-more ws [] rest e l = absurd (omega arith)
fills-more ws (_ ∷ []) rest e l = absurd (omega arith)
fills-more ws (_ ∷ _ ∷ []) rest e l = absurd (omega arith)
fills-more ws (party ∷ price ∷ quantity ∷ []) rest e l = ap fills_in e
fills-more ws (_ ∷ _ ∷ _ ∷ _ ∷ _) rest e l = absurd (omega arith)

pub fills-none : (ws : List ℕ) → length ws < 3 → fills_in ws ≡ []
fills-none [] h = refl
fills-none (_ ∷ []) h = refl
fills-none (_ ∷ _ ∷ []) h = refl
fills-none (_ ∷ _ ∷ _ ∷ _) h = absurd (omega arith)

pub fills-few-words : (ws : List ℕ) → 3 * length (fills_in ws) ≤ length ws
fills-few-words [] = omega arith
fills-few-words (_ ∷ []) = omega arith
fills-few-words (_ ∷ _ ∷ []) = omega arith
fills-few-words (_ ∷ _ ∷ _ ∷ ws) = omega (arith, fills-few-words ws)

-- ---- the fills of an auction that has ended, as `write_fills` leaves them

pub record Reported (a : Auction) (n : ℕ) (ws : List ℕ) : Type 0 where
  pub few : n ≤ 130
  pub long : length ws ≡ 390
  pub fills : fills_in (take (3 * n) ws) ≡ auction_fills a

-- they are written, and not refused
pub written : (a : Auction) (xs : List ℕ) → has_ended a.head ≡ true → length xs ≡ 390 → fills_answer a xs 0 ≡ Ok (length (auction_fills a))
written a xs e r = sym (counted (has_ended a.head) (deal_of a.head) a.board xs 0 e (omega arith) (length (auction_fills a)) refl)

pub reported : (a : Auction) (xs : List ℕ) (n : ℕ) (ws : List ℕ) → has_ended a.head ≡ true → length a.board.places ≡ 64 → length xs ≡ 390
    → fills_answer a xs 0 ≡ Ok n → ws ≡ fills_after a xs 0 → Reported a n ws
reported a xs n ws e l r en ew =
    let fs : List Fill = auction_fills a in
    let rest : List ℕ = drop (0 + 3 * length fs) xs in
    let few : length fs ≤ 130 = fills-few (deal_of a.head) a.board l in
    let count : n ≡ length fs = ap (λ (r : Result ℕ Refusal). result_unwrap_or r 0) (sym en ∙ written a xs e r) in
    let are : ws ≡ words fs ++ rest = ew ∙ sym (words-after (has_ended a.head) (deal_of a.head) a.board xs 0 e (omega arith)) in
    record {
      few = omega arith;
      long = ap length are ∙ length-append (words fs) rest ∙ omega (arith, length-words fs, length-drop (0 + 3 * length fs) xs);
      fills =
          ap fills_in (ap (λ (r : List ℕ). take (3 * n) r) are ∙ take_at (words fs) rest (3 * n) (omega (arith, count, length-words fs)))
          ∙ fills-back fs;
    }
