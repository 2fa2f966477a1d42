-- Laws of seating, clearing and finding on a board. Assumes nothing.
use mathlib.Core.Path.{◌≡◌, refl, sym, ap, ◌∙◌}
use mathlib.Core.Bool.{Bool, true, false, ◌||◌, true≢false}
use mathlib.Core.List.{[]}
use mathlib.Core.Logic.{⊎_elim}
use Prim.Native.Nat.{ℕ, ◌≤◌, ◌<◌}
use native.Mathlib.Omega.{arith}
use lib.Dec.{lit<}
use lib.ListN.{length, get_or, set, replicate, length-set, length-replicate}
use lib.Seq.{get_or-set_same, get_or-set_other}
use borrow.Author.Tests.{lt-ltb, le-ltb, eq-eqb, eqb-true}
use Rattle.words.specs.rules.Bits.{bit_at, with_bit, without_bit, ones_in}
use Rattle.base.proofs.Numbers.{le-or-lt}
use Rattle.words.proofs.BitLaws.{past-bit, with-same, with-other, with-ones, with-fits, with-clear, with-set, without-same, without-ones, without-le, without-clear, without_not, clear-is, clear-least}
use Rattle.base.specs.Lists.{Inserts}
use Rattle.board.specs.rules.Board.{no_response, response_at, empty_board, is_live, live_count, first_free, live_in, live_of, seated_at, cleared, is_named, find_named}
use Rattle.board.specs.promises.Board.{Good, Seating, Amending, LowestFree, Clearing, NamedAt}
use Rattle.board.specs.declared.Response.{Response}
use Rattle.board.specs.declared.Board.{Board}
use Rattle.base.proofs.ListLaws.{inserts-sum}
use Rattle.board.proofs.LiveLaws.{none-live, count-live, live_same, more-live, less-live}
use Rattle.base.proofs.Bools.{and_left, and_right, and_both}
use Rattle.board.proofs.FindLaws.{find-le, find-is, find_first, find-unseen}

-- a live place is one of the 64
live-lt : (b : Board) (i : ℕ) → Good b → is_live b i ≡ true → i < 64
live-lt b i g t =
    ⊎_elim
    (λ le. absurd (true≢false (sym t ∙ past-bit b.live i g.live-fits le)))
    (λ lt. lt)
    (le-or-lt 64 i)

-- ---- the empty board
pub empty-good : Good empty_board
unfolding empty_board
empty-good = record { places-are = length-replicate 64 no_response; live-fits = lit< tt }

pub empty-live : live_of empty_board ≡ []
unfolding empty_board
empty-live = none-live (replicate 64 no_response)

-- ---- the count
pub live-count : (b : Board) → Good b → live_count b ≡ length (live_of b)
live-count b g = ap (λ (n : ℕ). ones_in n b.live) (sym g.places-are) ∙ count-live b.live b.places

-- ---- seating
pub seated-is : (b : Board) (i : ℕ) (r : Response) → i < 64 → seated_at b i r ≡ record { places = set b.places i r; live = with_bit b.live i }
unfolding seated_at
seated-is b i r h = rw (lt-ltb i 64 h)

pub seated-past : (b : Board) (i : ℕ) (r : Response) → 64 ≤ i → seated_at b i r ≡ b
unfolding seated_at
seated-past b i r h = rw (le-ltb i 64 h)

module _ (b : Board) (i : ℕ) (r : Response) (g : Good b) (h : i < 64) (free : is_live b i ≡ false) where
  room : i < length b.places
  room = omega (arith, g.places-are)

  -- the places of the new board, without the new one: nothing was seen there
  before : live_in b.live (set b.places i r) ≡ live_of b
  before =
      live_same b.live (set b.places i r) b.places no_response (length-set b.places i r)
      (λ j t. get_or-set_other b.places i j r no_response (λ e. true≢false (sym t ∙ ap (bit_at b.live) e ∙ free)))

  pub seating : Seating b i r
  seating =
      let ps = set b.places i r in
      let stands : get_or ps i no_response ≡ r = get_or-set_same b.places i r no_response room in
      let in-ps : i < length ps = omega (arith, length-set b.places i r, room) in
      let adds : Inserts r (live_of b) (live_of (seated_at b i r)) =
      rw (seated-is b i r h, with-clear b.live i h free)
      (rw (stands, before) at (more-live b.live i ps no_response in-ps free)) in
      record {
        adds = adds;
        sums = λ f. inserts-sum f adds;
        count = rw (seated-is b i r h) (with-ones b.live i h free);
        stands = rw (seated-is b i r h) stands;
        live = rw (seated-is b i r h) (with-same b.live i h);
        others = λ j n. rw (seated-is b i r h) (get_or-set_other b.places i j r no_response n, with-other b.live i j n);
      }

pub seated-good : (b : Board) (i : ℕ) (r : Response) → Good b → Good (seated_at b i r)
seated-good b i r g =
    ⊎_elim
    (λ h. rw (seated-past b i r h) g)
    (λ h.
    rw (seated-is b i r h)
    (record {
      places-are = length-set b.places i r ∙ g.places-are;
      live-fits = with-fits b.live i g.live-fits;
    }))
    (le-or-lt 64 i)

-- ---- the lowest free place

pub lowest-free : (b : Board) → first_free b < 64 → LowestFree b
lowest-free b h = record { free = clear-is 64 b.live h; lowest = λ j l. clear-least 64 b.live j l }

-- ---- clearing
pub clearing : (b : Board) (i : ℕ) → Good b → is_live b i ≡ true → Clearing b i
clearing b i g t =
    let l = live-lt b i g t in
    let takes = less-live b.live i b.places no_response (omega (arith, g.places-are)) t in
    record {
      takes = takes;
      sums = λ f. inserts-sum f takes;
      count = without-ones b.live i l t;
      dead = without-same b.live i;
      free =
          ⊎_elim
          (λ le. le)
          (λ lt. absurd (true≢false (sym (clear-least 64 (without_bit b.live i) i lt) ∙ without-same b.live i)))
          (le-or-lt (first_free (cleared b i)) i);
    }

-- ---- seating at a live place
pub amending : (b : Board) (i : ℕ) (r : Response) → Good b → is_live b i ≡ true → Amending b i r
amending b i r g t =
    let h = live-lt b i g t in
    let ps = set b.places i r in
    let n : Board = record { places = ps; live = b.live } in
    let is : seated_at b i r ≡ n = seated-is b i r h ∙ ap (λ (w : ℕ). record { places = ps; live = w }) (with-set b.live i t) in
    let good : Good n = record { places-are = length-set b.places i r ∙ g.places-are; live-fits = g.live-fits } in
    let stands : response_at ps i ≡ r = get_or-set_same b.places i r no_response (omega (arith, g.places-are)) in
    let old = clearing b i g t in
    let new = clearing n i good t in
    -- without place i both boards have the same live responses: what stands there is not seen
    let rest : live_of (cleared n i) ≡ live_of (cleared b i) =
    live_same (without_bit b.live i) ps b.places no_response (length-set b.places i r)
    (λ j l. get_or-set_other b.places i j r no_response (without_not b.live i j l)) in
    record {
      takes = old.takes;
      adds = rw is (rw (stands, rest) at new.takes);
      sums = λ f. rw is (omega (arith, old.sums f, rw (stands, rest) at (new.sums f)));
      stands = rw is stands;
      others = λ j k. rw is (get_or-set_other b.places i j r no_response k);
      word = rw is refl;
      count = rw is refl;
    }

pub cleared-dead : (b : Board) (i : ℕ) → is_live b i ≡ false → cleared b i ≡ b
cleared-dead b i t = rw (without-clear b.live i t)

pub cleared-good : (b : Board) (i : ℕ) → Good b → Good (cleared b i)
cleared-good b i g =
    record { places-are = g.places-are; live-fits = omega (arith, g.live-fits, without-le b.live i) }

-- ---- what is not live can't be seen
module _ (b c : Board) (g : Good b) (k : Good c) (e : b.live ≡ c.live) (same : (j : ℕ) → is_live b j ≡ true → response_at b.places j ≡ response_at c.places j) where
  both : length b.places ≡ length c.places
  both = g.places-are ∙ sym k.places-are

  pub unseen-live : live_of b ≡ live_of c
  unseen-live = live_same b.live b.places c.places no_response both same ∙ ap (λ (w : ℕ). live_in w c.places) e

  pub unseen-find : (any : Bool) (s : ℕ) → find_named any b s ≡ find_named any c s
  unseen-find any s =
      find-unseen (is_named any s) b.live b.places c.places no_response both same
      ∙ ap (λ (w : ℕ). find_named any (record { places = c.places; live = w }) s) e

-- ---- finding
module _ (any : Bool) (b : Board) (s : ℕ) (g : Good b) where
  pub find-named : find_named any b s < 64 → NamedAt any b s (find_named any b s)
  find-named h =
      let i = find_named any b s in
      let r = response_at b.places i in
      let hits = find-is (is_named any s) b.live b.places no_response (omega (arith, g.places-are)) in
      let right = and_right (is_live b i) (is_named any s r) hits in
      record {
        live = and_left (is_live b i) (is_named any s r) hits;
        gtx = and_left (any || r.gtx) _ right;
        sequence = eqb-true r.sequence s (and_right (any || r.gtx) _ right);
      }

  pub named-found : (i : ℕ) → NamedAt any b s i → find_named any b s ≤ i
  named-found i a =
      ⊎_elim
      (λ le. le)
      (λ lt.
      let hits = and_both a.live (and_both a.gtx (eq-eqb (response_at b.places i).sequence s a.sequence)) in
      absurd (true≢false (sym hits ∙ find_first (is_named any s) b.live b.places no_response i lt)))
      (le-or-lt (find_named any b s) i)

  pub no-named : ((i : ℕ) → NamedAt any b s i → ⊥) → find_named any b s ≡ 64
  no-named none =
      ⊎_elim
      (λ le. omega (arith, g.places-are, find-le (is_named any s) b.live b.places))
      (λ lt. absurd (none (find_named any b s) (find-named lt)))
      (le-or-lt 64 (find_named any b s))
