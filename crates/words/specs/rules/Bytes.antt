-- Words in a list of bytes, the lowest byte first.
use Rattle.std.specs.Prelude.{cond, List, [], ◌∷◌, ◌++◌, ℕ, ◌+◌, ◌*◌, ◌/◌, ◌%◌, ◌<◌, leb, length, get_or}
use Rattle.std.proofs.lemmas.List.Edits.{sets}

-- every element is a byte
abbrev pub AllBytes : List ℕ → Type 0
AllBytes s = (i : ℕ) → get_or s i 0 < 256

-- the number that four bytes say
abbrev pub joined : ℕ → ℕ → ℕ → ℕ → ℕ
joined a b c d = a + b * 256 + c * 65536 + d * 16777216

-- the four bytes of a number
abbrev pub u32_bytes : ℕ → List ℕ
u32_bytes v = v % 256 ∷ v / 256 % 256 ∷ v / 65536 % 256 ∷ v / 16777216 % 256 ∷ []

-- the bytes of a row of words
abbrev pub word_bytes : List ℕ → List ℕ
word_bytes [] = []
word_bytes (v ∷ vs) = u32_bytes v ++ word_bytes vs

-- the word at `at`; 0 where the bytes end before it does
unfoldable pub word_at : List ℕ → ℕ → ℕ
word_at s at = cond (leb (at + 4) (length s)) (joined (get_or s at 0) (get_or s (at + 1) 0) (get_or s (at + 2) 0) (get_or s (at + 3) 0)) 0

-- the bytes with a row of words from `at` on; as they are where they end before the last does
unfoldable pub with_words : List ℕ → ℕ → List ℕ → List ℕ
with_words s at ws = cond (leb (at + length ws * 4) (length s)) (sets s at (word_bytes ws)) s
