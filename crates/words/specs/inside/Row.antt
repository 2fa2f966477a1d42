-- A row of words in a list of bytes.
use Rattle.std.specs.Prelude.{List, [], ◌∷◌, ℕ, zero, suc, ◌+◌}
use Rattle.words.specs.rules.Bytes.{word_at}

-- n words, from `at` on
abbrev pub words_from : List ℕ → ℕ → ℕ → List ℕ
words_from s at zero = []
words_from s at (suc n) = word_at s at ∷ words_from s (at + 4) n
