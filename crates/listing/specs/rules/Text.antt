-- Text in bytes: words, and numbers in plain decimal.
use Rattle.std.specs.Prelude.{cond, List, [], ◌∷◌, ◌++◌, ℕ, zero, suc, ◌+◌, ◌/◌, ◌%◌, eqb}
use Prim.Native.Char.{code}
use Prim.Native.String.{String, len, char_at}

-- n bytes of a text, from i on
abbrev pub bytes_from : String → ℕ → ℕ → List ℕ
bytes_from s i zero = []
bytes_from s i (suc n) = code (char_at s i) ∷ bytes_from s (i + 1) n

abbrev pub text : String → List ℕ
text s = bytes_from s 0 (len s)

abbrev pub newline : List ℕ
newline = 10 ∷ []

-- the last digit of a number
abbrev pub digit : ℕ → ℕ
digit n = 48 + n % 10

-- the digits of n, none where it is 0; k are enough for a number below 10 ^ k
unfoldable pub digits : ℕ → ℕ → List ℕ
digits zero n = []
digits (suc k) n = cond (eqb n 0) [] (digits k (n / 10) ++ (digit n ∷ []))

-- plain decimal: 0 has a digit too; a number of 64 bits has at most 20
unfoldable pub decimal : ℕ → List ℕ
decimal n = digits 19 (n / 10) ++ (digit n ∷ [])
