-- A word as its four bytes, the first the highest; and a column.
-- Assumes nothing.
use Rattle.std.specs.Prelude.{ℕ, ◌+◌, ◌*◌, ◌/◌, ◌%◌, List, [], ◌∷◌}
use Rattle.std.specs.Int.Bits.{bit_xor}
use Rattle.aes_tables.specs.Field.{mul}

unfoldable pub bytes : ℕ → List ℕ
bytes w = (w / 16777216 % 256) ∷ (w / 65536 % 256) ∷ (w / 256 % 256) ∷ (w % 256) ∷ []

abbrev pub word : ℕ → ℕ → ℕ → ℕ → ℕ
word a b c d = a * 16777216 + b * 65536 + c * 256 + d

-- byte by byte, as long as both lists last
abbrev pub xors : List ℕ → List ℕ → List ℕ
xors [] ys = []
xors (x ∷ xs) [] = []
xors (x ∷ xs) (y ∷ ys) = bit_xor x y ∷ xors xs ys

-- MixColumns of one column: the matrix with the rows 2 3 1 1, 1 2 3 1, 1 1 2 3 and 3 1 1 2
abbrev pub mix_column : ℕ → ℕ → ℕ → ℕ → List ℕ
mix_column a b c d =
    bit_xor (bit_xor (bit_xor (mul 2 a) (mul 3 b)) c) d
    ∷ bit_xor (bit_xor (bit_xor a (mul 2 b)) (mul 3 c)) d
    ∷ bit_xor (bit_xor (bit_xor a b) (mul 2 c)) (mul 3 d)
    ∷ bit_xor (bit_xor (bit_xor (mul 3 a) b) c) (mul 2 d)
    ∷ []
