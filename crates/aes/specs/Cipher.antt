-- The cipher of FIPS 197 on a state of 16 bytes. Byte i of the state is row i mod 4 of column i div 4.
-- Assumes nothing.
use Rattle.std.specs.Prelude.{ℕ, zero, suc, ◌+◌, ◌-◌, ◌*◌, ◌/◌, ◌%◌, List, [], ◌∷◌, ◌++◌, map, slice_index}
use Rattle.std.specs.List.{range_with_len}
use Rattle.aes_tables.specs.Field.{S}
use Rattle.aes_tables.specs.Words.{bytes, mix_column, xors}
use Rattle.aes.specs.declared.Columns.{Columns}

-- row r of column c
abbrev pub entry : List ℕ → ℕ → ℕ → ℕ
entry s r c = slice_index s (r + 4 * c)

unfoldable pub sub_bytes : List ℕ → List ℕ
sub_bytes s = map S s

-- row r of column c comes from column c + r mod 4
unfoldable pub shift_rows : List ℕ → List ℕ
shift_rows s = map (λ i. entry s (i % 4) ((i / 4 + i % 4) % 4)) (range_with_len 0 16)

abbrev pub mixed_column : List ℕ → ℕ → List ℕ
mixed_column s c = mix_column (entry s 0 c) (entry s 1 c) (entry s 2 c) (entry s 3 c)

unfoldable pub mix_columns : List ℕ → List ℕ
mix_columns s = mixed_column s 0 ++ (mixed_column s 1 ++ (mixed_column s 2 ++ mixed_column s 3))

unfoldable pub add_round_key : List ℕ → List ℕ → List ℕ
add_round_key s k = xors s k

-- the 16 bytes of words 4 i to 4 i + 3
unfoldable pub round_key : List ℕ → ℕ → List ℕ
round_key w i =
    bytes (slice_index w (4 * i)) ++ (bytes (slice_index w (4 * i + 1)) ++ (bytes (slice_index w (4 * i + 2)) ++ bytes (slice_index w (4 * i + 3))))

unfoldable pub round : List ℕ → List ℕ → List ℕ
round s k = add_round_key (mix_columns (shift_rows (sub_bytes s))) k

unfoldable pub last_round : List ℕ → List ℕ → List ℕ
last_round s k = add_round_key (shift_rows (sub_bytes s)) k

-- rounds 1 to n, each with its key
unfoldable pub rounds : ℕ → List ℕ → List ℕ → List ℕ
rounds zero w s = s
rounds (suc n) w s = round (rounds n w s) (round_key w (suc n))

-- Cipher(in, Nr, w)
unfoldable pub cipher : ℕ → List ℕ → List ℕ → List ℕ
cipher nr w s = last_round (rounds (nr - 1) w (add_round_key s (round_key w 0))) (round_key w nr)

-- the bytes of a state that is held as four words
unfoldable pub block : Columns → List ℕ
block s = bytes s.c0 ++ (bytes s.c1 ++ (bytes s.c2 ++ bytes s.c3))

-- column j, modulo 4, as its word
abbrev pub column_at : Columns → ℕ → ℕ
column_at s j = slice_index (s.c0 ∷ s.c1 ∷ s.c2 ∷ s.c3 ∷ []) (j % 4)

-- column j of a round: row r comes from column j + r
abbrev pub round_column : Columns → Columns → ℕ → List ℕ
round_column s k j =
    xors
    (mix_column (S (column_at s j / 16777216 % 256)) (S (column_at s (j + 1) / 65536 % 256)) (S (column_at s (j + 2) / 256 % 256)) (S (column_at s (j + 3) % 256)))
    (bytes (column_at k j))
