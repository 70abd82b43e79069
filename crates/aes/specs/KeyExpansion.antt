-- KeyExpansion of FIPS 197, for keys of nk = 4 or 8 words. A word is the number of its four bytes, the first the highest.
-- Assumes nothing.
use Rattle.std.specs.Prelude.{ℕ, zero, suc, ◌+◌, ◌-◌, ◌*◌, ◌/◌, ◌%◌, cond, List, [], ◌∷◌, ◌++◌, map, ◌==◌, bit_xor, nat_lt, slice_index}
use Rattle.std.specs.List.{range_with_len}
use Rattle.aes_tables.specs.Field.{S, power}
use Rattle.aes_tables.specs.Words.{word}

-- S at each byte
abbrev pub sub_word : ℕ → ℕ
sub_word w = word (S (w / 16777216 % 256)) (S (w / 65536 % 256)) (S (w / 256 % 256)) (S (w % 256))

-- the bytes rotated left by one
unfoldable pub rot_word : ℕ → ℕ
rot_word w = word (w / 65536 % 256) (w / 256 % 256) (w % 256) (w / 16777216 % 256)

-- Rcon[j]: x^(j - 1), 0, 0, 0
abbrev pub rcon : ℕ → ℕ
rcon j = word (power (j - 1)) 0 0 0

-- temp, from w[i - 1]
unfoldable pub temp : ℕ → ℕ → ℕ → ℕ
temp nk i w =
    cond (i % nk == 0) (bit_xor (sub_word (rot_word w)) (rcon (i / nk)))
    (cond (nat_lt 6 nk) (cond (i % nk == 4) (sub_word w) w) w)

-- w[i] = w[i - nk] xor temp
unfoldable pub next : ℕ → ℕ → List ℕ → ℕ
next nk i w = bit_xor (slice_index w (i - nk)) (temp nk i (slice_index w (i - 1)))

-- n words more, after the first nk
unfoldable pub extended : ℕ → ℕ → List ℕ → List ℕ
extended nk zero w = w
extended nk (suc n) w = extended nk n w ++ (next nk (nk + n) (extended nk n w) ∷ [])

-- bytes 4 i to 4 i + 3
abbrev pub word_at : List ℕ → ℕ → ℕ
word_at key i = word (slice_index key (4 * i)) (slice_index key (4 * i + 1)) (slice_index key (4 * i + 2)) (slice_index key (4 * i + 3))

-- the first nk words
unfoldable pub key_words : ℕ → List ℕ → List ℕ
key_words nk key = map (word_at key) (range_with_len 0 nk)

-- all 4 (Nr + 1) words, where Nr = nk + 6
unfoldable pub expanded : ℕ → List ℕ → List ℕ
expanded nk key = extended nk (3 * nk + 28) (key_words nk key)
