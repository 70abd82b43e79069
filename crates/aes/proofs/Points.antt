-- The statements of specs/Points.antt.
-- Assumes nothing.
use Rattle.std.proofs.Common.{◌≡◌, ℕ, ◌+◌, ◌*◌, List, [], ◌∷◌, map, length, get_or, refl, ap, ◌∙◌, arith}
use lib.Bits.{bit_xor}
use Rattle.std.specs.List.{range_with_len}
use Rattle.aes_tables.specs.Field.{xtimes, mul_bits, mul, inverse_below, inverse, rotl, affine, S, power}
use Rattle.aes_tables.specs.Words.{bytes, xors}
use Rattle.aes.specs.Cipher.{sub_bytes, shift_rows, mix_columns, add_round_key, round, last_round, round_key, rounds, cipher}
use Rattle.aes.specs.KeyExpansion.{rot_word, temp, next, extended, key_words, expanded}
use Rattle.aes.specs.KeyStream.{stream_at, stream_block, streamed}
use Rattle.aes.specs.Points.{WorkedPoints, StartsAt, LayerTwice, Example128, Example256}
use Rattle.aes.specs.Stream.{streamed-is}
use Rattle.aes.specs.Layers.{streamed-twice}

s-of-00 : S 0x00 ≡ 0x63
unfolding xtimes mul_bits mul inverse_below inverse rotl affine S
s-of-00 = refl

s-of-53 : S 0x53 ≡ 0xED
unfolding xtimes mul_bits mul inverse_below inverse rotl affine S
s-of-53 = refl

first_byte : (f : ℕ → ℕ) (at : ℕ) (p : List ℕ) → length p ≡ 509 → get_or (xors p (map f (range_with_len at (length p)))) 0 0 ≡ bit_xor (get_or p 0 0) (f at)
first_byte f at [] is = absurd (omega arith)
first_byte f at (x ∷ p) is = refl

starts-at : (nr : ℕ) (w : List ℕ) (at : ℕ) (p : List ℕ) → length p ≡ 509 → get_or (streamed nr w at p) 0 0 ≡ bit_xor (get_or p 0 0) (stream_at nr w at)
starts-at nr w at p is = ap (λ (v : List ℕ). get_or v 0 0) (streamed-is nr w at p) ∙ first_byte (stream_at nr w) at p is

layer-1 : StartsAt 1 31 13
unfolding stream_at stream_block
layer-1 nk key p is = starts-at (nk + 6) (expanded nk key) 509 p is

layer-16 : StartsAt 16 509 0
unfolding stream_at stream_block
layer-16 nk key p is = starts-at (nk + 6) (expanded nk key) 8144 p is

pub worked-points : WorkedPoints
worked-points = record { s-of-00 = s-of-00; s-of-53 = s-of-53; layer-1 = layer-1; layer-16 = layer-16 }

pub layered-twice : LayerTwice
layered-twice nk n key p = streamed-twice (nk + 6) (expanded nk key) (509 * n) p

pub example128 : Example128
unfolding xtimes mul_bits mul inverse_below inverse rotl affine S bytes sub_bytes shift_rows mix_columns add_round_key round last_round round_key rounds cipher power rot_word temp next extended key_words expanded
example128 = refl

pub example256 : Example256
unfolding xtimes mul_bits mul inverse_below inverse rotl affine S bytes sub_bytes shift_rows mix_columns add_round_key round last_round round_key rounds cipher power rot_word temp next extended key_words expanded
example256 = refl
