-- SHA3-256 as FIPS 202 defines it: the sponge at a rate of 136 bytes.
use Rattle.std.specs.Prelude.{ℕ, ◌+◌, ◌-◌, ◌*◌, ◌/◌, ◌%◌, ◌^◌, List, [], ◌∷◌, ◌++◌, map, length, replicate, bit_xor, slice_index, slice_set}
use Rattle.std.specs.List.{range_with_len}
use Rattle.hash_blocks.specs.Blocks.{blocks}
use Rattle.sha3.specs.Keccak.{keccak}

-- lane i of a block, least byte first, and of zeros past the block's end
abbrev pub block_lane : List ℕ → ℕ → ℕ
block_lane bs i = slice_index bs (8 * i) + slice_index bs (8 * i + 1) * 256 ^ 1 + slice_index bs (8 * i + 2) * 256 ^ 2 + slice_index bs (8 * i + 3) * 256 ^ 3
    + slice_index bs (8 * i + 4) * 256 ^ 4 + slice_index bs (8 * i + 5) * 256 ^ 5 + slice_index bs (8 * i + 6) * 256 ^ 6 + slice_index bs (8 * i + 7) * 256 ^ 7

unfoldable pub xor_block : List ℕ → List ℕ → List ℕ
xor_block a bs = map (λ i. bit_xor (slice_index a i) (block_lane bs i)) (range_with_len 0 25)

abbrev pub absorb_block : List ℕ → List ℕ → List ℕ
absorb_block a bs = keccak (xor_block a bs)

-- the suffix 01 and pad10*1: 0x06, zeros to a multiple of 136 bytes, and 0x80 in the last byte
abbrev pub last_marked : List ℕ → List ℕ
last_marked xs = slice_set xs (length xs - 1) (bit_xor (slice_index xs (length xs - 1)) 0x80)

abbrev pub padding : ℕ → List ℕ
padding n = last_marked (0x06 ∷ replicate (135 - n % 136) 0)

abbrev pub le64 : ℕ → List ℕ
le64 x = (x % 256) ∷ (x / 256 % 256) ∷ (x / 256 ^ 2 % 256) ∷ (x / 256 ^ 3 % 256) ∷ (x / 256 ^ 4 % 256) ∷ (x / 256 ^ 5 % 256) ∷ (x / 256 ^ 6 % 256) ∷ (x / 256 ^ 7 % 256) ∷ []

abbrev pub zero_state : List ℕ
zero_state = replicate 25 0

-- the first 32 bytes of a state
abbrev pub squeezed : List ℕ → List ℕ
squeezed a = le64 (slice_index a 0) ++ (le64 (slice_index a 1) ++ (le64 (slice_index a 2) ++ le64 (slice_index a 3)))

unfoldable pub sha3 : List ℕ → List ℕ
sha3 m = squeezed (blocks 136 absorb_block zero_state (m ++ padding (length m)))
