-- Laws of the definitions.
use Rattle.std.specs.Prelude.{◌≡◌, ℕ, ◌+◌, ◌*◌, ◌/◌, ◌<◌, List, [], ◌∷◌, ◌++◌, length}
use Rattle.sha3.specs.Keccak.{offsets, constants, pi, lane}
use Rattle.sha3.specs.Sha3.{sha3, padding}

-- the offsets and the round constants as tables
abbrev pub offset_table : List ℕ
offset_table = 0 ∷ 1 ∷ 62 ∷ 28 ∷ 27 ∷ 36 ∷ 44 ∷ 6 ∷ 55 ∷ 20 ∷ 3 ∷ 10 ∷ 43 ∷ 25 ∷ 39 ∷ 41 ∷ 45 ∷ 15 ∷ 21 ∷ 8 ∷ 18 ∷ 2 ∷ 61 ∷ 56 ∷ 14 ∷ []

abbrev pub constant_table : List ℕ
constant_table = 0x0000000000000001 ∷ 0x0000000000008082 ∷ 0x800000000000808A ∷ 0x8000000080008000 ∷ 0x000000000000808B ∷ 0x0000000080000001 ∷ 0x8000000080008081 ∷ 0x8000000000008009 ∷ 0x000000000000008A ∷ 0x0000000000000088 ∷ 0x0000000080008009 ∷ 0x000000008000000A ∷ 0x000000008000808B ∷ 0x800000000000008B ∷ 0x8000000000008089 ∷ 0x8000000000008003 ∷ 0x8000000000008002 ∷ 0x8000000000000080 ∷ 0x000000000000800A ∷ 0x800000008000000A ∷ 0x8000000080008081 ∷ 0x8000000000008080 ∷ 0x0000000080000001 ∷ 0x8000000080008008 ∷ []

-- the message "abc"
abbrev pub Abc : Type 0
Abc = sha3 (97 ∷ 98 ∷ 99 ∷ [])
    ≡ (0x3a ∷ 0x98 ∷ 0x5d ∷ 0xa7 ∷ 0x4f ∷ 0xe2 ∷ 0x25 ∷ 0xb2 ∷ 0x04 ∷ 0x5c ∷ 0x17 ∷ 0x2d ∷ 0x6b ∷ 0xd3 ∷ 0x90 ∷ 0xbd ∷ 0x85 ∷ 0x5f ∷ 0x08 ∷ 0x6e ∷ 0x3e ∷ 0x9d ∷ 0x52 ∷ 0x5b ∷ 0x46 ∷ 0xbf ∷ 0xe2 ∷ 0x45 ∷ 0x11 ∷ 0x43 ∷ 0x15 ∷ 0x32 ∷ [])

pub record Sha3Laws : Type 0 where
  pub walked : offsets ≡ offset_table
  pub shifted : constants ≡ constant_table
  pub goes : (a : List ℕ) (x y : ℕ) → x < 5 → y < 5 → lane (pi a) y (2 * x + 3 * y) ≡ lane a x y
  pub padded : (m : List ℕ) → length (m ++ padding (length m)) ≡ 136 * (length m / 136 + 1)
  pub abc : Abc
