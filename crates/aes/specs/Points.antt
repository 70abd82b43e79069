-- The definitions at worked points, and at the examples of FIPS 197.
-- Assumes nothing.
use Rattle.std.specs.Prelude.{◌≡◌, ℕ, ◌+◌, List, [], ◌∷◌, length, bit_xor, slice_index}
use Rattle.aes_tables.specs.Field.{S}
use Rattle.aes.specs.Cipher.{cipher}
use Rattle.aes.specs.CounterMode.{layered}
use Rattle.aes.specs.KeyExpansion.{expanded}
use Rattle.aes.specs.KeyStream.{counter_block}

-- the first byte of layer n is exclusive-ored with byte j of the enciphered counter c
abbrev pub StartsAt : ℕ → ℕ → ℕ → Type 0
StartsAt n c j =
    (nk : ℕ) (key p : List ℕ) → length p ≡ 509
    → slice_index (layered nk key n p) 0 ≡ bit_xor (slice_index p 0) (slice_index (cipher (nk + 6) (expanded nk key) (counter_block c)) j)

pub record WorkedPoints : Type 0 where
  pub s-of-00 : S 0x00 ≡ 0x63
  pub s-of-53 : S 0x53 ≡ 0xED
  pub layer-1 : StartsAt 1 31 13
  pub layer-16 : StartsAt 16 509 0

-- a layer undoes itself
abbrev pub LayerTwice : Type 0
LayerTwice = (nk n : ℕ) (key p : List ℕ) → layered nk key n (layered nk key n p) ≡ p

abbrev pub plaintext : List ℕ
plaintext = 0x00 ∷ 0x11 ∷ 0x22 ∷ 0x33 ∷ 0x44 ∷ 0x55 ∷ 0x66 ∷ 0x77 ∷ 0x88 ∷ 0x99 ∷ 0xAA ∷ 0xBB ∷ 0xCC ∷ 0xDD ∷ 0xEE ∷ 0xFF ∷ []

abbrev pub key128 : List ℕ
key128 = 0x00 ∷ 0x01 ∷ 0x02 ∷ 0x03 ∷ 0x04 ∷ 0x05 ∷ 0x06 ∷ 0x07 ∷ 0x08 ∷ 0x09 ∷ 0x0A ∷ 0x0B ∷ 0x0C ∷ 0x0D ∷ 0x0E ∷ 0x0F ∷ []

abbrev pub ciphertext128 : List ℕ
ciphertext128 = 0x69 ∷ 0xC4 ∷ 0xE0 ∷ 0xD8 ∷ 0x6A ∷ 0x7B ∷ 0x04 ∷ 0x30 ∷ 0xD8 ∷ 0xCD ∷ 0xB7 ∷ 0x80 ∷ 0x70 ∷ 0xB4 ∷ 0xC5 ∷ 0x5A ∷ []

-- FIPS 197, C.1
abbrev pub Example128 : Type 0
Example128 = cipher 10 (expanded 4 key128) plaintext ≡ ciphertext128

abbrev pub key256 : List ℕ
key256 =
    0x00 ∷ 0x01 ∷ 0x02 ∷ 0x03 ∷ 0x04 ∷ 0x05 ∷ 0x06 ∷ 0x07 ∷ 0x08 ∷ 0x09 ∷ 0x0A ∷ 0x0B ∷ 0x0C ∷ 0x0D ∷ 0x0E ∷ 0x0F
    ∷ 0x10 ∷ 0x11 ∷ 0x12 ∷ 0x13 ∷ 0x14 ∷ 0x15 ∷ 0x16 ∷ 0x17 ∷ 0x18 ∷ 0x19 ∷ 0x1A ∷ 0x1B ∷ 0x1C ∷ 0x1D ∷ 0x1E ∷ 0x1F
    ∷ []

abbrev pub ciphertext256 : List ℕ
ciphertext256 = 0x8E ∷ 0xA2 ∷ 0xB7 ∷ 0xCA ∷ 0x51 ∷ 0x67 ∷ 0x45 ∷ 0xBF ∷ 0xEA ∷ 0xFC ∷ 0x49 ∷ 0x90 ∷ 0x4B ∷ 0x49 ∷ 0x60 ∷ 0x89 ∷ []

-- FIPS 197, C.3
abbrev pub Example256 : Type 0
Example256 = cipher 14 (expanded 8 key256) plaintext ≡ ciphertext256
