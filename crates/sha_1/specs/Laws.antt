-- Laws of the definitions.
use Rattle.std.specs.Prelude.{◌≡◌, ℕ, ◌+◌, ◌-◌, ◌*◌, ◌/◌, ◌%◌, ◌<◌, ◌≤◌, cond, List, [], ◌∷◌, ◌++◌, length, nat_lt, slice_index}
use Rattle.sha_1.specs.Sha1.{schedule, M, mixed, padding, sha1}

abbrev pub W : List ℕ → ℕ → ℕ
W block t = slice_index (schedule block) t

pub record ScheduleLaw (block : List ℕ) : Type 0 where
  pub count : length (schedule block) ≡ 80
  pub first : (t : ℕ) → t < 16 → W block t ≡ M block t
  pub later : (t : ℕ) → 16 ≤ t → t < 80 → W block t ≡ mixed (W block (t - 3)) (W block (t - 8)) (W block (t - 14)) (W block (t - 16))

-- the blocks that a message of n bytes is padded to
abbrev pub block_count : ℕ → ℕ
block_count n = cond (nat_lt (n % 64) 56) (n / 64 + 1) (n / 64 + 2)

-- 55 bytes are padded to one block, and 56 bytes to two
pub record PaddingBoundary : Type 0 where
  pub one : (m : List ℕ) → length m ≡ 55 → length (m ++ padding (length m)) ≡ 64
  pub two : (m : List ℕ) → length m ≡ 56 → length (m ++ padding (length m)) ≡ 128

-- the message "abc"
abbrev pub Abc : Type 0
Abc = sha1 (97 ∷ 98 ∷ 99 ∷ [])
    ≡ (0xa9 ∷ 0x99 ∷ 0x3e ∷ 0x36 ∷ 0x47 ∷ 0x06 ∷ 0x81 ∷ 0x6a ∷ 0xba ∷ 0x3e ∷ 0x25 ∷ 0x71 ∷ 0x78 ∷ 0x50 ∷ 0xc2 ∷ 0x6c ∷ 0x9c ∷ 0xd0 ∷ 0xd8 ∷ 0x9d ∷ [])

pub record Sha1Laws : Type 0 where
  pub schedule : (block : List ℕ) → ScheduleLaw block
  pub padded : (m : List ℕ) → length (m ++ padding (length m)) ≡ 64 * block_count (length m)
  pub boundary : PaddingBoundary
  pub abc : Abc
