-- What a key schedule stands for: Nr, the words w of the round keys, and what is true of both.
-- Assumes nothing.
use Rattle.std.specs.Prelude.{◌≡◌, ℕ, ◌+◌, ◌*◌, ◌≤◌, List, length, take}
use Rattle.std.proofs.Common.{arith}
use Rattle.std.proofs.lemmas.List.{length-take-le}

-- four words to a round and four before the first; from the ten rounds of AES-128 to the fourteen of AES-256
abbrev pub Sound : ℕ → List ℕ → Type 0
Sound rounds words = (length words ≡ 4 * (rounds + 1)) × (10 ≤ rounds) × (rounds ≤ 14)

pub record Schedule : Type 0 where
  pub rounds : ℕ
  pub words : List ℕ
  pub sound : Sound rounds words

-- so it is where the words are the first of an array of 60
pub used-sound : (rounds : ℕ) (words : List ℕ) → (length words ≡ 60) × (10 ≤ rounds) × (rounds ≤ 14) → Sound rounds (take (4 * (rounds + 1)) words)
used-sound rounds words s = (length-take-le (4 * (rounds + 1)) words (omega (arith, s)), s.1, s.2)
