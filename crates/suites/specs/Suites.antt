-- The suites by number, and the parts of their slips: Df, Db, Kf and Kb, joined.
-- Assumes nothing.
use Rattle.std.specs.Prelude.{◌≡◌, MatchResult, Result, ℕ, ◌+◌, ◌*◌, cond, List, take, drop, Some, None, Option, ◌==◌}
use Rattle.suites.specs.declared.faults.SlipError.{SlipError}
use Rattle.suites.specs.declared.faults.SlipError.TheVariants.{Suite as NoSuite, Length}
use Rattle.suites.specs.declared.faults.SlipFault.{SlipFault}
use Rattle.suites.specs.declared.slip.Suite.{Suite}
use Rattle.suites.specs.declared.slip.Suite.TheVariants.{Aes128Sha1, Aes256Sha3, LionessSha3}

abbrev pub suite_of : ℕ → Option Suite
suite_of n = cond (n == 1) (Some Aes128Sha1) (cond (n == 2) (Some Aes256Sha3) (cond (n == 3) (Some LionessSha3) None))

-- the result is the suite with this number, or the refusal of a number that no suite has
abbrev pub NumberedBy : ℕ → Result Suite SlipError → Type 0
NumberedBy n r = MatchResult r (λ s. suite_of n ≡ Some s) (λ e. (suite_of n ≡ None) × (e ≡ NoSuite))

-- the bytes of a digest seed
abbrev pub seed_length : Suite → ℕ
seed_length Aes128Sha1 = 20
seed_length Aes256Sha3 = 32
seed_length LionessSha3 = 32

-- the bytes of a cipher key
abbrev pub key_length : Suite → ℕ
key_length Aes128Sha1 = 16
key_length Aes256Sha3 = 32
key_length LionessSha3 = 128

-- 72, 128 and 320
abbrev pub slip_length : Suite → ℕ
slip_length s = 2 * seed_length s + 2 * key_length s

abbrev pub forward_seed : Suite → List ℕ → List ℕ
forward_seed s bytes = take (seed_length s) bytes

abbrev pub backward_seed : Suite → List ℕ → List ℕ
backward_seed s bytes = take (seed_length s) (drop (seed_length s) bytes)

abbrev pub forward_key : Suite → List ℕ → List ℕ
forward_key s bytes = take (key_length s) (drop (2 * seed_length s) bytes)

abbrev pub backward_key : Suite → List ℕ → List ℕ
backward_key s bytes = take (key_length s) (drop (2 * seed_length s + key_length s) bytes)

abbrev length_fault : Option Suite → ℕ → ℕ → Option SlipFault
length_fault None len place = Some (record { at = place; error = NoSuite })
length_fault (Some s) len place = cond (len == slip_length s) None (Some (record { at = place; error = Length }))

-- what a slip of suite n with len bytes, at a place, is refused for
abbrev pub slip_fault : ℕ → ℕ → ℕ → Option SlipFault
slip_fault n len place = length_fault (suite_of n) len place
