-- The keys that a slip holds.
-- Assumes nothing.
use Rattle.std.specs.Prelude.{◌≡◌, ℕ, List, ◌++◌, length, take, Some}
use Rattle.aes.specs.CounterMode.{layered}
use Rattle.aes.specs.Payload.{on_payload}
use Rattle.hash_blocks.specs.Taking.{took_all, joined}
use Rattle.lioness.specs.Lioness.{lioness_add, lioness_remove}
use Rattle.sha_1.specs.Sha1.{sha1}
use Rattle.sha3.specs.Sha3.{sha3}
use Rattle.suites.specs.Ciphers.{cipher_added, cipher_removed}
use Rattle.suites.specs.Digests.{digest_state, digest_tags, digest_takes}
use Rattle.suites.specs.Suites.{suite_of, slip_length, forward_seed, backward_seed, forward_key, backward_key}
use Rattle.suites.specs.declared.keys.HopKeys.{HopKeys}
use Rattle.suites.specs.declared.keys.SuiteCipher.{SuiteCipher}
use Rattle.suites.specs.declared.keys.SuiteDigest.{SuiteDigest}
use Rattle.suites.specs.declared.slip.Suite.{Suite}
use Rattle.suites.specs.declared.slip.Suite.TheVariants.{Aes128Sha1, Aes256Sha3, LionessSha3}

-- layer n under a key, added to 509 bytes
abbrev pub suite_add : Suite → List ℕ → ℕ → List ℕ → List ℕ
suite_add Aes128Sha1 key n = layered 4 key n
suite_add Aes256Sha3 key n = layered 8 key n
suite_add LionessSha3 key n = lioness_add key

-- and removed; counter mode removes a layer by adding it again
abbrev pub suite_remove : Suite → List ℕ → ℕ → List ℕ → List ℕ
suite_remove Aes128Sha1 key n = layered 4 key n
suite_remove Aes256Sha3 key n = layered 8 key n
suite_remove LionessSha3 key n = lioness_remove key

abbrev pub suite_hash : Suite → List ℕ → List ℕ
suite_hash Aes128Sha1 m = sha1 m
suite_hash Aes256Sha3 m = sha3 m
suite_hash LionessSha3 m = sha3 m

-- a cipher with the suite's rule under the key
pub record CipherOf (s : Suite) (key : List ℕ) (c : SuiteCipher) : Type 0 where
  pub adds : (n : ℕ) (p : List ℕ) → cipher_added c n p ≡ on_payload (suite_add s key n) p
  pub removes : (n : ℕ) (p : List ℕ) → cipher_removed c n p ≡ on_payload (suite_remove s key n) p

-- a digest whose tags are of the suite's hash over the seed, the payloads that it took and the one at hand
pub record DigestOf (s : Suite) (seed : List ℕ) (d : SuiteDigest) : Type 0 where
  pub tagged : (ps : List (List ℕ)) (p : List ℕ)
      → digest_tags (took_all digest_takes (digest_state d) ps) p ≡ take 4 (suite_hash s (seed ++ (joined ps ++ p)))

-- the keys of a slip of suite n with these bytes
pub record Opened (n : ℕ) (bytes : List ℕ) (keys : HopKeys) : Type 0 where
  pub suite : Suite
  pub numbered : suite_of n ≡ Some suite
  pub whole : length bytes ≡ slip_length suite
  pub forward_cipher : CipherOf suite (forward_key suite bytes) keys.forward.cipher
  pub forward_digest : DigestOf suite (forward_seed suite bytes) keys.forward.digest
  pub backward_cipher : CipherOf suite (backward_key suite bytes) keys.backward.cipher
  pub backward_digest : DigestOf suite (backward_seed suite bytes) keys.backward.digest
