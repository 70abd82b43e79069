-- What the digest of a suite stands for, and its two rules.
-- Assumes nothing.
use Rattle.std.specs.Prelude.{ℕ, List}
use Rattle.sha_1.specs.Digests as one
use Rattle.sha3.specs.Digests as three
use Rattle.suites.specs.declared.keys.SuiteDigest.{SuiteDigest}
use Rattle.suites.specs.declared.keys.SuiteDigest.TheVariants.{Sha1, Sha3}

pub data DigestState : Type 0 where
  in_sha1 : one.Sha1State → DigestState
  in_sha3 : three.Sha3State → DigestState

abbrev pub digest_state : SuiteDigest → DigestState
digest_state (Sha1 d) = in_sha1 (one.state_of d)
digest_state (Sha3 d) = in_sha3 (three.state_of d)

abbrev pub digest_takes : DigestState → List ℕ → DigestState
digest_takes (in_sha1 s) p = in_sha1 (one.takes s p)
digest_takes (in_sha3 s) p = in_sha3 (three.takes s p)

abbrev pub digest_tags : DigestState → List ℕ → List ℕ
digest_tags (in_sha1 s) p = one.tags s p
digest_tags (in_sha3 s) p = three.tags s p
