-- A digest stays of its kind, whatever it takes, and so keeps the tags of its hash.
-- Assumes nothing.
use Rattle.std.proofs.Common.{◌≡◌, ℕ, List, [], ◌∷◌, ◌++◌, take, sym, refl, ap, ◌∙◌}
use Rattle.hash_blocks.specs.Taking.{took_all, joined}
use Rattle.sha_1.specs.Digests as one
use Rattle.sha_1.specs.Sha1.{sha1}
use Rattle.sha_1.specs.declared.running.Sha1.{Sha1}
use Rattle.sha3.specs.Digests as three
use Rattle.sha3.specs.Sha3.{sha3}
use Rattle.sha3.specs.declared.running.Sha3.{Sha3}
use Rattle.suites.specs.Digests.{DigestState, in_sha1, in_sha3, digest_tags, digest_takes}
use Rattle.suites.specs.Opened.{DigestOf, suite_hash}
use Rattle.suites.specs.declared.keys.SuiteDigest.TheVariants as inner
use Rattle.suites.specs.declared.slip.Suite.{Suite}

took-sha1 : (s : one.Sha1State) (ps : List (List ℕ)) → took_all digest_takes (in_sha1 s) ps ≡ in_sha1 (took_all one.takes s ps)
took-sha1 s [] = refl
took-sha1 s (p ∷ ps) = took-sha1 (one.takes s p) ps

took-sha3 : (s : three.Sha3State) (ps : List (List ℕ)) → took_all digest_takes (in_sha3 s) ps ≡ in_sha3 (took_all three.takes s ps)
took-sha3 s [] = refl
took-sha3 s (p ∷ ps) = took-sha3 (three.takes s p) ps

module _ (s : Suite) (seed : List ℕ) where
  pub sha1-digest : (d : Sha1) → ((m : List ℕ) → suite_hash s m ≡ sha1 m)
      → ((ps : List (List ℕ)) (p : List ℕ) → one.tags (took_all one.takes (one.state_of d) ps) p ≡ take 4 (sha1 (seed ++ (joined ps ++ p))))
      → DigestOf s seed (inner.Sha1 d)
  sha1-digest d hash tags = record {
    tagged = λ ps p. ap (λ (v : DigestState). digest_tags v p) (took-sha1 (one.state_of d) ps) ∙ tags ps p ∙ sym (ap (take 4) (hash (seed ++ (joined ps ++ p))));
  }

  pub sha3-digest : (d : Sha3) → ((m : List ℕ) → suite_hash s m ≡ sha3 m)
      → ((ps : List (List ℕ)) (p : List ℕ) → three.tags (took_all three.takes (three.state_of d) ps) p ≡ take 4 (sha3 (seed ++ (joined ps ++ p))))
      → DigestOf s seed (inner.Sha3 d)
  sha3-digest d hash tags = record {
    tagged = λ ps p. ap (λ (v : DigestState). digest_tags v p) (took-sha3 (three.state_of d) ps) ∙ tags ps p ∙ sym (ap (take 4) (hash (seed ++ (joined ps ++ p))));
  }
