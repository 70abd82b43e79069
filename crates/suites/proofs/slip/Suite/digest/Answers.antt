use Rattle.std.proofs.Common.{ap, ⊎_elim}
use Rattle.suites.specs.Opened.{suite_hash}
use Rattle.suites.specs.declared.slip.Suite.{Suite}
use Rattle.suites.proofs.Taken.{sha1-digest, sha3-digest}
use Rattle.suites.proofs.slip.Suite.digest.Goals as goal

pub returns-in-Aes128Sha1 : goal.returns-in-Aes128Sha1
returns-in-Aes128Sha1 c =
    sha1-digest c.args.self c.args.seed.now c.seeded.result
    (λ m. ap (λ (s : Suite). suite_hash s m) c.in-Aes128Sha1.is) c.seeded.ensures.tags

pub returns-in-Aes256Sha3 : goal.returns-in-Aes256Sha3
returns-in-Aes256Sha3 c =
    sha3-digest c.args.self c.args.seed.now c.seeded-in-Aes256Sha3.result
    (λ m. ⊎_elim (λ e. ap (λ (s : Suite). suite_hash s m) e) (λ e. ap (λ (s : Suite). suite_hash s m) e) c.in-Aes256Sha3.is) c.seeded-in-Aes256Sha3.ensures.tags
