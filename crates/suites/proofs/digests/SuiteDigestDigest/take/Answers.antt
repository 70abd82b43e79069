use Rattle.std.proofs.Common.{sym, ap, ◌∙◌}
use Rattle.suites.specs.Digests.{in_sha3, digest_state, digest_takes}
use Rattle.suites.specs.declared.keys.SuiteDigest.{SuiteDigest}
use Rattle.suites.proofs.digests.SuiteDigestDigest.take.Goals as goal

pub returns-in-Sha3 : goal.returns-in-Sha3
returns-in-Sha3 c =
    ap in_sha3 c.take-in-Sha3.ensures ∙ sym (ap (λ (d : SuiteDigest). digest_takes (digest_state d) c.args.payload.now) c.in-Sha3.is)
