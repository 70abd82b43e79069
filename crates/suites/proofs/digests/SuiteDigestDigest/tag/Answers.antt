use Rattle.std.proofs.Common.{sym, ap, ◌∙◌}
use Rattle.suites.specs.Digests.{digest_state, digest_tags}
use Rattle.suites.specs.declared.keys.SuiteDigest.{SuiteDigest}
use Rattle.suites.proofs.digests.SuiteDigestDigest.tag.Goals as goal

pub returns-in-Sha3 : goal.returns-in-Sha3
returns-in-Sha3 c =
    c.tag-in-Sha3.ensures ∙ sym (ap (λ (d : SuiteDigest). digest_tags (digest_state d) c.args.payload.now) c.in-Sha3.is)
