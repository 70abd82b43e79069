use Rattle.std.proofs.Common.{sym, ap, ◌∙◌}
use Rattle.suites.specs.Digests.{in_sha3, digest_state, digest_tags, digest_takes}
use Rattle.suites.specs.declared.keys.SuiteDigest.{SuiteDigest}
use Rattle.suites.proofs.digests.SuiteDigestDigest.trial.Goals as goal

pub returns-in-Sha3-clause-tag : goal.returns-in-Sha3-clause-tag
returns-in-Sha3-clause-tag c =
    c.wrapped-in-Sha3.ensures.tag ∙ c.trial-in-Sha3.ensures.tag
    ∙ sym (ap (λ (d : SuiteDigest). digest_tags (digest_state d) c.args.payload.now) c.in-Sha3.is)

pub returns-in-Sha3-clause-taken : goal.returns-in-Sha3-clause-taken
returns-in-Sha3-clause-taken c =
    ap digest_state c.wrapped-in-Sha3.ensures.taken ∙ ap in_sha3 c.trial-in-Sha3.ensures.taken
    ∙ sym (ap (λ (d : SuiteDigest). digest_takes (digest_state d) c.args.payload.now) c.in-Sha3.is)
