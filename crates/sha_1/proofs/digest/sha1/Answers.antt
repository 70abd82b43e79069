use Rattle.std.proofs.Common.{ap, ◌∙◌}
use Rattle.sha_1.specs.Digests.{empty, takes, finish}
use Rattle.sha_1.specs.Sha1.{digest_bytes}
use Rattle.sha_1.proofs.Ends.{took-first, finish-took}
use Rattle.sha_1.proofs.digest.sha1.Goals as goal

pub returns : goal.returns
returns c =
    c.digest_bytes.ensures
    ∙ ap digest_bytes (c.finished.ensures ∙ ap finish c.seeded.ensures.state)
    ∙ finish-took (takes empty c.args.message.now) c.args.message.now (took-first c.args.message.now)
