use Rattle.std.proofs.Common.{◌++◌, ap, ◌∙◌}
use Rattle.sha3.specs.Digests.{Sha3State, state_of, empty, takes}
use Rattle.sha3.specs.Sha3.{squeezed}
use Rattle.sha3.proofs.Ends.{took-first, took_more, finish-took}
use Rattle.sha3.proofs.digest.sha3_256_of_two.Goals as goal

pub returns : goal.returns
returns c =
    c.squeeze.ensures
    ∙ ap squeezed c.finished.ensures
    ∙ finish-took (state_of c.take_both.new.digest) (c.args.first.now ++ c.args.second.now)
    (c.take_both.ensures
    ∙ ap (λ (s : Sha3State). takes (takes s c.args.first.now) c.args.second.now) c.empty-digest.ensures
    ∙ took_more (takes empty c.args.first.now) c.args.first.now c.args.second.now (took-first c.args.first.now))
