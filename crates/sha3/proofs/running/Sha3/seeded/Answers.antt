use Rattle.std.proofs.Common.{◌≡◌, ℕ, List, ap, ◌∙◌}
use Rattle.hash_blocks.specs.Taking.{took_all}
use Rattle.sha3.specs.Digests.{Sha3State, state_of, empty, takes, tags}
use Rattle.sha3.proofs.Ends.{took-first, tags-took}
use Rattle.sha3.proofs.running.Sha3.seeded.Goals as goal

pub returns-clause-tags : goal.returns-clause-tags
returns-clause-tags c =
    let seed : List ℕ = c.args.seed.now in
    let e : state_of c.take.new.self ≡ takes empty seed = c.take.ensures ∙ ap (λ (s : Sha3State). takes s seed) c.empty-digest.ensures in
    λ ps p. ap (λ (s : Sha3State). tags (took_all takes s ps) p) e ∙ tags-took (takes empty seed) seed (took-first seed) ps p

pub returns-clause-state : goal.returns-clause-state
returns-clause-state c = c.take.ensures ∙ ap (λ (s : Sha3State). takes s c.args.seed.now) c.empty-digest.ensures
