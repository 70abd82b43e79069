use Rattle.std.proofs.Common.{◌≡◌, ℕ, length, ap, ◌∙◌}
use Rattle.hash_blocks.specs.Blocks.{feed}
use Rattle.sha3.specs.Digests.{Sha3State, state_of, finish}
use Rattle.sha3.specs.Planes.{view}
use Rattle.sha3.specs.Sha3.{absorb_block, padding}
use Rattle.sha3.proofs.Ends.{fill_is}
use Rattle.sha3.proofs.running.Sha3.finished.Goals as goal

pub returns : goal.returns
unfolding finish
returns c =
    let s : Sha3State = state_of c.args.self.now in
    let fill : c.another-end.result.fill ≡ length s.rest = fill_is view c.another-end.result ∙ ap (λ (t : Sha3State). length t.rest) c.another-end.ensures in
    ap (λ (t : Sha3State). t.state)
    (c.pad.ensures ∙ ap (λ (t : Sha3State). feed 136 absorb_block t (padding c.another-end.result.fill)) c.another-end.ensures ∙ ap (λ (n : ℕ). feed 136 absorb_block s (padding n)) fill)
