use Rattle.std.proofs.Common.{ap, ◌∙◌}
use Rattle.sha3.specs.Keccak.{keccak}
use Rattle.sha3.proofs.sponge.KeccakStateBlockFunction136.absorb.Goals as goal

pub returns : goal.returns
returns c = c.permuted-self.ensures ∙ ap keccak c.xor_block.ensures
