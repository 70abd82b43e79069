use Rattle.sha_1.proofs.Definitions.{sha1-laws}
use Rattle.sha_1.proofs.laws.padded_blocks.Goals as goal

pub returns-clause-laws : goal.returns-clause-laws
returns-clause-laws c = sha1-laws
