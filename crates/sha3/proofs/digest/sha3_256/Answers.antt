use Rattle.sha3.proofs.Definitions.{sha3-laws}
use Rattle.sha3.proofs.digest.sha3_256.Goals as goal

pub returns-clause-laws : goal.returns-clause-laws
returns-clause-laws c = sha3-laws
