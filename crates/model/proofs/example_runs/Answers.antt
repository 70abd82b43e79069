use Rattle.model.proofs.Example.{example}
use Rattle.model.proofs.example_runs.Goals as goal

pub returns : goal.returns
returns c = example
