use mathlib.Core.Path.{◌∙◌}
use Rattle.aes_tables.proofs.Tables.{power_at}
use Rattle.aes_tables.proofs.power_of_two.Goals as goal

pub returns : goal.returns
returns c = c.power_entry.ensures ∙ power_at c.args.e
