use mathlib.Core.Path.{◌∙◌}
use borrow.Author.Rules.{rules}
use Rattle.aes_tables.proofs.Tables.{sbox-at}
use Rattle.aes_tables.proofs.sub_byte.Goals as goal

pub returns : goal.returns
returns c = c.sbox_entry.ensures ∙ sbox-at c.args.x (search rules)
