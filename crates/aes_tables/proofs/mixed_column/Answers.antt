use mathlib.Core.Path.{ap, ◌∙◌}
use borrow.Author.Rules.{rules}
use lib.ListN.{get_or}
use Rattle.aes_tables.specs.Tables.{te0_table, te1_table, te2_table, te3_table}
use Rattle.aes_tables.specs.Words.{bytes}
use Rattle.aes_tables.proofs.Tables.{te0-at, te1-at, te2-at, te3-at}
use Rattle.aes_tables.proofs.Words.{xor-of-four}
use Rattle.aes_tables.proofs.mixed_column.Goals as goal

pub returns : goal.returns
returns c =
    ap bytes c.table_words.ensures
    ∙ xor-of-four (get_or te0_table c.args.a 0) (get_or te1_table c.args.b 0) (get_or te2_table c.args.c 0) (get_or te3_table c.args.d 0)
    (te0-at c.args.a (search rules)) (te1-at c.args.b (search rules)) (te2-at c.args.c (search rules)) (te3-at c.args.d (search rules))
