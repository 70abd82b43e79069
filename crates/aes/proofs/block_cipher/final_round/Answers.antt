use Rattle.aes_tables.specs.Words.{bytes}
use Rattle.aes_tables.proofs.Words.{same-columns}
use Rattle.aes.specs.Cipher.{add_round_key, block, last_round, shift_rows, sub_bytes}
use Rattle.aes.proofs.block_cipher.final_round.Goals as goal

pub returns : goal.returns
unfolding bytes block last_round add_round_key shift_rows sub_bytes
returns c =
    same-columns c.last_column.ensures c.last_column-2.ensures c.last_column-3.ensures c.last_column-4.ensures
