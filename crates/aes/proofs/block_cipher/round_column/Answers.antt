use Rattle.aes_tables.proofs.Words.{bytes-xor}
use Rattle.aes.proofs.block_cipher.round_column.Goals as goal

pub returns : goal.returns
returns c =
    let x = bytes-xor c.mixed_column.result c.args.k in
    rw (c.mixed_column.ensures, c.to_be_bytes.ensures, c.to_be_bytes-2.ensures, c.to_be_bytes-3.ensures, c.to_be_bytes-4.ensures) at x
