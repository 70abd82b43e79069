use Rattle.std.proofs.Common.{ap, ◌∙◌, arith}
use Rattle.aes_tables.specs.Words.{bytes}
use Rattle.aes_tables.proofs.Words.{bytes_word, bytes-xor}
use Rattle.aes.proofs.block_cipher.last_column.Goals as goal

pub returns : goal.returns
returns c =
    let y =
    bytes_word c.sub_byte.result c.sub_byte-2.result c.sub_byte-3.result c.sub_byte-4.result
    (omega arith) (omega arith) (omega arith) (omega arith)
    in
    let z = ap bytes c.from_be_bytes.ensures ∙ y in
    let x = bytes-xor c.from_be_bytes.result c.args.k in
    let t = rw z at x in
    rw (c.sub_byte.ensures, c.sub_byte-2.ensures, c.sub_byte-3.ensures, c.sub_byte-4.ensures, c.to_be_bytes.ensures, c.to_be_bytes-2.ensures, c.to_be_bytes-3.ensures, c.to_be_bytes-4.ensures) at t
