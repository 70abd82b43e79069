use Rattle.aes_tables.specs.Words.{bytes}
use Rattle.aes_tables.proofs.Words.{bytes-xor, same-columns}
use Rattle.aes.specs.Cipher.{add_round_key, block}
use Rattle.aes.proofs.block_cipher.add_round_key.Goals as goal

pub returns : goal.returns
unfolding bytes block add_round_key
returns c =
    same-columns (bytes-xor c.args.s.c0 c.args.k.c0) (bytes-xor c.args.s.c1 c.args.k.c1)
    (bytes-xor c.args.s.c2 c.args.k.c2) (bytes-xor c.args.s.c3 c.args.k.c3)
