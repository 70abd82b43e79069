use Rattle.std.proofs.Common.{arith}
use Rattle.aes.specs.Cipher.{block}
use Rattle.aes.proofs.Blocks.{paste-columns}
use Rattle.aes.proofs.block_cipher.write_block.Goals as goal

pub returns : goal.returns
unfolding block
returns c =
    let e = paste-columns c.args.out.now c.args.at c.args.s.c0 c.args.s.c1 c.args.s.c2 c.args.s.c3 (omega arith) in
    cc
