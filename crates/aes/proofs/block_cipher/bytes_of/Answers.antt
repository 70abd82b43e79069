use Rattle.std.proofs.Common.{replicate, refl, ◌∙◌}
use Rattle.aes.proofs.Blocks.{paste-whole}
use Rattle.aes.proofs.block_cipher.bytes_of.Goals as goal

pub returns : goal.returns
returns c = c.write_block.ensures ∙ paste-whole (replicate 16 0) c.args.s refl
