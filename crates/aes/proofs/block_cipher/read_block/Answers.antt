use Rattle.std.proofs.Common.{ap, ◌∙◌, arith}
use Rattle.aes_tables.specs.Words.{bytes}
use Rattle.aes_tables.proofs.Words.{same-columns}
use Rattle.aes.specs.Cipher.{block}
use Rattle.aes.proofs.Blocks.{bytes-word_at, four-fours}
use Rattle.aes.proofs.block_cipher.read_block.Goals as goal

pub returns : goal.returns
unfolding block
returns c =
    let xs = c.args.from.now in
    let small = c.fits-from in
    same-columns (ap bytes c.word_at.ensures ∙ bytes-word_at xs 0 (omega arith) small)
    (ap bytes c.word_at-2.ensures ∙ bytes-word_at xs 1 (omega arith) small)
    (ap bytes c.word_at-3.ensures ∙ bytes-word_at xs 2 (omega arith) small)
    (ap bytes c.word_at-4.ensures ∙ bytes-word_at xs 3 (omega arith) small)
    ∙ four-fours xs (omega arith)
