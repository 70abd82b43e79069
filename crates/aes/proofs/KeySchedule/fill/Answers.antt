use Rattle.std.proofs.Common.{◌≡◌, ℕ, ◌+◌, List, get_or, ap, ◌∙◌, arith}
use Rattle.aes.specs.Cipher.{block, cipher}
use Rattle.aes.specs.KeyStream.{stream_block}
use Rattle.aes.proofs.Blocks.{length-block}
use Rattle.aes.specs.Stream.{filled_more}
use Rattle.aes.proofs.KeySchedule.fill.Goals as goal

pub loop-j-preserved : goal.loop-j-preserved
unfolding stream_block
loop-j-preserved c =
    let s = c.encipher_columns.result in
    let j = c.loop-j.j in
    let nr = c.args.self.now.rounds in
    let w = c.args.self.now.words in
    let e : block s ≡ stream_block nr w (c.args.first + j) = c.encipher_columns.ensures ∙ ap (cipher nr w) c.counter.ensures in
    λ k lt. ap (λ (v : List ℕ). get_or v k 0) c.write_block.ensures
    ∙ filled_more nr w c.args.first j c.loop-j.out (block s) (omega arith) (length-block s) e c.loop-j.invariant k lt
