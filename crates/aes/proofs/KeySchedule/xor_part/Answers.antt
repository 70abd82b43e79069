use Rattle.std.proofs.Common.{◌≡◌, ◌+◌, ◌-◌, ◌*◌, length, arith}
use Rattle.aes.specs.KeyStream.{stream_at}
use Rattle.aes.specs.Stream.{part-is, streamed-is}
use Rattle.aes.proofs.KeySchedule.xor_part.Goals as goal

pub returns : goal.returns
returns c =
    let skip = c.args.skip in
    let from = 16 * c.args.first in
    let p = c.args.part.now in
    let nr = c.args.self.now.rounds in
    let w = c.args.self.now.words in
    let z : skip + length p - skip ≡ length p = omega arith in
    let e = part-is (stream_at nr w) c.fill.new.out skip (length p) (16 * c.div_ceil.result) from (from + skip) (omega arith) (omega arith) (omega arith) c.fill.ensures in
    let s = streamed-is nr w (from + skip) p in
    let x = c.xor_into.ensures.whole (omega arith) in
    cc
