use Rattle.std.proofs.Common.{◌-◌, ◌%◌, arith}
use Rattle.hash_blocks.specs.Buffers.{running}
use Rattle.sha_1.proofs.Ends.{padded, zeros-part}
use Rattle.sha_1.proofs.digest.pad.Goals as goal

pub returns : goal.returns
returns c =
    padded (running (λ h. h) c.args.buffer.now) (running (λ h. h) c.feed.new.self) (running (λ h. h) c.feed-2.new.self) _ c.args.len _
    c.length_bytes.result c.feed.ensures.fed (zeros-part c.args.len ((119 - c.args.len % 64) % 64 - 0) (omega arith)) c.feed-2.ensures.fed c.length_bytes.ensures
    c.feed-3.ensures.fed
