use Rattle.std.proofs.Common.{◌+◌, ◌-◌, ap, ◌∙◌, arith}
use Rattle.std.proofs.lemmas.List.{length-set}
use Rattle.hash_blocks.specs.Blocks.{feed}
use Rattle.hash_blocks.specs.Buffers.{running}
use Rattle.sha3.specs.Planes.{view}
use Rattle.sha3.specs.Sha3.{absorb_block}
use Rattle.sha3.proofs.Ends.{end-part}
use Rattle.sha3.proofs.sponge.pad.Goals as goal

pub slice_bounds-feed-end : goal.slice_bounds-feed-end
slice_bounds-feed-end c = simp length-set (omega arith)

pub returns : goal.returns
returns c =
    c.feed.ensures.fed
    ∙ ap (feed 136 absorb_block (running view c.args.buffer.now))
    (end-part c.args.buffer.now.fill (135 - c.args.buffer.now.fill + 1 - 0) (omega (arith, c.args.buffer.now.unfinished)) (omega arith))
