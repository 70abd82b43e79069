-- The state took the blocks so far.
use Rattle.std.proofs.Common.{◌≡◌, fold, take}
use Rattle.hash_blocks.proofs.feeding.absorb_all.Given as goal

abbrev pub invariant-loop-block : goal.invariant-loop-block
invariant-loop-block g l =
    g.S.BlockFunction.view l.state ≡ fold g.S.BlockFunction.after (g.S.BlockFunction.view l.initial.state) (take l.block-index l.blocks)
