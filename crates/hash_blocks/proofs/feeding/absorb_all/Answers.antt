use Rattle.std.proofs.Common.{sym, ap, ◌∙◌, arith}
use Rattle.std.proofs.lemmas.List.Sums.{fold_more}
use Rattle.hash_blocks.proofs.feeding.absorb_all.Goals as goal

pub loop-block-preserved : goal.loop-block-preserved
loop-block-preserved g c =
    c.absorb.ensures
    ∙ ap (λ s. g.S.BlockFunction.after s c.block-item.result) c.loop-block.invariant
    ∙ ap (g.S.BlockFunction.after _) c.block-item.is
    ∙ sym (fold_more g.S.BlockFunction.after _ c.args.blocks.now c.loop-block.block-index c.block-item.result (omega arith))
