use Rattle.std.proofs.Common.{ℕ, ◌+◌, ◌*◌, sym, ◌∙◌, arith}
use Rattle.sha_1.proofs.Schedule.{quad-same, schedule-word}
use Rattle.sha_1.proofs.block.block_quad.Goals as goal

pub returns : goal.returns
returns c =
    let i : ℕ = 4 * c.args.j in
    quad-same
    (c.block_word.ensures ∙ sym (schedule-word c.args.block.now i (omega arith)))
    (c.block_word-2.ensures ∙ sym (schedule-word c.args.block.now (i + 1) (omega arith)))
    (c.block_word-3.ensures ∙ sym (schedule-word c.args.block.now (i + 2) (omega arith)))
    (c.block_word-4.ensures ∙ sym (schedule-word c.args.block.now (i + 3) (omega arith)))
