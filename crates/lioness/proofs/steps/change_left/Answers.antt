use Rattle.std.proofs.Common.{◌≡◌, length, arith}
use Rattle.std.proofs.lemmas.List.{take_all, length-take, length-drop}
use Rattle.lioness.specs.Steps.{right, left_step, hash}
use Rattle.lioness.proofs.steps.change_left.Goals as goal

pub returns : goal.returns
unfolding left_step hash
returns c =
    let p = c.args.payload.now in
    let n : length (right p) ≡ 477 = simp length-drop (omega arith) in
    let a = take_all 477 (right p) (omega arith) in
    let x = c.xor_into.ensures.whole (simp length-take (omega arith)) in
    cc
