use Rattle.std.proofs.Common.{◌≡◌, length, append-nil, arith}
use Rattle.std.proofs.lemmas.List.{take_all, drop_all, length-drop}
use Rattle.aes.specs.KeyStream.{streamed}
use Rattle.lioness.specs.Steps.{right, right_step, stream}
use Rattle.lioness.proofs.steps.change_right.Goals as goal

pub returns : goal.returns
unfolding right_step stream streamed
returns c =
    let p = c.args.payload.now in
    let n : length (right p) ≡ 477 = simp length-drop (omega arith) in
    let a = take_all 477 (right p) (omega arith) in
    let b = drop_all 477 (right p) (omega arith) in
    let e = append-nil c.xor_stream_under.new.bytes in
    cc
