use Rattle.std.proofs.Common.{◌≡◌, ◌+◌, ◌-◌, ◌*◌, length, min, take, drop, refl, ◌∙◌, append-nil, arith}
use Rattle.std.proofs.lemmas.List.{take_all, drop_all}
use Rattle.aes.specs.KeyStream.{streamed}
use Rattle.aes.specs.Stream.{streamed-more, streamed-none}
use Rattle.aes.proofs.KeySchedule.xor_from.Goals as goal

pub loop-part-preserved : goal.loop-part-preserved
loop-part-preserved c =
    let nr = c.args.self.now.rounds in
    let w = c.args.self.now.words in
    let at = 16 * c.args.first + c.args.skip in
    let xs = c.loop-part.bytes in
    let ys = c.xor_part.new.part in
    let start = 512 * c.loop-part.part in
    let end = c.min-end.result in
    let n = end - start in
    let before : min start (length c.args.bytes.now) ≡ start = omega arith in
    let after : min (512 * (c.loop-part.part + 1)) (length c.args.bytes.now) ≡ start + n = omega arith in
    let from : 16 * (c.args.first + 32 * c.loop-part.part) + c.args.skip ≡ at + start = omega arith in
    let part : ys ≡ streamed nr w (at + start) (take n (drop start xs)) = rw from at c.xor_part.ensures in
    let s = streamed-more nr w at start n n xs ys (omega arith) refl (omega arith) part in
    rw after (s ∙ (rw before at c.loop-part.invariant))

pub returns : goal.returns
returns c =
    let nr = c.args.self.now.rounds in
    let w = c.args.self.now.words in
    let at = 16 * c.args.first + c.args.skip in
    let xs = c.loop-part.bytes in
    let n = length xs in
    let e : min (512 * c.loop-part.part) (length c.args.bytes.now) ≡ n = omega arith in
    let a = take_all n xs (omega arith) in
    let b = drop_all n xs (omega arith) in
    let s = streamed-none nr w (at + n) in
    let f = append-nil xs in
    let i = rw e at c.loop-part.invariant in
    cc
