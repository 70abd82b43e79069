use Rattle.std.proofs.Common.{◌≡◌, ◌+◌, ◌*◌, ◌++◌, min, take, drop}
use Rattle.aes.specs.KeyStream.{streamed}
use Rattle.aes.proofs.KeySchedule.xor_from.Given as goal

abbrev pub invariant-loop-part : goal.invariant-loop-part
invariant-loop-part l =
    let done = min (512 * l.part) l.len in
    take done l.bytes ++ streamed l.self.rounds l.self.words (16 * l.first + l.skip + done) (drop done l.bytes)
    ≡ streamed l.self.rounds l.self.words (16 * l.first + l.skip) l.initial.bytes
