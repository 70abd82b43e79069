use Rattle.std.proofs.Common.{◌≡◌, ◌-◌}
use Rattle.aes.specs.Cipher.{block, rounds}
use Rattle.aes.proofs.KeySchedule.whole_rounds.Given as goal

abbrev pub invariant-loop-i : goal.invariant-loop-i
invariant-loop-i l = block l.s ≡ rounds (l.i - 1) l.self.words (block l.initial.s)
