use Rattle.std.proofs.Common.{◌≡◌, ℕ, ◌+◌, ◌*◌, ◌<◌, get_or}
use Rattle.aes.specs.KeyStream.{stream_at}
use Rattle.aes.proofs.KeySchedule.fill.Given as goal

abbrev pub invariant-loop-j : goal.invariant-loop-j
invariant-loop-j l = (k : ℕ) → k < 16 * l.j → get_or l.out k 0 ≡ stream_at l.self.rounds l.self.words (16 * l.first + k)
