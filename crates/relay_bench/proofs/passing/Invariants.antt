-- The payload keeps its length.
use Rattle.std.proofs.Common.{◌≡◌, length}
use Rattle.relay_bench.proofs.passing.Given as goal

abbrev pub invariant-loop-n : goal.invariant-loop-n
invariant-loop-n g l = length l.payload ≡ 509
