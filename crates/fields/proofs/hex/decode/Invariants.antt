-- The bytes of the pairs read, then those of the rest, are the bytes of all pairs.
use Rattle.std.proofs.Common.{◌≡◌, drop, vec_items}
use Rattle.fields.specs.Hex.{behind}
use Rattle.fields.proofs.Hexes.{of_pairs}
use Rattle.fields.proofs.hex.decode.Given as goal

abbrev pub invariant-loop-high : goal.invariant-loop-high
invariant-loop-high l = of_pairs l.pairs ≡ behind (vec_items l.bytes) (of_pairs (drop l.high-index l.pairs))
