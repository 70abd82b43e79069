-- The table is the standard's, and the rounds that are left give what all give.
use Rattle.std.proofs.Common.{◌≡◌, drop}
use Rattle.sha3.specs.Keccak.{rounds}
use Rattle.sha3.specs.Laws.{constant_table}
use Rattle.sha3.specs.Planes.{flat}
use Rattle.sha3.proofs.permutation.permuted.Given as goal

abbrev pub invariant-loop-c : goal.invariant-loop-c
invariant-loop-c l = record {
  table : l.c-items ≡ constant_table;
  same_end : rounds (drop l.c-index l.c-items) (flat l.b) ≡ rounds l.c-items (flat l.initial.b);
}
