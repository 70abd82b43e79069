use Rattle.std.proofs.Common.{◌≡◌, ◌++◌, take, drop}
use Rattle.aes_tables.specs.Words.{xors}
use Rattle.aes_tables.proofs.xor_into.Given as goal

abbrev pub invariant-loop-i : goal.invariant-loop-i
invariant-loop-i l = l.byte-items ≡ xors (take l.i l.initial.byte-items) l.s ++ drop l.i l.initial.byte-items
