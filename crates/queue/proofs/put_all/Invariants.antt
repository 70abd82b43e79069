use Rattle.std.proofs.Common.{◌≡◌, ◌+◌, ◌++◌, take}
use Rattle.queue.specs.Ring.{waiting}
use Rattle.queue.proofs.put_all.Given as goal

abbrev pub invariant-loop-i : goal.invariant-loop-i
invariant-loop-i g l = record {
  put : waiting l.slots (record { head = l.place.head; count = l.place.count + l.i }) ≡ waiting l.initial.slots l.place ++ take l.i l.xs;
}
