-- The ends before the one in turn moved on.
use Rattle.std.proofs.Common.{◌≡◌, ◌++◌, map, drop}
use Rattle.model.specs.Ends.{moved_to}
use Rattle.hops.specs.Views.{end_seen}
use Rattle.rows.proofs.ends.move_up_to.Given as goal

abbrev pub invariant-loop-end : goal.invariant-loop-end
invariant-loop-end g l = map (end_seen g.D.Digest) (l.end-items ++ drop l.fn.d l.fn.ends) ≡ moved_to l.end-index (map (end_seen g.D.Digest) l.fn.ends)
