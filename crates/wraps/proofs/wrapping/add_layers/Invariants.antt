-- The layers of the ends past i are on, and no test passed.
use Rattle.std.proofs.Common.{◌≡◌, ◌+◌, ◌-◌, ◌≤◌, map, drop, None}
use Rattle.wraps.specs.Wraps.{layered, taken_at}
use Rattle.hops.specs.Views.{rules, end_seen}
use Rattle.wraps.proofs.wrapping.add_layers.Given as goal

abbrev pub invariant-loop-i : goal.invariant-loop-i
invariant-loop-i g l = record {
  in_row : l.i ≤ l.d;
  added : l.payload ≡ layered (rules g.C.Cipher g.D.Digest) (drop (l.i + 1) (map (end_seen g.D.Digest) l.ends)) (l.d - l.i) l.initial.payload;
  none_took : taken_at (rules g.C.Cipher g.D.Digest) (drop l.i (map (end_seen g.D.Digest) l.ends)) (l.d - l.i) l.initial.payload ≡ None;
}
