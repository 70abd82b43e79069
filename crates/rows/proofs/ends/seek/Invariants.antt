-- The layers of the ends before j are removed, and none of their tests passed.
use Rattle.std.proofs.Common.{◌≡◌, map, drop}
use Rattle.model.specs.Ends.{recognised_at, unwrapped}
use Rattle.hops.specs.Views.{rules, end_seen}
use Rattle.rows.proofs.Walks.{past}
use Rattle.rows.proofs.ends.seek.Given as goal

abbrev pub invariant-loop-j : goal.invariant-loop-j
invariant-loop-j g l = record {
  removed : l.payload ≡ unwrapped (rules g.C.Cipher g.D.Digest) l.j (map (end_seen g.D.Digest) l.ends) l.initial.payload;
  sought : recognised_at (rules g.C.Cipher g.D.Digest) (map (end_seen g.D.Digest) l.ends) l.initial.payload ≡ past l.j (recognised_at (rules g.C.Cipher g.D.Digest) (drop l.j (map (end_seen g.D.Digest) l.ends)) l.payload);
}
