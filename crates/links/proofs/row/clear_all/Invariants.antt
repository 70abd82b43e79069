use Rattle.std.proofs.Common.{◌≡◌, ◌++◌, take, drop}
use Rattle.links.specs.Rows.{rows, capacities, emptied}
use Rattle.links.proofs.row.clear_all.Given as goal

abbrev pub invariant-loop-link : goal.invariant-loop-link
invariant-loop-link g l = record {
  emptied_so_far : rows g.L.Link l.links ≡ emptied (take l.link-index (rows g.L.Link l.initial.links)) ++ drop l.link-index (rows g.L.Link l.initial.links);
  same_capacities : capacities g.L.Link l.links ≡ capacities g.L.Link l.initial.links;
}
