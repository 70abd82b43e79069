use Rattle.std.proofs.Common.{ap, ◌∙◌}
use Rattle.sha3.specs.Planes.{flat}
use Rattle.sha3.proofs.Flat.{planes-same, chi-flat}
use Rattle.sha3.proofs.permutation.chi_of.Goals as goal

pub returns : goal.returns
returns c =
    ap flat (planes-same c.chi_plane.ensures c.chi_plane-2.ensures c.chi_plane-3.ensures c.chi_plane-4.ensures c.chi_plane-5.ensures) ∙ chi-flat c.args.a
