use Rattle.std.proofs.Common.{◌≡◌, ap, ◌∙◌}
use Rattle.sha3.specs.Planes.{flat, xor_plane, theta_plane}
use Rattle.sha3.specs.declared.planes.Lanes.{Lanes}
use Rattle.sha3.specs.declared.planes.Plane.{Plane}
use Rattle.sha3.proofs.Flat.{planes-same, parities, theta-flat}
use Rattle.sha3.proofs.permutation.theta_of.Goals as goal

pub returns : goal.returns
returns c =
    let a : Lanes = c.args.a in
    let k : c.xor-4.result ≡ parities a
    = c.xor-4.ensures
    ∙ ap (λ (v : Plane). xor_plane v a.y4) (c.xor-3.ensures ∙ ap (λ (v : Plane). xor_plane v a.y3) (c.xor-2.ensures ∙ ap (λ (v : Plane). xor_plane v a.y2) c.xor.ensures)) in
    ap flat (planes-same c.xor-5.ensures c.xor-6.ensures c.xor-7.ensures c.xor-8.ensures c.xor-9.ensures)
    ∙ theta-flat a c.theta_plane-d.result (c.theta_plane-d.ensures ∙ ap theta_plane k)
