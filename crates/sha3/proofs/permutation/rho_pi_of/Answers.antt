use Rattle.std.proofs.Common.{ap, ◌∙◌}
use Rattle.sha3.specs.Planes.{flat, rot_plane}
use Rattle.sha3.specs.declared.planes.Plane.{Plane}
use Rattle.sha3.proofs.Flat.{planes-same, rho-pi-flat}
use Rattle.sha3.proofs.permutation.rho_pi_of.Goals as goal

pub returns : goal.returns
returns c =
    ap flat (planes-same
    (c.rotated.ensures ∙ ap (λ (v : Plane). rot_plane v 0 44 43 21 14) c.plane-p.ensures)
    (c.rotated-2.ensures ∙ ap (λ (v : Plane). rot_plane v 28 20 3 45 61) c.plane-q.ensures)
    (c.rotated-3.ensures ∙ ap (λ (v : Plane). rot_plane v 1 6 25 8 18) c.plane-r.ensures)
    (c.rotated-4.ensures ∙ ap (λ (v : Plane). rot_plane v 27 36 10 15 56) c.plane-s.ensures)
    (c.rotated-5.ensures ∙ ap (λ (v : Plane). rot_plane v 62 55 39 41 2) c.plane-t.ensures))
    ∙ rho-pi-flat c.args.a
