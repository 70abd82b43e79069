use Rattle.std.proofs.Common.{ap, ◌∙◌}
use Rattle.sha3.specs.Planes.{flat, xor_plane}
use Rattle.sha3.proofs.Flat.{planes-same, xor-block-flat}
use Rattle.sha3.proofs.sponge.xor_block.Goals as goal

pub returns : goal.returns
returns c =
    ap flat (planes-same
    (c.xor.ensures ∙ ap (xor_plane c.args.a.y0) c.plane_at.ensures)
    (c.xor-2.ensures ∙ ap (xor_plane c.args.a.y1) c.plane_at-2.ensures)
    (c.xor-3.ensures ∙ ap (xor_plane c.args.a.y2) c.plane_at-3.ensures)
    (c.xor-4.ensures ∙ ap (xor_plane c.args.a.y3) c.plane_at-4.ensures)
    (c.xor-5.ensures ∙ ap (xor_plane c.args.a.y4) c.plane_at-5.ensures))
    ∙ xor-block-flat c.args.a c.args.block.now
