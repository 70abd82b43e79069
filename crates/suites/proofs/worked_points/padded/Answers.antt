use Rattle.std.proofs.Common.{◌≡◌, replicate, refl, arith}
use Rattle.suites.proofs.worked_points.padded.Goals as goal

pub returns-clause-counts : goal.returns-clause-counts
returns-clause-counts c =
    let one : c.padded_blocks.result ≡ 1 = omega (arith, c.padded_blocks.ensures.count (replicate 55 0) refl) in
    let two : c.padded_blocks-2.result ≡ 2 = omega (arith, c.padded_blocks-2.ensures.count (replicate 56 0) refl) in
    cc
