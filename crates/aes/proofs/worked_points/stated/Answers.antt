use Rattle.aes_tables.proofs.Inverse.{inverses}
use Rattle.aes.proofs.Points as points
use Rattle.aes.proofs.worked_points.stated.Goals as goal

pub returns : goal.returns
returns c = record {
  points = points.worked-points;
  aes128 = points.example128;
  aes256 = points.example256;
  inverses = inverses;
  twice = points.layered-twice;
}
