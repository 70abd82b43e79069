-- The worked points of the suites: S at 0x00 and 0x53, the starts of layers 1 and 16, and SHA-1's padding at 55 and 56 bytes.
-- Assumes nothing.
use Rattle.aes.specs.Points.{WorkedPoints}
use Rattle.sha_1.specs.Laws.{PaddingBoundary}

pub record SuitePoints : Type 0 where
  pub aes : WorkedPoints
  pub padding : PaddingBoundary
