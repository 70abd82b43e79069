-- The worked points of the suites and those of the ends, in one statement.
use Rattle.suites.specs.Points.{SuitePoints}
use Rattle.streams.specs.Points as ends

pub record WorkedPoints : Type 0 where
  -- S at 0x00 and 0x53; where layers 1 and 16 start; to how many blocks SHA-1 pads 55 and 56 bytes
  pub suites : SuitePoints
  -- DATA 1,001 unacknowledged gives 9, acknowledge at 99 gives 12; after BEGIN 9, BEGIN 9 gives 8 and BEGIN 10 passes
  pub ends : ends.WorkedPoints
