-- The number of a slip's refusal.
-- Assumes nothing.
use Rattle.std.specs.Prelude.{ℕ}
use Rattle.suites.specs.declared.faults.SlipError.{SlipError}
use Rattle.suites.specs.declared.faults.SlipError.TheVariants.{Suite, Length}
use Rattle.suites.specs.declared.faults.SlipFault.{SlipFault}

abbrev pub error_number : SlipError → ℕ
error_number Suite = 18
error_number Length = 18

abbrev pub slip_number : SlipFault → ℕ
slip_number f = error_number f.error
