-- The numbers of the marks.
use Rattle.std.specs.Prelude.{ℕ}
use Rattle.streams.specs.declared.types.Mark.{Mark}
use Rattle.streams.specs.declared.types.Mark.TheVariants.{InTime, Late}

abbrev pub mark_number : Mark → ℕ
mark_number InTime = 0
mark_number Late = 1
