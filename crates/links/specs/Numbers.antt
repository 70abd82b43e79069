-- The numbers that stand for a link's refusals.
use Rattle.std.specs.Prelude.{ℕ}
use Rattle.links.specs.declared.fault.LinkError.{LinkError}
use Rattle.links.specs.declared.fault.LinkError.TheVariants.{NotACell, Full, Empty, NoSuchLink}
use Rattle.links.specs.declared.fault.LinkFault.{LinkFault}

abbrev pub link_error_number : LinkError → ℕ
link_error_number NotACell = 1
link_error_number Full = 3
link_error_number Empty = 4
link_error_number NoSuchLink = 7

abbrev pub link_fault_number : LinkFault → ℕ
link_fault_number f = link_error_number f.error
