-- Which capacities a kind of link can have, and why one is not made.
use Rattle.std.specs.Prelude.{ℕ, Bool, cond, ◌&&◌, nat_le}
use Rattle.links.specs.declared.fault.NewLinkError.{NewLinkError}
use Rattle.links.specs.declared.fault.NewLinkError.TheVariants.{Capacity, Memory}

abbrev pub takes : ℕ → ℕ → Bool
takes most capacity = nat_le 1 capacity && nat_le capacity most

-- a capacity that will do leaves want of memory
abbrev pub new_link_error : ℕ → ℕ → NewLinkError
new_link_error most capacity = cond (takes most capacity) Memory Capacity
