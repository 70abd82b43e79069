-- Which refusal comes first, where several would fit.
use Rattle.std.specs.Prelude.{ℕ, ◌+◌, Bool, cond, ◌&&◌, Some, None, Option, nat_le, nat_lt}
use Rattle.queue.specs.declared.place.Place.{Place}
use Rattle.queue.specs.declared.place.QueueError.{QueueError}
use Rattle.queue.specs.declared.place.QueueError.TheVariants.{Astray, Full, Short}

-- whether a place is one of a ring of this many slots
abbrev pub within : ℕ → Place → Bool
within size place = nat_lt place.head size && nat_le place.count size

-- n more elements, in a ring of this many slots
abbrev pub put_refusal : ℕ → Place → ℕ → Option QueueError
put_refusal size place n =
    cond (within size place) (cond (nat_le (place.count + n) size) None (Some Full)) (Some Astray)

-- the n oldest elements
abbrev pub take_refusal : ℕ → Place → ℕ → Option QueueError
take_refusal size place n = cond (within size place) (cond (nat_le n place.count) None (Some Short)) (Some Astray)
