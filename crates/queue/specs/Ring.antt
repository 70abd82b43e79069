-- A ring: a list of slots that is used round and round, of which some hold what waits.
use Rattle.std.specs.Prelude.{ℕ, ◌+◌, ◌-◌, cond, List, ◌++◌, take, drop, nat_lt}
use Rattle.queue.specs.declared.place.Place.{Place}

-- the slots from head on and round to it again
abbrev pub turned : {X : Type 0} → List X → ℕ → List X
turned slots head = drop head slots ++ take head slots

-- the elements that wait, the oldest first
unfoldable pub waiting : {X : Type 0} → List X → Place → List X
waiting slots place = take place.count (turned slots place.head)

-- the slot of the element that i others are before
abbrev pub slot_of : ℕ → ℕ → ℕ → ℕ
slot_of size head i = cond (nat_lt i (size - head)) (head + i) (i - (size - head))

-- the place once n more wait, and once the n oldest are gone
abbrev pub grown : Place → ℕ → Place
grown place n = record { head = place.head; count = place.count + n }

abbrev pub shrunk : ℕ → Place → ℕ → Place
shrunk size place n = record { head = slot_of size place.head n; count = place.count - n }
