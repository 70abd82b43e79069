-- The order in which the client's records stand, which is the order in which its streams are closed.
use Rattle.std.specs.Prelude.{◌≡◌, ◌<◌, ◌≤◌, false, List, [], ◌∷◌}
use Rattle.std.specs.List.{AllByRecursion}
use Rattle.cell.specs.declared.command.Way.{Way}
use Rattle.cell.specs.declared.command.Way.TheVariants.{Forward, Backward}
use Rattle.model.specs.Streams.{Streams, StreamRecord, is_recorded}

-- no number stands twice
abbrev pub EachOnce : List StreamRecord → Type 0
EachOnce [] = Unit {0}
EachOnce (r ∷ rs) = (is_recorded r.number rs ≡ false) × EachOnce rs

-- each number is below those that began after it
abbrev pub Ascending : List StreamRecord → Type 0
Ascending [] = Unit {0}
Ascending (r ∷ rs) = AllByRecursion (λ later. r.number < later.number) rs × Ascending rs

pub record ClosingOrder (s : Streams) : Type 0 where
  pub once : EachOnce s.records
  pub ascending : Ascending s.records
  pub highest : AllByRecursion (λ r. r.number ≤ s.highest) s.records

-- an operation of the client from s to t leaves its records in closing order
abbrev pub KeepsClosingOrder : Streams → Streams → Type 0
KeepsClosingOrder s t = ClosingOrder s → ClosingOrder t

-- the client sends forward and receives backward; a relay, which does the rest, keeps no closing order
abbrev pub KeptBySending : Way → Streams → Streams → Type 0
KeptBySending Forward s t = KeepsClosingOrder s t
KeptBySending Backward s t = Unit {0}

abbrev pub KeptByReceiving : Way → Streams → Streams → Type 0
KeptByReceiving Forward s t = Unit {0}
KeptByReceiving Backward s t = KeepsClosingOrder s t
