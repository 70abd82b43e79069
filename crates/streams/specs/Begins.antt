-- When a BEGIN is recorded, and what the streams are then.
use Rattle.std.specs.Prelude.{ℕ, Bool, not, ◌&&◌, cond, Some, None, Option, length, ◌==◌, nat_lt}
use Rattle.model.specs.Streams.{Streams, capacity, is_recorded, started}

abbrev pub has_room : Streams → Bool
has_room s = nat_lt (length s.records) capacity

-- at the client
abbrev pub may_begin : ℕ → Streams → Bool
may_begin n s = nat_lt s.highest n && has_room s

abbrev pub begun_by : ℕ → ℕ → Streams → Streams
begun_by k n s = record { records = started n k s.records; highest = n }

abbrev pub client_begins : ℕ → ℕ → Streams → Option Streams
client_begins k n s = cond (may_begin n s) (Some (begun_by k n s)) None

-- at a relay
abbrev pub may_start : ℕ → Streams → Bool
may_start n s = not (n == 0) && (not (is_recorded n s.records) && has_room s)

abbrev pub started_by : ℕ → ℕ → Streams → Streams
started_by k n s = record { records = started n k s.records; highest = s.highest }

abbrev pub relay_begins : ℕ → ℕ → Streams → Option Streams
relay_begins k n s = cond (may_start n s) (Some (started_by k n s)) None
