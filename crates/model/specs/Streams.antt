-- The stream records of an end.
use Rattle.std.specs.Prelude.{ℕ, Bool, true, false, cond, not, ◌&&◌, List, [], ◌∷◌, ◌++◌, length, Some, None, Option, ◌==◌, nat_lt}
use Rattle.cell.specs.declared.command.Way.{Way}
use Rattle.cell.specs.declared.command.Way.TheVariants.{Forward, Backward}
use Rattle.model.specs.Messages.{streamless}

pub data State : Type 0 where
  begun : State
  opened : State

pub record StreamRecord : Type 0 where
  pub number : ℕ
  pub hop : ℕ
  pub state : State

-- the records in use, at most 32, and the highest number that the client began
pub record Streams : Type 0 where
  pub records : List StreamRecord
  pub highest : ℕ

abbrev pub no_streams : Streams
no_streams = record { records = []; highest = 0 }

abbrev pub capacity : ℕ
capacity = 32

-- what a command, sent or delivered, does to a record in its state
pub data Effect : Type 0 where
  becomes : State → Effect
  frees : Effect
  forbidden : Effect

-- CONNECTED 4 opens, DATA 2 needs an open stream, END 3 frees
abbrev pub effect : State → ℕ → Effect
effect begun c = cond (c == 4) (becomes opened) (cond (c == 3) frees forbidden)
effect opened c = cond (c == 2) (becomes opened) (cond (c == 3) frees forbidden)

abbrev pub is_of : ℕ → ℕ → StreamRecord → Bool
is_of n k r = r.number == n && r.hop == k

abbrev pub in_front : StreamRecord → Option (List StreamRecord) → Option (List StreamRecord)
in_front r None = None
in_front r (Some rs) = Some (r ∷ rs)

abbrev pub changed : StreamRecord → List StreamRecord → Effect → Option (List StreamRecord)
changed r rs (becomes s) = Some (record { number = r.number; hop = r.hop; state = s } ∷ rs)
changed r rs frees = Some rs
changed r rs forbidden = None

-- the records after a command on stream n of hop k; none where no record of that hop is in the needed state
abbrev pub applied : ℕ → ℕ → ℕ → List StreamRecord → Option (List StreamRecord)
applied c n k [] = None
applied c n k (r ∷ rs) = cond (is_of n k r) (changed r rs (effect r.state c)) (in_front r (applied c n k rs))

abbrev pub is_recorded : ℕ → List StreamRecord → Bool
is_recorded n [] = false
is_recorded n (r ∷ rs) = cond (r.number == n) true (is_recorded n rs)

abbrev pub with_records : Streams → Option (List StreamRecord) → Option Streams
with_records s None = None
with_records s (Some rs) = Some (record { records = rs; highest = s.highest })

abbrev pub started : ℕ → ℕ → List StreamRecord → List StreamRecord
started n k rs = rs ++ (record { number = n; hop = k; state = begun } ∷ [])

---- sent and delivered: the streams afterwards, or none where the rule is broken (sent) or the message is late (delivered)
-- BEGIN 1 needs a number above every one begun, and a free record
unfoldable pub client_sends : ℕ → ℕ → ℕ → Streams → Option Streams
client_sends k c n s =
    cond (c == 1)
    (cond (nat_lt s.highest n && nat_lt (length s.records) capacity) (Some (record { records = started n k s.records; highest = n })) None)
    (cond (streamless c) (cond (n == 0) (Some s) None) (with_records s (applied c n k s.records)))

unfoldable pub relay_sends : ℕ → ℕ → ℕ → Streams → Option Streams
relay_sends k c n s = cond (streamless c) (cond (n == 0) (Some s) None) (with_records s (applied c n k s.records))

-- a relay records BEGIN if its number is neither 0 nor recorded and a record is free
unfoldable pub relay_receives : ℕ → ℕ → ℕ → Streams → Option Streams
relay_receives k c n s =
    cond (c == 1)
    (cond (not (n == 0) && (not (is_recorded n s.records) && nat_lt (length s.records) capacity)) (Some (record { records = started n k s.records; highest = s.highest })) None)
    (cond (streamless c) (Some s) (with_records s (applied c n k s.records)))

unfoldable pub client_receives : ℕ → ℕ → ℕ → Streams → Option Streams
client_receives k c n s = cond (streamless c) (Some s) (with_records s (applied c n k s.records))

-- by way: the client sends forward and receives backward, a relay sends backward and receives forward
abbrev pub sends : Way → ℕ → ℕ → ℕ → Streams → Option Streams
sends Forward k c n s = client_sends k c n s
sends Backward k c n s = relay_sends k c n s

abbrev pub receives : Way → ℕ → ℕ → ℕ → Streams → Option Streams
receives Forward k c n s = relay_receives k c n s
receives Backward k c n s = client_receives k c n s

-- the streams as they are then, and the mark: 1 for late
abbrev pub or_unchanged : Streams → Option Streams → Streams
or_unchanged s None = s
or_unchanged s (Some t) = t

abbrev pub mark_of : Option Streams → ℕ
mark_of None = 1
mark_of (Some t) = 0

abbrev pub is_broken : Option Streams → Bool
is_broken None = true
is_broken (Some t) = false
