-- Messages and their commands, by way.
use Rattle.std.specs.Prelude.{ℕ, Bool, cond, not, ◌&&◌, ◌||◌, List, [], ◌==◌, nat_le}
use Rattle.cell.specs.declared.command.Way.{Way}
use Rattle.cell.specs.declared.command.Way.TheVariants.{Forward, Backward}
use Rattle.cell.specs.Payload.{Message, command_of, stream_of, length_of}

abbrev pub message : ℕ → ℕ → List ℕ → Message
message c n bs = record { command = c; stream = n; content = bs }

-- an acknowledgement: an empty SENDME
abbrev pub sendme : Message
sendme = message 5 0 []

-- DATA and SENDME count one
unfoldable pub is_data : ℕ → ℕ
is_data c = cond (c == 2) 1 0

unfoldable pub is_sendme : ℕ → ℕ
is_sendme c = cond (c == 5) 1 0

-- what a host may send: BEGIN 1, DATA 2, END 3 and DROP 10 forward, DATA, END, CONNECTED 4 and DROP backward
unfoldable pub may_send : Way → ℕ → Bool
may_send Forward c = c == 1 || (c == 2 || (c == 3 || c == 10))
may_send Backward c = c == 2 || (c == 3 || (c == 4 || c == 10))

-- the commands that travel: those, and SENDME 5
abbrev pub travels : Way → ℕ → Bool
travels w c = c == 5 || may_send w c

-- SENDME and DROP belong to no stream
unfoldable pub streamless : ℕ → Bool
streamless c = c == 5 || c == 10

-- what a receiver of way w may be handed: a length in bounds, a command of the way, stream 0 where there is none
unfoldable pub well_formed : Way → List ℕ → Bool
well_formed w p =
    nat_le (length_of p) 498 && (travels w (command_of p) && (not (streamless (command_of p)) || stream_of p == 0))
