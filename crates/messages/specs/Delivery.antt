-- What an end is handed, and what it answers.
use Rattle.std.specs.Prelude.{ℕ, cond, List, length, Ok, Err, Result, ◌==◌}
use Rattle.cell.specs.declared.command.Way.{Way}
use Rattle.cell.specs.Payload.{command_of, stream_of}
use Rattle.model.specs.Flows.{Flow}
use Rattle.model.specs.Streams.{Streams, receives}
use Rattle.model.specs.Calls.{refusal, Outcome, stops, passes_on, delivers, delivery}
use Rattle.messages.specs.declared.faults.EndFault.{EndFault}
use Rattle.messages.specs.Faults.{fault_of}

-- the answer of an end of hop k: hop, command, stream and mark, and the length of the data; all 0 where nothing is delivered
abbrev pub handed : ℕ → Outcome → Result ((ℕ × ℕ × ℕ × ℕ) × ℕ) EndFault
handed k (stops f) = Err (fault_of f.number f.place)
handed k passes_on = Ok ((0, 0, 0, 0), 0)
handed k (delivers m mark) = Ok ((k, m.command, m.stream, mark), length m.content)

-- a payload of way w whose test passed at hop k, at an end with these counts and streams: 1, 14, 15, or it is delivered
abbrev pub arrives : Way → ℕ → Flow → Streams → List ℕ → Outcome
arrives w k f s p = cond (length p == 509) (delivery w k f (receives w k (command_of p) (stream_of p) s) p) (stops (refusal 1 0))
