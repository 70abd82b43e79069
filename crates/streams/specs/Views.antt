-- What the records of the code stand for.
use Rattle.std.specs.Prelude.{List, map, take}
use Rattle.model.specs.Streams as model
use Rattle.model.specs.Flows as flows
use Rattle.streams.specs.declared.types.StreamState.{StreamState}
use Rattle.streams.specs.declared.types.StreamState.TheVariants.{Begun, Open}
use Rattle.streams.specs.declared.types.StreamRecord.{StreamRecord}
use Rattle.streams.specs.declared.types.Streams.{Streams}
use Rattle.streams.specs.declared.types.Flow.{Flow}

abbrev pub state_seen : StreamState → model.State
state_seen Begun = model.begun
state_seen Open = model.opened

abbrev pub record_seen : StreamRecord → model.StreamRecord
record_seen r = record { number = r.number; hop = r.hop; state = state_seen r.state }

-- a place that was never used
abbrev pub blank : StreamRecord
blank = record { number = 0; hop = 0; state = Begun }

-- the first count records are in use
abbrev pub records_seen : Streams → List model.StreamRecord
records_seen s = map record_seen (take s.count s.records)

unfoldable pub streams_seen : Streams → model.Streams
streams_seen s = record { records = records_seen s; highest = s.highest }

abbrev pub flow_seen : Flow → flows.Flow
flow_seen f = record { window = f.window; unacknowledged = f.unacknowledged; sent = f.sent }
