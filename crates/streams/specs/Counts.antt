-- How far a flow counts.
use Rattle.std.specs.Prelude.{◌≤◌}
use Rattle.model.specs.Flows.{Flow, window_start, message_limit}

-- neither more to send nor more to acknowledge than a whole window, and no more messages sent than may ever be
abbrev pub Within : Flow → Type 0
Within f = (f.window ≤ window_start) × (f.unacknowledged ≤ window_start) × (f.sent ≤ message_limit)
