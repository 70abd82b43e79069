-- What the rules look at where an end is about to send, and what they forbid.
use Rattle.std.specs.Prelude.{ℕ, Bool, ◌||◌, Option, nat_le}
use Rattle.cell.specs.declared.command.Way.{Way}
use Rattle.cell.specs.Payload.{Message}
use Rattle.model.specs.Messages.{may_send}
use Rattle.model.specs.Flows.{Flow, message_limit}
use Rattle.model.specs.Streams.{Streams, sends}
use Rattle.model.specs.Calls.{sending_refusal, acknowledge_refusal}

-- an end that sends way w to or from a hop, with these counts and streams, the layers used up or not
pub record Sending : Type 0 where
  pub way : Way
  pub hop : ℕ
  pub flow : Flow
  pub worn : Bool
  pub streams : Streams

abbrev pub exhausted : Sending → Bool
exhausted s = nat_le message_limit s.flow.sent || s.worn

-- 5, 6, 8, 9 and 10
abbrev pub message_refusal : Sending → Message → Option ℕ
message_refusal s m = sending_refusal (may_send s.way m.command) (sends s.way s.hop m.command m.stream s.streams) s.flow s.worn m

-- 12 and 10
abbrev pub sendme_refusal : Sending → Option ℕ
sendme_refusal s = acknowledge_refusal s.flow s.worn
