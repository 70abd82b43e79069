-- What an end may send, and what it counts then.
use Rattle.std.specs.Prelude.{◌≡◌, ℕ, ◌≤◌, false, length, None, Option}
use Rattle.cell.specs.Commands.{command_byte}
use Rattle.cell.specs.Payload.{Message}
use Rattle.model.specs.Messages.{sendme}
use Rattle.model.specs.Flows.{Flow, posted, acknowledged}
use Rattle.streams.specs.Views.{flow_seen, streams_seen}
use Rattle.messages.specs.Refusals.{Sending, message_refusal, sendme_refusal}
use Rattle.messages.specs.declared.parts.Sender.{Sender}
use Rattle.messages.specs.declared.parts.Cleared.{Cleared}

-- what the rules see of a sender
abbrev pub sending : Sender → Sending
sending s = record { way = s.way; hop = s.hop; flow = flow_seen s.flow; worn = s.worn; streams = streams_seen s.streams.now }

-- no rule forbids m, and f is counted for its hop once it is sent
pub record Clears (s : Sending) (refusal : Option ℕ) (m : Message) (f : Flow) (x : Cleared) : Type 0 where
  pub unrefused : refusal ≡ None
  pub command : command_byte x.command ≡ m.command
  pub flow : flow_seen x.flow ≡ f
  pub fits : length m.content ≤ 498
  pub fresh : s.worn ≡ false

abbrev pub MaySend : Sending → Message → Cleared → Type 0
MaySend s m x = Clears s (message_refusal s m) m (posted m.command s.flow) x

abbrev pub MayAcknowledge : Sending → Cleared → Type 0
MayAcknowledge s x = Clears s (sendme_refusal s) sendme (posted sendme.command (acknowledged s.flow)) x
