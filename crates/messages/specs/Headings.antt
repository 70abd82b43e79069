-- What a payload says of itself.
use Rattle.std.specs.Prelude.{◌≡◌, ℕ, Bool, true, false, List, length}
use Rattle.cell.specs.declared.command.Command.{Command}
use Rattle.cell.specs.declared.command.Command.TheVariants.{Begin, Data, End, Connected, Sendme, Drop}
use Rattle.cell.specs.Commands.{command_byte}
use Rattle.cell.specs.Payload.{command_of, stream_of, message_of}
use Rattle.messages.specs.declared.parts.Heading.{Heading}

-- a heading is that of a payload
pub record Headed (h : Heading) (p : List ℕ) : Type 0 where
  pub command : command_byte h.command ≡ command_of p
  pub stream : h.stream ≡ stream_of p
  pub len : h.len ≡ length (message_of p).content

-- SENDME and DROP belong to no stream
abbrev pub owns_no_stream : Command → Bool
owns_no_stream Begin = false
owns_no_stream Data = false
owns_no_stream End = false
owns_no_stream Connected = false
owns_no_stream Sendme = true
owns_no_stream Drop = true
