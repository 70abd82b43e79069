-- What lets a payload in.
use Rattle.std.proofs.Common.{◌≡◌, ℕ, true, false, List, length}
use Rattle.std.proofs.lemmas.Bool.{eq-eqb}
use Rattle.cell.specs.declared.command.Way.{Way}
use Rattle.cell.specs.Payload.{command_of, stream_of, message_of}
use Rattle.model.specs.Messages.{well_formed}
use Rattle.model.specs.Flows.{Flow, overruns}
use Rattle.model.specs.Streams.{Streams, receives, mark_of}
use Rattle.model.specs.Calls.{delivers}
use Rattle.messages.specs.Delivery.{arrives}

pub payload-arrives : (w : Way) (k : ℕ) (f : Flow) (s : Streams) (p : List ℕ) → length p ≡ 509 → well_formed w p ≡ true → overruns (command_of p) f ≡ false
    → arrives w k f s p ≡ delivers (message_of p) (mark_of (receives w k (command_of p) (stream_of p) s))
payload-arrives w k f s p l g o = rw (eq-eqb (length p) 509 l, g, o)
