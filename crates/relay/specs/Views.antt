-- What a relay of the code means.
use Rattle.std.specs.Prelude.{◌≡◌}
use Rattle.crypto.specs.declared.digest.Digest as digest
use Rattle.model.specs.Circuit as model
use Rattle.streams.specs.Views.{flow_seen, streams_seen}
use Rattle.hops.specs.Views.{end_seen}
use Rattle.relay.specs.declared.parts.Relay.{Relay}

abbrev pub relay_seen : {C D : Type 0} → (d : digest.Ghosts D) → Relay C D → model.Relay C d.State
relay_seen d r = record { forward = end_seen d r.forward; backward = end_seen d r.backward; flow = flow_seen r.flow; streams = streams_seen r.streams }

-- a relay's hop and whether it is the last never change
abbrev pub Stays : {C D : Type 0} → Relay C D → Relay C D → Type 0
Stays was r = (r.hop ≡ was.hop) × (r.last ≡ was.last)

-- a relay that means this now, at the hop where it was
pub record Becomes {C D : Type 0} (d : digest.Ghosts D) (was r : Relay C D) (next : model.Relay C d.State) : Type 0 where
  pub state : relay_seen d r ≡ next
  pub place : Stays was r
