-- What a client of the code means, and why none is made.
use Rattle.std.specs.Prelude.{◌≡◌, ℕ, ◌<◌, ◌≤◌, map, Some, None, vec_items, Option}
use Rattle.crypto.specs.declared.digest.Digest as digest
use Rattle.model.specs.Circuit as model
use Rattle.streams.specs.Views.{flow_seen, streams_seen}
use Rattle.rows.specs.Views.{row_len, row_seen}
use Rattle.client.specs.declared.parts.Client.{Client}
use Rattle.client.specs.declared.faults.OpenError.{OpenError}
use Rattle.client.specs.declared.faults.OpenError.TheVariants.{Hops, Memory}

abbrev pub client_seen : {C D : Type 0} → (d : digest.Ghosts D) → Client C D → model.Client C d.State
client_seen d c =
    record { forward = row_seen d c.forward; backward = row_seen d c.backward; flows = map flow_seen (vec_items c.flows); streams = streams_seen c.streams }

-- a client that means this now, with as many hops as before
pub record Becomes {C D : Type 0} (d : digest.Ghosts D) (was c : Client C D) (next : model.Client C d.State) : Type 0 where
  pub state : client_seen d c ≡ next
  pub hops : row_len c.forward ≡ row_len was.forward

-- no client of these numbers of hops is made, or memory is short
abbrev pub Opened : ℕ → ℕ → OpenError → Type 0
Opened n back Hops = ((0 < n) × (n ≤ 8) × (back ≡ n)) → ⊥
Opened n back Memory = (0 < n) × (n ≤ 8) × (back ≡ n)

abbrev pub open_number : OpenError → Option ℕ
open_number Hops = Some 18
open_number Memory = None
