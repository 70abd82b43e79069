-- A circuit as values: the client, the relays, and the links of both ways. Hops and links count from 1, places in lists from 0,
-- so that hop k and the links k stand at place k - 1.
use Rattle.std.specs.Prelude.{ℕ, Bool, List, length, nat_le}
use Rattle.cell.specs.Payload.{Message}
use Rattle.cell.specs.declared.command.Way.{Way}
use Rattle.model.specs.Ends.{End}
use Rattle.model.specs.Streams.{Streams}
use Rattle.model.specs.Flows.{Flow}

-- what a link means
pub record Line : Type 0 where
  pub capacity : ℕ
  pub cells : List (List ℕ)

abbrev pub is_full : Line → Bool
is_full l = nat_le l.capacity (length l.cells)

abbrev pub holding : Line → List (List ℕ) → Line
holding l xs = record { capacity = l.capacity; cells = xs }

-- by hop: the ends that send forward, the ends that receive backward, the flows
pub record Client (K S : Type 0) : Type 0 where
  pub forward : List (End K S)
  pub backward : List (End K S)
  pub flows : List Flow
  pub streams : Streams

-- the end that receives forward, the end that sends backward
pub record Relay (K S : Type 0) : Type 0 where
  pub forward : End K S
  pub backward : End K S
  pub flow : Flow
  pub streams : Streams

pub record Circuit (K S : Type 0) : Type 0 where
  pub closed : Bool
  pub client : Client K S
  pub relays : List (Relay K S)
  pub forward : List Line
  pub backward : List Line

---- the six calls
pub data Call : Type 0 where
  send : ℕ → Message → Call
  carry : ℕ → Call
  reply : ℕ → Message → Call
  bring : ℕ → Call
  acknowledge : ℕ → Way → Call
  destroy : Call

-- a call, with the lengths of the scratch and of the output lent to it
pub record Request : Type 0 where
  pub call : Call
  pub scratch : ℕ
  pub output : ℕ

pub record Refusal : Type 0 where
  pub number : ℕ
  pub place : ℕ

-- refused, accepted with nothing delivered, or a delivery: hop, message and mark
pub data Answer : Type 0 where
  refused : Refusal → Answer
  accepted : Answer
  delivered : ℕ → Message → ℕ → Answer
