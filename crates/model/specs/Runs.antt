-- A run: the circuit with the plain machine beside it, what was posted, and what was accepted and delivered so far.
use Rattle.std.specs.Prelude.{◌≡◌, ℕ, zero, suc, ◌-◌, Bool, true, false, cond, ◌&&◌, ◌||◌, List, [], ◌∷◌, ◌++◌, map, take, drop, Some, None, Option, ◌==◌, slice_index_or}
use Rattle.cell.specs.Payload.{Message, blank}
use Rattle.cell.specs.Frame.{payload_of}
use Rattle.model.specs.Lists.{nth}
use Rattle.cell.specs.declared.command.Way.{Way}
use Rattle.cell.specs.declared.command.Way.TheVariants.{Forward, Backward}
use Rattle.model.specs.Messages.{sendme}
use Rattle.model.specs.Ends.{Rules, End, recognises, sealed}
use Rattle.model.specs.Streams.{Streams, no_streams, relay_receives, client_receives, mark_of}
use Rattle.model.specs.Flows.{Flow, no_flow}
use Rattle.model.specs.Circuit.{Relay, Circuit, Call, send, carry, reply, bring, acknowledge, destroy, Request, Answer, refused, accepted, delivered}
use Rattle.model.specs.Calls.{gate, called}
use Rattle.model.specs.Refusals.{oldest_at}
use Rattle.model.specs.PlainMachine.{Entry, entry, Rows, Kind, entries, fed}

---- answers
abbrev pub is_accepted : Answer → Bool
is_accepted (refused f) = false
is_accepted accepted = true
is_accepted (delivered k m mark) = true

-- the entry that an answer hands out
abbrev pub handed_out : Answer → Option Entry
handed_out (refused f) = None
handed_out accepted = None
handed_out (delivered k m mark) = Some (entry k m)

abbrev pub is_destroy : Call → Bool
is_destroy (send k m) = false
is_destroy (carry j) = false
is_destroy (reply k m) = false
is_destroy (bring j) = false
is_destroy (acknowledge k w) = false
is_destroy destroy = true

---- logs: the messages accepted for hop k on a way, and those delivered
abbrev to_hop : ℕ → ℕ → Message → List Message
to_hop k h m = cond (h == k) (m ∷ []) []

abbrev pub sends_for : Way → ℕ → Call → List Message
sends_for Forward k (send h m) = to_hop k h m
sends_for Backward k (send h m) = []
sends_for w k (carry j) = []
sends_for Forward k (reply h m) = []
sends_for Backward k (reply h m) = to_hop k h m
sends_for w k (bring j) = []
sends_for Forward k (acknowledge h Forward) = []
sends_for Backward k (acknowledge h Forward) = to_hop k h sendme
sends_for Forward k (acknowledge h Backward) = to_hop k h sendme
sends_for Backward k (acknowledge h Backward) = []
sends_for w k destroy = []

abbrev pub hands_out : ℕ → Answer → List Message
hands_out k (refused f) = []
hands_out k accepted = []
hands_out k (delivered h m mark) = to_hop k h m

abbrev pub delivers_for : Way → ℕ → Call → Answer → List Message
delivers_for w k (send h m) a = []
delivers_for Forward k (carry j) a = hands_out k a
delivers_for Backward k (carry j) a = []
delivers_for w k (reply h m) a = []
delivers_for Forward k (bring j) a = []
delivers_for Backward k (bring j) a = hands_out k a
delivers_for w k (acknowledge h v) a = []
delivers_for w k destroy a = []

---- what was posted: an entry with the payload as its sender sealed it, and the layer numbers with which hops added their layers
pub record Posting : Type 0 where
  pub entry : Entry
  pub payload : List ℕ
  pub layers : List ℕ

---- the circuit, the plain machine and the postings beside it, and the logs
pub record World (K S : Type 0) : Type 0 where
  pub circuit : Circuit K S
  pub rows : Rows Entry
  pub postings : Rows Posting
  pub accepted : Way → ℕ → List Message
  pub delivered : Way → ℕ → List Message

module _ {K S : Type 0} where
  abbrev pub layer_of : Option (Relay K S) → ℕ
  layer_of None = 0
  layer_of (Some r) = r.backward.layer

  abbrev pub relay_flow : Option (Relay K S) → Flow
  relay_flow None = no_flow
  relay_flow (Some r) = r.flow

  abbrev pub relay_streams : Option (Relay K S) → Streams
  relay_streams None = no_streams
  relay_streams (Some r) = r.streams

  abbrev pub own_forward : Relay K S → End K S
  own_forward r = r.forward

  abbrev pub own_backward : Relay K S → End K S
  own_backward r = r.backward

  -- the hops' own ciphers
  abbrev pub forward_ciphers : Circuit K S → List K
  forward_ciphers c = map (λ r. r.forward.cipher) c.relays

  abbrev pub backward_ciphers : Circuit K S → List K
  backward_ciphers c = map (λ r. r.backward.cipher) c.relays

  -- the mark that the stream rules give to a message that a call delivers at hop k
  abbrev pub mark_given : Circuit K S → Call → ℕ → Message → ℕ
  mark_given c (send h n) k m = 0
  mark_given c (carry j) k m = mark_of (relay_receives k m.command m.stream (relay_streams (nth c.relays (k - 1))))
  mark_given c (reply h n) k m = 0
  mark_given c (bring j) k m = mark_of (client_receives k m.command m.stream c.client.streams)
  mark_given c (acknowledge h w) k m = 0
  mark_given c destroy k m = 0

module _ {K S : Type 0} (R : Rules K S) where
  ---- postings
  abbrev pub sealed_by : Option (End K S) → Message → List ℕ
  sealed_by None m = []
  sealed_by (Some e) m = sealed R e.digest (blank m)

  -- the client adds the layers of hops 1 to k at once; relay k adds its own, and each relay that passes it on adds one
  abbrev pub posted : Circuit K S → Way → ℕ → Message → Posting
  posted c Forward k m =
      record { entry = entry k m; payload = sealed_by (nth c.client.forward (k - 1)) m; layers = map (λ e. e.layer) (take k c.client.forward) }
  posted c Backward k m =
      record { entry = entry k m; payload = sealed_by (nth (map own_backward c.relays) (k - 1)) m; layers = layer_of (nth c.relays (k - 1)) ∷ [] }

  -- a relay that passes a posting on removes its layer, forward, or adds it, backward
  abbrev pub relayed : Circuit K S → Way → ℕ → Posting → Posting
  relayed c Forward j p = record { entry = p.entry; payload = p.payload; layers = drop 1 p.layers }
  relayed c Backward j p = record { entry = p.entry; payload = p.payload; layers = layer_of (nth c.relays (j - 1)) ∷ p.layers }

  abbrev pub journal : Circuit K S → Kind Posting
  journal c = record { hop = λ p. p.entry.hop; made = posted c; passed = relayed c }

  ---- one call
  abbrev pub answer : World K S → Request → Answer
  answer w x = (called R w.circuit x).0

  abbrev pub next : World K S → Request → World K S
  next w x =
      record {
        circuit = (called R w.circuit x).1;
        rows = (fed entries w.rows x.call (is_accepted (answer w x))).rows;
        postings = (fed (journal w.circuit) w.postings x.call (is_accepted (answer w x))).rows;
        accepted = λ v k. w.accepted v k ++ cond (is_accepted (answer w x)) (sends_for v k x.call) [];
        delivered = λ v k. w.delivered v k ++ delivers_for v k x.call (answer w x);
      }

  abbrev pub after : World K S → List Request → World K S
  after w [] = w
  after w (x ∷ xs) = after (next w x) xs

  ---- coincidence on the way back: a bring to the client whose payload, for hop d places on, passes the test of a hop before it
  abbrev pub earlier : List (End K S) → ℕ → List ℕ → Bool
  earlier [] d p = false
  earlier (e ∷ es) zero p = false
  earlier (e ∷ es) (suc d) p = recognises R.tags e.digest (R.removed e.cipher e.layer p) || earlier es d (R.removed e.cipher e.layer p)

  abbrev pub coincides_on : Circuit K S → Option (List ℕ) → List Entry → Bool
  coincides_on c None es = false
  coincides_on c (Some cell) [] = false
  coincides_on c (Some cell) (e ∷ es) = earlier c.client.backward (e.hop - 1) (payload_of cell)

  abbrev pub is_none : {A : Type 0} → Option A → Bool
  is_none None = true
  is_none (Some a) = false

  abbrev pub brings_to_client : Call → Bool
  brings_to_client (send k m) = false
  brings_to_client (carry j) = false
  brings_to_client (reply k m) = false
  brings_to_client (bring j) = j == 1
  brings_to_client (acknowledge k w) = false
  brings_to_client destroy = false

  abbrev pub coincides : World K S → Request → Bool
  coincides w x =
      brings_to_client x.call && (is_none (gate w.circuit x) && coincides_on w.circuit (oldest_at w.circuit.backward 1) (slice_index_or w.rows.backward 0 []))

  -- no call of the list is a destroy or a backward coincidence
  abbrev pub Calm : World K S → List Request → Type 0
  Calm w [] = Unit {0}
  Calm w (x ∷ xs) = (is_destroy x.call ≡ false) × (coincides w x ≡ false) × Calm (next w x) xs

-- before the first call
abbrev pub start : {K S : Type 0} → Circuit K S → World K S
start c =
    record {
      circuit = c;
      rows = record { forward = map (λ l. []) c.forward; backward = map (λ l. []) c.backward };
      postings = record { forward = map (λ l. []) c.forward; backward = map (λ l. []) c.backward };
      accepted = λ v k. [];
      delivered = λ v k. [];
    }
