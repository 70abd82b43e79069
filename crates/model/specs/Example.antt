-- Runs of small circuits of two hops, with a toy cipher and a toy digest: the definitions, computed.
use Rattle.std.specs.Prelude.{◌≡◌, ℕ, ◌+◌, ◌%◌, true, false, List, [], ◌∷◌, ◌++◌, map, length, bit_xor}
use Rattle.cell.specs.Payload.{Message}
use Rattle.cell.specs.declared.command.Way.TheVariants.{Forward, Backward}
use Rattle.model.specs.Lists.{total}
use Rattle.model.specs.Messages.{message, sendme}
use Rattle.model.specs.Ends.{Rules, End}
use Rattle.model.specs.Streams.{no_streams}
use Rattle.model.specs.Flows.{Flow, fresh_flow}
use Rattle.model.specs.Circuit.{Line, Relay, Circuit, Call, send, carry, reply, bring, acknowledge, destroy, Request, Answer, refused, accepted, delivered}
use Rattle.model.specs.Calls.{refusal, scratch_length, output_length}
use Rattle.model.specs.PlainMachine.{entry, forward_crossings}
use Rattle.model.specs.Runs.{World, answer, next, after, start, coincides, Calm}
use Rattle.model.specs.Law.{Fresh}

---- a layer is exclusive-or with the key plus the layer's number, and a digest is the sum of what it took
abbrev sum : List ℕ → ℕ
sum bs = total (λ b. b) bs

abbrev pub toy : Rules ℕ ℕ
toy =
    record {
      added = λ k n p. map (bit_xor (k + n)) p;
      removed = λ k n p. map (bit_xor (k + n)) p;
      takes = λ s p. s + sum p;
      tags = λ s p. (s + sum p) % 256 ∷ s % 256 ∷ 1 ∷ 2 ∷ [];
    }

---- two hops, by their ends; the first with the flows of its two sides
abbrev pub end : ℕ → ℕ → End ℕ ℕ
end k s = record { cipher = k; layer = 0; digest = s }

abbrev line : Line
line = record { capacity = 2; cells = [] }

abbrev relay : End ℕ ℕ → End ℕ ℕ → Flow → Relay ℕ ℕ
relay f b w = record { forward = f; backward = b; flow = w; streams = no_streams }

abbrev pub circuit : Flow → Flow → End ℕ ℕ → End ℕ ℕ → End ℕ ℕ → End ℕ ℕ → Circuit ℕ ℕ
circuit v w f₁ b₁ f₂ b₂ =
    record {
      closed = false;
      client = record { forward = f₁ ∷ f₂ ∷ []; backward = b₁ ∷ b₂ ∷ []; flows = v ∷ fresh_flow ∷ []; streams = no_streams };
      relays = relay f₁ b₁ w ∷ relay f₂ b₂ fresh_flow ∷ [];
      forward = line ∷ line ∷ [];
      backward = line ∷ line ∷ [];
    }

-- hop 2's first layer of each way adds nothing, so that only the digest tells its payload from one for hop 1
abbrev pub two : Circuit ℕ ℕ
two = circuit fresh_flow fresh_flow (end 16 1) (end 32 2) (end 0 3) (end 0 4)

-- here not even the digest does
abbrev pub alike : Circuit ℕ ℕ
alike = circuit fresh_flow fresh_flow (end 16 1) (end 32 1) (end 0 1) (end 0 1)

-- and here hop 1 is near its limits: 99 DATA to acknowledge, one DATA and three messages left to send
abbrev flow : ℕ → ℕ → ℕ → Flow
flow w u s = record { window = w; unacknowledged = u; sent = s }

abbrev pub spent : Circuit ℕ ℕ
spent = circuit (flow 1 99 16777213) (flow 901 0 99) (end 16 1) (end 32 2) (end 0 3) (end 0 4)

---- calls
abbrev ask : Call → Request
ask x = record { call = x; scratch = scratch_length; output = output_length }

abbrev begin : Message
begin = message 1 5 (97 ∷ [])

abbrev connected : Message
connected = message 4 5 []

abbrev some : Message
some = message 2 5 (7 ∷ 8 ∷ [])

abbrev ending : Message
ending = message 3 5 []

abbrev dropped : Message
dropped = message 10 0 []

-- a call with what it is to answer
pub record Exchange : Type 0 where
  pub request : Request
  pub answer : Answer

infix 2 ◌gives◌
abbrev ◌gives◌ : Call → Answer → Exchange
◌gives◌ x a = record { request = ask x; answer = a }

abbrev no : ℕ → ℕ → Answer
no n place = refused (refusal n place)

abbrev pub requests : List Exchange → List Request
requests es = map (λ e. e.request) es

abbrev answers_from : World ℕ ℕ → List Request → List Answer
answers_from w [] = []
answers_from w (x ∷ xs) = answer toy w x ∷ answers_from (next toy w x) xs

abbrev pub Answered : Circuit ℕ ℕ → List Exchange → Type 0
Answered c es = answers_from (start c) (requests es) ≡ map (λ e. e.answer) es

abbrev pub ended : Circuit ℕ ℕ → List Exchange → World ℕ ℕ
ended c es = after toy (start c) (requests es)

---- a stream of hop 2, whose second reply comes late; each link has room for two cells
abbrev pub stream : List Exchange
stream =
    (send 2 begin gives accepted) ∷ (carry 1 gives accepted) ∷ (carry 2 gives delivered 2 begin 0) ∷ (carry 2 gives no 4 2)
    ∷ (reply 1 dropped gives accepted) ∷ (bring 1 gives delivered 1 dropped 0)
    ∷ (reply 2 begin gives no 5 2) ∷ (reply 2 connected gives accepted) ∷ (reply 2 some gives accepted)
    ∷ (bring 2 gives accepted) ∷ (bring 2 gives accepted) ∷ (bring 1 gives delivered 2 connected 0)
    ∷ (send 2 ending gives accepted) ∷ (bring 1 gives delivered 2 some 1)
    ∷ (send 2 some gives no 8 2) ∷ (acknowledge 2 Backward gives no 12 2)
    ∷ (send 1 dropped gives accepted) ∷ (send 2 dropped gives no 3 1) ∷ (carry 1 gives accepted) ∷ (carry 1 gives delivered 1 dropped 0)
    ∷ (send 2 dropped gives accepted) ∷ (carry 1 gives accepted) ∷ (send 2 dropped gives accepted) ∷ (carry 1 gives no 3 2)
    ∷ (carry 2 gives delivered 2 ending 0) ∷ (carry 2 gives delivered 2 dropped 0) ∷ (carry 1 gives accepted) ∷ (carry 2 gives delivered 2 dropped 0)
    ∷ (send 1 dropped gives accepted) ∷ (send 2 dropped gives accepted) ∷ (send 3 dropped gives no 7 3) ∷ []

---- a payload for hop 2 that passes hop 1's test: not sent forward, and taken for hop 1's on its way back
abbrev pub returning : List Exchange
returning = (send 2 dropped gives no 11 1) ∷ (reply 2 dropped gives accepted) ∷ (bring 2 gives accepted) ∷ []

abbrev pub mistaken : List Exchange
mistaken = (bring 1 gives delivered 1 dropped 0) ∷ (reply 1 dropped gives accepted) ∷ (destroy gives accepted) ∷ (bring 1 gives no 16 0) ∷ []

---- 99 DATA are too few to acknowledge and 100 are enough; then the client sends its last DATA and message, which comes late
abbrev pub limits : List Exchange
limits =
    (send 1 begin gives accepted) ∷ (carry 1 gives delivered 1 begin 0) ∷ (reply 1 connected gives accepted) ∷ (bring 1 gives delivered 1 connected 0)
    ∷ (acknowledge 1 Backward gives no 12 1) ∷ (reply 1 some gives accepted) ∷ (bring 1 gives delivered 1 some 0) ∷ (acknowledge 1 Backward gives accepted)
    ∷ (carry 1 gives delivered 1 sendme 0) ∷ (send 1 some gives accepted) ∷ (send 1 some gives no 9 1) ∷ (send 1 dropped gives no 10 1)
    ∷ (reply 1 ending gives accepted) ∷ (carry 1 gives delivered 1 some 1) ∷ []

pub record Example : Type 0 where
  -- the rules keep what is asked of ciphers and digests
  pub removes_what_was_added : (k n : ℕ) (p : List ℕ) → toy.removed k n (toy.added k n p) ≡ p
  pub adds_what_was_removed : (k n : ℕ) (p : List ℕ) → toy.added k n (toy.removed k n p) ≡ p
  pub keeps_length : (k n : ℕ) (p : List ℕ) → (length (toy.added k n p) ≡ length p) × (length (toy.removed k n p) ≡ length p)
  pub tags_by_four : (s : ℕ) (p : List ℕ) → length (toy.tags s p) ≡ 4
  -- two is fresh and its run calm, so that the law speaks of it; the answers, and what is left
  pub two_fresh : Fresh two
  pub stream_calm : Calm toy (start two) (requests stream)
  pub stream_answers : Answered two stream
  pub stream_flows : (ended two stream).circuit.client.flows ≡ flow 1000 0 2 ∷ flow 1000 1 5 ∷ []
  pub stream_relays : map (λ (r : Relay ℕ ℕ). r.flow) (ended two stream).circuit.relays ≡ flow 1000 0 1 ∷ flow 999 0 2 ∷ []
  pub stream_rows : (ended two stream).rows.forward ≡ (entry 1 dropped ∷ entry 2 dropped ∷ []) ∷ [] ∷ []
  pub stream_crossings : forward_crossings 1 (ended two stream).rows.forward ≡ 3
  pub stream_accepted : (ended two stream).accepted Forward 2 ≡ begin ∷ ending ∷ dropped ∷ dropped ∷ dropped ∷ []
  pub stream_delivered : (ended two stream).delivered Forward 2 ≡ begin ∷ ending ∷ dropped ∷ dropped ∷ []
  -- in alike a reply is taken for another hop's, and destroy empties the links
  pub alike_fresh : Fresh alike
  pub alike_coincides : coincides toy (ended alike returning) (ask (bring 1)) ≡ true
  pub alike_answers : Answered alike (returning ++ mistaken)
  pub alike_lines : map (λ (l : Line). l.cells) (ended alike (returning ++ mistaken)).circuit.backward ≡ [] ∷ [] ∷ []
  -- near the limits: what is left of windows, counts and messages
  pub limits_answers : Answered spent limits
  pub limits_flows : (ended spent limits).circuit.client.flows ≡ flow 0 0 16777216 ∷ fresh_flow ∷ []
  pub limits_relays : map (λ (r : Relay ℕ ℕ). r.flow) (ended spent limits).circuit.relays ≡ flow 1000 1 102 ∷ fresh_flow ∷ []
