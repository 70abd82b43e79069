-- What a relay answers, and what becomes of it and of the payload. The host says whether there is room for a payload that goes on.
use Rattle.std.specs.Prelude.{◌≡◌, ℕ, ◌<◌, ◌≤◌, Bool, cond, List, length, Some, None, Ok, Err, Option, Result, ◌==◌, nat_le}
use Rattle.crypto.specs.declared.cipher.Cipher as cipher
use Rattle.crypto.specs.declared.digest.Digest as digest
use Rattle.cell.specs.Payload.{Message, blank}
use Rattle.model.specs.Ends.{Rules, layer_limit, took, sealed}
use Rattle.model.specs.Messages.{sendme}
use Rattle.model.specs.Flows.{Flow, acknowledged}
use Rattle.model.specs.Streams.{or_unchanged, relay_sends}
use Rattle.model.specs.Circuit as model
use Rattle.model.specs.Calls.{refusal, Outcome, stops, passes_on, delivers, relay_outcome, relay_removes, relay_passed, relay_took, relay_send_refusal, relay_sent, relay_adds, relay_acknowledge_refusal}
use Rattle.cell.specs.declared.command.Way.TheVariants.{Backward}
use Rattle.streams.specs.Views.{flow_seen, streams_seen}
use Rattle.hops.specs.Views.{rules}
use Rattle.messages.specs.declared.faults.EndFault.{EndFault}
use Rattle.messages.specs.Faults.{fault_of}
use Rattle.messages.specs.Refusals.{Sending}
use Rattle.messages.specs.Answers.{placed, send_answer}
use Rattle.relay.specs.declared.parts.Relay.{Relay}
use Rattle.relay.specs.declared.parts.Arrival.{Arrival}
use Rattle.relay.specs.declared.parts.Arrival.TheVariants.{Delivered, Passed, Held}
use Rattle.relay.specs.Views.{relay_seen}

-- a hop is one of 1 to 8, and it is that of a relay
abbrev pub Open : ℕ → ℕ → Type 0
Open hop k = (k ≡ hop) × (0 < hop) × (hop ≤ 8)

---- receiving; y is the payload with the relay's layer removed
abbrev pub arrival : Bool → ℕ → Outcome → Result Arrival EndFault
arrival room k (stops f) = Err (fault_of f.number f.place)
arrival room k passes_on = Ok (cond room Passed Held)
arrival room k (delivers m mark) = Ok (Delivered ((k, m.command, m.stream, mark), length m.content))

-- the same in numbers alone: all 0 where there is nothing for this relay
abbrev pub in_numbers : Result Arrival EndFault → Result ((ℕ × ℕ × ℕ × ℕ) × ℕ) EndFault
in_numbers (Ok (Delivered handed)) = Ok handed
in_numbers (Ok Passed) = Ok ((0, 0, 0, 0), 0)
in_numbers (Ok Held) = Ok ((0, 0, 0, 0), 0)
in_numbers (Err f) = Err f

abbrev pub leaves : Bool → List ℕ → List ℕ → Outcome → List ℕ
leaves room p y (stops f) = p
leaves room p y passes_on = cond room y p
leaves room p y (delivers m mark) = y

abbrev pub relay_after : {K S : Type 0} → Rules K S → model.Relay K S → ℕ → Bool → List ℕ → Outcome → model.Relay K S
relay_after R r k room y (stops f) = r
relay_after R r k room y passes_on = cond room (relay_passed R r) r
relay_after R r k room y (delivers m mark) = relay_took R r k y

---- sending; m was sent, and f is counted now
abbrev pub sent_by : {K S : Type 0} → Rules K S → model.Relay K S → ℕ → Flow → Message → model.Relay K S
sent_by R r k f m = record { forward = r.forward; backward = took R r.backward (blank m); flow = f; streams = or_unchanged r.streams (relay_sends k m.command m.stream r.streams) }

-- what the rules look at
abbrev pub sender_of : {C D : Type 0} → Relay C D → Sending
sender_of r = record { way = Backward; hop = r.hop; flow = flow_seen r.flow; worn = nat_le layer_limit r.backward.layer; streams = streams_seen r.streams }

module _ {C D : Type 0} (c : cipher.Ghosts C) (d : digest.Ghosts D) where
  abbrev pub bared : Relay C D → List ℕ → List ℕ
  bared r p = relay_removes (rules c d) (relay_seen d r) p

  -- another length gives 1, before everything else
  abbrev pub relay_fate : Relay C D → List ℕ → Outcome
  relay_fate r p = cond (length p == 509) (relay_outcome (rules c d) (relay_seen d r) r.hop r.last (bared r p)) (stops (refusal 1 0))

  abbrev pub at_relay : Relay C D → List ℕ → Option ℕ → Option model.Refusal
  at_relay r p o = cond (length p == 509) (placed r.hop o) (Some (refusal 1 0))

  ---- receiving: the answer, the relay afterwards, the payload
  abbrev pub relay_answer : Relay C D → Bool → List ℕ → Result Arrival EndFault
  relay_answer r room p = arrival room r.hop (relay_fate r p)

  abbrev pub relay_next : Relay C D → Bool → List ℕ → model.Relay C d.State
  relay_next r room p = relay_after (rules c d) (relay_seen d r) r.hop room (bared r p) (relay_fate r p)

  abbrev pub relay_payload : Relay C D → Bool → List ℕ → List ℕ
  relay_payload r room p = leaves room p (bared r p) (relay_fate r p)

  ---- replying
  abbrev pub reply_answer : Relay C D → Bool → Message → List ℕ → Result Bool EndFault
  reply_answer r room m p = send_answer (at_relay r p (relay_send_refusal (rules c d) (relay_seen d r) r.hop m)) room None

  abbrev pub replied : Relay C D → Message → model.Relay C d.State
  replied r m = relay_sent (rules c d) (relay_seen d r) r.hop (relay_seen d r).flow m

  abbrev pub reply_payload : Relay C D → Message → List ℕ
  reply_payload r m = relay_adds (rules c d) (relay_seen d r) (sealed (rules c d) (relay_seen d r).backward.digest (blank m))

  ---- passing back
  abbrev pub pass_refusal : Relay C D → Option ℕ
  pass_refusal r = cond (nat_le layer_limit r.backward.layer) (Some 10) None

  abbrev pub pass_answer : Relay C D → Bool → List ℕ → Result Bool EndFault
  pass_answer r room p = send_answer (at_relay r p (pass_refusal r)) room None

  ---- acknowledging
  abbrev pub sendme_answer : Relay C D → Bool → List ℕ → Result Bool EndFault
  sendme_answer r room p = send_answer (at_relay r p (relay_acknowledge_refusal (rules c d) (relay_seen d r))) room None

  abbrev pub relay_acknowledged : Relay C D → model.Relay C d.State
  relay_acknowledged r = relay_sent (rules c d) (relay_seen d r) r.hop (acknowledged (relay_seen d r).flow) sendme
