-- What a client answers, and what becomes of it and of the payload. The host says whether there is room for a payload that goes on.
use Rattle.std.specs.Prelude.{ℕ, suc, ◌+◌, ◌-◌, Bool, cond, ◌||◌, List, length, Some, None, Option, Result, ◌==◌, nat_lt, slice_set}
use Rattle.crypto.specs.declared.cipher.Cipher as cipher
use Rattle.crypto.specs.declared.digest.Digest as digest
use Rattle.cell.specs.Payload.{Message, blank}
use Rattle.model.specs.Ends.{Rules, worn_out, wrapped, advanced, coincidence, recognised_at, unwrapped}
use Rattle.model.specs.Messages.{sendme}
use Rattle.model.specs.Flows.{Flow, acknowledged}
use Rattle.model.specs.Streams.{or_unchanged, client_sends}
use Rattle.model.specs.Circuit as model
use Rattle.model.specs.Calls.{refusal, Outcome, stops, passes_on, delivers, flow_at, client_sent, client_outcome, client_took, client_send_refusal, client_acknowledge_refusal}
use Rattle.cell.specs.declared.command.Way.TheVariants.{Forward}
use Rattle.hops.specs.Views.{rules}
use Rattle.rows.specs.Views.{row_len}
use Rattle.messages.specs.declared.faults.EndFault.{EndFault}
use Rattle.messages.specs.Delivery.{handed}
use Rattle.messages.specs.Refusals.{Sending}
use Rattle.messages.specs.Answers.{placed, send_answer}
use Rattle.client.specs.declared.parts.Client.{Client}
use Rattle.client.specs.Views.{client_seen}

---- sending
-- m was sent to the hop at place d, and f is counted for it now
abbrev pub sent_by : {K S : Type 0} → Rules K S → model.Client K S → ℕ → Flow → Message → model.Client K S
sent_by R c d f m =
    record { forward = advanced R c.forward d (blank m); backward = c.backward; flows = slice_set c.flows d f; streams = or_unchanged c.streams (client_sends (d + 1) m.command m.stream c.streams) }

---- receiving; y is the payload with the layers up to the hop at place d removed
abbrev pub hop_at : Option ℕ → ℕ
hop_at None = 0
hop_at (Some d) = d + 1

abbrev pub client_left : List ℕ → List ℕ → Outcome → List ℕ
client_left p y (stops f) = p
client_left p y passes_on = p
client_left p y (delivers m mark) = y

module _ {K S : Type 0} (R : Rules K S) where
  abbrev pub client_taken : model.Client K S → ℕ → List ℕ → Outcome → model.Client K S
  client_taken c d y (stops f) = c
  client_taken c d y passes_on = c
  client_taken c d y (delivers m mark) = client_took R c d y

  abbrev pub client_after : model.Client K S → List ℕ → Outcome → Option ℕ → model.Client K S
  client_after c p o None = c
  client_after c p o (Some d) = client_taken c d (unwrapped R (suc d) c.backward p) o

  abbrev pub client_leaves : model.Client K S → List ℕ → Outcome → Option ℕ → List ℕ
  client_leaves c p o None = p
  client_leaves c p o (Some d) = client_left p (unwrapped R (suc d) c.backward p) o

module _ {C D : Type 0} (c : cipher.Ghosts C) (d : digest.Ghosts D) where
  -- another length gives 1 and a hop that is not there 7, before everything else
  abbrev pub at_hop : Client C D → ℕ → List ℕ → Option ℕ → Option model.Refusal
  at_hop x hop p o =
      cond (length p == 509) (cond (hop == 0 || nat_lt (row_len x.forward) hop) (Some (refusal 7 hop)) (placed hop o)) (Some (refusal 1 0))

  -- what the rules look at where the client is about to send to the hop at place e
  abbrev pub sender_to : Client C D → ℕ → Sending
  sender_to x e =
      record { way = Forward; hop = e + 1; flow = flow_at (rules c d) (client_seen d x) e; worn = worn_out (client_seen d x).forward e; streams = (client_seen d x).streams }

  ---- sending: the answer, the client afterwards, the payload
  abbrev pub client_answer : Client C D → Bool → ℕ → Message → List ℕ → Result Bool EndFault
  client_answer x room hop m p =
      send_answer (at_hop x hop p (client_send_refusal (rules c d) (client_seen d x) (hop - 1) m)) room (coincidence (rules c d) (client_seen d x).forward (hop - 1) (blank m))

  abbrev pub sent_to : Client C D → ℕ → Message → model.Client C d.State
  sent_to x hop m = client_sent (rules c d) (client_seen d x) (hop - 1) (flow_at (rules c d) (client_seen d x) (hop - 1)) m

  abbrev pub wrapped_to : Client C D → ℕ → Message → List ℕ
  wrapped_to x hop m = wrapped (rules c d) (client_seen d x).forward (hop - 1) (blank m)

  ---- acknowledging
  abbrev pub sendme_answer : Client C D → Bool → ℕ → List ℕ → Result Bool EndFault
  sendme_answer x room hop p =
      send_answer (at_hop x hop p (client_acknowledge_refusal (rules c d) (client_seen d x) (hop - 1))) room (coincidence (rules c d) (client_seen d x).forward (hop - 1) (blank sendme))

  abbrev pub acknowledged_to : Client C D → ℕ → model.Client C d.State
  acknowledged_to x hop = client_sent (rules c d) (client_seen d x) (hop - 1) (acknowledged (flow_at (rules c d) (client_seen d x) (hop - 1))) sendme

  ---- receiving: what becomes of the payload, and the place of the hop whose test passes
  abbrev pub client_fate : Client C D → List ℕ → Outcome
  client_fate x p = cond (length p == 509) (client_outcome (rules c d) (client_seen d x) p) (stops (refusal 1 0))

  abbrev pub client_place : Client C D → List ℕ → Option ℕ
  client_place x p = recognised_at (rules c d) (client_seen d x).backward p

  abbrev pub client_receipt : Client C D → List ℕ → Result ((ℕ × ℕ × ℕ × ℕ) × ℕ) EndFault
  client_receipt x p = handed (hop_at (client_place x p)) (client_fate x p)

  abbrev pub client_next : Client C D → List ℕ → model.Client C d.State
  client_next x p = client_after (rules c d) (client_seen d x) p (client_fate x p) (client_place x p)

  abbrev pub client_payload : Client C D → List ℕ → List ℕ
  client_payload x p = client_leaves (rules c d) (client_seen d x) p (client_fate x p) (client_place x p)
