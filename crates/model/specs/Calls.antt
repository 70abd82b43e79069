-- What each call makes of a circuit, and what it answers. A refused call leaves the circuit as it was.
use Rattle.std.specs.Prelude.{ℕ, suc, ◌+◌, ◌-◌, Bool, true, false, cond, not, ◌&&◌, ◌||◌, List, [], ◌∷◌, ◌++◌, map, length, Some, None, Option, ◌==◌, nat_le, nat_lt, slice_index_or, slice_set}
use Rattle.cell.specs.Payload.{Message, blank, zeroed, command_of, stream_of, message_of}
use Rattle.cell.specs.Frame.{relay_cell, cell_number, framed, number_of, cell_command_of, payload_of}
use Rattle.model.specs.Lists.{nth, first_of}
use Rattle.cell.specs.declared.command.Way.{Way}
use Rattle.cell.specs.declared.command.Way.TheVariants.{Forward, Backward}
use Rattle.model.specs.Messages.{sendme, is_data, may_send, well_formed}
use Rattle.model.specs.Ends.{Rules, layer_limit, recognises, worn_out, worn_at, moved, took, sealed, wrapped, advanced, coincidence, recognised_at, unwrapped}
use Rattle.model.specs.Streams.{Streams, client_sends, relay_sends, client_receives, relay_receives, or_unchanged, mark_of, is_broken}
use Rattle.model.specs.Flows.{Flow, step, message_limit, no_flow, posted, received, acknowledged, overruns}
use Rattle.model.specs.Circuit.{Line, is_full, holding, Client, Relay, Circuit, Call, send, carry, reply, bring, acknowledge, destroy, Request, Refusal, Answer, refused, accepted, delivered}

abbrev pub refusal : ℕ → ℕ → Refusal
refusal n place = record { number = n; place = place }

-- a header of link j
abbrev pub headed : ℕ → List ℕ → Bool
headed j cell = number_of cell == cell_number j && cell_command_of cell == relay_cell

---- the sending end: 5, 6, 8, 9, 10 for a message, 12, 10 for an acknowledgement
abbrev pub sending_refusal : Bool → Option Streams → Flow → Bool → Message → Option ℕ
sending_refusal allowed streams f worn m =
    first_of
    ((not allowed, 5) ∷ (nat_lt 498 (length m.content), 6) ∷ (is_broken streams, 8) ∷ (nat_lt f.window (is_data m.command), 9)
    ∷ (nat_le message_limit f.sent || worn, 10) ∷ [])

abbrev pub acknowledge_refusal : Flow → Bool → Option ℕ
acknowledge_refusal f worn = first_of ((nat_lt f.unacknowledged step, 12) ∷ (nat_le message_limit f.sent || worn, 10) ∷ [])

---- what becomes of a payload at a receiving end
pub data Outcome : Type 0 where
  stops : Refusal → Outcome
  passes_on : Outcome
  delivers : Message → ℕ → Outcome

-- a payload whose test passed at hop k: 14 and 15, or it is delivered; s is what the stream rules make of the streams
abbrev pub delivery : Way → ℕ → Flow → Option Streams → List ℕ → Outcome
delivery w k f s y =
    cond (not (well_formed w y)) (stops (refusal 14 k)) (cond (overruns (command_of y) f) (stops (refusal 15 k)) (delivers (message_of y) (mark_of s)))

module _ {K S : Type 0} (R : Rules K S) where
  ---- the client; d is the place of the hop
  abbrev pub flow_at : Client K S → ℕ → Flow
  flow_at c d = slice_index_or c.flows d no_flow

  abbrev pub client_send_refusal : Client K S → ℕ → Message → Option ℕ
  client_send_refusal c d m =
      sending_refusal (may_send Forward m.command) (client_sends (d + 1) m.command m.stream c.streams) (flow_at c d) (worn_out c.forward d) m

  abbrev pub client_acknowledge_refusal : Client K S → ℕ → Option ℕ
  client_acknowledge_refusal c d = acknowledge_refusal (flow_at c d) (worn_out c.forward d)

  -- m was sent, from the flow f
  abbrev pub client_sent : Client K S → ℕ → Flow → Message → Client K S
  client_sent c d f m =
      record { forward = advanced R c.forward d (blank m); backward = c.backward; flows = slice_set c.flows d (posted m.command f); streams = or_unchanged c.streams (client_sends (d + 1) m.command m.stream c.streams) }

  -- y is the payload with the layers up to place d removed
  abbrev pub client_delivery : Client K S → ℕ → List ℕ → Outcome
  client_delivery c d y =
      cond (not (well_formed Backward y)) (stops (refusal 14 (d + 1)))
      (cond (overruns (command_of y) (flow_at c d)) (stops (refusal 15 (d + 1)))
      (delivers (message_of y) (mark_of (client_receives (d + 1) (command_of y) (stream_of y) c.streams))))

  abbrev pub client_found : Client K S → List ℕ → Option ℕ → Outcome
  client_found c p None = stops (refusal 13 (length c.backward))
  client_found c p (Some d) = client_delivery c d (unwrapped R (suc d) c.backward p)

  abbrev pub client_worn : Client K S → List ℕ → Option ℕ → Outcome
  client_worn c p (Some d) = stops (refusal 10 (d + 1))
  client_worn c p None = client_found c p (recognised_at R c.backward p)

  abbrev pub client_outcome : Client K S → List ℕ → Outcome
  client_outcome c p = client_worn c p (worn_at c.backward)

  abbrev pub client_took : Client K S → ℕ → List ℕ → Client K S
  client_took c d y =
      record { forward = c.forward; backward = advanced R c.backward d (zeroed y); flows = slice_set c.flows d (received (command_of y) (flow_at c d)); streams = or_unchanged c.streams (client_receives (d + 1) (command_of y) (stream_of y) c.streams) }

  ---- the relay of hop k
  abbrev pub relay_send_refusal : Relay K S → ℕ → Message → Option ℕ
  relay_send_refusal r k m =
      sending_refusal (may_send Backward m.command) (relay_sends k m.command m.stream r.streams) r.flow (nat_le layer_limit r.backward.layer) m

  abbrev pub relay_acknowledge_refusal : Relay K S → Option ℕ
  relay_acknowledge_refusal r = acknowledge_refusal r.flow (nat_le layer_limit r.backward.layer)

  abbrev pub relay_sent : Relay K S → ℕ → Flow → Message → Relay K S
  relay_sent r k f m =
      record { forward = r.forward; backward = took R r.backward (blank m); flow = posted m.command f; streams = or_unchanged r.streams (relay_sends k m.command m.stream r.streams) }

  abbrev pub relay_removes : Relay K S → List ℕ → List ℕ
  relay_removes r p = R.removed r.forward.cipher r.forward.layer p

  abbrev pub relay_adds : Relay K S → List ℕ → List ℕ
  relay_adds r p = R.added r.backward.cipher r.backward.layer p

  abbrev pub relay_delivery : Relay K S → ℕ → List ℕ → Outcome
  relay_delivery r k y =
      cond (not (well_formed Forward y)) (stops (refusal 14 k))
      (cond (overruns (command_of y) r.flow) (stops (refusal 15 k))
      (delivers (message_of y) (mark_of (relay_receives k (command_of y) (stream_of y) r.streams))))

  -- y is the payload with the relay's layer removed
  abbrev pub relay_outcome : Relay K S → ℕ → Bool → List ℕ → Outcome
  relay_outcome r k last y =
      cond (nat_le layer_limit r.forward.layer) (stops (refusal 10 k))
      (cond (recognises R.tags r.forward.digest y) (relay_delivery r k y)
      (cond last (stops (refusal 13 k)) passes_on))

  abbrev pub relay_passed : Relay K S → Relay K S
  relay_passed r = record { forward = moved r.forward; backward = r.backward; flow = r.flow; streams = r.streams }

  abbrev pub relay_took : Relay K S → ℕ → List ℕ → Relay K S
  relay_took r k y =
      record { forward = took R r.forward (zeroed y); backward = r.backward; flow = received (command_of y) r.flow; streams = or_unchanged r.streams (relay_receives k (command_of y) (stream_of y) r.streams) }

  abbrev pub relay_added : Relay K S → Relay K S
  relay_added r = record { forward = r.forward; backward = moved r.backward; flow = r.flow; streams = r.streams }

  ---- sending from the client
  abbrev pub send_unless : Circuit K S → ℕ → Flow → Message → Line → Option ℕ → Answer × Circuit K S
  send_unless c d f m l (Some j) = (refused (refusal 11 (j + 1)), c)
  send_unless c d f m l None =
      (accepted, record { closed = c.closed; client = client_sent c.client d f m; relays = c.relays; forward = slice_set c.forward 0 (holding l (l.cells ++ framed (cell_number 1) (wrapped R c.client.forward d (blank m)) ∷ [])); backward = c.backward })

  abbrev pub send_on : Circuit K S → ℕ → Flow → Message → Option Line → Answer × Circuit K S
  send_on c d f m None = (refused (refusal 7 1), c)
  send_on c d f m (Some l) = cond (is_full l) (refused (refusal 3 1), c) (send_unless c d f m l (coincidence R c.client.forward d (blank m)))

  abbrev pub send_by : Circuit K S → ℕ → Flow → Message → Option ℕ → Answer × Circuit K S
  send_by c d f m (Some n) = (refused (refusal n (d + 1)), c)
  send_by c d f m None = send_on c d f m (nth c.forward 0)

  ---- sending from the relay at place i
  abbrev pub reply_on : Circuit K S → ℕ → Relay K S → Flow → Message → Option Line → Answer × Circuit K S
  reply_on c i r f m None = (refused (refusal 7 (i + 1)), c)
  reply_on c i r f m (Some l) =
      cond (is_full l) (refused (refusal 3 (i + 1)), c)
      (accepted, record { closed = c.closed; client = c.client; relays = slice_set c.relays i (relay_sent r (i + 1) f m); forward = c.forward; backward = slice_set c.backward i (holding l (l.cells ++ framed (cell_number (i + 1)) (relay_adds r (sealed R r.backward.digest (blank m))) ∷ [])) })

  abbrev pub reply_by : Circuit K S → ℕ → Relay K S → Flow → Message → Option ℕ → Answer × Circuit K S
  reply_by c i r f m (Some n) = (refused (refusal n (i + 1)), c)
  reply_by c i r f m None = reply_on c i r f m (nth c.backward i)

  abbrev pub reply_at : Circuit K S → ℕ → Message → Option (Relay K S) → Answer × Circuit K S
  reply_at c i m None = (refused (refusal 7 (i + 1)), c)
  reply_at c i m (Some r) = reply_by c i r r.flow m (relay_send_refusal r (i + 1) m)

  abbrev pub reply_sendme : Circuit K S → ℕ → Option (Relay K S) → Answer × Circuit K S
  reply_sendme c i None = (refused (refusal 7 (i + 1)), c)
  reply_sendme c i (Some r) = reply_by c i r (acknowledged r.flow) sendme (relay_acknowledge_refusal r)

  ---- carrying: relay r at place i, its link l, whose oldest cell is followed by xs; y is the payload with r's layer removed
  abbrev pub carry_on : Circuit K S → ℕ → Relay K S → Line → List (List ℕ) → List ℕ → Option Line → Answer × Circuit K S
  carry_on c i r l xs y None = (refused (refusal 7 (i + 2)), c)
  carry_on c i r l xs y (Some g) =
      cond (is_full g) (refused (refusal 3 (i + 2)), c)
      (accepted, record { closed = c.closed; client = c.client; relays = slice_set c.relays i (relay_passed r); forward = slice_set (slice_set c.forward (i + 1) (holding g (g.cells ++ framed (cell_number (i + 2)) y ∷ []))) i (holding l xs); backward = c.backward })

  abbrev pub carry_to : Circuit K S → ℕ → Relay K S → Line → List (List ℕ) → List ℕ → Outcome → Answer × Circuit K S
  carry_to c i r l xs y (stops f) = (refused f, c)
  carry_to c i r l xs y passes_on = carry_on c i r l xs y (nth c.forward (i + 1))
  carry_to c i r l xs y (delivers m mark) =
      (delivered (i + 1) m mark, record { closed = c.closed; client = c.client; relays = slice_set c.relays i (relay_took r (i + 1) y); forward = slice_set c.forward i (holding l xs); backward = c.backward })

  abbrev pub carry_cell : Circuit K S → ℕ → Relay K S → Line → List (List ℕ) → Answer × Circuit K S
  carry_cell c i r l [] = (refused (refusal 4 (i + 1)), c)
  carry_cell c i r l (x ∷ xs) =
      cond (headed (i + 1) x)
      (carry_to c i r l xs (relay_removes r (payload_of x)) (relay_outcome r (i + 1) (i + 1 == length c.relays) (relay_removes r (payload_of x))))
      (refused (refusal 2 (i + 1)), c)

  abbrev pub carry_at : Circuit K S → ℕ → Option (Relay K S) → Option Line → Answer × Circuit K S
  carry_at c i None l = (refused (refusal 7 (i + 1)), c)
  carry_at c i (Some r) None = (refused (refusal 7 (i + 1)), c)
  carry_at c i (Some r) (Some l) = carry_cell c i r l l.cells

  ---- bringing to the client, from backward link 1
  abbrev pub arrived_at : Circuit K S → Line → List (List ℕ) → List ℕ → Outcome → Option ℕ → Answer × Circuit K S
  arrived_at c l xs p (stops f) d = (refused f, c)
  arrived_at c l xs p passes_on d = (refused (refusal 13 (length c.relays)), c)
  arrived_at c l xs p (delivers m mark) None = (refused (refusal 13 (length c.relays)), c)
  arrived_at c l xs p (delivers m mark) (Some d) =
      (delivered (d + 1) m mark, record { closed = c.closed; client = client_took c.client d (unwrapped R (suc d) c.client.backward p); relays = c.relays; forward = c.forward; backward = slice_set c.backward 0 (holding l xs) })

  abbrev pub arrive_cell : Circuit K S → Line → List (List ℕ) → Answer × Circuit K S
  arrive_cell c l [] = (refused (refusal 4 1), c)
  arrive_cell c l (x ∷ xs) =
      cond (headed 1 x)
      (arrived_at c l xs (payload_of x) (client_outcome c.client (payload_of x)) (recognised_at R c.client.backward (payload_of x)))
      (refused (refusal 2 1), c)

  abbrev pub arrive : Circuit K S → Option Line → Answer × Circuit K S
  arrive c None = (refused (refusal 7 1), c)
  arrive c (Some l) = arrive_cell c l l.cells

  ---- bringing past the relay r at place i: from link i + 2, here l, to link i + 1, here g
  abbrev pub bring_cell : Circuit K S → ℕ → Relay K S → Line → Line → List (List ℕ) → Answer × Circuit K S
  bring_cell c i r l g [] = (refused (refusal 4 (i + 2)), c)
  bring_cell c i r l g (x ∷ xs) =
      cond (headed (i + 2) x)
      (cond (nat_le layer_limit r.backward.layer) (refused (refusal 10 (i + 1)), c)
      (cond (is_full g) (refused (refusal 3 (i + 1)), c)
      (accepted, record { closed = c.closed; client = c.client; relays = slice_set c.relays i (relay_added r); forward = c.forward; backward = slice_set (slice_set c.backward i (holding g (g.cells ++ framed (cell_number (i + 1)) (relay_adds r (payload_of x)) ∷ []))) (i + 1) (holding l xs) })))
      (refused (refusal 2 (i + 2)), c)

  abbrev pub bring_at : Circuit K S → ℕ → Option (Relay K S) → Option Line → Option Line → Answer × Circuit K S
  bring_at c i None l g = (refused (refusal 7 (i + 2)), c)
  bring_at c i (Some r) None g = (refused (refusal 7 (i + 2)), c)
  bring_at c i (Some r) (Some l) None = (refused (refusal 7 (i + 2)), c)
  bring_at c i (Some r) (Some l) (Some g) = bring_cell c i r l g l.cells

  ---- all calls, past the gate; hop and link numbers are in range there
  abbrev pub act : Circuit K S → Call → Answer × Circuit K S
  act c (send k m) = send_by c (k - 1) (flow_at c.client (k - 1)) m (client_send_refusal c.client (k - 1) m)
  act c (carry j) = carry_at c (j - 1) (nth c.relays (j - 1)) (nth c.forward (j - 1))
  act c (reply k m) = reply_at c (k - 1) m (nth c.relays (k - 1))
  act c (bring j) =
      cond (j == 1) (arrive c (nth c.backward 0)) (bring_at c (j - 2) (nth c.relays (j - 2)) (nth c.backward (j - 1)) (nth c.backward (j - 2)))
  act c (acknowledge k Forward) = reply_sendme c (k - 1) (nth c.relays (k - 1))
  act c (acknowledge k Backward) =
      send_by c (k - 1) (acknowledged (flow_at c.client (k - 1))) sendme (client_acknowledge_refusal c.client (k - 1))
  act c destroy =
      (accepted, record { closed = true; client = c.client; relays = c.relays; forward = map (λ l. holding l []) c.forward; backward = map (λ l. holding l []) c.backward })

---- 16, 17 and 7 come first, for every call
abbrev pub scratch_length : ℕ
scratch_length = 1028

abbrev pub output_length : ℕ
output_length = 498

abbrev pub lacks_room : Request → Call → Bool
lacks_room x (send k m) = nat_lt x.scratch scratch_length
lacks_room x (carry j) = nat_lt x.scratch scratch_length || nat_lt x.output output_length
lacks_room x (reply k m) = nat_lt x.scratch scratch_length
lacks_room x (bring j) = nat_lt x.scratch scratch_length || nat_lt x.output output_length
lacks_room x (acknowledge k w) = nat_lt x.scratch scratch_length
lacks_room x destroy = false

-- the hop or link that a call names; destroy names none, which is as good as 1
abbrev pub asks_for : Call → ℕ
asks_for (send k m) = k
asks_for (carry j) = j
asks_for (reply k m) = k
asks_for (bring j) = j
asks_for (acknowledge k w) = k
asks_for destroy = 1

module _ {K S : Type 0} where
  abbrev pub gate : Circuit K S → Request → Option Refusal
  gate c x =
      first_of
      ((c.closed, refusal 16 0) ∷ (lacks_room x x.call, refusal 17 0)
      ∷ (asks_for x.call == 0 || nat_lt (length c.relays) (asks_for x.call), refusal 7 (asks_for x.call)) ∷ [])

  abbrev pub gated : Circuit K S → Option Refusal → Answer × Circuit K S → Answer × Circuit K S
  gated c (Some f) r = (refused f, c)
  gated c None r = r

-- the answer to a call, and the circuit after it
abbrev pub called : {K S : Type 0} → Rules K S → Circuit K S → Request → Answer × Circuit K S
called R c x = gated c (gate c x) (act R c x.call)
