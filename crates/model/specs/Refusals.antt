-- The table of refusals: for each call its tests in their order, each with the number and the place that it then names.
use Rattle.std.specs.Prelude.{ℕ, suc, ◌+◌, ◌-◌, Bool, true, false, cond, not, ◌&&◌, ◌||◌, List, [], ◌∷◌, length, Some, None, Option, ◌==◌, nat_le, nat_lt}
use Rattle.cell.specs.Payload.{Message, blank, command_of}
use Rattle.cell.specs.Frame.{payload_of}
use Rattle.model.specs.Lists.{nth}
use Rattle.cell.specs.declared.command.Way.TheVariants.{Forward, Backward}
use Rattle.model.specs.Messages.{sendme, is_data, may_send, well_formed}
use Rattle.model.specs.Ends.{Rules, recognises, coincidence, recognised_at, unwrapped}
use Rattle.model.specs.Streams.{client_sends, relay_sends, is_broken}
use Rattle.model.specs.Flows.{step, message_limit, overruns}
use Rattle.model.specs.Circuit.{Line, is_full, Relay, Circuit, Call, send, carry, reply, bring, acknowledge, destroy, Request, Refusal, Answer, refused, accepted, delivered}
use Rattle.model.specs.Calls.{refusal, headed, flow_at, relay_removes, lacks_room, asks_for}

abbrev pub Row : Type 0
Row = Bool × Refusal

-- a number, where its test holds, at a place
abbrev pub row : ℕ → Bool → ℕ → Row
row n test place = (test, refusal n place)

-- whether the link of hop k is full; a link that is not there has no room
abbrev pub full_line : Option Line → Bool
full_line None = true
full_line (Some l) = is_full l

abbrev pub full_at : List Line → ℕ → Bool
full_at ls k = full_line (nth ls (k - 1))

-- the oldest cell of link j
abbrev pub oldest : List (List ℕ) → Option (List ℕ)
oldest [] = None
oldest (x ∷ xs) = Some x

abbrev pub oldest_of : Option Line → Option (List ℕ)
oldest_of None = None
oldest_of (Some l) = oldest l.cells

abbrev pub oldest_at : List Line → ℕ → Option (List ℕ)
oldest_at ls j = oldest_of (nth ls (j - 1))

-- 11, at the farthest hop where the cell would be taken for another's
abbrev pub coincidence_row : Option ℕ → Row
coincidence_row None = row 11 false 0
coincidence_row (Some d) = row 11 true (d + 1)

module _ {K S : Type 0} (R : Rules K S) where
  ---- send, and the client's acknowledge
  abbrev pub client_rows : Circuit K S → ℕ → Message → List Row
  client_rows c k m =
      row 10 (nat_le message_limit (flow_at R c.client (k - 1)).sent) k ∷ row 3 (full_at c.forward 1) 1
      ∷ coincidence_row (coincidence R c.client.forward (k - 1) (blank m)) ∷ []

  abbrev pub send_rows : Circuit K S → ℕ → Message → List Row
  send_rows c k m =
      row 5 (not (may_send Forward m.command)) k ∷ row 6 (nat_lt 498 (length m.content)) k
      ∷ row 8 (is_broken (client_sends k m.command m.stream c.client.streams)) k
      ∷ row 9 (nat_lt (flow_at R c.client (k - 1)).window (is_data m.command)) k ∷ client_rows c k m

  abbrev pub client_acknowledge_rows : Circuit K S → ℕ → List Row
  client_acknowledge_rows c k = row 12 (nat_lt (flow_at R c.client (k - 1)).unacknowledged step) k ∷ client_rows c k sendme

  ---- reply, and the relay's acknowledge
  abbrev pub relay_rows : Circuit K S → ℕ → Relay K S → List Row
  relay_rows c k r = row 10 (nat_le message_limit r.flow.sent) k ∷ row 3 (full_at c.backward k) k ∷ []

  abbrev pub reply_rows : Circuit K S → ℕ → Message → Option (Relay K S) → List Row
  reply_rows c k m None = []
  reply_rows c k m (Some r) =
      row 5 (not (may_send Backward m.command)) k ∷ row 6 (nat_lt 498 (length m.content)) k
      ∷ row 8 (is_broken (relay_sends k m.command m.stream r.streams)) k ∷ row 9 (nat_lt r.flow.window (is_data m.command)) k
      ∷ relay_rows c k r

  abbrev pub relay_acknowledge_rows : Circuit K S → ℕ → Option (Relay K S) → List Row
  relay_acknowledge_rows c k None = []
  relay_acknowledge_rows c k (Some r) = row 12 (nat_lt r.flow.unacknowledged step) k ∷ relay_rows c k r

  ---- carry: y is the oldest cell's payload with relay j's layer removed
  abbrev pub received_rows : Circuit K S → ℕ → Relay K S → List ℕ → Bool → List Row
  received_rows c j r y passes =
      row 13 (not passes && j == length c.relays) j ∷ row 14 (passes && not (well_formed Forward y)) j
      ∷ row 15 (passes && overruns (command_of y) r.flow) j ∷ row 3 (not passes && full_at c.forward (j + 1)) (j + 1) ∷ []

  abbrev pub carry_rows : Circuit K S → ℕ → Option (Relay K S) → Option (List ℕ) → List Row
  carry_rows c j None cell = []
  carry_rows c j (Some r) None = row 4 true j ∷ []
  carry_rows c j (Some r) (Some cell) =
      row 2 (not (headed j cell)) j
      ∷ received_rows c j r (relay_removes R r (payload_of cell)) (recognises R.tags r.forward.digest (relay_removes R r (payload_of cell)))

  ---- bring to the client: d is the place of the hop that recognises the payload, y the payload with the layers up to it removed
  abbrev pub found_rows : Circuit K S → List ℕ → Option ℕ → List Row
  found_rows c p None = row 13 true (length c.relays) ∷ []
  found_rows c p (Some d) =
      row 14 (not (well_formed Backward (unwrapped R (suc d) c.client.backward p))) (d + 1)
      ∷ row 15 (overruns (command_of (unwrapped R (suc d) c.client.backward p)) (flow_at R c.client d)) (d + 1) ∷ []

  abbrev pub arrive_rows : Circuit K S → Option (List ℕ) → List Row
  arrive_rows c None = row 4 true 1 ∷ []
  arrive_rows c (Some cell) = row 2 (not (headed 1 cell)) 1 ∷ found_rows c (payload_of cell) (recognised_at R c.client.backward (payload_of cell))

  ---- bring past relay j - 1
  abbrev pub bring_rows : Circuit K S → ℕ → Option (List ℕ) → List Row
  bring_rows c j None = row 4 true j ∷ []
  bring_rows c j (Some cell) = row 2 (not (headed j cell)) j ∷ row 3 (full_at c.backward (j - 1)) (j - 1) ∷ []

  abbrev pub call_rows : Circuit K S → Call → List Row
  call_rows c (send k m) = send_rows c k m
  call_rows c (carry j) = carry_rows c j (nth c.relays (j - 1)) (oldest_at c.forward j)
  call_rows c (reply k m) = reply_rows c k m (nth c.relays (k - 1))
  call_rows c (bring j) = cond (j == 1) (arrive_rows c (oldest_at c.backward 1)) (bring_rows c j (oldest_at c.backward j))
  call_rows c (acknowledge k Forward) = relay_acknowledge_rows c k (nth c.relays (k - 1))
  call_rows c (acknowledge k Backward) = client_acknowledge_rows c k
  call_rows c destroy = []

  -- closed, room and range first, for every call
  abbrev pub refusals : Circuit K S → Request → List Row
  refusals c x =
      row 16 c.closed 0 ∷ row 17 (lacks_room x x.call) 0
      ∷ row 7 (asks_for x.call == 0 || nat_lt (length c.relays) (asks_for x.call)) (asks_for x.call) ∷ call_rows c x.call

abbrev pub refusal_of : Answer → Option Refusal
refusal_of (refused f) = Some f
refusal_of accepted = None
refusal_of (delivered k m mark) = None
