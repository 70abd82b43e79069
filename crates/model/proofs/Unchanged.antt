-- A refused call leaves the circuit as it was, in every state.
use Rattle.std.proofs.Common.{◌≡◌, ℕ, ◌+◌, ◌-◌, Bool, cond, eqb, leb, List, [], ◌∷◌, Some, None, Option, refl, arith}
use Rattle.std.proofs.lemmas.Bool.{cond_both}
use Rattle.cell.specs.Payload.{Message, blank}
use Rattle.cell.specs.Frame.{payload_of}
use Rattle.cell.specs.declared.command.Way.TheVariants.{Forward, Backward}
use Rattle.model.specs.Lists.{nth}
use Rattle.model.specs.Messages.{sendme}
use Rattle.model.specs.Ends.{Rules, layer_limit, coincidence, recognised_at}
use Rattle.model.specs.Flows.{Flow, acknowledged}
use Rattle.model.specs.Circuit.{Line, is_full, Relay, Circuit, Call, send, carry, reply, bring, acknowledge, destroy, Request, Refusal, Answer, refused, accepted, delivered}
use Rattle.model.specs.Calls.{headed, Outcome, stops, passes_on, delivers, flow_at, client_send_refusal, client_acknowledge_refusal, client_outcome, relay_send_refusal, relay_acknowledge_refusal, send_unless, send_on, send_by, reply_on, reply_by, reply_at, reply_sendme, carry_on, carry_to, carry_cell, carry_at, arrived_at, arrive_cell, arrive, bring_cell, bring_at, act, gate, gated, called}

module _ {K S : Type 0} where
  -- where the answer is a refusal, the circuit is c
  abbrev pub Unchanged : Circuit K S → Answer × Circuit K S → Type 0
  Unchanged c y = (f : Refusal) → y.0 ≡ refused f → y.1 ≡ c

  when-refused : (c : Circuit K S) (f : Refusal) → Unchanged c (refused f, c)
  when-refused c f g e = refl

  when-accepted : (c d : Circuit K S) → Unchanged c (accepted, d)
  when-accepted c d f e = let z : ◌≡◌ {A = ℕ} 0 1 = cc in absurd (omega arith)

  when-delivered : (c d : Circuit K S) (k : ℕ) (m : Message) (mark : ℕ) → Unchanged c (delivered k m mark, d)
  when-delivered c d k m mark f e = let z : ◌≡◌ {A = ℕ} 0 1 = cc in absurd (omega arith)

  when-either : (c : Circuit K S) (b : Bool) (x y : Answer × Circuit K S) → Unchanged c x → Unchanged c y → Unchanged c (cond b x y)
  when-either c b x y p q = cond_both b x y (Unchanged c) (λ _. p) (λ _. q)

module _ {K S : Type 0} (R : Rules K S) where
  ---- sending
  send_unless-refused : (c : Circuit K S) (d : ℕ) (f : Flow) (m : Message) (l : Line) (o : Option ℕ) → Unchanged c (send_unless R c d f m l o)
  send_unless-refused c d f m l (Some j) = when-refused c _
  send_unless-refused c d f m l None = when-accepted c _

  send_on-refused : (c : Circuit K S) (d : ℕ) (f : Flow) (m : Message) (o : Option Line) → Unchanged c (send_on R c d f m o)
  send_on-refused c d f m None = when-refused c _
  send_on-refused c d f m (Some l) =
      when-either c (is_full l) _ _ (when-refused c _) (send_unless-refused c d f m l (coincidence R c.client.forward d (blank m)))

  send_by-refused : (c : Circuit K S) (d : ℕ) (f : Flow) (m : Message) (o : Option ℕ) → Unchanged c (send_by R c d f m o)
  send_by-refused c d f m (Some n) = when-refused c _
  send_by-refused c d f m None = send_on-refused c d f m (nth c.forward 0)

  reply_on-refused : (c : Circuit K S) (i : ℕ) (r : Relay K S) (f : Flow) (m : Message) (o : Option Line) → Unchanged c (reply_on R c i r f m o)
  reply_on-refused c i r f m None = when-refused c _
  reply_on-refused c i r f m (Some l) = when-either c (is_full l) _ _ (when-refused c _) (when-accepted c _)

  reply_by-refused : (c : Circuit K S) (i : ℕ) (r : Relay K S) (f : Flow) (m : Message) (o : Option ℕ) → Unchanged c (reply_by R c i r f m o)
  reply_by-refused c i r f m (Some n) = when-refused c _
  reply_by-refused c i r f m None = reply_on-refused c i r f m (nth c.backward i)

  reply_at-refused : (c : Circuit K S) (i : ℕ) (m : Message) (o : Option (Relay K S)) → Unchanged c (reply_at R c i m o)
  reply_at-refused c i m None = when-refused c _
  reply_at-refused c i m (Some r) = reply_by-refused c i r r.flow m (relay_send_refusal R r (i + 1) m)

  reply_sendme-refused : (c : Circuit K S) (i : ℕ) (o : Option (Relay K S)) → Unchanged c (reply_sendme R c i o)
  reply_sendme-refused c i None = when-refused c _
  reply_sendme-refused c i (Some r) = reply_by-refused c i r (acknowledged r.flow) sendme (relay_acknowledge_refusal R r)

  ---- carrying
  carry_on-refused : (c : Circuit K S) (i : ℕ) (r : Relay K S) (l : Line) (xs : List (List ℕ)) (y : List ℕ) (o : Option Line) → Unchanged c (carry_on R c i r l xs y o)
  carry_on-refused c i r l xs y None = when-refused c _
  carry_on-refused c i r l xs y (Some g) = when-either c (is_full g) _ _ (when-refused c _) (when-accepted c _)

  carry_to-refused : (c : Circuit K S) (i : ℕ) (r : Relay K S) (l : Line) (xs : List (List ℕ)) (y : List ℕ) (o : Outcome) → Unchanged c (carry_to R c i r l xs y o)
  carry_to-refused c i r l xs y (stops f) = when-refused c f
  carry_to-refused c i r l xs y passes_on = carry_on-refused c i r l xs y (nth c.forward (i + 1))
  carry_to-refused c i r l xs y (delivers m mark) = when-delivered c _ (i + 1) m mark

  carry_cell-refused : (c : Circuit K S) (i : ℕ) (r : Relay K S) (l : Line) (xs : List (List ℕ)) → Unchanged c (carry_cell R c i r l xs)
  carry_cell-refused c i r l [] = when-refused c _
  carry_cell-refused c i r l (x ∷ xs) = when-either c (headed (i + 1) x) _ _ (carry_to-refused c i r l xs _ _) (when-refused c _)

  carry_at-refused : (c : Circuit K S) (i : ℕ) (o : Option (Relay K S)) (p : Option Line) → Unchanged c (carry_at R c i o p)
  carry_at-refused c i None p = when-refused c _
  carry_at-refused c i (Some r) None = when-refused c _
  carry_at-refused c i (Some r) (Some l) = carry_cell-refused c i r l l.cells

  ---- bringing
  arrived_at-refused : (c : Circuit K S) (l : Line) (xs : List (List ℕ)) (p : List ℕ) (o : Outcome) (d : Option ℕ) → Unchanged c (arrived_at R c l xs p o d)
  arrived_at-refused c l xs p (stops f) d = when-refused c f
  arrived_at-refused c l xs p passes_on d = when-refused c _
  arrived_at-refused c l xs p (delivers m mark) None = when-refused c _
  arrived_at-refused c l xs p (delivers m mark) (Some d) = when-delivered c _ (d + 1) m mark

  arrive_cell-refused : (c : Circuit K S) (l : Line) (xs : List (List ℕ)) → Unchanged c (arrive_cell R c l xs)
  arrive_cell-refused c l [] = when-refused c _
  arrive_cell-refused c l (x ∷ xs) =
      when-either c (headed 1 x) _ _
      (arrived_at-refused c l xs (payload_of x) (client_outcome R c.client (payload_of x)) (recognised_at R c.client.backward (payload_of x)))
      (when-refused c _)

  arrive-refused : (c : Circuit K S) (o : Option Line) → Unchanged c (arrive R c o)
  arrive-refused c None = when-refused c _
  arrive-refused c (Some l) = arrive_cell-refused c l l.cells

  bring_cell-refused : (c : Circuit K S) (i : ℕ) (r : Relay K S) (l g : Line) (xs : List (List ℕ)) → Unchanged c (bring_cell R c i r l g xs)
  bring_cell-refused c i r l g [] = when-refused c _
  bring_cell-refused c i r l g (x ∷ xs) =
      when-either c (headed (i + 2) x) _ _
      (when-either c (leb layer_limit r.backward.layer) _ _ (when-refused c _) (when-either c (is_full g) _ _ (when-refused c _) (when-accepted c _)))
      (when-refused c _)

  bring_at-refused : (c : Circuit K S) (i : ℕ) (o : Option (Relay K S)) (p q : Option Line) → Unchanged c (bring_at R c i o p q)
  bring_at-refused c i None p q = when-refused c _
  bring_at-refused c i (Some r) None q = when-refused c _
  bring_at-refused c i (Some r) (Some l) None = when-refused c _
  bring_at-refused c i (Some r) (Some l) (Some g) = bring_cell-refused c i r l g l.cells

  ---- all calls
  act-refused : (c : Circuit K S) (x : Call) → Unchanged c (act R c x)
  act-refused c (send k m) = send_by-refused c (k - 1) (flow_at R c.client (k - 1)) m (client_send_refusal R c.client (k - 1) m)
  act-refused c (carry j) = carry_at-refused c (j - 1) (nth c.relays (j - 1)) (nth c.forward (j - 1))
  act-refused c (reply k m) = reply_at-refused c (k - 1) m (nth c.relays (k - 1))
  act-refused c (bring j) =
      when-either c (eqb j 1) _ _ (arrive-refused c (nth c.backward 0))
      (bring_at-refused c (j - 2) (nth c.relays (j - 2)) (nth c.backward (j - 1)) (nth c.backward (j - 2)))
  act-refused c (acknowledge k Forward) = reply_sendme-refused c (k - 1) (nth c.relays (k - 1))
  act-refused c (acknowledge k Backward) =
      send_by-refused c (k - 1) (acknowledged (flow_at R c.client (k - 1))) sendme (client_acknowledge_refusal R c.client (k - 1))
  act-refused c destroy = when-accepted c _

  gated-refused : (c : Circuit K S) (o : Option Refusal) (y : Answer × Circuit K S) → Unchanged c y → Unchanged c (gated c o y)
  gated-refused c (Some f) y h = when-refused c f
  gated-refused c None y h = h

  pub refused-unchanged : (c : Circuit K S) (x : Request) → Unchanged c (called R c x)
  refused-unchanged c x = gated-refused c (gate c x) (act R c x.call) (act-refused c x.call)
