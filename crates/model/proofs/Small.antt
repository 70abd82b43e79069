-- A bound that every call keeps, in any state: layers count messages, and there are at most eight times 2^24 of them. So no
-- layer is at its limit where it is about to be used.
use Rattle.std.proofs.Common.{◌≡◌, ℕ, zero, suc, ◌+◌, ◌<◌, ◌≤◌, false, leb, List, [], ◌∷◌, length, Some, None, refl, ap, add-one, arith}
use Rattle.std.proofs.lemmas.Bool.{lt-leb}
use Rattle.model.specs.Lists.{nth, total}
use Rattle.model.specs.Ends.{Rules, End, layer_limit, worn_out, worn_at}
use Rattle.model.specs.Flows.{Flow, message_limit, no_flow}
use Rattle.model.specs.Circuit.{Line, Relay, Circuit}
use Rattle.model.specs.Calls.{flow_at}
use Rattle.model.proofs.Places.{nth-within}
use Rattle.model.proofs.Counts.{at, at-nth, at-get_or, total-le, total-lt}

abbrev pub sent_of : Flow → ℕ
sent_of f = f.sent

abbrev pub waiting_on : Line → ℕ
waiting_on l = length l.cells

waits : (ls : List Line) (i : ℕ) (l : Line) (x : List ℕ) (xs : List (List ℕ)) → nth ls i ≡ Some l → l.cells ≡ x ∷ xs → 0 < at waiting_on ls i
waits ls i l x xs e q = omega (arith, at-nth waiting_on ls i l e, ap length q)

module _ {K S : Type 0} where
  abbrev pub layer_of : End K S → ℕ
  layer_of e = e.layer

  abbrev pub forward_layer : Relay K S → ℕ
  forward_layer r = r.forward.layer

  abbrev pub backward_layer : Relay K S → ℕ
  backward_layer r = r.backward.layer

  abbrev pub relay_sent : Relay K S → ℕ
  relay_sent r = r.flow.sent

  pub record Small (c : Circuit K S) : Type 0 where
    -- as many of each as relays, at most eight
    pub few : length c.relays ≤ 8
    pub forward_ends : length c.client.forward ≡ length c.relays
    pub backward_ends : length c.client.backward ≡ length c.relays
    pub flows : length c.client.flows ≡ length c.relays
    pub forward_lines : length c.forward ≡ length c.relays
    pub backward_lines : length c.backward ≡ length c.relays
    -- messages sent
    pub client_sends : (i : ℕ) → at sent_of c.client.flows i ≤ message_limit
    pub relay_sends : (i : ℕ) → at relay_sent c.relays i ≤ message_limit
    -- forward: relay 1 received what the client sent, or it waits, and so on from relay to relay
    pub client_forward : (i : ℕ) → at layer_of c.client.forward i ≤ total sent_of c.client.flows
    pub first_forward : at forward_layer c.relays 0 + at waiting_on c.forward 0 ≤ total sent_of c.client.flows
    pub next_forward : (i : ℕ) → at forward_layer c.relays (suc i) + at waiting_on c.forward (suc i) ≤ at forward_layer c.relays i
    -- backward: a relay adds a layer to what it sends and to what comes from the next relay
    pub next_backward : (i : ℕ)
        → at backward_layer c.relays i + at waiting_on c.backward (suc i) ≤ at relay_sent c.relays i + at backward_layer c.relays (suc i)
    pub first_backward : at layer_of c.client.backward 0 + at waiting_on c.backward 0 ≤ at backward_layer c.relays 0
    pub client_backward : (i : ℕ) → at layer_of c.client.backward i ≤ at layer_of c.client.backward 0

  ---- sums of messages
  forward-total : (c : Circuit K S) → Small c → total sent_of c.client.flows ≤ layer_limit
  forward-total c s = omega (arith, total-le sent_of c.client.flows message_limit s.client_sends, s.flows, s.few)

  forward-received : (c : Circuit K S) → Small c → (i : ℕ) → at forward_layer c.relays i + at waiting_on c.forward i ≤ total sent_of c.client.flows
  forward-received c s zero = s.first_forward
  forward-received c s (suc i) = omega (arith, s.next_forward i, forward-received c s i)

  relays-total : (rs : List (Relay K S)) → ((i : ℕ) → at backward_layer rs i ≤ at relay_sent rs i + at backward_layer rs (suc i))
      → (i : ℕ) → at relay_sent rs i + at backward_layer rs (suc i) ≤ total relay_sent rs
  relays-total [] h i = omega arith
  relays-total (r ∷ rs) h zero = omega (arith, h 1, relays-total rs (λ i. h (suc i)) 0)
  relays-total (r ∷ rs) h (suc i) = omega (arith, relays-total rs (λ i. h (suc i)) i)

  backward-sent : (c : Circuit K S) → Small c → (i : ℕ) → at relay_sent c.relays i + at backward_layer c.relays (suc i) ≤ total relay_sent c.relays
  backward-sent c s = relays-total c.relays (λ i. omega (arith, s.next_backward i))

  backward-total : (c : Circuit K S) → Small c → total relay_sent c.relays ≤ layer_limit
  backward-total c s = omega (arith, total-le relay_sent c.relays message_limit s.relay_sends, s.few)

  ---- a cell waits: the layer of the relay that it waits for is below the limit
  pub relay-can-receive : (c : Circuit K S) → Small c → (i : ℕ) (r : Relay K S) (l : Line) (x : List ℕ) (xs : List (List ℕ))
      → nth c.relays i ≡ Some r → nth c.forward i ≡ Some l → l.cells ≡ x ∷ xs → leb layer_limit r.forward.layer ≡ false
  relay-can-receive c s i r l x xs er el q =
      lt-leb layer_limit r.forward.layer
      (omega (arith, forward-received c s i, forward-total c s, waits c.forward i l x xs el q, at-nth forward_layer c.relays i r er))

  pub relay-can-pass : (c : Circuit K S) → Small c → (i : ℕ) (r : Relay K S) (l : Line) (x : List ℕ) (xs : List (List ℕ))
      → nth c.relays i ≡ Some r → nth c.backward (i + 1) ≡ Some l → l.cells ≡ x ∷ xs → leb layer_limit r.backward.layer ≡ false
  relay-can-pass c s i r l x xs er el q =
      lt-leb layer_limit r.backward.layer
      (omega (arith, s.next_backward i, backward-sent c s i, backward-total c s, waits c.backward (suc i) l x xs (rw (add-one i) at el) q, at-nth backward_layer c.relays i r er))

  not-worn : (es : List (End K S)) → ((i : ℕ) → at layer_of es i < layer_limit) → worn_at es ≡ None
  not-worn [] h = refl
  not-worn (e ∷ es) h = rw (lt-leb layer_limit e.layer (h 0), not-worn es (λ i. h (suc i)))

  pub client-can-receive : (c : Circuit K S) → Small c → (l : Line) (x : List ℕ) (xs : List (List ℕ))
      → nth c.backward 0 ≡ Some l → l.cells ≡ x ∷ xs → worn_at c.client.backward ≡ None
  client-can-receive c s l x xs el q =
      not-worn c.client.backward
      (λ i. omega (arith, s.client_backward i, s.first_backward, s.next_backward 0, backward-sent c s 0, backward-total c s, waits c.backward 0 l x xs el q))

  ---- an end that may send a message more: the layers that it uses are below the limit
  not-worn-out : (es : List (End K S)) (d : ℕ) → ((i : ℕ) → at layer_of es i < layer_limit) → worn_out es d ≡ false
  not-worn-out [] d h = refl
  not-worn-out (e ∷ es) zero h = lt-leb layer_limit e.layer (h 0)
  not-worn-out (e ∷ es) (suc d) h = rw (lt-leb layer_limit e.layer (h 0)) (not-worn-out es d (λ i. h (suc i)))

  pub client-can-send : (R : Rules K S) (c : Circuit K S) → Small c → (d : ℕ) → d < length c.relays → (flow_at R c.client d).sent < message_limit
      → worn_out c.client.forward d ≡ false
  client-can-send R c s d inside lt =
      not-worn-out c.client.forward d
      (λ i. omega (arith, s.client_forward i, s.few, s.flows, total-lt sent_of c.client.flows message_limit d (omega (arith, s.flows)) (omega (arith, at-get_or sent_of no_flow refl c.client.flows d)) s.client_sends))

  pub relay-can-send : (c : Circuit K S) → Small c → (i : ℕ) (r : Relay K S) → nth c.relays i ≡ Some r → r.flow.sent < message_limit
      → leb layer_limit r.backward.layer ≡ false
  relay-can-send c s i r e lt =
      lt-leb layer_limit r.backward.layer
      (omega (arith, s.next_backward i, backward-sent c s i, s.few, at-nth backward_layer c.relays i r e, total-lt relay_sent c.relays message_limit i (nth-within c.relays i r e) (omega (arith, at-nth relay_sent c.relays i r e)) s.relay_sends))
