-- The bound holds at the start, and every call keeps it, whatever the state.
use Rattle.std.proofs.Common.{◌≡◌, ℕ, zero, suc, ◌+◌, ◌-◌, ◌*◌, ◌<◌, ◌≤◌, Bool, false, not, ◌||◌, eqb, ltb, leb, List, [], ◌∷◌, ◌++◌, map, length, set, Some, None, Option, sym, refl, ap, ◌∙◌, add-one, arith, length-set}
use Rattle.std.proofs.lemmas.Bool.{cond_both, leb-false, ltb-false, eqb-false, or_parts}
use Rattle.std.proofs.lemmas.List.{length_push, length-map}
use Rattle.cell.specs.Payload.{Message, blank, zeroed, command_of}
use Rattle.cell.specs.Frame.{cell_number, framed, payload_of}
use Rattle.cell.specs.declared.command.Way.TheVariants.{Forward, Backward}
use Rattle.model.specs.Lists.{nth, total}
use Rattle.model.specs.Messages.{sendme, is_data}
use Rattle.model.specs.Ends.{Rules, End, layer_limit, sealed, wrapped, advanced, coincidence, recognised_at, unwrapped}
use Rattle.model.specs.Streams.{Streams, is_broken}
use Rattle.model.specs.Flows.{Flow, step, message_limit, no_flow, posted, received, acknowledged}
use Rattle.model.specs.Circuit.{Line, is_full, holding, Relay, Circuit, Call, send, carry, reply, bring, acknowledge, destroy, Request, Refusal, Answer}
use Rattle.model.specs.Calls.{refusal, headed, sending_refusal, acknowledge_refusal, Outcome, stops, passes_on, delivers, flow_at, client_send_refusal, client_acknowledge_refusal, client_outcome, relay_send_refusal, relay_acknowledge_refusal, relay_adds, relay_passed, relay_took, relay_added, relay_sent as relay_sent_to, send_unless, send_on, send_by, reply_on, reply_by, reply_at, reply_sendme, carry_on, carry_to, carry_cell, carry_at, arrived_at, arrive_cell, arrive, bring_cell, bring_at, act, lacks_room, asks_for, gate, gated, called}
use Rattle.model.specs.Runs.{World, after, next, start}
use Rattle.model.specs.Law.{All, EmptyLine, FreshRelay, Fresh}
use Rattle.model.proofs.Places.{nth-get_or, nth-set-other}
use Rattle.model.proofs.Counts.{at, one, at-nth, at_set, at-set-le, at_same, at-get_or, at_all, at_map, at_zero, total-set, total-same, none-holds, all-also}
use Rattle.model.proofs.Small.{sent_of, waiting_on, layer_of, forward_layer, backward_layer, relay_sent, Small}

one-next : (i j : ℕ) → one (i + 1) (suc j) ≡ one i j
one-next i j = rw (add-one i)

one-first : (i : ℕ) → one (i + 1) 0 ≡ 0
one-first i = rw (add-one i)

---- an end that refuses no message has sent fewer than it may
sending-allowed : (allowed : Bool) (o : Option Streams) (f : Flow) (worn : Bool) (m : Message) → sending_refusal allowed o f worn m ≡ None → f.sent < message_limit
sending-allowed allowed o f worn m e =
    let tests : List (Bool × ℕ) = (not allowed, 5) ∷ (ltb 498 (length m.content), 6) ∷ (is_broken o, 8) ∷ (ltb f.window (is_data m.command), 9) ∷ (leb message_limit f.sent || worn, 10) ∷ [] in
    leb-false message_limit f.sent (or_parts (leb message_limit f.sent) worn (none-holds tests e).1.1.1.1.0).0

acknowledge-allowed : (f : Flow) (worn : Bool) → acknowledge_refusal f worn ≡ None → f.sent < message_limit
acknowledge-allowed f worn e =
    let tests : List (Bool × ℕ) = (ltb f.unacknowledged step, 12) ∷ (leb message_limit f.sent || worn, 10) ∷ [] in
    leb-false message_limit f.sent (or_parts (leb message_limit f.sent) worn (none-holds tests e).1.0).0

-- past the gate the hop or link is in range
pub in-range : {K S : Type 0} (c : Circuit K S) (x : Request) → gate c x ≡ None → (0 < asks_for x.call) × (asks_for x.call ≤ length c.relays)
in-range c x e =
    let tests : List (Bool × Refusal) = (c.closed, refusal 16 0) ∷ (lacks_room x x.call, refusal 17 0) ∷ (eqb (asks_for x.call) 0 || ltb (length c.relays) (asks_for x.call), refusal 7 (asks_for x.call)) ∷ [] in
    let h : (eqb (asks_for x.call) 0 ≡ false) × (ltb (length c.relays) (asks_for x.call) ≡ false) = or_parts _ _ (none-holds tests e).1.1.0 in
    let z : asks_for x.call ≡ 0 → ⊥ = eqb-false (asks_for x.call) 0 h.0 in
    (omega (arith, z), ltb-false (length c.relays) (asks_for x.call) h.1)

module _ {K S : Type 0} (R : Rules K S) where
  ---- the client's ends
  length-advanced : (es : List (End K S)) (d : ℕ) (b : List ℕ) → length (advanced R es d b) ≡ length es
  length-advanced [] d b = refl
  length-advanced (e ∷ es) zero b = refl
  length-advanced (e ∷ es) (suc d) b = ap suc (length-advanced es d b)

  advanced-most : (es : List (End K S)) (d : ℕ) (b : List ℕ) (j : ℕ) → at layer_of (advanced R es d b) j ≤ at layer_of es j + 1
  advanced-most [] d b j = omega arith
  advanced-most (e ∷ es) zero b zero = omega arith
  advanced-most (e ∷ es) zero b (suc j) = omega arith
  advanced-most (e ∷ es) (suc d) b zero = omega arith
  advanced-most (e ∷ es) (suc d) b (suc j) = advanced-most es d b j

  advanced-first : (es : List (End K S)) (d : ℕ) (b : List ℕ) → ((i : ℕ) → at layer_of es i ≤ at layer_of es 0)
      → (i : ℕ) → at layer_of (advanced R es d b) i ≤ at layer_of (advanced R es d b) 0
  advanced-first [] d b h i = omega arith
  advanced-first (e ∷ es) zero b h zero = omega arith
  advanced-first (e ∷ es) zero b h (suc i) = omega (arith, h (suc i))
  advanced-first (e ∷ es) (suc d) b h zero = omega arith
  advanced-first (e ∷ es) (suc d) b h (suc i) = omega (arith, h (suc i), advanced-most es d b i)

  ---- sending from the client
  small-send_unless : (c : Circuit K S) (d : ℕ) (f : Flow) (m : Message) (l : Line) (o : Option ℕ) → Small c → d < length c.relays
      → f.sent ≡ (flow_at R c.client d).sent → f.sent < message_limit → nth c.forward 0 ≡ Some l → Small (send_unless R c d f m l o).1
  small-send_unless c d f m l (Some j) s inside ef lt el = s
  small-send_unless c d f m l None s inside ef lt el =
      let y : List ℕ = framed (cell_number 1) (wrapped R c.client.forward d (blank m)) in
      let push : length (l.cells ++ y ∷ []) + 0 ≡ length l.cells + 1 = omega (arith, length_push l.cells y) in
      let line : (j : ℕ) → at waiting_on (set c.forward 0 (holding l (l.cells ++ y ∷ []))) j + 0 * one 0 j ≡ at waiting_on c.forward j + 1 * one 0 j = at_set waiting_on c.forward 0 l _ 0 1 el push in
      let more : total sent_of (set c.client.flows d (posted m.command f)) ≡ total sent_of c.client.flows + 1 = total-set sent_of c.client.flows d (flow_at R c.client d) (posted m.command f) (nth-get_or c.client.flows d no_flow (omega (arith, s.flows))) (omega arith) in
      record {
        few = s.few;
        forward_ends = length-advanced c.client.forward d (blank m) ∙ s.forward_ends;
        backward_ends = s.backward_ends;
        flows = length-set c.client.flows d (posted m.command f) ∙ s.flows;
        forward_lines = length-set c.forward 0 _ ∙ s.forward_lines;
        backward_lines = s.backward_lines;
        client_sends = at-set-le sent_of c.client.flows d (posted m.command f) message_limit (omega arith) s.client_sends;
        relay_sends = s.relay_sends;
        client_forward = λ i. omega (arith, more, s.client_forward i, advanced-most c.client.forward d (blank m) i);
        first_forward = omega (arith, more, s.first_forward, line 0);
        next_forward = λ i. omega (arith, s.next_forward i, line (suc i));
        next_backward = s.next_backward;
        first_backward = s.first_backward;
        client_backward = s.client_backward;
      }

  small-send_on : (c : Circuit K S) (d : ℕ) (f : Flow) (m : Message) (o : Option Line) → Small c → d < length c.relays
      → f.sent ≡ (flow_at R c.client d).sent → f.sent < message_limit → nth c.forward 0 ≡ o → Small (send_on R c d f m o).1
  small-send_on c d f m None s inside ef lt el = s
  small-send_on c d f m (Some l) s inside ef lt el =
      cond_both (is_full l) _ _ (λ (y : Answer × Circuit K S). Small y.1) (λ _. s)
      (λ _. small-send_unless c d f m l (coincidence R c.client.forward d (blank m)) s inside ef lt el)

  small-send_by : (c : Circuit K S) (d : ℕ) (f : Flow) (m : Message) (o : Option ℕ) → Small c → d < length c.relays
      → f.sent ≡ (flow_at R c.client d).sent → (o ≡ None → f.sent < message_limit) → Small (send_by R c d f m o).1
  small-send_by c d f m (Some n) s inside ef lt = s
  small-send_by c d f m None s inside ef lt = small-send_on c d f m (nth c.forward 0) s inside ef (lt refl) refl

  ---- one relay and the lines change
  abbrev changed : Circuit K S → ℕ → Relay K S → List Line → List Line → Circuit K S
  changed c i r fs bs = record { closed = c.closed; client = c.client; relays = set c.relays i r; forward = fs; backward = bs }

  small-changed : (c : Circuit K S) (i : ℕ) (r : Relay K S) (fs bs : List Line) → Small c → r.flow.sent ≤ message_limit
      → length fs ≡ length c.forward → length bs ≡ length c.backward
      → at forward_layer (set c.relays i r) 0 + at waiting_on fs 0 ≤ total sent_of c.client.flows
      → ((j : ℕ) → at forward_layer (set c.relays i r) (suc j) + at waiting_on fs (suc j) ≤ at forward_layer (set c.relays i r) j)
      → ((j : ℕ) → at backward_layer (set c.relays i r) j + at waiting_on bs (suc j) ≤ at relay_sent (set c.relays i r) j + at backward_layer (set c.relays i r) (suc j))
      → at layer_of c.client.backward 0 + at waiting_on bs 0 ≤ at backward_layer (set c.relays i r) 0
      → Small (changed c i r fs bs)
  small-changed c i r fs bs s le nf nb f₀ fn bn b₀ =
      let n : length (set c.relays i r) ≡ length c.relays = length-set c.relays i r in
      record {
        few = omega (arith, s.few);
        forward_ends = s.forward_ends ∙ sym n;
        backward_ends = s.backward_ends ∙ sym n;
        flows = s.flows ∙ sym n;
        forward_lines = nf ∙ s.forward_lines ∙ sym n;
        backward_lines = nb ∙ s.backward_lines ∙ sym n;
        client_sends = s.client_sends;
        relay_sends = at-set-le relay_sent c.relays i r message_limit le s.relay_sends;
        client_forward = s.client_forward;
        first_forward = f₀;
        next_forward = fn;
        next_backward = bn;
        first_backward = b₀;
        client_backward = s.client_backward;
      }

  -- the relay's backward end and flow alone
  small-backward : (c : Circuit K S) (i : ℕ) (r t : Relay K S) (bs : List Line) → Small c → nth c.relays i ≡ Some r → t.forward.layer ≡ r.forward.layer
      → t.flow.sent ≤ message_limit → length bs ≡ length c.backward
      → ((j : ℕ) → at backward_layer (set c.relays i t) j + at waiting_on bs (suc j) ≤ at relay_sent (set c.relays i t) j + at backward_layer (set c.relays i t) (suc j))
      → at layer_of c.client.backward 0 + at waiting_on bs 0 ≤ at backward_layer (set c.relays i t) 0
      → Small (changed c i t c.forward bs)
  small-backward c i r t bs s er same le nb bn b₀ =
      let still : (j : ℕ) → at forward_layer (set c.relays i t) j ≡ at forward_layer c.relays j = at_same forward_layer c.relays i r t er same in
      small-changed c i t c.forward bs s le refl nb (omega (arith, still 0, s.first_forward)) (λ j. omega (arith, still j, still (suc j), s.next_forward j)) bn b₀

  -- and its forward end alone
  small-forward : (c : Circuit K S) (i : ℕ) (r t : Relay K S) (fs : List Line) → Small c → nth c.relays i ≡ Some r → t.backward.layer ≡ r.backward.layer
      → t.flow.sent ≡ r.flow.sent → length fs ≡ length c.forward
      → at forward_layer (set c.relays i t) 0 + at waiting_on fs 0 ≤ total sent_of c.client.flows
      → ((j : ℕ) → at forward_layer (set c.relays i t) (suc j) + at waiting_on fs (suc j) ≤ at forward_layer (set c.relays i t) j)
      → Small (changed c i t fs c.backward)
  small-forward c i r t fs s er same sent nf f₀ fn =
      let still : (j : ℕ) → at backward_layer (set c.relays i t) j ≡ at backward_layer c.relays j = at_same backward_layer c.relays i r t er same in
      let count : (j : ℕ) → at relay_sent (set c.relays i t) j ≡ at relay_sent c.relays j = at_same relay_sent c.relays i r t er sent in
      small-changed c i t fs c.backward s (omega (arith, s.relay_sends i, at-nth relay_sent c.relays i r er)) nf refl f₀ fn
      (λ j. omega (arith, still j, still (suc j), count j, s.next_backward j)) (omega (arith, still 0, s.first_backward))

  ---- sending from a relay
  small-reply_on : (c : Circuit K S) (i : ℕ) (r : Relay K S) (f : Flow) (m : Message) (o : Option Line) → Small c → nth c.relays i ≡ Some r
      → f.sent ≡ r.flow.sent → f.sent < message_limit → nth c.backward i ≡ o → Small (reply_on R c i r f m o).1
  small-reply_on c i r f m None s er ef lt el = s
  small-reply_on c i r f m (Some l) s er ef lt el =
      let y : List ℕ = framed (cell_number (i + 1)) (relay_adds R r (sealed R r.backward.digest (blank m))) in
      let t : Relay K S = relay_sent_to R r (i + 1) f m in
      let push : length (l.cells ++ y ∷ []) + 0 ≡ length l.cells + 1 = omega (arith, length_push l.cells y) in
      let line : (j : ℕ) → at waiting_on (set c.backward i (holding l (l.cells ++ y ∷ []))) j + 0 * one i j ≡ at waiting_on c.backward j + 1 * one i j = at_set waiting_on c.backward i l _ 0 1 el push in
      let layer : (j : ℕ) → at backward_layer (set c.relays i t) j + 0 * one i j ≡ at backward_layer c.relays j + 1 * one i j = at_set backward_layer c.relays i r t 0 1 er (omega arith) in
      let count : (j : ℕ) → at relay_sent (set c.relays i t) j + 0 * one i j ≡ at relay_sent c.relays j + 1 * one i j = at_set relay_sent c.relays i r t 0 1 er (omega arith) in
      cond_both (is_full l) _ _ (λ (y : Answer × Circuit K S). Small y.1) (λ _. s)
      (λ _. small-backward c i r t _ s er refl (omega arith) (length-set c.backward i _)
      (λ j. omega (arith, line (suc j), layer j, layer (suc j), count j, s.next_backward j)) (omega (arith, line 0, layer 0, s.first_backward)))

  small-reply_by : (c : Circuit K S) (i : ℕ) (r : Relay K S) (f : Flow) (m : Message) (o : Option ℕ) → Small c → nth c.relays i ≡ Some r
      → f.sent ≡ r.flow.sent → (o ≡ None → f.sent < message_limit) → Small (reply_by R c i r f m o).1
  small-reply_by c i r f m (Some n) s er ef lt = s
  small-reply_by c i r f m None s er ef lt = small-reply_on c i r f m (nth c.backward i) s er ef (lt refl) refl

  ---- carrying
  small-carry_on : (c : Circuit K S) (i : ℕ) (r : Relay K S) (l : Line) (x : List ℕ) (xs : List (List ℕ)) (y : List ℕ) (o : Option Line) → Small c
      → nth c.relays i ≡ Some r → nth c.forward i ≡ Some l → l.cells ≡ x ∷ xs → nth c.forward (i + 1) ≡ o → Small (carry_on R c i r l xs y o).1
  small-carry_on c i r l x xs y None s er el q eg = s
  small-carry_on c i r l x xs y (Some g) s er el q eg =
      let z : List ℕ = framed (cell_number (i + 2)) y in
      let fs : List Line = set c.forward (i + 1) (holding g (g.cells ++ z ∷ [])) in
      let there : nth fs i ≡ Some l = nth-set-other c.forward (i + 1) i _ (λ e. omega arith) ∙ el in
      let push : length (g.cells ++ z ∷ []) + 0 ≡ length g.cells + 1 = omega (arith, length_push g.cells z) in
      let gain : (j : ℕ) → at waiting_on fs j + 0 * one (i + 1) j ≡ at waiting_on c.forward j + 1 * one (i + 1) j = at_set waiting_on c.forward (i + 1) g _ 0 1 eg push in
      let loss : (j : ℕ) → at waiting_on (set fs i (holding l xs)) j + 1 * one i j ≡ at waiting_on fs j + 0 * one i j = at_set waiting_on fs i l (holding l xs) 1 0 there (omega (arith, ap length q)) in
      let layer : (j : ℕ) → at forward_layer (set c.relays i (relay_passed R r)) j + 0 * one i j ≡ at forward_layer c.relays j + 1 * one i j = at_set forward_layer c.relays i r (relay_passed R r) 0 1 er (omega arith) in
      cond_both (is_full g) _ _ (λ (y : Answer × Circuit K S). Small y.1) (λ _. s)
      (λ _. small-forward c i r (relay_passed R r) _ s er refl refl (length-set fs i _ ∙ length-set c.forward (i + 1) _)
      (omega (arith, gain 0, loss 0, layer 0, one-first i, s.first_forward))
      (λ j. omega (arith, gain (suc j), loss (suc j), layer j, layer (suc j), one-next i j, s.next_forward j)))

  small-carry_to : (c : Circuit K S) (i : ℕ) (r : Relay K S) (l : Line) (x : List ℕ) (xs : List (List ℕ)) (y : List ℕ) (o : Outcome) → Small c
      → nth c.relays i ≡ Some r → nth c.forward i ≡ Some l → l.cells ≡ x ∷ xs → Small (carry_to R c i r l xs y o).1
  small-carry_to c i r l x xs y (stops f) s er el q = s
  small-carry_to c i r l x xs y passes_on s er el q = small-carry_on c i r l x xs y (nth c.forward (i + 1)) s er el q refl
  small-carry_to c i r l x xs y (delivers m mark) s er el q =
      let t : Relay K S = relay_took R r (i + 1) y in
      let loss : (j : ℕ) → at waiting_on (set c.forward i (holding l xs)) j + 1 * one i j ≡ at waiting_on c.forward j + 0 * one i j = at_set waiting_on c.forward i l (holding l xs) 1 0 el (omega (arith, ap length q)) in
      let layer : (j : ℕ) → at forward_layer (set c.relays i t) j + 0 * one i j ≡ at forward_layer c.relays j + 1 * one i j = at_set forward_layer c.relays i r t 0 1 er (omega arith) in
      small-forward c i r t _ s er refl refl (length-set c.forward i _) (omega (arith, loss 0, layer 0, s.first_forward))
      (λ j. omega (arith, loss (suc j), layer j, layer (suc j), s.next_forward j))

  small-carry_cell : (c : Circuit K S) (i : ℕ) (r : Relay K S) (l : Line) (xs : List (List ℕ)) → Small c → nth c.relays i ≡ Some r
      → nth c.forward i ≡ Some l → l.cells ≡ xs → Small (carry_cell R c i r l xs).1
  small-carry_cell c i r l [] s er el q = s
  small-carry_cell c i r l (x ∷ xs) s er el q =
      cond_both (headed (i + 1) x) _ _ (λ (y : Answer × Circuit K S). Small y.1) (λ _. small-carry_to c i r l x xs _ _ s er el q) (λ _. s)

  small-carry_at : (c : Circuit K S) (i : ℕ) (o : Option (Relay K S)) (p : Option Line) → Small c → nth c.relays i ≡ o → nth c.forward i ≡ p
      → Small (carry_at R c i o p).1
  small-carry_at c i None p s er el = s
  small-carry_at c i (Some r) None s er el = s
  small-carry_at c i (Some r) (Some l) s er el = small-carry_cell c i r l l.cells s er el refl

  ---- bringing past a relay
  small-bring_cell : (c : Circuit K S) (i : ℕ) (r : Relay K S) (l g : Line) (xs : List (List ℕ)) → Small c → nth c.relays i ≡ Some r
      → nth c.backward (i + 1) ≡ Some l → nth c.backward i ≡ Some g → l.cells ≡ xs → Small (bring_cell R c i r l g xs).1
  small-bring_cell c i r l g [] s er el eg q = s
  small-bring_cell c i r l g (x ∷ xs) s er el eg q =
      let P : Answer × Circuit K S → Type 0 = λ y. Small y.1 in
      let z : List ℕ = framed (cell_number (i + 1)) (relay_adds R r (payload_of x)) in
      let t : Relay K S = relay_added R r in
      let bs : List Line = set c.backward i (holding g (g.cells ++ z ∷ [])) in
      let there : nth bs (i + 1) ≡ Some l = nth-set-other c.backward i (i + 1) _ (λ e. omega arith) ∙ el in
      let push : length (g.cells ++ z ∷ []) + 0 ≡ length g.cells + 1 = omega (arith, length_push g.cells z) in
      let gain : (j : ℕ) → at waiting_on bs j + 0 * one i j ≡ at waiting_on c.backward j + 1 * one i j = at_set waiting_on c.backward i g _ 0 1 eg push in
      let loss : (j : ℕ) → at waiting_on (set bs (i + 1) (holding l xs)) j + 1 * one (i + 1) j ≡ at waiting_on bs j + 0 * one (i + 1) j = at_set waiting_on bs (i + 1) l (holding l xs) 1 0 there (omega (arith, ap length q)) in
      let layer : (j : ℕ) → at backward_layer (set c.relays i t) j + 0 * one i j ≡ at backward_layer c.relays j + 1 * one i j = at_set backward_layer c.relays i r t 0 1 er (omega arith) in
      let count : (j : ℕ) → at relay_sent (set c.relays i t) j ≡ at relay_sent c.relays j = at_same relay_sent c.relays i r t er refl in
      cond_both (headed (i + 2) x) _ _ P
      (λ _. cond_both (leb layer_limit r.backward.layer) _ _ P (λ _. s)
      (λ _. cond_both (is_full g) _ _ P (λ _. s)
      (λ _. small-backward c i r t _ s er refl (omega (arith, s.relay_sends i, at-nth relay_sent c.relays i r er)) (length-set bs (i + 1) _ ∙ length-set c.backward i _)
      (λ j. omega (arith, gain (suc j), loss (suc j), layer j, layer (suc j), count j, one-next i j, s.next_backward j))
      (omega (arith, gain 0, loss 0, layer 0, one-first i, s.first_backward)))))
      (λ _. s)

  small-bring_at : (c : Circuit K S) (i : ℕ) (o : Option (Relay K S)) (p q : Option Line) → Small c → nth c.relays i ≡ o
      → nth c.backward (i + 1) ≡ p → nth c.backward i ≡ q → Small (bring_at R c i o p q).1
  small-bring_at c i None p q s er el eg = s
  small-bring_at c i (Some r) None q s er el eg = s
  small-bring_at c i (Some r) (Some l) None s er el eg = s
  small-bring_at c i (Some r) (Some l) (Some g) s er el eg = small-bring_cell c i r l g l.cells s er el eg refl

  ---- bringing to the client
  small-arrived_at : (c : Circuit K S) (l : Line) (x : List ℕ) (xs : List (List ℕ)) (p : List ℕ) (o : Outcome) (d : Option ℕ) → Small c
      → nth c.backward 0 ≡ Some l → l.cells ≡ x ∷ xs → Small (arrived_at R c l xs p o d).1
  small-arrived_at c l x xs p (stops f) d s el q = s
  small-arrived_at c l x xs p passes_on d s el q = s
  small-arrived_at c l x xs p (delivers m mark) None s el q = s
  small-arrived_at c l x xs p (delivers m mark) (Some d) s el q =
      let y : List ℕ = unwrapped R (suc d) c.client.backward p in
      let f : Flow = received (command_of y) (flow_at R c.client d) in
      let here : at sent_of c.client.flows d ≡ f.sent = at-get_or sent_of no_flow refl c.client.flows d in
      let same : total sent_of (set c.client.flows d f) ≡ total sent_of c.client.flows = total-same sent_of c.client.flows d f no_flow refl in
      let loss : (j : ℕ) → at waiting_on (set c.backward 0 (holding l xs)) j + 1 * one 0 j ≡ at waiting_on c.backward j + 0 * one 0 j = at_set waiting_on c.backward 0 l (holding l xs) 1 0 el (omega (arith, ap length q)) in
      record {
        few = s.few;
        forward_ends = s.forward_ends;
        backward_ends = length-advanced c.client.backward d (zeroed y) ∙ s.backward_ends;
        flows = length-set c.client.flows d f ∙ s.flows;
        forward_lines = s.forward_lines;
        backward_lines = length-set c.backward 0 _ ∙ s.backward_lines;
        client_sends = at-set-le sent_of c.client.flows d f message_limit (omega (arith, s.client_sends d)) s.client_sends;
        relay_sends = s.relay_sends;
        client_forward = λ i. omega (arith, same, s.client_forward i);
        first_forward = omega (arith, same, s.first_forward);
        next_forward = s.next_forward;
        next_backward = λ i. omega (arith, loss (suc i), s.next_backward i);
        first_backward = omega (arith, loss 0, s.first_backward, advanced-most c.client.backward d (zeroed y) 0);
        client_backward = advanced-first c.client.backward d (zeroed y) s.client_backward;
      }

  small-arrive_cell : (c : Circuit K S) (l : Line) (xs : List (List ℕ)) → Small c → nth c.backward 0 ≡ Some l → l.cells ≡ xs
      → Small (arrive_cell R c l xs).1
  small-arrive_cell c l [] s el q = s
  small-arrive_cell c l (x ∷ xs) s el q =
      cond_both (headed 1 x) _ _ (λ (y : Answer × Circuit K S). Small y.1) (λ _. small-arrived_at c l x xs (payload_of x) (client_outcome R c.client (payload_of x)) (recognised_at R c.client.backward (payload_of x)) s el q) (λ _. s)

  small-arrive : (c : Circuit K S) (o : Option Line) → Small c → nth c.backward 0 ≡ o → Small (arrive R c o).1
  small-arrive c None s el = s
  small-arrive c (Some l) s el = small-arrive_cell c l l.cells s el refl

  ---- all calls
  small-reply_at : (c : Circuit K S) (i : ℕ) (m : Message) (o : Option (Relay K S)) → Small c → nth c.relays i ≡ o → Small (reply_at R c i m o).1
  small-reply_at c i m None s er = s
  small-reply_at c i m (Some r) s er =
      small-reply_by c i r r.flow m (relay_send_refusal R r (i + 1) m) s er refl
      (sending-allowed _ _ r.flow _ m)

  small-reply_sendme : (c : Circuit K S) (i : ℕ) (o : Option (Relay K S)) → Small c → nth c.relays i ≡ o → Small (reply_sendme R c i o).1
  small-reply_sendme c i None s er = s
  small-reply_sendme c i (Some r) s er =
      small-reply_by c i r (acknowledged r.flow) sendme (relay_acknowledge_refusal R r) s er refl
      (acknowledge-allowed r.flow _)

  small-act : (c : Circuit K S) (x : Call) → Small c → 0 < asks_for x → asks_for x ≤ length c.relays → Small (act R c x).1
  small-act c (send k m) s lo hi =
      small-send_by c (k - 1) (flow_at R c.client (k - 1)) m (client_send_refusal R c.client (k - 1) m) s (omega arith) refl
      (sending-allowed _ _ (flow_at R c.client (k - 1)) _ m)
  small-act c (carry j) s lo hi = small-carry_at c (j - 1) _ _ s refl refl
  small-act c (reply k m) s lo hi = small-reply_at c (k - 1) m _ s refl
  small-act c (bring j) s lo hi =
      cond_both (eqb j 1) _ _ (λ (y : Answer × Circuit K S). Small y.1) (λ _. small-arrive c _ s refl)
      (λ e. small-bring_at c (j - 2) _ _ _ s refl (ap (nth c.backward) (above-one e)) refl)
    where
      above-one : eqb j 1 ≡ false → j - 2 + 1 ≡ j - 1
      above-one e = omega (arith, lo, eqb-false j 1 e)
  small-act c (acknowledge k Forward) s lo hi = small-reply_sendme c (k - 1) _ s refl
  small-act c (acknowledge k Backward) s lo hi =
      small-send_by c (k - 1) (acknowledged (flow_at R c.client (k - 1))) sendme (client_acknowledge_refusal R c.client (k - 1)) s (omega arith) refl
      (acknowledge-allowed (flow_at R c.client (k - 1)) _)
  small-act c destroy s lo hi =
      let none : (ls : List Line) (j : ℕ) → at waiting_on (map (λ l. holding l []) ls) j ≡ 0 = λ ls j. at_map waiting_on (λ l. holding l []) ls j ∙ at_zero ls j in
      record {
        few = s.few;
        forward_ends = s.forward_ends;
        backward_ends = s.backward_ends;
        flows = s.flows;
        forward_lines = length-map c.forward _ ∙ s.forward_lines;
        backward_lines = length-map c.backward _ ∙ s.backward_lines;
        client_sends = s.client_sends;
        relay_sends = s.relay_sends;
        client_forward = s.client_forward;
        first_forward = omega (arith, none c.forward 0, s.first_forward);
        next_forward = λ i. omega (arith, none c.forward (suc i), s.next_forward i);
        next_backward = λ i. omega (arith, none c.backward (suc i), s.next_backward i);
        first_backward = omega (arith, none c.backward 0, s.first_backward);
        client_backward = s.client_backward;
      }

  pub small-called : (c : Circuit K S) → Small c → (x : Request) → Small (called R c x).1
  small-called c s x = go (gate c x) refl
    where
      go : (o : Option Refusal) → gate c x ≡ o → Small (gated c o (act R c x.call)).1
      go (Some f) e = s
      go None e = small-act c x.call s (in-range c x e).0 (in-range c x e).1

  small-run : (w : World K S) (xs : List Request) → Small w.circuit → Small (after R w xs).circuit
  small-run w [] s = s
  small-run w (x ∷ xs) s = small-run (next R w x) xs (small-called w.circuit s x)

---- the start
pub start_small : {K S : Type 0} (c : Circuit K S) → Fresh c → Small c
start_small {K} {S} c z =
    let forwards : (j : ℕ) → at forward_layer c.relays j ≡ 0 = at_all forward_layer c.relays (all-also FreshRelay (λ r. r.forward.layer ≡ 0) (λ r h. h.0) c.relays z.relays) in
    let backwards : (j : ℕ) → at backward_layer c.relays j ≡ 0 = at_all backward_layer c.relays (all-also FreshRelay (λ r. r.backward.layer ≡ 0) (λ r h. h.1) c.relays z.relays) in
    let sent : (j : ℕ) → at relay_sent c.relays j ≡ 0 = at_all relay_sent c.relays (all-also FreshRelay (λ r. r.flow.sent ≡ 0) (λ r h. ap sent_of h.2) c.relays z.relays) in
    let empty : (ls : List Line) → All EmptyLine ls → (j : ℕ) → at waiting_on ls j ≡ 0 = λ ls h. at_all waiting_on ls (all-also EmptyLine (λ l. length l.cells ≡ 0) (λ l h. ap length h.0) ls h) in
    let ends : (j : ℕ) → at layer_of c.client.forward j ≡ 0 = λ j. ap (λ (es : List (End K S)). at layer_of es j) z.forward_ends ∙ at_map layer_of _ c.relays j ∙ forwards j in
    let backs : (j : ℕ) → at layer_of c.client.backward j ≡ 0 = λ j. ap (λ (es : List (End K S)). at layer_of es j) z.backward_ends ∙ at_map layer_of _ c.relays j ∙ backwards j in
    let flow : (j : ℕ) → at sent_of c.client.flows j ≡ 0 = λ j. ap (λ (fs : List Flow). at sent_of fs j) z.flows ∙ at_map sent_of _ c.relays j ∙ at_zero c.relays j in
    record {
      few = z.few;
      forward_ends = ap length z.forward_ends ∙ length-map c.relays _;
      backward_ends = ap length z.backward_ends ∙ length-map c.relays _;
      flows = ap length z.flows ∙ length-map c.relays _;
      forward_lines = z.forward_count;
      backward_lines = z.backward_count;
      client_sends = λ i. omega (arith, flow i);
      relay_sends = λ i. omega (arith, sent i);
      client_forward = λ i. omega (arith, ends i);
      first_forward = omega (arith, forwards 0, empty c.forward z.forward_links 0);
      next_forward = λ i. omega (arith, forwards (suc i), empty c.forward z.forward_links (suc i));
      next_backward = λ i. omega (arith, backwards i, empty c.backward z.backward_links (suc i));
      first_backward = omega (arith, backs 0, empty c.backward z.backward_links 0);
      client_backward = λ i. omega (arith, backs i);
    }

pub small-after : {K S : Type 0} (R : Rules K S) (c : Circuit K S) → Fresh c → (xs : List Request) → Small (after R (start c) xs).circuit
small-after R c z xs = small-run R (start c) xs (start_small c z)
