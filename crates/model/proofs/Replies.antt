-- A relay sends a message or an acknowledgement.
use Rattle.std.proofs.Common.{◌≡◌, ℕ, suc, ◌+◌, ◌-◌, ◌<◌, ◌≤◌, true, false, leb, List, [], ◌∷◌, ◌++◌, map, length, get_or, set, Some, None, Option, sym, refl, ap, ◌∙◌, subst, add-one, arith}
use Rattle.std.proofs.lemmas.List.{length-set, map-set}
use Rattle.std.proofs.lemmas.Bool.{cond_both, not-false, ltb-false}
use Rattle.cell.specs.Payload.{Message, blank}
use Rattle.cell.specs.Frame.{cell_number, framed}
use Rattle.cell.specs.declared.command.Way.TheVariants.{Forward, Backward}
use Rattle.model.specs.Lists.{nth}
use Rattle.model.specs.Messages.{sendme, is_data, may_send}
use Rattle.model.specs.Ends.{Rules, End, layer_limit, took, sealed}
use Rattle.model.specs.Streams.{relay_sends}
use Rattle.model.specs.Flows.{Flow, step, posted, acknowledged}
use Rattle.model.specs.Circuit.{Line, is_full, holding, Relay, Circuit, Call, reply, acknowledge}
use Rattle.model.specs.Calls.{asks_for, flow_at, relay_send_refusal, relay_acknowledge_refusal, relay_sent, relay_adds, reply_on, reply_by, reply_at, reply_sendme}
use Rattle.model.specs.PlainMachine.{Rows, Turn, joined, with_backward, silent, turn, pipe}
use Rattle.model.specs.Runs as runs
use Rattle.model.specs.Runs.{Posting, relay_flow, own_forward, own_backward, journal}
use Rattle.model.proofs.Sealing.{fits, sendme-fits}
use Rattle.model.proofs.Places.{nth-map, nth-over, map_set_same, get_or-nth}
use Rattle.model.proofs.Stations.{Station, relay_at, line_at, row_at, Over}
use Rattle.model.proofs.Backward.{sent_by, sending, backward-sends}
use Rattle.model.proofs.Rows.{plain}
use Rattle.model.proofs.Pipes.{only}
use Rattle.model.proofs.Windows.{Both, host-sends, sent-at, acknowledged-at}
use Rattle.model.proofs.Orders.{sub-one, arrives_by, arrives-none}
use Rattle.model.proofs.Tests.{first-of, sending_tests, acknowledge_tests, relay-streams, host-fits}
use Rattle.model.proofs.Holding.{relay-there, relay-other, relay-flow, Holds, FineBoth, backward-at, turn-order}

module _ {K S : Type 0} (R : Rules K S) where
  module _ (c : Circuit K S) (p : Rows Posting) (h : Holds R c p) (d : ℕ) (lt : d < length c.relays) where
    -- the turn of a reply
    abbrev replies : Message → Turn Posting
    replies m = silent (with_backward p (joined (suc d - 1) (runs.posted R c Backward (suc d) m) p.backward))

    module _ (s : Station K S) (station-at : nth h.backward d ≡ Some s) (r : Relay K S) (relay-at : nth c.relays d ≡ Some r) (over : own_backward r ≡ s.relay) where
      module _ (f : Flow) (m : Message) where
        posting-is : sent_by R s.relay (suc d) m ≡ runs.posted R c Backward (suc d) m
        posting-is =
            let a : nth (map own_backward c.relays) (suc d - 1) ≡ Some r.backward = rw (sub-one d) (nth-map own_backward c.relays d r relay-at) in
            let b : nth c.relays (suc d - 1) ≡ Some r = rw (sub-one d) relay-at in
            rw (← over, a, b)

        new-over : Over (map own_backward (set c.relays d (relay_sent R r (d + 1) f m))) (set c.backward d (holding s.line (s.line.cells ++ framed (cell_number (d + 1)) (relay_adds R r (sealed R r.backward.digest (blank m))) ∷ []))) (replies m).rows.backward (set h.backward d (sending R (suc d) s m))
        new-over =
            let b : List ℕ = blank m in
            let o : Over (map own_backward c.relays) c.backward p.backward h.backward = h.backward_over in
            let row : get_or p.backward d [] ≡ s.row = ap (λ (v : List (List Posting)). get_or v d []) (sym o.rows) ∙ get_or-nth (map row_at h.backward) d s.row [] (nth-map row_at h.backward d s station-at) in
            record {
              ends = map-set relay_at h.backward d (sending R (suc d) s m) ∙ (ap (λ (v : List (End K S)). set v d (took R s.relay b)) o.ends ∙ (ap (λ (e : End K S). set (map own_backward c.relays) d (took R e b)) (sym over) ∙ sym (map-set own_backward c.relays d (relay_sent R r (d + 1) f m))));
              lines = map-set line_at h.backward d (sending R (suc d) s m) ∙ (ap (λ (v : List Line). set v d (sending R (suc d) s m).line) o.lines ∙ rw (← over, add-one));
              rows = map-set row_at h.backward d (sending R (suc d) s m) ∙ (ap (λ (v : List (List Posting)). set v d (s.row ++ sent_by R s.relay (suc d) m ∷ [])) o.rows ∙ (ap (λ (q : Posting). set p.backward d (s.row ++ q ∷ [])) posting-is ∙ (ap (λ (v : List Posting). set p.backward d (v ++ runs.posted R c Backward (suc d) m ∷ [])) (sym row) ∙ ap (λ (z : ℕ). joined z (runs.posted R c Backward (suc d) m) p.backward) (sym (sub-one d)))));
            }

        module _ (fit : fits Backward m ≡ true) (x : Call) (windows : (k : ℕ) → k < length c.relays → Both (flow_at R c.client k) (relay_flow (nth (set c.relays d (relay_sent R r (d + 1) f m)) k)) (pipe Forward (suc k) (plain p)) (pipe Backward (suc k) (plain (replies m).rows))) where
          replied-on : FineBoth R c x (replies m) (reply_on R c d r f m (nth c.backward d))
          replied-on =
              let l : Line = s.line in
              let r' : Relay K S = relay_sent R r (d + 1) f m in
              let at : nth c.backward d ≡ Some l = ap (λ (v : List Line). nth v d) (sym h.backward_over.lines) ∙ nth-map line_at h.backward d s station-at in
              let n : length (set c.relays d r') ≡ length c.relays = length-set c.relays d r' in
              subst (λ (o : Option Line). FineBoth R c x (replies m) (reply_on R c d r f m o)) (sym at)
              (cond_both (is_full l) _ _ (FineBoth R c x (replies m)) (λ _. (refl, omega arith))
              (λ _. (
                record {
                  unclosed = h.unclosed;
                  forward = h.forward;
                  backward = set h.backward d (sending R (suc d) s m);
                  forward_over = record { ends = h.forward_over.ends ∙ sym (map_set_same own_forward c.relays d r r' relay-at refl); lines = h.forward_over.lines; rows = h.forward_over.rows };
                  backward_over = new-over;
                  forward_good = h.forward_good;
                  backward_good = backward-sends R d 1 (suc d) c.client.backward h.backward s m h.backward_good station-at (omega arith) fit;
                  flows = h.flows ∙ sym n;
                  windows = λ k k_lt. windows k (omega arith);
                },
                refl,
              )))

      backward-more : (x : Call) (m : Message) → turn (journal R c) p x ≡ replies m → runs.is_destroy x ≡ false → asks_for x ≡ suc d → (k : ℕ) → runs.sends_for Backward k x ≡ only k (suc d) m → pipe Backward k (plain (replies m).rows) ≡ pipe Backward k (plain p) ++ only k (suc d) m
      backward-more x m e z a k q =
          let o : pipe Backward k (plain p) ++ runs.sends_for Backward k x ≡ arrives_by Backward k x None ++ pipe Backward k (plain (replies m).rows) = turn-order R c p h x (replies m) e z (omega arith) (omega arith) Backward k in
          sym (rw (q, arrives-none Backward k x) at o)

      -- the flow at a place, before and after
      module _ (v : Relay K S) (k : ℕ) where
        flow-same : (g : Flow → Flow) → v.flow ≡ g r.flow → k ≡ d → relay_flow (nth (set c.relays d v) k) ≡ g (relay_flow (nth c.relays k))
        flow-same g q e = relay-there c.relays d lt v k e ∙ (q ∙ ap g (sym (relay-flow c.relays d lt r k relay-at e)))

      reply-there : (m : Message) → FineBoth R c (reply (suc d) m) (turn (journal R c) p (reply (suc d) m)) (reply_by R c d r r.flow m (relay_send_refusal R r (d + 1) m))
      reply-there m =
          first-of (λ (o : Option ℕ). FineBoth R c (reply (suc d) m) (turn (journal R c) p (reply (suc d) m)) (reply_by R c d r r.flow m o))
          (sending_tests (may_send Backward m.command) (relay_sends (d + 1) m.command m.stream r.streams) r.flow (leb layer_limit r.backward.layer) m)
          ((refl, omega arith), ((refl, omega arith), ((refl, omega arith), ((refl, omega arith), ((refl, omega arith), tt)))))
          (λ a.
          let f : Flow = r.flow in
          let r' : Relay K S = relay_sent R r (d + 1) f m in
          let may : may_send Backward m.command ≡ true = not-false _ a.0 in
          let fit : fits Backward m ≡ true = host-fits Backward m may (ltb-false 498 _ a.1.0) (relay-streams (d + 1) m.command m.stream r.streams a.1.1.0) in
          let room : is_data m.command ≤ f.window = ltb-false f.window (is_data m.command) a.1.1.1.0 in
          replied-on f m fit (reply (suc d) m)
          (λ k l.
          let u : Both (relay_flow (nth (set c.relays d r') k)) (flow_at R c.client k) (pipe Backward (suc k) (plain (replies m).rows)) (pipe Forward (suc k) (plain p)) =
          sent-at k d m (pipe Backward (suc k) (plain p)) (pipe Backward (suc k) (plain (replies m).rows)) (pipe Forward (suc k) (plain p)) (pipe Forward (suc k) (plain p)) (relay_flow (nth c.relays k)) (relay_flow (nth (set c.relays d r') k)) (flow_at R c.client k) ((h.windows k l).1, (h.windows k l).0)
          (backward-more (reply (suc d) m) m refl refl refl (suc k) refl) refl (relay-other c.relays d lt r' k) (flow-same r' k (posted m.command) refl) (host-sends Backward m.command may) (λ e. rw (relay-flow c.relays d lt r k relay-at e) room) in
          (u.1, u.0)))

      acknowledge-there : FineBoth R c (acknowledge (suc d) Forward) (turn (journal R c) p (acknowledge (suc d) Forward)) (reply_by R c d r (acknowledged r.flow) sendme (relay_acknowledge_refusal R r))
      acknowledge-there =
          first-of (λ (o : Option ℕ). FineBoth R c (acknowledge (suc d) Forward) (turn (journal R c) p (acknowledge (suc d) Forward)) (reply_by R c d r (acknowledged r.flow) sendme o))
          (acknowledge_tests r.flow (leb layer_limit r.backward.layer))
          ((refl, omega arith), ((refl, omega arith), tt))
          (λ a.
          let f : Flow = acknowledged r.flow in
          let r' : Relay K S = relay_sent R r (d + 1) f sendme in
          let owed : step ≤ r.flow.unacknowledged = ltb-false r.flow.unacknowledged step a.0 in
          replied-on f sendme (sendme-fits Backward) (acknowledge (suc d) Forward)
          (λ k l.
          let u : Both (relay_flow (nth (set c.relays d r') k)) (flow_at R c.client k) (pipe Backward (suc k) (plain (replies sendme).rows)) (pipe Forward (suc k) (plain p)) =
          acknowledged-at k d sendme (pipe Backward (suc k) (plain p)) (pipe Backward (suc k) (plain (replies sendme).rows)) (pipe Forward (suc k) (plain p)) (pipe Forward (suc k) (plain p)) (relay_flow (nth c.relays k)) (relay_flow (nth (set c.relays d r') k)) (flow_at R c.client k) ((h.windows k l).1, (h.windows k l).0)
          (backward-more (acknowledge (suc d) Forward) sendme refl refl refl (suc k) refl) refl (relay-other c.relays d lt r' k) refl (flow-same r' k (λ (g : Flow). posted 5 (acknowledged g)) refl) (λ e. rw (relay-flow c.relays d lt r k relay-at e) owed) in
          (u.1, u.0)))

    pub reply-fine : (m : Message) → FineBoth R c (reply (suc d) m) (turn (journal R c) p (reply (suc d) m)) (reply_at R c d m (nth c.relays d))
    reply-fine m =
        let s : (s : Station K S) × (nth h.backward d ≡ Some s) = backward-at R c p h d lt in
        let r : (r : Relay K S) × (nth c.relays d ≡ Some r) × (own_backward r ≡ s.0.relay) = nth-over relay_at own_backward h.backward c.relays d s.0 h.backward_over.ends s.1 in
        subst (λ (o : Option (Relay K S)). FineBoth R c (reply (suc d) m) (turn (journal R c) p (reply (suc d) m)) (reply_at R c d m o)) (sym r.1) (reply-there s.0 s.1 r.0 r.1 r.2 m)

    pub relay-acknowledge-fine : FineBoth R c (acknowledge (suc d) Forward) (turn (journal R c) p (acknowledge (suc d) Forward)) (reply_sendme R c d (nth c.relays d))
    relay-acknowledge-fine =
        let s : (s : Station K S) × (nth h.backward d ≡ Some s) = backward-at R c p h d lt in
        let r : (r : Relay K S) × (nth c.relays d ≡ Some r) × (own_backward r ≡ s.0.relay) = nth-over relay_at own_backward h.backward c.relays d s.0 h.backward_over.ends s.1 in
        subst (λ (o : Option (Relay K S)). FineBoth R c (acknowledge (suc d) Forward) (turn (journal R c) p (acknowledge (suc d) Forward)) (reply_sendme R c d o)) (sym r.1) (acknowledge-there s.0 s.1 r.0 r.1 r.2)
