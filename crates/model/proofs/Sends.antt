-- The client sends a message or an acknowledgement.
use Rattle.std.proofs.Common.{◌≡◌, ℕ, zero, suc, ◌+◌, ◌<◌, ◌≤◌, true, false, List, [], ◌∷◌, ◌++◌, map, length, get_or, set, Some, None, Option, sym, refl, ap, ◌∙◌, subst, arith, get_or-set_other, get_or-set_same}
use Rattle.std.proofs.lemmas.List.{length-set}
use Rattle.std.proofs.lemmas.Bool.{cond_both, not-false, ltb-false}
use Rattle.cell.specs.Payload.{Message, blank}
use Rattle.cell.specs.Frame.{cell_number, framed}
use Rattle.cell.specs.declared.command.Way.TheVariants.{Forward, Backward}
use Rattle.model.specs.Lists.{nth}
use Rattle.model.specs.Messages.{sendme, is_data, may_send}
use Rattle.model.specs.Ends.{Rules, End, wrapped, advanced, coincidence, worn_out}
use Rattle.model.specs.Streams.{client_sends}
use Rattle.model.specs.Flows.{Flow, step, no_flow, posted, acknowledged}
use Rattle.model.specs.Circuit.{Line, is_full, holding, Circuit, Call, send, acknowledge}
use Rattle.model.specs.Calls.{asks_for, flow_at, client_send_refusal, client_acknowledge_refusal, client_sent, send_unless, send_on, send_by}
use Rattle.model.specs.PlainMachine.{Entry, entry, Rows, Turn, joined, with_forward, silent, turn, pipe}
use Rattle.model.specs.Runs as runs
use Rattle.model.specs.Runs.{Posting, relay_flow, sealed_by, journal}
use Rattle.model.proofs.Sealing.{fits, sendme-fits}
use Rattle.model.proofs.Places.{nth-map}
use Rattle.model.proofs.Threads.{layers_to, layers-take, sealed_at}
use Rattle.model.proofs.Stations.{Station, station, line_at, Over}
use Rattle.model.proofs.Forward.{GoodForward, forward-joins}
use Rattle.model.proofs.Rows.{plain}
use Rattle.model.proofs.Pipes.{only}
use Rattle.model.proofs.Windows.{Both, host-sends, sent-at, acknowledged-at}
use Rattle.model.proofs.Orders.{sub-one, arrives_by, arrives-none}
use Rattle.model.proofs.Tests.{first-of, sending_tests, acknowledge_tests, client-streams, host-fits}
use Rattle.model.proofs.Holding.{Holds, FineBoth, forward-ends, forward-at, turn-order}

module _ {K S : Type 0} (R : Rules K S) where
  -- the turn of a sending to the hop at place d
  abbrev sends : Circuit K S → Rows Posting → ℕ → Message → Turn Posting
  sends c p d m = silent (with_forward p (joined 0 (runs.posted R c Forward (suc d) m) p.forward))

  sealed-by : (es : List (End K S)) (d : ℕ) (m : Message) → sealed_by R (nth es d) m ≡ sealed_at R es d (blank m)
  sealed-by [] d m = refl
  sealed-by (e ∷ es) zero m = refl
  sealed-by (e ∷ es) (suc d) m = sealed-by es d m

  abbrev Joined : List (End K S) → List Line → List (List Posting) → List (End K S) → Line → Posting → List (List ℕ) → Type 0
  Joined es ls rs cs l q xs =
      (ss : List (Station K S)) × Over es (set ls 0 (holding l xs)) (joined 0 q rs) ss × GoodForward R 1 cs ss

  joined-stations : (es : List (End K S)) (ls : List Line) (rs : List (List Posting)) (ss : List (Station K S)) (cs : List (End K S)) (l : Line) (d : ℕ) (m : Message) (q : Posting) → Over es ls rs ss → GoodForward R 1 cs ss → nth ls 0 ≡ Some l → d < length cs → fits Forward m ≡ true → coincidence R cs d (blank m) ≡ None → q.entry ≡ entry (suc d) m → q.payload ≡ sealed_at R cs d (blank m) → q.layers ≡ layers_to cs d → Joined es ls rs (advanced R cs d (blank m)) l q (l.cells ++ framed (cell_number 1) (wrapped R cs d (blank m)) ∷ [])
  joined-stations es ls rs [] cs l d m q o g at lt f c e y n = absurd (omega (arith, ap length g))
  joined-stations es ls rs (s ∷ ss) cs l d m q o g at lt f c e y n =
      let b : List ℕ = blank m in
      let u : Some s.line ≡ Some l = ap (λ (v : List Line). nth v 0) o.lines ∙ at in
      let k : s.line ≡ l = cc in
      let v : Posting = record { entry = entry (suc d) m; payload = q.payload; layers = q.layers } in
      let same : v ≡ q = ap (λ (w : Entry). record { entry = w; payload = q.payload; layers = q.layers }) (sym e) in
      let P : ℕ → Type 0 = λ x. coincidence R cs x b ≡ None → x < length cs → v.payload ≡ sealed_at R cs x b → v.layers ≡ layers_to cs x → GoodForward R 1 (advanced R cs x b) (station s.relay (holding s.line (s.line.cells ++ framed (cell_number 1) (wrapped R cs x b) ∷ [])) (s.row ++ v ∷ []) ∷ ss) in
      let good : P d = subst P (sub-one d) (λ c lt y n. forward-joins R 1 cs s ss v g f c (omega arith) lt y n) in
      let t : Station K S = station s.relay (holding s.line (s.line.cells ++ framed (cell_number 1) (wrapped R cs d b) ∷ [])) (s.row ++ v ∷ []) in
      (t ∷ ss, record { ends = o.ends; lines = ap (λ (z : List Line). set z 0 t.line) o.lines ∙ ap (λ (z : Line). set ls 0 (holding z (z.cells ++ framed (cell_number 1) (wrapped R cs d b) ∷ []))) k; rows = ap (joined 0 v) o.rows ∙ ap (λ (z : Posting). joined 0 z rs) same }, good c lt y n)

  module _ (c : Circuit K S) (p : Rows Posting) (h : Holds R c p) (d : ℕ) (lt : d < length c.relays) where
    module _ (f : Flow) (m : Message) (fit : fits Forward m ≡ true) (x : Call) (windows : (k : ℕ) → k < length c.relays → Both (flow_at R (client_sent R c.client d f m) k) (relay_flow (nth c.relays k)) (pipe Forward (suc k) (plain (sends c p d m).rows)) (pipe Backward (suc k) (plain (sends c p d m).rows))) where
      sent-unless : (l : Line) → nth c.forward 0 ≡ Some l → (o : Option ℕ) → coincidence R c.client.forward d (blank m) ≡ o → FineBoth R c x (sends c p d m) (send_unless R c d f m l o)
      sent-unless l at (Some j) e = (refl, omega arith)
      sent-unless l at None e =
          let cs : List (End K S) = c.client.forward in
          let q : Posting = runs.posted R c Forward (suc d) m in
          let j : Joined (map runs.own_forward c.relays) c.forward p.forward (advanced R cs d (blank m)) l q (l.cells ++ framed (cell_number 1) (wrapped R cs d (blank m)) ∷ []) = joined-stations (map runs.own_forward c.relays) c.forward p.forward h.forward cs l d m q h.forward_over h.forward_good at (omega (arith, forward-ends R c p h)) fit e refl (ap (λ (z : ℕ). sealed_by R (nth cs z) m) (sub-one d) ∙ sealed-by cs d m) (layers-take cs d) in
          (record { unclosed = h.unclosed; forward = j.0; backward = h.backward; forward_over = j.1; backward_over = h.backward_over; forward_good = j.2; backward_good = h.backward_good; flows = length-set c.client.flows d (posted m.command f) ∙ h.flows; windows = windows }, refl)

      sent-on : FineBoth R c x (sends c p d m) (send_on R c d f m (nth c.forward 0))
      sent-on =
          let s : (s : Station K S) × (nth h.forward 0 ≡ Some s) = forward-at R c p h 0 (omega arith) in
          let l : Line = s.0.line in
          let at : nth c.forward 0 ≡ Some l = ap (λ (v : List Line). nth v 0) (sym h.forward_over.lines) ∙ nth-map line_at h.forward 0 s.0 s.1 in
          subst (λ (o : Option Line). FineBoth R c x (sends c p d m) (send_on R c d f m o)) (sym at)
          (cond_both (is_full l) _ _ (FineBoth R c x (sends c p d m)) (λ _. (refl, omega arith)) (λ _. sent-unless l at (coincidence R c.client.forward d (blank m)) refl))

  ---- the two calls; the hop stands at place d
  module _ (c : Circuit K S) (p : Rows Posting) (h : Holds R c p) (d : ℕ) (lt : d < length c.relays) where
    flow-there : (v : Flow) (k : ℕ) → k ≡ d → get_or (set c.client.flows d v) k no_flow ≡ v
    flow-there v k e = rw e (get_or-set_same c.client.flows d v no_flow (omega (arith, h.flows)))

    flow-other : (v : Flow) (k : ℕ) → (k ≡ d → ⊥) → get_or (set c.client.flows d v) k no_flow ≡ flow_at R c.client k
    flow-other v k n = get_or-set_other c.client.flows d k v no_flow n

    -- what a sending adds to the pipes
    forward-more : (x : Call) (m : Message) → turn (journal R c) p x ≡ sends c p d m → runs.is_destroy x ≡ false → asks_for x ≡ suc d → (k : ℕ) → runs.sends_for Forward k x ≡ only k (suc d) m → pipe Forward k (plain (sends c p d m).rows) ≡ pipe Forward k (plain p) ++ only k (suc d) m
    forward-more x m e z a k s =
        let o : pipe Forward k (plain p) ++ runs.sends_for Forward k x ≡ arrives_by Forward k x None ++ pipe Forward k (plain (sends c p d m).rows) = turn-order R c p h x (sends c p d m) e z (omega arith) (omega arith) Forward k in
        sym (rw (s, arrives-none Forward k x) at o)

    pub send-fine : (m : Message) → FineBoth R c (send (suc d) m) (turn (journal R c) p (send (suc d) m)) (send_by R c d (flow_at R c.client d) m (client_send_refusal R c.client d m))
    send-fine m =
        first-of (λ (o : Option ℕ). FineBoth R c (send (suc d) m) (turn (journal R c) p (send (suc d) m)) (send_by R c d (flow_at R c.client d) m o))
        (sending_tests (may_send Forward m.command) (client_sends (d + 1) m.command m.stream c.client.streams) (flow_at R c.client d) (worn_out c.client.forward d) m)
        ((refl, omega arith), ((refl, omega arith), ((refl, omega arith), ((refl, omega arith), ((refl, omega arith), tt)))))
        (λ a.
        let f : Flow = flow_at R c.client d in
        let may : may_send Forward m.command ≡ true = not-false _ a.0 in
        let fit : fits Forward m ≡ true = host-fits Forward m may (ltb-false 498 _ a.1.0) (client-streams (d + 1) m.command m.stream c.client.streams a.1.1.0) in
        let room : is_data m.command ≤ f.window = ltb-false f.window (is_data m.command) a.1.1.1.0 in
        sent-on c p h d lt f m fit (send (suc d) m)
        (λ k l.
        sent-at k d m (pipe Forward (suc k) (plain p)) (pipe Forward (suc k) (plain (sends c p d m).rows)) (pipe Backward (suc k) (plain p)) (pipe Backward (suc k) (plain p)) (flow_at R c.client k) (get_or (set c.client.flows d (posted m.command f)) k no_flow) (relay_flow (nth c.relays k)) (h.windows k l)
        (forward-more (send (suc d) m) m refl refl refl (suc k) refl) refl (flow-other (posted m.command f) k)
        (λ e. flow-there (posted m.command f) k e ∙ ap (λ (z : ℕ). posted m.command (flow_at R c.client z)) (sym e)) (host-sends Forward m.command may) (λ e. rw e room)))

    pub acknowledge-fine : FineBoth R c (acknowledge (suc d) Backward) (turn (journal R c) p (acknowledge (suc d) Backward)) (send_by R c d (acknowledged (flow_at R c.client d)) sendme (client_acknowledge_refusal R c.client d))
    acknowledge-fine =
        first-of (λ (o : Option ℕ). FineBoth R c (acknowledge (suc d) Backward) (turn (journal R c) p (acknowledge (suc d) Backward)) (send_by R c d (acknowledged (flow_at R c.client d)) sendme o))
        (acknowledge_tests (flow_at R c.client d) (worn_out c.client.forward d))
        ((refl, omega arith), ((refl, omega arith), tt))
        (λ a.
        let f : Flow = flow_at R c.client d in
        let owed : step ≤ f.unacknowledged = ltb-false f.unacknowledged step a.0 in
        sent-on c p h d lt (acknowledged f) sendme (sendme-fits Forward) (acknowledge (suc d) Backward)
        (λ k l.
        acknowledged-at k d sendme (pipe Forward (suc k) (plain p)) (pipe Forward (suc k) (plain (sends c p d sendme).rows)) (pipe Backward (suc k) (plain p)) (pipe Backward (suc k) (plain p)) (flow_at R c.client k) (get_or (set c.client.flows d (posted 5 (acknowledged f))) k no_flow) (relay_flow (nth c.relays k)) (h.windows k l)
        (forward-more (acknowledge (suc d) Backward) sendme refl refl refl (suc k) refl) refl (flow-other (posted 5 (acknowledged f)) k)
        refl (λ e. flow-there (posted 5 (acknowledged f)) k e ∙ ap (λ (z : ℕ). posted 5 (acknowledged (flow_at R c.client z))) (sym e)) (λ e. rw e owed)))
