-- A relay takes the oldest cell of its forward link: it delivers the message, or passes the cell on.
use Rattle.std.proofs.Common.{◌≡◌, ℕ, suc, ◌+◌, ◌-◌, ◌<◌, true, false, cond, not, eqb, leb, List, [], ◌∷◌, ◌++◌, map, length, get_or, set, Some, Option, sym, refl, ap, ◌∙◌, subst, ⊎_elim, append-nil, add-one, arith, get_or-set_other}
use lib.Seq.{set_comm}
use Rattle.std.proofs.lemmas.List.{length-set, map-set}
use Rattle.std.proofs.lemmas.Bool.{cond_both, cond-true, cond-false, cases_eq, eq-eqb, ne_eqb, not_from_true, both_ways}
use Rattle.cell.specs.Payload.{Message, zeroed, command_of, stream_of, message_of}
use Rattle.cell.specs.Frame.{cell_number, framed, payload_of}
use Rattle.cell.specs.declared.command.Way.TheVariants.{Forward, Backward}
use Rattle.cell.proofs.Frames.{payload-framed}
use Rattle.model.specs.Lists.{nth}
use Rattle.model.specs.Messages.{well_formed}
use Rattle.model.specs.Ends.{Rules, End, layer_limit, recognises, moved, took, sealed}
use Rattle.model.specs.Streams.{relay_receives, mark_of}
use Rattle.model.specs.Flows.{Flow, received, overruns}
use Rattle.model.specs.Circuit.{Line, is_full, holding, Relay, Circuit, carry, Answer, accepted, delivered}
use Rattle.model.specs.Calls.{refusal, headed, flow_at, Outcome, stops, passes_on, delivers, relay_removes, relay_delivery, relay_outcome, relay_passed, relay_took, carry_on, carry_to, carry_cell, carry_at}
use Rattle.model.specs.PlainMachine.{entry, Rows, Turn, joined, with_forward, silent, delivering, carried, turn, pipe}
use Rattle.model.specs.Runs.{Posting, is_accepted, relay_flow, own_forward, own_backward, mark_given, journal}
use Rattle.model.proofs.Laws.{Laws}
use Rattle.model.proofs.Sealing.{fits, headed-framed, message-fields, zeroed-sealed, message-sealed, command-sealed, recognises-sealed, well-formed-sealed}
use Rattle.model.proofs.Places.{empty-list, nth-over, nth-within, map_set_same}
use Rattle.model.proofs.Threads.{blank_of}
use Rattle.model.proofs.Stations.{Station, station, relay_at, Over, over-set, over-line, over-row, over-same}
use Rattle.model.proofs.Forward.{GoodForward, peeled_once, Delivers, Passes, forward-delivers, forward-passes, forward-cells}
use Rattle.model.proofs.Rows.{plain, plain_arrival}
use Rattle.model.proofs.Pipes.{only}
use Rattle.model.proofs.Windows.{Both, never-overrun, received-at}
use Rattle.model.proofs.Orders.{sub-one}
use Rattle.model.proofs.Holding.{relay-there, relay-other, relay-flow, relay-unmoved, Holds, Fine, FineBoth, forward-stations, forward-at, turn-order}

-- a cell waits on the link of relay i, the relay's layer is not spent, and the next link has room
pub record Goes {K S : Type 0} (c : Circuit K S) (p : Rows Posting) (i : ℕ) : Type 0 where
  pub waits : get_or p.forward i [] ≡ [] → ⊥
  pub fresh : (r : Relay K S) → nth c.relays i ≡ Some r → leb layer_limit r.forward.layer ≡ false
  pub room : (g : Line) → nth c.forward (suc i) ≡ Some g → is_full g ≡ false

module _ {K S : Type 0} (R : Rules K S) (L : Laws R) where
  module _ (c : Circuit K S) (p : Rows Posting) (h : Holds R c p) (i : ℕ) (lt : i < length c.relays) where
    abbrev carries : Turn Posting
    carries = turn (journal R c) p (carry (suc i))

    -- a carry follows the journal's turn, and is accepted where it goes
    abbrev CarriesOn : Answer × Circuit K S → Type 0
    CarriesOn y = FineBoth R c (carry (suc i)) carries y × (Goes c p i → is_accepted y.0 ≡ true)

    module _ (s : Station K S) (station-at : nth h.forward i ≡ Some s) (r : Relay K S) (relay-at : nth c.relays i ≡ Some r) (over : own_forward r ≡ s.relay) where
      row_at : get_or p.forward i [] ≡ s.row
      row_at = over-row h.forward i h.forward_over s station-at

      carry-step : (x y : List ℕ) (xs : List (List ℕ)) → R.removed s.relay.cipher s.relay.layer x ≡ y → carry_cell R c i r s.line (framed (cell_number (i + 1)) x ∷ xs) ≡ carry_to R c i r s.line xs y (relay_outcome R r (i + 1) (eqb (i + 1) (length c.relays)) y)
      carry-step x y xs e =
          let u : relay_removes R r (payload_of (framed (cell_number (i + 1)) x)) ≡ y = ap (relay_removes R r) (payload-framed (cell_number (i + 1)) x) ∙ (ap (λ (v : End K S). R.removed v.cipher v.layer x) over ∙ e) in
          cond-true (headed (i + 1) (framed (cell_number (i + 1)) x)) _ _ (headed-framed (i + 1) x) ∙ ap (λ (v : List ℕ). carry_to R c i r s.line xs v (relay_outcome R r (i + 1) (eqb (i + 1) (length c.relays)) v)) u

      -- unless a layer is spent, the test decides
      unless-worn : (y : List ℕ) (xs : List (List ℕ)) (o : Outcome) → CarriesOn (carry_to R c i r s.line xs y o) → CarriesOn (carry_to R c i r s.line xs y (cond (leb layer_limit r.forward.layer) (stops (refusal 10 (i + 1))) o))
      unless-worn y xs o f =
          cond_both (leb layer_limit r.forward.layer) (stops (refusal 10 (i + 1))) o (λ (z : Outcome). CarriesOn (carry_to R c i r s.line xs y z))
          (λ e. ((refl, omega arith), λ g. absurd (both_ways (leb layer_limit r.forward.layer) (g.fresh r relay-at) e))) (λ _. f)

      module _ (q : Posting) (qs : List Posting) (row : s.row ≡ q ∷ qs) where
        delivers-turn : q.entry.hop ≡ suc i → carries ≡ delivering q (with_forward p (set p.forward i qs))
        delivers-turn e =
            ap (λ (z : ℕ). carried (journal R c) p (suc i) (get_or p.forward z [])) (sub-one i) ∙ (ap (carried (journal R c) p (suc i)) (row_at ∙ row) ∙ (cond-true (eqb q.entry.hop (suc i)) _ _ (eq-eqb q.entry.hop (suc i) e) ∙ ap (λ (z : ℕ). delivering q (with_forward p (set p.forward z qs))) (sub-one i)))

        passes-turn : (q.entry.hop ≡ suc i → ⊥) → carries ≡ silent (with_forward p (joined (suc i) (peeled_once q) (set p.forward i qs)))
        passes-turn n =
            ap (λ (z : ℕ). carried (journal R c) p (suc i) (get_or p.forward z [])) (sub-one i) ∙ (ap (carried (journal R c) p (suc i)) (row_at ∙ row) ∙ (cond-false (eqb q.entry.hop (suc i)) _ _ (ne_eqb q.entry.hop (suc i) n) ∙ ap (λ (z : ℕ). silent (with_forward p (joined (suc i) (peeled_once q) (set p.forward z qs)))) (sub-one i)))

        ---- delivered
        module _ (here : q.entry.hop ≡ suc i) where
          abbrev m : Message
          m = q.entry.message

          abbrev y : List ℕ
          y = sealed R s.relay.digest (blank_of q)

          abbrev t : Turn Posting
          t = delivering q (with_forward p (set p.forward i qs))

          forward-order : (k : ℕ) → pipe Forward k (plain p) ≡ only k (suc i) m ++ pipe Forward k (plain t.rows)
          forward-order k =
              let o : pipe Forward k (plain p) ++ [] ≡ only k q.entry.hop m ++ pipe Forward k (plain t.rows) = turn-order R c p h (carry (suc i)) t (delivers-turn here) refl (omega arith) (omega arith) Forward k in
              sym (append-nil (pipe Forward k (plain p))) ∙ (o ∙ ap (λ (z : ℕ). only k z m ++ pipe Forward k (plain t.rows)) here)

          window : Both (flow_at R c.client i) r.flow (m ∷ pipe Forward (suc i) (plain t.rows)) (pipe Backward (suc i) (plain p))
          window =
              let e : pipe Forward (suc i) (plain p) ≡ m ∷ pipe Forward (suc i) (plain t.rows) = forward-order (suc i) ∙ rw (eq-eqb (suc i) (suc i) refl) in
              let b : Both (flow_at R c.client i) (relay_flow (nth c.relays i)) (pipe Forward (suc i) (plain p)) (pipe Backward (suc i) (plain p)) = h.windows i lt in
              subst (λ (z : Flow). Both (flow_at R c.client i) z (m ∷ pipe Forward (suc i) (plain t.rows)) (pipe Backward (suc i) (plain p))) (ap relay_flow relay-at)
              (subst (λ (z : List Message). Both (flow_at R c.client i) (relay_flow (nth c.relays i)) z (pipe Backward (suc i) (plain p))) e b)

          outcome : fits Forward m ≡ true → cond (recognises R.tags r.forward.digest y) (relay_delivery R r (i + 1) y) (cond (eqb (i + 1) (length c.relays)) (stops (refusal 13 (i + 1))) passes_on) ≡ delivers (message_of y) (mark_of (relay_receives (i + 1) (command_of y) (stream_of y) r.streams))
          outcome fit =
              let test : recognises R.tags r.forward.digest y ≡ true = ap (λ (v : End K S). recognises R.tags v.digest y) over ∙ recognises-sealed R L s.relay.digest m in
              let form : not (well_formed Forward y) ≡ false = not_from_true _ (well-formed-sealed R L s.relay.digest m Forward fit) in
              let room : overruns (command_of y) r.flow ≡ false = ap (λ (z : ℕ). overruns z r.flow) (command-sealed R L s.relay.digest m) ∙ never-overrun (flow_at R c.client i) r.flow (pipe Forward (suc i) (plain t.rows)) (pipe Backward (suc i) (plain p)) m window in
              cond-true (recognises R.tags r.forward.digest y) _ _ test ∙ (cond-false (not (well_formed Forward y)) _ _ form ∙ cond-false (overruns (command_of y) r.flow) _ _ room)

          delivered-holds : (xs : List (List ℕ)) → GoodForward R 1 c.client.forward (set h.forward i (station (took R s.relay (blank_of q)) (holding s.line xs) qs)) → Holds R (record { closed = c.closed; client = c.client; relays = set c.relays i (relay_took R r (i + 1) y); forward = set c.forward i (holding s.line xs); backward = c.backward }) t.rows
          delivered-holds xs good =
              let v : Station K S = station (took R s.relay (blank_of q)) (holding s.line xs) qs in
              let r' : Relay K S = relay_took R r (i + 1) y in
              let n : length (set c.relays i r') ≡ length c.relays = length-set c.relays i r' in
              let o : Over (set (map own_forward c.relays) i v.relay) (set c.forward i v.line) (set p.forward i qs) (set h.forward i v) = over-set h.forward i h.forward_over v in
              let e : v.relay ≡ own_forward r' = ap (λ (z : List ℕ). took R s.relay z) (sym (zeroed-sealed R L s.relay.digest m)) ∙ ap (λ (z : End K S). took R z (zeroed y)) (sym over) in
              record {
                unclosed = h.unclosed;
                forward = set h.forward i v;
                backward = h.backward;
                forward_over = record { ends = o.ends ∙ (ap (set (map own_forward c.relays) i) e ∙ sym (map-set own_forward c.relays i r')); lines = o.lines; rows = o.rows };
                backward_over = record { ends = h.backward_over.ends ∙ sym (map_set_same own_backward c.relays i r r' relay-at refl); lines = h.backward_over.lines; rows = h.backward_over.rows };
                forward_good = good;
                backward_good = h.backward_good;
                flows = h.flows ∙ sym n;
                windows = λ k l.
                    received-at k i m (pipe Forward (suc k) (plain p)) (pipe Forward (suc k) (plain t.rows)) (pipe Backward (suc k) (plain p)) (pipe Backward (suc k) (plain p)) (flow_at R c.client k) (relay_flow (nth c.relays k)) (relay_flow (nth (set c.relays i r') k)) (h.windows k (omega arith))
                    (λ q. relay-there c.relays i lt r' k q ∙ (ap (λ (z : ℕ). received z r.flow) (command-sealed R L s.relay.digest m) ∙ ap (received m.command) (sym (relay-flow c.relays i lt r k relay-at q)))) (relay-other c.relays i lt r' k) (forward-order (suc k)) refl;
              }

          mark-given : mark_of (relay_receives (i + 1) (command_of y) (stream_of y) r.streams) ≡ mark_given c (carry (suc i)) (i + 1) (message_of y)
          mark-given =
              let z : i + 1 - 1 ≡ i = omega arith in
              let a : nth c.relays (i + 1 - 1) ≡ Some r = ap (nth c.relays) z ∙ relay-at in
              let f : ((message_of y).command ≡ command_of y) × ((message_of y).stream ≡ stream_of y) = message-fields y in
              rw (a, f.0, f.1)

          entry-given : plain_arrival t.arrival ≡ Some (entry (i + 1) (message_of y))
          entry-given =
              let z : q.entry.hop ≡ i + 1 = omega arith in
              ap (λ (u : ℕ). Some (entry u m)) z ∙ ap (λ (u : Message). Some (entry (i + 1) u)) (sym (message-sealed R L s.relay.digest m))

          carry-delivers : CarriesOn (carry_cell R c i r s.line s.line.cells)
          carry-delivers =
              let d : Delivers R (i + 1) 1 c.client.forward h.forward i s q qs = forward-delivers R L i 1 (i + 1) c.client.forward h.forward s q qs h.forward_good station-at row refl (omega arith) in
              let x : List ℕ = d.0 in
              let xs : List (List ℕ) = d.1 in
              let done : CarriesOn (carry_to R c i r s.line xs y (delivers (message_of y) (mark_of (relay_receives (i + 1) (command_of y) (stream_of y) r.streams)))) = (subst (λ (z : Turn Posting). Fine R c (carry (suc i)) z (delivered (i + 1) (message_of y) (mark_of (relay_receives (i + 1) (command_of y) (stream_of y) r.streams))) (record { closed = c.closed; client = c.client; relays = set c.relays i (relay_took R r (i + 1) y); forward = set c.forward i (holding s.line xs); backward = c.backward })) (sym (delivers-turn here)) (delivered-holds xs d.5, entry-given, mark-given), λ _. refl) in
              subst (λ (z : List (List ℕ)). CarriesOn (carry_cell R c i r s.line z)) (sym d.2)
              (subst CarriesOn (sym (carry-step x y xs d.3))
              (unless-worn y xs _ (subst (λ (z : Outcome). CarriesOn (carry_to R c i r s.line xs y z)) (sym (outcome d.4)) done)))

        ---- passed on
        module _ (beyond : q.entry.hop ≡ suc i → ⊥) (x : List ℕ) (xs : List (List ℕ)) (g : Station K S) (next-at : nth h.forward (suc i) ≡ Some g) where
          abbrev z : List ℕ
          z = R.removed s.relay.cipher s.relay.layer x

          abbrev u : Turn Posting
          u = silent (with_forward p (joined (suc i) (peeled_once q) (set p.forward i qs)))

          abbrev next_station : Station K S
          next_station = station g.relay (holding g.line (g.line.cells ++ framed (cell_number (suc (i + 1))) z ∷ [])) (g.row ++ peeled_once q ∷ [])

          abbrev this_station : Station K S
          this_station = station (moved s.relay) (holding s.line xs) qs

          passes_over : Over (map own_forward (set c.relays i (relay_passed R r))) (set (set c.forward (i + 1) (holding g.line (g.line.cells ++ framed (cell_number (i + 2)) z ∷ []))) i (holding s.line xs)) u.rows.forward (set (set h.forward (suc i) next_station) i this_station)
          passes_over =
              let P : List (List Posting) = p.forward in
              let n : i + 2 ≡ suc (i + 1) = omega arith in
              let a : Over (map own_forward c.relays) (set c.forward (suc i) next_station.line) (set P (suc i) next_station.row) (set h.forward (suc i) next_station) = over-same h.forward (suc i) h.forward_over g next-at next_station refl in
              let b : Over (set (map own_forward c.relays) i (moved s.relay)) (set (set c.forward (suc i) next_station.line) i (holding s.line xs)) (set (set P (suc i) next_station.row) i qs) (set (set h.forward (suc i) next_station) i this_station) = over-set (set h.forward (suc i) next_station) i a this_station in
              let e : moved s.relay ≡ own_forward (relay_passed R r) = ap moved (sym over) in
              let k : get_or (set P i qs) (suc i) [] ≡ g.row = get_or-set_other P i (suc i) qs [] (λ w. omega (arith, w)) ∙ over-row h.forward (suc i) h.forward_over g next-at in
              record {
                ends = b.ends ∙ (ap (set (map own_forward c.relays) i) e ∙ sym (map-set own_forward c.relays i (relay_passed R r)));
                lines = b.lines ∙ (ap (λ (w : ℕ). set (set c.forward w next_station.line) i (holding s.line xs)) (sym (add-one i)) ∙ ap (λ (w : ℕ). set (set c.forward (i + 1) (holding g.line (g.line.cells ++ framed (cell_number w) z ∷ []))) i (holding s.line xs)) (sym n));
                rows = b.rows ∙ (sym (set_comm P i (suc i) qs next_station.row (λ w. omega (arith, w))) ∙ ap (λ (w : List Posting). set (set P i qs) (suc i) (w ++ peeled_once q ∷ [])) (sym k));
              }

          passes-holds : GoodForward R 1 c.client.forward (set (set h.forward (suc i) next_station) i this_station) → Holds R (record { closed = c.closed; client = c.client; relays = set c.relays i (relay_passed R r); forward = set (set c.forward (i + 1) (holding g.line (g.line.cells ++ framed (cell_number (i + 2)) z ∷ []))) i (holding s.line xs); backward = c.backward }) u.rows
          passes-holds good =
              let r' : Relay K S = relay_passed R r in
              let n : length (set c.relays i r') ≡ length c.relays = length-set c.relays i r' in
              record {
                unclosed = h.unclosed;
                forward = set (set h.forward (suc i) next_station) i this_station;
                backward = h.backward;
                forward_over = passes_over;
                backward_over = record { ends = h.backward_over.ends ∙ sym (map_set_same own_backward c.relays i r r' relay-at refl); lines = h.backward_over.lines; rows = h.backward_over.rows };
                forward_good = good;
                backward_good = h.backward_good;
                flows = h.flows ∙ sym n;
                windows = λ k l.
                    let o : pipe Forward (suc k) (plain p) ++ [] ≡ pipe Forward (suc k) (plain u.rows) = turn-order R c p h (carry (suc i)) u (passes-turn beyond) refl (omega arith) (omega arith) Forward (suc k) in
                    subst (λ (w : List Message). Both (flow_at R c.client k) (relay_flow (nth (set c.relays i r') k)) w (pipe Backward (suc k) (plain p))) (sym (append-nil (pipe Forward (suc k) (plain p))) ∙ o)
                    (subst (λ (w : Flow). Both (flow_at R c.client k) w (pipe Forward (suc k) (plain p)) (pipe Backward (suc k) (plain p))) (sym (relay-unmoved c.relays i lt r' r k relay-at refl)) (h.windows k (omega arith)));
              }

          passes_on_lem : GoodForward R 1 c.client.forward (set (set h.forward (suc i) next_station) i this_station) → CarriesOn (carry_to R c i r s.line xs z passes_on)
          passes_on_lem good =
              let at : nth c.forward (suc i) ≡ Some g.line = over-line h.forward (suc i) h.forward_over g next-at in
              let c' : Circuit K S = record { closed = c.closed; client = c.client; relays = set c.relays i (relay_passed R r); forward = set (set c.forward (i + 1) (holding g.line (g.line.cells ++ framed (cell_number (i + 2)) z ∷ []))) i (holding s.line xs); backward = c.backward } in
              subst (λ (o : Option Line). CarriesOn (carry_on R c i r s.line xs z o)) (sym (ap (nth c.forward) (add-one i) ∙ at))
              (cond_both (is_full g.line) _ _ CarriesOn
              (λ e. ((refl, omega arith), λ w. absurd (both_ways (is_full g.line) (w.room g.line at) e)))
              (λ _. (subst (λ (w : Turn Posting). Fine R c (carry (suc i)) w accepted c') (sym (passes-turn beyond)) (passes-holds good, refl), λ _. refl)))

        carry-passes : (q.entry.hop ≡ suc i → ⊥) → CarriesOn (carry_cell R c i r s.line s.line.cells)
        carry-passes beyond =
            let d : Passes R (i + 1) 1 c.client.forward h.forward i s q qs = forward-passes R L i 1 (i + 1) c.client.forward h.forward s q qs h.forward_good station-at row refl (λ e. beyond (omega arith)) in
            let x : List ℕ = d.0 in
            let xs : List (List ℕ) = d.1 in
            let y : List ℕ = R.removed s.relay.cipher s.relay.layer x in
            let test : recognises R.tags r.forward.digest y ≡ false = ap (λ (v : End K S). recognises R.tags v.digest y) over ∙ d.4 in
            let more : suc i < length c.relays = omega (arith, nth-within h.forward (suc i) d.2 d.5, forward-stations R c p h) in
            let last : eqb (i + 1) (length c.relays) ≡ false = ne_eqb (i + 1) (length c.relays) (λ e. omega (arith, e)) in
            let outcome : cond (recognises R.tags r.forward.digest y) (relay_delivery R r (i + 1) y) (cond (eqb (i + 1) (length c.relays)) (stops (refusal 13 (i + 1))) passes_on) ≡ passes_on = cond-false (recognises R.tags r.forward.digest y) _ _ test ∙ cond-false (eqb (i + 1) (length c.relays)) _ _ last in
            subst (λ (z : List (List ℕ)). CarriesOn (carry_cell R c i r s.line z)) (sym d.3)
            (subst CarriesOn (sym (carry-step x y xs refl))
            (unless-worn y xs _ (subst (λ (z : Outcome). CarriesOn (carry_to R c i r s.line xs y z)) (sym outcome) (passes_on_lem beyond x xs d.2 d.5 d.6))))

      carry-there : (row : List Posting) → s.row ≡ row → CarriesOn (carry_cell R c i r s.line s.line.cells)
      carry-there [] e =
          let n : length s.line.cells ≡ 0 = (forward-cells R i 1 c.client.forward h.forward s h.forward_good station-at).0 ∙ ap length e in
          subst (λ (z : List (List ℕ)). CarriesOn (carry_cell R c i r s.line z)) (sym (empty-list s.line.cells n)) ((refl, omega arith), λ w. absurd (w.waits (row_at ∙ e)))
      carry-there (q ∷ qs) e = ⊎_elim (carry-delivers q qs e) (carry-passes q qs e) (cases_eq q.entry.hop (suc i))

    pub carry-fine : CarriesOn (carry_at R c i (nth c.relays i) (nth c.forward i))
    carry-fine =
        let s : (s : Station K S) × (nth h.forward i ≡ Some s) = forward-at R c p h i lt in
        let r : (r : Relay K S) × (nth c.relays i ≡ Some r) × (own_forward r ≡ s.0.relay) = nth-over relay_at own_forward h.forward c.relays i s.0 h.forward_over.ends s.1 in
        subst (λ (o : Option (Relay K S)). CarriesOn (carry_at R c i o (nth c.forward i))) (sym r.1)
        (subst (λ (o : Option Line). CarriesOn (carry_at R c i (Some r.0) o)) (sym (over-line h.forward i h.forward_over s.0 s.1))
        (carry-there s.0 s.1 r.0 r.1 r.2 s.0.row refl))
