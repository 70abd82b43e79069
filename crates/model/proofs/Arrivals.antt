-- The client takes the oldest cell of backward link 1.
use Rattle.std.proofs.Common.{◌≡◌, ℕ, suc, ◌+◌, ◌-◌, ◌<◌, ◌≤◌, true, false, not, List, [], ◌∷◌, ◌++◌, map, length, get_or, set, Some, None, Option, sym, refl, ap, ◌∙◌, subst, append-nil, arith, get_or-set_other, get_or-set_same}
use Rattle.std.proofs.lemmas.List.{length-set}
use Rattle.std.proofs.lemmas.Bool.{cond-true, cond-false, eq-eqb, not_from_true}
use Rattle.cell.specs.Payload.{Message, command_of, stream_of, message_of}
use Rattle.cell.specs.Frame.{cell_number, framed, payload_of}
use Rattle.cell.specs.declared.command.Way.TheVariants.{Forward, Backward}
use Rattle.cell.proofs.Frames.{payload-framed}
use Rattle.model.specs.Lists.{nth}
use Rattle.model.specs.Messages.{well_formed}
use Rattle.model.specs.Ends.{Rules, End, worn_at, sealed, wrapped, advanced, recognised_at, unwrapped}
use Rattle.model.specs.Streams.{client_receives, mark_of}
use Rattle.model.specs.Flows.{Flow, no_flow, received, overruns}
use Rattle.model.specs.Circuit.{Line, holding, Circuit, bring, Answer, delivered}
use Rattle.model.specs.Calls.{headed, flow_at, Outcome, delivers, client_delivery, client_found, client_worn, client_outcome, client_took, arrived_at, arrive_cell, arrive}
use Rattle.model.specs.PlainMachine.{entry, Rows, Turn, with_backward, delivering, brought, turn, pipe}
use Rattle.model.specs.Runs.{Posting, is_accepted, relay_flow, own_backward, mark_given, journal, earlier}
use Rattle.model.proofs.Laws.{Laws}
use Rattle.model.proofs.Sealing.{fits, headed-framed, message-fields, zeroed-sealed, message-sealed, command-sealed, well-formed-sealed}
use Rattle.model.proofs.Threads.{blank_of}
use Rattle.model.proofs.Stations.{Station, station, Over, over-line, over-row, over-same}
use Rattle.model.proofs.Backward.{GoodBackward, Arrives, backward-arrives, backward-cells, recognised-at, unwrapped-wrapped}
use Rattle.model.proofs.Rows.{plain, plain_arrival}
use Rattle.model.proofs.Pipes.{only}
use Rattle.model.proofs.Windows.{Both, never-overrun, received-at}
use Rattle.model.proofs.Places.{empty-list}
use Rattle.model.proofs.Holding.{Holds, Fine, FineBoth, backward-ends, backward-stations, turn-order}

-- the oldest cell is taken for no hop before its own; cs are the client's ends
abbrev pub NoneEarlier : {K S : Type 0} → Rules K S → List (End K S) → List (List ℕ) → List Posting → Type 0
NoneEarlier R cs [] r = Unit {0}
NoneEarlier R cs (x ∷ xs) [] = Unit {0}
NoneEarlier R cs (x ∷ xs) (q ∷ qs) = earlier R cs (q.entry.hop - 1) (payload_of x) ≡ false

-- a cell waits on link 1, and no layer of the client is spent
pub record Comes {K S : Type 0} (c : Circuit K S) (p : Rows Posting) : Type 0 where
  pub waits : get_or p.backward 0 [] ≡ [] → ⊥
  pub fresh : worn_at c.client.backward ≡ None

module _ {K S : Type 0} (R : Rules K S) (L : Laws R) where
  module _ (c : Circuit K S) (p : Rows Posting) (h : Holds R c p) (some : 0 < length c.relays) where
    abbrev brings : Turn Posting
    brings = turn (journal R c) p (bring 1)

    -- a bring to the client follows the journal's turn, and is accepted where a cell comes
    abbrev ArrivesOn : Answer × Circuit K S → Type 0
    ArrivesOn y = FineBoth R c (bring 1) brings y × (Comes c p → is_accepted y.0 ≡ true)

    abbrev cs : List (End K S)
    cs = c.client.backward

    module _ (s : Station K S) (station-at : nth h.backward 0 ≡ Some s) where
      row_at : get_or p.backward 0 [] ≡ s.row
      row_at = over-row h.backward 0 h.backward_over s station-at

      module _ (q : Posting) (qs : List Posting) (row : s.row ≡ q ∷ qs) (d : ℕ) (hop : q.entry.hop ≡ suc d) where
        abbrev m : Message
        m = q.entry.message

        abbrev t : Turn Posting
        t = delivering q (with_backward p (set p.backward 0 qs))

        brings-turn : brings ≡ t
        brings-turn = ap (brought (journal R c) p 1) (row_at ∙ row)

        backward-order : (k : ℕ) → pipe Backward k (plain p) ≡ only k (suc d) m ++ pipe Backward k (plain t.rows)
        backward-order k =
            let o : pipe Backward k (plain p) ++ [] ≡ only k q.entry.hop m ++ pipe Backward k (plain t.rows) = turn-order R c p h (bring 1) t brings-turn refl (omega arith) (omega arith) Backward k in
            sym (append-nil (pipe Backward k (plain p))) ∙ (o ∙ ap (λ (z : ℕ). only k z m ++ pipe Backward k (plain t.rows)) hop)

        module _ (lt : d < length cs) (fit : fits Backward m ≡ true) (key : S) where
          abbrev y : List ℕ
          y = sealed R key (blank_of q)

          d-lt : d < length c.relays
          d-lt = omega (arith, lt, backward-ends R c p h)

          window : Both (relay_flow (nth c.relays d)) (flow_at R c.client d) (m ∷ pipe Backward (suc d) (plain t.rows)) (pipe Forward (suc d) (plain p))
          window =
              let e : pipe Backward (suc d) (plain p) ≡ m ∷ pipe Backward (suc d) (plain t.rows) = backward-order (suc d) ∙ rw (eq-eqb (suc d) (suc d) refl) in
              let b : Both (flow_at R c.client d) (relay_flow (nth c.relays d)) (pipe Forward (suc d) (plain p)) (pipe Backward (suc d) (plain p)) = h.windows d d-lt in
              subst (λ (z : List Message). Both (relay_flow (nth c.relays d)) (flow_at R c.client d) z (pipe Forward (suc d) (plain p))) e (b.1, b.0)

          abbrev mark : ℕ
          mark = mark_of (client_receives (d + 1) (command_of y) (stream_of y) c.client.streams)

          delivery : client_delivery R c.client d y ≡ delivers (message_of y) mark
          delivery =
              let form : not (well_formed Backward y) ≡ false = not_from_true _ (well-formed-sealed R L key m Backward fit) in
              let room : overruns (command_of y) (flow_at R c.client d) ≡ false = ap (λ (z : ℕ). overruns z (flow_at R c.client d)) (command-sealed R L key m) ∙ never-overrun (relay_flow (nth c.relays d)) (flow_at R c.client d) (pipe Backward (suc d) (plain t.rows)) (pipe Forward (suc d) (plain p)) m window in
              cond-false (not (well_formed Backward y)) _ _ form ∙ cond-false (overruns (command_of y) (flow_at R c.client d)) _ _ room

          module _ (xs : List (List ℕ)) where
            abbrev after : Circuit K S
            after =
                record { closed = c.closed; client = client_took R c.client d y; relays = c.relays; forward = c.forward; backward = set c.backward 0 (holding s.line xs) }

            arrives-holds : (ss : List (Station K S)) → Over (map own_backward c.relays) after.backward t.rows.backward ss → GoodBackward R 1 (advanced R cs d (blank_of q)) ss → Holds R after t.rows
            arrives-holds ss o good =
                let f : Flow = received (command_of y) (flow_at R c.client d) in
                record {
                  unclosed = h.unclosed;
                  forward = h.forward;
                  backward = ss;
                  forward_over = h.forward_over;
                  backward_over = o;
                  forward_good = h.forward_good;
                  backward_good = subst (λ (z : List ℕ). GoodBackward R 1 (advanced R cs d z) ss) (sym (zeroed-sealed R L key m)) good;
                  flows = length-set c.client.flows d f ∙ h.flows;
                  windows = λ k l.
                      let b : Both (flow_at R c.client k) (relay_flow (nth c.relays k)) (pipe Forward (suc k) (plain p)) (pipe Backward (suc k) (plain p)) = h.windows k l in
                      let u : Both (relay_flow (nth c.relays k)) (get_or (set c.client.flows d f) k no_flow) (pipe Backward (suc k) (plain t.rows)) (pipe Forward (suc k) (plain p)) =
                      received-at k d m (pipe Backward (suc k) (plain p)) (pipe Backward (suc k) (plain t.rows)) (pipe Forward (suc k) (plain p)) (pipe Forward (suc k) (plain p)) (relay_flow (nth c.relays k)) (flow_at R c.client k) (get_or (set c.client.flows d f) k no_flow) (b.1, b.0)
                      (λ e. rw e (get_or-set_same c.client.flows d f no_flow (omega (arith, h.flows, d-lt)) ∙ ap (λ (z : ℕ). received z (flow_at R c.client d)) (command-sealed R L key m))) (λ n. get_or-set_other c.client.flows d k f no_flow n) (backward-order (suc k)) refl in
                      (u.1, u.0);
                }

            entry-given : plain_arrival t.arrival ≡ Some (entry (d + 1) (message_of y))
            entry-given =
                let z : q.entry.hop ≡ d + 1 = omega arith in
                ap (λ (u : ℕ). Some (entry u m)) z ∙ ap (λ (u : Message). Some (entry (d + 1) u)) (sym (message-sealed R L key m))

            mark-given : mark ≡ mark_given c (bring 1) (d + 1) (message_of y)
            mark-given =
                let f : ((message_of y).command ≡ command_of y) × ((message_of y).stream ≡ stream_of y) = message-fields y in
                rw (f.0, f.1)

            -- the payload x, found at place d, gives y
            module _ (x : List ℕ) (found : recognised_at R cs x ≡ Some d) (opened : unwrapped R (suc d) cs x ≡ y) (ss : List (Station K S)) (o : Over (map own_backward c.relays) after.backward t.rows.backward ss) (good : GoodBackward R 1 (advanced R cs d (blank_of q)) ss) where
              arrived : ArrivesOn (arrived_at R c s.line xs x (delivers (message_of y) mark) (Some d))
              arrived =
                  let done : Fine R c (bring 1) t (delivered (d + 1) (message_of y) mark) after = (arrives-holds ss o good, entry-given, mark-given) in (
                    subst (λ (z : Turn Posting). Fine R c (bring 1) z (delivered (d + 1) (message_of y) mark) (record { closed = c.closed; client = client_took R c.client d (unwrapped R (suc d) cs x); relays = c.relays; forward = c.forward; backward = set c.backward 0 (holding s.line xs) })) (sym brings-turn)
                        (subst (λ (z : List ℕ). Fine R c (bring 1) t (delivered (d + 1) (message_of y) mark) (record { closed = c.closed; client = client_took R c.client d z; relays = c.relays; forward = c.forward; backward = set c.backward 0 (holding s.line xs) })) (sym opened) done),
                    λ _. refl,
                  )

              unless-worn : (w : Option ℕ) → worn_at cs ≡ w → ArrivesOn (arrived_at R c s.line xs x (client_worn R c.client x w) (Some d))
              unless-worn (Some k) e = ((refl, omega arith), λ g. let z : ◌≡◌ {A = ℕ} 0 1 = cc g.fresh in absurd (omega arith))
              unless-worn None e =
                  subst (λ (z : Option ℕ). ArrivesOn (arrived_at R c s.line xs x (client_found R c.client x z) (Some d))) (sym found)
                  (subst (λ (z : Outcome). ArrivesOn (arrived_at R c s.line xs x z (Some d))) (sym (ap (client_delivery R c.client d) opened ∙ delivery)) arrived)

              arrive-cell : ArrivesOn (arrive_cell R c s.line (framed (cell_number 1) x ∷ xs))
              arrive-cell =
                  let X : List ℕ = framed (cell_number 1) x in
                  subst ArrivesOn (sym (cond-true (headed 1 X) _ _ (headed-framed 1 x)))
                  (subst (λ (z : List ℕ). ArrivesOn (arrived_at R c s.line xs z (client_outcome R c.client z) (recognised_at R cs z))) (sym (payload-framed (cell_number 1) x))
                  (subst (λ (z : Option ℕ). ArrivesOn (arrived_at R c s.line xs x (client_outcome R c.client x) z)) (sym found) (unless-worn (worn_at cs) refl)))

      -- the first station, with its row named
      arrive-first : (ss : List (Station K S)) → h.backward ≡ s ∷ ss → NoneEarlier R c.client.backward s.line.cells s.row → (row : List Posting) → s.row ≡ row → ArrivesOn (arrive_cell R c s.line s.line.cells)
      arrive-first ss hs calm [] e =
          let n : length s.line.cells ≡ 0 = (backward-cells R 0 1 cs h.backward s h.backward_good station-at).0 ∙ ap length e in
          subst (λ (z : List (List ℕ)). ArrivesOn (arrive_cell R c s.line z)) (sym (empty-list s.line.cells n)) ((refl, omega arith), λ w. absurd (w.waits (row_at ∙ e)))
      arrive-first ss hs calm (q ∷ qs) e =
          let g : GoodBackward R 1 cs (s ∷ ss) = subst (GoodBackward R 1 cs) hs h.backward_good in
          let a : (1 ≤ q.entry.hop) × Arrives R cs s ss q qs (q.entry.hop - 1) = backward-arrives R cs s ss q qs g e in
          let d : ℕ = q.entry.hop - 1 in
          let b : Arrives R cs s ss q qs d = a.1 in
          let x : List ℕ = wrapped R cs d (blank_of q) in
          let xs : List (List ℕ) = b.0 in
          let hop : q.entry.hop ≡ suc d = omega (arith, a.0) in
          let quiet : earlier R cs d x ≡ false = ap (earlier R cs d) (sym (payload-framed (cell_number 1) x)) ∙ subst (λ (z : List Posting). NoneEarlier R cs (framed (cell_number 1) x ∷ xs) z) e (subst (λ (z : List (List ℕ)). NoneEarlier R cs z s.row) b.1 calm) in
          let found : recognised_at R cs x ≡ Some d = recognised-at R L cs d q.entry.message b.2 b.3 quiet in
          let k : (key : S) × (unwrapped R (suc d) cs x ≡ sealed R key (blank_of q)) = unwrapped-wrapped R L cs d q.entry.message b.2 b.3 in
          let v : Station K S = station s.relay (holding s.line xs) qs in
          let o : Over (map own_backward c.relays) (set c.backward 0 (holding s.line xs)) (set p.backward 0 qs) (set h.backward 0 v) = over-same h.backward 0 h.backward_over s station-at v refl in
          let o' : Over (map own_backward c.relays) (set c.backward 0 (holding s.line xs)) (set p.backward 0 qs) (v ∷ ss) = subst (λ (z : List (Station K S)). Over (map own_backward c.relays) (set c.backward 0 (holding s.line xs)) (set p.backward 0 qs) (set z 0 v)) hs o in
          subst (λ (z : List (List ℕ)). ArrivesOn (arrive_cell R c s.line z)) (sym b.1)
          (arrive-cell q qs e d hop b.3 b.2 k.0 xs x found k.1 (v ∷ ss) o' b.4)

    pub arrive-fine : ((s : Station K S) → nth h.backward 0 ≡ Some s → NoneEarlier R c.client.backward s.line.cells s.row) → ArrivesOn (arrive R c (nth c.backward 0))
    arrive-fine calm = go h.backward refl
      where
        go : (ss : List (Station K S)) → h.backward ≡ ss → ArrivesOn (arrive R c (nth c.backward 0))
        go [] e = absurd (omega (arith, ap length e, backward-stations R c p h))
        go (s ∷ ss) e =
            let at : nth h.backward 0 ≡ Some s = ap (λ (z : List (Station K S)). nth z 0) e in
            subst (λ (o : Option Line). ArrivesOn (arrive R c o)) (sym (over-line h.backward 0 h.backward_over s at)) (arrive-first s at ss e (calm s at) s.row refl)
