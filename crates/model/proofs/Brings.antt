-- A relay takes the oldest cell of the next relay's backward link, adds its layer and passes it on.
use Rattle.std.proofs.Common.{◌≡◌, ℕ, suc, ◌+◌, ◌-◌, ◌<◌, true, false, eqb, leb, List, [], ◌∷◌, ◌++◌, map, length, get_or, set, Some, Option, sym, refl, ap, ◌∙◌, subst, append-nil, add-one, arith, get_or-set_other}
use lib.Seq.{set_comm}
use Rattle.std.proofs.lemmas.List.{length-set, map-set}
use Rattle.std.proofs.lemmas.Bool.{cond_both, cond-true, cond-false, ne_eqb, both_ways}
use Rattle.cell.specs.Payload.{Message}
use Rattle.cell.specs.Frame.{cell_number, framed, payload_of}
use Rattle.cell.specs.declared.command.Way.TheVariants.{Forward, Backward}
use Rattle.cell.proofs.Frames.{payload-framed}
use Rattle.model.specs.Lists.{nth}
use Rattle.model.specs.Ends.{Rules, End, layer_limit, moved}
use Rattle.model.specs.Flows.{Flow}
use Rattle.model.specs.Circuit.{Line, is_full, holding, Relay, Circuit, bring, Answer, accepted}
use Rattle.model.specs.Calls.{headed, flow_at, relay_adds, relay_added, bring_cell, bring_at}
use Rattle.model.specs.PlainMachine.{Rows, Turn, joined, with_backward, silent, brought, turn, pipe}
use Rattle.model.specs.Runs.{Posting, is_accepted, relay_flow, layer_of, own_forward, own_backward, relayed, journal}
use Rattle.model.proofs.Sealing.{headed-framed}
use Rattle.model.proofs.Places.{empty-list, nth-over, nth-set-other, map_set_same}
use Rattle.model.proofs.Stations.{Station, station, relay_at, Over, over-set, over-line, over-row, over-same}
use Rattle.model.proofs.Backward.{GoodBackward, added_once, adding, Adds, backward-adds, backward-cells}
use Rattle.model.proofs.Rows.{plain}
use Rattle.model.proofs.Windows.{Both}
use Rattle.model.proofs.Orders.{sub-one, sub-two}
use Rattle.model.proofs.Holding.{relay-unmoved, Holds, Fine, FineBoth, backward-at, turn-order}

-- a cell waits on the link beyond relay i, the relay's layer is not spent, and its own link has room
pub record Goes {K S : Type 0} (c : Circuit K S) (p : Rows Posting) (i : ℕ) : Type 0 where
  pub waits : get_or p.backward (suc i) [] ≡ [] → ⊥
  pub fresh : (r : Relay K S) → nth c.relays i ≡ Some r → leb layer_limit r.backward.layer ≡ false
  pub room : (g : Line) → nth c.backward i ≡ Some g → is_full g ≡ false

module _ {K S : Type 0} (R : Rules K S) where
  module _ (c : Circuit K S) (p : Rows Posting) (h : Holds R c p) (i : ℕ) (lt : suc i < length c.relays) where
    abbrev brings : Turn Posting
    brings = turn (journal R c) p (bring (suc (suc i)))

    -- a bring follows the journal's turn, and is accepted where it goes
    abbrev BringsOn : Answer × Circuit K S → Type 0
    BringsOn y = FineBoth R c (bring (suc (suc i))) brings y × (Goes c p i → is_accepted y.0 ≡ true)

    -- s is the station of the relay, t that of the next one
    module _ (s : Station K S) (station-at : nth h.backward i ≡ Some s) (r : Relay K S) (relay-at : nth c.relays i ≡ Some r) (over : own_backward r ≡ s.relay) (t : Station K S) (next-at : nth h.backward (suc i) ≡ Some t) where
      row_at : get_or p.backward (suc i) [] ≡ t.row
      row_at = over-row h.backward (suc i) h.backward_over t next-at

      room_at : nth c.backward i ≡ Some s.line
      room_at = over-line h.backward i h.backward_over s station-at

      module _ (q : Posting) (qs : List Posting) (row : t.row ≡ q ∷ qs) where
        abbrev u : Turn Posting
        u = silent (with_backward p (joined i (added_once s.relay.layer q) (set p.backward (suc i) qs)))

        brings-turn : brings ≡ u
        brings-turn =
            let n : suc (suc i) - 1 ≡ suc i = sub-one (suc i) in
            let k : suc (suc i) - 1 - 1 ≡ i = omega arith in
            let w : layer_of (nth c.relays (suc (suc i) - 1 - 1)) ≡ s.relay.layer = ap (λ (z : ℕ). layer_of (nth c.relays z)) k ∙ (ap layer_of relay-at ∙ ap (λ (e : End K S). e.layer) over) in
            ap (λ (z : ℕ). brought (journal R c) p (suc (suc i)) (get_or p.backward z [])) n ∙ (ap (brought (journal R c) p (suc (suc i))) (row_at ∙ row)
            ∙ (cond-false (eqb (suc (suc i)) 1) _ _ (ne_eqb (suc (suc i)) 1 (λ e. omega (arith, e)))
            ∙ (ap (λ (z : ℕ). silent (with_backward p (joined z (relayed R c Backward (suc (suc i) - 1) q) (set p.backward (suc (suc i) - 1) qs)))) (sub-two i)
            ∙ (ap (λ (z : ℕ). silent (with_backward p (joined i (relayed R c Backward (suc (suc i) - 1) q) (set p.backward z qs)))) n
            ∙ ap (λ (z : ℕ). silent (with_backward p (joined i (added_once z q) (set p.backward (suc i) qs)))) w))))

        module _ (x : List ℕ) (xs : List (List ℕ)) where
          abbrev this_station : Station K S
          this_station = adding R (i + 1) s x q

          abbrev next_station : Station K S
          next_station = station t.relay (holding t.line xs) qs

          abbrev after : Circuit K S
          after =
              record { closed = c.closed; client = c.client; relays = set c.relays i (relay_added R r); forward = c.forward; backward = set (set c.backward i (holding s.line (s.line.cells ++ framed (cell_number (i + 1)) (relay_adds R r x) ∷ []))) (i + 1) (holding t.line xs) }

          brings-over : Over (map own_backward (set c.relays i (relay_added R r))) after.backward u.rows.backward (set (set h.backward i this_station) (suc i) next_station)
          brings-over =
              let P : List (List Posting) = p.backward in
              let a : Over (set (map own_backward c.relays) i (moved s.relay)) (set c.backward i this_station.line) (set P i this_station.row) (set h.backward i this_station) = over-set h.backward i h.backward_over this_station in
              let at : nth (set h.backward i this_station) (suc i) ≡ Some t = nth-set-other h.backward i (suc i) this_station (λ w. omega (arith, w)) ∙ next-at in
              let b : Over (set (map own_backward c.relays) i (moved s.relay)) (set (set c.backward i this_station.line) (suc i) (holding t.line xs)) (set (set P i this_station.row) (suc i) qs) (set (set h.backward i this_station) (suc i) next_station) = over-same (set h.backward i this_station) (suc i) a t at next_station refl in
              let e : moved s.relay ≡ own_backward (relay_added R r) = ap moved (sym over) in
              let k : get_or (set P (suc i) qs) i [] ≡ s.row = get_or-set_other P (suc i) i qs [] (λ w. omega (arith, w)) ∙ over-row h.backward i h.backward_over s station-at in
              record {
                ends = b.ends ∙ (ap (set (map own_backward c.relays) i) e ∙ sym (map-set own_backward c.relays i (relay_added R r)));
                lines = b.lines ∙ (ap (λ (w : ℕ). set (set c.backward i this_station.line) w (holding t.line xs)) (sym (add-one i)) ∙ ap (λ (w : End K S). set (set c.backward i (holding s.line (s.line.cells ++ framed (cell_number (i + 1)) (R.added w.cipher w.layer x) ∷ []))) (i + 1) (holding t.line xs)) (sym over));
                rows = b.rows ∙ (set_comm P i (suc i) this_station.row qs (λ w. omega (arith, w)) ∙ ap (λ (w : List Posting). set (set P (suc i) qs) i (w ++ added_once s.relay.layer q ∷ [])) (sym k));
              }

          brings-holds : GoodBackward R 1 c.client.backward (set (set h.backward i this_station) (suc i) next_station) → Holds R after u.rows
          brings-holds good =
              let r' : Relay K S = relay_added R r in
              let n : length (set c.relays i r') ≡ length c.relays = length-set c.relays i r' in
              record {
                unclosed = h.unclosed;
                forward = h.forward;
                backward = set (set h.backward i this_station) (suc i) next_station;
                forward_over = record { ends = h.forward_over.ends ∙ sym (map_set_same own_forward c.relays i r r' relay-at refl); lines = h.forward_over.lines; rows = h.forward_over.rows };
                backward_over = brings-over;
                forward_good = h.forward_good;
                backward_good = good;
                flows = h.flows ∙ sym n;
                windows = λ k l.
                    let o : pipe Backward (suc k) (plain p) ++ [] ≡ pipe Backward (suc k) (plain u.rows) = turn-order R c p h (bring (suc (suc i))) u brings-turn refl (omega arith) (omega arith) Backward (suc k) in
                    subst (λ (w : List Message). Both (flow_at R c.client k) (relay_flow (nth (set c.relays i r') k)) (pipe Forward (suc k) (plain p)) w) (sym (append-nil (pipe Backward (suc k) (plain p))) ∙ o)
                    (subst (λ (w : Flow). Both (flow_at R c.client k) w (pipe Forward (suc k) (plain p)) (pipe Backward (suc k) (plain p))) (sym (relay-unmoved c.relays i (omega arith) r' r k relay-at refl)) (h.windows k (omega arith)));
              }

          -- the cell on the link, with its header
          bring-cell : GoodBackward R 1 c.client.backward (set (set h.backward i this_station) (suc i) next_station) → BringsOn (bring_cell R c i r t.line s.line (framed (cell_number (i + 2)) x ∷ xs))
          bring-cell good =
              let X : List ℕ = framed (cell_number (i + 2)) x in
              let w : payload_of X ≡ x = payload-framed (cell_number (i + 2)) x in
              let done : BringsOn (accepted, after) = (subst (λ (v : Turn Posting). Fine R c (bring (suc (suc i))) v accepted after) (sym brings-turn) (brings-holds good, refl), λ _. refl) in
              let moved_on : BringsOn (accepted, record { closed = c.closed; client = c.client; relays = set c.relays i (relay_added R r); forward = c.forward; backward = set (set c.backward i (holding s.line (s.line.cells ++ framed (cell_number (i + 1)) (relay_adds R r (payload_of X)) ∷ []))) (i + 1) (holding t.line xs) }) = subst (λ (v : List ℕ). BringsOn (accepted, record { closed = c.closed; client = c.client; relays = set c.relays i (relay_added R r); forward = c.forward; backward = set (set c.backward i (holding s.line (s.line.cells ++ framed (cell_number (i + 1)) (relay_adds R r v) ∷ []))) (i + 1) (holding t.line xs) })) (sym w) done in
              subst BringsOn (sym (cond-true (headed (i + 2) X) _ _ (headed-framed (i + 2) x)))
              (cond_both (leb layer_limit r.backward.layer) _ _ BringsOn
              (λ e. ((refl, omega arith), λ g. absurd (both_ways (leb layer_limit r.backward.layer) (g.fresh r relay-at) e)))
              (λ _. cond_both (is_full s.line) _ _ BringsOn (λ e. ((refl, omega arith), λ g. absurd (both_ways (is_full s.line) (g.room s.line room_at) e))) (λ _. moved_on)))

        bring-passes : BringsOn (bring_cell R c i r t.line s.line t.line.cells)
        bring-passes =
            let d : Adds R (i + 1) 1 c.client.backward h.backward i s t q qs = backward-adds R i 1 (i + 1) c.client.backward h.backward s t q qs h.backward_good station-at next-at row refl in
            let n : suc (i + 1) ≡ i + 2 = omega arith in
            let e : t.line.cells ≡ framed (cell_number (i + 2)) d.0 ∷ d.1 = d.2 ∙ ap (λ (z : ℕ). framed (cell_number z) d.0 ∷ d.1) n in
            subst (λ (z : List (List ℕ)). BringsOn (bring_cell R c i r t.line s.line z)) (sym e) (bring-cell d.0 d.1 d.3)

      bring-there : (row : List Posting) → t.row ≡ row → BringsOn (bring_cell R c i r t.line s.line t.line.cells)
      bring-there [] e =
          let n : length t.line.cells ≡ 0 = (backward-cells R (suc i) 1 c.client.backward h.backward t h.backward_good next-at).0 ∙ ap length e in
          subst (λ (z : List (List ℕ)). BringsOn (bring_cell R c i r t.line s.line z)) (sym (empty-list t.line.cells n)) ((refl, omega arith), λ w. absurd (w.waits (row_at ∙ e)))
      bring-there (q ∷ qs) e = bring-passes q qs e

    pub bring-fine : BringsOn (bring_at R c i (nth c.relays i) (nth c.backward (suc i)) (nth c.backward i))
    bring-fine =
        let s : (s : Station K S) × (nth h.backward i ≡ Some s) = backward-at R c p h i (omega arith) in
        let t : (s : Station K S) × (nth h.backward (suc i) ≡ Some s) = backward-at R c p h (suc i) lt in
        let r : (r : Relay K S) × (nth c.relays i ≡ Some r) × (own_backward r ≡ s.0.relay) = nth-over relay_at own_backward h.backward c.relays i s.0 h.backward_over.ends s.1 in
        subst (λ (o : Option (Relay K S)). BringsOn (bring_at R c i o (nth c.backward (suc i)) (nth c.backward i))) (sym r.1)
        (subst (λ (o : Option Line). BringsOn (bring_at R c i (Some r.0) o (nth c.backward i))) (sym (over-line h.backward (suc i) h.backward_over t.0 t.1))
        (subst (λ (o : Option Line). BringsOn (bring_at R c i (Some r.0) (Some t.0.line) o)) (sym (over-line h.backward i h.backward_over s.0 s.1))
        (bring-there s.0 s.1 r.0 r.1 r.2 t.0 t.1 t.0.row refl)))
