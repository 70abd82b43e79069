-- The invariant of a run: the stations of both ways, and the windows.
use Rattle.std.proofs.Common.{◌≡◌, ℕ, suc, ◌+◌, ◌-◌, ◌<◌, ◌≤◌, false, List, [], ◌∷◌, ◌++◌, map, length, set, Some, None, sym, ap, ◌∙◌, subst, ⊎_elim, arith}
use Rattle.std.proofs.lemmas.List.{length-map}
use Rattle.std.proofs.lemmas.Bool.{cases_eq}
use Rattle.cell.specs.declared.command.Way.{Way}
use Rattle.cell.specs.declared.command.Way.TheVariants.{Forward, Backward}
use Rattle.model.specs.Lists.{nth}
use Rattle.model.specs.Ends.{Rules, End, advanced}
use Rattle.model.specs.Circuit.{Relay, Circuit, Call, Answer, refused, accepted, delivered}
use Rattle.model.specs.Calls.{flow_at, asks_for}
use Rattle.model.specs.PlainMachine.{entry, Rows, entries, Turn, turn, pipe}
use Rattle.model.specs.Runs.{Posting, is_destroy, relay_flow, own_forward, own_backward, mark_given, sends_for, journal}
use Rattle.model.specs.Law.{NeverComes}
use Rattle.model.proofs.Places.{nth-some, nth-set-same, nth-set-other}
use Rattle.model.proofs.Threads.{blank_of, Sound, length-thread, length-advanced}
use Rattle.model.proofs.Stations.{Station, relay_at, row_at, Over}
use Rattle.model.proofs.Forward.{GoodForward, forward-length}
use Rattle.model.proofs.Backward.{GoodBackward, backward-length}
use Rattle.model.proofs.Rows.{entry_of, plain, plain_arrival, turn-entries}
use Rattle.model.proofs.Pipes.{Within, AllWithin}
use Rattle.model.proofs.Windows.{Both}
use Rattle.model.proofs.Orders.{arrives_by, order}

---- the flow of a relay that changed
module _ {K S : Type 0} (rs : List (Relay K S)) (d : ℕ) (lt : d < length rs) where
  pub relay-there : (v : Relay K S) (k : ℕ) → k ≡ d → relay_flow (nth (set rs d v) k) ≡ v.flow
  relay-there v k e = rw e (ap relay_flow (nth-set-same rs d v lt))

  pub relay-other : (v : Relay K S) (k : ℕ) → (k ≡ d → ⊥) → relay_flow (nth (set rs d v) k) ≡ relay_flow (nth rs k)
  relay-other v k n = ap relay_flow (nth-set-other rs d k v n)

  pub relay-flow : (r : Relay K S) (k : ℕ) → nth rs d ≡ Some r → k ≡ d → relay_flow (nth rs k) ≡ r.flow
  relay-flow r k at e = rw e (ap relay_flow at)

  pub relay-unmoved : (v r : Relay K S) (k : ℕ) → nth rs d ≡ Some r → v.flow ≡ r.flow → relay_flow (nth (set rs d v) k) ≡ relay_flow (nth rs k)
  relay-unmoved v r k at q = ⊎_elim (λ e. relay-there v k e ∙ (q ∙ sym (relay-flow r k at e))) (relay-other v k) (cases_eq k d)

module _ {K S : Type 0} (R : Rules K S) where
  pub record Holds (c : Circuit K S) (p : Rows Posting) : Type 0 where
    pub unclosed : c.closed ≡ false
    pub forward : List (Station K S)
    pub backward : List (Station K S)
    pub forward_over : Over (map own_forward c.relays) c.forward p.forward forward
    pub backward_over : Over (map own_backward c.relays) c.backward p.backward backward
    pub forward_good : GoodForward R 1 c.client.forward forward
    pub backward_good : GoodBackward R 1 c.client.backward backward
    pub flows : length c.client.flows ≡ length c.relays
    pub windows : (d : ℕ) → d < length c.relays → Both (flow_at R c.client d) (relay_flow (nth c.relays d)) (pipe Forward (suc d) (plain p)) (pipe Backward (suc d) (plain p))

  -- an answer follows the turn t of the journal
  abbrev pub Fine : Circuit K S → Call → Turn Posting → Answer → Circuit K S → Type 0
  Fine c x t (refused f) c' = (c' ≡ c) × NeverComes R (Some f)
  Fine c x t accepted c' = Holds c' t.rows × (t.arrival ≡ None)
  Fine c x t (delivered k m mark) c' = Holds c' t.rows × (plain_arrival t.arrival ≡ Some (entry k m)) × (mark ≡ mark_given c x k m)

  abbrev pub FineBoth : Circuit K S → Call → Turn Posting → Answer × Circuit K S → Type 0
  FineBoth c x t y = Fine c x t y.0 y.1

  ---- rows are in range
  within-row : (w : Way) (n j : ℕ) (es : List (End K S)) (ps : List Posting) → Sound R w j es ps → length es + j ≡ suc n → Within n j (map entry_of ps)
  within-row w n j es [] s e = tt
  within-row w n j es (p ∷ ps) s e =
      (s.1, omega (arith, s.2, s.1), within-row w n j (advanced R es (p.entry.hop - j) (blank_of p)) ps s.5 (omega (arith, length-advanced R es (p.entry.hop - j) (blank_of p))))

  forward-within : (n j : ℕ) (cs : List (End K S)) (ss : List (Station K S)) → GoodForward R j cs ss → length cs + j ≡ suc n → AllWithin n j (map (map entry_of) (map row_at ss))
  forward-within n j cs [] g e = tt
  forward-within n j cs (s ∷ ss) g e =
      let l : length cs ≡ suc (length g.0) = ap length g.3 ∙ length-thread R j (s.relay ∷ g.0) s.row in
      (within-row Forward n j (s.relay ∷ g.0) s.row g.5 (omega arith), forward-within n (suc j) g.0 ss g.1 (omega arith))

  backward-within : (n j : ℕ) (cs : List (End K S)) (ss : List (Station K S)) → GoodBackward R j cs ss → length cs + j ≡ suc n → AllWithin n j (map (map entry_of) (map row_at ss))
  backward-within n j cs [] g e = tt
  backward-within n j cs (s ∷ ss) g e =
      let l : length cs ≡ suc (length g.0) = sym (length-thread R j cs s.row) ∙ ap length g.3 in
      (within-row Backward n j cs s.row g.4 (omega arith), backward-within n (suc j) g.0 ss g.1 (omega arith))

  module _ (c : Circuit K S) (p : Rows Posting) (h : Holds c p) where
    pub forward-stations : length h.forward ≡ length c.relays
    forward-stations = sym (length-map h.forward relay_at) ∙ (ap length h.forward_over.ends ∙ length-map c.relays own_forward)

    pub backward-stations : length h.backward ≡ length c.relays
    backward-stations = sym (length-map h.backward relay_at) ∙ (ap length h.backward_over.ends ∙ length-map c.relays own_backward)

    pub forward-ends : length c.client.forward ≡ length c.relays
    forward-ends = sym (forward-length R 1 c.client.forward h.forward h.forward_good) ∙ forward-stations

    pub backward-ends : length c.client.backward ≡ length c.relays
    backward-ends = sym (backward-length R 1 c.client.backward h.backward h.backward_good) ∙ backward-stations

    pub forward-rows : length (plain p).forward ≡ length c.relays
    forward-rows = length-map p.forward (map entry_of) ∙ (ap length (sym h.forward_over.rows) ∙ (length-map h.forward row_at ∙ forward-stations))

    backward-rows : length (plain p).backward ≡ length c.relays
    backward-rows = length-map p.backward (map entry_of) ∙ (ap length (sym h.backward_over.rows) ∙ (length-map h.backward row_at ∙ backward-stations))

    pub forward-range : AllWithin (length c.relays) 1 (plain p).forward
    forward-range = rw (← h.forward_over.rows) (forward-within (length c.relays) 1 c.client.forward h.forward h.forward_good (omega (arith, forward-ends)))

    backward-range : AllWithin (length c.relays) 1 (plain p).backward
    backward-range = rw (← h.backward_over.rows) (backward-within (length c.relays) 1 c.client.backward h.backward h.backward_good (omega (arith, backward-ends)))

    -- the order of each pipe over a turn
    pub turn-order : (x : Call) (t : Turn Posting) → turn (journal R c) p x ≡ t → is_destroy x ≡ false → 1 ≤ asks_for x → asks_for x ≤ length c.relays → (v : Way) (k : ℕ) → pipe v k (plain p) ++ sends_for v k x ≡ arrives_by v k x (plain_arrival t.arrival) ++ pipe v k (plain t.rows)
    turn-order x t e z ge le v k =
        let o : pipe v k (plain p) ++ sends_for v k x ≡ arrives_by v k x (turn entries (plain p) x).arrival ++ pipe v k (turn entries (plain p) x).rows = order (length c.relays) (plain p) forward-rows backward-rows forward-range backward-range x z ge le v k in
        let u : (plain (turn (journal R c) p x).rows ≡ (turn entries (plain p) x).rows) × (plain_arrival (turn (journal R c) p x).arrival ≡ (turn entries (plain p) x).arrival) = turn-entries R c p x in
        subst (λ (t : Turn Posting). pipe v k (plain p) ++ sends_for v k x ≡ arrives_by v k x (plain_arrival t.arrival) ++ pipe v k (plain t.rows)) e
        (rw (u.0, u.1) o)

    -- the stations at a place
    pub forward-at : (i : ℕ) → i < length c.relays → (s : Station K S) × (nth h.forward i ≡ Some s)
    forward-at i lt = nth-some h.forward i (omega (arith, forward-stations))

    pub backward-at : (i : ℕ) → i < length c.relays → (s : Station K S) × (nth h.backward i ≡ Some s)
    backward-at i lt = nth-some h.backward i (omega (arith, backward-stations))
