-- Carrying always from the farthest link that holds a cell empties the forward way; bringing always from the nearest one
-- empties the backward way, up to a coincidence.
use Rattle.std.proofs.Common.{◌≡◌, ℕ, zero, suc, ◌-◌, ◌<◌, ◌≤◌, Bool, true, false, ◌||◌, eqb, ltb, List, [], ◌∷◌, map, length, get_or, Some, None, Option, sym, refl, ap, ◌∙◌, subst, add-one, arith}
use Rattle.std.proofs.lemmas.List.{length-map}
use Rattle.std.proofs.lemmas.Bool.{cond_both, cond-false, or_from, le-ltb, lt-leb, ne_eqb, eqb-true, eqb-false}
use Rattle.model.specs.Lists.{nth}
use Rattle.model.specs.Ends.{Rules, End}
use Rattle.model.specs.Circuit.{Line, is_full, Circuit, carry, bring, Request, Refusal, Answer}
use Rattle.model.specs.Calls.{carry_at, bring_at, act, lacks_room, asks_for, gate, gated, called, scratch_length, output_length}
use Rattle.model.specs.PlainMachine.{Entry, Rows, entries, Turn, carried, brought, fed, forward_crossings, backward_crossings}
use Rattle.model.specs.Runs.{Posting, World, is_accepted, answer, next, coincides}
use Rattle.model.specs.Law.{any_holds, CarriesOut, BringsIn}
use Rattle.model.proofs.Laws.{Laws}
use Rattle.model.proofs.Places.{nth-within}
use Rattle.model.proofs.Threads.{length-cells}
use Rattle.model.proofs.Stations.{Station, line_at, row_at, over-line}
use Rattle.model.proofs.Forward.{GoodForward, forward-cells}
use Rattle.model.proofs.Backward.{GoodBackward, backward-cells}
use Rattle.model.proofs.Rows.{entry_of, row-entries}
use Rattle.model.proofs.Pipes.{AllWithin}
use Rattle.model.proofs.Orders.{sub-one, sub-two}
use Rattle.model.proofs.Holding.{Holds, forward-stations, backward-stations, forward-rows, forward-range, forward-at, backward-at}
use Rattle.model.proofs.Carries as carries
use Rattle.model.proofs.Carries.{carry-fine}
use Rattle.model.proofs.Brings as brings
use Rattle.model.proofs.Brings.{bring-fine}
use Rattle.model.proofs.Arrivals.{Comes, arrive-fine}
use Rattle.model.proofs.Steps.{gate_tests, none_first, calm-station, calm-call, Good, step}
use Rattle.model.proofs.Crossings.{Matches, waiting, none-holds, some-hold, forward-empty, backward-empty, forward-still, forward-some, backward-still, backward-some, FarthestAt, farthest-at, NearestAt, nearest-at, crossed-delivered, crossed-passed, crossed-arrived, crossed-brought}
use Rattle.model.proofs.Small.{Small, relay-can-receive, relay-can-pass, client-can-receive}
use Rattle.model.proofs.SmallCalls.{small-called}

abbrev carry_request : ℕ → ℕ → ℕ → Request
carry_request s o j = record { call = carry j; scratch = s; output = o }

abbrev bring_request : ℕ → ℕ → ℕ → Request
bring_request s o j = record { call = bring j; scratch = s; output = o }

cons_of : {A : Type 0} (xs : List A) → 0 < length xs → (x : A) × (ys : List A) × (xs ≡ x ∷ ys)
cons_of [] lt = absurd (omega arith)
cons_of (x ∷ xs) lt = (x, xs, refl)

matches-at : (ls : List Line) (rs : List (List Entry)) (i : ℕ) (l : Line) → Matches ls rs → nth ls i ≡ Some l → length l.cells ≡ length (get_or rs i [])
matches-at [] rs i l m at = let z : ◌≡◌ {A = ℕ} 0 1 = cc in absurd (omega arith)
matches-at (k ∷ ls) [] i l m at = elim m [ ]
matches-at (k ∷ ls) (r ∷ rs) zero l m at = let u : k ≡ l = cc in ap (λ (z : Line). length z.cells) (sym u) ∙ m.0
matches-at (k ∷ ls) (r ∷ rs) (suc i) l m at = matches-at ls rs i l m.1 at

-- a row of postings with its link's cells is not empty
not-empty : (rs : List (List Posting)) (es : List (List Entry)) (ls : List Line) (i : ℕ) (l : Line) → map (map entry_of) rs ≡ es → Matches ls es → nth ls i ≡ Some l → 0 < length l.cells → get_or rs i [] ≡ [] → ⊥
not-empty rs es ls i l e m at lt q =
    let a : length (get_or es i []) ≡ 0 = ap (λ (z : List (List Entry)). length (get_or z i [])) (sym e) ∙ (sym (ap length (row-entries rs i)) ∙ ap (λ (z : List Posting). length (map entry_of z)) q) in
    omega (arith, matches-at ls es i l m at, lt)

---- the plain machine's turn crosses one link
module _ (r : Rows Entry) where
  carried-crosses : (n i : ℕ) (row : List Entry) → length r.forward ≡ n → AllWithin n 1 r.forward → get_or r.forward i [] ≡ row → 0 < length row → forward_crossings 1 r.forward ≡ suc (forward_crossings 1 (carried entries r (suc i) row).rows.forward)
  carried-crosses n i [] fn fa e lt = absurd (omega arith)
  carried-crosses n i (x ∷ xs) fn fa e lt =
      cond_both (eqb x.hop (suc i)) _ _ (λ (t : Turn Entry). forward_crossings 1 r.forward ≡ suc (forward_crossings 1 t.rows.forward))
      (λ t. rw (sub-one i) (crossed-delivered i 1 (suc i) r.forward x xs e (omega arith) (eqb-true _ _ t)))
      (λ t. rw (sub-one i) (crossed-passed n i 1 (suc i) r.forward x xs fa (omega arith) e (omega arith) (eqb-false _ _ t)))

  brought-crosses : (i : ℕ) (row : List Entry) → get_or r.backward i [] ≡ row → 0 < length row → backward_crossings 1 r.backward ≡ suc (backward_crossings 1 (brought entries r (suc i) row).rows.backward)
  brought-crosses i [] e lt = absurd (omega arith)
  brought-crosses zero (x ∷ xs) e lt = crossed-arrived r.backward x xs e
  brought-crosses (suc i) (x ∷ xs) e lt =
      let t : eqb (suc (suc i)) 1 ≡ false = ne_eqb (suc (suc i)) 1 (λ z. omega (arith, z)) in
      rw (t, sub-one (suc i), sub-two i) (crossed-brought i 1 r.backward x xs e)

module _ {K S : Type 0} (R : Rules K S) (L : Laws R) where
  forward-matches : (j : ℕ) (cs : List (End K S)) (ss : List (Station K S)) → GoodForward R j cs ss → Matches (map line_at ss) (map (map entry_of) (map row_at ss))
  forward-matches j cs [] g = tt
  forward-matches j cs (s ∷ ss) g = (ap length g.2 ∙ (length-cells R j (s.relay ∷ g.0) s.row ∙ sym (length-map s.row entry_of)), forward-matches (suc j) g.0 ss g.1)

  backward-matches : (j : ℕ) (cs : List (End K S)) (ss : List (Station K S)) → GoodBackward R j cs ss → Matches (map line_at ss) (map (map entry_of) (map row_at ss))
  backward-matches j cs [] g = tt
  backward-matches j cs (s ∷ ss) g = (ap length g.2 ∙ (length-cells R j cs s.row ∙ sym (length-map s.row entry_of)), backward-matches (suc j) g.0 ss g.1)

  module _ (w : World K S) (g : Good R w) where
    forward-lines : length w.circuit.forward ≡ length w.circuit.relays
    forward-lines = ap length (sym g.holds.forward_over.lines) ∙ (length-map g.holds.forward line_at ∙ forward-stations R w.circuit w.postings g.holds)

    backward-lines : length w.circuit.backward ≡ length w.circuit.relays
    backward-lines = ap length (sym g.holds.backward_over.lines) ∙ (length-map g.holds.backward line_at ∙ backward-stations R w.circuit w.postings g.holds)

    -- an empty link has room
    forward-room : (i : ℕ) (l : Line) → nth w.circuit.forward i ≡ Some l → length l.cells ≡ 0 → is_full l ≡ false
    forward-room i l at e =
        let h : Holds R w.circuit w.postings = g.holds in
        let s : (s : Station K S) × (nth h.forward i ≡ Some s) = forward-at R w.circuit w.postings h i (omega (arith, nth-within w.circuit.forward i l at, forward-lines)) in
        let q : nth w.circuit.forward i ≡ Some s.0.line = over-line h.forward i h.forward_over s.0 s.1 in
        let u : s.0.line ≡ l = cc in
        let k : 1 ≤ s.0.line.capacity = (forward-cells R i 1 w.circuit.client.forward h.forward s.0 h.forward_good s.1).1 in
        lt-leb l.capacity (length l.cells) (omega (arith, ap (λ (z : Line). z.capacity) u))

    backward-room : (i : ℕ) (l : Line) → nth w.circuit.backward i ≡ Some l → length l.cells ≡ 0 → is_full l ≡ false
    backward-room i l at e =
        let h : Holds R w.circuit w.postings = g.holds in
        let s : (s : Station K S) × (nth h.backward i ≡ Some s) = backward-at R w.circuit w.postings h i (omega (arith, nth-within w.circuit.backward i l at, backward-lines)) in
        let q : nth w.circuit.backward i ≡ Some s.0.line = over-line h.backward i h.backward_over s.0 s.1 in
        let u : s.0.line ≡ l = cc in
        let k : 1 ≤ s.0.line.capacity = (backward-cells R i 1 w.circuit.client.backward h.backward s.0 h.backward_good s.1).1 in
        lt-leb l.capacity (length l.cells) (omega (arith, ap (λ (z : Line). z.capacity) u))

    row-entries-forward : map (map entry_of) w.postings.forward ≡ w.rows.forward
    row-entries-forward = ap (λ (r : Rows Entry). r.forward) g.rows

    row-entries-backward : map (map entry_of) w.postings.backward ≡ w.rows.backward
    row-entries-backward = ap (λ (r : Rows Entry). r.backward) g.rows

    forward-match : Matches w.circuit.forward w.rows.forward
    forward-match =
        let h : Holds R w.circuit w.postings = g.holds in
        subst (λ (ls : List Line). Matches ls w.rows.forward) h.forward_over.lines
        (subst (Matches (map line_at h.forward)) (ap (map (map entry_of)) h.forward_over.rows ∙ row-entries-forward) (forward-matches 1 w.circuit.client.forward h.forward h.forward_good))

    backward-match : Matches w.circuit.backward w.rows.backward
    backward-match =
        let h : Holds R w.circuit w.postings = g.holds in
        subst (λ (ls : List Line). Matches ls w.rows.backward) h.backward_over.lines
        (subst (Matches (map line_at h.backward)) (ap (map (map entry_of)) h.backward_over.rows ∙ row-entries-backward) (backward-matches 1 w.circuit.client.backward h.backward h.backward_good))

    -- with buffers long enough, the gate is open
    opens : (x : Request) → lacks_room x x.call ≡ false → 1 ≤ asks_for x.call → asks_for x.call ≤ length w.circuit.relays → called R w.circuit x ≡ act R w.circuit x.call
    opens x room ge le =
        let e : gate w.circuit x ≡ None = none_first (gate_tests w.circuit x) (g.holds.unclosed, (room, (or_from _ _ (ne_eqb (asks_for x.call) 0 (λ z. omega (arith, z))) (le-ltb (length w.circuit.relays) (asks_for x.call) le), tt))) in
        ap (λ (o : Option Refusal). gated w.circuit o (act R w.circuit x.call)) e

    module _ (small : Small w.circuit) (s o : ℕ) (enough : scratch_length ≤ s) (place : output_length ≤ o) where
      room : (ltb s scratch_length || ltb o output_length) ≡ false
      room = or_from (ltb s scratch_length) (ltb o output_length) (le-ltb s scratch_length enough) (le-ltb o output_length place)

      -- the link at place i holds a cell, and the next one holds none
      carry-accepted : (i : ℕ) (l : Line) → nth w.circuit.forward i ≡ Some l → 0 < length l.cells → ((k : Line) → nth w.circuit.forward (suc i) ≡ Some k → length k.cells ≡ 0) → is_accepted (answer R w (carry_request s o (suc i))) ≡ true
      carry-accepted i l at lt free =
          let h : Holds R w.circuit w.postings = g.holds in
          let inside : i < length w.circuit.relays = omega (arith, nth-within w.circuit.forward i l at, forward-lines) in
          let x : (x : List ℕ) × (xs : List (List ℕ)) × (l.cells ≡ x ∷ xs) = cons_of l.cells lt in
          let goes : carries.Goes w.circuit w.postings i = record { waits = not-empty w.postings.forward w.rows.forward w.circuit.forward i l row-entries-forward forward-match at lt; fresh = λ r e. relay-can-receive w.circuit small i r l x.0 x.1 e at x.2; room = λ k e. forward-room (suc i) k e (free k e) } in
          ap (λ (y : Answer × Circuit K S). is_accepted y.0) (opens (carry_request s o (suc i)) room (omega arith) (omega arith))
          ∙ (ap (λ (k : ℕ). is_accepted (carry_at R w.circuit k (nth w.circuit.relays k) (nth w.circuit.forward k)).0) (sub-one i) ∙ (carry-fine R L w.circuit w.postings h i inside).1 goes)

      carry-crosses : (i : ℕ) (l : Line) → nth w.circuit.forward i ≡ Some l → 0 < length l.cells → is_accepted (answer R w (carry_request s o (suc i))) ≡ true → forward_crossings 1 w.rows.forward ≡ suc (forward_crossings 1 (next R w (carry_request s o (suc i))).rows.forward)
      carry-crosses i l at lt ok =
          let h : Holds R w.circuit w.postings = g.holds in
          let n : ℕ = length w.circuit.relays in
          let fn : length w.rows.forward ≡ n = ap length (sym row-entries-forward) ∙ forward-rows R w.circuit w.postings h in
          let fa : AllWithin n 1 w.rows.forward = subst (AllWithin n 1) row-entries-forward (forward-range R w.circuit w.postings h) in
          let z : forward_crossings 1 w.rows.forward ≡ suc (forward_crossings 1 (carried entries w.rows (suc i) (get_or w.rows.forward i [])).rows.forward) = carried-crosses w.rows n i (get_or w.rows.forward i []) fn fa refl (omega (arith, matches-at w.circuit.forward w.rows.forward i l forward-match at)) in
          subst (λ (b : Bool). forward_crossings 1 w.rows.forward ≡ suc (forward_crossings 1 (fed entries w.rows (carry (suc i)) b).rows.forward)) (sym ok)
          (subst (λ (k : ℕ). forward_crossings 1 w.rows.forward ≡ suc (forward_crossings 1 (carried entries w.rows (suc i) (get_or w.rows.forward k [])).rows.forward)) (sym (sub-one i)) z)

      -- the link at place i holds a cell, and the one before it holds none
      bring-accepted : (i : ℕ) (l : Line) → nth w.circuit.backward i ≡ Some l → 0 < length l.cells → ((k : ℕ) (f : Line) → i ≡ suc k → nth w.circuit.backward k ≡ Some f → length f.cells ≡ 0) → coincides R w (bring_request s o (suc i)) ≡ false → is_accepted (answer R w (bring_request s o (suc i))) ≡ true
      bring-accepted zero l at lt free calm =
          let h : Holds R w.circuit w.postings = g.holds in
          let inside : 0 < length w.circuit.relays = omega (arith, nth-within w.circuit.backward 0 l at, backward-lines) in
          let x : (x : List ℕ) × (xs : List (List ℕ)) × (l.cells ≡ x ∷ xs) = cons_of l.cells lt in
          let comes : Comes w.circuit w.postings = record { waits = not-empty w.postings.backward w.rows.backward w.circuit.backward 0 l row-entries-backward backward-match at lt; fresh = client-can-receive w.circuit small l x.0 x.1 at x.2 } in
          let e : gate w.circuit (bring_request s o 1) ≡ None = none_first (gate_tests w.circuit (bring_request s o 1)) (h.unclosed, (room, (le-ltb (length w.circuit.relays) 1 (omega arith), tt))) in
          ap (λ (y : Answer × Circuit K S). is_accepted y.0) (opens (bring_request s o 1) room (omega arith) (omega arith))
          ∙ (arrive-fine R L w.circuit w.postings h inside (λ t q. calm-station R L w.circuit w.postings h (calm-call R L w g (bring_request s o 1) calm e refl) t q)).1 comes
      bring-accepted (suc i) l at lt free calm =
          let h : Holds R w.circuit w.postings = g.holds in
          let inside : suc i < length w.circuit.relays = omega (arith, nth-within w.circuit.backward (suc i) l at, backward-lines) in
          let x : (x : List ℕ) × (xs : List (List ℕ)) × (l.cells ≡ x ∷ xs) = cons_of l.cells lt in
          let goes : brings.Goes w.circuit w.postings i = record { waits = not-empty w.postings.backward w.rows.backward w.circuit.backward (suc i) l row-entries-backward backward-match at lt; fresh = λ r e. relay-can-pass w.circuit small i r l x.0 x.1 e (ap (nth w.circuit.backward) (add-one i) ∙ at) x.2; room = λ k e. backward-room i k e (free i k refl e) } in
          ap (λ (y : Answer × Circuit K S). is_accepted y.0) (opens (bring_request s o (suc (suc i))) room (omega arith) (omega arith) ∙ cond-false (eqb (suc (suc i)) 1) _ _ (ne_eqb (suc (suc i)) 1 (λ z. omega (arith, z))))
          ∙ (ap (λ (k : ℕ). is_accepted (bring_at R w.circuit k (nth w.circuit.relays k) (nth w.circuit.backward (suc (suc i) - 1)) (nth w.circuit.backward k)).0) (sub-two i)
          ∙ (ap (λ (k : ℕ). is_accepted (bring_at R w.circuit i (nth w.circuit.relays i) (nth w.circuit.backward k) (nth w.circuit.backward i)).0) (sub-one (suc i)) ∙ (bring-fine R w.circuit w.postings h i inside).1 goes))

      bring-crosses : (i : ℕ) (l : Line) → nth w.circuit.backward i ≡ Some l → 0 < length l.cells → is_accepted (answer R w (bring_request s o (suc i))) ≡ true → backward_crossings 1 w.rows.backward ≡ suc (backward_crossings 1 (next R w (bring_request s o (suc i))).rows.backward)
      bring-crosses i l at lt ok =
          let z : backward_crossings 1 w.rows.backward ≡ suc (backward_crossings 1 (brought entries w.rows (suc i) (get_or w.rows.backward i [])).rows.backward) = brought-crosses w.rows i (get_or w.rows.backward i []) refl (omega (arith, matches-at w.circuit.backward w.rows.backward i l backward-match at)) in
          subst (λ (b : Bool). backward_crossings 1 w.rows.backward ≡ suc (backward_crossings 1 (fed entries w.rows (bring (suc i)) b).rows.backward)) (sym ok)
          (subst (λ (k : ℕ). backward_crossings 1 w.rows.backward ≡ suc (backward_crossings 1 (brought entries w.rows (suc i) (get_or w.rows.backward k [])).rows.backward)) (sym (sub-one i)) z)

  module _ (s o : ℕ) (enough : scratch_length ≤ s) (place : output_length ≤ o) where
    pub carries-out : (n : ℕ) (w : World K S) → Good R w → Small w.circuit → n ≡ forward_crossings 1 w.rows.forward → CarriesOut R s o n w
    carries-out zero w g small e =
        let z : waiting w.rows.forward ≡ 0 = forward-still 1 w.rows.forward (sym e) in
        (none-holds w.circuit.forward w.rows.forward (forward-match w g) z, λ k. forward-empty k w.rows.forward z)
    carries-out (suc n) w g small e =
        let busy : any_holds w.circuit.forward ≡ true = some-hold w.circuit.forward w.rows.forward (forward-match w g) (forward-some 1 w.rows.forward (omega arith)) in
        let f : FarthestAt w.circuit.forward = farthest-at w.circuit.forward busy in
        let x : Request = carry_request s o (suc f.0) in
        let ok : is_accepted (answer R w x) ≡ true = carry-accepted w g small s o enough place f.0 f.1 f.3 f.4 f.5 in
        let fewer : forward_crossings 1 w.rows.forward ≡ suc (forward_crossings 1 (next R w x).rows.forward) = carry-crosses w g small s o enough place f.0 f.1 f.3 f.4 ok in
        let more : CarriesOut R s o n (next R w x) = carries-out n (next R w x) (step R L w x g refl refl).1 (small-called R w.circuit small x) (omega arith) in
        (busy, subst (λ (j : ℕ). is_accepted (answer R w (carry_request s o j)) ≡ true) (sym f.2) ok, subst (λ (j : ℕ). CarriesOut R s o n (next R w (carry_request s o j))) (sym f.2) more)

    pub brings-in : (n : ℕ) (w : World K S) → Good R w → Small w.circuit → n ≡ backward_crossings 1 w.rows.backward → BringsIn R s o n w
    brings-in zero w g small e =
        let z : waiting w.rows.backward ≡ 0 = backward-still 0 w.rows.backward (sym e) in
        (none-holds w.circuit.backward w.rows.backward (backward-match w g) z, λ k. backward-empty k w.rows.backward z)
    brings-in (suc n) w g small e =
        let busy : any_holds w.circuit.backward ≡ true = some-hold w.circuit.backward w.rows.backward (backward-match w g) (backward-some 0 w.rows.backward (omega arith)) in
        let f : NearestAt w.circuit.backward = nearest-at w.circuit.backward busy in
        let P : ℕ → Type 0 = λ j. coincides R w (bring_request s o j) ≡ false → (is_accepted (answer R w (bring_request s o j)) ≡ true) × BringsIn R s o n (next R w (bring_request s o j)) in
        let x : Request = bring_request s o (suc f.0) in
        let there : P (suc f.0) = λ calm.
        let ok : is_accepted (answer R w x) ≡ true = bring-accepted w g small s o enough place f.0 f.1 f.3 f.4 f.5 calm in
        let fewer : backward_crossings 1 w.rows.backward ≡ suc (backward_crossings 1 (next R w x).rows.backward) = bring-crosses w g small s o enough place f.0 f.1 f.3 f.4 ok in
        (ok, brings-in n (next R w x) (step R L w x g refl calm).1 (small-called R w.circuit small x) (omega arith)) in
        (busy, subst P (sym f.2) there)
