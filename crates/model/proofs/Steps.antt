-- One call of a run.
use Rattle.std.proofs.Common.{◌≡◌, ℕ, zero, suc, ◌-◌, ◌≤◌, Bool, true, false, cond, ◌||◌, eqb, ltb, List, [], ◌∷◌, ◌++◌, map, length, get_or, Some, None, Option, sym, refl, ap, ◌∙◌, subst, append_assoc, append-nil, arith}
use Rattle.std.proofs.lemmas.Bool.{cond-false, or_parts, eqb-false, ltb-false, ne_eqb}
use Rattle.cell.specs.Payload.{Message}
use Rattle.cell.specs.declared.command.Way.{Way}
use Rattle.cell.specs.declared.command.Way.TheVariants.{Forward, Backward}
use Rattle.model.specs.Lists.{nth, first_of}
use Rattle.model.specs.Messages.{sendme}
use Rattle.model.specs.Ends.{Rules}
use Rattle.model.specs.Circuit.{Line, Circuit, Call, send, carry, reply, bring, acknowledge, destroy, Request, Refusal, Answer, refused, accepted, delivered}
use Rattle.model.specs.Flows.{acknowledged}
use Rattle.model.specs.Calls.{refusal, flow_at, client_send_refusal, client_acknowledge_refusal, send_by, reply_at, reply_sendme, carry_at, bring_at, act, lacks_room, asks_for, gate, gated, called}
use Rattle.model.specs.Refusals.{refusal_of, oldest, oldest_of, oldest_at}
use Rattle.model.specs.PlainMachine.{Entry, Rows, entries, Turn, turn, fed, pipe}
use Rattle.model.specs.Runs.{Posting, World, is_accepted, handed_out, is_destroy, sends_for, delivers_for, journal, next, coincides_on, is_none, brings_to_client, coincides}
use Rattle.model.specs.Law.{NeverComes, Marked, Follows}
use Rattle.model.proofs.Laws.{Laws}
use Rattle.model.proofs.Stations.{Station, over-line, over-row}
use Rattle.model.proofs.Rows.{entry_of, plain, plain_arrival, turn-entries}
use Rattle.model.proofs.Orders.{sub-one, sub-two, arrives_by, delivers-arrives, arrives-none}
use Rattle.model.proofs.Tests.{AllFail, first-of}
use Rattle.model.proofs.Holding.{Holds, Fine, FineBoth, turn-order}
use Rattle.model.proofs.Sends.{send-fine, acknowledge-fine}
use Rattle.model.proofs.Replies.{reply-fine, relay-acknowledge-fine}
use Rattle.model.proofs.Carries.{carry-fine}
use Rattle.model.proofs.Brings.{bring-fine}
use Rattle.model.proofs.Arrivals.{NoneEarlier, arrive-fine}

-- the tests of the gate
abbrev pub gate_tests : {K S : Type 0} → Circuit K S → Request → List (Bool × Refusal)
gate_tests c x =
    (c.closed, refusal 16 0) ∷ (lacks_room x x.call, refusal 17 0)
    ∷ (eqb (asks_for x.call) 0 || ltb (length c.relays) (asks_for x.call), refusal 7 (asks_for x.call)) ∷ []

pub none_first : {A : Type 0} (ts : List (Bool × A)) → AllFail ts → first_of ts ≡ None
none_first [] a = refl
none_first (t ∷ ts) a = cond-false t.0 _ _ a.0 ∙ none_first ts a.1

-- a run's world: the invariant, the plain machine's rows, and the order of each hop's messages
pub record Good {K S : Type 0} (R : Rules K S) (w : World K S) : Type 0 where
  pub holds : Holds R w.circuit w.postings
  pub rows : plain w.postings ≡ w.rows
  pub order : (v : Way) (k : ℕ) → w.accepted v k ≡ w.delivered v k ++ pipe v k w.rows

module _ {K S : Type 0} (R : Rules K S) (L : Laws R) where
  module _ (c : Circuit K S) (p : Rows Posting) (h : Holds R c p) where
    -- no coincidence, said of the first station
    pub calm-station : coincides_on R c (oldest_at c.backward 1) (get_or (plain p).backward 0 []) ≡ false → (s : Station K S) → nth h.backward 0 ≡ Some s → NoneEarlier R c.client.backward s.line.cells s.row
    calm-station e s at =
        let l : nth c.backward 0 ≡ Some s.line = over-line h.backward 0 h.backward_over s at in
        let r : get_or (plain p).backward 0 [] ≡ map entry_of s.row = first-row p.backward ∙ ap (map entry_of) (over-row h.backward 0 h.backward_over s at) in
        let f : coincides_on R c (oldest s.line.cells) (map entry_of s.row) ≡ false = ap (coincides_on R c (oldest s.line.cells)) (sym r) ∙ (ap (λ (o : Option Line). coincides_on R c (oldest_of o) (get_or (plain p).backward 0 [])) (sym l) ∙ e) in
        go s.line.cells s.row f
      where
        first-row : (rs : List (List Posting)) → get_or (map (map entry_of) rs) 0 [] ≡ map entry_of (get_or rs 0 [])
        first-row [] = refl
        first-row (r ∷ rs) = refl

        go : (xs : List (List ℕ)) (row : List Posting) → coincides_on R c (oldest xs) (map entry_of row) ≡ false → NoneEarlier R c.client.backward xs row
        go [] row f = tt
        go (x ∷ xs) [] f = tt
        go (x ∷ xs) (q ∷ qs) f = f

    abbrev FineAct : Call → Type 0
    FineAct x = FineBoth R c x (turn (journal R c) p x) (act R c x)

    -- all calls but destroy, past the gate
    act-fine : (x : Call) → is_destroy x ≡ false → 1 ≤ asks_for x → asks_for x ≤ length c.relays → (brings_to_client R x ≡ true → coincides_on R c (oldest_at c.backward 1) (get_or (plain p).backward 0 []) ≡ false) → FineAct x
    act-fine (send zero m) z ge le calm = absurd (omega arith)
    act-fine (send (suc d) m) z ge le calm =
        subst (λ (k : ℕ). FineBoth R c (send (suc d) m) (turn (journal R c) p (send (suc d) m)) (send_by R c k (flow_at R c.client k) m (client_send_refusal R c.client k m))) (sym (sub-one d)) (send-fine R c p h d le m)
    act-fine (carry zero) z ge le calm = absurd (omega arith)
    act-fine (carry (suc i)) z ge le calm =
        subst (λ (k : ℕ). FineBoth R c (carry (suc i)) (turn (journal R c) p (carry (suc i))) (carry_at R c k (nth c.relays k) (nth c.forward k))) (sym (sub-one i)) (carry-fine R L c p h i le).0
    act-fine (reply zero m) z ge le calm = absurd (omega arith)
    act-fine (reply (suc d) m) z ge le calm =
        subst (λ (k : ℕ). FineBoth R c (reply (suc d) m) (turn (journal R c) p (reply (suc d) m)) (reply_at R c k m (nth c.relays k))) (sym (sub-one d)) (reply-fine R c p h d le m)
    act-fine (bring zero) z ge le calm = absurd (omega arith)
    act-fine (bring (suc zero)) z ge le calm = (arrive-fine R L c p h le (λ s at. calm-station (calm refl) s at)).0
    act-fine (bring (suc (suc i))) z ge le calm =
        subst (FineBoth R c (bring (suc (suc i))) (turn (journal R c) p (bring (suc (suc i))))) (sym (cond-false (eqb (suc (suc i)) 1) _ _ (ne_eqb (suc (suc i)) 1 (λ e. omega (arith, e)))))
        (subst (λ (k : ℕ). FineBoth R c (bring (suc (suc i))) (turn (journal R c) p (bring (suc (suc i)))) (bring_at R c k (nth c.relays k) (nth c.backward (suc (suc i) - 1)) (nth c.backward k))) (sym (sub-two i))
        (subst (λ (k : ℕ). FineBoth R c (bring (suc (suc i))) (turn (journal R c) p (bring (suc (suc i)))) (bring_at R c i (nth c.relays i) (nth c.backward k) (nth c.backward i))) (sym (sub-one (suc i))) (bring-fine R c p h i le).0))
    act-fine (acknowledge zero w) z ge le calm = absurd (omega arith)
    act-fine (acknowledge (suc d) Forward) z ge le calm =
        subst (λ (k : ℕ). FineBoth R c (acknowledge (suc d) Forward) (turn (journal R c) p (acknowledge (suc d) Forward)) (reply_sendme R c k (nth c.relays k))) (sym (sub-one d)) (relay-acknowledge-fine R c p h d le)
    act-fine (acknowledge (suc d) Backward) z ge le calm =
        subst (λ (k : ℕ). FineBoth R c (acknowledge (suc d) Backward) (turn (journal R c) p (acknowledge (suc d) Backward)) (send_by R c k (acknowledged (flow_at R c.client k)) sendme (client_acknowledge_refusal R c.client k))) (sym (sub-one d)) (acknowledge-fine R c p h d le)
    act-fine destroy z ge le calm = let o : ◌≡◌ {A = ℕ} 0 1 = cc in absurd (omega arith)

    abbrev InRange : Call → Answer → Type 0
    InRange x a = is_accepted a ≡ true → (1 ≤ asks_for x) × (asks_for x ≤ length c.relays)

    refused-range : (x : Call) (f : Refusal) → InRange x (refused f)
    refused-range x f e = let o : ◌≡◌ {A = ℕ} 0 1 = cc in absurd (omega arith)

    -- a call whose gate opens, unless it coincides
    called-fine : (x : Request) → is_destroy x.call ≡ false → (gate c x ≡ None → brings_to_client R x.call ≡ true → coincides_on R c (oldest_at c.backward 1) (get_or (plain p).backward 0 []) ≡ false) → FineBoth R c x.call (turn (journal R c) p x.call) (called R c x) × InRange x.call (called R c x).0
    called-fine x z calm =
        first-of (λ (o : Option Refusal). FineBoth R c x.call (turn (journal R c) p x.call) (gated c o (act R c x.call)) × InRange x.call (gated c o (act R c x.call)).0) (gate_tests c x)
        (((refl, omega arith), refused-range x.call (refusal 16 0)), (((refl, omega arith), refused-range x.call (refusal 17 0)), (((refl, omega arith), refused-range x.call (refusal 7 (asks_for x.call))), tt)))
        (λ a.
        let o : (eqb (asks_for x.call) 0 ≡ false) × (ltb (length c.relays) (asks_for x.call) ≡ false) = or_parts _ _ a.1.1.0 in
        let ne : asks_for x.call ≡ 0 → ⊥ = eqb-false _ _ o.0 in
        let ge : 1 ≤ asks_for x.call = omega arith in
        let le : asks_for x.call ≤ length c.relays = ltb-false _ _ o.1 in
        (act-fine x.call z ge le (calm (none_first (gate_tests c x) a)), λ _. (ge, le)))

  ---- one call of a run
  abbrev grown : World K S → Call → Answer → Circuit K S → World K S
  grown w x a c =
      record {
        circuit = c;
        rows = (fed entries w.rows x (is_accepted a)).rows;
        postings = (fed (journal R w.circuit) w.postings x (is_accepted a)).rows;
        accepted = λ v k. w.accepted v k ++ cond (is_accepted a) (sends_for v k x) [];
        delivered = λ v k. w.delivered v k ++ delivers_for v k x a;
      }

  abbrev Stepped : World K S → Call → Answer → Circuit K S → Type 0
  Stepped w x a c =
      ((handed_out a ≡ (fed entries w.rows x (is_accepted a)).arrival) × Marked R w.circuit x a × NeverComes R (refusal_of a)) × Good R (grown w x a c)

  turn-follows : (w : World K S) (g : Good R w) (x : Call) → (plain (turn (journal R w.circuit) w.postings x).rows ≡ (turn entries w.rows x).rows) × (plain_arrival (turn (journal R w.circuit) w.postings x).arrival ≡ (turn entries w.rows x).arrival)
  turn-follows w g x =
      subst (λ (r : Rows Entry). (plain (turn (journal R w.circuit) w.postings x).rows ≡ (turn entries r x).rows) × (plain_arrival (turn (journal R w.circuit) w.postings x).arrival ≡ (turn entries r x).arrival)) g.rows (turn-entries R w.circuit w.postings x)

  order-follows : (w : World K S) (g : Good R w) (x : Call) (a : Answer) → is_destroy x ≡ false → (1 ≤ asks_for x) × (asks_for x ≤ length w.circuit.relays) → plain_arrival (turn (journal R w.circuit) w.postings x).arrival ≡ handed_out a → (v : Way) (k : ℕ) → w.accepted v k ++ sends_for v k x ≡ (w.delivered v k ++ delivers_for v k x a) ++ pipe v k (turn entries w.rows x).rows
  order-follows w g x a z range e v k =
      let t : Turn Posting = turn (journal R w.circuit) w.postings x in
      let o : pipe v k (plain w.postings) ++ sends_for v k x ≡ arrives_by v k x (plain_arrival t.arrival) ++ pipe v k (plain t.rows) = turn-order R w.circuit w.postings g.holds x t refl z range.0 range.1 v k in
      let o' : pipe v k w.rows ++ sends_for v k x ≡ delivers_for v k x a ++ pipe v k (turn entries w.rows x).rows = subst (λ (r : Rows Entry). pipe v k r ++ sends_for v k x ≡ delivers_for v k x a ++ pipe v k (turn entries w.rows x).rows) g.rows (o ∙ (ap (λ (u : Option Entry). arrives_by v k x u ++ pipe v k (plain t.rows)) e ∙ (ap (λ (u : List Message). u ++ pipe v k (plain t.rows)) (sym (delivers-arrives v k x a)) ∙ ap (λ (r : Rows Entry). delivers_for v k x a ++ pipe v k r) (turn-follows w g x).0))) in
      ap (λ (u : List Message). u ++ sends_for v k x) (g.order v k) ∙ (append_assoc (w.delivered v k) (pipe v k w.rows) (sends_for v k x) ∙ (ap (λ (u : List Message). w.delivered v k ++ u) o' ∙ sym (append_assoc (w.delivered v k) (delivers_for v k x a) (pipe v k (turn entries w.rows x).rows))))

  step-answer : (w : World K S) (g : Good R w) (x : Call) (a : Answer) (c : Circuit K S) → is_destroy x ≡ false → Fine R w.circuit x (turn (journal R w.circuit) w.postings x) a c → InRange w.circuit w.postings g.holds x a → Stepped w x a c
  step-answer w g x (refused f) c z fine range =
      ((refl, tt, fine.1), record { holds = subst (λ (u : Circuit K S). Holds R u w.postings) (sym fine.0) g.holds; rows = g.rows; order = λ v k. append-nil (w.accepted v k) ∙ (g.order v k ∙ ap (λ (u : List Message). u ++ pipe v k w.rows) (sym (append-nil (w.delivered v k)) ∙ ap (λ (u : List Message). w.delivered v k ++ u) (sym (delivers-arrives v k x (refused f) ∙ arrives-none v k x)))) })
  step-answer w g x accepted c z fine range =
      let e : plain_arrival (turn (journal R w.circuit) w.postings x).arrival ≡ None = ap plain_arrival fine.1 in
      ((sym e ∙ (turn-follows w g x).1, tt, tt), record { holds = fine.0; rows = (turn-follows w g x).0; order = order-follows w g x accepted z (range refl) e })
  step-answer w g x (delivered h m mark) c z fine range =
      ((sym fine.1 ∙ (turn-follows w g x).1, fine.2, tt), record { holds = fine.0; rows = (turn-follows w g x).0; order = order-follows w g x (delivered h m mark) z (range refl) fine.1 })

  pub calm-call : (w : World K S) (g : Good R w) (x : Request) → coincides R w x ≡ false → gate w.circuit x ≡ None → brings_to_client R x.call ≡ true → coincides_on R w.circuit (oldest_at w.circuit.backward 1) (get_or (plain w.postings).backward 0 []) ≡ false
  calm-call w g x e n b =
      let i : is_none R (gate w.circuit x) ≡ true = ap (is_none R) n in
      let f : coincides_on R w.circuit (oldest_at w.circuit.backward 1) (get_or w.rows.backward 0 []) ≡ false = rw (b, i) at e in
      subst (λ (r : Rows Entry). coincides_on R w.circuit (oldest_at w.circuit.backward 1) (get_or r.backward 0 []) ≡ false) (sym g.rows) f

  pub step : (w : World K S) (x : Request) → Good R w → is_destroy x.call ≡ false → coincides R w x ≡ false → Follows R w x × Good R (next R w x)
  step w x g z e =
      let f : FineBoth R w.circuit x.call (turn (journal R w.circuit) w.postings x.call) (called R w.circuit x) × InRange w.circuit w.postings g.holds x.call (called R w.circuit x).0 = called-fine w.circuit w.postings g.holds x z (calm-call w g x e) in
      let s : Stepped w x.call (called R w.circuit x).0 (called R w.circuit x).1 = step-answer w g x.call (called R w.circuit x).0 (called R w.circuit x).1 z f.0 f.1 in
      (record { delivery = s.0.0; marked = s.0.1; never = s.0.2 }, s.1)
