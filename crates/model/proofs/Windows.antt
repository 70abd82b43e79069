-- The two windows of a hop: f is the flow of one side, g of the other, P what travels from f to g, Q what travels back.
use Rattle.std.proofs.Common.{◌≡◌, ℕ, suc, ◌+◌, ◌-◌, ◌*◌, ◌≤◌, Bool, true, false, eqb, List, [], ◌∷◌, ◌++◌, refl, ◌∙◌, ⊎_elim, append-nil, arith}
use Rattle.std.proofs.lemmas.Bool.{cond_both, cases_eq, eq-eqb, ne_eqb, lt-leb, le-ltb}
use Rattle.std.proofs.lemmas.Bool.Decides.{nat_tests}
use Rattle.cell.specs.Payload.{Message}
use Rattle.cell.specs.declared.command.Way.{Way}
use Rattle.cell.specs.declared.command.Way.TheVariants.{Forward, Backward}
use Rattle.model.specs.Lists.{total}
use Rattle.model.specs.Messages.{sendme, is_data, is_sendme, may_send}
use Rattle.model.specs.Flows.{Flow, window_start, step, posted, received, acknowledged, overruns}
use Rattle.model.proofs.Pipes.{only}

abbrev data_in : List Message → ℕ
data_in = total (λ m. is_data m.command)

abbrev sendmes_in : List Message → ℕ
sendmes_in = total (λ m. is_sendme m.command)

abbrev Balanced : Flow → Flow → List Message → List Message → Type 0
Balanced f g P Q = window_start ≡ f.window + data_in P + g.unacknowledged + step * sendmes_in Q

abbrev pub Both : Flow → Flow → List Message → List Message → Type 0
Both f g P Q = Balanced f g P Q × Balanced g f Q P

total-append : (f : Message → ℕ) (P Q : List Message) → total f (P ++ Q) ≡ total f P + total f Q
total-append f [] Q = omega arith
total-append f (m ∷ P) Q = omega (arith, total-append f P Q)

sendme-counts : (is_data 5 ≡ 0) × (is_sendme 5 ≡ 1)
unfolding is_data is_sendme
sendme-counts = (refl, refl)

-- SENDME is not a host's to send
pub host-sends : (w : Way) (c : ℕ) → may_send w c ≡ true → is_sendme c ≡ 0
unfolding may_send is_sendme
host-sends Forward c e = let n : eqb c 5 ≡ false = grind (arith, nat_tests) in rw n
host-sends Backward c e = let n : eqb c 5 ≡ false = grind (arith, nat_tests) in rw n

both-sent : (f g : Flow) (P Q : List Message) (m : Message) → Both f g P Q → is_sendme m.command ≡ 0 → is_data m.command ≤ f.window → Both (posted m.command f) g (P ++ m ∷ []) Q
both-sent f g P Q m b z le =
    (omega (arith, b.0, total-append (λ m. is_data m.command) P (m ∷ [])), omega (arith, b.1, total-append (λ m. is_sendme m.command) P (m ∷ [])))

both-acknowledged : (f g : Flow) (P Q : List Message) → Both f g P Q → step ≤ f.unacknowledged → Both (posted 5 (acknowledged f)) g (P ++ sendme ∷ []) Q
both-acknowledged f g P Q b le =
    (omega (arith, b.0, total-append (λ m. is_data m.command) P (sendme ∷ []), sendme-counts), omega (arith, b.1, total-append (λ m. is_sendme m.command) P (sendme ∷ []), sendme-counts))

both-received : (f g : Flow) (P Q : List Message) (m : Message) → Both f g (m ∷ P) Q → Both f (received m.command g) P Q
both-received f g P Q m b = (omega (arith, b.0), omega (arith, b.1))

-- a balanced window is never overrun
pub never-overrun : (f g : Flow) (P Q : List Message) (m : Message) → Both f g (m ∷ P) Q → overruns m.command g ≡ false
unfolding overruns is_data is_sendme
never-overrun f g P Q m b =
    cond_both (eqb m.command 2) _ _ (λ (t : Bool). t ≡ false)
    (λ e. let k : is_data m.command ≡ 1 = rw e in lt-leb window_start g.unacknowledged (omega (arith, b.0)))
    (λ _. cond_both (eqb m.command 5) _ _ (λ (t : Bool). t ≡ false) (λ e. let k : is_sendme m.command ≡ 1 = rw e in le-ltb (window_start - step) g.window (omega (arith, b.1))) (λ _. refl))

---- at the hop at place d, of a call at place i
module _ (d i : ℕ) (m : Message) (P P' Q Q' : List Message) where
  pub received-at : (f g g' : Flow) → Both f g P Q → (d ≡ i → g' ≡ received m.command g) → ((d ≡ i → ⊥) → g' ≡ g) → P ≡ only (suc d) (suc i) m ++ P' → Q ≡ Q' → Both f g' P' Q'
  received-at f g g' b same other p q =
      ⊎_elim
      (λ e. let t : eqb (suc i) (suc d) ≡ true = eq-eqb (suc i) (suc d) (omega arith) in
      let u : P ≡ m ∷ P' = p ∙ rw t in
      rw (same e, ← q) (both-received f g P' Q m (rw u at b)))
      (λ n. let t : eqb (suc i) (suc d) ≡ false = ne_eqb (suc i) (suc d) (λ e. n (omega arith)) in
      let u : P ≡ P' = p ∙ rw t in
      rw (other n, ← q, ← u) b)
      (cases_eq d i)

  module _ (f f' g : Flow) (b : Both f g P Q) (p : P' ≡ P ++ only (suc d) (suc i) m) (q : Q' ≡ Q) (other : (d ≡ i → ⊥) → f' ≡ f) where
    sent-other : (d ≡ i → ⊥) → Both f' g P' Q'
    sent-other n =
        let t : eqb (suc i) (suc d) ≡ false = ne_eqb (suc i) (suc d) (λ e. n (omega arith)) in
        let u : P' ≡ P = p ∙ rw (t, append-nil) in
        rw (other n, q, u) b

    sent-there : d ≡ i → P' ≡ P ++ m ∷ []
    sent-there e = let t : eqb (suc i) (suc d) ≡ true = eq-eqb (suc i) (suc d) (omega arith) in p ∙ rw t

    pub sent-at : (d ≡ i → f' ≡ posted m.command f) → is_sendme m.command ≡ 0 → (d ≡ i → is_data m.command ≤ f.window) → Both f' g P' Q'
    sent-at same z le = ⊎_elim (λ e. rw (same e, q, sent-there e) (both-sent f g P Q m b z (le e))) sent-other (cases_eq d i)

    pub acknowledged-at : m ≡ sendme → (d ≡ i → f' ≡ posted 5 (acknowledged f)) → (d ≡ i → step ≤ f.unacknowledged) → Both f' g P' Q'
    acknowledged-at s same le = ⊎_elim (λ e. rw (same e, q, sent-there e, s) (both-acknowledged f g P Q b (le e))) sent-other (cases_eq d i)
