-- The order of a hop's messages: what was on the way, then what a call sends, is what it delivers, then what is on the way.
use Rattle.std.proofs.Common.{◌≡◌, ℕ, zero, suc, ◌-◌, ◌≤◌, false, eqb, List, [], ◌∷◌, ◌++◌, length, get_or, Some, None, Option, sym, refl, ◌∙◌, subst, append-nil, arith}
use Rattle.std.proofs.lemmas.Bool.{cond_both, eqb-true, eqb-false, ne_eqb}
use Rattle.cell.specs.Payload.{Message}
use Rattle.cell.specs.declared.command.Way.{Way}
use Rattle.cell.specs.declared.command.Way.TheVariants.{Forward, Backward}
use Rattle.model.specs.Messages.{sendme}
use Rattle.model.specs.Circuit.{Call, send, carry, reply, bring, acknowledge, destroy, Answer, refused, accepted, delivered}
use Rattle.model.specs.Calls.{asks_for}
use Rattle.model.specs.PlainMachine.{Entry, entry, Rows, entries, Turn, joined, carried, brought, turn, forward_pipe, backward_pipe, pipe}
use Rattle.model.specs.Runs.{is_destroy, handed_out, sends_for, delivers_for}
use Rattle.model.proofs.Pipes.{only, AllWithin, forward-sent, forward-delivered, forward-passed, backward-sent, backward-delivered, backward-passed}

pub sub-one : (i : ℕ) → suc i - 1 ≡ i
sub-one i = omega arith

pub sub-two : (i : ℕ) → suc (suc i) - 2 ≡ i
sub-two i = omega arith

-- what an arrival adds to hop k's log
abbrev pub arrives : ℕ → Option Entry → List Message
arrives k None = []
arrives k (Some e) = only k e.hop e.message

abbrev pub arrives_by : Way → ℕ → Call → Option Entry → List Message
arrives_by w k (send h m) o = []
arrives_by Forward k (carry j) o = arrives k o
arrives_by Backward k (carry j) o = []
arrives_by w k (reply h m) o = []
arrives_by Forward k (bring j) o = []
arrives_by Backward k (bring j) o = arrives k o
arrives_by w k (acknowledge h v) o = []
arrives_by w k destroy o = []

pub delivers-arrives : (w : Way) (k : ℕ) (x : Call) (a : Answer) → delivers_for w k x a ≡ arrives_by w k x (handed_out a)
delivers-arrives w k (send h m) a = refl
delivers-arrives Forward k (carry j) (refused f) = refl
delivers-arrives Forward k (carry j) accepted = refl
delivers-arrives Forward k (carry j) (delivered h m mark) = refl
delivers-arrives Backward k (carry j) a = refl
delivers-arrives w k (reply h m) a = refl
delivers-arrives Forward k (bring j) a = refl
delivers-arrives Backward k (bring j) (refused f) = refl
delivers-arrives Backward k (bring j) accepted = refl
delivers-arrives Backward k (bring j) (delivered h m mark) = refl
delivers-arrives w k (acknowledge h v) a = refl
delivers-arrives w k destroy a = refl

pub arrives-none : (w : Way) (k : ℕ) (x : Call) → arrives_by w k x None ≡ []
arrives-none w k (send h m) = refl
arrives-none Forward k (carry j) = refl
arrives-none Backward k (carry j) = refl
arrives-none w k (reply h m) = refl
arrives-none Forward k (bring j) = refl
arrives-none Backward k (bring j) = refl
arrives-none w k (acknowledge h v) = refl
arrives-none w k destroy = refl

module _ (n : ℕ) (r : Rows Entry) (fn : length r.forward ≡ n) (bn : length r.backward ≡ n) (fa : AllWithin n 1 r.forward) (ba : AllWithin n 1 r.backward) where
  -- the order at a turn
  abbrev ForwardTurn : ℕ → Turn Entry → Type 0
  ForwardTurn k t = forward_pipe k r.forward ≡ arrives k t.arrival ++ forward_pipe k t.rows.forward

  abbrev BackwardTurn : ℕ → Turn Entry → Type 0
  BackwardTurn k t = backward_pipe k r.backward ≡ arrives k t.arrival ++ backward_pipe k t.rows.backward

  carry-order : (i k : ℕ) (row : List Entry) → get_or r.forward i [] ≡ row → ForwardTurn k (carried entries r (suc i) row)
  carry-order i k [] e = refl
  carry-order i k (x ∷ xs) e =
      cond_both (eqb x.hop (suc i)) _ _ (ForwardTurn k)
      (λ t. rw (sub-one i) (forward-delivered k n i 1 (suc i) r.forward x xs fa e (omega arith) (eqb-true _ _ t)))
      (λ t. rw (sub-one i) (forward-passed k n i 1 (suc i) r.forward x xs fa (omega arith) e (omega arith) (eqb-false _ _ t)))

  bring-order : (i k : ℕ) (row : List Entry) → get_or r.backward i [] ≡ row → BackwardTurn k (brought entries r (suc i) row)
  bring-order i k [] e = refl
  bring-order zero k (x ∷ xs) e = backward-delivered k r.backward x xs e
  bring-order (suc i) k (x ∷ xs) e =
      let t : eqb (suc (suc i)) 1 ≡ false = ne_eqb (suc (suc i)) 1 (λ z. omega (arith, z)) in
      rw (t, sub-one (suc i), sub-two i) (backward-passed k i r.backward x xs e)

  reply-order : (i k : ℕ) (m : Message) → suc i ≤ n → backward_pipe k r.backward ++ only k (suc i) m ≡ backward_pipe k (joined (suc i - 1) (entry (suc i) m) r.backward)
  reply-order i k m le = rw (sub-one i) (sym (backward-sent k n i 1 (suc i) r.backward m ba (omega arith) (omega arith)))

  send-order : (i k : ℕ) (m : Message) → suc i ≤ n → forward_pipe k r.forward ++ only k (suc i) m ≡ forward_pipe k (joined 0 (entry (suc i) m) r.forward)
  send-order i k m le = sym (forward-sent k r.forward (entry (suc i) m) (omega arith))

  pub order : (x : Call) → is_destroy x ≡ false → 1 ≤ asks_for x → asks_for x ≤ n → (v : Way) (k : ℕ) → pipe v k r ++ sends_for v k x ≡ arrives_by v k x (turn entries r x).arrival ++ pipe v k (turn entries r x).rows
  order (send zero m) z ge le v k = absurd (omega arith)
  order (send (suc i) m) z ge le Forward k = send-order i k m le
  order (send (suc i) m) z ge le Backward k = append-nil (backward_pipe k r.backward)
  order (carry zero) z ge le v k = absurd (omega arith)
  order (carry (suc i)) z ge le Forward k =
      append-nil (forward_pipe k r.forward) ∙ subst (λ (u : ℕ). ForwardTurn k (carried entries r (suc i) (get_or r.forward u []))) (sym (sub-one i)) (carry-order i k (get_or r.forward i []) refl)
  order (carry (suc i)) z ge le Backward k = append-nil (backward_pipe k r.backward) ∙ carried-still i k (get_or r.forward (suc i - 1) [])
    where
      carried-still : (i k : ℕ) (row : List Entry) → backward_pipe k r.backward ≡ backward_pipe k (carried entries r (suc i) row).rows.backward
      carried-still i k [] = refl
      carried-still i k (x ∷ xs) = cond_both (eqb x.hop (suc i)) _ _ (λ (t : Turn Entry). backward_pipe k r.backward ≡ backward_pipe k t.rows.backward) (λ _. refl) (λ _. refl)
  order (reply zero m) z ge le v k = absurd (omega arith)
  order (reply (suc i) m) z ge le Forward k = append-nil (forward_pipe k r.forward)
  order (reply (suc i) m) z ge le Backward k = reply-order i k m le
  order (bring zero) z ge le v k = absurd (omega arith)
  order (bring (suc i)) z ge le Forward k = append-nil (forward_pipe k r.forward) ∙ brought-still i k (get_or r.backward (suc i - 1) [])
    where
      brought-still : (i k : ℕ) (row : List Entry) → forward_pipe k r.forward ≡ forward_pipe k (brought entries r (suc i) row).rows.forward
      brought-still i k [] = refl
      brought-still i k (x ∷ xs) = cond_both (eqb (suc i) 1) _ _ (λ (t : Turn Entry). forward_pipe k r.forward ≡ forward_pipe k t.rows.forward) (λ _. refl) (λ _. refl)
  order (bring (suc i)) z ge le Backward k =
      append-nil (backward_pipe k r.backward) ∙ subst (λ (u : ℕ). BackwardTurn k (brought entries r (suc i) (get_or r.backward u []))) (sym (sub-one i)) (bring-order i k (get_or r.backward i []) refl)
  order (acknowledge zero w) z ge le v k = absurd (omega arith)
  order (acknowledge (suc i) Forward) z ge le Forward k = append-nil (forward_pipe k r.forward)
  order (acknowledge (suc i) Forward) z ge le Backward k = reply-order i k sendme le
  order (acknowledge (suc i) Backward) z ge le Forward k = send-order i k sendme le
  order (acknowledge (suc i) Backward) z ge le Backward k = append-nil (backward_pipe k r.backward)
  order destroy z ge le v k = let o : ◌≡◌ {A = ℕ} 0 1 = cc in absurd (omega arith)
