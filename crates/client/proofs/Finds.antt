-- What becomes of a payload at the client, by the tests that the code makes.
use Rattle.std.proofs.Common.{◌≡◌, ℕ, suc, ◌+◌, Bool, true, false, cond, not, eqb, List, length, Some, None, Ok, Option, sym, refl, add-one, arith}
use Rattle.std.proofs.lemmas.Bool.{eq-eqb}
use Rattle.model.specs.Ends.{Rules, End, worn_at, recognised_at, unwrapped}
use Rattle.model.specs.Flows.{Flow, overruns}
use Rattle.model.specs.Streams.{mark_of, client_receives}
use Rattle.model.specs.Messages.{well_formed}
use Rattle.cell.specs.declared.command.Way.TheVariants.{Backward}
use Rattle.cell.specs.Payload.{Message, command_of, stream_of, message_of}
use Rattle.model.specs.Circuit.{Client, Refusal}
use Rattle.model.specs.Calls.{refusal, Outcome, stops, delivers, flow_at, client_outcome, client_delivery, client_took}
use Rattle.rows.specs.Rows.{found_at, seek_left}
use Rattle.messages.specs.Delivery.{handed, arrives}
use Rattle.client.specs.Answers.{client_taken, client_left}

module _ {K S : Type 0} (R : Rules K S) (c : Client K S) (p : List ℕ) (o : Outcome) (long : length p ≡ 509) (worn : worn_at c.backward ≡ None) where
  pub fate-some : (d : ℕ) → recognised_at R c.backward p ≡ Some d → cond (eqb (length p) 509) (client_outcome R c p) o ≡ client_delivery R c d (unwrapped R (suc d) c.backward p)
  fate-some d e = rw (eq-eqb (length p) 509 long, worn, e)

module _ {K S : Type 0} (R : Rules K S) (es : List (End K S)) (p : List ℕ) (o : Option ℕ) (long : length p ≡ 509) (e : o ≡ found_at R es p) where
  pub found-place : recognised_at R es p ≡ o
  found-place = sym (rw (eq-eqb (length p) 509 long) at e)

  pub found_left : (d : ℕ) → o ≡ Some d → seek_left R es p ≡ unwrapped R (suc d) es p
  found_left d at = rw (eq-eqb (length p) 509 long, found-place, at, add-one)

-- what is delivered is the client's delivery
pub arrives-here : {K S : Type 0} (R : Rules K S) (c : Client K S) (d : ℕ) (f : Flow) (y : List ℕ) → length y ≡ 509 → f ≡ flow_at R c d
    → arrives Backward (d + 1) f c.streams y ≡ client_delivery R c d y
arrives-here R c d f y l e = rw (eq-eqb (length y) 509 l, e)

-- an outcome that hands something out is no refusal
handed_out_lem : {X : Type 0} (k : ℕ) (a b : Bool) (f g : Refusal) (m : Message) (mark : ℕ) (h : (ℕ × ℕ × ℕ × ℕ) × ℕ) (F : Outcome → X)
    → Ok h ≡ handed k (cond a (stops f) (cond b (stops g) (delivers m mark))) → F (delivers m mark) ≡ F (cond a (stops f) (cond b (stops g) (delivers m mark)))
handed_out_lem k true b f g m mark h F e = absurd (let z : ◌≡◌ {A = ℕ} 0 1 = cc in omega arith)
handed_out_lem k false true f g m mark h F e = absurd (let z : ◌≡◌ {A = ℕ} 0 1 = cc in omega arith)
handed_out_lem k false false f g m mark h F e = refl

pub took-here : {K S : Type 0} (R : Rules K S) (c : Client K S) (d : ℕ) (y p : List ℕ) (h : (ℕ × ℕ × ℕ × ℕ) × ℕ) → Ok h ≡ handed (d + 1) (client_delivery R c d y)
    → (client_took R c d y ≡ client_taken R c d y (client_delivery R c d y)) × (y ≡ client_left p y (client_delivery R c d y))
took-here R c d y p h e =
    let a = not (well_formed Backward y) in
    let b = overruns (command_of y) (flow_at R c d) in
    let mark = mark_of (client_receives (d + 1) (command_of y) (stream_of y) c.streams) in (
      handed_out_lem (d + 1) a b (refusal 14 (d + 1)) (refusal 15 (d + 1)) (message_of y) mark h (client_taken R c d y) e,
      handed_out_lem (d + 1) a b (refusal 14 (d + 1)) (refusal 15 (d + 1)) (message_of y) mark h (client_left p y) e,
    )
