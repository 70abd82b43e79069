-- The stream rules, command by command.
use Rattle.std.proofs.Common.{◌≡◌, ℕ, true, false, cond, not, eqb, ◌⊎◌, List, [], ◌∷◌, is_some, Some, None, Option, refl, inl, inr}
use Rattle.cell.specs.Commands.{command_byte}
use Rattle.cell.specs.declared.command.Command.{Command}
use Rattle.cell.specs.declared.command.Command.TheVariants.{Begin, Data, End, Connected, Sendme, Drop}
use Rattle.cell.specs.declared.command.Way.{Way}
use Rattle.cell.specs.declared.command.Way.TheVariants.{Forward, Backward}
use Rattle.model.specs.Messages.{streamless}
use Rattle.model.specs.Streams.{Streams, State, begun, opened, StreamRecord, is_of, in_front, changed, forbidden, effect, applied, with_records, sends, receives, client_sends, relay_sends, client_receives, relay_receives, mark_of, is_broken}
use Rattle.streams.specs.Begins.{client_begins, relay_begins}

-- no record lets a BEGIN pass
not-begun-again : (s : State) → effect s 1 ≡ forbidden
not-begun-again begun = refl
not-begun-again opened = refl

no-begin : (n k : ℕ) (rs : List StreamRecord) → applied 1 n k rs ≡ None
no-begin n k [] = refl
no-begin n k (r ∷ rs) =
    let not_here = not-begun-again r.state in
    let not_later = no-begin n k rs in
    elim (is_of n k r) as (λ b. cond b (changed r rs (effect r.state 1)) (in_front r (applied 1 n k rs)) ≡ None)
    [ true ↦ rw not_here refl | false ↦ rw not_later refl ]

module _ (w : Way) (c : Command) (k n : ℕ) (s : Streams) where
  -- BEGIN, which alone makes the two ends differ
  pub sends_begin : c ≡ Begin → w ≡ Forward → sends w k (command_byte c) n s ≡ client_begins k n s
  unfolding client_sends
  sends_begin e f = rw (e, f) refl

  pub sends_no_begin : c ≡ Begin → w ≡ Backward → sends w k (command_byte c) n s ≡ None
  unfolding relay_sends streamless
  sends_no_begin e f = let none = no-begin n k s.records in rw (e, f, none) refl

  pub receives_begin : c ≡ Begin → w ≡ Forward → receives w k (command_byte c) n s ≡ relay_begins k n s
  unfolding relay_receives
  receives_begin e f = rw (e, f) refl

  pub receives_no_begin : c ≡ Begin → w ≡ Backward → receives w k (command_byte c) n s ≡ None
  unfolding client_receives streamless
  receives_no_begin e f = let none = no-begin n k s.records in rw (e, f, none) refl

-- SENDME and DROP belong to no stream, the others to a record
module _ (k n : ℕ) (s : Streams) where
  pub sends_alone : (w : Way) (c : Command) → (c ≡ Sendme) ⊎ (c ≡ Drop) → sends w k (command_byte c) n s ≡ cond (eqb n 0) (Some s) None
  unfolding client_sends relay_sends streamless
  sends_alone Forward c (inl e) = rw e refl
  sends_alone Forward c (inr e) = rw e refl
  sends_alone Backward c (inl e) = rw e refl
  sends_alone Backward c (inr e) = rw e refl

  pub receives_alone : (w : Way) (c : Command) → (c ≡ Sendme) ⊎ (c ≡ Drop) → receives w k (command_byte c) n s ≡ Some s
  unfolding relay_receives client_receives streamless
  receives_alone Forward c (inl e) = rw e refl
  receives_alone Forward c (inr e) = rw e refl
  receives_alone Backward c (inl e) = rw e refl
  receives_alone Backward c (inr e) = rw e refl

  pub sends_on_record : (w : Way) (c : Command) → (c ≡ Connected) ⊎ ((c ≡ Data) ⊎ (c ≡ End)) → sends w k (command_byte c) n s ≡ with_records s (applied (command_byte c) n k s.records)
  unfolding client_sends relay_sends streamless
  sends_on_record Forward c (inl e) = rw e refl
  sends_on_record Forward c (inr (inl e)) = rw e refl
  sends_on_record Forward c (inr (inr e)) = rw e refl
  sends_on_record Backward c (inl e) = rw e refl
  sends_on_record Backward c (inr (inl e)) = rw e refl
  sends_on_record Backward c (inr (inr e)) = rw e refl

  pub receives_on_record : (w : Way) (c : Command) → (c ≡ Connected) ⊎ ((c ≡ Data) ⊎ (c ≡ End)) → receives w k (command_byte c) n s ≡ with_records s (applied (command_byte c) n k s.records)
  unfolding relay_receives client_receives streamless
  receives_on_record Forward c (inl e) = rw e refl
  receives_on_record Forward c (inr (inl e)) = rw e refl
  receives_on_record Forward c (inr (inr e)) = rw e refl
  receives_on_record Backward c (inl e) = rw e refl
  receives_on_record Backward c (inr (inl e)) = rw e refl
  receives_on_record Backward c (inr (inr e)) = rw e refl

-- a rule that looks for a record
pub passes_on_record : (s : Streams) (o : Option (List StreamRecord)) → not (is_broken (with_records s o)) ≡ is_some o
passes_on_record s None = refl
passes_on_record s (Some rs) = refl

pub mark_from : (o : Option Streams) → mark_of o ≡ cond (not (is_broken o)) 0 1
mark_from None = refl
mark_from (Some t) = refl

-- what a rule says of each command
pub ruleset rule_of_sending = (sends_begin, sends_no_begin, sends_alone, sends_on_record, passes_on_record)

pub ruleset rule_of_receiving = (receives_begin, receives_no_begin, receives_alone, receives_on_record, passes_on_record, mark_from)
