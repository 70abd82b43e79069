-- Lists of tests, and what a message is that passes the tests of a sending end.
use Rattle.std.proofs.Common.{◌≡◌, ℕ, ◌≤◌, Bool, true, false, not, ◌||◌, eqb, ltb, leb, List, [], ◌∷◌, length, Some, None, Option, refl, ap, arith}
use Rattle.std.proofs.lemmas.Bool.{cond_both, and_from, or_right, le-leb}
use Rattle.std.proofs.lemmas.Bool.Decides.{nat_tests}
use Rattle.cell.specs.Payload.{Message}
use Rattle.cell.specs.declared.command.Way.{Way}
use Rattle.model.specs.Lists.{first_of}
use Rattle.model.specs.Messages.{is_data, may_send, streamless}
use Rattle.model.specs.Streams.{Streams, client_sends, relay_sends, is_broken}
use Rattle.model.specs.Flows.{Flow, step, message_limit}
use Rattle.model.proofs.Sealing.{fits}

module _ {A : Type 0} where
  abbrev pub AllFail : List (Bool × A) → Type 0
  AllFail [] = Unit {0}
  AllFail (t ∷ ts) = (t.0 ≡ false) × AllFail ts

  abbrev EachMay : (A → Type 0) → List (Bool × A) → Type 0
  EachMay P [] = Unit {0}
  EachMay P (t ∷ ts) = P t.1 × EachMay P ts

  pub first-of : (P : Option A → Type 0) (ts : List (Bool × A)) → EachMay (λ n. P (Some n)) ts → (AllFail ts → P None) → P (first_of ts)
  first-of P [] each none = none tt
  first-of P (t ∷ ts) each none = cond_both t.0 (Some t.1) (first_of ts) P (λ _. each.0) (λ e. first-of P ts each.1 (λ a. none (e, a)))

---- the tests of a sending end
abbrev pub sending_tests : Bool → Option Streams → Flow → Bool → Message → List (Bool × ℕ)
sending_tests allowed streams f worn m =
    (not allowed, 5) ∷ (ltb 498 (length m.content), 6) ∷ (is_broken streams, 8) ∷ (ltb f.window (is_data m.command), 9) ∷ (leb message_limit f.sent || worn, 10) ∷ []

abbrev pub acknowledge_tests : Flow → Bool → List (Bool × ℕ)
acknowledge_tests f worn = (ltb f.unacknowledged step, 12) ∷ (leb message_limit f.sent || worn, 10) ∷ []

-- a message whose sending no stream rule breaks has stream 0 where there is none
stream-rule : (c n : ℕ) (o : Option Streams) → ((streamless c ≡ true) → eqb n 0 ≡ false → o ≡ None) → is_broken o ≡ false → (not (streamless c) || eqb n 0) ≡ true
stream-rule c n o k b = go (streamless c) (eqb n 0) refl refl
  where
    go : (s z : Bool) → streamless c ≡ s → eqb n 0 ≡ z → (not s || z) ≡ true
    go true true p q = refl
    go true false p q = let u : is_broken o ≡ true = ap is_broken (k p q) in let z : ◌≡◌ {A = ℕ} 0 1 = cc in absurd (omega arith)
    go false true p q = refl
    go false false p q = refl

pub client-streams : (k c n : ℕ) (s : Streams) → is_broken (client_sends k c n s) ≡ false → (not (streamless c) || eqb n 0) ≡ true
unfolding client_sends streamless
client-streams k c n s b =
    stream-rule c n (client_sends k c n s) (λ t z. let u : eqb c 1 ≡ false = grind (arith, nat_tests) in rw (u, t, z)) b

pub relay-streams : (k c n : ℕ) (s : Streams) → is_broken (relay_sends k c n s) ≡ false → (not (streamless c) || eqb n 0) ≡ true
unfolding relay_sends
relay-streams k c n s b = stream-rule c n (relay_sends k c n s) (λ t z. rw (t, z)) b

-- a message that a sending end lets pass is one of its way
pub host-fits : (w : Way) (m : Message) → may_send w m.command ≡ true → length m.content ≤ 498 → (not (streamless m.command) || eqb m.stream 0) ≡ true → fits w m ≡ true
unfolding fits
host-fits w m h l s =
    and_from (leb (length m.content) 498) _ (le-leb _ 498 l) (and_from (eqb m.command 5 || may_send w m.command) _ (or_right (eqb m.command 5) _ h) s)
