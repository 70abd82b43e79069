-- The client's operations keep the closing order.
use Rattle.std.proofs.Common.{◌≡◌, ℕ, ◌<◌, ◌≤◌, Bool, true, false, cond, ◌&&◌, eqb, ltb, List, [], ◌∷◌, ◌++◌, length, IfSome, Some, None, Option, refl, arith}
use Rattle.std.specs.List.{AllByRecursion}
use Rattle.std.proofs.ByRecursion.{All-push, All-weaker}
use Rattle.std.proofs.lemmas.Bool.Decides.{nat_tests}
use Rattle.model.specs.Streams.{Streams, StreamRecord, begun, Effect, becomes, frees, forbidden, is_of, effect, changed, in_front, applied, is_recorded, with_records, started, capacity, or_unchanged}
use Rattle.cell.specs.declared.command.Way.{Way}
use Rattle.cell.specs.declared.command.Way.TheVariants.{Forward, Backward}
use Rattle.streams.specs.Begins.{client_begins}
use Rattle.streams.specs.Order.{EachOnce, Ascending, ClosingOrder, KeepsClosingOrder, KeptBySending, KeptByReceiving}

abbrev SomeHas : (List StreamRecord → Type 0) → Option (List StreamRecord) → Type 0
SomeHas P o = IfSome o P

-- what holds of every number holds after a command
module _ (P : ℕ → Type 0) where
  abbrev Numbers : List StreamRecord → Type 0
  Numbers rs = AllByRecursion (λ r. P r.number) rs

  numbers-changed : (r : StreamRecord) (rs : List StreamRecord) (e : Effect) → P r.number → Numbers rs → SomeHas Numbers (changed r rs e)
  numbers-changed r rs (becomes s) p ps = (p, ps)
  numbers-changed r rs frees p ps = ps
  numbers-changed r rs forbidden p ps = tt

  numbers-in-front : (r : StreamRecord) (o : Option (List StreamRecord)) → P r.number → SomeHas Numbers o → SomeHas Numbers (in_front r o)
  numbers-in-front r None p ps = tt
  numbers-in-front r (Some rs) p ps = (p, ps)

  numbers-applied : (c n k : ℕ) (rs : List StreamRecord) → Numbers rs → SomeHas Numbers (applied c n k rs)
  numbers-applied c n k [] ps = tt
  numbers-applied c n k (r ∷ rs) ps =
      elim (is_of n k r) as (λ b. SomeHas Numbers (cond b (changed r rs (effect r.state c)) (in_front r (applied c n k rs))))
      [ true ↦ numbers-changed r rs (effect r.state c) ps.0 ps.1 | false ↦ numbers-in-front r (applied c n k rs) ps.0 (numbers-applied c n k rs ps.1) ]

-- so does the order
ascending-changed : (r : StreamRecord) (rs : List StreamRecord) (e : Effect) → Ascending (r ∷ rs) → SomeHas Ascending (changed r rs e)
ascending-changed r rs (becomes s) up = up
ascending-changed r rs frees up = up.1
ascending-changed r rs forbidden up = tt

ascending-in-front : (r : StreamRecord) (o : Option (List StreamRecord)) → SomeHas (AllByRecursion (λ later. r.number < later.number)) o → SomeHas Ascending o → SomeHas Ascending (in_front r o)
ascending-in-front r None above up = tt
ascending-in-front r (Some rs) above up = (above, up)

ascending-applied : (c n k : ℕ) (rs : List StreamRecord) → Ascending rs → SomeHas Ascending (applied c n k rs)
ascending-applied c n k [] up = tt
ascending-applied c n k (r ∷ rs) up =
    elim (is_of n k r) as (λ b. SomeHas Ascending (cond b (changed r rs (effect r.state c)) (in_front r (applied c n k rs)))) [
      | true ↦ ascending-changed r rs (effect r.state c) up
      | false ↦ ascending-in-front r (applied c n k rs) (numbers-applied (λ m. r.number < m) c n k rs up.0) (ascending-applied c n k rs up.1)
    ]

ascending-push : (rs : List StreamRecord) (x : StreamRecord) → AllByRecursion (λ r. r.number < x.number) rs → Ascending rs → Ascending (rs ++ x ∷ [])
ascending-push [] x below up = (tt, tt)
ascending-push (r ∷ rs) x below up = (All-push (λ later. r.number < later.number) rs x up.0 below.0, ascending-push rs x below.1 up.1)

not-recorded : (n : ℕ) (rs : List StreamRecord) → AllByRecursion (λ later. n < later.number) rs → is_recorded n rs ≡ false
not-recorded n [] above = refl
not-recorded n (r ∷ rs) above =
    let other : eqb r.number n ≡ false = grind (arith, nat_tests, above.0) in
    rw (other, not-recorded n rs above.1)

once-from-ascending : (rs : List StreamRecord) → Ascending rs → EachOnce rs
once-from-ascending [] up = tt
once-from-ascending (r ∷ rs) up = (not-recorded r.number rs up.0, once-from-ascending rs up.1)

closing-order : (s : Streams) → Ascending s.records → AllByRecursion (λ r. r.number ≤ s.highest) s.records → ClosingOrder s
closing-order s up most = record { once = once-from-ascending s.records up; ascending = up; highest = most }

with-records-keeps : (s : Streams) (o : Option (List StreamRecord)) → SomeHas Ascending o → SomeHas (AllByRecursion (λ r. r.number ≤ s.highest)) o → KeepsClosingOrder s (or_unchanged s (with_records s o))
with-records-keeps s None up most was = was
with-records-keeps s (Some rs) up most was = closing-order (record { records = rs; highest = s.highest }) up most

on-record-keeps : (c n k : ℕ) (s : Streams) → KeepsClosingOrder s (or_unchanged s (with_records s (applied c n k s.records)))
on-record-keeps c n k s was =
    with-records-keeps s (applied c n k s.records) (ascending-applied c n k s.records was.ascending)
    (numbers-applied (λ m. m ≤ s.highest) c n k s.records was.highest) was

begin-keeps : (n k : ℕ) (s : Streams) (above room : Bool) → above ≡ ltb s.highest n
    → KeepsClosingOrder s (or_unchanged s (cond (above && room) (Some (record { records = started n k s.records; highest = n })) None))
begin-keeps n k s false room e was = was
begin-keeps n k s true false e was = was
begin-keeps n k s true true e was =
    let above : s.highest < n = grind (arith, nat_tests) in
    let x : StreamRecord = record { number = n; hop = k; state = begun } in
    let below = All-weaker (λ r. r.number ≤ s.highest) (λ r. r.number < n) (λ r h. omega arith) s.records was.highest in
    let most = All-weaker (λ r. r.number < n) (λ r. r.number ≤ n) (λ r h. omega arith) s.records below in
    closing-order (record { records = started n k s.records; highest = n }) (ascending-push s.records x below was.ascending) (All-push (λ r. r.number ≤ n) s.records x most (omega arith))

pub change_keeps : (c n k : ℕ) (s t : Streams) → t ≡ or_unchanged s (with_records s (applied c n k s.records)) → KeepsClosingOrder s t
change_keeps c n k s t e = rw e (on-record-keeps c n k s)

pub begin_keeps : (k n : ℕ) (s t : Streams) → t ≡ or_unchanged s (client_begins k n s) → KeepsClosingOrder s t
begin_keeps k n s t e = rw e (begin-keeps n k s (ltb s.highest n) (ltb (length s.records) capacity) refl)

-- what keeps the client's closing order does so whichever end it is
pub kept_by_sending : (w : Way) (s t : Streams) → KeepsClosingOrder s t → KeptBySending w s t
kept_by_sending Forward s t kept = kept
kept_by_sending Backward s t kept = tt

pub kept_by_receiving : (w : Way) (s t : Streams) → KeepsClosingOrder s t → KeptByReceiving w s t
kept_by_receiving Forward s t kept = tt
kept_by_receiving Backward s t kept = kept
