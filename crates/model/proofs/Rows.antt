-- The plain machine's rows are those of the postings, call by call.
use Rattle.std.proofs.Common.{◌≡◌, ℕ, zero, suc, ◌-◌, Bool, true, false, cond, eqb, List, [], ◌∷◌, ◌++◌, map, get_or, set, Some, None, Option, refl, ap, ◌∙◌}
use Rattle.std.proofs.lemmas.List.{map-set}
use Rattle.cell.specs.declared.command.Way.TheVariants.{Forward, Backward}
use Rattle.model.specs.Messages.{sendme}
use Rattle.model.specs.Ends.{Rules}
use Rattle.model.specs.Circuit.{Circuit, Call, send, carry, reply, bring, acknowledge, destroy}
use Rattle.model.specs.PlainMachine.{Entry, Rows, entries, Turn, joined, carried, brought, turn}
use Rattle.model.specs.Runs.{Posting, posted, relayed, journal}

abbrev pub entry_of : Posting → Entry
entry_of p = p.entry

-- the entries of rows of postings
abbrev pub plain : Rows Posting → Rows Entry
plain r = record { forward = map (map entry_of) r.forward; backward = map (map entry_of) r.backward }

abbrev pub plain_arrival : Option Posting → Option Entry
plain_arrival None = None
plain_arrival (Some p) = Some p.entry

abbrev Plain : Turn Posting → Turn Entry → Type 0
Plain t u = (plain t.rows ≡ u.rows) × (plain_arrival t.arrival ≡ u.arrival)

plain-cond : (b : Bool) (t v : Turn Posting) (u w : Turn Entry) → Plain t u → Plain v w → Plain (cond b t v) (cond b u w)
plain-cond true t v u w p q = p
plain-cond false t v u w p q = q

map_push : {A B : Type 0} (f : A → B) (xs : List A) (x : A) → map f (xs ++ x ∷ []) ≡ map f xs ++ f x ∷ []
map_push f [] x = refl
map_push {A} {B} f (y ∷ xs) x = ap (λ (l : List B). f y ∷ l) (map_push f xs x)

pub row-entries : (rs : List (List Posting)) (i : ℕ) → map entry_of (get_or rs i []) ≡ get_or (map (map entry_of) rs) i []
row-entries [] i = refl
row-entries (r ∷ rs) zero = refl
row-entries (r ∷ rs) (suc i) = row-entries rs i

joined-entries : (rs : List (List Posting)) (i : ℕ) (p : Posting) → map (map entry_of) (joined i p rs) ≡ joined i p.entry (map (map entry_of) rs)
joined-entries rs i p =
    map-set (map entry_of) rs i (get_or rs i [] ++ p ∷ []) ∙ ap (set (map (map entry_of) rs) i) (map_push entry_of (get_or rs i []) p ∙ ap (λ (l : List Entry). l ++ p.entry ∷ []) (row-entries rs i))

emptied-entries : (rs : List (List Posting)) → map (map entry_of) (map (λ (r : List Posting). []) rs) ≡ map (λ (r : List Entry). []) (map (map entry_of) rs)
emptied-entries [] = refl
emptied-entries (r ∷ rs) = ap (λ (l : List (List Entry)). [] ∷ l) (emptied-entries rs)

-- equal rows
same_rows : (a b c d : List (List Entry)) → a ≡ c → b ≡ d → ◌≡◌ {A = Rows Entry} (record { forward = a; backward = b }) (record { forward = c; backward = d })
same_rows a b c d p q = rw (p, q)

module _ {K S : Type 0} (R : Rules K S) (c : Circuit K S) (r : Rows Posting) where
  carried-entries : (j : ℕ) (row : List Posting) → Plain (carried (journal R c) r j row) (carried entries (plain r) j (map entry_of row))
  carried-entries j [] = (refl, refl)
  carried-entries j (p ∷ ps) =
      plain-cond (eqb p.entry.hop j) _ _ _ _
      (same_rows _ _ _ _ (map-set (map entry_of) r.forward (j - 1) ps) refl, refl)
      (same_rows _ _ _ _ (joined-entries (set r.forward (j - 1) ps) j (relayed R c Forward j p) ∙ ap (joined j p.entry) (map-set (map entry_of) r.forward (j - 1) ps)) refl, refl)

  brought-entries : (j : ℕ) (row : List Posting) → Plain (brought (journal R c) r j row) (brought entries (plain r) j (map entry_of row))
  brought-entries j [] = (refl, refl)
  brought-entries j (p ∷ ps) =
      plain-cond (eqb j 1) _ _ _ _
      (same_rows _ _ _ _ refl (map-set (map entry_of) r.backward (j - 1) ps), refl)
      (same_rows _ _ _ _ refl (joined-entries (set r.backward (j - 1) ps) (j - 2) (relayed R c Backward (j - 1) p) ∙ ap (joined (j - 2) p.entry) (map-set (map entry_of) r.backward (j - 1) ps)), refl)

  pub turn-entries : (x : Call) → Plain (turn (journal R c) r x) (turn entries (plain r) x)
  turn-entries (send h m) = (same_rows _ _ _ _ (joined-entries r.forward 0 (posted R c Forward h m)) refl, refl)
  turn-entries (carry j) = rw (← row-entries r.forward (j - 1)) (carried-entries j (get_or r.forward (j - 1) []))
  turn-entries (reply h m) = (same_rows _ _ _ _ refl (joined-entries r.backward (h - 1) (posted R c Backward h m)), refl)
  turn-entries (bring j) = rw (← row-entries r.backward (j - 1)) (brought-entries j (get_or r.backward (j - 1) []))
  turn-entries (acknowledge h Forward) = (same_rows _ _ _ _ refl (joined-entries r.backward (h - 1) (posted R c Backward h sendme)), refl)
  turn-entries (acknowledge h Backward) = (same_rows _ _ _ _ (joined-entries r.forward 0 (posted R c Forward h sendme)) refl, refl)
  turn-entries destroy = (same_rows _ _ _ _ (emptied-entries r.forward) (emptied-entries r.backward), refl)
