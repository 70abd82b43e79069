-- What a call of the plain machine does to a hop's pipe.
use Rattle.std.proofs.Common.{◌≡◌, ℕ, zero, suc, ◌+◌, ◌<◌, ◌≤◌, cond, eqb, List, [], ◌∷◌, ◌++◌, length, get_or, set, sym, refl, ap, ◌∙◌, subst, ⊎_elim, append_assoc, append-nil, arith}
use Rattle.std.proofs.lemmas.Bool.{cases_eq, ne_eqb}
use Rattle.cell.specs.Payload.{Message}
use Rattle.model.specs.PlainMachine.{Entry, entry, joined, of_hop, forward_pipe, backward_pipe}

-- a message, if its hop h is k
abbrev pub only : ℕ → ℕ → Message → List Message
only k h m = cond (eqb h k) (m ∷ []) []

-- the entries of row j are for the hops j to n
abbrev pub Within : ℕ → ℕ → List Entry → Type 0
Within n j [] = Unit {0}
Within n j (e ∷ es) = (j ≤ e.hop) × (e.hop ≤ n) × Within n j es

abbrev pub AllWithin : ℕ → ℕ → List (List Entry) → Type 0
AllWithin n j [] = Unit {0}
AllWithin n j (r ∷ rs) = Within n j r × AllWithin n (suc j) rs

of-hop-push : (k : ℕ) (r : List Entry) (e : Entry) → of_hop k (r ++ e ∷ []) ≡ of_hop k r ++ only k e.hop e.message
of-hop-push k [] e = append-nil (only k e.hop e.message)
of-hop-push k (x ∷ r) e = ap (λ (l : List Message). only k x.hop x.message ++ l) (of-hop-push k r e) ∙ sym (append_assoc (only k x.hop x.message) (of_hop k r) (only k e.hop e.message))

of-hop-none : (k n j : ℕ) (r : List Entry) → k < j → Within n j r → of_hop k r ≡ []
of-hop-none k n j [] lt a = refl
of-hop-none k n j (e ∷ r) lt a = rw (ne_eqb e.hop k (λ q. omega (arith, q, a.0))) (of-hop-none k n j r lt a.2)

forward-none : (k n j : ℕ) (rs : List (List Entry)) → k < j → AllWithin n j rs → forward_pipe k rs ≡ []
forward-none k n j [] lt a = refl
forward-none k n j (r ∷ rs) lt a = rw (forward-none k n (suc j) rs (omega arith) a.1, of-hop-none k n j r lt a.0)

backward-none : (k n j : ℕ) (rs : List (List Entry)) → k < j → AllWithin n j rs → backward_pipe k rs ≡ []
backward-none k n j [] lt a = refl
backward-none k n j (r ∷ rs) lt a = rw (of-hop-none k n j r lt a.0, backward-none k n (suc j) rs (omega arith) a.1)

---- forward
pub forward-sent : (k : ℕ) (rs : List (List Entry)) (e : Entry) → 0 < length rs → forward_pipe k (joined 0 e rs) ≡ forward_pipe k rs ++ only k e.hop e.message
forward-sent k [] e lt = absurd (omega arith)
forward-sent k (r ∷ rs) e lt = ap (λ (l : List Message). forward_pipe k rs ++ l) (of-hop-push k r e) ∙ sym (append_assoc (forward_pipe k rs) (of_hop k r) (only k e.hop e.message))

delivered-first : (k n j : ℕ) (x : Entry) (xs : List Entry) (rs : List (List Entry)) → AllWithin n (suc j) rs → x.hop ≡ j → forward_pipe k rs ++ (only k x.hop x.message ++ of_hop k xs) ≡ only k x.hop x.message ++ (forward_pipe k rs ++ of_hop k xs)
delivered-first k n j x xs rs a q =
    ⊎_elim (λ e. let z : forward_pipe k rs ≡ [] = forward-none k n (suc j) rs (omega arith) a in rw z) (λ u. rw (ne_eqb x.hop k u)) (cases_eq x.hop k)

pub forward-delivered : (k n i j h : ℕ) (rs : List (List Entry)) (x : Entry) (xs : List Entry) → AllWithin n j rs → get_or rs i [] ≡ x ∷ xs → h ≡ i + j → x.hop ≡ h → forward_pipe k rs ≡ only k x.hop x.message ++ forward_pipe k (set rs i xs)
forward-delivered k n i j h [] x xs a e q w = let z : ◌≡◌ {A = ℕ} 0 1 = cc in absurd (omega arith)
forward-delivered k n zero j h (r ∷ rs) x xs a e q w =
    let u : of_hop k r ≡ only k x.hop x.message ++ of_hop k xs = ap (of_hop k) e in
    ap (λ (l : List Message). forward_pipe k rs ++ l) u ∙ delivered-first k n j x xs rs a.1 (omega arith)
forward-delivered k n (suc i) j h (r ∷ rs) x xs a e q w =
    ap (λ (l : List Message). l ++ of_hop k r) (forward-delivered k n i (suc j) h rs x xs a.1 e (omega arith) w) ∙ append_assoc (only k x.hop x.message) (forward_pipe k (set rs i xs)) (of_hop k r)

pub forward-passed : (k n i j h : ℕ) (rs : List (List Entry)) (x : Entry) (xs : List Entry) → AllWithin n j rs → length rs + j ≡ suc n → get_or rs i [] ≡ x ∷ xs → h ≡ i + j → (x.hop ≡ h → ⊥) → forward_pipe k rs ≡ forward_pipe k (joined (suc i) x (set rs i xs))
forward-passed k n i j h [] x xs a l e q w = let z : ◌≡◌ {A = ℕ} 0 1 = cc in absurd (omega arith)
forward-passed k n zero j h (r ∷ []) x xs a l e q w =
    let b : Within n j (x ∷ xs) = subst (Within n j) e a.0 in
    absurd (w (omega (arith, b.0, b.1)))
forward-passed k n zero j h (r ∷ s ∷ rs) x xs a l e q w =
    let u : of_hop k r ≡ only k x.hop x.message ++ of_hop k xs = ap (of_hop k) e in
    rw (u, of-hop-push k s x) (simp append_assoc)
forward-passed k n (suc i) j h (r ∷ rs) x xs a l e q w =
    ap (λ (l : List Message). l ++ of_hop k r) (forward-passed k n i (suc j) h rs x xs a.1 (omega arith) e (omega arith) w)

---- backward
pub backward-sent : (k n i j h : ℕ) (rs : List (List Entry)) (m : Message) → AllWithin n j rs → i < length rs → h ≡ i + j → backward_pipe k (joined i (entry h m) rs) ≡ backward_pipe k rs ++ only k h m
backward-sent k n i j h [] m a lt q = absurd (omega arith)
backward-sent k n zero j h (r ∷ rs) m a lt q =
    ⊎_elim
    (λ u. let z : backward_pipe k rs ≡ [] = backward-none k n (suc j) rs (omega arith) a.1 in rw z (append-nil _ ∙ (of-hop-push k r (entry h m) ∙ ap (λ (l : List Message). l ++ only k h m) (sym (append-nil (of_hop k r))))))
    (λ u. rw (of-hop-push k r (entry h m), ne_eqb h k u, append-nil (of_hop k r), append-nil (of_hop k r ++ backward_pipe k rs)))
    (cases_eq h k)
backward-sent k n (suc i) j h (r ∷ rs) m a lt q =
    ap (λ (l : List Message). of_hop k r ++ l) (backward-sent k n i (suc j) h rs m a.1 (omega arith) (omega arith)) ∙ sym (append_assoc (of_hop k r) (backward_pipe k rs) (only k h m))

pub backward-delivered : (k : ℕ) (rs : List (List Entry)) (x : Entry) (xs : List Entry) → get_or rs 0 [] ≡ x ∷ xs → backward_pipe k rs ≡ only k x.hop x.message ++ backward_pipe k (set rs 0 xs)
backward-delivered k [] x xs e = let z : ◌≡◌ {A = ℕ} 0 1 = cc in absurd (omega arith)
backward-delivered k (r ∷ rs) x xs e =
    ap (λ (l : List Message). l ++ backward_pipe k rs) (ap (of_hop k) e) ∙ append_assoc (only k x.hop x.message) (of_hop k xs) (backward_pipe k rs)

pub backward-passed : (k i : ℕ) (rs : List (List Entry)) (x : Entry) (xs : List Entry) → get_or rs (suc i) [] ≡ x ∷ xs → backward_pipe k rs ≡ backward_pipe k (joined i x (set rs (suc i) xs))
backward-passed k i [] x xs e = let z : ◌≡◌ {A = ℕ} 0 1 = cc in absurd (omega arith)
backward-passed k zero (r ∷ []) x xs e = let z : ◌≡◌ {A = ℕ} 0 1 = cc in absurd (omega arith)
backward-passed k zero (r ∷ s ∷ rs) x xs e =
    let u : of_hop k s ≡ only k x.hop x.message ++ of_hop k xs = ap (of_hop k) e in
    rw (u, of-hop-push k r x) (simp append_assoc)
backward-passed k (suc i) (r ∷ rs) x xs e = ap (λ (l : List Message). of_hop k r ++ l) (backward-passed k i rs x xs e)
