-- The links still to cross, and the links that hold a cell.
use Rattle.std.proofs.Common.{◌≡◌, ℕ, zero, suc, ◌+◌, ◌-◌, ◌*◌, ◌<◌, ◌≤◌, Bool, true, false, ◌||◌, List, [], ◌∷◌, ◌++◌, length, get_or, set, Some, refl, ap, ◌∙◌, subst, append-nil, suc-mul, mul-suc, arith, length-append}
use Rattle.std.proofs.lemmas.Bool.{cond-true, cond-false, or_from, or_left, or_right, or_parts, lt-ltb, le-ltb, ltb-true, ltb-false}
use Rattle.model.specs.Lists.{nth}
use Rattle.model.specs.Circuit.{Line}
use Rattle.model.specs.PlainMachine.{Entry, joined, forward_pipe, backward_pipe, forward_row, forward_crossings, backward_crossings}
use Rattle.model.specs.Law.{holds, any_holds, farthest, nearest}
use Rattle.model.proofs.Pipes.{Within, AllWithin}

-- as many cells on each link as entries in its row
abbrev pub Matches : List Line → List (List Entry) → Type 0
Matches [] [] = Unit {0}
Matches [] (r ∷ rs) = ⊥
Matches (l ∷ ls) [] = ⊥
Matches (l ∷ ls) (r ∷ rs) = (length l.cells ≡ length r) × Matches ls rs

abbrev pub waiting : List (List Entry) → ℕ
waiting [] = 0
waiting (r ∷ rs) = length r + waiting rs

---- none waits
pub none-holds : (ls : List Line) (rs : List (List Entry)) → Matches ls rs → waiting rs ≡ 0 → any_holds ls ≡ false
none-holds [] [] m e = refl
none-holds [] (r ∷ rs) m e = elim m [ ]
none-holds (l ∷ ls) [] m e = elim m [ ]
none-holds (l ∷ ls) (r ∷ rs) m e = or_from (holds l) (any_holds ls) (le-ltb 0 (length l.cells) (omega (arith, m.0))) (none-holds ls rs m.1 (omega arith))

pub forward-empty : (k : ℕ) (rs : List (List Entry)) → waiting rs ≡ 0 → forward_pipe k rs ≡ []
forward-empty k [] e = refl
forward-empty k ([] ∷ rs) e = append-nil (forward_pipe k rs) ∙ forward-empty k rs (omega arith)
forward-empty k ((x ∷ r) ∷ rs) e = absurd (omega arith)

pub backward-empty : (k : ℕ) (rs : List (List Entry)) → waiting rs ≡ 0 → backward_pipe k rs ≡ []
backward-empty k [] e = refl
backward-empty k ([] ∷ rs) e = backward-empty k rs (omega arith)
backward-empty k ((x ∷ r) ∷ rs) e = absurd (omega arith)

---- some wait
pub some-hold : (ls : List Line) (rs : List (List Entry)) → Matches ls rs → 0 < waiting rs → any_holds ls ≡ true
some-hold [] [] m e = absurd (omega arith)
some-hold [] (r ∷ rs) m e = elim m [ ]
some-hold (l ∷ ls) [] m e = elim m [ ]
some-hold (l ∷ ls) ([] ∷ rs) m e = or_right (holds l) (any_holds ls) (some-hold ls rs m.1 (omega arith))
some-hold (l ∷ ls) ((x ∷ r) ∷ rs) m e = or_left (holds l) (any_holds ls) (lt-ltb 0 (length l.cells) (omega (arith, m.0)))

---- crossings are 0 exactly where none waits
pub forward-still : (j : ℕ) (rs : List (List Entry)) → forward_crossings j rs ≡ 0 → waiting rs ≡ 0
forward-still j [] e = refl
forward-still j ([] ∷ rs) e = omega (arith, forward-still (suc j) rs (omega arith))
forward-still j ((x ∷ r) ∷ rs) e = absurd (omega arith)

pub forward-some : (j : ℕ) (rs : List (List Entry)) → 0 < forward_crossings j rs → 0 < waiting rs
forward-some j [] e = absurd (omega arith)
forward-some j ([] ∷ rs) e = omega (arith, forward-some (suc j) rs (omega arith))
forward-some j ((x ∷ r) ∷ rs) e = omega arith

pub backward-still : (j : ℕ) (rs : List (List Entry)) → backward_crossings (suc j) rs ≡ 0 → waiting rs ≡ 0
backward-still j [] e = refl
backward-still j ([] ∷ rs) e = omega (arith, backward-still (suc j) rs (omega arith))
backward-still j ((x ∷ r) ∷ rs) e = absurd (omega (arith, suc-mul j (suc (length r))))

pub backward-some : (j : ℕ) (rs : List (List Entry)) → 0 < backward_crossings (suc j) rs → 0 < waiting rs
backward-some j [] e = absurd (omega arith)
backward-some j ([] ∷ rs) e = omega (arith, backward-some (suc j) rs (omega arith))
backward-some j ((x ∷ r) ∷ rs) e = omega arith

---- the farthest link that holds a cell: the next one, if there is one, is empty
abbrev pub FarthestAt : List Line → Type 0
FarthestAt ls =
    (i : ℕ) × (l : Line) × (farthest ls ≡ suc i) × (nth ls i ≡ Some l) × (0 < length l.cells) × ((g : Line) → nth ls (suc i) ≡ Some g → length g.cells ≡ 0)

pub farthest-at : (ls : List Line) → any_holds ls ≡ true → FarthestAt ls
farthest-at [] e = let z : ◌≡◌ {A = ℕ} 0 1 = cc in absurd (omega arith)
farthest-at (l ∷ ls) e = go (any_holds ls) refl (farthest-at ls)
  where
    first-empty : (ls : List Line) → any_holds ls ≡ false → (g : Line) → nth ls 0 ≡ Some g → length g.cells ≡ 0
    first-empty [] n g q = let z : ◌≡◌ {A = ℕ} 0 1 = cc in absurd (omega arith)
    first-empty (k ∷ ls) n g q =
        let u : k ≡ g = cc in
        let v : length k.cells ≤ 0 = ltb-false 0 (length k.cells) (or_parts (holds k) (any_holds ls) n).0 in
        omega (arith, ap (λ (z : Line). length z.cells) u)

    go : (b : Bool) → any_holds ls ≡ b → (any_holds ls ≡ true → FarthestAt ls)
        → FarthestAt (l ∷ ls)
    go true t ih = let r : FarthestAt ls = ih t in (suc r.0, r.1, rw t (ap suc r.2), r.3, r.4, r.5)
    go false t ih =
        let h : holds l ≡ true = only-first (holds l) (any_holds ls) e t in
        (0, l, rw (t, h), refl, ltb-true 0 (length l.cells) h, first-empty ls t)
      where
        only-first : (a b : Bool) → (a || b) ≡ true → b ≡ false → a ≡ true
        only-first true b p q = refl
        only-first false b p q = let z : ◌≡◌ {A = ℕ} 0 1 = cc in absurd (omega arith)

---- the nearest: the one before it, if there is one, is empty
abbrev pub NearestAt : List Line → Type 0
NearestAt ls =
    (i : ℕ) × (l : Line) × (nearest ls ≡ suc i) × (nth ls i ≡ Some l) × (0 < length l.cells) × ((k : ℕ) (g : Line) → i ≡ suc k → nth ls k ≡ Some g → length g.cells ≡ 0)

pub nearest-at : (ls : List Line) → any_holds ls ≡ true → NearestAt ls
nearest-at [] e = let z : ◌≡◌ {A = ℕ} 0 1 = cc in absurd (omega arith)
nearest-at (l ∷ ls) e = go (holds l) refl (nearest-at ls)
  where
    go : (b : Bool) → holds l ≡ b → (any_holds ls ≡ true → NearestAt ls)
        → NearestAt (l ∷ ls)
    go true t ih = (0, l, rw t, refl, ltb-true 0 (length l.cells) t, λ k g q. absurd (omega arith))
    go false t ih =
        let u : any_holds ls ≡ true = rest (holds l) (any_holds ls) e t in
        let r : NearestAt ls = ih u in
        (suc r.0, r.1, cond-false (holds l) _ _ t ∙ (cond-true (any_holds ls) _ _ u ∙ ap suc r.2), r.3, r.4, before r.0 r.5)
      where
        rest : (a b : Bool) → (a || b) ≡ true → a ≡ false → b ≡ true
        rest true b p q = let z : ◌≡◌ {A = ℕ} 0 1 = cc in absurd (omega arith)
        rest false b p q = p

        before : (i : ℕ) → ((k : ℕ) (g : Line) → i ≡ suc k → nth ls k ≡ Some g → length g.cells ≡ 0) → (k : ℕ) (g : Line) → suc i ≡ suc k → nth (l ∷ ls) k ≡ Some g → length g.cells ≡ 0
        before i f zero g q at =
            let w : l ≡ g = cc in
            let v : length l.cells ≤ 0 = ltb-false 0 (length l.cells) t in
            omega (arith, ap (λ (z : Line). length z.cells) w)
        before i f (suc k) g q at = f k g (omega arith) at

---- a carry crosses one
row-push : (j : ℕ) (r : List Entry) (x : Entry) → forward_row j (r ++ x ∷ []) ≡ forward_row j r + (x.hop - j + 1)
row-push j [] x = omega arith
row-push j (y ∷ r) x = omega (arith, row-push j r x)

pub crossed-delivered : (i j h : ℕ) (rs : List (List Entry)) (x : Entry) (xs : List Entry) → get_or rs i [] ≡ x ∷ xs → h ≡ i + j → x.hop ≡ h → forward_crossings j rs ≡ suc (forward_crossings j (set rs i xs))
crossed-delivered i j h [] x xs e q w = let z : ◌≡◌ {A = ℕ} 0 1 = cc in absurd (omega arith)
crossed-delivered zero j h (r ∷ rs) x xs e q w = omega (arith, ap (forward_row j) e)
crossed-delivered (suc i) j h (r ∷ rs) x xs e q w = omega (arith, crossed-delivered i (suc j) h rs x xs e (omega arith) w)

pub crossed-passed : (n i j h : ℕ) (rs : List (List Entry)) (x : Entry) (xs : List Entry) → AllWithin n j rs → length rs + j ≡ suc n → get_or rs i [] ≡ x ∷ xs → h ≡ i + j → (x.hop ≡ h → ⊥) → forward_crossings j rs ≡ suc (forward_crossings j (joined (suc i) x (set rs i xs)))
crossed-passed n i j h [] x xs a l e q w = let z : ◌≡◌ {A = ℕ} 0 1 = cc in absurd (omega arith)
crossed-passed n zero j h (r ∷ []) x xs a l e q w =
    let b : Within n j (x ∷ xs) = subst (Within n j) e a.0 in
    absurd (w (omega (arith, b.0, b.1)))
crossed-passed n zero j h (r ∷ s ∷ rs) x xs a l e q w =
    let b : Within n j (x ∷ xs) = subst (Within n j) e a.0 in
    let u : x.hop ≡ j → ⊥ = λ z. w (omega arith) in
    omega (arith, ap (forward_row j) e, row-push (suc j) s x, b.0)
crossed-passed n (suc i) j h (r ∷ rs) x xs a l e q w =
    omega (arith, crossed-passed n i (suc j) h rs x xs a.1 (omega arith) e (omega arith) w)

---- and so does a bring
pub crossed-arrived : (rs : List (List Entry)) (x : Entry) (xs : List Entry) → get_or rs 0 [] ≡ x ∷ xs → backward_crossings 1 rs ≡ suc (backward_crossings 1 (set rs 0 xs))
crossed-arrived [] x xs e = let z : ◌≡◌ {A = ℕ} 0 1 = cc in absurd (omega arith)
crossed-arrived (r ∷ rs) x xs e = omega (arith, ap length e)

pub crossed-brought : (i j : ℕ) (rs : List (List Entry)) (x : Entry) (xs : List Entry) → get_or rs (suc i) [] ≡ x ∷ xs → backward_crossings j rs ≡ suc (backward_crossings j (joined i x (set rs (suc i) xs)))
crossed-brought i j [] x xs e = let z : ◌≡◌ {A = ℕ} 0 1 = cc in absurd (omega arith)
crossed-brought zero j (r ∷ []) x xs e = let z : ◌≡◌ {A = ℕ} 0 1 = cc in absurd (omega arith)
crossed-brought zero j (r ∷ s ∷ rs) x xs e =
    let a : j * length (r ++ x ∷ []) ≡ j * length r + j = ap (λ (z : ℕ). j * z) (length-append r (x ∷ [])) ∙ push j (length r) in
    let b : suc j * length s ≡ suc j * length xs + suc j = ap (λ (z : List Entry). suc j * length z) e ∙ mul-suc (suc j) (length xs) in
    omega arith
  where
    push : (j n : ℕ) → j * (n + 1) ≡ j * n + j
    push j n = let z : n + 1 ≡ suc n = omega arith in ap (λ (k : ℕ). j * k) z ∙ mul-suc j n
crossed-brought (suc i) j (r ∷ rs) x xs e = omega (arith, crossed-brought i (suc j) rs x xs e)
