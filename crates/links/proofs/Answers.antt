-- What an answer of a link, or of a row of links, says of the cells.
use Rattle.std.proofs.Common.{◌≡◌, ℕ, ◌-◌, ◌<◌, ◌≤◌, Bool, true, false, cond, eqb, ltb, List, [], ◌∷◌, ◌++◌, map, length, get_or, set, is_ok, Ok, Err, Result, MatchResult, sym, refl, ap, ◌∙◌, arith}
use Rattle.std.proofs.lemmas.List.{get_or-map, length-map}
use Rattle.std.proofs.lemmas.Bool.{eq-eqb, lt-ltb, le-ltb, cond-true, cond-false}
use Rattle.std.proofs.lemmas.Grind.{common_steps}
use Rattle.links.specs.declared.fault.LinkError.{LinkError}
use Rattle.links.specs.declared.fault.LinkError.TheVariants.{NotACell, Full, Empty}
use Rattle.links.specs.Lines.{Answer, put_answer, put_cells, look_answer, looked, drop_answer}
use Rattle.links.specs.Rows.{known, row, at_link, pass_answer}

---- what a link answers and leaves, case by case
module _ (capacity : ℕ) (cells : List (List ℕ)) (cell : List ℕ) (whole : length cell ≡ 514) where
  put-now : put_answer capacity cells cell ≡ cond (ltb (length cells) capacity) (Ok tt) (Err Full)
  put-now = let w = eq-eqb (length cell) 514 whole in rw w refl

  puts-now : put_cells capacity cells cell ≡ cond (ltb (length cells) capacity) (cells ++ (cell ∷ [])) cells
  puts-now = let w = eq-eqb (length cell) 514 whole in rw w refl

  pub put-room : length cells < capacity → (Ok tt ≡ put_answer capacity cells cell) × (cells ++ (cell ∷ []) ≡ put_cells capacity cells cell)
  put-room lt =
      let room = lt-ltb (length cells) capacity lt in
      (sym (put-now ∙ cond-true _ (Ok tt) (Err Full) room), sym (puts-now ∙ cond-true _ (cells ++ (cell ∷ [])) cells room))

  pub put_full : capacity ≤ length cells → (Err Full ≡ put_answer capacity cells cell) × (cells ≡ put_cells capacity cells cell)
  put_full le =
      let full = le-ltb (length cells) capacity le in
      (sym (put-now ∙ cond-false _ (Ok tt) (Err Full) full), sym (puts-now ∙ cond-false _ (cells ++ (cell ∷ [])) cells full))

module _ (cells : List (List ℕ)) (buffer : List ℕ) (whole : length buffer ≡ 514) where
  pub look-some : 0 < length cells → (Ok tt ≡ look_answer cells buffer) × (get_or cells 0 buffer ≡ looked cells buffer)
  look-some lt =
      let w = eq-eqb (length buffer) 514 whole in
      let some = lt-ltb 0 (length cells) lt in
      (rw (w, some) refl, rw w refl)

  pub look-by : {A : Type 0} (B : LinkError → Type 0) (r : Answer) → (A → 0 < length cells) → ((e : LinkError) → B e → (length cells ≡ 0) × (e ≡ Empty)) → MatchResult r (λ _. A) B → r ≡ look_answer cells buffer
  look-by B (Ok x) some none met =
      let w = eq-eqb (length buffer) 514 whole in
      let waits = lt-ltb 0 (length cells) (some met) in
      rw (w, waits) refl
  look-by B (Err e) some none met =
      let w = eq-eqb (length buffer) 514 whole in
      let no = le-ltb 0 (length cells) (omega (arith, (none e met).0)) in
      rw (w, no) (ap Err (none e met).1)

pub drop-some : (cells : List (List ℕ)) → 0 < length cells → Ok tt ≡ drop_answer cells
drop-some cells lt = let some = lt-ltb 0 (length cells) lt in rw some refl

abbrev answer_by : Bool → Bool → Answer
answer_by whole room = cond whole (cond room (Ok tt) (Err Full)) (Err NotACell)

put-kept : (whole room ok : Bool) (more same : List (List ℕ)) → is_ok (answer_by whole room) ≡ ok → cond whole (cond room more same) same ≡ cond ok more same
put-kept true true ok more same e = rw (← e) refl
put-kept true false ok more same e = rw (← e) refl
put-kept false room ok more same e = rw (← e) refl

-- a cell that was put waits behind the others, and one that was refused does not
module _ (capacity : ℕ) (cells : List (List ℕ)) (cell : List ℕ) where
  pub put-ok-joins : is_ok (put_answer capacity cells cell) ≡ true → put_cells capacity cells cell ≡ cells ++ (cell ∷ [])
  put-ok-joins = put-kept (eqb (length cell) 514) (ltb (length cells) capacity) true (cells ++ (cell ∷ [])) cells

  pub put-err-keeps : is_ok (put_answer capacity cells cell) ≡ false → put_cells capacity cells cell ≡ cells
  put-err-keeps = put-kept (eqb (length cell) 514) (ltb (length cells) capacity) false (cells ++ (cell ∷ [])) cells

  -- the same, by the answer
  pub put-joins : Ok tt ≡ put_answer capacity cells cell → put_cells capacity cells cell ≡ cells ++ (cell ∷ [])
  put-joins e = put-ok-joins (ap is_ok (sym e))

  pub put_keeps : (e : LinkError) → Err e ≡ put_answer capacity cells cell → put_cells capacity cells cell ≡ cells
  put_keeps x e = put-err-keeps (ap is_ok (sym e))

pub is-ok-unit : {E : Type 0} (r : Result (Unit {0}) E) → is_ok r ≡ true → r ≡ Ok tt
is-ok-unit (Ok x) e = refl
is-ok-unit (Err y) e = cc

pub when_ok : {T E A : Type 0} (B : E → Type 0) (r : Result T E) → MatchResult r (λ _. A) B → is_ok r ≡ true → A
when_ok B (Ok x) met e = met
when_ok B (Err y) met e = cc

-- a link on which cells wait, after another, or it itself, was given some
pub joined-some : (rs : List (List (List ℕ))) (n s : ℕ) (v : List (List ℕ)) → 0 < length (get_or rs s []) → 0 < length v → 0 < length (get_or (set rs n v) s [])
joined-some rs n s v some new = grind (arith, common_steps)

---- link j of a row, seen through a function of the links
pub known-seen : {L X : Type 0} (f : L → X) (ls : List L) (j : ℕ) (b : Bool) → known (length ls) j ≡ b → known (length (map f ls)) j ≡ b
known-seen f ls j b e = ap (λ n. known n j) (length-map ls f) ∙ e

pub seen : {L X : Type 0} (f : L → X) (d : X) (ls : List L) (j i : ℕ) (y : L) → i ≡ j - 1 → i < length ls → get_or (map f ls) (j - 1) d ≡ f (get_or ls i y)
seen f d ls j i y at lt = ap (λ n. get_or (map f ls) n d) (sym at) ∙ get_or-map f ls i y d lt

---- the answer of `pass_on`, once its tests are passed
pub pass-put : (caps : List ℕ) (rs : List (List (List ℕ))) (from to : ℕ) (cell : List ℕ) → known (length rs) from ≡ true → known (length rs) to ≡ true → length cell ≡ 514 → 0 < length (row rs from)
    → pass_answer caps rs from to cell ≡ at_link to (put_answer (get_or caps (to - 1) 0) (row rs to) cell)
pass-put caps rs from to cell a b c d =
    let w = eq-eqb (length cell) 514 c in
    let some = lt-ltb 0 (length (row rs from)) d in
    rw (a, b, w, some) refl
