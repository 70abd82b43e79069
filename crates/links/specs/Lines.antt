-- What each call of a link answers and leaves, from its capacity and the cells that wait, the oldest first.
use Rattle.std.specs.Prelude.{◌≡◌, ℕ, ◌<◌, cond, List, [], ◌∷◌, ◌++◌, length, Ok, Err, Result, ◌==◌, nat_lt, slice_index_or}
use Rattle.links.specs.declared.fault.LinkError.{LinkError}
use Rattle.links.specs.declared.fault.LinkError.TheVariants.{NotACell, Full, Empty}

-- every cell has 514 bytes
abbrev pub Whole : List (List ℕ) → Type 0
Whole cells = (i : ℕ) → i < length cells → length (slice_index_or cells i []) ≡ 514

abbrev pub Answer : Type 0
Answer = Result (Unit {0}) LinkError

abbrev pub put_answer : ℕ → List (List ℕ) → List ℕ → Answer
put_answer capacity cells cell =
    cond (length cell == 514) (cond (nat_lt (length cells) capacity) (Ok tt) (Err Full)) (Err NotACell)

abbrev pub put_cells : ℕ → List (List ℕ) → List ℕ → List (List ℕ)
put_cells capacity cells cell =
    cond (length cell == 514) (cond (nat_lt (length cells) capacity) (cells ++ (cell ∷ [])) cells) cells

-- into the buffer goes the oldest cell; where none waits it keeps what it has
abbrev pub look_answer : List (List ℕ) → List ℕ → Answer
look_answer cells buffer =
    cond (length buffer == 514) (cond (nat_lt 0 (length cells)) (Ok tt) (Err Empty)) (Err NotACell)

abbrev pub looked : List (List ℕ) → List ℕ → List ℕ
looked cells buffer = cond (length buffer == 514) (slice_index_or cells 0 buffer) buffer

abbrev pub drop_answer : List (List ℕ) → Answer
drop_answer cells = cond (nat_lt 0 (length cells)) (Ok tt) (Err Empty)
