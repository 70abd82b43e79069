-- Links in a row, numbered from 1: what waits on each, and how many each takes.
use Rattle.std.specs.Prelude.{ℕ, ◌-◌, Bool, cond, ◌&&◌, List, [], ◌∷◌, ◌++◌, map, length, drop, Ok, Err, Result, ◌==◌, nat_le, nat_lt, slice_index, slice_index_or, slice_set}
use Rattle.links.specs.declared.fault.LinkError.{LinkError}
use Rattle.links.specs.declared.fault.LinkError.TheVariants.{NotACell, Empty, NoSuchLink}
use Rattle.links.specs.declared.fault.LinkFault.{LinkFault}
use Rattle.links.specs.declared.link.Link as link
use Rattle.links.specs.Lines.{Answer, put_answer, look_answer, looked}

abbrev pub rows : {L : Type 0} → link.Ghosts L → List L → List (List (List ℕ))
rows g links = map g.cells links

abbrev pub capacities : {L : Type 0} → link.Ghosts L → List L → List ℕ
capacities g links = map g.capacity links

-- whether link j is one of n
abbrev pub known : ℕ → ℕ → Bool
known n j = nat_lt 0 j && nat_le j n

-- the cells of link j
abbrev pub row : List (List (List ℕ)) → ℕ → List (List ℕ)
row rs j = slice_index_or rs (j - 1) []

abbrev pub FaultAnswer : Type 0
FaultAnswer = Result (Unit {0}) LinkFault

abbrev pub failed : ℕ → LinkError → FaultAnswer
failed j e = Err (record { at = j; error = e })

-- the answer of link j, with its place
abbrev pub at_link : ℕ → Answer → FaultAnswer
at_link j (Ok x) = Ok x
at_link j (Err e) = failed j e

abbrev pub oldest_answer : List (List (List ℕ)) → ℕ → List ℕ → FaultAnswer
oldest_answer rs j buffer = cond (known (length rs) j) (at_link j (look_answer (row rs j) buffer)) (failed j NoSuchLink)

abbrev pub oldest_seen : List (List (List ℕ)) → ℕ → List ℕ → List ℕ
oldest_seen rs j buffer = cond (known (length rs) j) (looked (row rs j) buffer) buffer

-- a cell goes on to link `to`, and the oldest of link `from` is gone
abbrev pub pass_answer : List ℕ → List (List (List ℕ)) → ℕ → ℕ → List ℕ → FaultAnswer
pass_answer caps rs from to cell =
    cond (known (length rs) from)
    (cond (known (length rs) to)
    (cond (length cell == 514)
    (cond (nat_lt 0 (length (row rs from))) (at_link to (put_answer (slice_index caps (to - 1)) (row rs to) cell)) (failed from Empty))
    (failed to NotACell))
    (failed to NoSuchLink))
    (failed from NoSuchLink)

abbrev pub joined : List (List (List ℕ)) → ℕ → List ℕ → List (List (List ℕ))
joined rs to cell = slice_set rs (to - 1) (row rs to ++ (cell ∷ []))

abbrev pub passed : List (List (List ℕ)) → ℕ → ℕ → List ℕ → List (List (List ℕ))
passed rs from to cell = slice_set (joined rs to cell) (from - 1) (drop 1 (row (joined rs to cell) from))

abbrev pub emptied : List (List (List ℕ)) → List (List (List ℕ))
emptied rs = map (λ (r : List (List ℕ)). []) rs
