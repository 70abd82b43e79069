-- Payloads taken one after the other.
use Rattle.std.specs.Prelude.{ℕ, List, [], ◌∷◌, ◌++◌}

-- the state once it took every payload of the list
abbrev pub took_all : {S : Type 0} → (S → List ℕ → S) → S → List (List ℕ) → S
took_all takes s [] = s
took_all takes s (p ∷ ps) = took_all takes (takes s p) ps

-- the payloads' bytes
abbrev pub joined : List (List ℕ) → List ℕ
joined [] = []
joined (p ∷ ps) = p ++ joined ps
