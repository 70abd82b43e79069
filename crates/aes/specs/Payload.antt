-- A payload has 509 bytes.
-- Assumes nothing.
use Rattle.std.specs.Prelude.{ℕ, cond, List, length, ◌==◌}

-- f of a payload; a list of another length is left as it is
abbrev pub on_payload : (List ℕ → List ℕ) → List ℕ → List ℕ
on_payload f p = cond (length p == 509) (f p) p
