-- LIONESS under a key of 128 bytes: K1, K2, K3 and K4, joined.
-- Assumes nothing.
use Rattle.std.specs.Prelude.{ℕ, ◌*◌, List, take, drop}
use Rattle.lioness.specs.Steps.{left_step, right_step}

abbrev pub four_add : List ℕ → List ℕ → List ℕ → List ℕ → List ℕ → List ℕ
four_add k1 k2 k3 k4 p = left_step k4 (right_step k3 (left_step k2 (right_step k1 p)))

-- the same steps, the last first
abbrev pub four_remove : List ℕ → List ℕ → List ℕ → List ℕ → List ℕ → List ℕ
four_remove k1 k2 k3 k4 p = right_step k1 (left_step k2 (right_step k3 (left_step k4 p)))

-- key i of the four, counted from 0
abbrev pub key_part : List ℕ → ℕ → List ℕ
key_part key i = take 32 (drop (32 * i) key)

abbrev pub lioness_add : List ℕ → List ℕ → List ℕ
lioness_add key p = four_add (key_part key 0) (key_part key 1) (key_part key 2) (key_part key 3) p

abbrev pub lioness_remove : List ℕ → List ℕ → List ℕ
lioness_remove key p = four_remove (key_part key 0) (key_part key 1) (key_part key 2) (key_part key 3) p
