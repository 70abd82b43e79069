-- What a Lioness does to a payload, whatever the layer's number.
-- Assumes nothing.
use Rattle.std.specs.Prelude.{ℕ, List}
use Rattle.aes.specs.Payload.{on_payload}
use Rattle.lioness.specs.Lioness.{four_add, four_remove}
use Rattle.lioness.specs.declared.Lioness.{Lioness}

abbrev pub added_by : Lioness → List ℕ → List ℕ
added_by c p = on_payload (four_add c.first.right_key c.first.left_key c.second.right_key c.second.left_key) p

abbrev pub removed_by : Lioness → List ℕ → List ℕ
removed_by c p = on_payload (four_remove c.first.right_key c.first.left_key c.second.right_key c.second.left_key) p
