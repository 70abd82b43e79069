-- What a running SHA3-256 stands for, and its two rules.
use Rattle.std.specs.Prelude.{ℕ, List, [], length, take}
use Rattle.hash_blocks.specs.Blocks.{Running, running_at, feed}
use Rattle.hash_blocks.specs.Buffers.{running}
use Rattle.sha3.specs.Planes.{view}
use Rattle.sha3.specs.Sha3.{absorb_block, zero_state, padding, squeezed}
use Rattle.sha3.specs.declared.running.Sha3.{Sha3}

abbrev pub Sha3State : Type 0
Sha3State = Running (List ℕ)

abbrev pub state_of : Sha3 → Sha3State
state_of d = running view d.buffer

abbrev pub empty : Sha3State
empty = running_at zero_state []

abbrev pub takes : Sha3State → List ℕ → Sha3State
takes s p = feed 136 absorb_block s p

-- the lanes once the padding is taken, which asks for the length modulo 136 only
unfoldable pub finish : Sha3State → List ℕ
finish s = (feed 136 absorb_block s (padding (length s.rest))).state

unfoldable pub first_four : Sha3State → List ℕ
first_four s = take 4 (squeezed (finish s))

abbrev pub tags : Sha3State → List ℕ → List ℕ
tags s p = first_four (takes s p)
