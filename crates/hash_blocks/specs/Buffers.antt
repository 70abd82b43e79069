-- What a buffer stands for.
use Rattle.std.specs.Prelude.{ℕ, take}
use Rattle.hash_blocks.specs.Blocks.{Running}
use Rattle.hash_blocks.specs.declared.buffer.Buffer.{Buffer}

-- v is what the state stands for
abbrev pub running : {S X : Type 0} {W : ℕ} → (S → X) → Buffer S W → Running X
running v b = record { state = v b.state; rest = take b.fill b.block }
