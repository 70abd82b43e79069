-- The layers of counter mode.
-- Assumes nothing.
use Rattle.std.specs.Prelude.{ℕ, ◌+◌, ◌*◌, List}
use Rattle.aes.specs.KeyExpansion.{expanded}
use Rattle.aes.specs.KeyStream.{streamed}
use Rattle.aes.specs.Payload.{on_payload}
use Rattle.aes.specs.declared.CounterMode.{CounterMode}

-- p exclusive-or the key stream from byte 509 n on: of a payload, bytes 509 n to 509 n + 508
abbrev pub layer : ℕ → List ℕ → ℕ → List ℕ → List ℕ
layer nr w n p = streamed nr w (509 * n) p

-- layer n under a key of nk words
abbrev pub layered : ℕ → List ℕ → ℕ → List ℕ → List ℕ
layered nk key n p = layer (nk + 6) (expanded nk key) n p

-- what a CounterMode does to a payload, to add layer n and to remove it
abbrev pub counter_layer : CounterMode → ℕ → List ℕ → List ℕ
counter_layer c n p = on_payload (layer c.schedule.rounds c.schedule.words n) p
