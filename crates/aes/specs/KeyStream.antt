-- The key stream of counter mode, under nr rounds with the words w.
-- Assumes nothing.
use Rattle.std.specs.Prelude.{ℕ, zero, suc, ◌+◌, ◌-◌, ◌/◌, ◌%◌, ◌^◌, List, [], ◌++◌, map, length, take, drop, slice_index}
use Rattle.std.specs.List.{range_with_len}
use Rattle.aes_tables.specs.Words.{xors}
use Rattle.aes.specs.Cipher.{cipher}

-- c as 16 bytes, the first the highest
unfoldable pub counter_block : ℕ → List ℕ
counter_block c = map (λ i. c / 256 ^ (15 - i) % 256) (range_with_len 0 16)

unfoldable pub stream_block : ℕ → List ℕ → ℕ → List ℕ
stream_block nr w c = cipher nr w (counter_block c)

-- blocks 0 to n - 1, one after another
unfoldable pub stream_blocks : ℕ → List ℕ → ℕ → List ℕ
stream_blocks nr w zero = []
stream_blocks nr w (suc n) = stream_blocks nr w n ++ stream_block nr w n

-- bytes at, at + 1, .. of the key stream, len of them
unfoldable pub stream_bytes : ℕ → List ℕ → ℕ → ℕ → List ℕ
stream_bytes nr w at len = take len (drop at (stream_blocks nr w ((at + len + 15) / 16)))

-- p exclusive-or the key stream from byte `at` on
unfoldable pub streamed : ℕ → List ℕ → ℕ → List ℕ → List ℕ
streamed nr w at p = xors p (stream_bytes nr w at (length p))

-- byte m of the key stream alone
unfoldable pub stream_at : ℕ → List ℕ → ℕ → ℕ
stream_at nr w m = slice_index (stream_block nr w (m / 16)) (m % 16)
