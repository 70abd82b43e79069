-- A layer keeps the length, and undoes itself.
-- Assumes nothing.
use Rattle.std.specs.Prelude.{◌≡◌, ℕ, List, length}
use Rattle.std.proofs.Common.{ap, ◌∙◌, arith}
use Rattle.std.proofs.lemmas.List.FromFn.{length-map-range_with_len}
use Rattle.aes_tables.specs.Words.{xors}
use Rattle.aes_tables.specs.Xors.{length-xors, xors-twice}
use Rattle.aes.specs.KeyStream.{stream_at, stream_bytes, streamed}
use Rattle.aes.specs.Stream.{stream_bytes-is}

pub length-stream_bytes : (nr : ℕ) (w : List ℕ) (at len : ℕ) → length (stream_bytes nr w at len) ≡ len
length-stream_bytes nr w at len = ap length (stream_bytes-is nr w at len) ∙ length-map-range_with_len (stream_at nr w) at len

pub length-streamed : (nr : ℕ) (w : List ℕ) (at : ℕ) (p : List ℕ) → length (streamed nr w at p) ≡ length p
unfolding streamed
length-streamed nr w at p = length-xors p (stream_bytes nr w at (length p)) (omega (arith, length-stream_bytes nr w at (length p)))

pub streamed-twice : (nr : ℕ) (w : List ℕ) (at : ℕ) (p : List ℕ) → streamed nr w at (streamed nr w at p) ≡ p
unfolding streamed
streamed-twice nr w at p =
    ap (λ (n : ℕ). xors (xors p (stream_bytes nr w at (length p))) (stream_bytes nr w at n)) (length-streamed nr w at p)
    ∙ xors-twice p (stream_bytes nr w at (length p)) (omega (arith, length-stream_bytes nr w at (length p)))
