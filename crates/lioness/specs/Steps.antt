-- The steps of LIONESS on a payload of 509 bytes: L is the first 32, R the other 477.
-- Assumes nothing.
use Rattle.std.specs.Prelude.{ℕ, List, ◌++◌, take, drop}
use Rattle.aes_tables.specs.Words.{xors}
use Rattle.aes.specs.KeyExpansion.{expanded}
use Rattle.aes.specs.KeyStream.{stream_bytes}
use Rattle.sha3.specs.Sha3.{sha3}

abbrev pub left : List ℕ → List ℕ
left p = take 32 p

abbrev pub right : List ℕ → List ℕ
right p = drop 32 p

-- s(k): the first 477 bytes of the key stream of AES-256 under k
unfoldable pub stream : List ℕ → List ℕ
stream k = stream_bytes 14 (expanded 8 k) 0 477

-- h(k, R): SHA3-256 of k and then R
unfoldable pub hash : List ℕ → List ℕ → List ℕ
hash k r = sha3 (k ++ r)

-- R becomes R xor s(L xor k)
unfoldable pub right_step : List ℕ → List ℕ → List ℕ
right_step k p = left p ++ xors (right p) (stream (xors (left p) k))

-- L becomes L xor h(k, R)
unfoldable pub left_step : List ℕ → List ℕ → List ℕ
left_step k p = xors (left p) (hash k (right p)) ++ right p
