-- What a running SHA-1 stands for, and its two rules.
use Rattle.std.specs.Prelude.{ℕ, ◌+◌, ◌%◌, ◌^◌, List, [], length, take}
use Rattle.hash_blocks.specs.Blocks.{Running, running_at, feed}
use Rattle.hash_blocks.specs.Buffers.{running}
use Rattle.sha_1.specs.Sha1.{compress, initial_hash, padding, digest_bytes}
use Rattle.sha_1.specs.declared.words.HashValue.{HashValue}
use Rattle.sha_1.specs.declared.running.Sha1.{Sha1}

-- the hash between two bytes, and how many bytes it took, modulo 2 ^ 64
pub record Sha1State : Type 0 where
  pub hash : Running HashValue
  pub count : ℕ

abbrev pub state_of : Sha1 → Sha1State
state_of d = record { hash = running (λ h. h) d.buffer; count = d.len }

abbrev pub empty : Sha1State
empty = record { hash = running_at initial_hash []; count = 0 }

abbrev pub takes : Sha1State → List ℕ → Sha1State
takes s p = record { hash = feed 64 compress s.hash p; count = (s.count + length p) % 2 ^ 64 }

-- the hash value once the padding is taken
unfoldable pub finish : Sha1State → HashValue
finish s = (feed 64 compress s.hash (padding s.count)).state

unfoldable pub first_four : Sha1State → List ℕ
first_four s = take 4 (digest_bytes (finish s))

abbrev pub tags : Sha1State → List ℕ → List ℕ
tags s p = first_four (takes s p)
