-- Each step keeps the length, and undoes itself.
-- Assumes nothing.
use Rattle.std.specs.Prelude.{◌≡◌, ℕ, List, ◌++◌, length, refl}
use Rattle.std.proofs.Common.{◌∙◌, arith}
use Rattle.std.proofs.lemmas.List.{take-append-drop, take_at, drop_at, length-append, length-take, length-drop}
use Rattle.aes_tables.specs.Words.{xors}
use Rattle.aes_tables.specs.Xors.{length-xors, xors-twice}
use Rattle.aes.specs.KeyExpansion.{expanded}
use Rattle.aes.specs.Layers.{length-stream_bytes}
use Rattle.sha3.specs.Sha3.{sha3}
use Rattle.lioness.specs.Steps.{left, right, stream, hash, right_step, left_step}

length-stream : (k : List ℕ) → length (stream k) ≡ 477
unfolding stream
length-stream k = length-stream_bytes 14 (expanded 8 k) 0 477

length-hash : (k r : List ℕ) → length (hash k r) ≡ 32
unfolding hash sha3
length-hash k r = refl

-- two halves joined, the first of 32 bytes
module _ (l r : List ℕ) (is : length l ≡ 32) where
  left-of : left (l ++ r) ≡ l
  left-of = take_at l r 32 is

  right_of : right (l ++ r) ≡ r
  right_of = drop_at l r 32 is

module _ (k p : List ℕ) (is : length p ≡ 509) where
  length-left : length (left p) ≡ 32
  length-left = simp length-take (omega arith)

  length-right : length (right p) ≡ 477
  length-right = simp length-drop (omega arith)

  masked-right : length (xors (right p) (stream (xors (left p) k))) ≡ 477
  masked-right = length-xors (right p) (stream (xors (left p) k)) (omega (arith, length-right, length-stream (xors (left p) k))) ∙ length-right

  masked-left : length (xors (left p) (hash k (right p))) ≡ 32
  masked-left = length-xors (left p) (hash k (right p)) (omega (arith, length-left, length-hash k (right p))) ∙ length-left

  pub length-right_step : length (right_step k p) ≡ 509
  unfolding right_step
  length-right_step = omega (arith, length-append (left p) (xors (right p) (stream (xors (left p) k))), length-left, masked-right)

  pub length-left_step : length (left_step k p) ≡ 509
  unfolding left_step
  length-left_step = omega (arith, length-append (xors (left p) (hash k (right p))) (right p), length-right, masked-left)

  pub right_step-twice : right_step k (right_step k p) ≡ p
  unfolding right_step
  right_step-twice =
      let s = stream (xors (left p) k) in
      let l = left-of (left p) (xors (right p) s) length-left in
      let r = right_of (left p) (xors (right p) s) length-left in
      let t = xors-twice (right p) s (omega (arith, length-right, length-stream (xors (left p) k))) in
      let w = take-append-drop 32 p in
      cc

  pub left_step-twice : left_step k (left_step k p) ≡ p
  unfolding left_step
  left_step-twice =
      let h = hash k (right p) in
      let l = left-of (xors (left p) h) (right p) masked-left in
      let r = right_of (xors (left p) h) (right p) masked-left in
      let t = xors-twice (left p) h (omega (arith, length-left, length-hash k (right p))) in
      let w = take-append-drop 32 p in
      cc
