-- A list with another exclusive-ored in, one place after the other.
-- Assumes nothing.
use Rattle.std.proofs.Common.{◌≡◌, ℕ, zero, suc, ◌<◌, ◌≤◌, List, [], ◌∷◌, ◌++◌, length, min, take, drop, slice_index, slice_set, refl, ap, sym, le_of_suc-le-suc, not-suc-le-zero, arith}
use Rattle.std.proofs.Math.Seq.{drop-nil}
use Rattle.std.specs.Int.Bits.{bit_xor}
use Rattle.aes_tables.specs.Words.{xors}

pub xor-at : (p s : List ℕ) (i : ℕ) → i < length p → length p ≤ length s → slice_index (xors (take i p) s ++ drop i p) i ≡ slice_index p i
xor-at [] s i lt le = absurd (not-suc-le-zero lt)
xor-at (x ∷ p) [] i lt le = absurd (not-suc-le-zero le)
xor-at (x ∷ p) (y ∷ s) zero lt le = refl
xor-at (x ∷ p) (y ∷ s) (suc i) lt le = xor-at p s i (le_of_suc-le-suc lt) (le_of_suc-le-suc le)

pub xor-more : (p s : List ℕ) (i : ℕ) → i < length p → length p ≤ length s
    → slice_set (xors (take i p) s ++ drop i p) i (bit_xor (slice_index p i) (slice_index s i)) ≡ xors (take (suc i) p) s ++ drop (suc i) p
xor-more [] s i lt le = absurd (not-suc-le-zero lt)
xor-more (x ∷ p) [] i lt le = absurd (not-suc-le-zero le)
xor-more (x ∷ p) (y ∷ s) zero lt le = refl
xor-more (x ∷ p) (y ∷ s) (suc i) lt le = ap (λ (v : List ℕ). bit_xor x y ∷ v) (xor-more p s i (le_of_suc-le-suc lt) (le_of_suc-le-suc le))

-- as many places as both lists have, and the rest as it was
pub xors-shared : (p s : List ℕ) (n : ℕ) → n ≡ min (length p) (length s) → xors (take n p) s ++ drop n p ≡ xors p s ++ drop (length s) p
xors-shared [] s zero is = sym (drop-nil (length s))
xors-shared [] s (suc n) is = absurd (omega arith)
xors-shared (x ∷ p) [] zero is = refl
xors-shared (x ∷ p) [] (suc n) is = absurd (omega arith)
xors-shared (x ∷ p) (y ∷ s) zero is = absurd (omega arith)
xors-shared (x ∷ p) (y ∷ s) (suc n) is = ap (λ (v : List ℕ). bit_xor x y ∷ v) (xors-shared p s n (omega arith))
