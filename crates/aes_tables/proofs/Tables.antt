-- The rule of each table: one computed test over the whole table, and one lemma that reads it at an entry.
-- Assumes nothing.
use Rattle.std.proofs.Common.{◌≡◌, ℕ, zero, suc, ◌+◌, ◌*◌, ◌/◌, ◌%◌, ◌<◌, List, [], ◌∷◌, Bool, true, eqb, get_or, refl, ap, ◌∙◌, sym, arith}
use Rattle.std.proofs.Math.Nat.{suc-add}
use Rattle.std.specs.Cmp.Lexicographic.{pointwise}
use Rattle.std.proofs.lemmas.Bool.Decides.{Decides-eqb}
use Rattle.std.proofs.lemmas.Slice.Eq.{slice_eq-Decides}
use Rattle.aes_tables.specs.Field.{xtimes, mul_bits, mul, inverse_below, inverse, rotl, affine, S, power}
use Rattle.aes_tables.specs.Words.{bytes}
use Rattle.aes_tables.specs.Tables.{sbox_table, te0_table, te1_table, te2_table, te3_table, power_table}
use Rattle.aes_tables.proofs.Table.{passes, below}

-- entry k of the table is f k
abbrev valued : (ℕ → ℕ) → List ℕ → ℕ → Bool
valued f t k = eqb (get_or t k 0) (f k)

value-at : (f : ℕ → ℕ) (t : List ℕ) (n : ℕ) → passes (valued f t) n ≡ true → (k : ℕ) → k < n → get_or t k 0 ≡ f k
value-at f t n all k lt = below (valued f t) (λ k. get_or t k 0 ≡ f k) (λ k. Decides-eqb (get_or t k 0) (f k)) n all k lt

sbox-all : passes (valued S sbox_table) 256 ≡ true
unfolding xtimes mul_bits mul inverse_below inverse rotl affine S
sbox-all = refl

pub sbox-at : (k : ℕ) → k < 256 → get_or sbox_table k 0 ≡ S k
sbox-at k lt = value-at S sbox_table 256 sbox-all k lt

powers-all : passes (valued power power_table) 51 ≡ true
unfolding xtimes mul_bits mul power
powers-all = refl

power-again : (e : ℕ) → power (e + 51) ≡ power e
unfolding xtimes mul_bits mul power
power-again zero = refl
power-again (suc e) = ap power (suc-add e 51) ∙ ap (mul 2) (power-again e)

powers-again : (q r : ℕ) → power (51 * q + r) ≡ power r
powers-again zero r = let e : 51 * 0 + r ≡ r = omega arith in ap power e
powers-again (suc q) r =
    let e : 51 * suc q + r ≡ 51 * q + r + 51 = omega arith in
    ap power e ∙ power-again (51 * q + r) ∙ powers-again q r

pub power_at : (e : ℕ) → get_or power_table (e % 51) 0 ≡ power e
power_at e =
    let i : 51 * (e / 51) + e % 51 ≡ e = omega arith in
    value-at power power_table 51 powers-all (e % 51) (omega arith) ∙ sym (powers-again (e / 51) (e % 51)) ∙ ap power i

-- the bytes of word k of the table are a row of S k; tested against the table of S, which has its values at hand
abbrev rowed : (ℕ → List ℕ) → List ℕ → ℕ → Bool
rowed row t k = pointwise eqb (bytes (get_or t k 0)) (row (get_or sbox_table k 0))

row_at : (row : ℕ → List ℕ) (t : List ℕ) → passes (rowed row t) 256 ≡ true → (k : ℕ) → k < 256 → bytes (get_or t k 0) ≡ row (S k)
row_at row t all k lt =
    below (rowed row t) (λ k. bytes (get_or t k 0) ≡ row (get_or sbox_table k 0))
    (λ k. slice_eq-Decides Decides-eqb (bytes (get_or t k 0)) (row (get_or sbox_table k 0)) (rowed row t k) refl) 256 all k lt
    ∙ ap row (sbox-at k lt)

abbrev row0 : ℕ → List ℕ
row0 s = mul 2 s ∷ s ∷ s ∷ mul 3 s ∷ []

abbrev row1 : ℕ → List ℕ
row1 s = mul 3 s ∷ mul 2 s ∷ s ∷ s ∷ []

abbrev row2 : ℕ → List ℕ
row2 s = s ∷ mul 3 s ∷ mul 2 s ∷ s ∷ []

abbrev row3 : ℕ → List ℕ
row3 s = s ∷ s ∷ mul 3 s ∷ mul 2 s ∷ []

te0-all : passes (rowed row0 te0_table) 256 ≡ true
unfolding bytes xtimes mul_bits mul
te0-all = refl

te1-all : passes (rowed row1 te1_table) 256 ≡ true
unfolding bytes xtimes mul_bits mul
te1-all = refl

te2-all : passes (rowed row2 te2_table) 256 ≡ true
unfolding bytes xtimes mul_bits mul
te2-all = refl

te3-all : passes (rowed row3 te3_table) 256 ≡ true
unfolding bytes xtimes mul_bits mul
te3-all = refl

pub te0-at : (k : ℕ) → k < 256 → bytes (get_or te0_table k 0) ≡ row0 (S k)
te0-at = row_at row0 te0_table te0-all

pub te1-at : (k : ℕ) → k < 256 → bytes (get_or te1_table k 0) ≡ row1 (S k)
te1-at = row_at row1 te1_table te1-all

pub te2-at : (k : ℕ) → k < 256 → bytes (get_or te2_table k 0) ≡ row2 (S k)
te2-at = row_at row2 te2_table te2-all

pub te3-at : (k : ℕ) → k < 256 → bytes (get_or te3_table k 0) ≡ row3 (S k)
te3-at = row_at row3 te3_table te3-all
