-- The inverse is one, at every byte but 0.
-- Assumes nothing.
use Rattle.std.proofs.Common.{◌≡◌, ℕ, zero, suc, true, eqb, refl, le_of_suc-le-suc, not-suc-le-zero}
use Rattle.std.proofs.lemmas.Bool.Decides.{Decides-eqb}
use Rattle.aes_tables.specs.Field.{xtimes, mul_bits, mul, inverse_below, inverse, Inverses}
use Rattle.aes_tables.proofs.Table.{passes, below}

abbrev product : ℕ → ℕ
product k = mul (suc k) (inverse (suc k))

products-one : passes (λ k. eqb (product k) 1) 255 ≡ true
unfolding xtimes mul_bits mul inverse_below inverse
products-one = refl

pub inverses : Inverses
inverses zero pos lt = absurd (not-suc-le-zero pos)
inverses (suc k) pos lt = below (λ k. eqb (product k) 1) (λ k. product k ≡ 1) (λ k. Decides-eqb (product k) 1) 255 products-one k (le_of_suc-le-suc lt)
