-- The field GF(2^8) of FIPS 197: a byte is a polynomial over two elements, bit i the coefficient of x^i,
-- modulo m(x) = x^8 + x^4 + x^3 + x + 1. The substitution S and the powers of x.
-- Assumes nothing.
use Rattle.std.specs.Prelude.{ℕ, zero, suc, ◌+◌, ◌*◌, ◌/◌, ◌%◌, ◌^◌, ◌<◌, cond, ◌≡◌, ltb, eqb}
use Rattle.std.specs.Int.Bits.{bit_xor}

-- the product by x
unfoldable pub xtimes : ℕ → ℕ
xtimes b = cond (ltb b 128) (2 * b) (bit_xor (2 * b) 0x11B)

-- the product of the lowest k bits of a with b
unfoldable pub mul_bits : ℕ → ℕ → ℕ → ℕ
mul_bits zero a b = 0
mul_bits (suc k) a b = bit_xor (cond (eqb (a % 2) 1) b 0) (mul_bits k (a / 2) (xtimes b))

unfoldable pub mul : ℕ → ℕ → ℕ
mul a b = mul_bits 8 a b

-- the number below c whose product with b is 1, or 0 where there is none
unfoldable pub inverse_below : ℕ → ℕ → ℕ
inverse_below zero b = 0
inverse_below (suc c) b = cond (eqb (mul b c) 1) c (inverse_below c b)

-- the inverse, and 0 at 0
unfoldable pub inverse : ℕ → ℕ
inverse b = inverse_below 256 b

-- the eight bits of c, rotated left by k
unfoldable pub rotl : ℕ → ℕ → ℕ
rotl k c = (c * 2 ^ k) % 256 + c * 2 ^ k / 256

unfoldable pub affine : ℕ → ℕ
affine c = bit_xor (bit_xor (bit_xor (bit_xor (bit_xor c (rotl 1 c)) (rotl 2 c)) (rotl 3 c)) (rotl 4 c)) 0x63

unfoldable pub S : ℕ → ℕ
S b = affine (inverse b)

-- x^e
unfoldable pub power : ℕ → ℕ
power zero = 1
power (suc e) = mul 2 (power e)

abbrev pub Inverses : Type 0
Inverses = (b : ℕ) → 0 < b → b < 256 → mul b (inverse b) ≡ 1
