-- Keccak-p[1600, 24] as FIPS 202 defines it; the numbers are the standard's sections.
-- A state is a list of 25 lanes of 64 bits: lane (x, y) stands at x + 5y, and indices are modulo 5.
use Rattle.std.specs.Prelude.{ℕ, zero, suc, ◌+◌, ◌-◌, ◌*◌, ◌/◌, ◌%◌, ◌^◌, cond, List, [], ◌∷◌, map, replicate, bit_and, bit_or, bit_xor, nat_lt, slice_index, slice_set}
use Rattle.std.specs.List.{range_with_len}

abbrev pub rotl : ℕ → ℕ → ℕ
rotl k x = bit_or ((x * 2 ^ (k % 64)) % 2 ^ 64) (x / 2 ^ ((64 - k % 64) % 64))

abbrev pub not64 : ℕ → ℕ
not64 x = (2 ^ 64 - 1) - x

abbrev pub place : ℕ → ℕ → ℕ
place x y = x % 5 + 5 * (y % 5)

abbrev pub lane : List ℕ → ℕ → ℕ → ℕ
lane a x y = slice_index a (place x y)

-- the state whose lane (x, y) is f x y
abbrev pub lanes : (ℕ → ℕ → ℕ) → List ℕ
lanes f = map (λ i. f (i % 5) (i / 5)) (range_with_len 0 25)

-- 3.2.1: theta
abbrev pub C : List ℕ → ℕ → ℕ
C a x = bit_xor (bit_xor (bit_xor (bit_xor (lane a x 0) (lane a x 1)) (lane a x 2)) (lane a x 3)) (lane a x 4)

abbrev pub D : List ℕ → ℕ → ℕ
D a x = bit_xor (C a (x + 4)) (rotl 1 (C a (x + 1)))

unfoldable pub theta : List ℕ → List ℕ
theta a = lanes (λ x y. bit_xor (lane a x y) (D a x))

-- 3.2.2: rho; the offsets by the walk from (1, 0): at turn t the offset is (t + 1)(t + 2) / 2, and the next place is (y, 2x + 3y)
abbrev pub walk : ℕ → ℕ → ℕ → ℕ → List ℕ → List ℕ
walk zero t x y table = table
walk (suc n) t x y table = walk n (t + 1) y ((2 * x + 3 * y) % 5) (slice_set table (place x y) ((t + 1) * (t + 2) / 2 % 64))

unfoldable pub offsets : List ℕ
offsets = walk 24 0 1 0 (replicate 25 0)

unfoldable pub rho : List ℕ → List ℕ
rho a = lanes (λ x y. rotl (lane offsets x y) (lane a x y))

-- 3.2.3: pi
unfoldable pub pi : List ℕ → List ℕ
pi a = lanes (λ x y. lane a (x + 3 * y) x)

-- 3.2.4: chi
unfoldable pub chi : List ℕ → List ℕ
chi a = lanes (λ x y. bit_xor (lane a x y) (bit_and (not64 (lane a (x + 1) y)) (lane a (x + 2) y)))

-- 3.2.5: iota; rc n is the constant term of x ^ n modulo x ^ 8 + x ^ 6 + x ^ 5 + x ^ 4 + 1 over two elements, bit k for x ^ k
abbrev pub reduced : ℕ → ℕ
reduced p = cond (nat_lt p 256) p (bit_xor p 0x171)

abbrev pub power : ℕ → ℕ
power zero = 1
power (suc n) = reduced (2 * power n)

abbrev pub rc : ℕ → ℕ
rc n = power n % 2

-- bit 2 ^ j - 1 of round constant i is rc (j + 7i)
abbrev pub bits_below : ℕ → ℕ → ℕ
bits_below i zero = 0
bits_below i (suc j) = bits_below i j + rc (7 * i + j) * 2 ^ (2 ^ j - 1)

unfoldable pub constants : List ℕ
constants = map (λ i. bits_below i 7) (range_with_len 0 24)

abbrev pub iota : ℕ → List ℕ → List ℕ
iota c a = slice_set a 0 (bit_xor (slice_index a 0) c)

-- 3.3: a round, and all of them
abbrev pub round : ℕ → List ℕ → List ℕ
round c a = iota c (chi (pi (rho (theta a))))

abbrev pub rounds : List ℕ → List ℕ → List ℕ
rounds [] a = a
rounds (c ∷ cs) a = rounds cs (round c a)

abbrev pub keccak : List ℕ → List ℕ
keccak a = rounds constants a
