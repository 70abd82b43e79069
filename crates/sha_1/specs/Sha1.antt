-- SHA-1 as FIPS 180-4 defines it; the numbers are the standard's sections.
use Rattle.std.specs.Prelude.{ℕ, zero, suc, ◌+◌, ◌-◌, ◌*◌, ◌/◌, ◌%◌, ◌^◌, cond, List, [], ◌∷◌, ◌++◌, map, length, replicate, bit_and, bit_or, bit_xor, nat_lt, slice_index}
use Rattle.std.specs.List.{range_with_len}
use Rattle.hash_blocks.specs.Blocks.{blocks}
use Rattle.sha_1.specs.declared.words.HashValue.{HashValue}
use Rattle.sha_1.specs.declared.words.Working.{Working}

-- 2.2.2: operations on 32-bit words
abbrev pub ROTL : ℕ → ℕ → ℕ
ROTL n x = bit_or ((x * 2 ^ n) % 2 ^ 32) (x / 2 ^ (32 - n))

abbrev pub add32 : ℕ → ℕ → ℕ
add32 x y = (x + y) % 2 ^ 32

abbrev pub not32 : ℕ → ℕ
not32 x = (2 ^ 32 - 1) - x

-- 4.1.1: the functions f
abbrev pub Ch : ℕ → ℕ → ℕ → ℕ
Ch x y z = bit_xor (bit_and x y) (bit_and (not32 x) z)

abbrev pub Parity : ℕ → ℕ → ℕ → ℕ
Parity x y z = bit_xor (bit_xor x y) z

abbrev pub Maj : ℕ → ℕ → ℕ → ℕ
Maj x y z = bit_xor (bit_xor (bit_and x y) (bit_and x z)) (bit_and y z)

abbrev pub f : ℕ → ℕ → ℕ → ℕ → ℕ
f t x y z = cond (nat_lt t 20) (Ch x y z) (cond (nat_lt t 40) (Parity x y z) (cond (nat_lt t 60) (Maj x y z) (Parity x y z)))

-- 4.2.1: the constants K
abbrev pub K : ℕ → ℕ
K t = cond (nat_lt t 20) 0x5A827999 (cond (nat_lt t 40) 0x6ED9EBA1 (cond (nat_lt t 60) 0x8F1BBCDC 0xCA62C1D6))

-- 5.1.1: 0x80, zeros up to 56 bytes modulo 64, and the length in bits as a 64-bit number
abbrev pub be32 : ℕ → List ℕ
be32 x = (x / 256 ^ 3 % 256) ∷ (x / 256 ^ 2 % 256) ∷ (x / 256 % 256) ∷ (x % 256) ∷ []

abbrev pub be64 : ℕ → List ℕ
be64 x = (x / 256 ^ 7 % 256) ∷ (x / 256 ^ 6 % 256) ∷ (x / 256 ^ 5 % 256) ∷ (x / 256 ^ 4 % 256)
    ∷ (x / 256 ^ 3 % 256) ∷ (x / 256 ^ 2 % 256) ∷ (x / 256 % 256) ∷ (x % 256) ∷ []

abbrev pub zeros : ℕ → ℕ
zeros n = (119 - n % 64) % 64

abbrev pub padding : ℕ → List ℕ
padding n = 0x80 ∷ (replicate (zeros n) 0 ++ be64 ((8 * n) % 2 ^ 64))

-- 5.2.1: word i of a block
abbrev pub M : List ℕ → ℕ → ℕ
M block i = slice_index block (4 * i) * 256 ^ 3 + slice_index block (4 * i + 1) * 256 ^ 2 + slice_index block (4 * i + 2) * 256 + slice_index block (4 * i + 3)

-- 5.3.1: the initial hash value
abbrev pub initial_hash : HashValue
initial_hash = record { h0 = 0x67452301; h1 = 0xEFCDAB89; h2 = 0x98BADCFE; h3 = 0x10325476; h4 = 0xC3D2E1F0 }

-- 6.1.2, step 1: the message schedule, the block's words and then 64 words, each from the ones 3, 8, 14 and 16 before it
abbrev pub mixed : ℕ → ℕ → ℕ → ℕ → ℕ
mixed w3 w8 w14 w16 = ROTL 1 (bit_xor (bit_xor (bit_xor w3 w8) w14) w16)

abbrev pub next_word : List ℕ → ℕ
next_word ws = mixed (slice_index ws (length ws - 3)) (slice_index ws (length ws - 8)) (slice_index ws (length ws - 14)) (slice_index ws (length ws - 16))

unfoldable pub extended : ℕ → List ℕ → List ℕ
extended zero ws = ws
extended (suc n) ws = extended n (ws ++ (next_word ws ∷ []))

unfoldable pub schedule : List ℕ → List ℕ
schedule block = extended 64 (map (M block) (range_with_len 0 16))

-- step 2: the working variables
abbrev pub working : HashValue → Working
working h = record { a = h.h0; b = h.h1; c = h.h2; d = h.h3; e = h.h4 }

-- step 3, for t from 0 to 79, with g = f_t(b, c, d), k = K_t and w = W_t
unfoldable pub step_to : ℕ → ℕ → ℕ → Working → Working
step_to g k w v = record {
  a = add32 (add32 (add32 (add32 (ROTL 5 v.a) g) v.e) k) w;
  b = v.a;
  c = ROTL 30 v.b;
  d = v.c;
  e = v.d;
}

abbrev pub step_by : (ℕ → ℕ → ℕ → ℕ) → ℕ → ℕ → Working → Working
step_by g k w v = step_to (g v.b v.c v.d) k w v

abbrev pub steps : ℕ → List ℕ → Working → Working
steps t [] v = v
steps t (w ∷ ws) v = steps (t + 1) ws (step_by (f t) (K t) w v)

-- step 4: the next hash value
abbrev pub added : HashValue → Working → HashValue
added h v = record { h0 = add32 h.h0 v.a; h1 = add32 h.h1 v.b; h2 = add32 h.h2 v.c; h3 = add32 h.h3 v.d; h4 = add32 h.h4 v.e }

abbrev pub compress : HashValue → List ℕ → HashValue
compress h block = added h (steps 0 (schedule block) (working h))

-- the message digest
abbrev pub digest_bytes : HashValue → List ℕ
digest_bytes h = be32 h.h0 ++ (be32 h.h1 ++ (be32 h.h2 ++ (be32 h.h3 ++ be32 h.h4)))

unfoldable pub sha1 : List ℕ → List ℕ
sha1 m = digest_bytes (blocks 64 compress initial_hash (m ++ padding (length m)))
