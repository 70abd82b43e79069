-- The bytes of an exclusive-or of words are those of the words, exclusive-ored.
-- Assumes nothing.
use mathlib.Core.Path.{◌≡◌, ap, ◌∙◌}
use mathlib.Core.List.{List, [], ◌∷◌, ◌++◌}
use Prim.Native.Nat.{ℕ, ◌<◌, ◌/◌, ◌%◌, ◌^◌}
use lib.Bits.{bit_xor, xor_shr, xor_mod}
use native.Mathlib.Omega.{arith}
use Rattle.aes_tables.specs.Words.{bytes, word, xors}

byte-xor : (k x y : ℕ) → bit_xor x y / 2 ^ k % 2 ^ 8 ≡ bit_xor (x / 2 ^ k % 2 ^ 8) (y / 2 ^ k % 2 ^ 8)
byte-xor k x y = ap (λ (n : ℕ). n % 2 ^ 8) (xor_shr x y k) ∙ xor_mod (x / 2 ^ k) (y / 2 ^ k) 8

pub bytes-xor : (x y : ℕ) → bytes (bit_xor x y) ≡ xors (bytes x) (bytes y)
unfolding bytes
bytes-xor x y =
    let p = byte-xor 24 x y in
    let q = byte-xor 16 x y in
    let r = byte-xor 8 x y in
    let s = xor_mod x y 8 in
    cc

pub bytes_word : (a b c d : ℕ) → a < 256 → b < 256 → c < 256 → d < 256 → bytes (word a b c d) ≡ a ∷ b ∷ c ∷ d ∷ []
unfolding bytes
bytes_word a b c d ha hb hc hd =
    let p : word a b c d / 16777216 % 256 ≡ a = omega arith in
    let q : word a b c d / 65536 % 256 ≡ b = omega arith in
    let r : word a b c d / 256 % 256 ≡ c = omega arith in
    let s : word a b c d % 256 ≡ d = omega arith in
    cc

-- equal parts make equal lists
pub same-four : {a b c d a₁ b₁ c₁ d₁ : ℕ} → a ≡ a₁ → b ≡ b₁ → c ≡ c₁ → d ≡ d₁ → a ∷ b ∷ c ∷ d ∷ [] ≡ a₁ ∷ b₁ ∷ c₁ ∷ d₁ ∷ []
same-four e f g h = cc

pub same-columns : {x y z w x₁ y₁ z₁ w₁ : List ℕ} → x ≡ x₁ → y ≡ y₁ → z ≡ z₁ → w ≡ w₁ → x ++ (y ++ (z ++ w)) ≡ x₁ ++ (y₁ ++ (z₁ ++ w₁))
same-columns e f g h = cc

pub xor-of-four : (p q r s : ℕ) {P Q R T : List ℕ} → bytes p ≡ P → bytes q ≡ Q → bytes r ≡ R → bytes s ≡ T
    → bytes (bit_xor (bit_xor (bit_xor p q) r) s) ≡ xors (xors (xors P Q) R) T
xor-of-four p q r s e f g h =
    let i = bytes-xor (bit_xor (bit_xor p q) r) s in
    let j = bytes-xor (bit_xor p q) r in
    let k = bytes-xor p q in
    cc
