-- Lists exclusive-ored byte by byte: the length, and that it undoes itself.
-- Assumes nothing.
use Rattle.std.specs.Prelude.{◌≡◌, ℕ, suc, ◌≤◌, List, [], ◌∷◌, length, bit_xor, refl}
use Rattle.std.proofs.Common.{ap, ◌∙◌, le_of_suc-le-suc, not-suc-le-zero}
use Rattle.std.specs.Int.Bits.{xor_assoc, xor_self, xor_zero_r}
use Rattle.aes_tables.specs.Words.{xors}

pub length-xors : (p s : List ℕ) → length p ≤ length s → length (xors p s) ≡ length p
length-xors [] s le = refl
length-xors (x ∷ p) [] le = absurd (not-suc-le-zero le)
length-xors (x ∷ p) (y ∷ s) le = ap suc (length-xors p s (le_of_suc-le-suc le))

pub xors-twice : (p s : List ℕ) → length p ≤ length s → xors (xors p s) s ≡ p
xors-twice [] s le = refl
xors-twice (x ∷ p) [] le = absurd (not-suc-le-zero le)
xors-twice (x ∷ p) (y ∷ s) le =
    let e : bit_xor (bit_xor x y) y ≡ x = xor_assoc x y y ∙ ap (bit_xor x) (xor_self y) ∙ xor_zero_r x in
    let f = xors-twice p s (le_of_suc-le-suc le) in
    cc
