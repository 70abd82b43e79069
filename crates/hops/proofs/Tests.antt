-- When the test at a hop passes, and when it fails.
use Rattle.std.proofs.Common.{◌≡◌, ℕ, ◌+◌, ◌*◌, ◌<◌, Bool, true, false, ◌&&◌, eqb, List, [], ◌∷◌, length, get_or, refl, arith}
use Rattle.std.proofs.lemmas.Bool.{eq-eqb}
use Rattle.std.proofs.lemmas.Bool.Decides.{nat_tests}
use Rattle.cell.proofs.Payloads.{by-tag}
use Rattle.cell.specs.Payload.{recognised_of, tag_of, zeroed}
use Rattle.model.specs.Lists.{same}
use Rattle.model.specs.Ends.{recognises}

by_bytes : (a₀ a₁ a₂ a₃ b₀ b₁ b₂ b₃ : ℕ) → a₀ < 256 → a₁ < 256 → a₂ < 256 → a₃ < 256 → b₀ < 256 → b₁ < 256 → b₂ < 256 → b₃ < 256
    → eqb (a₀ * 16777216 + a₁ * 65536 + a₂ * 256 + a₃) (b₀ * 16777216 + b₁ * 65536 + b₂ * 256 + b₃) ≡ (eqb a₀ b₀ && (eqb a₁ b₁ && (eqb a₂ b₂ && (eqb a₃ b₃ && true))))
by_bytes a₀ a₁ a₂ a₃ b₀ b₁ b₂ b₃ p₀ p₁ p₂ p₃ q₀ q₁ q₂ q₃ = grind (arith, nat_tests)

-- the test in two parts: first the check bytes, then the digest's tag
cut : (a b c : Bool) → (a && b) ≡ false → (a && (b && c)) ≡ false
cut true b c e = rw e
cut false b c e = refl

rest : (a b c : Bool) → (a && b) ≡ true → (a && c) ≡ (a && (b && c))
rest true b c e = rw e
rest false b c e = refl

module _ {S : Type 0} (tags : S → List ℕ → List ℕ) (s : S) (p : List ℕ) where
  pub unchecked : (eqb (length p) 509 && eqb (recognised_of p) 0) ≡ false → (eqb (length p) 509 && recognises tags s p) ≡ false
  unfolding recognises
  unchecked e = cut (eqb (length p) 509) (eqb (recognised_of p) 0) (same (tag_of p) (tags s (zeroed p))) e

  pub checked : (eqb (length p) 509 && eqb (recognised_of p) 0) ≡ true → (eqb (length p) 509 && same (tag_of p) (tags s (zeroed p))) ≡ (eqb (length p) 509 && recognises tags s p)
  unfolding recognises
  checked e = rest (eqb (length p) 509) (eqb (recognised_of p) 0) (same (tag_of p) (tags s (zeroed p))) e

abbrev pub word : List ℕ → ℕ
word t = get_or t 0 0 * 16777216 + get_or t 1 0 * 65536 + get_or t 2 0 * 256 + get_or t 3 0

-- four bytes are the same exactly if the words that they write are
abbrev Bytes : List ℕ → Type 0
Bytes t = (i : ℕ) → get_or t i 0 < 256

pub same-words : (a b : List ℕ) → length a ≡ 4 → length b ≡ 4 → Bytes a → Bytes b → eqb (word a) (word b) ≡ same a b
same-words a b la lb =
    by-tag (λ t. Bytes t → Bytes b → eqb (word t) (word b) ≡ same t b)
    (λ a₀ a₁ a₂ a₃.
    by-tag (λ t. Bytes (a₀ ∷ a₁ ∷ a₂ ∷ a₃ ∷ []) → Bytes t → eqb (word (a₀ ∷ a₁ ∷ a₂ ∷ a₃ ∷ [])) (word t) ≡ same (a₀ ∷ a₁ ∷ a₂ ∷ a₃ ∷ []) t)
    (λ b₀ b₁ b₂ b₃ fa fb. by_bytes a₀ a₁ a₂ a₃ b₀ b₁ b₂ b₃ (fa 0) (fa 1) (fa 2) (fa 3) (fb 0) (fb 1) (fb 2) (fb 3)) b lb)
    a la

-- at a payload's own length the test is that of the model
pub at_length : (p : List ℕ) (b : Bool) → length p ≡ 509 → (eqb (length p) 509 && b) ≡ b
at_length p b l = rw (eq-eqb (length p) 509 l)
