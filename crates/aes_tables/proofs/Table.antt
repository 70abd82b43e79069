-- A fact at each number below a bound, by one test that antt computes, one number after the other.
-- Assumes nothing.
use Rattle.std.proofs.Common.{◌≡◌, ℕ, zero, suc, ◌<◌, Bool, true, ◌&&◌, Decides, refl}
use Rattle.std.proofs.lemmas.Bool.Decides.{Decides-below_and}

abbrev pub passes : (ℕ → Bool) → ℕ → Bool
passes p zero = true
passes p (suc n) = p n && passes p n

pub below : (p : ℕ → Bool) (P : ℕ → Type 0) → ((k : ℕ) → Decides (p k) (P k)) → (n : ℕ) → passes p n ≡ true → (k : ℕ) → k < n → P k
below p P each n all = (Decides-below_and p P (passes p) each refl (λ _. refl) n).0 all
