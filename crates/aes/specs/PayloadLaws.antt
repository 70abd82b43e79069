-- A rule for payloads keeps the length if it does so at payloads; and what undoes it there undoes it.
-- Assumes nothing.
use Rattle.std.specs.Prelude.{◌≡◌, ℕ, Bool, true, false, cond, List, length, ◌==◌, refl}
use Rattle.std.proofs.Common.{ap, ◌∙◌, sym, ⊎_elim}
use Rattle.std.proofs.lemmas.Bool.{cases_eq, ne_eqb}
use Rattle.aes.specs.Payload.{on_payload}

module _ (f : List ℕ → List ℕ) where
  pub on_payload-is : (p : List ℕ) → length p ≡ 509 → on_payload f p ≡ f p
  on_payload-is p is = ap (λ (n : ℕ). cond (n == 509) (f p) p) is

  -- a choice between p and what f makes of it has p's length, where f keeps it
  length-cond : (b : Bool) (p : List ℕ) → length (f p) ≡ length p → length (cond b (f p) p) ≡ length p
  length-cond true p keeps = keeps
  length-cond false p keeps = refl

  pub length-on_payload : ((p : List ℕ) → length p ≡ 509 → length (f p) ≡ 509) → (p : List ℕ) → length (on_payload f p) ≡ length p
  length-on_payload keeps p =
      ⊎_elim (λ e. length-cond (length p == 509) p (keeps p e ∙ sym e))
      (λ no. ap (λ (b : Bool). length (cond b (f p) p)) (ne_eqb (length p) 509 no))
      (cases_eq (length p) 509)

-- two rules for payloads, the second undoing the first
pub on_payload-undone : (f g : List ℕ → List ℕ) (p : List ℕ) → length p ≡ 509 → length (f p) ≡ 509 → g (f p) ≡ p → on_payload g (on_payload f p) ≡ p
on_payload-undone f g p is long back = ap (on_payload g) (on_payload-is f p is) ∙ on_payload-is g (f p) long ∙ back
