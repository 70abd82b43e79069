-- What a refusal that did not come says.
use Rattle.std.proofs.Common.{◌≡◌, ℕ, ◌≤◌, true, false, eqb, leb, List, length, None, ⊎_elim, arith}
use Rattle.std.proofs.lemmas.Bool.{cases_Bool, eqb-true, leb-true}
use Rattle.cell.specs.Payload.{length_of}
use Rattle.cell.specs.Refusals.{data_refusal}

pub data-met : (p : List ℕ) → data_refusal p ≡ None → (length p ≡ 509) × (length_of p ≤ 498)
data-met p e =
    ⊎_elim
    (λ (whole : eqb (length p) 509 ≡ true).
    ⊎_elim
    (λ (fits : leb (length_of p) 498 ≡ true). (eqb-true (length p) 509 whole, leb-true (length_of p) 498 fits))
    (λ (more : leb (length_of p) 498 ≡ false).
    let no = rw (whole, more) at e in
    cc)
    (cases_Bool (leb (length_of p) 498)))
    (λ (other : eqb (length p) 509 ≡ false).
    let no = rw other at e in
    cc)
    (cases_Bool (eqb (length p) 509))
