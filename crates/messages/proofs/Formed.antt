-- When a payload is well formed.
use Rattle.std.proofs.Common.{◌≡◌, ℕ, ◌≤◌, true, false, not, ◌||◌, eqb, leb, List, length, Some, ⊎_elim, arith}
use Rattle.std.proofs.lemmas.Bool.{cases_Bool, and_left, and_right, and_from, or_from, or_left, or_right, not_from_true, not_from_false, eq-eqb, ne_eqb, le-leb}
use Rattle.cell.specs.declared.error.CellError.{CellError}
use Rattle.cell.specs.declared.command.Way.{Way}
use Rattle.cell.specs.Payload.{command_of, stream_of, length_of}
use Rattle.cell.specs.Refusals.{data_refusal}
use Rattle.model.specs.Messages.{travels, streamless, well_formed}

pub data-refused : (p : List ℕ) (e : CellError) → length p ≡ 509 → data_refusal p ≡ Some e → leb (length_of p) 498 ≡ false
data-refused p e l h =
    ⊎_elim
    (λ (fits : leb (length_of p) 498 ≡ true). let no = rw (eq-eqb (length p) 509 l, fits) at h in cc)
    (λ (more : leb (length_of p) 498 ≡ false). more)
    (cases_Bool (leb (length_of p) 498))

module _ (w : Way) (p : List ℕ) where
  pub too_long : leb (length_of p) 498 ≡ false → well_formed w p ≡ false
  unfolding well_formed
  too_long e = and_left _ _ e

  pub stray : travels w (command_of p) ≡ false → well_formed w p ≡ false
  unfolding well_formed
  stray e = and_right (leb (length_of p) 498) _ (and_left (travels w (command_of p)) _ e)

  pub owns_none : streamless (command_of p) ≡ true → (stream_of p ≡ 0 → ⊥) → well_formed w p ≡ false
  unfolding well_formed
  owns_none s n = and_right (leb (length_of p) 498) _ (and_right (travels w (command_of p)) _ (or_from (not (streamless (command_of p))) (eqb (stream_of p) 0) (not_from_true _ s) (ne_eqb _ _ n)))

  pub formed : length_of p ≤ 498 → travels w (command_of p) ≡ true → (not (streamless (command_of p)) || eqb (stream_of p) 0) ≡ true → well_formed w p ≡ true
  unfolding well_formed
  formed l t s = and_from _ _ (le-leb _ _ l) (and_from _ _ t s)

  pub by-stream : stream_of p ≡ 0 → (not (streamless (command_of p)) || eqb (stream_of p) 0) ≡ true
  by-stream e = or_right (not (streamless (command_of p))) (eqb (stream_of p) 0) (eq-eqb _ _ e)

  pub by-command : streamless (command_of p) ≡ false → (not (streamless (command_of p)) || eqb (stream_of p) 0) ≡ true
  by-command e = or_left (not (streamless (command_of p))) (eqb (stream_of p) 0) (not_from_false _ e)
