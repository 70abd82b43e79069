-- What the run law needs of a cipher and a digest.
use Rattle.std.proofs.Common.{◌≡◌, ℕ, List, length}
use Rattle.model.specs.Ends.{Rules}

pub record Laws {K S : Type 0} (R : Rules K S) : Type 0 where
  pub remove_undoes_add : (c : K) (n : ℕ) (p : List ℕ) → length p ≡ 509 → R.removed c n (R.added c n p) ≡ p
  pub added_length : (c : K) (n : ℕ) (p : List ℕ) → length (R.added c n p) ≡ length p
  pub tag_length : (s : S) (p : List ℕ) → length (R.tags s p) ≡ 4
