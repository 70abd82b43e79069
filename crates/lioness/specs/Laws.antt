-- The four steps and the four in reverse undo each other.
-- Assumes nothing.
use Rattle.std.specs.Prelude.{◌≡◌, ℕ, List, length}
use Rattle.aes.specs.PayloadLaws.{length-on_payload, on_payload-undone}
use Rattle.lioness.specs.Steps.{right_step, left_step}
use Rattle.lioness.specs.Lioness.{four_add, four_remove}
use Rattle.lioness.specs.Rules.{added_by, removed_by}
use Rattle.lioness.specs.declared.Lioness.{Lioness}
use Rattle.lioness.specs.Undoing.{length-right_step, length-left_step, right_step-twice, left_step-twice}

module _ (k1 k2 k3 k4 p : List ℕ) (is : length p ≡ 509) where
  length-four_add : length (four_add k1 k2 k3 k4 p) ≡ 509
  length-four_add =
      length-left_step k4 (right_step k3 (left_step k2 (right_step k1 p)))
      (length-right_step k3 (left_step k2 (right_step k1 p)) (length-left_step k2 (right_step k1 p) (length-right_step k1 p is)))

  length-four_remove : length (four_remove k1 k2 k3 k4 p) ≡ 509
  length-four_remove =
      length-right_step k1 (left_step k2 (right_step k3 (left_step k4 p)))
      (length-left_step k2 (right_step k3 (left_step k4 p)) (length-right_step k3 (left_step k4 p) (length-left_step k4 p is)))

  remove-add : four_remove k1 k2 k3 k4 (four_add k1 k2 k3 k4 p) ≡ p
  remove-add =
      let one = right_step k1 p in
      let two = left_step k2 one in
      let three = right_step k3 two in
      let n1 = length-right_step k1 p is in
      let n2 = length-left_step k2 one n1 in
      let n3 = length-right_step k3 two n2 in
      let a = left_step-twice k4 three n3 in
      let b = right_step-twice k3 two n2 in
      let c = left_step-twice k2 one n1 in
      let d = right_step-twice k1 p is in
      cc

  add-remove : four_add k1 k2 k3 k4 (four_remove k1 k2 k3 k4 p) ≡ p
  add-remove =
      let four = left_step k4 p in
      let three = right_step k3 four in
      let two = left_step k2 three in
      let n4 = length-left_step k4 p is in
      let n3 = length-right_step k3 four n4 in
      let n2 = length-left_step k2 three n3 in
      let a = right_step-twice k1 two n2 in
      let b = left_step-twice k2 three n3 in
      let c = right_step-twice k3 four n4 in
      let d = left_step-twice k4 p is in
      cc

-- what a Lioness does
module _ (c : Lioness) (p : List ℕ) where
  pub length-added_by : length (added_by c p) ≡ length p
  length-added_by = length-on_payload (four_add c.first.right_key c.first.left_key c.second.right_key c.second.left_key) (length-four_add c.first.right_key c.first.left_key c.second.right_key c.second.left_key) p

  pub length-removed_by : length (removed_by c p) ≡ length p
  length-removed_by = length-on_payload (four_remove c.first.right_key c.first.left_key c.second.right_key c.second.left_key) (length-four_remove c.first.right_key c.first.left_key c.second.right_key c.second.left_key) p

  pub removed_by-added_by : length p ≡ 509 → removed_by c (added_by c p) ≡ p
  removed_by-added_by is =
      on_payload-undone (four_add c.first.right_key c.first.left_key c.second.right_key c.second.left_key) (four_remove c.first.right_key c.first.left_key c.second.right_key c.second.left_key) p is
      (length-four_add c.first.right_key c.first.left_key c.second.right_key c.second.left_key p is) (remove-add c.first.right_key c.first.left_key c.second.right_key c.second.left_key p is)

  pub added_by-removed_by : length p ≡ 509 → added_by c (removed_by c p) ≡ p
  added_by-removed_by is =
      on_payload-undone (four_remove c.first.right_key c.first.left_key c.second.right_key c.second.left_key) (four_add c.first.right_key c.first.left_key c.second.right_key c.second.left_key) p is
      (length-four_remove c.first.right_key c.first.left_key c.second.right_key c.second.left_key p is) (add-remove c.first.right_key c.first.left_key c.second.right_key c.second.left_key p is)
