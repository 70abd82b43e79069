-- The slots of a cell link, and what the check is to know of the cells of both kinds of link.
use Rattle.std.proofs.Common.{◌≡◌, ℕ, ◌<◌, ◌≤◌, List, [], length, vec_items, sym, refl, subst, arith}
use Rattle.queue.specs.declared.place.Place.{Place}
use Rattle.queue.specs.Ring.{waiting}
use Rattle.queue.proofs.Turns.{length_waiting}
use Rattle.links.specs.declared.cell_link.CellLink.{CellLink}
use Rattle.links.specs.Lines.{Whole}
use Rattle.links.specs.Wholes.{whole-none, length_cut, cut_first, cut_rest}

module _ (l : CellLink) where
  pub head-within : l.place.head < length (vec_items l.slots)
  head-within = omega (arith, l.slots.ok.0, l.sound.0)

  pub count-within : l.place.count ≤ length (vec_items l.slots)
  count-within = omega (arith, l.slots.ok.0, l.sound.1)

  pub length-cells : length (waiting (vec_items l.slots) l.place) ≡ l.place.count
  length-cells =
      let lt = head-within in
      length_waiting (vec_items l.slots) l.place (omega arith) count-within

-- where nothing waits
module _ (slots : List (List ℕ)) (p : Place) (none : p.count ≡ 0) where
  pub no_cells : waiting slots p ≡ []
  unfolding waiting
  no_cells = rw none refl

  pub whole-no-cells : Whole (waiting slots p)
  whole-no-cells = subst Whole (sym no_cells) whole-none

-- what the methods of a link need of its cells
pub ruleset slots_of_cells = (length_waiting, no_cells, whole-no-cells)

pub ruleset bytes_of_cells = (length_cut, cut_first, cut_rest)
