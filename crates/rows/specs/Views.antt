-- What a row of ends means: the list of what its ends mean.
use Rattle.std.specs.Prelude.{ℕ, List, map, vec_items, vec_len}
use Rattle.crypto.specs.declared.digest.Digest as digest
use Rattle.model.specs.Ends as model
use Rattle.hops.specs.Views.{end_seen}
use Rattle.rows.specs.declared.row.Row.{Row}

module _ {C D : Type 0} where
  abbrev pub row_len : Row C D → ℕ
  row_len r = vec_len r.ends

  abbrev pub row_seen : (d : digest.Ghosts D) → Row C D → List (model.End C d.State)
  row_seen d r = map (end_seen d) (vec_items r.ends)
