-- The table is exact, from a fresh circuit, after any calls.
use Rattle.model.specs.Ends.{Rules}
use Rattle.model.specs.Circuit.{Circuit, Request}
use Rattle.model.specs.Runs.{after, start}
use Rattle.model.specs.Law.{Tabled, TableLaw}
use Rattle.model.proofs.Small.{Small}
use Rattle.model.proofs.SmallCalls.{small-after}
use Rattle.model.proofs.Exact.{called-exact}
use Rattle.model.proofs.Unchanged.{refused-unchanged}

module _ {K S : Type 0} (R : Rules K S) where
  tabled : (c : Circuit K S) → Small c → (x : Request) → Tabled R c x
  tabled c s x = record { exact = called-exact R c s x; unchanged = refused-unchanged R c x }

  pub table-law : TableLaw R
  table-law c z xs x = tabled (after R (start c) xs).circuit (small-after R c z xs) x
