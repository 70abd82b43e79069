-- By the first that is worn out.
use Rattle.std.proofs.Common.{◌≡◌, leb, rules, tests, ◌∙◌}
use Rattle.std.specs.Prelude.{position}
use Rattle.std.proofs.lemmas.Iterator.{YieldsList-from_slice}
use Rattle.std.proofs.lemmas.Iterator.Search.{position_from_yields_List}
use Rattle.model.specs.Ends.{layer_limit}
use Rattle.hops.specs.declared.end.End.{End}
use Rattle.hops.specs.Views.{end_seen}
use Rattle.rows.proofs.Walks.{worn-position}
use Rattle.rows.proofs.ends.worn_at.Goals as goal

pub returns-clause-first : goal.returns-clause-first
returns-clause-first g c =
    let first : c.position.result ≡ position (λ (e : End g.row.C.Denot g.row.D.Denot). leb layer_limit e.layer) c.args.ends.now =
    position_from_yields_List (λ (e : End g.row.C.Denot g.row.D.Denot). leb layer_limit e.layer) _ _ c.position.result c.position.ensures.ran (YieldsList-from_slice c.args.ends.now cc) (λ x b q k. search (rules, tests)) in
    first ∙ worn-position (end_seen {C = g.row.C.Denot} g.D.Digest) c.args.ends.now
