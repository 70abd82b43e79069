-- Nothing, or the ends before d and then the one at d.
use Rattle.std.proofs.Common.{◌≡◌, ◌<◌, false, cond, leb, map, length, set, Some, sym, ap, ◌∙◌, arith}
use Rattle.std.proofs.lemmas.List.{length-map, map-set}
use Rattle.std.proofs.lemmas.Bool.{cond-true, cond-false}
use Rattle.model.specs.Lists.{nth}
use Rattle.model.specs.Ends.{layer_limit, moved_to, worn_out}
use Rattle.rows.specs.Rows.{advanced_to, can_advance}
use Rattle.hops.specs.declared.end.End.{End}
use Rattle.hops.specs.Views.{end_seen, took_to}
use Rattle.rows.proofs.Walks.{nth_read, nth-moved, move-last, fresh_at, can-advance}
use Rattle.rows.proofs.ends.advance.Goals as goal

pub returns : goal.returns
returns g c =
    let f = end_seen {C = g.row.C.Denot} g.D.Digest in
    let es = map f c.args.ends.now in
    let d = c.args.d in
    let s = g.D.Digest.state c.args.taken in
    let x = c.index-ends-d.result in
    let y = c.take_on.new.self in
    let last = c.move_up_to.new.ends in
    let free : worn_out es d ≡ false = sym c.if-worn_out.ensures in
    let near : d < length es = simp length-map (omega arith) in
    let at : nth (moved_to d es) d ≡ Some (f x) = ap (λ v. nth v d) (sym c.move_up_to.ensures) ∙ nth_read f last d x (omega arith) c.index-ends-d.is in
    let fresh : leb layer_limit x.layer ≡ false = fresh_at es d d (f x) (omega arith) free (sym (nth-moved es d) ∙ at) in
    let new : f y ≡ took_to (f x) s =
    c.take_on.ensures ∙ ap (λ (v : End g.row.C.Denot g.row.D.Denot). cond (leb layer_limit v.layer) (f v) (took_to (f v) s)) (sym c.index-ends-d.is)
    ∙ cond-false (leb layer_limit x.layer) (f x) (took_to (f x) s) fresh in
    map-set f last d y ∙ ap (set (map f last) d) new ∙ ap (λ v. set v d (took_to (f x) s)) c.move_up_to.ensures ∙ move-last es d (f x) s at
    ∙ sym (cond-true (can_advance es d) (advanced_to es d s) es (can-advance es d near free))
