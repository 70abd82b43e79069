-- Each end before d is fresh, and moves on.
use Rattle.std.proofs.Common.{◌≡◌, ◌++◌, ◌<◌, false, cond, leb, map, set, length, drop, get_or, Some, sym, ap, ◌∙◌, arith, length-append, length-take}
use Rattle.std.proofs.lemmas.List.{map-set, set-append_left, get_or_append_left}
use Rattle.std.proofs.lemmas.Bool.{cond-false}
use Rattle.model.specs.Lists.{nth}
use Rattle.model.specs.Ends.{layer_limit, moved_to, moved}
use Rattle.hops.specs.declared.end.End.{End}
use Rattle.hops.specs.Views.{end_seen}
use Rattle.rows.proofs.Walks.{nth_read, nth-moved, move_step, fresh_at}
use Rattle.rows.proofs.ends.move_up_to.Goals as goal

pub loop-end-preserved : goal.loop-end-preserved
loop-end-preserved g c =
    let f = end_seen {C = g.row.C.Denot} g.D.Digest in
    let es = map f c.args.ends.now in
    let items = c.loop-end.end-items in
    let rest = drop c.args.d c.args.ends.now in
    let i = c.loop-end.end-index in
    let x = c.end-item.result in
    let y = c.move_on.new.self in
    let in_items : i < length items = omega arith in
    let in_row : i < length (items ++ rest) = omega (arith, length-append items rest) in
    let read : x ≡ get_or (items ++ rest) i x = c.end-item.is ∙ sym (get_or_append_left items rest x i in_items) in
    let at : nth (moved_to i es) i ≡ Some (f x) = ap (λ v. nth v i) (sym c.loop-end.invariant) ∙ nth_read f (items ++ rest) i x in_row read in
    let fresh : leb layer_limit x.layer ≡ false = fresh_at es c.args.d i (f x) (omega (arith, length-take c.args.d c.args.ends.now)) c.requires.none_worn (sym (nth-moved es i) ∙ at) in
    let new : f y ≡ moved (f x) =
    c.move_on.ensures ∙ ap (λ (v : End g.row.C.Denot g.row.D.Denot). cond (leb layer_limit v.layer) (f v) (moved (f v))) (sym c.end-item.is)
    ∙ cond-false (leb layer_limit x.layer) (f x) (moved (f x)) fresh in
    ap (map f) (sym (set-append_left items rest i y in_items)) ∙ map-set f (items ++ rest) i y ∙ ap (set (map f (items ++ rest)) i) new ∙ ap (λ v. set v i (moved (f x))) c.loop-end.invariant ∙ move_step es i (f x) at
