use Rattle.std.proofs.Common.{◌≡◌, ◌+◌, ◌≤◌, ◌∷◌, [], ◌++◌, length, vec_items, ap, ◌∙◌, arith}
use Rattle.std.proofs.lemmas.List.{with_items_is}
use Rattle.std.proofs.lemmas.Grind.{common_steps}
use Rattle.queue.specs.Ring.{waiting}
use Rattle.links.proofs.Answers.{put-room, put_full}
use Rattle.links.proofs.Slots.{length-cells}
use Rattle.links.proofs.cell_link.CellLinkLink.put.Goals as goal

pub returns-in_err-self-clause-after : goal.returns-in_err-self-clause-after
returns-in_err-self-clause-after c =
    let l = c.args.self.now in
    let last = c.put.new.slots in
    let cells = waiting (vec_items l.slots) l.place in
    let whole : length c.args.cell.now ≡ 514 = grind (arith, common_steps) in
    let same : last ≡ vec_items l.slots = grind (arith, common_steps) in
    let full : l.slots.len ≤ l.place.count = grind (arith, common_steps) in
    let long = length-cells l in
    ap (λ v. waiting v l.place) (with_items_is l.slots last (omega (arith, ap length same)) ∙ same)
    ∙ (put_full l.slots.len cells c.args.cell.now whole (omega arith)).1

pub returns-clause-after : goal.returns-clause-after
returns-clause-after c =
    let l = c.args.self.now in
    let p = c.in_ok-self.field-0 in
    let last = c.put.new.slots in
    let cells = waiting (vec_items l.slots) l.place in
    let whole : length c.args.cell.now ≡ 514 = grind (arith, common_steps) in
    let same : length last ≡ length (vec_items l.slots) = grind (arith, common_steps) in
    let joined : waiting last p ≡ cells ++ (c.args.cell.now ∷ []) = grind (arith, common_steps) in
    let room : l.place.count + 1 ≤ l.slots.len = grind (arith, common_steps) in
    let long = length-cells l in
    ap (λ v. waiting v p) (with_items_is l.slots last (omega arith)) ∙ joined
    ∙ (put-room l.slots.len cells c.args.cell.now whole (omega arith)).1
