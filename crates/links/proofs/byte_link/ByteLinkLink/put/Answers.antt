use Rattle.std.proofs.Common.{◌≡◌, ◌+◌, ◌/◌, ◌++◌, length, ap, ◌∙◌, arith}
use Rattle.std.proofs.lemmas.Grind.{common_steps}
use Rattle.queue.specs.Ring.{waiting, grown}
use Rattle.queue.proofs.Turns.{length_waiting}
use Rattle.links.specs.Cuts.{cut}
use Rattle.links.specs.Wholes.{length_cut, cut_push}
use Rattle.links.proofs.Answers.{put-room}
use Rattle.links.proofs.byte_link.ByteLinkLink.put.Goals as goal

pub returns-clause-after : goal.returns-clause-after
returns-clause-after c =
    let l = c.args.self.now in
    let W = waiting l.ring l.place in
    let n = l.place.count / 514 in
    let cell = c.args.cell.now in
    let p = c.in_ok-self.field-0 in
    let whole : length cell ≡ 514 = grind (arith, common_steps) in
    let more : p ≡ grown l.place (length cell) = grind (arith, common_steps) in
    let joined : waiting c.put_all.new.slots p ≡ W ++ cell = grind (arith, common_steps) in
    let count : p.count ≡ l.place.count + length cell = ap (λ p. p.count) more in
    let size : length W ≡ l.place.count = length_waiting l.ring l.place (omega (arith, l.sound.0, l.sound.1)) (omega (arith, l.sound.0, l.sound.3, l.few.1)) in
    let long = length_cut n W in
    cut_push n (p.count / 514) W cell (waiting c.put_all.new.slots p) joined (omega (arith, l.sound.2)) (omega (arith, l.sound.2)) whole
    ∙ (put-room l.capacity (cut n W) cell whole (omega (arith, c.is_full.ensures.has_room c.if-is_full.false))).1
