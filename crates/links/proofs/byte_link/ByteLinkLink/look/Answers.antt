use Rattle.std.proofs.Common.{◌≡◌, ◌/◌, length, arith}
use Rattle.std.proofs.lemmas.Grind.{common_steps}
use Rattle.queue.specs.Ring.{waiting}
use Rattle.links.specs.Cuts.{cut}
use Rattle.links.specs.Wholes.{length_cut}
use Rattle.links.proofs.Answers.{look-by}
use Rattle.links.proofs.byte_link.ByteLinkLink.look.Goals as goal

pub returns-clause-answer : goal.returns-clause-answer
returns-clause-answer c =
    let l = c.args.self.now in
    let cells = cut (l.place.count / 514) (waiting l.ring l.place) in
    let whole : length c.args.cell.now ≡ 514 = grind (arith, common_steps) in
    let long = length_cut (l.place.count / 514) (waiting l.ring l.place) in
    look-by cells c.args.cell.now whole _ c.copy_oldest.result (λ h. omega (arith, long, h.0)) (λ e h. (omega (arith, long, h.0), h.1)) c.copy_oldest.ensures
