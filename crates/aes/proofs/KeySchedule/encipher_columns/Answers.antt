use Rattle.std.proofs.Common.{ap}
use Rattle.aes.specs.Cipher.{cipher}
use Rattle.aes.specs.Schedule.{Schedule}
use Rattle.aes.proofs.KeySchedule.encipher_columns.Goals as goal

pub returns : goal.returns
unfolding cipher
returns c =
    let r = ap (λ (s : Schedule). s.rounds) c.self.view_is in
    cc
