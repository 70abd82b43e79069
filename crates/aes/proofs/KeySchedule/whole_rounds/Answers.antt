use Rattle.std.proofs.Common.{◌≡◌, ℕ, ◌+◌, ◌-◌, List, refl, add-one, arith}
use Rattle.aes.specs.Cipher.{block, round, round_key, rounds}
use Rattle.aes.proofs.Blocks.{round-columns}
use Rattle.aes.proofs.KeySchedule.whole_rounds.Goals as goal

rounds-more : (n : ℕ) (w s : List ℕ) → rounds (n + 1) w s ≡ round (rounds n w s) (round_key w (n + 1))
unfolding rounds
rounds-more n w s = rw add-one

pub loop-i-init : goal.loop-i-init
unfolding rounds
loop-i-init c = refl

pub loop-i-preserved : goal.loop-i-preserved
loop-i-preserved c =
    let i = c.loop-i.i in
    let n : i - 1 + 1 ≡ i = omega arith in
    let m : i + 1 - 1 ≡ i = omega arith in
    let e = rounds-more (i - 1) c.args.self.now.words (block c.args.s) in
    let r = c.whole_round-s.ensures in
    let f = round-columns c.loop-i.s c.round_key.result c.whole_round-s.result r.column0 r.column1 r.column2 r.column3 in
    cc
