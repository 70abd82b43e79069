use Rattle.std.proofs.Common.{◌≤◌, length, take, append-nil, add-one, arith}
use Rattle.std.proofs.lemmas.List.{take_all, drop_all, length-take}
use Rattle.aes_tables.specs.Words.{xors}
use Rattle.aes_tables.proofs.Xoring.{xor-at, xor-more, xors-shared}
use Rattle.aes_tables.proofs.xor_into.Goals as goal

pub loop-i-preserved : goal.loop-i-preserved
loop-i-preserved c =
    let p = take c.min-shared.result c.args.p.now in
    let s = c.args.s.now in
    let i = c.loop-i.i in
    let n : length p ≤ length s = simp length-take (omega arith) in
    let a = xor-at p s i c.loop-i-test.true n in
    let b = xor-more p s i c.loop-i-test.true n in
    let e = add-one i in
    cc

pub returns-clause-bytes : goal.returns-clause-bytes
returns-clause-bytes c =
    let n = c.min-shared.result in
    let p = c.args.p.now in
    let s = c.args.s.now in
    let a = take_all c.loop-i.i (take n p) c.loop-i-test.false in
    let b = drop_all c.loop-i.i (take n p) c.loop-i-test.false in
    let e = append-nil (xors (take n p) s) in
    let f = xors-shared p s n c.min-shared.ensures in
    cc
