use Rattle.std.proofs.Common.{◌≡◌, length, arith}
use Rattle.std.proofs.lemmas.List.{take_all}
use Rattle.aes.specs.KeyExpansion.{key_words, word_at}
use Rattle.aes.proofs.Expansion.{take-counted-more}
use Rattle.aes.proofs.key_expansion.read_words.Goals as goal

pub loop-i-preserved : goal.loop-i-preserved
loop-i-preserved c =
    let f = take-counted-more (word_at c.args.key.now) c.loop-i.i c.loop-i.words (omega arith) c.loop-i.invariant in
    cc

pub returns : goal.returns
unfolding key_words
returns c =
    let a = take_all c.loop-i.i c.loop-i.words (omega arith) in
    let e : c.loop-i.i ≡ length c.args.words.now = omega arith in
    cc
