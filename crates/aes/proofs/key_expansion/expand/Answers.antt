use Rattle.std.proofs.Common.{◌≡◌, ◌+◌, ◌-◌, ◌*◌, replicate, get_or, ap, arith, length-set}
use lib.Bits.{bit_xor}
use Rattle.aes.specs.KeyExpansion.{expanded, key_words}
use Rattle.aes.proofs.Expansion.{begun-whole, begun-words, take-extended-more}
use Rattle.aes.proofs.key_expansion.expand.Goals as goal

pub loop-i-init : goal.loop-i-init
loop-i-init c = record {
  is_whole = begun-whole c.args.nk c.read_words.new.words (replicate 60 0) c.args.key.now (omega arith) c.read_words.ensures;
  begun = begun-words c.args.nk c.read_words.new.words (replicate 60 0) c.args.key.now (omega arith) c.read_words.ensures;
}

pub loop-i-preserved : goal.loop-i-preserved
loop-i-preserved c =
    let w = c.loop-i.words in
    let i = c.loop-i.i in
    let nk = c.args.nk in
    let v = bit_xor (get_or w (i - nk) 0) c.added_word.result in
    let n = length-set w i v in
    record {
      is_whole = cc;
      begun =
          take-extended-more nk i w (key_words nk c.args.key.now) v (omega arith) (omega arith) (omega arith) c.loop-i.invariant.begun
          (ap (bit_xor (get_or w (i - nk) 0)) c.added_word.ensures);
    }

pub returns-clause-words : goal.returns-clause-words
unfolding expanded
returns-clause-words c =
    let e : 4 * (c.args.nk + 6 + 1) ≡ c.loop-i.i = omega arith in
    let f : c.loop-i.i - c.args.nk ≡ 3 * c.args.nk + 28 = omega arith in
    cc
