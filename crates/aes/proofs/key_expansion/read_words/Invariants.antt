use Rattle.std.proofs.Common.{◌≡◌, map, take}
use Rattle.std.specs.List.{range_with_len}
use Rattle.aes.specs.KeyExpansion.{word_at}
use Rattle.aes.proofs.key_expansion.read_words.Given as goal

abbrev pub invariant-loop-i : goal.invariant-loop-i
invariant-loop-i l = take l.i l.words ≡ map (word_at l.key) (range_with_len 0 l.i)
