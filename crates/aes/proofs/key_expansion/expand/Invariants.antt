use Rattle.std.proofs.Common.{◌≡◌, ◌-◌, length, take}
use Rattle.aes.specs.KeyExpansion.{extended, key_words}
use Rattle.aes.proofs.key_expansion.expand.Given as goal

abbrev pub invariant-loop-i : goal.invariant-loop-i
invariant-loop-i l = record {
  is_whole : length l.words ≡ 60;
  begun : take l.i l.words ≡ extended l.nk (l.i - l.nk) (key_words l.nk l.key);
}
