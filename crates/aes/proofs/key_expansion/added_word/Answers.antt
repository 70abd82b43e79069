use Rattle.std.proofs.Common.{arith}
use Rattle.std.proofs.lemmas.Bool.Decides.{nat_tests}
use Rattle.aes.specs.KeyExpansion.{temp}
use Rattle.aes.proofs.key_expansion.added_word.Goals as goal

pub returns-then-i-nk-eq0 : goal.returns-then-i-nk-eq0
unfolding temp
returns-then-i-nk-eq0 c = grind (arith, nat_tests)

pub returns-then-i-nk-eq4 : goal.returns-then-i-nk-eq4
unfolding temp
returns-then-i-nk-eq4 c = grind (arith, nat_tests)

pub returns : goal.returns
unfolding temp
returns c = grind (arith, nat_tests)
