-- What the cipher of a suite does to a payload.
-- Assumes nothing.
use Rattle.std.specs.Prelude.{ℕ, List}
use Rattle.aes.specs.CounterMode.{counter_layer}
use Rattle.lioness.specs.Rules.{added_by, removed_by}
use Rattle.suites.specs.declared.keys.SuiteCipher.{SuiteCipher}
use Rattle.suites.specs.declared.keys.SuiteCipher.TheVariants.{Counter, Lioness}

abbrev pub cipher_added : SuiteCipher → ℕ → List ℕ → List ℕ
cipher_added (Counter c) n p = counter_layer c n p
cipher_added (Lioness c) n p = added_by c p

abbrev pub cipher_removed : SuiteCipher → ℕ → List ℕ → List ℕ
cipher_removed (Counter c) n p = counter_layer c n p
cipher_removed (Lioness c) n p = removed_by c p
