-- The rules of a cipher and a digest, from what their traits say of them.
use Rattle.crypto.specs.declared.cipher.Cipher as cipher
use Rattle.crypto.specs.declared.digest.Digest as digest
use Rattle.model.specs.Ends.{Rules}

abbrev pub rules : {C D : Type 0} → cipher.Ghosts C → (d : digest.Ghosts D) → Rules C d.State
rules c d = record { added = c.added; removed = c.removed; takes = d.takes; tags = d.tags }
