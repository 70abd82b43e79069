-- What the code's ciphers, digests and ends mean.
use Rattle.std.specs.Prelude.{◌+◌}
use Rattle.crypto.specs.declared.cipher.Cipher as cipher
use Rattle.crypto.specs.declared.digest.Digest as digest
use Rattle.model.specs.Ends as model
use Rattle.hops.specs.declared.end.End.{End}

abbrev pub rules : {C D : Type 0} → cipher.Ghosts C → (d : digest.Ghosts D) → model.Rules C d.State
rules c d = record { added = c.added; removed = c.removed; takes = d.takes; tags = d.tags }

module _ {C D : Type 0} (d : digest.Ghosts D) where
  abbrev pub end_seen : End C D → model.End C d.State
  end_seen e = record { cipher = e.cipher; layer = e.layer; digest = d.state e.digest }

-- a layer was used, and the digest is s now
abbrev pub took_to : {K S : Type 0} → model.End K S → S → model.End K S
took_to e s = record { cipher = e.cipher; layer = e.layer + 1; digest = s }
