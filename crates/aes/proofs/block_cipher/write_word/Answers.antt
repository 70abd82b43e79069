use Rattle.std.proofs.Common.{◌+◌, ◌-◌, refl, ◌∙◌, arith}
use Rattle.std.proofs.lemmas.Slice.{put_mid-paste}
use Rattle.aes_tables.specs.Words.{bytes}
use Rattle.aes.proofs.block_cipher.write_word.Goals as goal

pub returns : goal.returns
unfolding bytes
returns c =
    put_mid-paste c.args.at (c.args.at + 4 - c.args.at) c.args.out.now c.copy_from_slice.new.self (bytes c.args.w) 4
    (c.copy_from_slice.ensures.after ∙ c.to_be_bytes.ensures) (omega arith) refl
