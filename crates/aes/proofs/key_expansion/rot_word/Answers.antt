use Rattle.std.proofs.Common.{◌≡◌, ℕ, ◌+◌, ◌*◌, ◌/◌, ◌%◌, ap, ◌∙◌, arith}
use Rattle.std.proofs.lemmas.Nat.{or_shifted}
use Rattle.std.specs.Int.Bits.{bit_or}
use Rattle.aes.specs.KeyExpansion.{rot_word}
use Rattle.aes.proofs.key_expansion.rot_word.Goals as goal

pub returns : goal.returns
unfolding rot_word
returns c =
    let w = c.args.w in
    let up : w * 256 % 4294967296 ≡ w % 16777216 * 256 = omega arith in
    let turned : c.rotate_left.result ≡ w % 16777216 * 256 + w / 16777216 =
    c.rotate_left.ensures ∙ ap (λ (n : ℕ). bit_or n (w / 16777216)) up ∙ or_shifted (w % 16777216) 8 (w / 16777216) (omega arith)
    in
    let h : w / 16777216 % 256 ≡ w / 16777216 = omega arith in
    let l : w % 16777216 ≡ w / 65536 % 256 * 65536 + w % 65536 = omega arith in
    let m : w % 65536 ≡ w / 256 % 256 * 256 + w % 256 = omega arith in
    omega arith
