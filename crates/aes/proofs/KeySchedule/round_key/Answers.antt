use Rattle.std.proofs.Common.{◌≡◌, ℕ, ◌+◌, ◌*◌, ◌/◌, ◌<◌, List, [], length, refl, sym, ap, ◌∙◌, arith, get_or, get_or-take}
use Rattle.aes_tables.specs.Words.{bytes}
use Rattle.aes_tables.proofs.Words.{same-columns}
use Rattle.aes.specs.Cipher.{block, round_key}
use Rattle.aes.specs.Schedule.{Schedule}
use Rattle.aes.proofs.Chunks.{chunk_word}
use Rattle.aes.proofs.KeySchedule.round_key.Goals as goal

pub returns : goal.returns
unfolding block round_key
returns c =
    let r = ap (λ (s : Schedule). s.rounds) c.self.view_is in
    let w = c.self.inside.words in
    let n = 4 * (c.self.inside.rounds + 1) in
    let i = c.args.i in
    let word : (k j : ℕ) → k < 4 → 4 * i + k ≡ j → bytes (get_or (get_or c.as_chunks.result.0.now i []) k 0) ≡ bytes (get_or c.args.self.now.words j 0)
    = λ k j small e. ap (λ (cs : List (List ℕ)). bytes (get_or (get_or cs i []) k 0)) c.as_chunks.ensures.front
    ∙ ap bytes (chunk_word (length w / 4) w i k (omega arith) small ∙ ap (λ (m : ℕ). get_or w m 0) e ∙ sym (get_or-take n w j 0 (omega arith)))
    ∙ ap (λ (s : Schedule). bytes (get_or s.words j 0)) c.self.view_is in
    same-columns (word 0 (4 * i) (omega arith) (omega arith)) (word 1 (4 * i + 1) (omega arith) refl)
    (word 2 (4 * i + 2) (omega arith) refl) (word 3 (4 * i + 3) (omega arith) refl)
