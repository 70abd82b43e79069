-- A word of a chunk is a word of the list.
use Rattle.std.proofs.Common.{◌≡◌, ℕ, zero, suc, ◌+◌, ◌*◌, ◌<◌, List, [], get_or, drop, ap, ◌∙◌, arith}
use Rattle.std.proofs.lemmas.List.{get_or-take, get_or-drop}
use Rattle.std.specs.Simd.{first_chunks}

pub chunk_word : (n : ℕ) (ws : List ℕ) (i k : ℕ) → i < n → k < 4 → get_or (get_or (first_chunks 4 n ws) i []) k 0 ≡ get_or ws (4 * i + k) 0
chunk_word zero ws i k below within = absurd (omega arith)
chunk_word (suc n) ws zero k below within = get_or-take 4 ws k 0 within ∙ ap (λ (j : ℕ). get_or ws j 0) (omega arith)
chunk_word (suc n) ws (suc i) k below within =
    chunk_word n (drop 4 ws) i k (omega arith) within
    ∙ get_or-drop 4 ws (4 * i + k) 0
    ∙ ap (λ (j : ℕ). get_or ws j 0) (omega arith)
