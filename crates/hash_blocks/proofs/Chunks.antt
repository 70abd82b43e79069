-- A byte of a chunk is a byte of the list.
use Rattle.std.proofs.Common.{◌≡◌, ℕ, zero, suc, ◌+◌, ◌*◌, ◌<◌, List, get_or, drop, ap, ◌∙◌, arith}
use Rattle.std.proofs.lemmas.List.{get_or-take, get_or-drop}
use Rattle.std.specs.Simd.{first_chunks}

chunk_byte : (w n : ℕ) (bs : List ℕ) (i k : ℕ) (d : List ℕ) → i < n → k < w → get_or (get_or (first_chunks w n bs) i d) k 0 ≡ get_or bs (w * i + k) 0
chunk_byte w zero bs i k d below within = absurd (omega arith)
chunk_byte w (suc n) bs zero k d below within = get_or-take w bs k 0 within ∙ ap (λ (j : ℕ). get_or bs j 0) (omega arith)
chunk_byte w (suc n) bs (suc i) k d below within =
    chunk_byte w n (drop w bs) i k d (omega arith) within
    ∙ get_or-drop w bs (w * i + k) 0
    ∙ ap (λ (j : ℕ). get_or bs j 0) (omega arith)

-- a chunk that was read from the list of them
pub byte_of_chunk : (w n : ℕ) (bs : List ℕ) (chunks : List (List ℕ)) (i : ℕ) (chunk d : List ℕ) → chunks ≡ first_chunks w n bs → chunk ≡ get_or chunks i d → i < n
    → (k j : ℕ) → k < w → w * i + k ≡ j → get_or chunk k 0 ≡ get_or bs j 0
byte_of_chunk w n bs chunks i chunk d all read below k j within e =
    ap (λ (c : List ℕ). get_or c k 0) read
    ∙ ap (λ (cs : List (List ℕ)). get_or (get_or cs i d) k 0) all
    ∙ chunk_byte w n bs i k d below within
    ∙ ap (λ (m : ℕ). get_or bs m 0) e
