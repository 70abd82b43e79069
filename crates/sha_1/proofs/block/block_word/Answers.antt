use Rattle.std.proofs.Common.{◌≡◌, ℕ, ◌+◌, ◌*◌, ◌/◌, ◌<◌, List, [], length, get_or, refl, arith}
use Rattle.hash_blocks.proofs.Chunks.{byte_of_chunk}
use Rattle.sha_1.proofs.block.block_word.Goals as goal

pub returns : goal.returns
returns c =
    let i : ℕ = c.args.i in
    let bs : List ℕ = c.args.block.now in
    let word : List ℕ = get_or c.as_chunks.result.0.now i [] in
    let byte : (k j : ℕ) → k < 4 → 4 * i + k ≡ j → get_or word k 0 ≡ get_or bs j 0
    = byte_of_chunk 4 (length bs / 4) bs c.as_chunks.result.0.now i word [] c.as_chunks.ensures.front refl (omega arith) in
    let b0 = byte 0 (4 * i) (omega arith) (omega arith) in
    let b1 = byte 1 (4 * i + 1) (omega arith) (omega arith) in
    let b2 = byte 2 (4 * i + 2) (omega arith) (omega arith) in
    let b3 = byte 3 (4 * i + 3) (omega arith) (omega arith) in
    cc c.from_be_bytes.ensures
