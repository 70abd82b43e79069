-- The lane of a chunk that is there, and 0 past the block's end.
use Rattle.std.proofs.Common.{◌≡◌, ℕ, ◌+◌, ◌*◌, ◌^◌, ◌/◌, ◌<◌, Bool, true, false, nat_lt, is_some, IfSome, List, length, get_or, ◌∙◌, arith, Option, Some, None, Bor, MatchOption, rules}
use Rattle.std.proofs.lemmas.Bool.Decides.{nat_tests}
use Rattle.hash_blocks.proofs.Chunks.{byte_of_chunk}
use Rattle.sha3.specs.Sha3.{block_lane}
use Rattle.sha3.proofs.Ends.{lane_past}
use Rattle.sha3.proofs.sponge.lane_at.Goals as goal

either : (r lane : ℕ) (below : Bool) (P Q : Bor (List ℕ) → Type 0) (o : Option (Bor (List ℕ))) → is_some o ≡ below → IfSome o P → MatchOption o (r ≡ 0) Q
    → ((x : Bor (List ℕ)) → true ≡ below → P x → Q x → r ≡ lane) → (false ≡ below → r ≡ 0 → r ≡ lane) → r ≡ lane
either r lane below P Q None b at e some none = none b e
either r lane below P Q (Some x) b at q some none = some x b at q

pub returns : goal.returns
returns c =
    let i : ℕ = c.args.i in
    let bs : List ℕ = c.args.block.now in
    let chunks : List (List ℕ) = c.as_chunks.result.0.now in
    either c.map_or.result (block_lane bs i) (nat_lt i (length chunks)) _ _ c.get.result c.get.ensures.lookup.0 c.get.ensures.lookup.1 c.map_or.ensures
    (λ x there at q.
    let value : c.map_or.result ≡ get_or x.now 0 0 + get_or x.now 1 0 * 256 ^ 1 + get_or x.now 2 0 * 256 ^ 2 + get_or x.now 3 0 * 256 ^ 3
    + get_or x.now 4 0 * 256 ^ 4 + get_or x.now 5 0 * 256 ^ 5 + get_or x.now 6 0 * 256 ^ 6 + get_or x.now 7 0 * 256 ^ 7 = search rules in
    let below : i < length bs / 8 = grind (arith, nat_tests, there, c.as_chunks.ensures.front_len) in
    let byte : (k j : ℕ) → k < 8 → 8 * i + k ≡ j → get_or x.now k 0 ≡ get_or bs j 0
    = byte_of_chunk 8 (length bs / 8) bs chunks i x.now x.now c.as_chunks.ensures.front at below in
    let b0 = byte 0 (8 * i) (omega arith) (omega arith) in
    let b1 = byte 1 (8 * i + 1) (omega arith) (omega arith) in
    let b2 = byte 2 (8 * i + 2) (omega arith) (omega arith) in
    let b3 = byte 3 (8 * i + 3) (omega arith) (omega arith) in
    let b4 = byte 4 (8 * i + 4) (omega arith) (omega arith) in
    let b5 = byte 5 (8 * i + 5) (omega arith) (omega arith) in
    let b6 = byte 6 (8 * i + 6) (omega arith) (omega arith) in
    let b7 = byte 7 (8 * i + 7) (omega arith) (omega arith) in
    cc value)
    (λ gone zero. zero ∙ lane_past bs i (grind (arith, nat_tests, gone, c.as_chunks.ensures.front_len, c.told-block)))
