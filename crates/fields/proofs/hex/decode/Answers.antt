-- Each way out of the loop, and a turn of two digits.
use Rattle.std.proofs.Common.{◌≡◌, ℕ, ◌+◌, ◌*◌, ◌/◌, ◌<◌, List, length, drop, vec_items, Some, sym, ap, ◌∙◌, append-nil, rules, arith}
use Rattle.std.proofs.lemmas.List.{drop_all}
use Rattle.std.specs.Simd.{first_chunks}
use Rattle.fields.specs.Hex.{decoded, behind}
use Rattle.fields.proofs.Hexes.{of_pairs, decoded_pairs, decoded_odd, no_byte, one_byte}
use Rattle.fields.proofs.hex.decode.Goals as goal

even : (text : List ℕ) (pairs : List (List ℕ)) → length text ≡ 2 * (length text / 2) → pairs ≡ first_chunks 2 (length text / 2) text → decoded text ≡ of_pairs pairs
even text pairs e f = decoded_pairs (length text / 2) text e ∙ ap of_pairs (sym f)

pub returns-then-not-is_empty : goal.returns-then-not-is_empty
returns-then-not-is_empty c =
    let text : List ℕ = c.args.text.now in
    let some : 0 < length c.as_chunks.result.1.now = search rules in
    decoded_odd (length text / 2) text (omega arith)

pub returns-in_default : goal.returns-in_default
returns-in_default c =
    let none : length c.as_chunks.result.1.now ≡ 0 = search rules in
    even c.args.text.now c.as_chunks.result.0.now (omega arith) c.as_chunks.ensures.front
    ∙ no_byte c.as_chunks.result.0.now c.loop-high.high-index (vec_items c.loop-high.bytes) (omega arith) c.loop-high.invariant c.in_default.ensures

pub loop-high-preserved : goal.loop-high-preserved
loop-high-preserved c =
    one_byte c.as_chunks.result.0.now c.loop-high.high-index (vec_items c.loop-high.bytes) (omega arith) c.loop-high.invariant c.in-Some.byte c.in-Some.ensures
    ∙ ap (λ (bs : List ℕ). behind bs (of_pairs (drop (c.loop-high.high-index + 1) c.as_chunks.result.0.now))) (sym c.in_ok-push.ensures.items)

pub returns : goal.returns
returns c =
    let none : length c.as_chunks.result.1.now ≡ 0 = search rules in
    even c.args.text.now c.as_chunks.result.0.now (omega arith) c.as_chunks.ensures.front
    ∙ c.loop-high.invariant
    ∙ ap (λ (ps : List (List ℕ)). behind (vec_items c.loop-high.bytes) (of_pairs ps)) (drop_all c.loop-high.high-index c.as_chunks.result.0.now (omega arith))
    ∙ ap Some (append-nil (vec_items c.loop-high.bytes))
