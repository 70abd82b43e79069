use Rattle.std.proofs.Common.{◌≡◌, ℕ, ◌+◌, ◌-◌, ◌/◌, ◌%◌, List, [], ◌∷◌, ◌++◌, length, take, drop, replicate, refl, ap, ◌∙◌, arith}
use Rattle.std.proofs.lemmas.List.{take_at}
use Rattle.std.proofs.lemmas.Bool.{eq-eqb, le-leb}
use Rattle.std.proofs.lemmas.Grind.{common_steps}
use Rattle.cell.specs.Payload.{no_tag, written, blank, message_of}
use Rattle.cell.specs.Commands.{command_byte}
use Rattle.cell.proofs.Payloads.{message-written}
use Rattle.cell.proofs.payload.write_payload.Goals as goal

pub returns : goal.returns
unfolding written blank
returns c =
    let p = c.args.payload.now in
    let content = c.args.content.now in
    let stream = c.args.stream in
    let n : ℕ = length content in
    let command : ℕ = command_byte c.args.command in
    let header : List ℕ = command ∷ 0 ∷ 0 ∷ stream / 256 ∷ stream % 256 ∷ 0 ∷ 0 ∷ 0 ∷ 0 ∷ n / 256 ∷ n % 256 ∷ [] in
    let size : length p ≡ 509 = grind (arith, common_steps) in
    let first : c.put_part.new.bytes ≡ header ++ drop 11 p =
    c.put_part.ensures ∙ ap (λ (h : List ℕ). h ++ drop (0 + length h) p)
    (c.header.ensures ∙ ap (λ b. b ∷ 0 ∷ 0 ∷ stream / 256 ∷ stream % 256 ∷ 0 ∷ 0 ∷ 0 ∷ 0 ∷ n / 256 ∷ n % 256 ∷ []) c.from.ensures.0) in
    let rest : List ℕ = drop (11 + n) c.put_part.new.bytes in
    let second : c.put_part-2.new.bytes ≡ header ++ (content ++ rest) = c.put_part-2.ensures ∙ ap (λ v. take 11 v ++ (content ++ rest)) first in
    let few : length c.put_part-2.new.bytes - (11 + n) ≡ 498 - n = omega arith in
    let front : length (header ++ content) ≡ 11 + n = omega arith in
    let third : c.clear_from.new.bytes ≡ header ++ (content ++ replicate (498 - n) 0) =
    c.clear_from.ensures ∙ ap (λ k. take (11 + n) c.put_part-2.new.bytes ++ replicate k 0) few
    ∙ ap (λ v. take (11 + n) v ++ replicate (498 - n) 0) second
    ∙ ap (λ v. v ++ replicate (498 - n) 0) (take_at (header ++ content) rest (11 + n) front) in
    let whole = eq-eqb (length p) 509 size in
    let fits = le-leb n 498 (omega arith) in
    record {
      refuses = rw (whole, fits) refl;
      writes = third;
      reads = λ _. ap message_of third ∙ message-written command stream no_tag content refl;
    }
