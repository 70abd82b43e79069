use Rattle.std.proofs.Common.{◌≡◌, length, drop, sym, refl, ap, ◌∙◌, arith}
use Rattle.std.proofs.lemmas.List.{take_rest, length-drop}
use Rattle.std.proofs.lemmas.Bool.{eq-eqb}
use Rattle.std.proofs.lemmas.Grind.{common_steps}
use Rattle.cell.specs.Frame.{framed, number_of, cell_command_of, payload_of}
use Rattle.cell.proofs.Frames.{framed-read}
use Rattle.cell.proofs.frame.read_cell.Goals as goal

pub returns : goal.returns
unfolding number_of cell_command_of payload_of
returns c =
    let cell = c.args.cell.now in
    let number = c.args.number in
    let rest = take_rest cell 5 in
    let left : length (drop 5 cell) ≡ 509 = grind (arith, common_steps, length-drop 5 cell) in
    let size : length cell ≡ 514 = omega (arith, left, length-drop 5 cell) in
    let met = c.is_expected.ensures.expected c.if-not-is_expected.false in
    let is_number : number_of cell ≡ number = sym c.circuit_number-found.ensures ∙ met.1 in
    let is-relay : cell_command_of cell ≡ 3 = met.0 in
    let whole = eq-eqb (length cell) 514 size in
    let relay = eq-eqb (cell_command_of cell) 3 is-relay in
    let same = eq-eqb (number_of cell) number is_number in (
      rw (whole, relay, same) refl,
      c.circuit_number-found.ensures,
      refl,
      rest,
      ap length rest ∙ left,
      ap (framed number) rest ∙ framed-read number cell (omega arith) (omega arith) (omega arith) (omega arith) is-relay is_number,
    )
