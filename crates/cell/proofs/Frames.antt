-- The laws of a cell's frame. Crates above read these laws too, so not all of them are cited here.
use Rattle.std.proofs.Common.{◌≡◌, ℕ, ◌+◌, ◌/◌, ◌%◌, ◌<◌, ◌≤◌, List, [], ◌∷◌, length, get_or, refl, arith}
use Rattle.cell.specs.Frame.{relay_cell, framed, number_of, cell_command_of, payload_of}

pub length-framed : (number : ℕ) (p : List ℕ) → length (framed number p) ≡ length p + 5
unfolding framed
length-framed number p = omega arith

pub number-framed : (number : ℕ) (p : List ℕ) → number_of (framed number p) ≡ number
unfolding framed number_of
number-framed number p = omega arith

pub cell-command-framed : (number : ℕ) (p : List ℕ) → cell_command_of (framed number p) ≡ relay_cell
unfolding framed cell_command_of
cell-command-framed number p = refl

pub payload-framed : (number : ℕ) (p : List ℕ) → payload_of (framed number p) ≡ p
unfolding framed payload_of
payload-framed number p = refl

-- writing undoes reading, for bytes
pub framed-read : (number : ℕ) (cell : List ℕ) → 5 ≤ length cell → get_or cell 1 0 < 256 → get_or cell 2 0 < 256 → get_or cell 3 0 < 256 → cell_command_of cell ≡ relay_cell → number_of cell ≡ number → framed number (payload_of cell) ≡ cell
unfolding framed number_of cell_command_of payload_of
framed-read number [] le b-byte c-byte d-byte is at = absurd (omega arith)
framed-read number (a ∷ []) le b-byte c-byte d-byte is at = absurd (omega arith)
framed-read number (a ∷ b ∷ []) le b-byte c-byte d-byte is at = absurd (omega arith)
framed-read number (a ∷ b ∷ c ∷ []) le b-byte c-byte d-byte is at = absurd (omega arith)
framed-read number (a ∷ b ∷ c ∷ d ∷ []) le b-byte c-byte d-byte is at = absurd (omega arith)
framed-read number (a ∷ b ∷ c ∷ d ∷ e ∷ p) le b-byte c-byte d-byte is at =
    let a-is : number / 0x100_0000 ≡ a = omega arith in
    let b-is : number / 0x1_0000 % 256 ≡ b = omega arith in
    let c-is : number / 256 % 256 ≡ c = omega arith in
    let d-is : number % 256 ≡ d = omega arith in
    cc
