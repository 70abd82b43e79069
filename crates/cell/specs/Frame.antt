-- A cell: 514 bytes, the circuit number in four, the cell command, and the payload.
use Rattle.std.specs.Prelude.{ℕ, ◌+◌, ◌*◌, ◌/◌, ◌%◌, List, [], ◌∷◌, ◌++◌, drop, slice_index}

-- the one cell command, RELAY
abbrev pub relay_cell : ℕ
relay_cell = 3

-- the circuit number on both links j
unfoldable pub cell_number : ℕ → ℕ
cell_number j = 0x8000_0000 + j

abbrev pub four_bytes : ℕ → List ℕ
four_bytes n = n / 0x100_0000 ∷ n / 0x1_0000 % 256 ∷ n / 256 % 256 ∷ n % 256 ∷ []

unfoldable pub framed : ℕ → List ℕ → List ℕ
framed number p = four_bytes number ++ (relay_cell ∷ p)

unfoldable pub number_of : List ℕ → ℕ
number_of cell = ((slice_index cell 0 * 256 + slice_index cell 1) * 256 + slice_index cell 2) * 256 + slice_index cell 3

unfoldable pub cell_command_of : List ℕ → ℕ
cell_command_of cell = slice_index cell 4

unfoldable pub payload_of : List ℕ → List ℕ
payload_of cell = drop 5 cell
