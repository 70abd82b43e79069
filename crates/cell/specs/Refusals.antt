-- Which refusal comes first, where several would fit.
use Rattle.std.specs.Prelude.{ℕ, cond, ◌&&◌, List, length, Some, None, Option, ◌==◌, nat_le}
use Rattle.cell.specs.declared.error.CellError.{CellError}
use Rattle.cell.specs.declared.error.CellError.TheVariants.{Length, Header, TooLong}
use Rattle.cell.specs.Payload.{length_of}
use Rattle.cell.specs.Frame.{relay_cell, number_of, cell_command_of}

-- a cell where one of this circuit number is expected
abbrev pub cell_refusal : ℕ → List ℕ → Option CellError
cell_refusal number cell =
    cond (length cell == 514)
    (cond (cell_command_of cell == relay_cell && number_of cell == number) None (Some Header))
    (Some Length)

-- data to be written into a payload
abbrev pub write_refusal : List ℕ → List ℕ → Option CellError
write_refusal payload content =
    cond (length payload == 509) (cond (nat_le (length content) 498) None (Some TooLong)) (Some Length)

-- the data of a payload, read by its length field
abbrev pub data_refusal : List ℕ → Option CellError
data_refusal payload =
    cond (length payload == 509) (cond (nat_le (length_of payload) 498) None (Some TooLong)) (Some Length)

-- bytes where those of a size are expected
abbrev pub size_refusal : ℕ → List ℕ → Option CellError
size_refusal size bytes = cond (length bytes == size) None (Some Length)
